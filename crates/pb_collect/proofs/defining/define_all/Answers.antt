use Rattle.std.proofs.Common.{◌≡◌, ◌++◌, ◌∷◌, [], List, ℕ, ◌<◌, ◌+◌, Bor, Option, None, Some, length, refl, sym, ◌∙◌, ap, subst, add-one, append_assoc, append-nil, arith}
use Rattle.std.specs.Prelude.{slice_get, option_copied}
use Rattle.std.specs.Option.{IsSome}
use Rattle.std.proofs.lemmas.Option.{none-some}
use Rattle.pb_tdf.specs.Numbering.{numbered}
use Rattle.pb_tdf.specs.View.{TableView}
use Rattle.pb_archive.specs.Plan.{Plan}
use Rattle.pb_archive.specs.Opened.{Register, register_of}
use Rattle.pb_collect.specs.Defining.{TableCame, TablesCame}
use Rattle.pb_collect.specs.declared.report.DefsLine.{DefsLine as Line}
use Rattle.pb_collect.proofs.AddingLemmas.{disk_none, disk_trans}
use Rattle.pb_collect.proofs.DefiningLemmas.{came_plan}
use Rattle.pb_collect.proofs.RequestLemmas.{get_there, goes_start, goes_trans}
use Rattle.pb_collect.proofs.defining.define_all.Goals as goal

some_there : {A : Type 0} (r : Option (Bor A)) (x : A) → option_copied r ≡ Some x → IsSome r
some_there None x is = absurd (none-some x is)
some_there (Some b) x is = refl

table_there : (r : Option (Bor TableView)) (tables : List TableView) (n : ℕ) → option_copied r ≡ numbered tables (n + 1) → n < length tables → IsSome r
table_there r tables n is below =
    let x = get_there tables n below in
    some_there r x.0 (is ∙ ap (numbered tables) (add-one n) ∙ x.1)

table_at : (r : Option (Bor TableView)) (b : Bor TableView) (tables : List TableView) (n : ℕ) → option_copied r ≡ numbered tables (n + 1) → r ≡ Some b → slice_get tables n ≡ Some b.now
table_at r b tables n is some = sym (ap (numbered tables) (add-one n)) ∙ sym is ∙ ap option_copied some

next_came : (station : ℕ) (tables : List TableView) (n : ℕ) (t : TableView) (before mid after : Register) (old now new : List Line)
    → ((lines : List Line) × (now ≡ old ++ lines) × TablesCame station tables n lines before mid) → slice_get tables n ≡ Some t
    → ((line : Line) × (new ≡ now ++ line ∷ []) × TableCame station (n + 1) t line mid after)
    → (lines : List Line) × (new ≡ old ++ lines) × TablesCame station tables (n + 1) lines before after
next_came station tables n t before mid after old now new came there next = (
  came.0 ++ next.0 ∷ [],
  next.1 ∙ ap (λ l. l ++ next.0 ∷ []) came.1 ∙ append_assoc old came.0 (next.0 ∷ []),
  subst (λ k. TablesCame station tables k (came.0 ++ next.0 ∷ []) before after) (sym (add-one n))
      (came.0, next.0, t, mid, refl, came.2, there, subst (λ k. TableCame station k t next.0 mid after) (add-one n) next.2),
)

pub loop-n-init : goal.loop-n-init
loop-n-init g c = record {
  there = c.requires.there;
  came = ([], sym (append-nil c.args.report.now.lines), (refl, refl));
  goes = goes_start c.args.archive.now (g.D.Disk.view c.args.disk.now) c.requires.usable c.requires.opened;
  keeps = disk_none c.args.archive.now (g.D.Disk.view c.args.disk.now) (g.met.D.Disk.lawful c.args.disk.now) c.requires.opened;
}

pub unwrap-table-requires : goal.unwrap-table-requires
unwrap-table-requires g c = table_there c.table.result c.args.definitions.now c.loop-n.n c.table.ensures (omega (arith, c.loop-n-test.true, c.count-n-end.ensures))

pub returns-in-Err-clause-keeps : goal.returns-in-Err-clause-keeps
returns-in-Err-clause-keeps g c =
    disk_trans c.loop-n.archive c.define.new.archive (g.D.Disk.view c.args.disk.now) (g.D.Disk.view c.loop-n.disk) (g.D.Disk.view c.define.new.disk) (g.met.D.Disk.lawful c.loop-n.disk) c.loop-n.invariant.keeps c.define.ensures.keeps

pub loop-n-preserved : goal.loop-n-preserved
loop-n-preserved g c =
    let inv = c.loop-n.invariant in
    record {
      there = subst (λ (p : Plan). c.args.station < length p.stations) (sym (came_plan c.args.station (c.loop-n.n + 1) c.unwrap-table.result.now (c.in-Ok.ensures.came.0) (register_of c.loop-n.archive) (register_of c.define.new.archive) c.in-Ok.ensures.came.2)) inv.there;
      came = next_came c.args.station c.args.definitions.now c.loop-n.n c.unwrap-table.result.now (register_of c.args.archive.now) (register_of c.loop-n.archive) (register_of c.define.new.archive)
          c.args.report.now.lines c.loop-n.report.lines c.define.new.report.lines inv.came
          (table_at c.table.result c.unwrap-table.result c.args.definitions.now c.loop-n.n c.table.ensures c.unwrap-table.ensures) c.in-Ok.ensures.came;
      goes = goes_trans c.loop-n.archive c.define.new.archive (g.D.Disk.view c.args.disk.now) (g.D.Disk.view c.loop-n.disk) (g.D.Disk.view c.define.new.disk) inv.goes c.in-Ok.ensures.ends;
      keeps = disk_trans c.loop-n.archive c.define.new.archive (g.D.Disk.view c.args.disk.now) (g.D.Disk.view c.loop-n.disk) (g.D.Disk.view c.define.new.disk) (g.met.D.Disk.lawful c.loop-n.disk) inv.keeps c.define.ensures.keeps;
    }
