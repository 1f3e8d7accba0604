use Rattle.std.proofs.Common.{◌≡◌, List, Some, length, refl, sym, ◌∙◌, ap, subst, arith}
use Rattle.pb_base.specs.declared.numbers.TableId.{TableId}
use Rattle.std.specs.Prelude.{slice_get}
use Rattle.pb_archive.specs.Opened.{register_of}
use Rattle.pb_archive.specs.Plan.{Plan}
use Rattle.pb_archive.specs.declared.held.Held.{Held}
use Rattle.pb_collect.specs.Changing.{ChangesOnly}
use Rattle.pb_collect.specs.Round.{AllEnd, AreInOrder}
use Rattle.pb_collect.specs.Tables.{BreaksOff, CameOut, channel}
use Rattle.pb_collect.specs.declared.outcome.Outcome.{Outcome}
use Rattle.pb_collect.proofs.KeptLemmas.{keeps_none, keeps_trans}
use Rattle.pb_collect.proofs.RequestLemmas.{get_there, goes_start, goes_trans}
use Rattle.pb_collect.proofs.RoundLemmas.{Reached, all_push, ends_next, fronts_later, fronts_now, length-pushed, listens_new, order_push, reached_all, reached_begun, reached_next, reached_none}
use Rattle.pb_collect.proofs.collector.collect_tables.Goals as goal

pub tables-init : goal.tables-init
tables-init g c =
    let none = c.requires.none in
    let now = g.S.Disk.view c.args.site.now in
    record {
      room = c.requires.room;
      few = omega (arith, ap (λ (l : List Outcome). length l) none);
      within = omega (arith, ap (λ (l : List Outcome). length l) none);
      order = subst (λ (l : List Outcome). AreInOrder 0 l) (sym none) tt;
      reached = reached_none c.args.outcomes.now.items (register_of c.args.archive.now) none;
      asks = subst (λ (l : List Outcome). AllEnd c.args.limits (register_of c.args.archive.now) l (channel c.new-listener.result now.link) (channel c.new-listener.result now.link)) (sym none) refl;
      goes = goes_start c.args.archive.now now c.requires.usable c.requires.opened;
      listens = listens_new c.new-listener.result now.link c.new-listener.ensures.nothing c.new-listener.ensures.stands;
      keeps = keeps_none now (g.met.S.Disk.lawful c.args.site.now);
      count = omega (arith, c.new-listener.ensures.count);
    }

pub tables-preserved : goal.tables-preserved
tables-preserved g c =
    let old = g.S.Disk.view c.args.site.now in
    let now = g.S.Disk.view c.tables.site in
    let new = g.S.Disk.view c.collect_table.new.site in
    let inv = c.tables.invariant in
    let e = c.in-Ok.ensures in
    let items = c.push_reserved.ensures.items in
    let more = length-pushed c.tables.outcomes.items c.push_reserved.new.self.items c.in-Ok.outcome items in
    let at = c.len-in-tables.ensures in
    let os = c.tables.outcomes.items in
    let o = c.in-Ok.outcome in
    let place : c.len-in-tables.result ≡ length os = omega (arith, at, c.tables.outcomes.ok.0) in
    let first = register_of c.args.archive.now in
    let before = register_of c.tables.archive in
    let after = register_of c.collect_table.new.archive in
    let came : (x y : Held) → slice_get before.tables (length os) ≡ Some x → slice_get after.tables (length os) ≡ Some y → CameOut (length os) x y o = λ x y was then.
    subst (λ n. CameOut n x y o) place (e.came x y (subst (λ n. slice_get before.tables n ≡ Some x) (sym place) was) (subst (λ n. slice_get after.tables n ≡ Some y) (sym place) then)) in
    let from = channel c.new-listener.result old.link in
    let mid = channel c.tables.listener now.link in
    let to = channel c.collect_table.new.listener new.link in
    let ends = ends_next c.args.limits os first before o mid to inv.reached (omega (arith, ap (λ (i : TableId). i.0) e.table, place)) (omega (arith, inv.reached.count, e.there, place, c.collect_table.ensures.changes.count))
    (λ held there. e.ends held (subst (λ n. slice_get before.tables n ≡ Some held) (sym place) there)) in
    record {
      room = omega (arith, inv.room, c.push_reserved.ensures.capacity);
      few = omega (arith, more, at, c.tables.outcomes.ok.0, c.tables-test.true, c.len.ensures, c.from.ensures, c.tables-in-tables.ensures.count, c.tables-in-tables.ensures.few, inv.few);
      within = omega (arith, more, at, c.tables.outcomes.ok.0, e.there);
      order = subst (λ (l : List Outcome). AreInOrder 0 l) (sym items) (order_push 0 c.tables.outcomes.items c.in-Ok.outcome inv.order (omega (arith, ap (λ (i : TableId). i.0) e.table, at, c.tables.outcomes.ok.0)));
      reached = subst (λ (l : List Outcome). Reached l first after) (sym items)
          (reached_next os first before after inv.reached (subst (λ n. ChangesOnly n before after) place c.collect_table.ensures.changes) o came);
      asks = subst (λ (l : List Outcome). AllEnd c.args.limits first l from to) (sym items) (all_push c.args.limits first os o from mid to inv.asks ends);
      goes = goes_trans c.tables.archive c.collect_table.new.archive old now new inv.goes e.goes;
      listens = e.listens;
      keeps = keeps_trans old now new (g.met.S.Disk.lawful c.tables.site) inv.keeps c.collect_table.ensures.keeps;
      count = omega (arith, more, inv.count, e.count);
    }

pub returns-in-Err-clause-keeps : goal.returns-in-Err-clause-keeps
returns-in-Err-clause-keeps g c =
    keeps_trans (g.S.Disk.view c.args.site.now) (g.S.Disk.view c.tables.site) (g.S.Disk.view c.collect_table.new.site) (g.met.S.Disk.lawful c.tables.site) c.tables.invariant.keeps c.collect_table.ensures.keeps

pub returns-in-Err-clause-reaches : goal.returns-in-Err-clause-reaches
returns-in-Err-clause-reaches g c =
    let os = c.tables.outcomes.items in
    let place : c.len-in-tables.result ≡ length os = omega (arith, c.len-in-tables.ensures, c.tables.outcomes.ok.0) in
    let before = register_of c.tables.archive in
    let after = register_of c.collect_table.new.archive in
    reached_begun os (register_of c.args.archive.now) before after c.tables.invariant.reached (subst (λ n. ChangesOnly n before after) place c.collect_table.ensures.changes)

pub returns-in-Err-clause-fronts : goal.returns-in-Err-clause-fronts
returns-in-Err-clause-fronts g c =
    let inv = c.tables.invariant in
    let os = c.tables.outcomes.items in
    let first = register_of c.args.archive.now in
    let now = g.S.Disk.view c.tables.site in
    fronts_later os now (g.S.Disk.view c.collect_table.new.site) (g.met.S.Disk.lawful c.collect_table.new.site) c.collect_table.ensures.keeps.leaves
    (fronts_now os first c.tables.archive now (omega (arith, inv.within, inv.reached.count)) inv.goes.opened (reached_all os first (register_of c.tables.archive) inv.reached))

pub returns-clause-reaches : goal.returns-clause-reaches
returns-clause-reaches g c = reached_all c.tables.outcomes.items (register_of c.args.archive.now) (register_of c.tables.archive) c.tables.invariant.reached

pub returns-clause-asks : goal.returns-clause-asks
returns-clause-asks g c = record {
  first = c.new-listener.result;
  quiet = c.new-listener.ensures.nothing;
  fresh = c.new-listener.ensures.stands;
  last = c.tables.listener;
  all = c.tables.invariant.asks;
}

pub returns-clause-fronts : goal.returns-clause-fronts
returns-clause-fronts g c =
    let inv = c.tables.invariant in
    let os = c.tables.outcomes.items in
    let first = register_of c.args.archive.now in
    fronts_now os first c.tables.archive (g.S.Disk.view c.tables.site) (omega (arith, inv.within, inv.reached.count)) inv.goes.opened (reached_all os first (register_of c.tables.archive) inv.reached)

pub returns-in-Err-clause-short : goal.returns-in-Err-clause-short
returns-in-Err-clause-short g c =
    omega (arith, c.tables-test.true, c.len.ensures, c.from.ensures, c.tables.outcomes.ok.0, c.collect_table.ensures.changes.count)

pub returns-in-Err-clause-breaks : goal.returns-in-Err-clause-breaks
returns-in-Err-clause-breaks g c =
    let inv = c.tables.invariant in
    let os = c.tables.outcomes.items in
    let place : c.len-in-tables.result ≡ length os = omega (arith, c.len-in-tables.ensures, c.tables.outcomes.ok.0) in
    let first = register_of c.args.archive.now in
    let before = register_of c.tables.archive in
    let last = channel c.tables.listener (g.S.Disk.view c.tables.site).link in
    let held = get_there first.tables (length os) (omega (arith, c.tables-test.true, c.len.ensures, c.from.ensures, c.tables.outcomes.ok.0, inv.reached.count)) in
    let here : slice_get before.tables c.len-in-tables.result ≡ Some held.0 = subst (λ n. slice_get before.tables n ≡ Some held.0) (sym place) (inv.reached.later (length os) (omega arith) ∙ held.1) in
    record {
      first = c.new-listener.result;
      quiet = c.new-listener.ensures.nothing;
      fresh = c.new-listener.ensures.stands;
      last = last;
      all = inv.asks;
      held = held.0;
      there = held.1;
      breaks = subst (λ (p : Plan). BreaksOff c.in-Err.broken c.args.limits p held.0 last (g.S.Disk.view c.collect_table.new.site).link) inv.reached.plan (c.in-Err.ensures.breaks held.0 here);
    }
