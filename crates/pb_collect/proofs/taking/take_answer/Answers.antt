use Rattle.std.proofs.Common.{◌≡◌, ◌≤◌, ◌∷◌, List, refl, sym, ◌∙◌, ap, subst, rules}
use Rattle.pb_base.specs.Record.{content_len}
use Rattle.pb_base.specs.declared.layout.Layout.{Layout}
use Rattle.pb_bmp5.specs.CollectReply.{SeenFragment, seen_of}
use Rattle.pb_archive.specs.Entry.{advance_bytes_max}
use Rattle.pb_archive.specs.Opened.{register_of}
use Rattle.pb_collect.specs.Kept.{KnowsTrue}
use Rattle.pb_collect.specs.Progress.{Progress, CanTakeAll, after_all, partial_bytes}
use Rattle.pb_collect.specs.Taking.{AreBrief}
use Rattle.pb_collect.proofs.ChangingLemmas.{changes_none, changes_trans}
use Rattle.pb_collect.proofs.KeptLemmas.{where_none, where_trans}
use Rattle.pb_collect.proofs.TakingLemmas.{after_layout}
use Rattle.pb_collect.proofs.taking.take_answer.Goals as goal

pub loop-fragment-init : goal.loop-fragment-init
loop-fragment-init g c =
    let is : c.into_iter-fragment-iterator.result ≡ c.args.fragments = search rules in
    let id = c.args.id.0 in
    let disk = g.D.Disk.view c.args.disk.now in
    let part = partial_bytes c.args.progress.now in
    record {
      can = subst (λ (l : List SeenFragment). CanTakeAll c.args.progress.now l) (sym is) c.requires.can;
      brief = subst (λ (l : List SeenFragment). AreBrief l) (sym is) c.requires.brief;
      small = c.requires.small;
      ready = c.requires.ready;
      opened = c.requires.opened;
      usable = c.requires.usable;
      after = ap (λ (l : List SeenFragment). after_all c.args.progress.now l) is;
      changes = changes_none id (register_of c.args.archive.now) (register_of c.args.archive.now) refl;
      keeps = where_none (KnowsTrue disk id part c.args.fragments) disk (g.met.D.Disk.lawful c.args.disk.now);
      knows = λ knows. subst (λ (l : List SeenFragment). KnowsTrue disk id part l) (sym is) knows;
      link = refl;
      faults = refl;
    }

pub loop-fragment-preserved : goal.loop-fragment-preserved
loop-fragment-preserved g c =
    let id = c.args.id.0 in
    let old = g.D.Disk.view c.args.disk.now in
    let now = g.D.Disk.view c.loop-fragment.disk in
    let new = g.D.Disk.view c.take_fragment.new.disk in
    let p = c.loop-fragment.progress in
    let f = seen_of c.in-Some.fragment in
    let inv = c.loop-fragment.invariant in
    let step = c.in-Some.ensures.steps in
    let can = subst (λ (l : List SeenFragment). CanTakeAll p l) step inv.can in
    let brief = subst (λ (l : List SeenFragment). AreBrief l) step inv.brief in
    let is = c.take_fragment.ensures.progress in
    let all = KnowsTrue old id (partial_bytes c.args.progress.now) c.args.fragments in
    let here : all → KnowsTrue now id (partial_bytes p) (f ∷ c.next.new.self) = λ knows. subst (λ (l : List SeenFragment). KnowsTrue now id (partial_bytes p) l) step (inv.knows knows) in
    record {
      can = subst (λ (q : Progress). CanTakeAll q c.next.new.self) (sym is) can.1;
      brief = brief.1;
      small = subst (λ (l : Layout). content_len l ≤ advance_bytes_max) (sym (ap (λ (q : Progress). q.layout) is ∙ after_layout p f)) inv.small;
      ready = c.in_ok-take_fragment.ensures.ready;
      opened = c.in_ok-take_fragment.ensures.opened;
      usable = c.in_ok-take_fragment.ensures.usable;
      after = ap (λ (q : Progress). after_all q c.next.new.self) is ∙ ap (λ (l : List SeenFragment). after_all p l) (sym step) ∙ inv.after;
      changes = changes_trans id (register_of c.args.archive.now) (register_of c.loop-fragment.archive) (register_of c.take_fragment.new.archive) inv.changes c.take_fragment.ensures.changes;
      keeps = where_trans all (KnowsTrue now id (partial_bytes p) (f ∷ c.next.new.self)) old now new (g.met.D.Disk.lawful c.loop-fragment.disk) here inv.keeps (c.take_fragment.ensures.keeps c.next.new.self);
      knows = λ knows. c.in_ok-take_fragment.ensures.knows c.next.new.self (here knows);
      link = c.take_fragment.ensures.link ∙ inv.link;
      faults = c.in_ok-take_fragment.ensures.cause.kept (search rules) ∙ inv.faults;
    }

pub returns-in_err-take_fragment-clause-keeps : goal.returns-in_err-take_fragment-clause-keeps
returns-in_err-take_fragment-clause-keeps g c =
    let id = c.args.id.0 in
    let old = g.D.Disk.view c.args.disk.now in
    let now = g.D.Disk.view c.loop-fragment.disk in
    let new = g.D.Disk.view c.take_fragment.new.disk in
    let p = c.loop-fragment.progress in
    let f = seen_of c.in-Some.fragment in
    let inv = c.loop-fragment.invariant in
    let step = c.in-Some.ensures.steps in
    let all = KnowsTrue old id (partial_bytes c.args.progress.now) c.args.fragments in
    let here : all → KnowsTrue now id (partial_bytes p) (f ∷ c.next.new.self) = λ knows. subst (λ (l : List SeenFragment). KnowsTrue now id (partial_bytes p) l) step (inv.knows knows) in
    where_trans all (KnowsTrue now id (partial_bytes p) (f ∷ c.next.new.self)) old now new (g.met.D.Disk.lawful c.loop-fragment.disk) here inv.keeps (c.take_fragment.ensures.keeps c.next.new.self)

pub returns-clause-knows : goal.returns-clause-knows
returns-clause-knows g c =
    let id = c.args.id.0 in
    let now = g.D.Disk.view c.loop-fragment.disk in
    let p = c.loop-fragment.progress in
    let inv = c.loop-fragment.invariant in
    λ knows. subst (λ (l : List SeenFragment). KnowsTrue now id (partial_bytes p) l) c.in-None.ensures.steps.0 (inv.knows knows)

pub returns-in_err-take_fragment-clause-changes : goal.returns-in_err-take_fragment-clause-changes
returns-in_err-take_fragment-clause-changes g c =
    changes_trans c.args.id.0 (register_of c.args.archive.now) (register_of c.loop-fragment.archive) (register_of c.take_fragment.new.archive) c.loop-fragment.invariant.changes c.take_fragment.ensures.changes
