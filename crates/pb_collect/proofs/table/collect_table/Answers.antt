use Rattle.std.proofs.Common.{◌≡◌, ℕ, inl, inr, refl, sym, ◌∙◌, ap, subst, arith}
use Rattle.std.proofs.lemmas.Option.{same_Some}
use Rattle.pb_archive.specs.Opened.{register_of}
use Rattle.pb_archive.specs.declared.held.Held.{Held}
use Rattle.pb_collect.specs.Ends.{asked_once_more}
use Rattle.pb_collect.specs.Progress.{Progress}
use Rattle.pb_collect.specs.Tables.{BreaksFrom, EndedBy, channel, point, start_of}
use Rattle.pb_collect.specs.declared.ending.End.TheVariants.{Redefined}
use Rattle.pb_collect.proofs.ChangingLemmas.{changes_none, same_as}
use Rattle.pb_collect.proofs.RequestLemmas.{get_there, ready_begun}
use Rattle.pb_collect.proofs.table.collect_table.Goals as goal

pub end_of_table-requires-clause-ready : goal.end_of_table-requires-clause-ready
end_of_table-requires-clause-ready g c =
    ready_begun c.args.archive.now c.args.id.0 c.args.progress.now c.begin.new.self c.layout_of.result c.state_of-before.result c.requires.there c.in-None.is
    c.state_of-before.ensures c.layout_of.ensures.layout c.begin.ensures

pub end_of_table-requires-clause-signature : goal.end_of_table-requires-clause-signature
end_of_table-requires-clause-signature g c held there = (c.state_of-before.ensures held there).signature

pub returns-in-Ok-clause-came : goal.returns-in-Ok-clause-came
returns-in-Ok-clause-came g c before after was now =
    let b = c.state_of-before.ensures before was in
    let a = c.state_of-after.ensures after now in
    let e = c.in-Ok.ensures in
    record {
      table = refl;
      goes_on = c.end_of_table.ensures.changes.here before after was now;
      from = b.front;
      to = a.front;
      gaps = omega (arith, c.saturating_sub.ensures, a.gaps, b.gaps);
      stopped = e.stopped after now;
    }

pub returns-in-Ok-clause-ends : goal.returns-in-Ok-clause-ends
returns-in-Ok-clause-ends g c held there =
    let b = c.state_of-before.ensures held there in
    let e = c.in-Ok.ensures in
    let after = get_there c.end_of_table.new.archive.tables c.args.id.0 e.there in
    let from = channel c.args.listener.now (g.S.Disk.view c.args.site.now).link in
    let to = point c.end_of_table.new.listener (g.S.Disk.view c.end_of_table.new.site).link c.end_of_table.new.progress in
    let limits = c.args.limits in
    let plan = c.args.archive.now.plan in
    inr (record {
      going_on = sym b.stop ∙ c.in-None.is;
      layout = c.layout_of.result;
      has_layout = c.layout_of.ensures.layout held there;
      idle = c.args.progress.now;
      last = c.end_of_table.new.progress;
      ended = subst (λ (n : ℕ). EndedBy limits plan held n (start_of from c.args.progress.now c.layout_of.result held.front) c.in-Ok.end to) (sym c.asked.ensures)
          (subst (λ (n : ℕ). EndedBy limits plan held c.end_of_table.new.progress.asked (start_of from c.args.progress.now c.layout_of.result n) c.in-Ok.end to) b.front
          (subst (λ (p : Progress). EndedBy limits plan held c.end_of_table.new.progress.asked (record { channel = from; progress = asked_once_more p }) c.in-Ok.end to) c.begin.ensures (e.ended held there)));
      within = omega (arith, c.asked.ensures, e.asked.1);
      front = (c.state_of-after.ensures after.0 after.1).front ∙ e.front after.0 after.1;
    })

pub returns-in-Some-clause-came : goal.returns-in-Some-clause-came
returns-in-Some-clause-came g c before after was now =
    let b = c.state_of-before.ensures before was in
    let same : after ≡ before = same_Some after before (sym now ∙ was) in
    record {
      table = refl;
      goes_on = same_as before after same;
      from = b.front;
      to = b.front ∙ sym (ap (λ (h : Held). h.front) same);
      gaps = omega (arith, ap (λ (h : Held). h.gaps) same);
      stopped = ap (λ (h : Held). h.stop) same ∙ sym b.stop ∙ c.in-Some.is;
    }

pub returns-in-Some-clause-ends : goal.returns-in-Some-clause-ends
returns-in-Some-clause-ends g c held there =
    let b = c.state_of-before.ensures held there in
    inl (record {
      stop = c.in-Some.stop;
      stopped = sym b.stop ∙ c.in-Some.is;
      none = refl;
      end = ap (λ n. Redefined n c.in-Some.stop.told) b.signature;
      nothing = refl;
    })

pub returns-in-Some-clause-changes : goal.returns-in-Some-clause-changes
returns-in-Some-clause-changes g c = changes_none c.args.id.0 (register_of c.args.archive.now) (register_of c.args.archive.now) refl

pub returns-in-Err-clause-breaks : goal.returns-in-Err-clause-breaks
returns-in-Err-clause-breaks g c held there =
    let b = c.state_of-before.ensures held there in
    let from = channel c.args.listener.now (g.S.Disk.view c.args.site.now).link in
    let limits = c.args.limits in
    let plan = c.args.archive.now.plan in
    let link = (g.S.Disk.view c.end_of_table.new.site).link in
    record {
      going_on = sym b.stop ∙ c.in-None.is;
      layout = c.layout_of.result;
      has_layout = c.layout_of.ensures.layout held there;
      idle = c.args.progress.now;
      breaks = subst (λ (n : ℕ). BreaksFrom c.in-Err.broken limits plan held (start_of from c.args.progress.now c.layout_of.result n) link) b.front
          (subst (λ (p : Progress). BreaksFrom c.in-Err.broken limits plan held (record { channel = from; progress = asked_once_more p }) link) c.begin.ensures (c.in-Err.ensures.breaks held there));
    }
