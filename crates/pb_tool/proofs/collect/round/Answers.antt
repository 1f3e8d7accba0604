use Rattle.std.proofs.Common.{List, length, refl, sym, subst}
use Rattle.pb_archive.specs.Opened.{register_of}
use Rattle.pb_collect.specs.Round.{AreInOrder}
use Rattle.pb_collect.specs.declared.outcome.Outcome.{Outcome}
use Rattle.pb_io.proofs.PageLemmas.{Adds-two}
use Rattle.pb_tool.specs.declared.status.Status.{Status}
use Rattle.pb_tool.specs.Closing.{Closes, Finished}
use Rattle.pb_tool.specs.Collect.{Round, round_text}
use Rattle.pb_tool.proofs.ClosingLemmas.{Closes-finished}
use Rattle.pb_tool.proofs.CollectLemmas.{disk_counts, ended_within, link_counts}
use Rattle.pb_tool.proofs.collect.round.Goals as goal

pub push_report-requires-clause-order : goal.push_report-requires-clause-order
push_report-requires-clause-order g c = subst (λ (l : List Outcome). AreInOrder 0 l) (sym c.outcomes.ensures) c.round-result.ensures.order

pub push_report-requires-clause-there : goal.push_report-requires-clause-there
push_report-requires-clause-there g c =
    simp (c.outcomes.ensures, c.archive.ensures)
    (ended_within c.round-result.result c.round-result.new.self.outcomes (length c.round-result.new.self.archive.tables) c.round-result.ensures.result)

pub returns-clause-ran : goal.returns-clause-ran
returns-clause-ran g c =
    let e = c.round-result.ensures in
    let r : Round = record {
      result = c.round-result.result;
      before = register_of c.args.collector.now.archive;
      after = register_of c.round-result.new.self.archive;
      outcomes = c.round-result.new.self.outcomes;
    } in
    let adds = Adds-two _ _ (round_text r) _ _ _ (simp (c.outcomes.ensures, c.archive.ensures) refl) c.push_report.ensures c.push_fault.ensures in
    let closes = Closes-finished _ _ (round_text r) c.new-page.result c.push_fault.new.page c.finish.new.page _ _ _ c.new-page.ensures adds c.finish.ensures.adds c.finish.ensures.closed in
    record {
      round = r;
      is = refl;
      came = record { result = e.result; order = e.order; reaches = e.reaches; asks = e.asks; fronts = e.fronts };
      complete = e.complete;
      printed = subst (λ (s : Status). Closes s c.finish.result (round_text r) (g.O.Sink.written c.args.out.now) (g.O.Sink.written c.finish.new.out)) c.status_of.ensures closes;
    }

pub returns-clause-disk : goal.returns-clause-disk
returns-clause-disk g c =
    disk_counts c.round-result.result c.finish.result _ _ c.finish.new.page c.round-result.ensures.counts
    (subst (λ (s : Status). Finished s c.finish.result c.finish.new.page) c.status_of.ensures c.finish.ensures.closed)

pub returns-clause-link : goal.returns-clause-link
returns-clause-link g c =
    link_counts c.round-result.result c.finish.result _ _ c.finish.new.page c.round-result.ensures.counts
    (subst (λ (s : Status). Finished s c.finish.result c.finish.new.page) c.status_of.ensures c.finish.ensures.closed)
