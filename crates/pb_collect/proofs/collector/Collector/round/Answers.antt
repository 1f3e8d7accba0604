use Rattle.std.proofs.Common.{List, refl, ap, subst}
use Rattle.pb_frame.specs.Framing.{quoted}
use Rattle.pb_truth.proofs.StreamLemmas.{no_flag}
use Rattle.pb_archive.specs.Opened.{OpenArchive, register_of}
use Rattle.pb_collect.specs.Round.{Asks, Collecting, ComesTo}
use Rattle.pb_collect.specs.declared.outcome.Outcome.{Outcome}
use Rattle.pb_collect.proofs.AnsweredLemmas.{FramingLaws}
use Rattle.pb_collect.proofs.CompleteRoundLemmas.{round_complete}
use Rattle.pb_collect.proofs.RoundLemmas.{comes_done}
use Rattle.pb_collect.proofs.collector.Collector.round.Goals as goal

pub returns-in-Ok-clause-complete : goal.returns-in-Ok-clause-complete
returns-in-Ok-clause-complete g c = λ first last u.
    let framing : FramingLaws = record { unflagged = λ body. no_flag ((c.law_quoted.ensures.text body (quoted body)).1 refl); fits = c.law_limits.ensures.enough } in
    let os = c.collect_tables.new.outcomes.items in
    let asks = subst (λ (o : OpenArchive). Asks c.args.limits (register_of o) os (g.S.Disk.view c.args.site.now).link (g.S.Disk.view c.collect_tables.new.site).link)
    (ap (λ (x : Collecting). x.archive) c.self.view_is) c.in-Ok.ensures.asks in
    let all = round_complete framing c.args.limits c.requires.quiets c.args.self.now.archive (g.S.Disk.view c.args.site.now) (g.S.Disk.view c.collect_tables.new.site)
    (g.met.S.Disk.lawful c.args.site.now) c.requires.opened os c.collect_tables.ensures.order asks first last u.file u.before u.after u.known u.undisturbed u.good u.honest u.can in
    (comes_done c.came_to.result os (subst (λ (l : List Outcome). ComesTo c.came_to.result l) c.deref.ensures.value c.came_to.ensures) all.1, all.0)
