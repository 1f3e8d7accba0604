use Rattle.std.proofs.Common.{Ok, Err, sym, subst}
use Rattle.std.specs.Option.{ForSome}
use Rattle.pb_archive.specs.Opened.{Register}
use Rattle.pb_collect.proofs.KeptLemmas.{all_collect_on, keeps_opened, keeps_trans}
use Rattle.pb_tool.specs.Check.{IsKeptOf}
use Rattle.pb_collect.specs.Complete.{Completes}
use Rattle.pb_tool.specs.Collect.{Came, answer_text, budget_of}
use Rattle.pb_tool.proofs.CheckLemmas.{means_of}
use Rattle.pb_tool.proofs.CollectLemmas.{came_after, complete_after}
use Rattle.pb_tool.proofs.collect.print.Goals as goal

pub returns-in-Ok-clause-ran : goal.returns-in-Ok-clause-ran
unfolding answer_text
returns-in-Ok-clause-ran g c =
    let old = g.S.Disk.view c.args.site.now in
    let mid = g.S.Disk.view c.open.new.site in
    let new = g.S.Disk.view c.round.new.site in
    let archive = c.in-Ok.collector.archive in
    let ran = c.round.ensures.ran in
    let opened = c.in-Ok.ensures.opened in
    let came = came_after c.budget_of-budget.result ran.round old mid new c.open.ensures.link ran.came in
    record {
      answer = Ok ran.round;
      means = record {
        kept = subst (λ (r : Register). ForSome old.file (IsKeptOf r)) (sym ran.is) (means_of (Ok archive) old.file mid c.in-Ok.ensures.same opened tt);
        came = subst (λ n. Came n ran.round old new) c.budget_of-budget.ensures.budget came;
        goes_on = all_collect_on old.file mid new (g.met.S.Disk.lawful c.round.new.site) c.in-Ok.ensures.same opened.settled c.round.ensures.keeps;
        complete = complete_after ran.round.result (budget_of c.args.budget) ran.round.before ran.round.outcomes old mid new (g.met.S.Disk.lawful c.open.new.site) c.open.ensures.link
            c.in-Ok.ensures.same c.open.ensures.cause.later
            (keeps_opened old mid (g.met.S.Disk.lawful c.open.new.site) c.open.ensures.leaves c.open.ensures.link) c.round.ensures.keeps
            (subst (λ n. Completes ran.round.result n ran.round.before ran.round.outcomes mid new) c.budget_of-budget.ensures.budget ran.complete);
      };
      printed = ran.printed;
    }

pub returns-in-Err-clause-ran : goal.returns-in-Err-clause-ran
unfolding answer_text
returns-in-Err-clause-ran g c = record { answer = Err c.in-Err.fault; means = (c.in-Err.ensures.refused, c.open.ensures.link); printed = c.refuse.ensures.closed }

pub returns-in-Ok-clause-keeps : goal.returns-in-Ok-clause-keeps
returns-in-Ok-clause-keeps g c =
    let old = g.S.Disk.view c.args.site.now in
    let mid = g.S.Disk.view c.open.new.site in
    keeps_trans old mid (g.S.Disk.view c.round.new.site) (g.met.S.Disk.lawful c.open.new.site)
    (keeps_opened old mid (g.met.S.Disk.lawful c.open.new.site) c.open.ensures.leaves c.open.ensures.link) c.round.ensures.keeps

pub returns-in-Err-clause-keeps : goal.returns-in-Err-clause-keeps
returns-in-Err-clause-keeps g c =
    keeps_opened (g.S.Disk.view c.args.site.now) (g.S.Disk.view c.open.new.site) (g.met.S.Disk.lawful c.open.new.site) c.open.ensures.leaves c.open.ensures.link
