use Rattle.pb_collect.proofs.HeardLemmas.{keeps_asked, asks_on, heard_by}
use Rattle.pb_collect.proofs.asking.ask.Goals as goal

pub returns-in_err-conclusion-clause-keeps : goal.returns-in_err-conclusion-clause-keeps
returns-in_err-conclusion-clause-keeps g c =
    keeps_asked c.args.command.now _ _ _ (g.met.S.Disk.lawful c.ask.new.site) c.asks_once.ensures c.requires.allowed c.ask.ensures.passes

pub returns-clause-listens : goal.returns-clause-listens
returns-clause-listens g c =
    asks_on c.args.command.now c.args.limits c.args.listener.now c.ask.new.self (g.S.Disk.view c.args.site.now).link (g.S.Disk.view c.ask.new.site).link c.in_ok-conclusion.conclusion c.in_ok-conclusion.ensures.asks c.requires.listens

pub returns-clause-heard : goal.returns-clause-heard
returns-clause-heard g c =
    heard_by c.args.command.now c.args.limits c.args.listener.now c.ask.new.self (g.S.Disk.view c.args.site.now).link (g.S.Disk.view c.ask.new.site).link c.in_ok-conclusion.conclusion c.in_ok-conclusion.ensures.asks c.requires.listens

pub returns-clause-keeps : goal.returns-clause-keeps
returns-clause-keeps g c =
    keeps_asked c.args.command.now _ _ _ (g.met.S.Disk.lawful c.ask.new.site) c.asks_once.ensures c.requires.allowed c.ask.ensures.passes
