use Rattle.std.proofs.Common.{arith, sym, subst}
use Rattle.pb_io.specs.View.{Link}
use Rattle.pb_ask.specs.Asking.{Asks}
use Rattle.pb_collect.specs.Question.{wanted_reply}
use Rattle.pb_collect.proofs.AnswerLemmas.{allowed_in}
use Rattle.pb_collect.proofs.ExchangeLemmas.{keeps_exchange, knows_exchange, took_same, ready_comes, knows_comes}
use Rattle.pb_collect.proofs.exchanging.exchange.Goals as goal

pub ask-requires-clause-allowed : goal.ask-requires-clause-allowed
ask-requires-clause-allowed g c =
    allowed_in c.args.archive.now (g.S.Disk.view c.args.site.now) c.args.id.0 c.args.progress.now c.requires.opened c.requires.ready c.args.command.now c.requires.command

pub next-requires : goal.next-requires
next-requires g c =
    omega (arith, c.requires.budget, (took_same c.args.command.now c.ask.new.listener c.in-Ok.conclusion c.args.progress.now c.settle.new.progress c.in-Ok-settle.ensures.took).0)

pub returns-in-Ok-settle-clause-ready : goal.returns-in-Ok-settle-clause-ready
returns-in-Ok-settle-clause-ready g c =
    ready_comes c.settle.new.archive c.args.id.0 c.args.limits.budget c.settle.new.progress c.in-Ok.conclusion c.next.result c.next.new.self c.in-Ok-settle.ensures.ready c.next.ensures

pub returns-in-Ok-settle-clause-keeps : goal.returns-in-Ok-settle-clause-keeps
returns-in-Ok-settle-clause-keeps g c =
    keeps_exchange c.args.archive.now (g.S.Disk.view c.args.site.now) (g.S.Disk.view c.ask.new.site) c.args.id.0 c.args.progress.now c.args.command.now c.ask.new.listener
    c.requires.opened c.requires.ready c.requires.command c.ask.ensures.disk c.good_pieces_end_streams.ensures.ends c.ask.ensures.keeps
    (g.S.Disk.view c.settle.new.disk) c.in-Ok.conclusion (g.met.S.Disk.lawful c.ask.new.site) c.in-Ok.ensures.heard c.settle.ensures.keeps

pub returns-in-Ok-settle-clause-knows : goal.returns-in-Ok-settle-clause-knows
returns-in-Ok-settle-clause-knows g c knows good honest =
    knows_comes (g.S.Disk.view c.settle.new.disk) c.args.id.0 c.args.limits.budget c.settle.new.progress c.in-Ok.conclusion c.next.result c.next.new.self c.next.ensures
    (knows_exchange c.args.archive.now (g.S.Disk.view c.args.site.now) (g.S.Disk.view c.ask.new.site) c.args.id.0 c.args.progress.now c.args.command.now c.ask.new.listener
    c.requires.opened c.requires.ready c.requires.command c.ask.ensures.disk c.good_pieces_end_streams.ensures.ends c.ask.ensures.keeps
    (g.S.Disk.view c.settle.new.disk) c.settle.new.progress c.in-Ok.conclusion c.in-Ok.ensures.heard c.settle.ensures.keeps c.in-Ok-settle.ensures.knows knows good honest)

pub returns-in-Err-settle-clause-keeps : goal.returns-in-Err-settle-clause-keeps
returns-in-Err-settle-clause-keeps g c =
    keeps_exchange c.args.archive.now (g.S.Disk.view c.args.site.now) (g.S.Disk.view c.ask.new.site) c.args.id.0 c.args.progress.now c.args.command.now c.ask.new.listener
    c.requires.opened c.requires.ready c.requires.command c.ask.ensures.disk c.good_pieces_end_streams.ensures.ends c.ask.ensures.keeps
    (g.S.Disk.view c.settle.new.disk) c.in-Ok.conclusion (g.met.S.Disk.lawful c.ask.new.site) c.in-Ok.ensures.heard c.settle.ensures.keeps

pub returns-in-Err-clause-breaks : goal.returns-in-Err-clause-breaks
returns-in-Err-clause-breaks g c = (c.ask.new.listener, c.in-Err.ensures.stops)

pub returns-in-Err-settle-clause-breaks : goal.returns-in-Err-settle-clause-breaks
returns-in-Err-settle-clause-breaks g c = (
  c.ask.new.listener,
  c.in-Ok.conclusion,
  subst (λ (k : Link). Asks (wanted_reply c.args.command.now) c.args.limits c.args.listener.now (g.S.Disk.view c.args.site.now).link c.in-Ok.conclusion c.ask.new.listener k) (sym c.settle.ensures.link) c.in-Ok.ensures.asks,
)
