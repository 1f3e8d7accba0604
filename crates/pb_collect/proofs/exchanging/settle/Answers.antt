use Rattle.std.proofs.Common.{◌∙◌, subst}
use Rattle.std.proofs.lemmas.Result.{on_ok_weaker}
use Rattle.pb_ask.specs.declared.question.Conclusion.{Conclusion}
use Rattle.pb_collect.specs.Exchanges.{TeachesTrue}
use Rattle.pb_collect.specs.Heard.{HeardBy}
use Rattle.pb_collect.specs.Kept.{KnowsTrue}
use Rattle.pb_collect.specs.Progress.{partial_bytes}
use Rattle.pb_collect.specs.declared.answer.Said.{Said}
use Rattle.pb_collect.proofs.KeptLemmas.{where_weaker}
use Rattle.pb_collect.proofs.exchanging.settle.Goals as goal

pub returns-then-said-eq0-clause-keeps : goal.returns-then-said-eq0-clause-keeps
returns-then-said-eq0-clause-keeps g c =
    let a = c.args.command.now in
    let l = c.args.listener.now in
    let p = c.args.progress.now in
    let id = c.args.id.0 in
    let old = g.D.Disk.view c.args.disk.now in
    let h = subst (λ (o : Conclusion Said). HeardBy a o l old.link) c.in-Answer.is c.requires.heard in
    let m = h.means in
    let served = c.if-said-eq0.true in
    where_weaker (TeachesTrue a l old id p c.args.conclusion.now) (KnowsTrue old id (partial_bytes p) m.reply.fragments) old (g.D.Disk.view c.take_heard.new.disk)
    (λ teaches. subst (λ (o : Conclusion Said). TeachesTrue a l old id p o) c.in-Answer.is teaches served m.reply m.reads (m.resp ∙ served) m.fits)
    (c.take_heard.ensures.keeps m.reply m.reads)

pub returns-then-said-eq0-clause-knows : goal.returns-then-said-eq0-clause-knows
returns-then-said-eq0-clause-knows g c =
    let a = c.args.command.now in
    let l = c.args.listener.now in
    let p = c.args.progress.now in
    let id = c.args.id.0 in
    let old = g.D.Disk.view c.args.disk.now in
    let h = subst (λ (o : Conclusion Said). HeardBy a o l old.link) c.in-Answer.is c.requires.heard in
    let m = h.means in
    let served = c.if-said-eq0.true in
    on_ok_weaker c.take_heard.result
    (λ knows teaches before. knows m.reply m.reads (subst (λ (o : Conclusion Said). TeachesTrue a l old id p o) c.in-Answer.is teaches served m.reply m.reads (m.resp ∙ served) m.fits))
    c.take_heard.ensures.knows
