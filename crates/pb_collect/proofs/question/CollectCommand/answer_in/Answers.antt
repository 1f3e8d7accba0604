use Rattle.std.proofs.Common.{◌≡◌, subst, rules}
use Rattle.pb_bmp5.specs.CollectReply.{SeenReply}
use Rattle.pb_collect.specs.Progress.{Suits}
use Rattle.pb_collect.proofs.question.CollectCommand.answer_in.Goals as goal

pub returns-in_default : goal.returns-in_default
returns-in_default c said m = let e = c.in_default.ensures.only m.reply m.reads in absurd cc

pub returns-then-not-fits : goal.returns-then-not-fits
returns-then-not-fits c said m =
    let e = c.in-Ok.ensures.only m.reply m.reads in
    let same : m.reply ≡ c.in-Ok.reply = cc in
    let yes = c.fits.ensures.1 (subst (λ (r : SeenReply). Suits c.args.self.now.mode r) same m.fits) in
    absurd (search (rules, yes, c.if-not-fits.true))
