use Rattle.std.proofs.Common.{sym}
use Rattle.std.proofs.lemmas.Fmt.{decimal_digit}
use Rattle.pb_io.proofs.PageLemmas.{Adds-as}
use Rattle.pb_io.proofs.page.Page.push_decimal.Goals as goal

pub returns-then-n-lt10 : goal.returns-then-n-lt10
returns-then-n-lt10 g c = Adds-as _ _ _ _ (sym (decimal_digit c.args.n c.if-n-lt10.true)) c.push.ensures
