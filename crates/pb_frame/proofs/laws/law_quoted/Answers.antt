use Rattle.std.proofs.Common.{sym, subst}
use Rattle.pb_frame.specs.Framing.{Quoted}
use Rattle.pb_frame.proofs.QuotedLemmas.{Quoted-text, Quoted-quoted}
use Rattle.pb_frame.proofs.ReadLemmas.{one_body}
use Rattle.pb_frame.proofs.laws.law_quoted.Goals as goal

pub returns-clause-text : goal.returns-clause-text
returns-clause-text c = λ body text. (λ q. Quoted-text q, λ e. subst (λ t. Quoted body t) (sym e) (Quoted-quoted body))

pub returns-clause-body : goal.returns-clause-body
returns-clause-body c = one_body
