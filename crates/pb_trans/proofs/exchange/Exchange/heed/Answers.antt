use Rattle.std.proofs.Common.{ℕ, refl, inr, subst}
use Rattle.pb_trans.specs.Asking.{IsPleaseWait}
use Rattle.pb_trans.specs.Waiting.{Waiting}
use Rattle.pb_trans.proofs.exchange.Exchange.heed.Goals as goal

pub returns-in_default-clause-hears : goal.returns-in_default-clause-hears
returns-in_default-clause-hears c = record {
  same = refl;
  due = inr (subst (λ (w : Waiting). (seconds : ℕ) → IsPleaseWait w.asked seconds c.args.header.now c.args.message.now → ⊥) c.self.view_is c.in_default.ensures, refl);
}
