-- Why a request got no answer that serves, as text.
use Rattle.std.specs.Prelude.{ℕ, List, [], ◌∷◌, codes, decimal}
use Rattle.pb_collect.specs.declared.report.Cause.{Cause}
use Rattle.pb_collect.specs.declared.report.Cause.TheVariants.{NoAnswer, Flooded, Undelivered, Refused}
use Rattle.pb_io.specs.Page.{joined}

-- `no answer`, `flooded`, `undelivered CODE`, `refused CODE`
unfoldable pub cause_text : Cause → List ℕ
cause_text NoAnswer = codes "no answer"
cause_text Flooded = codes "flooded"
cause_text (Undelivered code) = joined (codes "undelivered " ∷ decimal code ∷ [])
cause_text (Refused code) = joined (codes "refused " ∷ decimal code ∷ [])
