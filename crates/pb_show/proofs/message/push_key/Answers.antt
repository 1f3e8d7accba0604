use Rattle.std.proofs.Common.{◌≡◌, ℕ, List, [], ◌∷◌, ◌++◌, append_assoc, ap, sym, ◌∙◌}
use Rattle.std.specs.Prelude.{codes}
use Rattle.pb_io.specs.Page.{joined}
use Rattle.std.proofs.lemmas.List.{append-nil}
use Rattle.pb_io.proofs.PageLemmas.{Adds-two}
use Rattle.pb_show.specs.MessageText.{key_text}
use Rattle.pb_show.proofs.message.push_key.Goals as goal

key_parts : (name value : List ℕ) → joined (codes " " ∷ name ∷ codes " " ∷ []) ++ value ≡ joined (codes " " ∷ name ∷ codes " " ∷ value ∷ [])
key_parts name value = ap (λ (l : List ℕ). 32 ∷ l) (append_assoc name (32 ∷ []) value ∙ ap (λ l. name ++ 32 ∷ l) (sym (append-nil value)))

pub returns : goal.returns
unfolding key_text
returns g c = Adds-two _ _ _ _ _ _ (key_parts c.args.key.0.now _) c.put.ensures c.push_shown.ensures
