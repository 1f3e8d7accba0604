-- The lines of verdicts, one after another.
use Rattle.std.proofs.Common.{◌≡◌, List, [], ◌∷◌, ◌++◌, Bool, true, false, refl, sym, ap, ◌∙◌}
use Rattle.std.specs.Prelude.{◌||◌}
use Rattle.std.proofs.lemmas.List.{append-nil}
use Rattle.std.proofs.lemmas.Grind.{flat_map-append}
use Rattle.pb_frame.specs.Framing.{Verdict}
use Rattle.pb_show.specs.LineText.{line, lines, is_damage, has_damage}

-- ---- tests

pub or_false : (b : Bool) → (b || false) ≡ b
or_false true = refl
or_false false = refl

pub or_true : (b : Bool) → (b || true) ≡ true
or_true true = refl
or_true false = refl

pub or_assoc : (a b c : Bool) → ((a || b) || c) ≡ (a || (b || c))
or_assoc true b c = refl
or_assoc false b c = refl

-- ---- lines

pub lines-nil : lines [] ≡ []
unfolding lines
lines-nil = refl

pub lines-one : (v : Verdict) → lines (v ∷ []) ≡ line v
unfolding lines
lines-one v = append-nil (line v)

pub lines-append : (vs ws : List Verdict) → lines (vs ++ ws) ≡ lines vs ++ lines ws
unfolding lines
lines-append vs ws = flat_map-append line vs ws

-- ---- damage

pub damage-nil : has_damage [] ≡ false
unfolding has_damage
damage-nil = refl

pub damage-one : (v : Verdict) → has_damage (v ∷ []) ≡ is_damage v
unfolding has_damage
damage-one v = or_false (is_damage v)

pub damage-append : (vs ws : List Verdict) → has_damage (vs ++ ws) ≡ (has_damage vs || has_damage ws)
unfolding has_damage
damage-append [] ws = refl
damage-append (v ∷ vs) ws = ap (λ b. is_damage v || b) (damage-append vs ws) ∙ sym (or_assoc (is_damage v) (has_damage vs) (has_damage ws))

pub ruleset line_steps = (or_false, or_true, lines-nil, lines-one, damage-nil, damage-one, append-nil)
