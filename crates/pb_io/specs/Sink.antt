-- What a write does to the bytes that a sink holds, where the sink knows them.
use Rattle.std.specs.Prelude.{◌≡◌, ℕ, List, ◌++◌, take, Option, Result, MatchResult}
use Rattle.std.specs.Io.KnownBytes.{Appends, Keeps}

-- A write that answers n took the first n bytes of the bytes. A write that fails takes nothing.
abbrev pub Writes : {E : Type 0} → Option (List ℕ) → Option (List ℕ) → List ℕ → Result ℕ E → Type 0
Writes old new chunk result = MatchResult result (λ n. Appends old new (take n chunk)) (λ _. Keeps old new)

-- known bytes grew by a prefix of these
abbrev pub AppendsPrefix : Option (List ℕ) → Option (List ℕ) → List ℕ → Type 0
AppendsPrefix old new text = (prefix rest : List ℕ) × (text ≡ prefix ++ rest) × Appends old new prefix
