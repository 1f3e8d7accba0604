-- What a read does to the bytes that a source has left, where the source knows them.
use Rattle.std.specs.Prelude.{◌≡◌, ℕ, ◌<◌, List, length, take, Option, Result, MatchResult, ◌==◌, ◌&&◌, nat_lt, if◌then◌else◌}
use Rattle.std.specs.Io.KnownBytes.{Consumes, IsAtEnd, Keeps}
use Rattle.pb_io.specs.Faults.{counted}

-- A read that answers n gave the first n of the bytes that were left, at most as many as there was room for, and
-- none only at the end of the input or without room. A read that fails takes nothing.
abbrev pub Reads : {E : Type 0} → Option (List ℕ) → Option (List ℕ) → List ℕ → Result ℕ E → Type 0
Reads old new given result =
    MatchResult result (λ n. Consumes old new (take n given) × (n ≡ 0 → 0 < length given → IsAtEnd new)) (λ _. Keeps old new)

-- The count of ends goes up by one where nothing was read though there was room, and stays otherwise.
abbrev pub CountsEnds : {E : Type 0} → ℕ → ℕ → List ℕ → Result ℕ E → Type 0
CountsEnds before now room result =
    MatchResult result (λ n. now ≡ (if n == 0 && nat_lt 0 (length room) then counted before else before)) (λ _. now ≡ before)
