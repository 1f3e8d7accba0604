-- What the calls make of a file, and of what a crash might have left at their entry.
use Rattle.std.specs.Prelude.{◌≡◌, ◌⊎◌, List, ℕ, [], ◌∷◌, ◌++◌}
use Rattle.pb_journal.specs.Entries.{Entries}
use Rattle.pb_journal.specs.Refusals.{IsVacant}

-- the file stays as it is
abbrev pub Same : List ℕ → List ℕ → Type 0
Same old new = new ≡ old

-- both stand for the same entries
abbrev pub SameEntries : List ℕ → List ℕ → Type 0
SameEntries old new = (bodies : List (List ℕ)) × Entries old bodies × Entries new bodies

-- the new file has one entry more, at the end
abbrev pub Gains : List ℕ → List ℕ → List ℕ → Type 0
Gains body old new = (bodies : List (List ℕ)) × Entries old bodies × Entries new (bodies ++ body ∷ [])

-- a journal without entries where there was none
abbrev pub Begins : List ℕ → List ℕ → Type 0
Begins old new = IsVacant old × Entries new []

-- what an opening leaves: the file itself, or its entries
abbrev pub Keeps : List ℕ → List ℕ → Type 0
Keeps old new = (new ≡ old) ⊎ SameEntries old new

-- what an append leaves: the same, or with the new entry
abbrev pub KeepsOrGains : List ℕ → List ℕ → List ℕ → Type 0
KeepsOrGains body old new = Keeps old new ⊎ Gains body old new

-- what a creation leaves: the file itself, or no journal where there was none, or one without entries
abbrev pub KeepsOrBegins : List ℕ → List ℕ → Type 0
KeepsOrBegins old new = (new ≡ old) ⊎ (IsVacant old × (IsVacant new ⊎ Entries new []))
