-- Reading a journal's entries one after the other.
use Rattle.std.specs.Prelude.{◌≡◌, ℕ, ◌+◌, ◌-◌, ◌<◌, ◌≤◌, List, [], ◌∷◌, length, take, drop, Bool, true, false, Option, Some, Result, MatchResult}
use Rattle.pb_journal.specs.Entries.{lead_len, AreBodies, blocks}
use Rattle.pb_journal.specs.Opened.{RestsAt}
use Rattle.pb_journal.specs.Window.{Chunk, Shows, Covers}

-- what contracts see: the place of the next gate, the body that was read last, and the bytes of the file at hand
pub record Reading : Type 0 where
  pub place : ℕ
  pub body : List ℕ
  pub chunk : Chunk

-- the body that was read last, of so many bytes, ends here and is at hand
abbrev pub IsBodyOf : Chunk → ℕ → ℕ → Type 0
IsBodyOf chunk place size = (size ≤ place) × (0 < size → Covers chunk (place - size) size)

abbrev pub reading : Chunk → ℕ → ℕ → Reading
reading chunk place size = record { place = place; body = take size (drop (place - size - chunk.at) chunk.bytes); chunk = chunk }

-- from this place to the closed gate the file has these entries
pub record Ahead (file : List ℕ) (place gate : ℕ) (bodies : List (List ℕ)) : Type 0 where
  pub bytes : take (length (blocks bodies)) (drop place file) ≡ blocks bodies
  pub fit : AreBodies bodies
  pub end : gate ≡ place + length (blocks bodies)
  pub within : gate < length file

-- the entries that are still to be read of this file, of which earlier calls read too
pub record IsReading (reading : Reading) (gate : ℕ) (file : List ℕ) (bodies : List (List ℕ)) : Type 0 where
  pub ahead : Ahead file reading.place gate bodies
  pub shows : Shows reading.chunk file

-- from a gate on
abbrev pub ReadsFrom : ℕ → ℕ → Reading → Type 0
ReadsFrom place gate it = (file : List ℕ) (bodies : List (List ℕ)) → Ahead file place gate bodies → IsReading it gate file bodies

-- from the first entry on
abbrev pub ReadsAll : Reading → Type 0
ReadsAll it = (gate : ℕ) (file : List ℕ) (bodies : List (List ℕ)) → RestsAt gate bodies file → IsReading it gate file bodies

-- some entries are still to be read
abbrev pub HasAhead : Reading → ℕ → List ℕ → Type 0
HasAhead reading gate file = (bodies : List (List ℕ)) × IsReading reading gate file bodies

-- one entry was read, or there was none left
abbrev pub Read : Reading → ℕ → List ℕ → List (List ℕ) → Bool → Type 0
Read new gate file bodies true = (rest : List (List ℕ)) × (bodies ≡ new.body ∷ rest) × IsReading new gate file rest
Read new gate file bodies false = (bodies ≡ []) × IsReading new gate file bodies

-- what a call reads of a file that is known; one that is refused leaves as much to be read
abbrev pub Reads : {E : Type 0} → Reading → Reading → ℕ → Option (List ℕ) → Result Bool E → Type 0
Reads old new gate view result = (file : List ℕ) (bodies : List (List ℕ)) → view ≡ Some file → IsReading old gate file bodies
    → MatchResult result (Read new gate file bodies) (λ _. IsReading new gate file bodies)

-- Where a call goes, whatever the disk reports: over the entry that it read, whose body isn't empty, or nowhere.
abbrev pub Moves : Reading → Reading → ℕ → Bool → Type 0
Moves old new gate true = (new.place ≡ old.place + (lead_len + length new.body)) × (0 < length new.body) × (new.place ≤ gate)
Moves old new gate false = (new.place ≡ old.place) × (new.body ≡ [])
