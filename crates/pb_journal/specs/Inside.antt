-- Steps of the calls, which no promise names.
use Rattle.std.specs.Prelude.{◌≡◌, ◌≢◌, ◌⊎◌, ⊤, ℕ, ◌+◌, ◌-◌, ◌<◌, ◌≤◌, List, [], ◌∷◌, ◌++◌, length, take, drop, slice_index, Option, None, Some}
use Rattle.pb_io.specs.Settled.{Runs}
use Rattle.pb_io.specs.Disk.{ReadsOnly}
use Rattle.pb_io.specs.View.{View}
use Rattle.pb_journal.specs.Changes.{Same}
use Rattle.pb_journal.specs.Entries.{lead_len, empty_len, header_len, first_byte, max_body_len, open_gate, header, IsBody, AreBodies, block, blocks, IsClosed, Entries, gate_place}
use Rattle.pb_journal.specs.Reading.{Ahead}
use Rattle.pb_journal.specs.Refusals.{IsBroken, IsVacant, IsCreated, DiffersAt}
use Rattle.pb_journal.specs.Window.{Chunk, Shows, Covers}
use Rattle.pb_journal.specs.declared.fault.JournalFault.{JournalFault}
use Rattle.pb_journal.specs.declared.fault.JournalFault.TheVariants.{NotCreated, Exists, Format, DiskFault, MustReopen, Memory}
use Rattle.pb_journal.specs.declared.walk.Gate.{Gate}
use Rattle.pb_journal.specs.declared.walk.Gate.TheVariants.{Closed, Broken, Open}

-- with the entry after the closed gate, and a closed gate after it
abbrev pub staged : List ℕ → List ℕ → List ℕ
staged body file = file ++ (block body ++ 0 ∷ [])

-- the bytes before this place stay
abbrev pub KeepsBefore : ℕ → List ℕ → List ℕ → Type 0
KeepsBefore at old new = take at new ≡ take at old

-- calls that only look
pub record Peeks (old new : View) : Type 0 where
  pub disk : ReadsOnly old new
  pub run : Runs Same old new

-- from here to there the file has these bytes
abbrev pub part : List ℕ → ℕ → ℕ → List ℕ
part file from to = take (to - from) (drop from file)

-- an entry with an open gate, whose body has so many bytes, and at least one byte more
pub record IsEntry (tail : List ℕ) (size : ℕ) : Type 0 where
  pub body : List ℕ
  pub rest : List ℕ
  pub bytes : tail ≡ open_gate ∷ block body ++ rest
  pub fit : IsBody body
  pub length_is : length body ≡ size
  pub more : 0 < length rest

-- what is at a gate
abbrev pub GateIs : List ℕ → Gate → Type 0
GateIs tail Closed = IsClosed tail
GateIs tail Broken = IsBroken tail
GateIs tail (Open size) = IsEntry tail size

-- the same, where the bytes at hand are those of the file
abbrev pub ShowsGate : Chunk → ℕ → ℕ → Gate → List ℕ → Type 0
ShowsGate chunk place end gate file = Shows chunk file → GateIs (part file place end) gate

-- an entry ends before the end of the file
abbrev pub EndsWithin : Gate → ℕ → Type 0
EndsWithin (Open size) left = (0 < size) × (lead_len + size < left)
EndsWithin Closed left = ⊤
EndsWithin Broken left = ⊤

-- whole entries come before this place
pub record Walked (file : List ℕ) (place : ℕ) : Type 0 where
  pub bodies : List (List ℕ)
  pub fit : AreBodies bodies
  pub bytes : file ≡ header ++ (blocks bodies ++ drop place file)
  pub here : place ≡ gate_place bodies

-- the file's entries end at this gate
pub record EndsAt (gate : ℕ) (file : List ℕ) : Type 0 where
  pub bodies : List (List ℕ)
  pub entries : Entries file bodies
  pub place : gate ≡ gate_place bodies

-- how a file of this length is refused by its first bytes
abbrev pub HeaderRefuses : List ℕ → ℕ → JournalFault → Type 0
HeaderRefuses prefix len NotCreated = (len ≡ empty_len) × (slice_index prefix 0 ≢ first_byte)
HeaderRefuses prefix len (Format at) = ((empty_len < len) ⊎ (slice_index prefix 0 ≡ first_byte)) × DiffersAt prefix at
HeaderRefuses prefix len Exists = ⊥
HeaderRefuses prefix len DiskFault = ⊥
HeaderRefuses prefix len MustReopen = ⊥
HeaderRefuses prefix len Memory = ⊥

-- so long a file of a journal, whose header was read
pub record HasHeader (len : ℕ) (file : List ℕ) : Type 0 where
  pub size : len ≡ length file
  pub created : IsCreated file
  pub header_is : take header_len file ≡ header

-- no journal, before and after
abbrev pub StaysVacant : List ℕ → List ℕ → Type 0
StaysVacant old new = (new ≡ old) ⊎ (IsVacant old × IsVacant new)

-- the next entry's body is here, or there is none
abbrev pub NextIs : List ℕ → ℕ → ℕ → List (List ℕ) → Option ℕ → Type 0
NextIs file place gate bodies None = bodies ≡ []
NextIs file place gate bodies (Some size) =
    (body : List ℕ) × ((rest : List (List ℕ)) × (bodies ≡ body ∷ rest)
    × (take size (drop (place + lead_len) file) ≡ body) × Ahead file (place + lead_len + size) gate rest)

-- this body is in the window, and ends at the gate at most
pub record IsAtHand (chunk : Chunk) (place gate size : ℕ) : Type 0 where
  pub some : 0 < size
  pub few : size ≤ max_body_len
  pub within : place + lead_len + size ≤ gate
  pub covers : Covers chunk (place + lead_len) size

abbrev pub FindsNext : ℕ → ℕ → Option ℕ → List ℕ → Type 0
FindsNext place gate next file = (bodies : List (List ℕ)) → Ahead file place gate bodies → NextIs file place gate bodies next
