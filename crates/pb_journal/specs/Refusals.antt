-- Which files are refused, and where.
use Rattle.std.specs.Prelude.{◌≡◌, ◌≢◌, ◌⊎◌, ⊤, ℕ, ◌+◌, ◌*◌, ◌<◌, ◌≤◌, Bool, false, List, ◌∷◌, ◌++◌, length, take, slice_index, Option, None, IsTrue, Result, IsErrOf}
use Rattle.std.specs.Option.{ForSome}
use Rattle.pb_io.specs.Faults.{Rose}
use Rattle.pb_io.specs.View.{View}
use Rattle.pb_journal.specs.Entries.{empty_len, header_len, first_byte, max_body_len, open_gate, header, blocks, AreBodies, gate_place}
use Rattle.pb_journal.specs.declared.fault.JournalFault.{JournalFault}
use Rattle.pb_journal.specs.declared.fault.JournalFault.TheVariants.{NotCreated, Exists, Format, DiskFault, MustReopen, Memory}

-- No journal was created: the file is too short, or as long as an empty journal and begins with another byte.
abbrev pub IsVacant : List ℕ → Type 0
IsVacant file = (length file < empty_len) ⊎ ((length file ≡ empty_len) × (slice_index file 0 ≢ first_byte))

abbrev pub IsCreated : List ℕ → Type 0
IsCreated file = (empty_len < length file) ⊎ ((length file ≡ empty_len) × (slice_index file 0 ≡ first_byte))

-- the length that comes after a gate, in four bytes
abbrev pub size_after : List ℕ → ℕ
size_after rest = ((slice_index rest 0 * 256 + slice_index rest 1) * 256 + slice_index rest 2) * 256 + slice_index rest 3

-- a length that no body has
abbrev pub IsWrongSize : ℕ → Type 0
IsWrongSize size = (size ≡ 0) ⊎ (max_body_len < size)

-- An open gate whose entry can't be read: its length is cut short or wrong, or the body and the next gate pass the end.
pub record IsBroken (tail : List ℕ) : Type 0 where
  pub rest : List ℕ
  pub opened_gate : tail ≡ open_gate ∷ rest
  pub more : 0 < length rest
  pub broken : (length rest < 4) ⊎ (IsWrongSize (size_after rest) ⊎ (length rest ≤ 4 + size_after rest))

-- here is the first byte that isn't the header's
pub record DiffersAt (file : List ℕ) (at : ℕ) : Type 0 where
  pub within : at < header_len
  pub same : take at file ≡ take at header
  pub other : slice_index file at ≢ slice_index header at

-- here is the length of the first entry that can't be read
pub record BreaksAt (file : List ℕ) (at : ℕ) : Type 0 where
  pub bodies : List (List ℕ)
  pub tail : List ℕ
  pub bytes : file ≡ header ++ (blocks bodies ++ tail)
  pub fit : AreBodies bodies
  pub broken : IsBroken tail
  pub place : at ≡ gate_place bodies + 1

abbrev pub RefusedAt : List ℕ → ℕ → Type 0
RefusedAt file at = DiffersAt file at ⊎ BreaksAt file at

abbrev pub CreateRefuses : Option (List ℕ) → JournalFault → Type 0
CreateRefuses view Exists = ForSome view IsCreated
CreateRefuses view DiskFault = ⊤
CreateRefuses view NotCreated = ⊥
CreateRefuses view (Format at) = ⊥
CreateRefuses view MustReopen = ⊥
CreateRefuses view Memory = ⊥

abbrev pub OpenRefuses : Option (List ℕ) → JournalFault → Type 0
OpenRefuses view NotCreated = ForSome view IsVacant
OpenRefuses view (Format at) = ForSome view (λ file. IsCreated file × RefusedAt file at)
OpenRefuses view DiskFault = ⊤
OpenRefuses view Memory = ⊤
OpenRefuses view Exists = ⊥
OpenRefuses view MustReopen = ⊥

-- by whether the journal must be opened again
abbrev pub AppendRefuses : Bool → JournalFault → Type 0
AppendRefuses must_reopen MustReopen = IsTrue must_reopen
AppendRefuses must_reopen DiskFault = must_reopen ≡ false
AppendRefuses must_reopen NotCreated = ⊥
AppendRefuses must_reopen Exists = ⊥
AppendRefuses must_reopen (Format at) = ⊥
AppendRefuses must_reopen Memory = ⊥

-- by the place of the next gate; a file that is known can be read
abbrev pub NextRefuses : Option (List ℕ) → ℕ → JournalFault → Type 0
NextRefuses view place (Format at) = (view ≡ None) × (at ≡ place)
NextRefuses view place DiskFault = ⊤
NextRefuses view place NotCreated = ⊥
NextRefuses view place Exists = ⊥
NextRefuses view place MustReopen = ⊥
NextRefuses view place Memory = ⊥

-- The count of failed disk calls rose where the call answers a disk fault, and stays with any other answer.
pub record HasDiskCause {T : Type 0} (before now : ℕ) (result : Result T JournalFault) : Type 0 where
  pub later : before ≤ now
  pub failed : IsErrOf result DiskFault → Rose before now
  pub kept : (IsErrOf result DiskFault → ⊥) → now ≡ before

-- every refusal but a disk fault leaves the file as it reads
abbrev pub KeepsFile : View → View → JournalFault → Type 0
KeepsFile old new fault = fault ≢ DiskFault → new.file ≡ old.file
