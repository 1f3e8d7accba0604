-- When calls on an archive are refused.
use Rattle.std.specs.Prelude.{◌≡◌, ◌⊎◌, ◌≤◌, ⊤, ℕ, Bool, true, false, List, [], ◌∷◌, ◌++◌, slice_get, length, Option, None, Some, Result, IsErrOf}
use Rattle.std.specs.Option.{ForSome}
use Rattle.pb_io.specs.Faults.{Rose}
use Rattle.pb_journal.specs.Entries.{Entries, gate_place}
use Rattle.pb_journal.specs.Refusals.{IsVacant, IsCreated, RefusedAt}
use Rattle.pb_archive.specs.Archive.{Archive}
use Rattle.pb_archive.specs.Entry.{IsArchive, tables_max}
use Rattle.pb_archive.specs.Opened.{OpenArchive}
use Rattle.pb_archive.specs.declared.fault.ArchiveFault.{ArchiveFault}
use Rattle.pb_archive.specs.declared.fault.ArchiveFault.TheVariants.{NotCreated, Exists, Format, DiskFault, MustReopen, Stopped, TooMany, Memory}
use Rattle.pb_archive.specs.declared.held.Held.{Held}

-- The entries before this gate are an archive, where there are some, and with the entry there they are none.
pub record BreaksAt (file : List ℕ) (at : ℕ) : Type 0 where
  pub before : List (List ℕ)
  pub body : List ℕ
  pub after : List (List ℕ)
  pub entries : Entries file (before ++ body ∷ after)
  pub sound : (before ≡ []) ⊎ ((a : Archive) × IsArchive before a)
  pub broken : (a : Archive) → IsArchive (before ++ body ∷ []) a → ⊥
  pub place : at ≡ gate_place before

-- no journal was created, or it has no entry
abbrev pub HasNoArchive : List ℕ → Type 0
HasNoArchive file = IsVacant file ⊎ Entries file []

-- it is no journal, or its entries are no archive
abbrev pub IsMalformed : ℕ → List ℕ → Type 0
IsMalformed at file = (IsCreated file × RefusedAt file at) ⊎ BreaksAt file at

abbrev pub OpenRefuses : Option (List ℕ) → ArchiveFault → Type 0
OpenRefuses view NotCreated = ForSome view HasNoArchive
OpenRefuses view (Format at) = ForSome view (IsMalformed at)
OpenRefuses view DiskFault = ⊤
OpenRefuses view Memory = ⊤
OpenRefuses view Exists = ⊥
OpenRefuses view MustReopen = ⊥
OpenRefuses view (Stopped told) = ⊥
OpenRefuses view TooMany = ⊥

-- of a file that is known `NotCreated` isn't answered: a creation has made it before
abbrev pub InitRefuses : Option (List ℕ) → ArchiveFault → Type 0
InitRefuses view Exists = ForSome view (λ file. (bodies : List (List ℕ)) × Entries file bodies × (bodies ≡ [] → ⊥))
InitRefuses view (Format at) = ForSome view (λ file. IsCreated file × RefusedAt file at)
InitRefuses view DiskFault = ⊤
InitRefuses view Memory = ⊤
InitRefuses view NotCreated = ForSome view (λ file. ⊥)
InitRefuses view MustReopen = ⊥
InitRefuses view (Stopped told) = ⊥
InitRefuses view TooMany = ⊥

-- a writing call of this value answered a disk fault before
abbrev pub NeedsOpening : OpenArchive → Bool → Type 0
NeedsOpening o needs = o.journal.must_reopen ≡ needs

-- the table has this stop
pub record IsStopped (o : OpenArchive) (id : ℕ) (told : Option ℕ) : Type 0 where
  pub held : Held
  pub there : slice_get o.tables id ≡ Some held
  pub stop : held.stop ≡ Some (record { told = told })

abbrev pub AddRefuses : OpenArchive → ArchiveFault → Type 0
AddRefuses o MustReopen = NeedsOpening o true
AddRefuses o TooMany = NeedsOpening o false × (length o.tables ≡ tables_max)
AddRefuses o DiskFault = NeedsOpening o false
AddRefuses o NotCreated = ⊥
AddRefuses o Exists = ⊥
AddRefuses o (Format at) = ⊥
AddRefuses o (Stopped told) = ⊥
AddRefuses o Memory = ⊥

abbrev pub ChangeRefuses : OpenArchive → ℕ → ArchiveFault → Type 0
ChangeRefuses o id MustReopen = NeedsOpening o true
ChangeRefuses o id (Stopped told) = NeedsOpening o false × IsStopped o id told
ChangeRefuses o id DiskFault = NeedsOpening o false
ChangeRefuses o id NotCreated = ⊥
ChangeRefuses o id Exists = ⊥
ChangeRefuses o id (Format at) = ⊥
ChangeRefuses o id TooMany = ⊥
ChangeRefuses o id Memory = ⊥

abbrev pub ReadRefuses : OpenArchive → ArchiveFault → Type 0
ReadRefuses o MustReopen = NeedsOpening o true
ReadRefuses o Memory = NeedsOpening o false
ReadRefuses o NotCreated = ⊥
ReadRefuses o Exists = ⊥
ReadRefuses o (Format at) = ⊥
ReadRefuses o DiskFault = ⊥
ReadRefuses o (Stopped told) = ⊥
ReadRefuses o TooMany = ⊥

-- a file that is known can be read
abbrev pub RowRefuses : Option (List ℕ) → ArchiveFault → Type 0
RowRefuses view DiskFault = ⊤
RowRefuses view (Format at) = view ≡ None
RowRefuses view NotCreated = ⊥
RowRefuses view Exists = ⊥
RowRefuses view MustReopen = ⊥
RowRefuses view (Stopped told) = ⊥
RowRefuses view TooMany = ⊥
RowRefuses view Memory = ⊥

-- The count of failed disk calls rose where the call answers a disk fault, and stays with any other answer.
pub record HasDiskCause {T : Type 0} (before now : ℕ) (result : Result T ArchiveFault) : Type 0 where
  pub later : before ≤ now
  pub failed : IsErrOf result DiskFault → Rose before now
  pub kept : (IsErrOf result DiskFault → ⊥) → now ≡ before
