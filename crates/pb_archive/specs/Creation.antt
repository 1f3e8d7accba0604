-- What making an archive leaves of a file.
use Rattle.std.specs.Prelude.{◌≡◌, ◌⊎◌, ℕ, Bool, true, false, List, []}
use Rattle.pb_journal.specs.Changes.{SameEntries}
use Rattle.pb_journal.specs.Entries.{Entries}
use Rattle.pb_archive.specs.Plan.{Plan}
use Rattle.pb_archive.specs.Entry.{created}
use Rattle.pb_archive.specs.Held.{HasArchive}
use Rattle.pb_archive.specs.Refusals.{HasNoArchive}

-- an archive of this plan without tables, where there was none
abbrev pub Inits : Plan → List ℕ → List ℕ → Type 0
Inits plan old new = HasNoArchive old × HasArchive new (created plan)

-- The file itself, or its entries; or, where there was no archive, none or the new one.
abbrev pub KeepsOrInits : Plan → List ℕ → List ℕ → Type 0
KeepsOrInits plan old new =
    (new ≡ old) ⊎ (SameEntries old new ⊎ (HasNoArchive old × (HasNoArchive new ⊎ HasArchive new (created plan))))

-- ---- on the way

-- no archive before and after
abbrev pub KeepsOrEmpties : List ℕ → List ℕ → Type 0
KeepsOrEmpties old new = (new ≡ old) ⊎ (SameEntries old new ⊎ (HasNoArchive old × HasNoArchive new))

-- a journal is there: a new one without entries, or the one that was there
abbrev pub IsReady : List ℕ → List ℕ → Type 0
IsReady old new = (HasNoArchive old × Entries new []) ⊎ SameEntries old new

-- the file has no entry, or some
abbrev pub HasEntries : Bool → List ℕ → Type 0
HasEntries false file = Entries file []
HasEntries true file = (bodies : List (List ℕ)) × Entries file bodies × (bodies ≡ [] → ⊥)
