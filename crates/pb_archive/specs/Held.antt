-- The archive in a file, and what a writing call makes of it.
use Rattle.std.specs.Prelude.{◌≡◌, ◌⊎◌, List, ℕ}
use Rattle.pb_io.specs.Crash.{Changes, AriseBy}
use Rattle.pb_io.specs.Settled.{IsSettled, Leaves}
use Rattle.pb_io.specs.View.{View}
use Rattle.pb_journal.specs.Entries.{Entries}
use Rattle.pb_archive.specs.Archive.{Archive, Extends}
use Rattle.pb_archive.specs.Entry.{Change, IsAllowed, archive_after, IsArchive}

-- the file has entries, and they are this archive
pub record HasArchive (file : List ℕ) (a : Archive) : Type 0 where
  pub bodies : List (List ℕ)
  pub entries : Entries file bodies
  pub archive : IsArchive bodies a

abbrev pub SameArchive : List ℕ → List ℕ → Type 0
SameArchive old new = (a : Archive) × HasArchive old a × HasArchive new a

-- the new file's archive is the old one's after this change, which is allowed there
pub record Makes (change : Change) (old new : List ℕ) : Type 0 where
  pub archive : Archive
  pub before : HasArchive old archive
  pub allowed : IsAllowed archive change
  pub after : HasArchive new (archive_after archive change)

-- the file itself, its archive, or that archive after the change
abbrev pub KeepsOrMakes : Change → List ℕ → List ℕ → Type 0
KeepsOrMakes change old new = (new ≡ old) ⊎ (SameArchive old new ⊎ Makes change old new)

-- the old file's archive goes on in the new one
pub record GoesOn (old new : List ℕ) : Type 0 where
  pub one : Archive
  pub other : Archive
  pub before : HasArchive old one
  pub after : HasArchive new other
  pub extends : Extends one other

abbrev pub StaysOrGoesOn : List ℕ → List ℕ → Type 0
StaysOrGoesOn old new = (new ≡ old) ⊎ GoesOn old new

-- What a writing call does to a disk, whatever it answers. Afterwards the file is the one that it was, or has its archive,
-- or that archive after the change. At any moment of it, and after it, a crash leaves the world as it was, and a file that
-- it might have left before, its archive, or that archive after the change; and what is in it goes on from what was there.
pub record Writes (change : Change) (old new : View) : Type 0 where
  pub link : new.link ≡ old.link
  pub file : Changes (KeepsOrMakes change) old.file new.file
  pub leaves : Leaves (KeepsOrMakes change) old new
  pub goes_on : Leaves StaysOrGoesOn old new

-- What it did where it answers Ok: the change is in the file, and in each that a crash may leave, and nothing is pending.
pub record Wrote (change : Change) (old new : View) : Type 0 where
  pub file : Changes (Makes change) old.file new.file
  pub images : AriseBy (Makes change) old.image new.image
  pub settled : IsSettled new
