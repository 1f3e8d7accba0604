-- What calls keep that read definitions: no record is asked for, and tables are only added or stopped.
use Rattle.std.specs.Prelude.{◌≡◌, ◌⊎◌, ℕ, List, Some}
use Rattle.pb_base.specs.World.{World}
use Rattle.pb_io.specs.View.{View}
use Rattle.pb_journal.specs.Changes.{Keeps as KeepsEntries}
use Rattle.pb_archive.specs.Archive.{Archive}
use Rattle.pb_archive.specs.Entry.{Change}
use Rattle.pb_archive.specs.Held.{HasArchive, GoesOn}
use Rattle.pb_archive.specs.Opened.{Register, kept_of, register_after}
use Rattle.pb_collect.specs.Kept.{KeepsBy}

-- The file itself, one with its entries, or one whose archive goes on from its; tables may be added.
abbrev pub StaysOrGrows : List ℕ → List ℕ → Type 0
StaysOrGrows old new = KeepsEntries old new ⊎ GoesOn old new

-- What calls keep: at each moment the file that a crash leaves goes on from one of before; and where all of before were good,
-- all that a crash leaves are good, whatever was heard.
abbrev pub Adds : View → View → Type 0
Adds old new = KeepsBy StaysOrGrows (Unit {0}) old new

-- Each file that a crash of now may leave has the archive of which this is kept, or that with one change more.
pub record HoldsAtLeast (r : Register) (now : View) : Type 0 where
  pub each : (w : World) (image : List ℕ) (a : Archive) → now.link.world ≡ Some w → now.image image → HasArchive image a
      → (kept_of a ≡ r) ⊎ ((change : Change) × (kept_of a ≡ register_after r change))
