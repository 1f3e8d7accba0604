-- When a file that a crash may leave is good, and which changes keep it so.
use Rattle.std.specs.Prelude.{◌≡◌, ⊤, List, ℕ, slice_get, Some}
use Rattle.pb_base.specs.World.{World}
use Rattle.pb_base.specs.History.{history}
use Rattle.pb_archive.specs.Archive.{Table, Archive, record_layout, grown}
use Rattle.pb_archive.specs.Entry.{Change, Added, Advanced, Stopped, contents}
use Rattle.pb_archive.specs.Held.{HasArchive}
use Rattle.pb_archive.specs.Truth.{SoundTable, Sound}
use Rattle.pb_truth.specs.Asked.{AskedBelow}

-- The file has an archive that is true of what the stations stored so far, and nothing was asked above its fronts.
pub record Good (w : World) (image : List ℕ) : Type 0 where
  pub archive : Archive
  pub has : HasArchive image archive
  pub sound : Sound archive (history w)
  pub asked : AskedBelow w archive

-- The archive stays true with the change: the table of an advance is true with the rows that it adds. A new table has no rows,
-- and a stop adds none.
abbrev pub StaysTrue : World → Archive → Change → Type 0
StaysTrue w a (Added station number definition) = ⊤
StaysTrue w a (Advanced id advance) =
    (t : Table) → slice_get a.tables id ≡ Some t
    → SoundTable (grown advance.first (contents (record_layout t.definition) advance) t) (history w t.key)
StaysTrue w a (Stopped id stop) = ⊤
