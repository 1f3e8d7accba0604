-- Answers that are taken into an archive: the state of the table between two fragments, and what is appended for one.
use Rattle.std.specs.Prelude.{◌≡◌, ⊤, ℕ, ◌≤◌, List, [], ◌∷◌, ◌++◌, length, slice_get, Some, None, Ok}
use Rattle.std.specs.List.{AllByRecursion}
use Rattle.pb_base.specs.Fields.{IsBytes}
use Rattle.pb_base.specs.World.{World}
use Rattle.pb_base.specs.History.{history}
use Rattle.pb_io.specs.View.{View}
use Rattle.pb_bmp5.specs.CollectReply.{SeenFragment, whole, part}
use Rattle.pb_archive.specs.Archive.{Table, Archive, record_layout}
use Rattle.pb_archive.specs.Entry.{Advance, Advanced, advance_bytes_max}
use Rattle.pb_archive.specs.Held.{HasArchive}
use Rattle.pb_archive.specs.Opened.{Register, OpenArchive, CanAdvanceHere, advanced, register_after}
use Rattle.pb_archive.specs.Truth.{SoundTable}
use Rattle.pb_archive.specs.declared.held.Held.{Held}
use Rattle.pb_truth.specs.Keeping.{table_after}
use Rattle.pb_collect.specs.Progress.{Progress}

-- ---- the table in memory

-- the table is as far, and has no stop
pub record IsAsFar (held : Held) (p : Progress) : Type 0 where
  pub front : held.front ≡ p.front
  pub layout : held.table.layout ≡ Ok p.layout
  pub going_on : held.stop ≡ None

pub record IsReady (o : OpenArchive) (id : ℕ) (p : Progress) : Type 0 where
  pub held : Held
  pub there : slice_get o.tables id ≡ Some held
  pub far : IsAsFar held p

-- after these advances of the table at a place
abbrev pub registers_after : Register → ℕ → List Advance → Register
registers_after r id [] = r
registers_after r id (a ∷ rest) = registers_after (register_after r (Advanced id a)) id rest

abbrev pub held_after : Held → List Advance → Held
held_after held [] = held
held_after held (a ∷ rest) = held_after (advanced a held) rest

-- each of the advances may follow those before it
abbrev pub CanFollow : Held → List Advance → Type 0
CanFollow held [] = ⊤
CanFollow held (a ∷ rest) = CanAdvanceHere held a × CanFollow (advanced a held) rest

-- ---- fragments

abbrev pub bytes_in : SeenFragment → List ℕ
bytes_in (whole first count bytes) = bytes
bytes_in (part number offset bytes) = bytes

abbrev pub run_in : SeenFragment → List ℕ
run_in (whole first count bytes) = bytes
run_in (part number offset bytes) = []

-- bytes, and no more than one advance takes
pub record IsBrief (f : SeenFragment) : Type 0 where
  pub bytes : IsBytes (run_in f)
  pub few : length (bytes_in f) ≤ advance_bytes_max

abbrev pub AreBrief : List SeenFragment → Type 0
AreBrief fs = AllByRecursion IsBrief fs

-- ---- the table in a file

-- The table stays true with these advances, however many of them are made.
abbrev pub AdvancesTrue : View → ℕ → List Advance → Type 0
AdvancesTrue now id todo =
    (w : World) (image : List ℕ) (a : Archive) (t : Table) → now.link.world ≡ Some w → now.image image
    → HasArchive image a → slice_get a.tables id ≡ Some t
    → (some more : List Advance) → todo ≡ some ++ more
    → SoundTable (table_after (record_layout t.definition) t some) (history w t.key)

-- this table came of one that was there before, by these advances
pub record CameOf (old : View) (id : ℕ) (done : List Advance) (u : Table) : Type 0 where
  pub image : List ℕ
  pub archive : Archive
  pub table : Table
  pub was : old.image image
  pub has : HasArchive image archive
  pub there : slice_get archive.tables id ≡ Some table
  pub is : u ≡ table_after (record_layout table.definition) table done

abbrev pub AllCameOf : View → View → ℕ → List Advance → Type 0
AllCameOf old new id done =
    (image : List ℕ) (a : Archive) (u : Table) → new.image image → HasArchive image a → slice_get a.tables id ≡ Some u
    → CameOf old id done u
