-- Reading the rows of a table one after the other.
use Rattle.std.specs.Prelude.{◌≡◌, ◌⊎◌, ℕ, ◌+◌, ◌<◌, ◌≤◌, Bool, true, false, List, [], ◌∷◌, drop, slice_get, Option, None, Some, Result, MatchResult}
use Rattle.pb_base.specs.declared.layout.Layout.{Layout}
use Rattle.pb_base.specs.Record.{content, record_in}
use Rattle.pb_journal.specs.Reading.{Reading, IsReading}
use Rattle.pb_archive.specs.Archive.{Table, Archive, front, record_layout}
use Rattle.pb_archive.specs.Entry.{IsArchive, Leads}
use Rattle.pb_archive.specs.Held.{HasArchive}
use Rattle.pb_archive.specs.Rows.{SeenRow, rows_between, IsOver}
use Rattle.pb_archive.specs.declared.run.Run.{Run}

-- what contracts see of the rows that are read: the row that was read last, the number at which the next one begins, and
-- the number before which the last one ends
pub record Reader : Type 0 where
  pub row : Option SeenRow
  pub next : ℕ
  pub to : ℕ
  -- the table's place, how its records are cut, and the place of the gate that ends the entries
  pub id : ℕ
  pub layout : Layout
  pub gate : ℕ
  -- the kept records of the entry that was read last, and the entries
  pub run : Run
  pub entries : Reading

-- how many bytes of an advance come before its records
abbrev pub advance_head_len : ℕ
advance_head_len = 10

-- the content at a place of a run, whose records are in this entry
abbrev pub content_at : Run → List ℕ → ℕ → List ℕ
content_at run body k = content (record_in run.layout (drop advance_head_len body) k)

-- the number after a run's last
abbrev pub run_end : Run → ℕ
run_end run = run.first + run.count

-- the front of a table; 0 where it isn't there yet
abbrev pub front_of : Option Table → ℕ
front_of None = 0
front_of (Some t) = front t

-- After some entries, in which this was the table's front, come these, and all of them are the archive.
pub record IsAmid (id number : ℕ) (rest : List (List ℕ)) (a : Archive) : Type 0 where
  pub done : List (List ℕ)
  pub so_far : Archive
  pub entries : IsArchive done so_far
  pub leads : Leads so_far rest a
  pub reached : front_of (slice_get so_far.tables id) ≡ number

-- the same, or all are still to come
abbrev pub GoesTo : ℕ → ℕ → List (List ℕ) → Archive → Type 0
GoesTo id number rest a = (IsArchive rest a × (number ≡ 0)) ⊎ IsAmid id number rest a

-- These rows are still to come: they are those of the table in the file's archive, from the next number on.
pub record Awaits (r : Reader) (file : List ℕ) (rows : List SeenRow) : Type 0 where
  pub rest : List (List ℕ)
  pub ahead : IsReading r.entries r.gate file rest
  pub archive : Archive
  pub goes : GoesTo r.id (run_end r.run) rest archive
  pub table : Table
  pub there : slice_get archive.tables r.id ≡ Some table
  pub layout : r.layout ≡ record_layout table.definition
  pub within : r.to ≤ front table
  pub gaps : (k : ℕ) → r.next ≤ k → k < r.run.first → slice_get table.rows k ≡ Some None
  pub kept : (k : ℕ) → k < r.run.count → slice_get table.rows (r.run.first + k) ≡ Some (Some (content_at r.run r.entries.body k))
  pub left : rows ≡ rows_between table.rows r.next r.to

-- the same range of one table, through a window of the same length
pub record SameTable (old new : Reader) : Type 0 where
  pub to : new.to ≡ old.to
  pub id : new.id ≡ old.id
  pub layout : new.layout ≡ old.layout
  pub gate : new.gate ≡ old.gate
  pub held : new.entries.chunk.held ≡ old.entries.chunk.held

-- some rows are still to come, or none
abbrev pub HasRows : Reader → List ℕ → Type 0
HasRows r file = (rows : List SeenRow) × Awaits r file rows

-- Reading begins with the rows between these numbers, of the table at this place of the file's archive.
abbrev pub BeginsAt : Reader → ℕ → ℕ → ℕ → List ℕ → Type 0
BeginsAt r id from to file =
    (a : Archive) × (t : Table) × HasArchive file a × (slice_get a.tables id ≡ Some t)
    × Awaits r file (rows_between t.rows from to)

-- one row was read, or there was none left
abbrev pub ReadRow : Reader → List ℕ → List SeenRow → Bool → Type 0
ReadRow new file rows true =
    (row : SeenRow) × (rest : List SeenRow) × (rows ≡ row ∷ rest) × (new.row ≡ Some row) × Awaits new file rest
ReadRow new file rows false = (rows ≡ []) × Awaits new file rows

-- what a call reads of a file that is known; one that is refused leaves as much to be read
abbrev pub ReadsRow : {E : Type 0} → Reader → Reader → Option (List ℕ) → Result Bool E → Type 0
ReadsRow old new view result = (file : List ℕ) (rows : List SeenRow) → view ≡ Some file → Awaits old file rows
    → MatchResult result (ReadRow new file rows) (λ _. Awaits new file rows)

-- Where a call goes, whatever the disk reports: over the row that it read, or nowhere, at the end.
abbrev pub MovesOver : Reader → Reader → Bool → Type 0
MovesOver old new true = (row : SeenRow) × (new.row ≡ Some row) × IsOver row old.next new.next × (new.next ≤ new.to)
MovesOver old new false = (old.next ≡ old.to) × (new.next ≡ old.next) × (new.row ≡ None)
