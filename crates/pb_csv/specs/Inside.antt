-- Steps of the calls, which no promise names.
use Rattle.std.specs.Prelude.{◌≡◌, ◌<◌, ℕ, Bool, true, false, List, [], ◌∷◌, ◌++◌, map, Option, Some, Result, Ok, Err, IfErr}
use Rattle.std.specs.List.{flat_map}
use Rattle.csv.specs.Writing.{default_writer, fields_text}
use Rattle.pb_io.specs.Page.{Adds, Printing}
use Rattle.pb_io.specs.View.{View}
use Rattle.pb_journal.specs.Inside.{Peeks}
use Rattle.pb_tdf.specs.View.{FieldView, TableView}
use Rattle.pb_value.specs.Values.{IsRecordOf}
use Rattle.pb_archive.specs.Reader.{Reader, Awaits}
use Rattle.pb_archive.specs.Rows.{SeenRow}
use Rattle.pb_archive.specs.declared.row.Row.{Row}
use Rattle.pb_archive.specs.declared.row.Row.TheVariants as row
use Rattle.pb_csv.specs.Export.{ExportRefuses, HasCauseOf}
use Rattle.pb_csv.specs.CsvText.{csv_lines, csv_row, empty_field, lines_text, row_fields}
use Rattle.pb_csv.specs.declared.fault.ExportFault.{ExportFault}
use Rattle.pb_csv.specs.declared.fault.ExportFault.TheVariants.{DiskFault, Format, Memory, WriteFault}
use Rattle.pb_archive.specs.declared.fault.ArchiveFault.{ArchiveFault}
use Rattle.pb_archive.specs.declared.fault.ArchiveFault.TheVariants as archive
use Rattle.pb_csv.specs.declared.columns.Columns.{Columns}

-- the columns have these names, and as many empty values
pub record HasNames (c : Columns) (names : List (List ℕ)) : Type 0 where
  pub names_are : c.names.items ≡ fields_text default_writer names
  pub empties_are : c.empties.items ≡ fields_text default_writer (map empty_field names)

-- a reading's fault as that of an export
abbrev pub of_archive : ArchiveFault → ExportFault
of_archive archive.DiskFault = DiskFault
of_archive (archive.Format at) = Format at
of_archive archive.NotCreated = Memory
of_archive archive.Exists = Memory
of_archive archive.MustReopen = Memory
of_archive (archive.Stopped told) = Memory
of_archive archive.TooMany = Memory
of_archive archive.Memory = Memory

-- ---- rows

-- Rows were read: the disk was only looked at, a refusal has its cause, and none is of a write.
pub record ReadsRows {T : Type 0} (old new : View) (result : Result T ExportFault) : Type 0 where
  pub peeks : Peeks old new
  pub refused : IfErr result (ExportRefuses old.file)
  pub no_write : IfErr result (λ fault. fault ≡ WriteFault → ⊥)
  pub cause : HasCauseOf DiskFault old.faults new.faults result

-- a row that can be printed: a record of the table, or a gap of at least one number
abbrev pub CanPrint : TableView → Row → Type 0
CanPrint table (row.Kept view) = IsRecordOf table view.bytes.now
CanPrint table (row.Gap from to) = from.0 < to.0

abbrev pub row_line : List FieldView → SeenRow → List ℕ
row_line fields r = csv_row (row_fields fields r)

-- what is still to come, where the file is known: after these rows
abbrev pub GoesOver : List SeenRow → Reader → Reader → Option (List ℕ) → Type 0
GoesOver given old new view = (file : List ℕ) (all : List SeenRow) → view ≡ Some file → Awaits old file all
    → (rest : List SeenRow) × (all ≡ given ++ rest) × Awaits new file rest

-- none was to come
abbrev pub IsAtEnd : Reader → Option (List ℕ) → Type 0
IsAtEnd r view = (file : List ℕ) (all : List SeenRow) → view ≡ Some file → Awaits r file all → all ≡ []

-- One row was read and added to the page; or there was none, or the call was refused, and nothing was added.
abbrev pub PutsRow : List FieldView → Printing → Printing → Reader → Reader → Option (List ℕ) → Result Bool ExportFault → Type 0
PutsRow fields p q old new view (Ok true) = (r : SeenRow) × Adds (row_line fields r) p q × GoesOver (r ∷ []) old new view
PutsRow fields p q old new view (Ok false) = Adds [] p q × IsAtEnd old view
PutsRow fields p q old new view (Err fault) = Adds [] p q

-- some rows were read and added to the page
pub record PutsRows (fields : List FieldView) (p q : Printing) (old new : Reader) (view : Option (List ℕ)) : Type 0 where
  pub given : List SeenRow
  pub adds : Adds (flat_map (row_line fields) given) p q
  pub goes : GoesOver given old new view

-- the rows that were given are the first of those that were to come, or all of them
abbrev pub GivesFirst : List SeenRow → Reader → Option (List ℕ) → Bool → Type 0
GivesFirst given r view is_whole = (file : List ℕ) (all : List SeenRow) → view ≡ Some file → Awaits r file all
    → (rest : List SeenRow) × (all ≡ given ++ rest) × (is_whole ≡ true → rest ≡ [])

-- the rows to come were added to the page; where a call was refused, the first of them
pub record PutsFirst (fields : List FieldView) (p q : Printing) (r : Reader) (view : Option (List ℕ))
    (is_whole : Bool) : Type 0 where
  pub given : List SeenRow
  pub adds : Adds (flat_map (row_line fields) given) p q
  pub known : GivesFirst given r view is_whole

-- Some lines were added to the page, each of them whole; on Ok all.
pub record PutsLines (fields : List FieldView) (p q : Printing) (r : Reader) (view : Option (List ℕ))
    (is_whole : Bool) : Type 0 where
  pub given : List SeenRow
  pub lines : List (List ℕ)
  pub missing : List (List ℕ)
  pub parts : csv_lines fields given ≡ lines ++ missing
  pub adds : Adds (lines_text lines) p q
  pub whole : is_whole ≡ true → missing ≡ []
  pub known : GivesFirst given r view is_whole
