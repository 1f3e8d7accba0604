-- What an export writes, and when it is refused.
use Rattle.std.specs.Prelude.{◌≡◌, ⊤, ℕ, ◌≤◌, List, ◌++◌, slice_get, Option, Some, None, Result, Ok, Err, IsErrOf}
use Rattle.std.specs.Io.KnownBytes.{Appends}
use Rattle.pb_io.specs.Faults.{Rose}
use Rattle.pb_io.specs.Sink.{AppendsPrefix}
use Rattle.pb_tdf.specs.View.{FieldView}
use Rattle.pb_archive.specs.Archive.{Archive, Table}
use Rattle.pb_archive.specs.Held.{HasArchive}
use Rattle.pb_archive.specs.Rows.{SeenRow, rows_between}
use Rattle.pb_csv.specs.CsvText.{csv_lines, lines_text, csv_text}
use Rattle.pb_csv.specs.declared.fault.ExportFault.{ExportFault}
use Rattle.pb_csv.specs.declared.fault.ExportFault.TheVariants.{WriteFault, DiskFault, Format, Memory}

-- known bytes grew by the first of these lines, each of them whole
pub record AppendsLines (old new : Option (List ℕ)) (lines : List (List ℕ)) : Type 0 where
  pub written : List (List ℕ)
  pub missing : List (List ℕ)
  pub parts : lines ≡ written ++ missing
  pub appends : Appends old new (lines_text written)

-- What was written of these rows when an export ended: all of it; after a failed write a prefix; else whole lines.
abbrev pub Exported : List FieldView → List SeenRow → Option (List ℕ) → Option (List ℕ) → Result (Unit {0}) ExportFault → Type 0
Exported fields rows old new (Ok done) = Appends old new (csv_text fields rows)
Exported fields rows old new (Err WriteFault) = AppendsPrefix old new (csv_text fields rows)
Exported fields rows old new (Err DiskFault) = AppendsLines old new (csv_lines fields rows)
Exported fields rows old new (Err (Format at)) = AppendsLines old new (csv_lines fields rows)
Exported fields rows old new (Err Memory) = AppendsLines old new (csv_lines fields rows)

-- a range of a table of an archive
pub record Range : Type 0 where
  pub id : ℕ
  pub from : ℕ
  pub to : ℕ

-- where the file is known, the rows are those of the range in its archive
abbrev pub IsRange : Range → Option (List ℕ) → List SeenRow → Type 0
IsRange range view rows = (file : List ℕ) (a : Archive) (t : Table) → view ≡ Some file → HasArchive file a
    → slice_get a.tables range.id ≡ Some t → rows ≡ rows_between t.rows range.from range.to

-- a file that is known can be read
abbrev pub ExportRefuses : Option (List ℕ) → ExportFault → Type 0
ExportRefuses view (Format at) = view ≡ None
ExportRefuses view WriteFault = ⊤
ExportRefuses view DiskFault = ⊤
ExportRefuses view Memory = ⊤

-- The count rose where the call answers this fault. With any other answer it stays, but a failed write may follow it.
pub record HasCauseOf {T : Type 0} (fault : ExportFault) (before now : ℕ) (result : Result T ExportFault) : Type 0 where
  pub later : before ≤ now
  pub failed : IsErrOf result fault → Rose before now
  pub kept : (IsErrOf result fault → ⊥) → (IsErrOf result WriteFault → ⊥) → now ≡ before
