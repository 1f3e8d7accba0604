-- What an export of a range has written.
use Rattle.std.proofs.Common.{◌≡◌, ℕ, Bool, true, List, [], ◌∷◌, ◌++◌, map, Option, Some, None, Result, Ok, Err, is_ok, refl, sym, ap, subst, ◌∙◌, append_assoc}
use Rattle.std.specs.Prelude.{slice_get, IfErr}
use Rattle.std.specs.Io.KnownBytes.{Appends}
use Rattle.std.proofs.KnownBytes.{Appends-nil}
use Rattle.std.proofs.lemmas.List.{append-nil}
use Rattle.std.proofs.lemmas.Grind.{flat_map-append}
use Rattle.std.proofs.lemmas.Option.{none-some, same_Some}
use Rattle.pb_io.specs.Outside.{Output}
use Rattle.pb_io.specs.Page.{Waiting, Printing, Adds, blank}
use Rattle.pb_io.specs.Sink.{AppendsPrefix}
use Rattle.pb_io.proofs.PageLemmas.{Adds-flushed, Appends-flushed, BreaksOff-flushed}
use Rattle.pb_journal.proofs.LawLemmas.{one_list}
use Rattle.pb_tdf.specs.View.{FieldView, TableView}
use Rattle.pb_archive.specs.Archive.{Archive, Table}
use Rattle.pb_archive.specs.Entry.{IsArchive}
use Rattle.pb_archive.specs.Held.{HasArchive}
use Rattle.pb_archive.specs.Opened.{Register, Stands, held_of}
use Rattle.pb_archive.specs.Reader.{Reader, BeginsAt}
use Rattle.pb_archive.specs.Rows.{SeenRow, rows_between}
use Rattle.pb_archive.specs.declared.held.Held.{Held}
use Rattle.pb_archive.proofs.LeadsLemmas.{one_archive}
use Rattle.pb_archive.proofs.OpeningLemmas.{rests_entries}
use Rattle.pb_archive.proofs.RegisterLemmas.{at_before}
use Rattle.pb_csv.specs.CsvText.{csv_row, header_fields, csv_lines, csv_text, lines_text}
use Rattle.pb_csv.specs.Export.{AppendsLines, Exported, Range, IsRange}
use Rattle.pb_csv.specs.Inside.{row_line, PutsLines}
use Rattle.pb_csv.specs.declared.fault.ExportFault.{ExportFault}
use Rattle.pb_csv.specs.declared.fault.ExportFault.TheVariants.{WriteFault, DiskFault, Format, Memory}

-- ---- the rows of a range

same_archive : (f : List ℕ) (a b : Archive) → HasArchive f a → HasArchive f b → a ≡ b
same_archive f a b one other =
    one_archive one.bodies a b one.archive (subst (λ l. IsArchive l b) (one_list f other.bodies one.bodies other.entries one.entries) other.archive)

module _ (range : Range) where
  rows_are : (f : List ℕ) (a : Archive) (t : Table) → HasArchive f a → slice_get a.tables range.id ≡ Some t → IsRange range (Some f) (rows_between t.rows range.from range.to)
  rows_are f a t has there = λ file b u is other found.
      let same_file : file ≡ f = sym (same_Some _ _ is) in
      let same : a ≡ b = same_archive f a b has (subst (λ x. HasArchive x b) same_file other) in
      let table : t ≡ u = same_Some _ _ (sym there ∙ ap (λ (x : Archive). slice_get x.tables range.id) same ∙ found) in
      ap (λ (x : Table). rows_between x.rows range.from range.to) table

  -- there are such rows, also where the file isn't known
  pub range_rows : (view : Option (List ℕ)) (register : Register) (gate : ℕ) (held : Held) → ((f : List ℕ) → view ≡ Some f → Stands register gate f) → slice_get register.tables range.id ≡ Some held
      → (rows : List SeenRow) × IsRange range view rows
  range_rows None register gate held stands is = ([], λ file a t known has there. absurd (none-some file known))
  range_rows (Some f) register gate held stands is =
      let s = stands f refl in
      let t = at_before held_of s.archive.tables range.id held (ap (λ (r : Register). slice_get r.tables range.id) (sym s.same) ∙ is) in
      (rows_between t.0.rows range.from range.to, rows_are f s.archive t.0 (record { bodies = s.bodies; entries = rests_entries gate s.bodies f s.rests; archive = s.entries }) t.1)

  -- ---- lines

  module _ (fields : List FieldView) where
    map-append : (xs ys : List SeenRow) → map (row_line fields) (xs ++ ys) ≡ map (row_line fields) xs ++ map (row_line fields) ys
    map-append [] ys = refl
    map-append (x ∷ xs) ys = ap (λ l. row_line fields x ∷ l) (map-append xs ys)

    -- the lines that were added are the first of those of these rows
    pub record Picked (view : Option (List ℕ)) (lines : List (List ℕ)) (done : Bool) : Type 0 where
      pub rows : List SeenRow
      pub range_is : IsRange range view rows
      pub missing : List (List ℕ)
      pub parts : csv_lines fields rows ≡ lines ++ missing
      pub whole : done ≡ true → missing ≡ []

    pub picked : (view : Option (List ℕ)) (r : Reader) (p q : Printing) (done : Bool) → ((f : List ℕ) → view ≡ Some f → BeginsAt r range.id range.from range.to f) → (puts : PutsLines fields p q r view done) → Picked view puts.lines done
    picked None r p q done begins puts = record {
      rows = puts.given;
      range_is = λ file a t known has there. absurd (none-some file known);
      missing = puts.missing;
      parts = puts.parts;
      whole = puts.whole;
    }
    picked (Some f) r p q done begins puts =
        let b = begins f refl in
        let all = rows_between b.1.rows range.from range.to in
        let known = puts.known f all refl b.4 in
        record {
          rows = all;
          range_is = rows_are f b.0 b.1 b.2 b.3;
          missing = puts.missing ++ map (row_line fields) known.0;
          parts = ap (csv_lines fields) known.1 ∙ ap (λ l. csv_row (header_fields fields) ∷ l) (map-append puts.given known.0)
              ∙ ap (λ l. l ++ map (row_line fields) known.0) puts.parts ∙ append_assoc puts.lines puts.missing (map (row_line fields) known.0);
          whole = λ is. ap (λ l. l ++ map (row_line fields) known.0) (puts.whole is) ∙ ap (map (row_line fields)) (known.2 is);
        }

    -- ---- what was written

    pub none_written : (rows : List SeenRow) (old : Option (List ℕ)) → AppendsLines old old (csv_lines fields rows)
    none_written rows old = record { written = []; missing = csv_lines fields rows; parts = refl; appends = Appends-nil old }

    module _ (view : Option (List ℕ)) (lines : List (List ℕ)) (done : Bool) (p : Picked view lines done) where
      lines_are : csv_text fields p.rows ≡ lines_text lines ++ lines_text p.missing
      lines_are = ap lines_text p.parts ∙ flat_map-append (λ line. line) lines p.missing

      pub flushed : (old new : Option (List ℕ)) (result : Result (Unit {0}) ExportFault) → done ≡ is_ok result → IfErr result (λ fault. fault ≡ WriteFault → ⊥) → Appends old new (lines_text lines)
          → Exported fields p.rows old new result
      flushed old new (Ok u) whole no_write adds =
          subst (Appends old new) (sym (append-nil (lines_text lines)) ∙ ap (λ l. lines_text lines ++ lines_text l) (sym (p.whole whole)) ∙ sym lines_are) adds
      flushed old new (Err WriteFault) whole no_write adds = absurd (no_write refl)
      flushed old new (Err DiskFault) whole no_write adds = record { written = lines; missing = p.missing; parts = p.parts; appends = adds }
      flushed old new (Err (Format at)) whole no_write adds = record { written = lines; missing = p.missing; parts = p.parts; appends = adds }
      flushed old new (Err Memory) whole no_write adds = record { written = lines; missing = p.missing; parts = p.parts; appends = adds }

      pub broken : (old new : Option (List ℕ)) → AppendsPrefix old new (lines_text lines) → AppendsPrefix old new (csv_text fields p.rows)
      broken old new prefix = (
        prefix.0,
        prefix.1 ++ lines_text p.missing,
        lines_are ∙ ap (λ l. l ++ lines_text p.missing) prefix.2 ∙ append_assoc prefix.0 prefix.1 (lines_text p.missing),
        prefix.3,
      )

-- ---- an export that ends

pub lines_as : (f g : TableView) (p q : Printing) (r : Reader) (view : Option (List ℕ)) (done : Bool) → f ≡ g → PutsLines f.fields p q r view done → PutsLines g.fields p q r view done
lines_as f g p q r view done same puts = subst (λ (t : TableView). PutsLines t.fields p q r view done) same puts

module _ (range : Range) (fields : List FieldView) (view : Option (List ℕ)) (r : Reader) (begins : (f : List ℕ) → view ≡ Some f → BeginsAt r range.id range.from range.to f)
    (page gathered left : Waiting) (o n m : Output) (result : Result (Unit {0}) ExportFault) (new : page ≡ blank)
    (puts : PutsLines fields (record { page = page; out = o }) (record { page = gathered; out = n }) r view (is_ok result))
    (flush : Adds [] (record { page = gathered; out = n }) (record { page = left; out = m })) where
  all_added : Adds (lines_text puts.lines) (record { page = blank; out = o }) (record { page = left; out = m })
  all_added = Adds-flushed (lines_text puts.lines) page gathered left o n m new puts.adds flush

  pub written : left ≡ blank → IfErr result (λ fault. fault ≡ WriteFault → ⊥) → (rows : List SeenRow) × IsRange range view rows × Exported fields rows o.written m.written result
  written empty no_write =
      let p = picked range fields view r _ _ (is_ok result) begins puts in
      (p.rows, p.range_is, flushed range fields view puts.lines (is_ok result) p o.written m.written result refl no_write (Appends-flushed (lines_text puts.lines) left o m empty all_added))

  pub cut_off : left.failed ≡ true → (rows : List SeenRow) × IsRange range view rows × AppendsPrefix o.written m.written (csv_text fields rows)
  cut_off failed =
      let p = picked range fields view r _ _ (is_ok result) begins puts in
      (p.rows, p.range_is, broken range fields view puts.lines (is_ok result) p o.written m.written (BreaksOff-flushed (lines_text puts.lines) left o m failed all_added).prefix)
