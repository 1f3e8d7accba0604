-- Rows that are read and printed one after another.
use Rattle.std.proofs.Common.{◌≡◌, ◌<◌, ◌≤◌, ℕ, Bool, true, false, List, [], ◌∷◌, ◌++◌, map, Option, Some, Result, Ok, refl, sym, ap, subst, ◌∙◌, append_assoc, arith}
use Rattle.std.specs.List.{flat_map}
use Rattle.std.proofs.lemmas.List.{append-nil}
use Rattle.std.proofs.lemmas.Grind.{flat_map-append}
use Rattle.std.proofs.lemmas.Bool.{false≢true}
use Rattle.std.proofs.lemmas.Option.{same_Some}
use Rattle.pb_io.specs.Page.{Adds, Printing}
use Rattle.pb_io.proofs.PageLemmas.{Adds-trans, Adds-as, Adds-nothing}
use Rattle.pb_tdf.specs.View.{FieldView, TableView}
use Rattle.pb_archive.specs.Reader.{Reader, Awaits, ReadRow, MovesOver}
use Rattle.pb_archive.specs.Rows.{SeenRow, kept, gap, IsOver}
use Rattle.pb_csv.specs.CsvText.{csv_row, header_fields, csv_lines, lines_text}
use Rattle.pb_csv.specs.Inside.{row_line, GoesOver, IsAtEnd, PutsRow, PutsRows, PutsFirst, PutsLines}
use Rattle.pb_csv.specs.declared.fault.ExportFault.{ExportFault}

-- the row that was read is the one that is handed out
pub row_read : (new : Reader) (file : List ℕ) (all : List SeenRow) (more : Bool) (row : SeenRow) → more ≡ true → ReadRow new file all more → new.row ≡ Some row
    → (rest : List SeenRow) × (all ≡ row ∷ rest) × Awaits new file rest
row_read new file all false row is read has = absurd (false≢true is)
row_read new file all true row is read has =
    let same = same_Some _ _ (sym read.3 ∙ has) in
    (read.1, read.2 ∙ ap (λ r. r ∷ read.1) same, read.4)

module _ (fields : List FieldView) where
  pub rows_none : (p : Printing) (r : Reader) (view : Option (List ℕ)) → PutsRows fields p p r r view
  rows_none p r view = record { given = []; adds = Adds-nothing p; goes = λ file all is awaits. (all, refl, awaits) }

  pub rows_next : (p q s : Printing) (a b c : Reader) (view : Option (List ℕ)) (row : SeenRow) → PutsRows fields p q a b view → Adds (row_line fields row) q s → GoesOver (row ∷ []) b c view → PutsRows fields p s a c view
  rows_next p q s a b c view row puts adds goes =
      let joined : flat_map (row_line fields) puts.given ++ row_line fields row ≡ flat_map (row_line fields) (puts.given ++ row ∷ []) =
      ap (λ l. flat_map (row_line fields) puts.given ++ l) (sym (append-nil (row_line fields row))) ∙ sym (flat_map-append (row_line fields) puts.given (row ∷ [])) in
      record {
        given = puts.given ++ row ∷ [];
        adds = Adds-as _ _ p s joined (Adds-trans _ _ p q s puts.adds adds);
        goes = λ file all is awaits.
            let was = puts.goes file all is awaits in
            let next = goes file was.0 is was.2 in
            (next.0, was.1 ∙ ap (λ l. puts.given ++ l) next.1 ∙ sym (append_assoc puts.given (row ∷ []) next.0), next.2);
      }

  -- none was left, or a call was refused
  pub rows_end : (p q s : Printing) (a b : Reader) (view : Option (List ℕ)) (done : Bool) → PutsRows fields p q a b view → Adds [] q s → (done ≡ true → IsAtEnd b view) → PutsFirst fields p s a view done
  rows_end p q s a b view done puts adds ends = record {
    given = puts.given;
    adds = Adds-as _ _ p s (append-nil (flat_map (row_line fields) puts.given)) (Adds-trans _ _ p q s puts.adds adds);
    known = λ file all is awaits.
        let was = puts.goes file all is awaits in
        (was.0, was.1, λ whole. ends whole file was.0 is was.2);
  }

  flat_lines : (rows : List SeenRow) → lines_text (map (λ row. row_line fields row) rows) ≡ flat_map (row_line fields) rows
  flat_lines [] = refl
  flat_lines (row ∷ rows) = ap (λ l. row_line fields row ++ l) (flat_lines rows)

  -- before the first line
  pub lines_none : (p : Printing) (r : Reader) (view : Option (List ℕ)) → PutsLines fields p p r view false
  lines_none p r view = record {
    given = [];
    lines = [];
    missing = csv_lines fields [];
    parts = refl;
    adds = Adds-nothing p;
    whole = λ is. absurd (false≢true is);
    known = λ file all is awaits. (all, refl, λ no. absurd (false≢true no));
  }

  -- the names, and then rows
  pub lines_all : (p q s : Printing) (r : Reader) (view : Option (List ℕ)) (done : Bool) → Adds (csv_row (header_fields fields)) p q → PutsFirst fields q s r view done → PutsLines fields p s r view done
  lines_all p q s r view done header puts = record {
    given = puts.given;
    lines = csv_lines fields puts.given;
    missing = [];
    parts = sym (append-nil (csv_lines fields puts.given));
    adds = Adds-as _ _ p s (ap (λ l. csv_row (header_fields fields) ++ l) (sym (flat_lines puts.given))) (Adds-trans _ _ p q s header puts.adds);
    whole = λ is. refl;
    known = puts.known;
  }

-- ---- one row, by the table and the file at the begin

module _ (f g : TableView) (p q : Printing) (old new : Reader) (v w : Option (List ℕ)) (same : f ≡ g) (known : v ≡ w) where
  as_before : (r : Result Bool ExportFault) → PutsRow f.fields p q old new v r → PutsRow g.fields p q old new w r
  as_before r puts = subst (λ (x : TableView). PutsRow x.fields p q old new w r) same (subst (λ (x : Option (List ℕ)). PutsRow f.fields p q old new x r) known puts)

  pub row_put : (more : Bool) → more ≡ true → PutsRow f.fields p q old new v (Ok more) → (row : SeenRow) × Adds (row_line g.fields row) p q × GoesOver (row ∷ []) old new w
  row_put true is puts = as_before (Ok true) puts
  row_put false is puts = absurd (false≢true is)

  pub none_put : (more : Bool) → more ≡ false → PutsRow f.fields p q old new v (Ok more) → Adds [] p q × IsAtEnd old w
  none_put true is puts = absurd (false≢true (sym is))
  none_put false is puts = as_before (Ok false) puts

-- a row has a number at least
pub over_some : (row : SeenRow) (from to : ℕ) → IsOver row from to → from < to
over_some (kept number bytes) from to over = omega (arith, over.1)
over_some (gap first end) from to over = over.2

pub moves_on : (old new : Reader) (more : Bool) → more ≡ true → MovesOver old new more → (old.next < new.next) × (new.next ≤ new.to)
moves_on old new true is moves = (over_some moves.0 old.next new.next moves.2, moves.3)
moves_on old new false is moves = absurd (false≢true is)

pub first_as : (f g : TableView) (p q : Printing) (r : Reader) (view : Option (List ℕ)) (done : Bool) → f ≡ g → PutsFirst f.fields p q r view done → PutsFirst g.fields p q r view done
first_as f g p q r view done same puts = subst (λ (t : TableView). PutsFirst t.fields p q r view done) same puts
