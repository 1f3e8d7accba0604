-- The writing calls: the entry that each adds, and the archive after it.
use Rattle.std.proofs.Common.{◌≡◌, ℕ, ◌<◌, ◌^◌, false, List, [], ◌∷◌, ◌++◌, length, Some, sym, ap, subst, ◌∙◌}
use Rattle.std.proofs.lemmas.List.{append-nil}
use Rattle.std.specs.Prelude.{slice_get}
use Rattle.std.specs.List.{AllByRecursion}
use Rattle.pb_io.specs.View.{View}
use Rattle.pb_tdf.specs.Definition.{Definition, IsTable}
use Rattle.pb_tdf.specs.View.{TableView, view_of}
use Rattle.pb_archive.specs.Entry.{Advance, Change, Added, Advanced, Stopped, half, word, table_kind, advance_kind, change_bytes, tables_max}
use Rattle.pb_archive.specs.Inside.{IsSpelled, IsEntryOf, HasWritten}
use Rattle.pb_archive.specs.Opened.{Register, OpenArchive, register_of, register_after, Stands, IsOpen, GoesOn, IsOther, HasLayout, CanAdvanceHere}
use Rattle.pb_archive.specs.Refusals.{NeedsOpening}
use Rattle.pb_archive.specs.Writing.{LeavesMade}
use Rattle.pb_archive.specs.declared.held.Held.{Held}
use Rattle.pb_archive.specs.declared.table_view.Stop.{Stop}

module _ (r : Register) where
  pub stop_entry : (id : ℕ) (stop : Stop) (body : List ℕ) → GoesOn r id → IsSpelled (Stopped id stop) → body ≡ change_bytes (Stopped id stop) → IsEntryOf r (Stopped id stop) (body ++ [])
  stop_entry id stop body going spelled bytes = record { allows = going; spelled = spelled; bytes = append-nil body ∙ bytes }

  pub advance_entry : (id : ℕ) (a : Advance) (head : List ℕ) → GoesOn r id → ((held : Held) → slice_get r.tables id ≡ Some held → CanAdvanceHere held a) → IsSpelled (Advanced id a)
      → head ≡ advance_kind ∷ (half id ++ a.form ∷ (word a.first ++ half a.count)) → IsEntryOf r (Advanced id a) (head ++ a.bytes)
  advance_entry id a head going follows spelled is = record {
    allows = (going.0, going.1, follows going.0 going.1.there);
    spelled = spelled;
    bytes = ap (λ (l : List ℕ). l ++ a.bytes) is;
  }

  pub table_entry : (station number : ℕ) (table : TableView) (d : Definition) (head bytes : List ℕ) → IsTable d → table ≡ view_of d → station < length r.plan.stations → AllByRecursion (IsOther station number) r.tables → HasLayout table
      → length r.tables < tables_max → (station < 2 ^ 8) × (number < 2 ^ 16) → head ≡ table_kind ∷ station ∷ half number → bytes ≡ table.bytes → IsEntryOf r (Added station number d) (head ++ bytes)
  table_entry station number table d head bytes is seen there new layout room ranges head_is bytes_is = record {
    allows = record { there = there; new = new; collected = subst HasLayout seen layout; room = room };
    spelled = (ranges.0, ranges.1, is);
    bytes = ap (λ (l : List ℕ). l ++ bytes) head_is ∙ ap (λ (l : List ℕ). table_kind ∷ station ∷ (half number ++ l)) (bytes_is ∙ ap (λ (t : TableView). t.bytes) seen);
  }

pub opened_after : (old new : View) (o : OpenArchive) (r : Register) (change : Change) (gate : ℕ) → HasWritten change r gate old new → register_of o ≡ register_after r change → o.journal.gate ≡ gate → IsOpen o new
opened_after old new o r change gate written same at = record {
  stands = λ f view. subst (λ (x : Register). Stands x o.journal.gate f) (sym same) (subst (λ (n : ℕ). Stands (register_after r change) n f) (sym at) (written.stands f view));
  settled = written.wrote.settled;
}

pub made_by : (old new : View) (o : OpenArchive) (r : Register) (change : Change) (gate : ℕ) → HasWritten change r gate old new → register_of o ≡ register_after r change → o.journal.gate ≡ gate → NeedsOpening o false
    → LeavesMade (register_after r change) o new
made_by old new o r change gate written same at usable = record { changed = same; opened = opened_after old new o r change gate written same at; usable = usable }
