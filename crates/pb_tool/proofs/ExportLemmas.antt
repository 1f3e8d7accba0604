-- An export after the opening of its archive.
use Rattle.std.proofs.Common.{◌≡◌, ℕ, List, Option, None, Some, Result, Ok, Err, refl, sym, ap, ◌∙◌, subst, arith}
use Rattle.std.proofs.lemmas.Option.{none-some}
use Rattle.pb_archive.specs.Archive.{Archive}
use Rattle.pb_archive.specs.Held.{HasArchive}
use Rattle.pb_archive.specs.Opened.{Register}
use Rattle.pb_archive.specs.Rows.{SeenRow, rows_between}
use Rattle.pb_archive.specs.declared.held.Held.{Held}
use Rattle.pb_base.specs.declared.numbers.TableId.{TableId}
use Rattle.pb_csv.specs.Export.{Exported, IsRange, Range}
use Rattle.pb_csv.specs.declared.fault.ExportFault.{ExportFault}
use Rattle.pb_csv.specs.declared.fault.ExportFault.TheVariants.{WriteFault, DiskFault, Format, Memory}
use Rattle.pb_io.specs.Crash.{Changes}
use Rattle.pb_io.specs.Outside.{Output, Talk}
use Rattle.pb_io.specs.Settled.{LeftBy, Leaves}
use Rattle.pb_io.specs.View.{View, IsLawful}
use Rattle.pb_io.proofs.Moments.{LeavesOnly-trans}
use Rattle.pb_journal.specs.Changes.{Keeps, Same, SameEntries}
use Rattle.pb_journal.proofs.LawLemmas.{one_list}
use Rattle.pb_archive.specs.Entry.{IsArchive}
use Rattle.pb_tdf.specs.View.{FieldView}
use Rattle.pb_tool.specs.Export.{Asked, Exports, ExportsNamed, HasCause, first_number, end_number, range_of}
use Rattle.pb_tool.specs.declared.status.Status.{Status}
use Rattle.pb_tool.specs.declared.words.Numbers.{Numbers}

-- ---- the range

pub range_is : (id : ℕ) (numbers : Option Numbers) (held : Held) (from to : ℕ) (view : Option (List ℕ)) (rows : List SeenRow) → from ≡ first_number numbers held.front → to ≡ end_number numbers held.front
    → IsRange (record { id = id; from = from; to = to }) view rows → IsRange (range_of id numbers held) view rows
range_is id numbers held from to view rows from_is to_is are = λ file a t is has there.
    are file a t is has there ∙ ap (λ k. rows_between t.rows k to) from_is ∙ ap (λ k. rows_between t.rows (first_number numbers held.front) k) to_is

pub ended_as : (fields : List FieldView) (rows : List SeenRow) (old new : Option (List ℕ)) (e f : ExportFault) → e ≡ f → Exported fields rows old new (Err e) → Exported fields rows old new (Err f)
ended_as fields rows old new e f is ended = subst (λ (x : ExportFault). Exported fields rows old new (Err x)) is ended

-- ---- from the file before the opening

same_has : (old new : List ℕ) (a : Archive) → SameEntries old new → HasArchive old a → HasArchive new a
same_has old new a same has = record {
  bodies = same.0;
  entries = same.2;
  archive = subst (λ (b : List (List ℕ)). IsArchive b a) (one_list old has.bodies same.0 has.entries same.1) has.archive;
}

range_before : (range : Range) (old new : Option (List ℕ)) (rows : List SeenRow) → Changes SameEntries old new → IsRange range new rows → IsRange range old rows
range_before range old new rows same are = λ file a t is has there.
    let on = same.on file is in
    are on.0 a t on.1 (same_has file on.0 a on.2 has) there

none_before : (old new : Option (List ℕ)) → Changes SameEntries old new → new ≡ None → old ≡ None
none_before None new same none = refl
none_before (Some file) new same none = let on = same.on file refl in absurd (none-some on.0 (sym none ∙ on.1))

cause_before : (ended : Result Unit ExportFault) (old mid new : View) → Changes SameEntries old.file mid.file → mid.faults ≡ old.faults → HasCause ended mid new → HasCause ended old new
cause_before (Ok done) old mid new same faults cause = tt
cause_before (Err WriteFault) old mid new same faults cause = tt
cause_before (Err DiskFault) old mid new same faults cause = omega (arith, faults, cause)
cause_before (Err (Format at)) old mid new same faults cause = none_before old.file mid.file same cause
cause_before (Err Memory) old mid new same faults cause = tt

exports_before : (asked : Asked) (r : Register) (id : ℕ) (result : Status) (old mid : View) (out : Output) (new : Talk) → Changes SameEntries old.file mid.file → mid.faults ≡ old.faults
    → Exports asked r id result (record { site = mid; out = out }) new → Exports asked r id result (record { site = old; out = out }) new
exports_before asked r id result old mid out new same faults x = record {
  held = x.held;
  there = x.there;
  rows = x.rows;
  are = range_before (range_of id asked.numbers x.held) old.file mid.file x.rows same x.are;
  ended = x.ended;
  cause = cause_before x.ended old mid new.site same faults x.cause;
  writes = x.writes;
}

pub named_before : (asked : Asked) (r : Register) (place : Option TableId) (result : Status) (old mid : View) (out : Output) (new : Talk) → Changes SameEntries old.file mid.file → mid.faults ≡ old.faults
    → ExportsNamed asked r place result (record { site = mid; out = out }) new → ExportsNamed asked r place result (record { site = old; out = out }) new
named_before asked r None result old mid out new same faults x = x
named_before asked r (Some id) result old mid out new same faults x = exports_before asked r id.0 result old mid out new same faults x

-- ---- crashes

pub leaves_then : (old mid new : View) → IsLawful mid → Leaves Keeps old mid → Leaves Same mid new → Leaves Keeps old new
leaves_then old mid new lawful first second =
    LeavesOnly-trans old mid new (LeftBy Keeps old) (LeftBy Same mid) (LeftBy Keeps old) first second (λ w c p. p)
    (λ w c p. subst (λ f. LeftBy Keeps old w f) (sym p.1.2) (first.each w p.1.0 (lawful.counts_now old.moment w p.1.0 first.later p.0 p.1.1)))
