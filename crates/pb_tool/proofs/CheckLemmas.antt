-- The lines of an archive's tables, one after another.
use Rattle.std.proofs.Common.{◌≡◌, ℕ, zero, suc, ◌+◌, ◌<◌, ◌≤◌, List, [], ◌∷◌, ◌++◌, length, take, Option, Some, Result, Ok, Err, OnOk, IfOk, IfErr, refl, sym, ap, ◌∙◌, subst, arith}
use Rattle.std.specs.Prelude.{slice_get}
use Rattle.std.specs.List.{flat_map}
use Rattle.std.proofs.lemmas.List.{append-nil, take_all}
use Rattle.std.proofs.lemmas.Grind.{flat_map-append}
use Rattle.pb_archive.specs.Opened.{Register, OpenArchive, IsOpen, Stands, register_of}
use Rattle.pb_archive.specs.Refusals.{OpenRefuses}
use Rattle.pb_archive.specs.declared.fault.ArchiveFault.{ArchiveFault}
use Rattle.pb_io.specs.Crash.{Changes}
use Rattle.pb_io.specs.View.{View}
use Rattle.pb_journal.specs.Changes.{SameEntries}
use Rattle.pb_journal.specs.Entries.{Entries}
use Rattle.pb_journal.proofs.LawLemmas.{one_list}
use Rattle.pb_journal.proofs.EntryLemmas.{rests_entries}
use Rattle.pb_archive.specs.Plan.{Plan}
use Rattle.pb_archive.specs.declared.held.Held.{Held}
use Rattle.pb_io.specs.Page.{Printing, Adds}
use Rattle.pb_io.proofs.PageLemmas.{Adds-nothing, Adds-as, Adds-trans}
use Rattle.pb_tool.specs.Check.{table_text, check_text, answered, IsKeptOf, Means}

pub lines-none : (plan : Plan) (a : Printing) → Adds (flat_map (table_text plan) []) a a
lines-none plan a = Adds-nothing a

take-next : (tables : List Held) (n : ℕ) (t : Held) → slice_get tables n ≡ Some t → take (n + 1) tables ≡ take n tables ++ t ∷ []
take-next [] n t is = absurd cc
take-next (x ∷ tables) zero t is = ap (λ (h : Held). h ∷ []) (some_is x t is)
  where
    some_is : (x t : Held) → ◌≡◌ {A = Option Held} (Some x) (Some t) → x ≡ t
    some_is x t e = cc
take-next (x ∷ tables) (suc n) t is =
    let same : suc n + 1 ≡ suc (n + 1) = omega arith in
    ap (λ k. take k (x ∷ tables)) same ∙ ap (λ (l : List Held). x ∷ l) (take-next tables n t is)

pub there : (tables : List Held) (n : ℕ) → n < length tables → (t : Held) × (slice_get tables n ≡ Some t)
there [] n h = absurd (omega arith)
there (x ∷ tables) zero h = (x, refl)
there (x ∷ tables) (suc n) h = there tables n (omega arith)

pub lines-next : (plan : Plan) (tables : List Held) (n : ℕ) (t : Held) (a b c : Printing) → slice_get tables n ≡ Some t → Adds (flat_map (table_text plan) (take n tables)) a b
    → Adds (table_text plan t) b c → Adds (flat_map (table_text plan) (take (n + 1) tables)) a c
lines-next plan tables n t a b c is f g =
    Adds-as _ _ a c
    (sym (ap (λ (l : List Held). flat_map (table_text plan) l) (take-next tables n t is) ∙ flat_map-append (table_text plan) (take n tables) (t ∷ [])
    ∙ ap (λ l. flat_map (table_text plan) (take n tables) ++ l) (append-nil (table_text plan t))))
    (Adds-trans _ _ a b c f g)

pub lines-all : (r : Register) (n : ℕ) (a b : Printing) → length r.tables ≤ n → Adds (flat_map (table_text r.plan) (take n r.tables)) a b → Adds (check_text r) a b
unfolding check_text
lines-all r n a b all f = Adds-as _ _ a b (ap (λ (l : List Held). flat_map (table_text r.plan) l) (take_all n r.tables all)) f

-- ---- the archive that was opened

kept_before : (r : Register) (gate : ℕ) (old new : List ℕ) → SameEntries old new → Stands r gate new → IsKeptOf r old
kept_before r gate old new same stands =
    let one = one_list new stands.bodies same.0 (rests_entries gate stands.bodies new stands.rests) same.2 in (
      stands.archive,
      record { bodies = stands.bodies; entries = subst (λ (b : List (List ℕ)). Entries old b) (sym one) same.1; archive = stands.entries },
      stands.same,
    )

pub means_of : (r : Result OpenArchive ArchiveFault) (old : Option (List ℕ)) (new : View) → OnOk r (Changes SameEntries old new.file) → IfOk r (λ o. IsOpen o new)
    → IfErr r (OpenRefuses old) → Means (answered r) old
means_of (Ok o) old new same opened refused = λ f is.
    let g = same.on f is in
    kept_before (register_of o) o.journal.gate f g.0 g.2 (opened.stands g.0 g.1)
means_of (Err fault) old new same opened refused = refused
