-- The lines of a report, one after another, and what they mean.
use Rattle.std.proofs.Common.{◌≡◌, ℕ, zero, suc, ◌+◌, ◌<◌, List, [], ◌∷◌, ◌++◌, length, get_or, take, Result, Ok, Err, OnOk, IfErr, sym, ap, ◌∙◌, subst, append-nil, arith}
use Rattle.std.specs.List.{flat_map}
use Rattle.std.proofs.lemmas.Grind.{flat_map-append}
use Rattle.pb_archive.specs.Opened.{Register}
use Rattle.pb_archive.specs.Plan.{Plan}
use Rattle.pb_collect.specs.Fetching.{Fetched, FetchedUntil}
use Rattle.pb_collect.specs.declared.fault.DefsFault.{DefsFault}
use Rattle.pb_collect.specs.declared.report.DefsLine.{DefsLine}
use Rattle.pb_io.specs.View.{View, Link}
use Rattle.pb_tool.specs.Collect.{limits_of}
use Rattle.pb_tool.specs.Defs.{Came, Reading, ReadsBy, line_text, report_text}

-- ---- lines

take_next : {A : Type 0} (xs : List A) (n : ℕ) (x : A) → n < length xs → x ≡ get_or xs n x → take (n + 1) xs ≡ take n xs ++ x ∷ []
take_next [] n x below is = absurd (omega (arith, below))
take_next (y ∷ xs) zero x below is = ap (λ z. z ∷ []) (sym is)
take_next (y ∷ xs) (suc n) x below is =
    let same : suc n + 1 ≡ suc (n + 1) = omega arith in
    ap (λ k. take k (y ∷ xs)) same ∙ ap (λ l. y ∷ l) (take_next xs n x (omega (arith, below)) is)

pub report_next : (plan : Plan) (lines : List DefsLine) (n : ℕ) (line : DefsLine) → n < length lines → line ≡ get_or lines n line
    → report_text plan (take n lines) ++ line_text plan line ≡ report_text plan (take (n + 1) lines)
report_next plan lines n line below is =
    sym (ap (λ (l : List DefsLine). flat_map (line_text plan) l) (take_next lines n line below is) ∙ flat_map-append (line_text plan) (take n lines) (line ∷ [])
    ∙ ap (λ l. flat_map (line_text plan) (take n lines) ++ l) (append-nil (line_text plan line)))

-- ---- what was read

-- the lines of a report that had none before
pub reads_by : (r : Result (Unit {0}) DefsFault) (first last : List DefsLine) (a b : View) (before after : Register) → first ≡ []
    → OnOk r ((lines : List DefsLine) × (last ≡ first ++ lines) × Fetched (limits_of 1) lines a.link b.link before after)
    → IfErr r (λ fault. (lines : List DefsLine) × (last ≡ first ++ lines) × FetchedUntil fault (limits_of 1) lines a.link b.link before after)
    → ReadsBy r last a b before after
reads_by (Ok done) first last a b before after none fetched until =
    subst (λ l. Fetched (limits_of 1) l a.link b.link before after) (sym (fetched.1 ∙ ap (λ l. l ++ fetched.0) none)) fetched.2
reads_by (Err fault) first last a b before after none fetched until =
    subst (λ l. FetchedUntil fault (limits_of 1) l a.link b.link before after) (sym (until.1 ∙ ap (λ l. l ++ until.0) none)) until.2

-- an opening leaves the link
reads_after : (r : Result (Unit {0}) DefsFault) (lines : List DefsLine) (old mid new : View) (before after : Register) → mid.link ≡ old.link → ReadsBy r lines mid new before after → ReadsBy r lines old new before after
reads_after (Ok done) lines old mid new before after same reads = subst (λ (k : Link). Fetched (limits_of 1) lines k new.link before after) same reads
reads_after (Err fault) lines old mid new before after same reads = subst (λ (k : Link). FetchedUntil fault (limits_of 1) lines k new.link before after) same reads

pub came_after : (r : Reading) (old mid new : View) → mid.link ≡ old.link → Came r mid new → Came r old new
came_after r old mid new same came = record {
  reads = reads_after r.result r.lines old mid new r.before r.after same came.reads;
  stand = came.stand;
  holds = came.holds;
}
