-- A plan's text, a line after another.
use Rattle.std.proofs.Common.{◌≡◌, ℕ, ◌+◌, ◌<◌, List, [], ◌∷◌, ◌++◌, length, refl, sym, ap, ◌∙◌, arith, append_assoc, length-append, decimal}
use Rattle.std.specs.Prelude.{codes}
use Rattle.std.specs.List.{flat_map}
use Rattle.std.proofs.lemmas.List.{append_cancel_left}
use Rattle.pb_base.specs.Words.{Lacks}
use Rattle.pb_base.proofs.WordLemmas.{cut_one, number_next, name_byte}
use Rattle.pb_archive.specs.declared.plan.StationPlan.{StationPlan}
use Rattle.pb_archive.specs.Plan.{Plan, IsStation, IsBegun, with_station, station_line, line_feed, space}
use Rattle.pb_archive.specs.Inside.{first_of, ReadsLines, StationRefused}

pub name_lacks : (me : ℕ) (s : StationPlan) → IsStation me s → Lacks line_feed s.name
name_lacks me s is k lt at = omega (arith, name_byte _ (is.name.2 k 0 lt), at)

-- ---- lines by their parts

pub first_parts : (me via : ℕ) (rest : List ℕ) → first_of me via rest ≡ codes "self " ++ (decimal me ++ space ∷ (codes "via " ++ (decimal via ++ line_feed ∷ rest)))
first_parts me via rest =
    ap (λ (l : List ℕ). codes "self " ++ l)
    (append_assoc (decimal me) (codes " via " ++ (decimal via ++ line_feed ∷ [])) rest
    ∙ ap (λ (l : List ℕ). decimal me ++ (codes " via " ++ l)) (append_assoc (decimal via) (line_feed ∷ []) rest))

pub station_parts : (s : StationPlan) (more : List ℕ) → station_line s ++ more ≡ codes "station " ++ (decimal s.addr ++ space ∷ (decimal s.code ++ space ∷ (s.name ++ line_feed ∷ more)))
station_parts s more =
    ap (λ (l : List ℕ). codes "station " ++ l)
    (append_assoc (decimal s.addr) (space ∷ decimal s.code ++ (space ∷ s.name ++ line_feed ∷ [])) more
    ∙ ap (λ (l : List ℕ). decimal s.addr ++ space ∷ l)
    (append_assoc (decimal s.code) (space ∷ s.name ++ line_feed ∷ []) more
    ∙ ap (λ (l : List ℕ). decimal s.code ++ space ∷ l) (append_assoc s.name (line_feed ∷ []) more)))

-- ---- further lines

lines-push : (stations : List StationPlan) (s : StationPlan) (rest : List ℕ) → flat_map station_line (stations ++ s ∷ []) ++ rest ≡ flat_map station_line stations ++ (station_line s ++ rest)
lines-push [] s rest = append_assoc (station_line s) [] rest
lines-push (x ∷ xs) s rest =
    append_assoc (station_line x) (flat_map station_line (xs ++ s ∷ [])) rest
    ∙ ap (λ (l : List ℕ). station_line x ++ l) (lines-push xs s rest)
    ∙ sym (append_assoc (station_line x) (flat_map station_line xs) (station_line s ++ rest))

pub lines_start : (old : Plan) (text : List ℕ) → IsBegun old → old.stations ≡ [] → ReadsLines old text old text 2
lines_start old text begun none = record {
  me = refl;
  via = refl;
  begun = begun;
  parts = ap (λ (l : List StationPlan). flat_map station_line l ++ text) (sym none);
  place = omega (arith, ap (λ (l : List StationPlan). length l) none);
}

pub lines_more : (old draft next : Plan) (text rest after : List ℕ) (line : ℕ) (s : StationPlan) → ReadsLines old text draft rest line → rest ≡ station_line s ++ after → next ≡ with_station draft s → IsBegun next
    → ReadsLines old text next after (line + 1)
lines_more old draft next text rest after line s read bytes is begun = record {
  me = ap (λ (p : Plan). p.me) is ∙ read.me;
  via = ap (λ (p : Plan). p.via) is ∙ read.via;
  begun = begun;
  parts = read.parts
      ∙ ap (λ (l : List ℕ). flat_map station_line draft.stations ++ l) bytes
      ∙ sym (lines-push draft.stations s after)
      ∙ ap (λ (p : Plan). flat_map station_line p.stations ++ after) (sym is);
  place = omega (arith, read.place, ap (λ (p : Plan). length p.stations) is, length-append draft.stations (s ∷ []));
}

pub line_refused : (old draft : Plan) (text rest : List ℕ) (line : ℕ) → ReadsLines old text draft rest line → 0 < length rest
    → ((s : StationPlan) (more : List ℕ) → rest ≡ station_line s ++ more → IsBegun (with_station draft s) → ⊥) → StationRefused old text line
line_refused old draft text rest line read some none = record {
  before = draft;
  rest = rest;
  me = read.me;
  via = read.via;
  begun = read.begun;
  parts = read.parts;
  breaks = record { no_station = none; no_end = λ end. absurd (omega (arith, some, ap (λ (l : List ℕ). length l) end)) };
  place = read.place;
}

-- a line is read in one way
pub station_line_one : (me you : ℕ) (s t : StationPlan) (xs ys : List ℕ) → IsStation me s → IsStation you t → station_line s ++ xs ≡ station_line t ++ ys → (s ≡ t) × (xs ≡ ys)
station_line_one me you s t xs ys is it same =
    let parts = append_cancel_left (codes "station ") _ _ (sym (station_parts s xs) ∙ same ∙ station_parts t ys) in
    let addr = number_next s.addr t.addr space _ _ (omega (arith, is.addr)) (omega (arith, it.addr)) (omega arith) parts in
    let code = number_next s.code t.code space _ _ (omega (arith, is.code)) (omega (arith, it.code)) (omega arith) addr.1 in
    let name = cut_one line_feed s.name t.name xs ys code.1 (name_lacks me s is) (name_lacks you t it) in
    ((λ j. record { addr = addr.0 j; code = code.0 j; name = name.0 j }), name.1)
