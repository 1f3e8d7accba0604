-- Downloaded files, and the room that they are kept in.
use Rattle.std.proofs.Common.{◌≡◌, ℕ, zero, suc, ◌≤◌, ◌<◌, Bool, cond, List, [], ◌∷◌, length, take, set, get_or, slice_get, Option, Some, None, refl, sym, ap, subst, ◌∙◌, arith}
use Rattle.pb_station.specs.State.{File}
use Rattle.pb_station.specs.Files.{with_part, replaced, goes_on}
use Rattle.pb_station.specs.Inside.Steps.{Became, Becomes}

at-place : (items : List File) (used place : ℕ) (file : File) → place < used → used ≤ length items → file ≡ get_or items place file → slice_get (take used items) place ≡ Some file
at-place [] used place file lt le e = absurd (omega (arith, lt, le))
at-place (x ∷ items) zero place file lt le e = absurd (omega (arith, lt))
at-place (x ∷ items) (suc used) zero file lt le e = ap Some (sym e)
at-place (x ∷ items) (suc used) (suc place) file lt le e = at-place items used place file (omega (arith, lt)) (omega (arith, le)) e

set-front : (items : List File) (used place : ℕ) (x : File) → place < used → take used (set items place x) ≡ set (take used items) place x
set-front [] zero place x lt = refl
set-front [] (suc used) place x lt = refl
set-front (y ∷ items) zero place x lt = absurd (omega (arith, lt))
set-front (y ∷ items) (suc used) zero x lt = refl
set-front (y ∷ items) (suc used) (suc place) x lt = ap (λ ys. y ∷ ys) (set-front items used place x (omega (arith, lt)))

set-same : (items : List File) (place : ℕ) (file : File) → file ≡ get_or items place file → set items place file ≡ items
set-same [] place file e = refl
set-same (y ∷ items) zero file e = ap (λ (x : File). x ∷ items) e
set-same (y ∷ items) (suc place) file e = ap (λ ys. y ∷ ys) (set-same items place file e)

abbrev resp_of : Bool → ℕ
resp_of done = cond done 0 14

became : (items : List File) (used place : ℕ) (file new : File) (done : Bool) (w : Option File) → place < used → file ≡ get_or items place file → Became w file new done
    → Becomes (replaced (take used items) place w) (take used (set items place new)) (cond done 0 14)
became items used place file new done (Some x) lt e b =
    (set-front items used place new lt ∙ ap (set (take used items) place) b.1, ap resp_of b.0)
became items used place file new done None lt e b =
    (ap (λ (x : File). take used (set items place x)) b.1 ∙ ap (take used) (set-same items place file e), ap resp_of b.0)

pub went-on : (items : List File) (used place : ℕ) (file new : File) (offset : ℕ) (bytes : List ℕ) (done : Bool) → place < used → used ≤ length items → file ≡ get_or items place file
    → Became (with_part file offset bytes) file new done
    → Becomes (goes_on (take used items) place (slice_get (take used items) place) offset bytes) (take used (set items place new)) (cond done 0 14)
went-on items used place file new offset bytes done lt le e b =
    subst (λ (o : Option File). Becomes (goes_on (take used items) place o offset bytes) (take used (set items place new)) (cond done 0 14)) (sym (at-place items used place file lt le e))
    (became items used place file new done (with_part file offset bytes) lt e b)
