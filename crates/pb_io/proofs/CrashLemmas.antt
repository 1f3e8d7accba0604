-- Steps of a file, and how they follow one another.
use Rattle.std.proofs.Common.{◌≡◌, ℕ, ◌+◌, ◌≤◌, max, List, length, Option, None, Some, refl, sym, ◌∙◌, ap, subst, arith, length-drop}
use Rattle.std.proofs.lemmas.List.{length-take}
use Rattle.std.proofs.lemmas.Option.{none-some}
use Rattle.std.specs.Option.{option_map}
use Rattle.pb_io.specs.Crash.{Torn, Shortened, AriseBy, Within, Changes}
pub use Rattle.pb_io.specs.DiskLaws.{Torn-refl, length-overlaid}

pub Shortened-refl : (len : ℕ) (f : List ℕ) → Shortened len f f
Shortened-refl len f = record { before = refl; no_longer = omega arith }

-- a torn write makes a file no longer than the write would
pub Torn-no_longer : (at n : ℕ) (old new : List ℕ) → Torn at n old new → length new ≤ max (length old) (at + n)
Torn-no_longer at n old new torn = omega (arith, ap length torn.after, length-drop (at + n) new, length-drop (at + n) old)

-- a torn cut leaves at least what was to be left
pub Shortened-no_shorter : (len : ℕ) (old new : List ℕ) → Shortened len old new → len ≤ length old → len ≤ length new
Shortened-no_shorter len old new shortened le = omega (arith, ap length shortened.before, length-take len new, length-take len old)

-- what is settled after a call comes from what was there before it
pub AriseBy-within : (step : List ℕ → List ℕ → Type 0) (a b c : List ℕ → Type 0) → AriseBy step a b → Within b c → AriseBy step a c
AriseBy-within step a b c follows within x is = follows x (within x is)

pub Changes-same : (step : List ℕ → List ℕ → Type 0) (a b c : Option (List ℕ)) → Changes step a b → c ≡ b → Changes step a c
Changes-same step a b c changes is = subst (Changes step a) (sym is) changes

-- a known value of a function comes from a known argument
pub known_before : (g : List ℕ → List ℕ) (old : Option (List ℕ)) (x : List ℕ) → option_map g old ≡ Some x → (f : List ℕ) × (old ≡ Some f) × (x ≡ g f)
known_before g None x is = absurd (none-some x is)
known_before g (Some f) x is = (f, refl, cc)

-- ---- how changes of a known file follow one another

pub Changes-none : (step : List ℕ → List ℕ → Type 0) (a : Option (List ℕ)) → ((f : List ℕ) → step f f) → Changes step a a
Changes-none step a same = record { on = λ f is. (f, is, same f); back = λ f is. (f, is, same f) }

pub Changes-weaker : (step weaker : List ℕ → List ℕ → Type 0) (a b : Option (List ℕ)) → ((f g : List ℕ) → a ≡ Some f → step f g → weaker f g) → Changes step a b → Changes weaker a b
Changes-weaker step weaker a b holds changes = record {
  on = λ f is. let g = changes.on f is in (g.0, g.1, holds f g.0 is g.2);
  back = λ g is. let f = changes.back g is in (f.0, f.1, holds f.0 g f.1 f.2);
}

pub Changes-trans : (first second both : List ℕ → List ℕ → Type 0) (a b c : Option (List ℕ)) → ((f m g : List ℕ) → a ≡ Some f → b ≡ Some m → first f m → second m g → both f g) → Changes first a b → Changes second b c
    → Changes both a c
Changes-trans first second both a b c holds one two = record {
  on = λ f is. let m = one.on f is in let g = two.on m.0 m.1 in (g.0, g.1, holds f m.0 g.0 is m.1 m.2 g.2);
  back = λ g is. let m = two.back g is in let f = one.back m.0 m.1 in (f.0, f.1, holds f.0 m.0 g f.1 m.1 f.2 m.2);
}

pub Changes-mapped : (map : List ℕ → List ℕ) (a b : Option (List ℕ)) → b ≡ option_map map a → Changes (λ f g. g ≡ map f) a b
Changes-mapped map a b is = record {
  on = λ f known. (map f, is ∙ ap (option_map map) known, refl);
  back = λ g known. known_before map a g (sym is ∙ known);
}
