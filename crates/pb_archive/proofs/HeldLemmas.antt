-- What is kept of tables, and what changes make of it.
use Rattle.std.proofs.Common.{◌≡◌, ℕ, zero, suc, ◌<◌, List, [], ◌∷◌, length, get_or, set, Some, refl, sym, ap, subst, ◌∙◌, arith}
use Rattle.std.specs.Prelude.{slice_get}
use Rattle.std.specs.List.{AllByRecursion}
use Rattle.std.proofs.lemmas.Option.{none-some, same_Some}
use Rattle.pb_archive.specs.Archive.{changed_at}
use Rattle.pb_archive.specs.Entry.{Advance, Advanced}
use Rattle.pb_archive.specs.Inside.{IsHeld, IsRegister, CanAdvanceHere}
use Rattle.pb_archive.specs.Opened.{Register, register_after, advanced}
use Rattle.pb_archive.specs.declared.held.Held.{Held}

module _ {A : Type 0} where
  pub set_changed_at : (f : A → A) (xs : List A) (i : ℕ) (x d : A) → i < length xs → x ≡ get_or xs i d → set xs i (f x) ≡ changed_at i f xs
  set_changed_at f [] i x d lt is = absurd (omega arith)
  set_changed_at f (y ∷ xs) zero x d lt is = ap (λ (z : A). f z ∷ xs) is
  set_changed_at f (y ∷ xs) (suc i) x d lt is = ap (λ (l : List A). y ∷ l) (set_changed_at f xs i x d (omega arith) is)

  pub length-changed_at : (f : A → A) (xs : List A) (i : ℕ) → length (changed_at i f xs) ≡ length xs
  length-changed_at f [] i = refl
  length-changed_at f (x ∷ xs) zero = refl
  length-changed_at f (x ∷ xs) (suc i) = ap suc (length-changed_at f xs i)

  pub Each-changed_at : (P : A → Type 0) (f : A → A) (xs : List A) (i : ℕ) → ((x : A) → slice_get xs i ≡ Some x → P x → P (f x)) → AllByRecursion P xs → AllByRecursion P (changed_at i f xs)
  Each-changed_at P f [] i holds each = each
  Each-changed_at P f (x ∷ xs) zero holds each = (holds x refl each.0, each.1)
  Each-changed_at P f (x ∷ xs) (suc i) holds each = (each.0, Each-changed_at P f xs i holds each.1)

  pub Each-get : (P : A → Type 0) (xs : List A) (i : ℕ) (x : A) → slice_get xs i ≡ Some x → AllByRecursion P xs → P x
  Each-get P [] i x is each = absurd (none-some x is)
  Each-get P (y ∷ xs) zero x is each = subst P (same_Some _ _ is) each.0
  Each-get P (y ∷ xs) (suc i) x is each = Each-get P xs i x is each.1

-- an advance that may follow
pub register_advanced : (r : Register) (id : ℕ) (a : Advance) (x : Held) → IsRegister r → slice_get r.tables id ≡ Some x → CanAdvanceHere x a → IsRegister (register_after r (Advanced id a))
register_advanced r id a x kept there can = record {
  each = Each-changed_at (IsHeld r.plan) (advanced a) r.tables id
      (λ y is held. let same = same_Some _ _ (sym is ∙ there) in let c : CanAdvanceHere y a = subst (λ z. CanAdvanceHere z a) (sym same) can in record {
        there = held.there;
        layout = held.layout;
        gaps = omega (arith, held.gaps, c.first);
        numbers = c.numbers;
      }) kept.each;
  few = omega (arith, kept.few, length-changed_at (advanced a) r.tables id);
}
