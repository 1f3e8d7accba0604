-- Lists by their places.
use Rattle.std.proofs.Common.{◌≡◌, ℕ, zero, suc, List, [], ◌∷◌, ◌++◌, Some, sym, subst}
use Rattle.std.specs.Prelude.{slice_get}
use Rattle.std.proofs.lemmas.Option.{none-some}
use Rattle.pb_base.specs.History.{IsFront}

pub slice_get-append : {A : Type 0} (xs ys : List A) (n : ℕ) (x : A) → slice_get xs n ≡ Some x → slice_get (xs ++ ys) n ≡ Some x
slice_get-append [] ys n x is = absurd (none-some x is)
slice_get-append (z ∷ xs) ys zero x is = is
slice_get-append (z ∷ xs) ys (suc n) x is = slice_get-append xs ys n x is

pub slice_get-IsFront : {A : Type 0} (xs ys : List A) (n : ℕ) (x : A) → IsFront xs ys → slice_get xs n ≡ Some x → slice_get ys n ≡ Some x
slice_get-IsFront xs ys n x (more, same) is = subst (λ l. slice_get l n ≡ Some x) (sym same) (slice_get-append xs more n x is)
