-- The parts of a list that is made of lists, one after another.
use Rattle.std.proofs.Common.{◌≡◌, ℕ, zero, suc, List, [], ◌∷◌, ◌++◌, take, Some, sym, ap, ◌∙◌, append_assoc}
use Rattle.std.specs.Prelude.{slice_get}
use Rattle.std.specs.List.{flat_map}
use Rattle.std.proofs.lemmas.List.Concat.{flat_map-cons}

pub part_at : {A : Type 0} (f : A → List ℕ) (xs : List A) (n : ℕ) (x : A) → slice_get xs n ≡ Some x
    → (after : List ℕ) × (flat_map f xs ≡ flat_map f (take n xs) ++ (f x ++ after))
part_at f [] n x h = absurd (let none : ⊥ = cc in none)
part_at f (y ∷ xs) zero x h =
    let same : y ≡ x = cc in
    (flat_map f xs, flat_map-cons f y xs ∙ ap (λ v. f v ++ flat_map f xs) same)
part_at f (y ∷ xs) (suc n) x h =
    let later = part_at f xs n x h in (
      later.0,
      flat_map-cons f y xs ∙ ap (λ l. f y ++ l) later.1 ∙ sym (append_assoc (f y) (flat_map f (take n xs)) (f x ++ later.0))
          ∙ ap (λ l. l ++ (f x ++ later.0)) (sym (flat_map-cons f y (take n xs))),
    )
