-- The beginning of a list whose items pass a test.
use Rattle.std.proofs.Common.{◌≡◌, ℕ, zero, suc, ◌+◌, ◌≤◌, Bool, true, false, not, ◌&&◌, List, [], ◌∷◌, length, drop, slice_get, Some, refl, sym, ap, ◌∙◌, add-one, arith}
use Rattle.std.specs.List.{prefix_len}
use Rattle.pb_base.specs.declared.nsec.Nsec.{Nsec}
use Rattle.pb_base.specs.World.{StoredRecord}
use Rattle.pb_bmp5.specs.TrueReply.{is_before, is_between}

module _ {A : Type 0} (p : A → Bool) where
  step : (xs : List A) (n : ℕ) (x : A) → slice_get xs n ≡ Some x → p x ≡ true → prefix_len p (drop n xs) ≡ 1 + prefix_len p (drop (suc n) xs)
  step [] n x e t = absurd cc
  step (y ∷ ys) zero x e t = let same : y ≡ x = cc in rw (same, t) refl
  step (y ∷ ys) (suc n) x e t = step ys n x e t

  -- an item that passes counts
  pub prefix-step : (xs : List A) (n : ℕ) (x : A) → slice_get xs n ≡ Some x → p x ≡ true → prefix_len p (drop n xs) ≡ 1 + prefix_len p (drop (n + 1) xs)
  prefix-step xs n x e t = rw (add-one n) (step xs n x e t)

  -- an item that doesn't ends it
  pub prefix-stop : (xs : List A) (n : ℕ) (x : A) → slice_get xs n ≡ Some x → p x ≡ false → prefix_len p (drop n xs) ≡ 0
  prefix-stop [] n x e t = absurd cc
  prefix-stop (y ∷ ys) zero x e t = let same : y ≡ x = cc in rw (same, t) refl
  prefix-stop (y ∷ ys) (suc n) x e t = prefix-stop ys n x e t

  -- after the last item there is none
  pub prefix-end : (xs : List A) (n : ℕ) → length xs ≤ n → prefix_len p (drop n xs) ≡ 0
  prefix-end [] zero le = refl
  prefix-end [] (suc n) le = refl
  prefix-end (y ∷ ys) zero le = absurd (omega (arith, le))
  prefix-end (y ∷ ys) (suc n) le = prefix-end ys n (omega (arith, le))

-- whether a record's time lies in a range, by its time
pub tested : (from to t : Nsec) (r : StoredRecord) (b : Bool) → t ≡ r.time → b ≡ (not (is_before t from) && is_before t to) → is_between from to r ≡ b
tested from to t r b e h = ap (λ (u : Nsec). not (is_before u from) && is_before u to) (sym e) ∙ sym h

pub untested : (from to t : Nsec) (r : StoredRecord) (b : Bool) → t ≡ r.time → b ≡ (not (is_before t from) && is_before t to) → not (is_between from to r) ≡ not b
untested from to t r b e h = ap not (tested from to t r b e h)
