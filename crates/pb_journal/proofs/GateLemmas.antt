-- What the bytes at a gate say of what is there.
use Rattle.std.proofs.Common.{◌≡◌, ℕ, ◌+◌, ◌-◌, ◌*◌, ◌/◌, ◌%◌, ◌<◌, ◌≤◌, min, List, [], ◌∷◌, length, take, drop, get_or, refl, sym, ◌∙◌, ap, subst, arith, length-take-le, length-drop, take-append-drop}
use Rattle.std.proofs.lemmas.List.{take-take}
use Rattle.pb_journal.specs.Inside.{IsEntry, part}
use Rattle.pb_journal.specs.Entries.{open_gate}

-- a length of two bytes
high_of : (n high low : ℕ) → low < 256 → n ≡ high * 256 + low → n / 256 ≡ high
high_of n high low small is = omega arith

low_of : (n high low : ℕ) → low < 256 → n ≡ high * 256 + low → n % 256 ≡ low
low_of n high low small is = omega arith

entry_at : (size high low : ℕ) (rest : List ℕ) → high < 256 → low < 256 → size ≡ high * 256 + low → 0 < size → size < length rest → IsEntry (open_gate ∷ 0 ∷ 0 ∷ high ∷ low ∷ rest) size
entry_at size high low rest large small is some more =
    let body = take size rest in
    let size_is : length body ≡ size = length-take-le size rest (omega arith) in
    record {
      body = body;
      rest = drop size rest;
      bytes = sym (λ i. open_gate ∷ 0 ∷ 0 ∷ high_of (length body) high low small (size_is ∙ is) i ∷ low_of (length body) high low small (size_is ∙ is) i ∷ take-append-drop size rest i);
      fit = (omega (arith, size_is), omega (arith, size_is));
      length_is = size_is;
      more = omega (arith, length-drop size rest);
    }

-- the five bytes at an open gate whose length is below 65,536
pub record IsFront (prefix : List ℕ) : Type 0 where
  pub opened_gate : get_or prefix 0 0 ≡ open_gate
  pub first : get_or prefix 1 0 ≡ 0
  pub second : get_or prefix 2 0 ≡ 0
  pub large : get_or prefix 3 0 < 256
  pub small : get_or prefix 4 0 < 256
  pub some : 0 < get_or prefix 3 0 * 256 + get_or prefix 4 0

pub entry_by_prefix : (tail prefix : List ℕ) (left : ℕ) → length tail ≡ left → prefix ≡ take (min left 5) tail → IsFront prefix → 5 + (get_or prefix 3 0 * 256 + get_or prefix 4 0) < left → IsEntry tail (get_or prefix 3 0 * 256 + get_or prefix 4 0)
entry_by_prefix tail prefix left size is bytes more =
    let whole : min left 5 ≡ 5 = omega arith in
    five tail (is ∙ ap (λ (n : ℕ). take n tail) whole) (omega (arith, size))
  where
    five : (tail : List ℕ) → prefix ≡ take 5 tail → 5 + (get_or prefix 3 0 * 256 + get_or prefix 4 0) < length tail → IsEntry tail (get_or prefix 3 0 * 256 + get_or prefix 4 0)
    five [] is more = absurd (omega arith)
    five (a ∷ []) is more = absurd (omega arith)
    five (a ∷ b ∷ []) is more = absurd (omega arith)
    five (a ∷ b ∷ c ∷ []) is more = absurd (omega arith)
    five (a ∷ b ∷ c ∷ d ∷ []) is more = absurd (omega arith)
    five (a ∷ b ∷ c ∷ d ∷ e ∷ rest) is more =
        let at = λ (k : ℕ). ap (λ (l : List ℕ). get_or l k 0) is in
        let gate : open_gate ≡ a = sym bytes.opened_gate ∙ at 0 in
        let one : 0 ≡ b = sym bytes.first ∙ at 1 in
        let two : 0 ≡ c = sym bytes.second ∙ at 2 in
        let high : get_or prefix 3 0 ≡ d = at 3 in
        let low : get_or prefix 4 0 ≡ e = at 4 in
        let prefix_is : open_gate ∷ 0 ∷ 0 ∷ get_or prefix 3 0 ∷ get_or prefix 4 0 ∷ rest ≡ a ∷ b ∷ c ∷ d ∷ e ∷ rest = (λ i. gate i ∷ one i ∷ two i ∷ high i ∷ low i ∷ rest) in
        subst (λ (l : List ℕ). IsEntry l (get_or prefix 3 0 * 256 + get_or prefix 4 0)) prefix_is
        (entry_at (get_or prefix 3 0 * 256 + get_or prefix 4 0) (get_or prefix 3 0) (get_or prefix 4 0) rest bytes.large bytes.small refl bytes.some (omega arith))

-- the first bytes of what is left of a file
pub part-prefix : (f : List ℕ) (place end count : ℕ) → place < end → end ≤ length f → count ≡ min (end - place) 5 → take count (drop place f) ≡ take (min (end - place) 5) (part f place end)
part-prefix f place end count lt le is = ap (λ (n : ℕ). take n (drop place f)) is ∙ sym (take-take (min (end - place) 5) (end - place) (drop place f) (omega arith))

pub length-part : (f : List ℕ) (place end : ℕ) → place ≤ end → end ≤ length f → length (part f place end) ≡ end - place
length-part f place end le within = length-take-le (end - place) (drop place f) (omega (arith, length-drop place f))
