-- Bytes that are written one after another to the front of a slice.
use Rattle.std.proofs.Common.{◌≡◌, ℕ, zero, suc, ◌+◌, ◌-◌, ◌*◌, ◌≤◌, ◌<◌, List, [], ◌∷◌, ◌++◌, length, take, drop, set, Bool, true, false, cond, slice_get, Option, Some, Result, Ok, IfOk, subst, refl, sym, ap, ap₂, ◌∙◌, append_assoc, append-nil, add-one, length-append, length-drop, length-take, arith}
use Rattle.std.specs.List.{flat_map}
use Rattle.std.proofs.lemmas.List.{drop-drop}
use Rattle.std.proofs.lemmas.List.Concat.{flat_map-append}
use Rattle.std.proofs.Math.Seq.{take-append_seam, drop-append_seam, drop-append-add}
use borrow.Rule.Slice.PartMut.{put_mid}
use mir.Val.{bool_byte}
use Rattle.pb_base.specs.Put.{IsWritten}
use Rattle.pb_base.specs.World.{StoredRecord}
use Rattle.pb_base.specs.Record.{content}
use Rattle.pb_ring.specs.Ring.{CopiesPart}
use Rattle.pb_station.specs.Collect.{content_in}
use Rattle.pb_station.specs.Inside.Commands.{content_part}

-- ---- lists

take-seam : (n : ℕ) (xs ys : List ℕ) → length xs ≡ n → take n (xs ++ ys) ≡ xs
take-seam n xs ys e = rw (sym e) (take-append_seam xs ys)

pub drop-seam : (n k : ℕ) (xs ys : List ℕ) → length xs ≡ n → drop (n + k) (xs ++ ys) ≡ drop k ys
drop-seam n k xs ys e = rw (sym e) (drop-append-add xs ys k)

pub get-drop : {A : Type 0} (n k : ℕ) (xs : List A) → slice_get (drop n xs) k ≡ slice_get xs (n + k)
get-drop zero k xs = let e : k ≡ 0 + k = omega arith in ap (slice_get xs) e
get-drop (suc n) k [] = refl
get-drop (suc n) k (x ∷ xs) = let e : suc (n + k) ≡ suc n + k = omega arith in get-drop n k xs ∙ ap (slice_get (x ∷ xs)) e

take-next : {A : Type 0} (k : ℕ) (xs : List A) (x : A) → slice_get xs k ≡ Some x → take (suc k) xs ≡ take k xs ++ x ∷ []
take-next k [] x e = absurd cc
take-next zero (y ∷ ys) x e = let same : y ≡ x = cc in rw same refl
take-next (suc k) (y ∷ ys) x e = ap (λ zs. y ∷ zs) (take-next k ys x e)

pub flat-next : {A : Type 0} (f : A → List ℕ) (k : ℕ) (xs : List A) (x : A) → slice_get xs k ≡ Some x → flat_map f (take (k + 1) xs) ≡ flat_map f (take k xs) ++ f x
flat-next f k xs x e =
    rw (add-one k, take-next k xs x e) (flat_map-append f (take k xs) (x ∷ []) ∙ ap (λ (b : List ℕ). flat_map f (take k xs) ++ b) (append-nil (f x)))

-- ---- a slice that is written part by part

-- a part behind what was written
pub put-next : (a k : ℕ) (front old part : List ℕ) → length front ≡ a → length part ≡ k → a + k ≤ length old
    → put_mid a k (front ++ drop a old) part ≡ (front ++ part) ++ drop (a + k) old
put-next a k front old part fa fp le =
    ap₂ (λ (x y : List ℕ). x ++ (part ++ y)) (take-seam a front (drop a old) fa) (drop-drop k a (front ++ drop a old) ∙ drop-seam a k front (drop a old) fa ∙ drop-drop k a old)
    ∙ sym (append_assoc front part (drop (a + k) old))

pub mid-len : (a k : ℕ) (xs : List ℕ) → a + k ≤ length xs → length (take (a + k - a) (drop a xs)) ≡ k
mid-len a k xs le = omega (arith, length-take (a + k - a) (drop a xs), length-drop a xs)

-- one byte behind what was written
set-behind : (front rest : List ℕ) (x : ℕ) → 0 < length rest → set (front ++ rest) (length front) x ≡ front ++ (x ∷ drop 1 rest)
set-behind [] [] x some = absurd (omega (arith, some))
set-behind [] (y ∷ rest) x some = refl
set-behind (y ∷ front) rest x some = ap (λ zs. y ∷ zs) (set-behind front rest x some)

pub close : (n x : ℕ) (front old : List ℕ) → length front ≡ n → n < length old → set (front ++ drop n old) n x ≡ (front ++ x ∷ []) ++ drop (n + 1) old
close n x front old e lt =
    ap (λ (k : ℕ). set (front ++ drop n old) k x) (sym e)
    ∙ set-behind front (drop n old) x (omega (arith, length-drop n old))
    ∙ ap (λ (zs : List ℕ). front ++ (x ∷ zs)) (drop-drop 1 n old)
    ∙ sym (append_assoc front (x ∷ []) (drop (n + 1) old))

-- ---- records

len-front : (m : ℕ) (front old out : List ℕ) → out ≡ front ++ drop m old → length out ≡ length old → m ≤ length old → length front ≡ m
len-front m front old out e same le = omega (arith, ap length e, length-append front (drop m old), length-drop m old)

-- one part more is copied
pub next-copied : (offset len first k a b : ℕ) (all : List StoredRecord) (old out part : List ℕ)
    → out ≡ flat_map (content_part offset len) (take k (drop first all)) ++ drop (k * len) old → length out ≡ length old → (k + 1) * len ≤ length old
    → length part ≡ len → CopiesPart all (first + k) offset len part → a ≡ k * len → b ≡ len
    → put_mid a b out part ≡ flat_map (content_part offset len) (take (k + 1) (drop first all)) ++ drop ((k + 1) * len) old
next-copied offset len first k a b all old out part e same fits size copied ea eb =
    let front = flat_map (content_part offset len) (take k (drop first all)) in
    let here : slice_get (drop first all) k ≡ Some copied.stored = get-drop first k all ∙ copied.is in
    let more : (k + 1) * len ≡ k * len + len = omega arith in
    let ff : length front ≡ k * len = len-front (k * len) front old out e same (omega (arith, fits, more)) in
    ap₂ (λ (x y : ℕ). put_mid x y out part) ea eb
    ∙ ap (λ (x : List ℕ). put_mid (k * len) len x part) e
    ∙ put-next (k * len) len front old part ff size (omega (arith, fits, more))
    ∙ ap₂ (λ (x : List ℕ) (n : ℕ). (front ++ x) ++ drop n old) copied.same (sym more)
    ∙ ap (λ (x : List ℕ). x ++ drop ((k + 1) * len) old) (sym (flat-next (content_part offset len) k (drop first all) copied.stored here))

-- all parts were copied
pub all-copied : (offset len first k count n : ℕ) (all : List StoredRecord) (old out : List ℕ)
    → out ≡ flat_map (content_part offset len) (take k (drop first all)) ++ drop (k * len) old → length out ≡ length old → count * len ≤ length old → k ≡ count → n ≡ count * len
    → IsWritten (flat_map (content_part offset len) (take count (drop first all))) old out n
all-copied offset len first k count n all old out e same fits ek en =
    let front = flat_map (content_part offset len) (take count (drop first all)) in
    let out_is : out ≡ front ++ drop (count * len) old = rw ek at e in
    record {
      len = en ∙ sym (len-front (count * len) front old out out_is same fits);
      parts = out_is ∙ ap (λ (x : ℕ). front ++ drop x old) (sym en);
    }

-- a head, a part and a last byte
pub part-written : (head bytes old : List ℕ) (h len flag : ℕ) → length head ≡ h → length bytes ≡ len → h + len + 1 ≤ length old
    → IsWritten (head ++ (bytes ++ flag ∷ [])) old (set (put_mid h (h + len - h) (head ++ drop h old) bytes) (h + len) flag) (h + len + 1)
part-written head bytes old h len flag eh el le =
    let k : h + len - h ≡ len = omega arith in
    record {
      len = omega (arith, length-append head (bytes ++ flag ∷ []), length-append bytes (flag ∷ []));
      parts =
          ap (λ (x : ℕ). set (put_mid h x (head ++ drop h old) bytes) (h + len) flag) k
          ∙ ap (λ (x : List ℕ). set x (h + len) flag) (put-next h len head old bytes eh el (omega (arith, le)))
          ∙ close (h + len) flag (head ++ bytes) old (omega (arith, length-append head bytes)) (omega (arith, le))
          ∙ ap (λ (x : List ℕ). x ++ drop (h + len + 1) old) (append_assoc head bytes (flag ∷ []));
    }

pub flag-of : (b : Bool) → bool_byte b ≡ cond b 1 0
flag-of true = refl
flag-of false = refl

-- ---- the same, where what is written and what is there are known by equations

pub written-as : (bytes bytes' old new new' : List ℕ) (n : ℕ) → bytes ≡ bytes' → new ≡ new' → IsWritten bytes old new n → IsWritten bytes' old new' n
written-as bytes bytes' old new new' n eb en w = record { len = w.len ∙ ap length eb; parts = sym en ∙ w.parts ∙ ap (λ (x : List ℕ). x ++ drop n old) eb }

pub part-is : (all : List StoredRecord) (number offset m len : ℕ) (part : List ℕ) → CopiesPart all number offset m part → m ≡ len → part ≡ take len (drop offset (content_in (slice_get all number)))
part-is all number offset m len part c e = c.same ∙ ap₂ (λ (x : ℕ) (r : Option StoredRecord). take x (drop offset (content_in r))) e (sym c.is)

-- what stands behind a head, in the rest of the slice
pub after-head : (head bytes old new : List ℕ) (h n : ℕ) → length head ≡ h → h ≤ length old
    → IsWritten bytes (take (length (head ++ drop h old) - h) (drop h (head ++ drop h old))) new n
    → put_mid h (length (head ++ drop h old) - h) (head ++ drop h old) new ≡ (head ++ bytes) ++ drop (h + n) old
after-head head bytes old new h n eh le w =
    let xs = head ++ drop h old in
    let whole : length xs ≡ length old = omega (arith, length-append head (drop h old), length-drop h old) in
    let rest : drop h xs ≡ drop h old = drop-at h head (drop h old) eh in
    let all : take (length xs - h) (drop h xs) ≡ drop h old =
    take-whole (length xs - h) (drop h xs) (omega (arith, length-drop h xs)) ∙ rest in
    let past : drop (length xs - h) (drop h xs) ≡ [] = drop-whole (length xs - h) (drop h xs) (omega (arith, length-drop h xs)) in
    let new_is : new ≡ bytes ++ drop (h + n) old =
    w.parts ∙ ap (λ (x : List ℕ). bytes ++ drop n x) all ∙ ap (λ (x : List ℕ). bytes ++ x) (drop-drop n h old) in
    ap₂ (λ (x y : List ℕ). x ++ (new ++ y)) (take-seam h head (drop h old) eh) past
    ∙ ap (λ (x : List ℕ). head ++ x) (append-nil new ∙ new_is)
    ∙ sym (append_assoc head bytes (drop (h + n) old))
  where
    drop-at : (n : ℕ) (xs ys : List ℕ) → length xs ≡ n → drop n (xs ++ ys) ≡ ys
    drop-at n xs ys e = rw (sym e) (drop-append_seam xs ys)

    take-whole : (n : ℕ) (xs : List ℕ) → length xs ≤ n → take n xs ≡ xs
    take-whole zero [] le = refl
    take-whole zero (x ∷ xs) le = absurd (omega (arith, le))
    take-whole (suc n) [] le = refl
    take-whole (suc n) (x ∷ xs) le = ap (λ ys. x ∷ ys) (take-whole n xs (omega (arith, le)))

    drop-whole : (n : ℕ) (xs : List ℕ) → length xs ≤ n → drop n xs ≡ []
    drop-whole zero [] le = refl
    drop-whole zero (x ∷ xs) le = absurd (omega (arith, le))
    drop-whole (suc n) [] le = refl
    drop-whole (suc n) (x ∷ xs) le = drop-whole n xs (omega (arith, le))

-- a head, bytes behind it, and a last byte
pub records-written : (head bytes old new : List ℕ) (h n flag : ℕ) → length head ≡ h → h + n + 1 ≤ length old
    → IsWritten bytes (take (length (head ++ drop h old) - h) (drop h (head ++ drop h old))) new n
    → IsWritten (head ++ (bytes ++ flag ∷ [])) old (set (put_mid h (length (head ++ drop h old) - h) (head ++ drop h old) new) (h + n) flag) (h + n + 1)
records-written head bytes old new h n flag eh le w = record {
  len = omega (arith, w.len, length-append head (bytes ++ flag ∷ []), length-append bytes (flag ∷ []));
  parts =
      ap (λ (x : List ℕ). set x (h + n) flag) (after-head head bytes old new h n eh (omega (arith, le)) w)
      ∙ close (h + n) flag (head ++ bytes) old (omega (arith, w.len, length-append head bytes)) (omega (arith, le))
      ∙ ap (λ (x : List ℕ). x ++ drop (h + n + 1) old) (append_assoc head bytes (flag ∷ []));
}

-- a head, and bytes behind it
pub both-written : (head bytes old new : List ℕ) (h n : ℕ) → length head ≡ h → h ≤ length old
    → IsWritten bytes (take (length (head ++ drop h old) - h) (drop h (head ++ drop h old))) new n
    → IsWritten (head ++ bytes) old (put_mid h (length (head ++ drop h old) - h) (head ++ drop h old) new) (h + n)
both-written head bytes old new h n eh le w =
    record { len = omega (arith, w.len, length-append head bytes); parts = after-head head bytes old new h n eh le w }

pub copied-at : (all : List StoredRecord) (a b offset m n : ℕ) (part : List ℕ) → a ≡ b → m ≡ n → CopiesPart all a offset m part → CopiesPart all b offset n part
copied-at all a b offset m n part ea em c = record {
  stored = c.stored;
  is = ap (slice_get all) (sym ea) ∙ c.is;
  same = c.same ∙ ap (λ (x : ℕ). take x (drop offset (content c.stored))) em;
}

-- ---- a message, and then the words before it

pub ok-written : {E : Type 0} (r : Result ℕ E) (n : ℕ) (bytes old new : List ℕ) → r ≡ Ok n → IfOk r (IsWritten bytes old new) → IsWritten bytes old new n
ok-written {E} r n bytes old new e w = subst (λ (s : Result ℕ E). IfOk s (IsWritten bytes old new)) e w

pub reply-written : (words message old tail new : List ℕ) (k n : ℕ) → length words ≡ 8 → 8 + k ≡ length old
    → IsWritten message (take k (drop 8 old)) tail n → new ≡ words ++ drop 8 (put_mid 8 k old tail)
    → IsWritten (words ++ message) old new (8 + n)
reply-written words message old tail new k n ew le w e =
    let eight : length (take 8 old) ≡ 8 = omega (arith, length-take 8 old, le) in
    let whole : take k (drop 8 old) ≡ drop 8 old = all-of k (drop 8 old) (omega (arith, length-drop 8 old)) in
    let past : drop k (drop 8 old) ≡ [] = none-of k (drop 8 old) (omega (arith, length-drop 8 old)) in
    let tail_is : tail ≡ message ++ drop (8 + n) old =
    w.parts ∙ ap (λ (x : List ℕ). message ++ drop n x) whole ∙ ap (λ (x : List ℕ). message ++ x) (drop-drop n 8 old) in
    let put : drop 8 (put_mid 8 k old tail) ≡ tail =
    behind 8 (take 8 old) (tail ++ drop k (drop 8 old)) eight ∙ ap (λ (x : List ℕ). tail ++ x) past ∙ append-nil tail in
    record {
      len = omega (arith, w.len, length-append words message);
      parts = e ∙ ap (λ (x : List ℕ). words ++ x) (put ∙ tail_is) ∙ sym (append_assoc words message (drop (8 + n) old));
    }
  where
    behind : (n : ℕ) (xs ys : List ℕ) → length xs ≡ n → drop n (xs ++ ys) ≡ ys
    behind n xs ys e = rw (sym e) (drop-append_seam xs ys)

    all-of : (n : ℕ) (xs : List ℕ) → length xs ≤ n → take n xs ≡ xs
    all-of zero [] le = refl
    all-of zero (x ∷ xs) le = absurd (omega (arith, le))
    all-of (suc n) [] le = refl
    all-of (suc n) (x ∷ xs) le = ap (λ ys. x ∷ ys) (all-of n xs (omega (arith, le)))

    none-of : (n : ℕ) (xs : List ℕ) → length xs ≤ n → drop n xs ≡ []
    none-of zero [] le = refl
    none-of zero (x ∷ xs) le = absurd (omega (arith, le))
    none-of (suc n) [] le = refl
    none-of (suc n) (x ∷ xs) le = none-of n xs (omega (arith, le))
