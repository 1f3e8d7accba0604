-- Contents of one length, one after another.
use Rattle.std.proofs.Common.{◌⊎◌, inl, inr, subst, ◌≡◌, ℕ, zero, suc, ◌+◌, ◌-◌, ◌*◌, ◌<◌, ◌≤◌, min, List, [], ◌∷◌, ◌++◌, length, take, drop, Some, slice_get, refl, sym, ap, ap₂, ◌∙◌, append-nil, append_assoc, length-append, length-drop, arith}
use Rattle.std.specs.List.{AllByRecursion, flat_map}
use Rattle.std.proofs.Math.Nat.{mul-le-mul_right}
use Rattle.std.proofs.lemmas.List.{take-append-le, drop-append-le, drop-drop}
use Rattle.std.proofs.lemmas.List.Concat.{flat_map-append}
use Rattle.std.proofs.Math.Seq.{drop-append-add}
use Rattle.circular_buffer.specs.Buffer.{Buffer, buffer, keep_last}
use Rattle.pb_base.specs.World.{StoredRecord}
use Rattle.pb_base.specs.Record.{content}
use Rattle.pb_base.specs.Time.{time_bytes}
use Rattle.pb_ring.specs.Ring.{Kept, oldest_of, IsRecord, StandsFor, CopiesPart, last_next}

-- all contents have one length
abbrev Same : ℕ → List StoredRecord → Type 0
Same len rs = AllByRecursion (IsRecord len) rs

pub content-len : (len : ℕ) (r : StoredRecord) → IsRecord len r → length (content r) ≡ 8 + len
content-len len r s = length-append (time_bytes r.time) r.bytes ∙ ap (λ n. 8 + n) s.0

pub all-drop : (P : StoredRecord → Type 0) (k : ℕ) (rs : List StoredRecord) → AllByRecursion P rs → AllByRecursion P (drop k rs)
all-drop P zero rs all = all
all-drop P (suc k) [] all = tt
all-drop P (suc k) (r ∷ rs) all = all-drop P k rs all.1

pub all-append : (P : StoredRecord → Type 0) (rs : List StoredRecord) (r : StoredRecord) → AllByRecursion P rs → P r → AllByRecursion P (rs ++ r ∷ [])
all-append P [] r all one = (one, tt)
all-append P (q ∷ rs) r all one = (all.0, all-append P rs r all.1 one)

flat-len : (len : ℕ) (rs : List StoredRecord) → Same len rs → length (flat_map content rs) ≡ length rs * (8 + len)
flat-len len [] same = omega arith
flat-len len (r ∷ rs) same =
    omega (arith, length-append (content r) (flat_map content rs), content-len len r same.0, flat-len len rs same.1)

drop-none : {A : Type 0} (k : ℕ) (xs : List A) → xs ≡ [] → drop k xs ≡ []
drop-none zero xs e = e
drop-none (suc k) [] e = refl
drop-none (suc k) (x ∷ xs) e = absurd cc

drop-past : (c k : ℕ) (xs ys : List ℕ) → length xs ≡ c → drop (suc k * c) (xs ++ ys) ≡ drop (k * c) ys
drop-past c k xs ys e =
    let same : suc k * c ≡ length xs + k * c = omega (arith, e) in
    rw same (drop-append-add xs ys (k * c))

pub drop-flat : (len k : ℕ) (rs : List StoredRecord) → Same len rs → flat_map content (drop k rs) ≡ drop (k * (8 + len)) (flat_map content rs)
drop-flat len zero rs same = let none : 0 * (8 + len) ≡ 0 = omega arith in rw none refl
drop-flat len (suc k) [] same = sym (drop-none (suc k * (8 + len)) [] refl)
drop-flat len (suc k) (r ∷ rs) same =
    drop-flat len k rs same.1 ∙ sym (drop-past (8 + len) k (content r) (flat_map content rs) (content-len len r same.0))

-- ---- a record is stored

either : (n m : ℕ) → (n < m) ⊎ (m ≤ n)
either zero zero = inr (omega arith)
either zero (suc m) = inl (omega arith)
either (suc n) zero = inr (omega arith)
either (suc n) (suc m) = elim (either n m) [ inl lt ↦ inl (omega (arith, lt)) | inr le ↦ inr (omega (arith, le)) ]

-- the room beside one content
abbrev pub room : ℕ → ℕ → ℕ
room cap c = cap * c - c

pub one-fits : (cap c : ℕ) → 1 ≤ cap → room cap c + c ≡ cap * c
one-fits cap c some = let p : 1 * c ≤ cap * c = mul-le-mul_right c some in omega (arith, p)

-- What is left of the contents is where one more has room.
abbrev pub left_of : ℕ → ℕ → List ℕ → List ℕ
left_of cap c bytes = drop (length bytes - room cap c) bytes

pub left-len : (cap c : ℕ) (bytes : List ℕ) → length (left_of cap c bytes) ≤ room cap c
left-len cap c bytes = omega (arith, length-drop (length bytes - room cap c) bytes)

drop-zero : (k : ℕ) (xs : List ℕ) → k ≡ 0 → drop k xs ≡ xs
drop-zero zero xs e = refl
drop-zero (suc k) xs e = absurd (omega (arith, e))

pub extend-fits : (cap : ℕ) (xs ys : List ℕ) → length xs + length ys ≤ cap → drop (length (xs ++ ys) - cap) (xs ++ ys) ≡ xs ++ ys
extend-fits cap xs ys le = drop-zero _ (xs ++ ys) (omega (arith, length-append xs ys))

-- so many bytes are left, and one content more
held-by : (cap c next : ℕ) (bytes : List ℕ) → 1 ≤ cap → length bytes ≡ min next cap * c → (next < cap) ⊎ (cap ≤ next) → length (left_of cap c bytes) + c ≡ min (next + 1) cap * c
held-by cap c next bytes some held (inl lt) =
    let least : min next cap ≡ next = omega arith in
    let more : min (next + 1) cap ≡ suc next = omega arith in
    let fits : suc next * c ≤ cap * c = mul-le-mul_right c lt in
    let len : length bytes ≡ next * c = rw least at held in
    rw more (omega (arith, length-drop (length bytes - room cap c) bytes, fits, len))
held-by cap c next bytes some held (inr le) =
    let least : min next cap ≡ cap = omega arith in
    let more : min (next + 1) cap ≡ cap = omega arith in
    let fits : 1 * c ≤ cap * c = mul-le-mul_right c some in
    let len : length bytes ≡ cap * c = rw least at held in
    rw more (omega (arith, length-drop (length bytes - room cap c) bytes, fits, len))

pub held-more : (cap c next : ℕ) (bytes : List ℕ) → 1 ≤ cap → length bytes ≡ min next cap * c → length (left_of cap c bytes) + c ≡ min (next + 1) cap * c
held-more cap c next bytes some held = held-by cap c next bytes some held (either next cap)

-- the contents from a number on, when one more record is stored
left-by : (cap len : ℕ) (all : List StoredRecord) → 1 ≤ cap → Same len all → (length all < cap) ⊎ (cap ≤ length all)
    → flat_map content (drop (length all + 1 - cap) all) ≡ left_of cap (8 + len) (flat_map content (drop (length all - cap) all))
left-by cap len all some same (inl lt) =
    let none : length all + 1 - cap ≡ 0 = omega arith in
    let nothing : length all - cap ≡ 0 = omega arith in
    let fits : suc (length all) * (8 + len) ≤ cap * (8 + len) = mul-le-mul_right (8 + len) lt in
    rw (none, nothing) (sym (drop-zero _ (flat_map content all) (omega (arith, flat-len len all same, fits))))
left-by cap len all some same (inr le) =
    let rs = drop (length all - cap) all in
    let one : length all + 1 - cap ≡ length all - cap + 1 = omega arith in
    let many : length rs ≡ cap = omega (arith, length-drop (length all - cap) all) in
    let size : length (flat_map content rs) ≡ cap * (8 + len) = rw many at (flat-len len rs (all-drop _ (length all - cap) all same)) in
    let fits : 1 * (8 + len) ≤ cap * (8 + len) = mul-le-mul_right (8 + len) some in
    let goes : length (flat_map content rs) - room cap (8 + len) ≡ 1 * (8 + len) = omega (arith, size, fits) in
    ap (λ (k : ℕ). flat_map content (drop k all)) one
    ∙ ap (flat_map content) (sym (drop-drop 1 (length all - cap) all))
    ∙ drop-flat len 1 rs (all-drop _ (length all - cap) all same)
    ∙ ap (λ (k : ℕ). drop k (flat_map content rs)) (sym goes)

pub stored-bytes : (cap len : ℕ) (all : List StoredRecord) (r : StoredRecord) → 1 ≤ cap → Same len all
    → flat_map content (drop (length all + 1 - cap) (all ++ r ∷ [])) ≡ left_of cap (8 + len) (flat_map content (drop (length all - cap) all)) ++ content r
stored-bytes cap len all r some same =
    ap (flat_map content) (drop-append-le (length all + 1 - cap) all (r ∷ []) (omega arith))
    ∙ flat_map-append content (drop (length all + 1 - cap) all) (r ∷ [])
    ∙ ap₂ (λ (x y : List ℕ). x ++ y) (left-by cap len all some same (either (length all) cap)) (append-nil (content r))

-- ---- a part is copied

part-front : (n offset : ℕ) (xs ys : List ℕ) → offset + n ≤ length xs → take n (drop offset (xs ++ ys)) ≡ take n (drop offset xs)
part-front n offset xs ys le =
    rw (drop-append-le offset xs ys (omega arith)) (take-append-le n (drop offset xs) ys (omega (arith, length-drop offset xs)))

record Starts (rs all : List StoredRecord) (number : ℕ) : Type 0 where
  first : StoredRecord
  rest : List StoredRecord
  is : rs ≡ first ∷ rest
  at : slice_get all number ≡ Some first

starts : (number : ℕ) (all : List StoredRecord) → number < length all → Starts (drop number all) all number
starts number [] lt = absurd (omega (arith, lt))
starts zero (r ∷ all) lt = record { first = r; rest = all; is = refl; at = refl }
starts (suc number) (r ∷ all) lt =
    let s = starts number all (omega (arith, lt)) in
    record { first = s.first; rest = s.rest; is = s.is; at = s.at }

part-of : (len k offset n : ℕ) (rs : List StoredRecord) (all : List StoredRecord) (number : ℕ) → Same len rs → Starts (drop k rs) all number → offset + n ≤ 8 + len
    → (bytes : List ℕ) → bytes ≡ take n (drop (k * (8 + len) + offset) (flat_map content rs)) → CopiesPart all number offset n bytes
part-of len k offset n rs all number same s le bytes e =
    let kept : Same len (drop k rs) = all-drop _ k rs same in
    let sized : Same len (s.first ∷ s.rest) = subst (λ (x : List StoredRecord). Same len x) s.is kept in
    record {
      stored = s.first;
      is = s.at;
      same = e
          ∙ ap (take n) (sym (drop-drop offset (k * (8 + len)) (flat_map content rs)))
          ∙ ap (λ (x : List ℕ). take n (drop offset x)) (sym (drop-flat len k rs same))
          ∙ ap (λ (x : List StoredRecord). take n (drop offset (flat_map content x))) s.is
          ∙ part-front n offset (content s.first) (flat_map content s.rest) (omega (arith, content-len len s.first sized.0));
    }

pub copies : (ring : Kept) (all : List StoredRecord) (number offset n : ℕ) → StandsFor ring all → oldest_of ring ≤ number → number < ring.next → offset + n ≤ 8 + ring.record_len
    → (bytes : List ℕ) → bytes ≡ take n (drop ((number - oldest_of ring) * (8 + ring.record_len) + offset) ring.bytes) → CopiesPart all number offset n bytes
copies ring all number offset n s low high le bytes e =
    let o = oldest_of ring in
    let goes : drop (number - o) (drop o all) ≡ drop number all =
    drop-drop (number - o) o all ∙ ap (λ (k : ℕ). drop k all) (omega arith) in
    let there : Starts (drop number all) all number = starts number all (omega (arith, s.next)) in
    part-of ring.record_len (number - o) offset n (drop o all) all number (all-drop _ o all s.each) (subst (λ (x : List StoredRecord). Starts x all number) (sym goes) there) le bytes
    (e ∙ ap (λ (x : List ℕ). take n (drop ((number - o) * (8 + ring.record_len) + offset) x)) s.bytes)

-- a record's part lies in what is held
pub part-fits : (cap c next number offset n size : ℕ) → number < next → next - cap ≤ number → offset + n ≤ c → size ≡ min next cap * c → (number - (next - cap)) * c + offset + n ≤ size
part-fits cap c next number offset n size lt low le e =
    let p : suc (number - (next - cap)) * c ≤ min next cap * c = mul-le-mul_right c (omega arith) in
    omega (arith, p, e)

-- ---- a store's three steps on the buffer

-- what they leave: one content behind what is left of those before
pub extended : (cap c roomed : ℕ) (b0 b1 b2 b3 : Buffer ℕ) (t f : List ℕ) → 1 ≤ cap → b0.capacity ≡ cap * c → roomed ≡ b0.capacity - c → length t + length f ≡ c
    → b1 ≡ buffer (keep_last roomed b0.items) b0.capacity
    → b2 ≡ buffer (keep_last b1.capacity (b1.items ++ t)) b1.capacity
    → b3 ≡ buffer (keep_last b2.capacity (b2.items ++ f)) b2.capacity
    → b3 ≡ buffer (left_of cap c b0.items ++ (t ++ f)) (cap * c)
extended cap c roomed b0 b1 b2 b3 t f some size e0 len e1 e2 e3 =
    let l = left_of cap c b0.items in
    let fits : length l ≤ room cap c = left-len cap c b0.items in
    let one : room cap c + c ≡ cap * c = one-fits cap c some in
    let same : roomed ≡ room cap c = omega (arith, e0, size) in
    let s1 : b1 ≡ buffer l (cap * c) = e1 ∙ ap₂ (λ (k n : ℕ). buffer (keep_last k b0.items) n) same size in
    let s2 : b2 ≡ buffer (l ++ t) (cap * c) =
    e2 ∙ ap (λ (b : Buffer ℕ). buffer (keep_last b.capacity (b.items ++ t)) b.capacity) s1
    ∙ ap (λ (x : List ℕ). buffer x (cap * c)) (extend-fits (cap * c) l t (omega (arith, fits, one, len))) in
    e3 ∙ ap (λ (b : Buffer ℕ). buffer (keep_last b.capacity (b.items ++ f)) b.capacity) s2
    ∙ ap (λ (x : List ℕ). buffer x (cap * c)) (extend-fits (cap * c) (l ++ t) f (omega (arith, fits, one, len, length-append l t)) ∙ append_assoc l t f)

pub left-len-with : (cap c : ℕ) (l t f : List ℕ) → length t + length f ≡ c → length (l ++ (t ++ f)) ≡ length l + c
left-len-with cap c l t f len = omega (arith, length-append l (t ++ f), length-append t f, len)

-- what the ring stands for after a store
pub stands-more : (old : Kept) (all : List StoredRecord) (r : StoredRecord) (bytes : List ℕ) → 1 ≤ old.capacity → StandsFor old all → length all < last_next → IsRecord old.record_len r
    → bytes ≡ left_of old.capacity (8 + old.record_len) old.bytes ++ content r
    → StandsFor (record { record_len = old.record_len; capacity = old.capacity; next = old.next + 1; bytes = bytes }) (all ++ r ∷ [])
stands-more old all r bytes some s few sized e = record {
  next = omega (arith, s.next, length-append all (r ∷ []));
  few = omega (arith, few, length-append all (r ∷ []));
  each = all-append (IsRecord old.record_len) all r s.each sized;
  bytes = e
      ∙ ap (λ (x : List ℕ). left_of old.capacity (8 + old.record_len) x ++ content r) (s.bytes ∙ ap (λ (n : ℕ). flat_map content (drop (n - old.capacity) all)) s.next)
      ∙ sym (stored-bytes old.capacity old.record_len all r some s.each)
      ∙ ap (λ (n : ℕ). flat_map content (drop (n + 1 - old.capacity) (all ++ r ∷ []))) (sym s.next);
}
