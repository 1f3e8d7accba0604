-- How far the lists of a message go.
use Rattle.std.proofs.Common.{◌≡◌, ℕ, zero, suc, ◌+◌, ◌-◌, ◌<◌, ◌≤◌, Bool, true, false, cond, eqb, List, [], ◌∷◌, length, take, drop, Result, Ok, Err, refl, sym, ap, subst, ◌∙◌, arith}
use Rattle.std.proofs.lemmas.Bool.{le-ltb}
use Rattle.pb_base.specs.declared.message.MessageFault.{MessageFault}
use Rattle.pb_base.specs.declared.message.MessageFault.TheVariants.{Malformed}
use Rattle.pb_base.specs.declared.fields.FieldFault.{FieldFault}
use Rattle.pb_base.proofs.FieldLaws.{ok_is}
use Rattle.pb_base.specs.Fields.{Unread, unread, end, behind, bytes_at}
use Rattle.pb_layout.specs.Inside.{numbers_len}
use Rattle.pb_layout.specs.Reading.{and_then, with_number, numbers_at, setting_at, settings_at}

-- ---- numbers

pub numbers-short : (bytes : List ℕ) (at : ℕ) → length bytes < numbers_len bytes + 2 → numbers_at bytes at ≡ Err (Malformed (at + numbers_len bytes))
numbers-short [] at short = ap (λ (n : ℕ). Err (Malformed n)) (omega arith)
numbers-short (high ∷ []) at short = ap (λ (n : ℕ). Err (Malformed n)) (omega arith)
numbers-short (high ∷ low ∷ rest) at short = go (eqb (high + low) 0) refl short (numbers-short rest (at + 2))
  where
    n : ℕ
    n = numbers_len rest

    go : (b : Bool) → eqb (high + low) 0 ≡ b → suc (suc (length rest)) < cond b 0 (2 + n) + 2 → (length rest < n + 2 → numbers_at rest (at + 2) ≡ Err (Malformed (at + 2 + n)))
        → cond b (Ok ([], unread (at + 2) rest)) (and_then (numbers_at rest (at + 2)) (with_number high low)) ≡ Err (Malformed (at + cond b 0 (2 + n)))
    go true e less more = absurd (omega (arith, less))
    go false e less more = rw (more (omega (arith, less))) (ap (λ (m : ℕ). Err (Malformed m)) (omega arith))

pub numbers-read : (bytes : List ℕ) (at : ℕ) → numbers_len bytes + 2 ≤ length bytes
    → numbers_at bytes at ≡ Ok (take (numbers_len bytes) bytes, unread (at + (numbers_len bytes + 2)) (drop (numbers_len bytes + 2) bytes))
numbers-read [] at long = absurd (omega (arith, long))
numbers-read (high ∷ []) at long = absurd (omega (arith, long))
numbers-read (high ∷ low ∷ rest) at long = go (eqb (high + low) 0) refl long (numbers-read rest (at + 2))
  where
    n : ℕ
    n = numbers_len rest

    same : (m k : ℕ) (x y z w : List ℕ) → m ≡ k → x ≡ y → z ≡ w → (let r : Result (List ℕ × Unread) MessageFault = Ok (x, unread m z) in r ≡ Ok (y, unread k w))
    same m k x y z w e f g = rw (e, f, g) refl

    go : (b : Bool) → eqb (high + low) 0 ≡ b → cond b 0 (2 + n) + 2 ≤ suc (suc (length rest))
        → (n + 2 ≤ length rest → numbers_at rest (at + 2) ≡ Ok (take n rest, unread (at + 2 + (n + 2)) (drop (n + 2) rest)))
        → cond b (Ok ([], unread (at + 2) rest)) (and_then (numbers_at rest (at + 2)) (with_number high low))
        ≡ Ok (take (cond b 0 (2 + n)) (high ∷ low ∷ rest), unread (at + (cond b 0 (2 + n) + 2)) (drop (cond b 0 (2 + n) + 2) (high ∷ low ∷ rest)))
    go true e le more = refl
    go false e le more =
        let two : 2 + n ≡ suc (suc n) = omega arith in
        let four : 2 + n + 2 ≡ suc (suc (n + 2)) = omega arith in
        rw (more (omega (arith, le)))
        (same (at + 2 + (n + 2)) (at + (2 + n + 2)) (high ∷ low ∷ take n rest) (take (2 + n) (high ∷ low ∷ rest)) (drop (n + 2) rest) (drop (2 + n + 2) (high ∷ low ∷ rest)) (omega arith) (rw two refl) (rw four refl))

-- ---- settings: one more, and none

pub then_ok : {A B : Type 0} (r : Result A MessageFault) (next : A → Result B MessageFault) (x : A) → r ≡ Ok x → and_then r next ≡ next x
then_ok r next x e = rw e refl

pub then_err : {A B : Type 0} (r : Result A MessageFault) (next : A → Result B MessageFault) (fault : MessageFault) → r ≡ Err fault → and_then r next ≡ Err fault
then_err r next fault e = rw e refl

pub settings-end : (most : ℕ) (u : Unread) → length u.rest ≡ 0 → settings_at most u ≡ Ok u
settings-end zero u none = refl
settings-end (suc most) u none = rw none refl

settings-step : (n k : ℕ) (u : Unread) → k < n → false ≡ eqb (length u.rest) 0 → settings_at (n - k) u ≡ and_then (setting_at u) (settings_at (n - (k + 1)))
settings-step n k u lt some =
    let e : n - k ≡ suc (n - (k + 1)) = omega arith in
    rw (e, ← some) refl

pub settings-more : (n k : ℕ) (u w : Unread) → k < n → false ≡ eqb (length u.rest) 0 → setting_at u ≡ Ok w → settings_at (n - k) u ≡ settings_at (n - (k + 1)) w
settings-more n k u w lt some e = settings-step n k u lt some ∙ then_ok (setting_at u) (settings_at (n - (k + 1))) w e

pub settings-refused : (n k : ℕ) (u : Unread) (fault : MessageFault) → k < n → false ≡ eqb (length u.rest) 0 → setting_at u ≡ Err fault → settings_at (n - k) u ≡ Err fault
settings-refused n k u fault lt some e = settings-step n k u lt some ∙ then_err (setting_at u) (settings_at (n - (k + 1))) fault e

pub settings-all : (n k : ℕ) (u : Unread) → n ≤ k → settings_at (n - k) u ≡ Ok u
settings-all n k u le = let e : n - k ≡ 0 = omega arith in rw e refl

-- ---- the same of what the readers found

pub numbers-refused : (u : Unread) (left : List ℕ) (last len : ℕ) → left ≡ u.rest → len ≡ numbers_len left → len ≤ length left → last ≡ end u → length left - len < 2
    → numbers_at u.rest u.at ≡ Err (Malformed (last - (length left - len)))
numbers-refused u left last len el en within e short =
    let n : ℕ = numbers_len u.rest in
    let same : len ≡ n = en ∙ ap numbers_len el in
    let long : length left ≡ length u.rest = ap length el in
    numbers-short u.rest u.at (omega (arith, same, long, short, within)) ∙ ap (λ (m : ℕ). Err (Malformed m)) (omega (arith, e, long, same, within))

bytes_are : (n : ℕ) (u v : Unread) (x : List ℕ) → n ≤ length u.rest → bytes_at n u ≡ Ok (x, v) → behind n u ≡ v
bytes_are n u v x long e = second (take n u.rest) x (behind n u) v (sym (rw (le-ltb (length u.rest) n long) refl) ∙ e)
  where
    second : (x y : List ℕ) (v w : Unread) → (let r : Result (List ℕ × Unread) FieldFault = Ok (x, v) in r ≡ Ok (y, w)) → v ≡ w
    second x y v w e = ap (λ (q : List ℕ × Unread). q.1) (ok_is (x, v) (y, w) e)

pub numbers-found : (u v : Unread) (left x : List ℕ) (len : ℕ) → left ≡ u.rest → len ≡ numbers_len left → len ≤ length left → 2 ≤ length left - len → bytes_at (len + 2) u ≡ Ok (x, v)
    → numbers_at u.rest u.at ≡ Ok (take len left, v)
numbers-found u v left x len el en within long e =
    let n : ℕ = numbers_len u.rest in
    let same : len ≡ n = en ∙ ap numbers_len el in
    let lens : length left ≡ length u.rest = ap length el in
    let enough : n + 2 ≤ length u.rest = omega (arith, same, lens, long, within) in
    let after : behind (n + 2) u ≡ v = bytes_are (n + 2) u v x enough (subst (λ (k : ℕ). bytes_at (k + 2) u ≡ Ok (x, v)) same e) in
    numbers-read u.rest u.at enough ∙ rw (same, el, after) refl
