-- Lists of numbers and of settings that are read are those that were written.
use Rattle.std.proofs.Common.{◌≡◌, ℕ, zero, suc, ◌+◌, ◌^◌, ◌≤◌, Bool, true, false, cond, eqb, List, [], ◌∷◌, ◌++◌, length, Result, Ok, refl, sym, ap, subst, ◌∙◌, arith, ◌⊎◌, inl, inr}
use Rattle.std.specs.List.{flat_map, AllByRecursion}
use Rattle.std.specs.Int.{w16, to_be_bytes}
use Rattle.std.proofs.lemmas.Bool.{eqb-true, eqb-false, ne_eqb}
use Rattle.std.proofs.lemmas.List.{length-append, nil_from_length}
use Rattle.pb_base.specs.declared.fields.FieldFault.{FieldFault}
use Rattle.pb_base.specs.declared.message.MessageFault.{MessageFault}
use Rattle.pb_base.specs.Fields.{Unread, IsBytes, Takes, bytes_at, number_at}
use Rattle.pb_base.proofs.FieldLaws.{wide16, number-takes, number-again, bytes-takes, bytes-again, Takes-then}
use Rattle.pb_layout.specs.Kind.{AreNumbers, Setting, setting_bytes, IsSetting, AreSettings}
use Rattle.pb_layout.specs.Reading.{and_then, field, with_number, numbers_at, setting_at, settings_at}
use Rattle.pb_layout.proofs.Steps.{ok_is, and_ok, field_ok}

-- ---- numbers that end with a 0

abbrev from_two : ℕ → List ℕ → Unread
from_two at rest = record { at = at + 2; rest = rest }

numbers_ok : (b : Bool) (high low at : ℕ) (rest x : List ℕ) (v : Unread) → cond b (Ok ([], from_two at rest)) (and_then (numbers_at rest (at + 2)) (with_number high low)) ≡ Ok (x, v)
    → ((b ≡ true) × (x ≡ []) × (v ≡ from_two at rest)) ⊎ ((b ≡ false) × (y : List ℕ) × (numbers_at rest (at + 2) ≡ Ok (y, v)) × (x ≡ high ∷ low ∷ y))
numbers_ok true high low at rest x v e =
    let p = ok_is ([], from_two at rest) (x, v) e in
    inl (refl, ap (λ (q : List ℕ × Unread). q.0) (sym p), ap (λ (q : List ℕ × Unread). q.1) (sym p))
numbers_ok false high low at rest x v e =
    let a = and_ok (numbers_at rest (at + 2)) (with_number high low) (x, v) e in
    let p = ok_is (high ∷ low ∷ a.0.0, a.0.1) (x, v) a.2 in
    let same : a.0.1 ≡ v = ap (λ (q : List ℕ × Unread). q.1) p in
    inr (refl, a.0.0, a.1 ∙ ap (λ (w : Unread). Ok (a.0.0, w)) same, ap (λ (q : List ℕ × Unread). q.0) (sym p))

IsBytes-rest : (b : ℕ) (bytes : List ℕ) → IsBytes (b ∷ bytes) → IsBytes bytes
IsBytes-rest b bytes h i = h (suc i)

pub numbers-take : (bytes : List ℕ) (at : ℕ) (x : List ℕ) (v : Unread) → IsBytes bytes → numbers_at bytes at ≡ Ok (x, v)
    → Takes (record { at = at; rest = bytes }) (x ++ 0 ∷ 0 ∷ []) v × AreNumbers x
numbers-take [] at x v fits e = absurd cc
numbers-take (high ∷ []) at x v fits e = absurd cc
numbers-take (high ∷ low ∷ rest) at x v fits e =
    let fits-rest : IsBytes rest = IsBytes-rest low rest (IsBytes-rest high (low ∷ rest) fits) in
    elim (numbers_ok (eqb (high + low) 0) high low at rest x v e) [
      | inl g ↦
          let sum : high + low ≡ 0 = eqb-true _ _ g.0 in
          let first : high ≡ 0 = omega arith in
          let second : low ≡ 0 = omega arith in
          let parts : high ∷ low ∷ rest ≡ 0 ∷ 0 ∷ rest = rw (first, second) refl in
          rw (g.1, g.2) (record { bytes = parts; at = refl; rest = fits-rest }, tt)
      | inr g ↦
          let sum : high + low ≡ 0 → ⊥ = eqb-false _ _ g.0 in
          let more = numbers-take rest (at + 2) g.1 v fits-rest g.2 in
          rw g.3 (record { bytes = ap (λ (t : List ℕ). high ∷ low ∷ t) more.0.bytes; at = omega (arith, more.0.at); rest = more.0.rest }, (omega (arith, sum), more.1))
    ]

pub numbers-again : (x : List ℕ) (at : ℕ) (rest : List ℕ) → AreNumbers x
    → numbers_at ((x ++ 0 ∷ 0 ∷ []) ++ rest) at ≡ Ok (x, record { at = at + length (x ++ 0 ∷ 0 ∷ []); rest = rest })
numbers-again [] at rest are = refl
numbers-again (high ∷ []) at rest are = absurd are
numbers-again (high ∷ low ∷ x) at rest are =
    let some : eqb (high + low) 0 ≡ false = ne_eqb _ 0 (λ z. omega (arith, z, are.0)) in
    let n : ℕ = length (x ++ 0 ∷ 0 ∷ []) in
    let place : at + 2 + n ≡ at + suc (suc n) = omega arith in
    rw (some, numbers-again x (at + 2) rest are.1) (same_place high low x rest _ _ place)
  where
    same_place : (a b : ℕ) (y r : List ℕ) (m n : ℕ) → m ≡ n → (let e : Result (List ℕ × Unread) MessageFault = Ok (a ∷ b ∷ y, record { at = m; rest = r }) in e ≡ Ok (a ∷ b ∷ y, record { at = n; rest = r }))
    same_place a b y r m n e = rw e refl

-- ---- settings up to the end

settings_ok : (b : Bool) (most : ℕ) (u v : Unread) → cond b (Ok u) (and_then (setting_at u) (settings_at most)) ≡ Ok v
    → (b ≡ true) ⊎ ((w : Unread) × (setting_at u ≡ Ok w) × (settings_at most w ≡ Ok v))
settings_ok true most u v e = inl refl
settings_ok false most u v e = inr (and_ok (setting_at u) (settings_at most) v e)

pub setting-takes : (u w : Unread) → IsBytes u.rest → setting_at u ≡ Ok w → (s : Setting) × IsSetting s × Takes u (setting_bytes s) w
setting-takes u w fits e =
    let behind_it : List ℕ × Unread → Result Unread MessageFault = λ content. Ok content.1 in
    let content_of : ℕ × Unread → Result Unread MessageFault = λ len. and_then (field len.1 (bytes_at len.0 len.1)) behind_it in
    let len_of : ℕ × Unread → Result Unread MessageFault = λ number. and_then (field number.1 (number_at w16 number.1)) content_of in
    let a = and_ok (field u (number_at w16 u)) len_of w e in
    let p = number-takes w16 (2 ^ 16) wide16 u a.0.0 a.0.1 fits (field_ok u (number_at w16 u) a.0 a.1) in
    let b = and_ok (field a.0.1 (number_at w16 a.0.1)) content_of w a.2 in
    let q = number-takes w16 (2 ^ 16) wide16 a.0.1 b.0.0 b.0.1 p.0.rest (field_ok a.0.1 (number_at w16 a.0.1) b.0 b.1) in
    let c = and_ok (field b.0.1 (bytes_at b.0.0 b.0.1)) behind_it w b.2 in
    let r = bytes-takes b.0.0 b.0.1 c.0.0 c.0.1 q.0.rest (field_ok b.0.1 (bytes_at b.0.0 b.0.1) c.0 c.1) in
    let s : Setting = record { number = a.0.0; content = c.0.0 } in
    let len : b.0.0 ≡ length c.0.0 = sym r.1 in
    let second : Takes a.0.1 (to_be_bytes w16 (length c.0.0)) b.0.1 = subst (λ (n : ℕ). Takes a.0.1 (to_be_bytes w16 n) b.0.1) len q.0 in
    let whole : Takes u (setting_bytes s) c.0.1 = Takes-then u a.0.1 c.0.1 (to_be_bytes w16 a.0.0) (to_be_bytes w16 (length c.0.0) ++ c.0.0) p.0 (Takes-then a.0.1 b.0.1 c.0.1 (to_be_bytes w16 (length c.0.0)) c.0.0 second r.0) in
    (s, record { number = p.1; content = omega (arith, q.1, len) }, subst (λ (v : Unread). Takes u (setting_bytes s) v) (ok_is c.0.1 w c.2) whole)

four_at_least : (s : Setting) (rest : List ℕ) → 4 + length rest ≤ length (setting_bytes s ++ rest)
four_at_least s rest = omega (arith, length-append s.content rest)

pub settings-take : (most : ℕ) (u v : Unread) → IsBytes u.rest → length u.rest ≤ most → settings_at most u ≡ Ok v → AreSettings u.rest
settings-take zero u v fits le e = ([], nil_from_length u.rest (omega arith), tt)
settings-take (suc most) u v fits le e =
    elim (settings_ok (eqb (length u.rest) 0) most u v e) [
      | inl none ↦ ([], nil_from_length u.rest (eqb-true _ _ none), tt)
      | inr g ↦
          let s = setting-takes u g.0 fits g.1 in
          let long = four_at_least s.0 g.0.rest in
          let shorter : length g.0.rest ≤ most = omega (arith, long, ap length s.2.bytes) in
          let more = settings-take most g.0 v s.2.rest shorter g.2 in
          (s.0 ∷ more.0, s.2.bytes ∙ ap (λ (t : List ℕ). setting_bytes s.0 ++ t) more.1, (s.1, more.2))
    ]

setting-again : (at : ℕ) (s : Setting) (rest : List ℕ) → IsSetting s
    → setting_at (record { at = at; rest = setting_bytes s ++ rest }) ≡ Ok (record { at = at + 2 + 2 + length s.content; rest = rest })
setting-again at s rest is =
    let behind_it : List ℕ × Unread → Result Unread MessageFault = λ content. Ok content.1 in
    let content_of : ℕ × Unread → Result Unread MessageFault = λ len. and_then (field len.1 (bytes_at len.0 len.1)) behind_it in
    let len_of : ℕ × Unread → Result Unread MessageFault = λ number. and_then (field number.1 (number_at w16 number.1)) content_of in
    let tail : List ℕ = s.content ++ rest in
    let u : Unread = record { at = at; rest = setting_bytes s ++ rest } in
    let u1 : Unread = record { at = at + 2; rest = to_be_bytes w16 (length s.content) ++ tail } in
    let u2 : Unread = record { at = at + 2 + 2; rest = tail } in
    ap (λ (r : Result (ℕ × Unread) FieldFault). and_then (field u r) len_of) (number-again w16 (2 ^ 16) wide16 at s.number (to_be_bytes w16 (length s.content) ++ tail) is.number)
    ∙ ap (λ (r : Result (ℕ × Unread) FieldFault). and_then (field u1 r) content_of) (number-again w16 (2 ^ 16) wide16 (at + 2) (length s.content) tail is.content)
    ∙ ap (λ (r : Result (List ℕ × Unread) FieldFault). and_then (field u2 r) behind_it) (bytes-again (at + 2 + 2) s.content rest)

settings_again : (settings : List Setting) (most at : ℕ) → AllByRecursion IsSetting settings → length (flat_map setting_bytes settings) ≤ most
    → (v : Unread) × (settings_at most (record { at = at; rest = flat_map setting_bytes settings }) ≡ Ok v)
settings_again [] zero at all le = (record { at = at; rest = [] }, refl)
settings_again [] (suc most) at all le = (record { at = at; rest = [] }, refl)
settings_again (s ∷ settings) zero at all le = absurd (omega (arith, four_at_least s (flat_map setting_bytes settings)))
settings_again (s ∷ settings) (suc most) at all le =
    let tail : List ℕ = flat_map setting_bytes settings in
    let long = four_at_least s tail in
    let some : eqb (length (setting_bytes s ++ tail)) 0 ≡ false = ne_eqb _ 0 (λ z. omega (arith, z, long)) in
    let more = settings_again settings most (at + 2 + 2 + length s.content) all.1 (omega (arith, long)) in
    (more.0, rw (some, setting-again at s tail all.0) more.1)

pub settings-again : (most at : ℕ) (x : List ℕ) → AreSettings x → length x ≤ most → (v : Unread) × (settings_at most (record { at = at; rest = x }) ≡ Ok v)
settings-again most at x are le =
    let again = settings_again are.0 most at are.2 (omega (arith, ap length are.1)) in
    (again.0, ap (λ (b : List ℕ). settings_at most (record { at = at; rest = b })) are.1 ∙ again.1)
