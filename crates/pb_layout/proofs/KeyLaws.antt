-- A key that is read is a key that was written, and what was written is read again, at its place.
use Rattle.std.proofs.Common.{◌≡◌, ℕ, ◌+◌, ◌*◌, ◌/◌, ◌%◌, ◌^◌, ◌<◌, ◌≤◌, min, Bool, true, false, cond, leb, ◌&&◌, List, [], ◌∷◌, ◌++◌, length, take, drop, Result, Ok, Err, refl, sym, ap, subst, ◌∙◌, arith, inl, inr}
use Rattle.std.specs.Int.{w8, w16, w32, to_be_bytes}
use Rattle.std.proofs.lemmas.Bool.{leb-true, le-leb, cases_lt}
use Rattle.std.proofs.lemmas.List.{append-nil, take_at, drop_at, take-append-drop, length-append, length-take, length-drop, take_min, drop_all, nil_from_length}
use Rattle.pb_base.specs.declared.fields.FieldFault.{FieldFault}
use Rattle.pb_base.specs.declared.message.MessageFault.{MessageFault}
use Rattle.pb_base.specs.declared.message.MessageFault.TheVariants.{Malformed}
use Rattle.pb_base.specs.Fields.{Unread, IsBytes, Takes, behind, number_at}
use Rattle.pb_base.proofs.FieldLaws.{IsBytes-drop, wide16, wide32, number-takes, number-again, byte-takes, byte-again}
use Rattle.pb_base.proofs.TextLaws.{text-takes, text-again, time-takes, time-again}
use Rattle.pb_layout.specs.Kind.{Kind, Byte, Between, Half, Word, Split, Time, Text, Rest, AtMost, Numbers, Settings, Value, spell, Fits, Obeys, MayFollow}
use Rattle.pb_layout.specs.Reading.{and_then, field, within, split, settings_at, key_at}
use Rattle.pb_layout.proofs.Steps.{ok_is, and_ok, field_ok}
use Rattle.pb_layout.proofs.ListLaws.{numbers-take, numbers-again, settings-take, settings-again}

-- a key that was read from the front
pub record Took (k : Kind) (before : Unread) (v : Value k) (after : Unread) : Type 0 where
  pub takes : Takes before (spell k v) after
  pub fits : Fits k v
  pub obeys : Obeys k v
  pub follows : MayFollow k v after.rest

within_ok : (low high : ℕ) (u : Unread) (n m : ℕ × Unread) → within low high u n ≡ Ok m → (low ≤ n.0) × (n.0 ≤ high) × (n ≡ m)
within_ok low high u n m e = go (leb low n.0) (leb n.0 high) refl refl e
  where
    go : (a b : Bool) → leb low n.0 ≡ a → leb n.0 high ≡ b → cond (a && b) (Ok n) (Err (Malformed u.at)) ≡ Ok m → (low ≤ n.0) × (n.0 ≤ high) × (n ≡ m)
    go true true la lb e = (leb-true _ _ la, leb-true _ _ lb, ok_is n m e)
    go true false la lb e = absurd cc
    go false b la lb e = absurd cc

between-takes : (low high : ℕ) (u : Unread) (n : ℕ) (v : Unread) → IsBytes u.rest → key_at (Between low high) u ≡ Ok (n, v) → Took (Between low high) u n v
unfolding key_at
between-takes low high u n v fits e =
    let a = and_ok (field u (number_at w8 u)) (within low high u) (n, v) e in
    let g = within_ok low high u a.0 (n, v) a.2 in
    let t = byte-takes u a.0.0 a.0.1 fits (field_ok u (number_at w8 u) a.0 a.1) in
    subst (λ (p : ℕ × Unread). Took (Between low high) u p.0 p.1) g.2 (record { takes = t.0; fits = t.1; obeys = (g.0, g.1); follows = tt })

split-takes : (u : Unread) (p : ℕ × ℕ) (v : Unread) → IsBytes u.rest → key_at Split u ≡ Ok (p, v) → Took Split u p v
unfolding key_at
split-takes u p v fits e =
    let after : ℕ × Unread → Result ((ℕ × ℕ) × Unread) MessageFault = λ n. Ok (split n.0, n.1) in
    let a = and_ok (field u (number_at w16 u)) after (p, v) e in
    let t = number-takes w16 (2 ^ 16) wide16 u a.0.0 a.0.1 fits (field_ok u (number_at w16 u) a.0 a.1) in
    let n : ℕ = a.0.0 in
    let whole : n ≡ n / 4096 * 4096 + n % 4096 = omega arith in
    let below : n < 2 ^ 16 = t.1 in
    let made : (ℕ × ℕ) × Unread = (split n, a.0.1) in
    subst (λ (q : (ℕ × ℕ) × Unread). Took Split u q.0 q.1) (ok_is made (p, v) a.2)
    (record { takes = subst (λ (k : ℕ). Takes u (to_be_bytes w16 k) a.0.1) whole t.0; fits = (omega arith, omega arith); obeys = (omega arith, omega arith); follows = tt })

all_taken : (u : Unread) → Takes u u.rest (behind (length u.rest) u) × (drop (length u.rest) u.rest ≡ [])
all_taken u =
    let none : drop (length u.rest) u.rest ≡ [] = drop_all (length u.rest) u.rest (omega arith) in
    (record { bytes = sym (ap (λ (r : List ℕ). u.rest ++ r) none ∙ append-nil u.rest); at = refl; rest = λ i. rw none (omega arith) }, none)

rest-takes : (u : Unread) (x : List ℕ) (v : Unread) → key_at Rest u ≡ Ok (x, v) → Took Rest u x v
unfolding key_at
rest-takes u x v e =
    let made : List ℕ × Unread = (u.rest, behind (length u.rest) u) in
    let t = all_taken u in
    subst (λ (p : List ℕ × Unread). Took Rest u p.0 p.1) (ok_is made (x, v) e) (record { takes = t.0; fits = tt; obeys = tt; follows = t.1 })

front-takes : (most : ℕ) (u : Unread) (x : List ℕ) (v : Unread) → IsBytes u.rest → key_at (AtMost most) u ≡ Ok (x, v) → Took (AtMost most) u x v
unfolding key_at
front-takes most u x v fits e =
    let n : ℕ = min most (length u.rest) in
    let made : List ℕ × Unread = (take most u.rest, behind n u) in
    let len : length (take most u.rest) ≡ n = length-take most u.rest in
    let parts : u.rest ≡ take most u.rest ++ drop n u.rest = sym (take-append-drop n u.rest) ∙ ap (λ (r : List ℕ). r ++ drop n u.rest) (take_min most u.rest) in
    subst (λ (p : List ℕ × Unread). Took (AtMost most) u p.0 p.1) (ok_is made (x, v) e) (record {
      takes = record { bytes = parts; at = ap (λ (k : ℕ). u.at + k) (sym len); rest = IsBytes-drop n u.rest fits };
      fits = tt;
      obeys = omega (arith, len);
      follows = λ short. nil_from_length _ (omega (arith, len, length-drop n u.rest));
    })

settings-takes : (u : Unread) (x : List ℕ) (v : Unread) → IsBytes u.rest → key_at Settings u ≡ Ok (x, v) → Took Settings u x v
unfolding key_at
settings-takes u x v fits e =
    let made : List ℕ × Unread = (u.rest, behind (length u.rest) u) in
    let after : Unread → Result (List ℕ × Unread) MessageFault = λ end. Ok made in
    let a = and_ok (settings_at (length u.rest) u) after (x, v) e in
    let t = all_taken u in
    subst (λ (p : List ℕ × Unread). Took Settings u p.0 p.1) (ok_is made (x, v) a.2)
    (record { takes = t.0; fits = tt; obeys = settings-take (length u.rest) u a.0 fits (omega arith) a.1; follows = t.1 })

pub key-takes : (k : Kind) (u : Unread) (v : Value k) (after : Unread) → IsBytes u.rest → key_at k u ≡ Ok (v, after) → Took k u v after
unfolding key_at
key-takes Byte u n v fits e =
    let t = byte-takes u n v fits (field_ok u (number_at w8 u) (n, v) e) in
    record { takes = t.0; fits = t.1; obeys = tt; follows = tt }
key-takes (Between low high) u n v fits e = between-takes low high u n v fits e
key-takes Half u n v fits e =
    let t = number-takes w16 (2 ^ 16) wide16 u n v fits (field_ok u (number_at w16 u) (n, v) e) in
    record { takes = t.0; fits = t.1; obeys = tt; follows = tt }
key-takes Word u n v fits e =
    let t = number-takes w32 (2 ^ 32) wide32 u n v fits (field_ok u (number_at w32 u) (n, v) e) in
    record { takes = t.0; fits = t.1; obeys = tt; follows = tt }
key-takes Split u p v fits e = split-takes u p v fits e
key-takes Time u t v fits e =
    let g = time-takes u t v fits (field_ok u _ (t, v) e) in
    record { takes = g.0; fits = (g.1, g.2); obeys = tt; follows = tt }
key-takes Text u x v fits e =
    let t = text-takes u x v fits (field_ok u _ (x, v) e) in
    record { takes = t.0; fits = tt; obeys = t.1; follows = tt }
key-takes Rest u x v fits e = rest-takes u x v e
key-takes (AtMost most) u x v fits e = front-takes most u x v fits e
key-takes Numbers u x v fits e =
    let t = numbers-take u.rest u.at x v fits e in
    record { takes = t.0; fits = tt; obeys = t.1; follows = tt }
key-takes Settings u x v fits e = settings-takes u x v fits e

-- ---- written, and read again

abbrev stands : (k : Kind) → ℕ → Value k → List ℕ → Unread
stands k at v rest = record { at = at; rest = spell k v ++ rest }

abbrev stood : (k : Kind) → ℕ → Value k → List ℕ → Unread
stood k at v rest = record { at = at + length (spell k v); rest = rest }

within_again : (low high : ℕ) (u : Unread) (n : ℕ × Unread) → low ≤ n.0 → n.0 ≤ high → within low high u n ≡ Ok n
within_again low high u n p q = rw (le-leb low n.0 p, le-leb n.0 high q) refl

between-again : (low high at n : ℕ) (rest : List ℕ) → n < 2 ^ 8 → low ≤ n → n ≤ high → key_at (Between low high) (stands (Between low high) at n rest) ≡ Ok (n, stood (Between low high) at n rest)
unfolding key_at
between-again low high at n rest fits p q =
    let u : Unread = stands Byte at n rest in
    ap (λ (r : Result (ℕ × Unread) FieldFault). and_then (field u r) (within low high u)) (byte-again at n rest fits) ∙ within_again low high u (n, stood Byte at n rest) p q

split-again : (at : ℕ) (p : ℕ × ℕ) (rest : List ℕ) → p.0 < 16 → p.1 < 4096 → key_at Split (stands Split at p rest) ≡ Ok (p, stood Split at p rest)
unfolding key_at
split-again at p rest high low =
    let n : ℕ = p.0 * 4096 + p.1 in
    let u : Unread = stands Split at p rest in
    let first : n / 4096 ≡ p.0 = omega arith in
    let second : n % 4096 ≡ p.1 = omega arith in
    let after : ℕ × Unread → Result ((ℕ × ℕ) × Unread) MessageFault = λ m. Ok (split m.0, m.1) in
    ap (λ (r : Result (ℕ × Unread) FieldFault). and_then (field u r) after) (number-again w16 (2 ^ 16) wide16 at n rest (omega arith))
    ∙ same_pair (n / 4096) p.0 (n % 4096) p.1 (stood Split at p rest) first second
  where
    same_pair : (a b c d : ℕ) (v : Unread) → a ≡ b → c ≡ d → (let r : Result ((ℕ × ℕ) × Unread) MessageFault = Ok ((a, c), v) in r ≡ Ok ((b, d), v))
    same_pair a b c d v e f = rw (e, f) refl

rest-again : (at : ℕ) (x rest : List ℕ) → rest ≡ [] → key_at Rest (stands Rest at x rest) ≡ Ok (x, stood Rest at x rest)
unfolding key_at
rest-again at x rest none =
    rw (none, append-nil x, drop_all (length x) x (omega arith)) refl

front-again : (most at : ℕ) (x rest : List ℕ) → length x ≤ most → (length x < most → rest ≡ []) → key_at (AtMost most) (stands (AtMost most) at x rest) ≡ Ok (x, stood (AtMost most) at x rest)
unfolding key_at
front-again most at x rest le ends =
    let all : List ℕ = x ++ rest in
    let short : length x < most → length rest ≡ 0 = λ lt. ap length (ends lt) in
    let n-is : min most (length all) ≡ length x =
    elim (cases_lt (length x) most) [
      | inl lt ↦ omega (arith, short lt, length-append x rest)
      | inr ge ↦ omega (arith, length-append x rest)
    ] in
    let front : take most all ≡ x = sym (take_min most all) ∙ ap (λ (n : ℕ). take n all) n-is ∙ take_at x rest (length x) refl in
    rw (front, n-is, drop_at x rest (length x) refl) refl

settings-read : (at : ℕ) (x rest : List ℕ) → Obeys Settings x → rest ≡ [] → key_at Settings (stands Settings at x rest) ≡ Ok (x, stood Settings at x rest)
unfolding key_at
settings-read at x rest are none =
    let again = settings-again (length x) at x are (omega arith) in
    rw (none, append-nil x, again.1, drop_all (length x) x (omega arith)) refl

pub key-again : (k : Kind) (at : ℕ) (v : Value k) (rest : List ℕ) → Fits k v → Obeys k v → MayFollow k v rest → key_at k (stands k at v rest) ≡ Ok (v, stood k at v rest)
unfolding key_at
key-again Byte at n rest fits obeys follows = ap (field (stands Byte at n rest)) (byte-again at n rest fits)
key-again (Between low high) at n rest fits obeys follows = between-again low high at n rest fits obeys.0 obeys.1
key-again Half at n rest fits obeys follows = ap (field (stands Half at n rest)) (number-again w16 (2 ^ 16) wide16 at n rest fits)
key-again Word at n rest fits obeys follows = ap (field (stands Word at n rest)) (number-again w32 (2 ^ 32) wide32 at n rest fits)
key-again Split at p rest fits obeys follows = split-again at p rest obeys.0 obeys.1
key-again Time at t rest fits obeys follows = ap (field (stands Time at t rest)) (time-again at t rest fits.0 fits.1)
key-again Text at x rest fits obeys follows =
    ap (field (stands Text at x rest)) (text-again at x rest obeys) ∙ ap (λ (n : ℕ). Ok (x, place (at + n) rest)) (sym (length-append x (0 ∷ [])))
  where
    place : ℕ → List ℕ → Unread
    place n r = record { at = n; rest = r }
key-again Rest at x rest fits obeys follows = rest-again at x rest follows
key-again (AtMost most) at x rest fits obeys follows = front-again most at x rest obeys follows
key-again Numbers at x rest fits obeys follows = numbers-again x at rest obeys
key-again Settings at x rest fits obeys follows = settings-read at x rest obeys follows
