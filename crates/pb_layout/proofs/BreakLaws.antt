-- A reading that is refused as malformed breaks off at that place.
use Rattle.std.proofs.Common.{◌≡◌, ◌⊎◌, ℕ, zero, suc, ◌+◌, ◌<◌, ◌≤◌, Bool, true, false, cond, eqb, ltb, List, [], ◌∷◌, ◌++◌, length, take, drop, Result, Ok, Err, refl, sym, ap, subst, ◌∙◌, append_assoc, arith, inl, inr}
use Rattle.std.specs.List.{flat_map, AllByRecursion}
use Rattle.std.specs.Int.{w8, w16, to_be_bytes, from_be_bytes}
use Rattle.std.proofs.lemmas.Bool.{ltb-true, ltb-false, eqb-true, eqb-false, cases_lt, lt-ltb, le-ltb, cond-true, cond-false}
use Rattle.std.proofs.lemmas.List.{length-append, length-drop, nil_from_length}
use Rattle.pb_base.specs.declared.fields.FieldFault.{FieldFault}
use Rattle.pb_base.specs.declared.fields.FieldFault.TheVariants.{Short}
use Rattle.pb_base.specs.declared.message.MessageFault.{MessageFault}
use Rattle.pb_base.specs.declared.message.MessageFault.TheVariants.{UnknownType, Malformed}
use Rattle.pb_base.specs.Fields.{Unread, IsBytes, Takes, whole, unread, end, behind, bytes_at, number_at}
use Rattle.pb_layout.specs.Breaking.{HasNone, NumbersBreak, SettingBreaks, SettingsBreak, BreaksWithin, KeyBreaks, Before, BreaksAt}
use Rattle.pb_layout.specs.Kind.{Kind, Byte, Between, Half, Word, Split, Time, Text, Rest, AtMost, Numbers, Settings, Value, spell, Fits, Obeys, MayFollow, AreNumbers, Setting, setting_bytes, IsSetting}
use Rattle.pb_layout.specs.Layout.{MessageLayout, Done, Stop, Key}
use Rattle.pb_layout.specs.Lists.{setting_len}
use Rattle.pb_layout.specs.Reading.{and_then, field, within, split, with_number, numbers_at, setting_at, settings_at, key_at, reading, Gives}
use Rattle.pb_layout.proofs.KeyLaws.{key-takes, key-again}
use Rattle.pb_layout.proofs.ListLaws.{setting-takes}
use Rattle.pb_layout.proofs.Steps.{ok_is}

pub malformed_is : (m n : ℕ) → ◌≡◌ {A = MessageFault} (Malformed m) (Malformed n) → m ≡ n
malformed_is m n e = cc

err_is : {A : Type 0} (f g : MessageFault) → ◌≡◌ {A = Result A MessageFault} (Err f) (Err g) → f ≡ g
err_is f g e = cc

-- either the first step failed, or the one after it
and_err : {A B : Type 0} (r : Result A MessageFault) (next : A → Result B MessageFault) (fault : MessageFault) → and_then r next ≡ Err fault
    → (r ≡ Err fault) ⊎ ((x : A) × (r ≡ Ok x) × (next x ≡ Err fault))
and_err (Ok x) next fault e = inr (x, refl, e)
and_err {A} (Err f) next fault e = inl (ap (λ (g : MessageFault). Err g) (err_is f fault e))

-- a field is refused at its first byte
field_err : {A : Type 0} (u : Unread) (r : Result A FieldFault) (place : ℕ) → field u r ≡ Err (Malformed place) → place ≡ u.at
field_err u (Ok x) place e = absurd cc
field_err u (Err f) place e = sym (malformed_is u.at place (err_is (Malformed u.at) (Malformed place) e))

within_err : (low high : ℕ) (u : Unread) (n : ℕ × Unread) (place : ℕ) (b : Bool) → cond b (Ok n) (Err (Malformed u.at)) ≡ Err (Malformed place) → place ≡ u.at
within_err low high u n place true e = absurd cc
within_err low high u n place false e = sym (malformed_is u.at place (err_is {A = ℕ × Unread} (Malformed u.at) (Malformed place) e))

-- ---- numbers

numbers_break : (bytes : List ℕ) (at place : ℕ) → numbers_at bytes at ≡ Err (Malformed place) → (n : ℕ) × (place ≡ at + n) × NumbersBreak n bytes
numbers_break [] at place e =
    (0, omega (arith, malformed_is at place (err_is (Malformed at) (Malformed place) e)), record { numbers = []; rest = []; parts = refl; are = tt; place = refl; short = omega arith })
numbers_break (high ∷ []) at place e =
    (0, omega (arith, malformed_is at place (err_is (Malformed at) (Malformed place) e)), record { numbers = []; rest = high ∷ []; parts = refl; are = tt; place = refl; short = omega arith })
numbers_break (high ∷ low ∷ rest) at place e = go (numbers_break rest (at + 2) place) (eqb (high + low) 0) refl e
  where
    go : (numbers_at rest (at + 2) ≡ Err (Malformed place) → (n : ℕ) × (place ≡ at + 2 + n) × NumbersBreak n rest) → (b : Bool) → eqb (high + low) 0 ≡ b → cond b (Ok ([], unread (at + 2) rest)) (and_then (numbers_at rest (at + 2)) (with_number high low)) ≡ Err (Malformed place)
        → (n : ℕ) × (place ≡ at + n) × NumbersBreak n (high ∷ low ∷ rest)
    go later true is f = absurd cc
    go later false is f =
        elim (and_err (numbers_at rest (at + 2)) (with_number high low) (Malformed place) f) [
          | inl broke ↦
              let more = later broke in (
                2 + more.0,
                omega (arith, more.1),
                record {
                  numbers = high ∷ low ∷ more.2.numbers;
                  rest = more.2.rest;
                  parts = ap (λ (l : List ℕ). high ∷ low ∷ l) more.2.parts;
                  are = (omega (arith, eqb-false (high + low) 0 is), more.2.are);
                  place = omega (arith, more.2.place);
                  short = more.2.short;
                },
              )
          | inr on ↦ absurd cc
        ]

-- ---- settings

bytes_err : (n : ℕ) (u : Unread) (place : ℕ) → field u (bytes_at n u) ≡ Err (Malformed place) → (place ≡ u.at) × (length u.rest < n)
bytes_err n u place e = go (ltb (length u.rest) n) refl e
  where
    go : (b : Bool) → ltb (length u.rest) n ≡ b → field {A = List ℕ × Unread} u (cond b (Err (Short (end u))) (Ok (take n u.rest, behind n u))) ≡ Err (Malformed place) → (place ≡ u.at) × (length u.rest < n)
    go true is f = (field_err {A = List ℕ × Unread} u (Err (Short (end u))) place f, ltb-true (length u.rest) n is)
    go false is f = absurd cc

half_err : (u : Unread) (place : ℕ) → field u (number_at w16 u) ≡ Err (Malformed place) → (place ≡ u.at) × (length u.rest < 2)
half_err u place e = go (ltb (length u.rest) 2) refl e
  where
    go : (b : Bool) → ltb (length u.rest) 2 ≡ b → field {A = ℕ × Unread} u (cond b (Err (Short (end u))) (Ok (from_be_bytes w16 (take 2 u.rest), behind 2 u))) ≡ Err (Malformed place) → (place ≡ u.at) × (length u.rest < 2)
    go true is f = (field_err {A = ℕ × Unread} u (Err (Short (end u))) place f, ltb-true (length u.rest) 2 is)
    go false is f = absurd cc

half_ok : (u : Unread) (n : ℕ × Unread) → field u (number_at w16 u) ≡ Ok n → (2 ≤ length u.rest) × (n ≡ (from_be_bytes w16 (take 2 u.rest), behind 2 u))
half_ok u n e = go (ltb (length u.rest) 2) refl e
  where
    go : (b : Bool) → ltb (length u.rest) 2 ≡ b → field {A = ℕ × Unread} u (cond b (Err (Short (end u))) (Ok (from_be_bytes w16 (take 2 u.rest), behind 2 u))) ≡ Ok n
        → (2 ≤ length u.rest) × (n ≡ (from_be_bytes w16 (take 2 u.rest), behind 2 u))
    go true is f = absurd cc
    go false is f = (ltb-false (length u.rest) 2 is, sym (ok_is (from_be_bytes w16 (take 2 u.rest), behind 2 u) n f))

-- the first setting breaks off
setting_break : (u : Unread) (place : ℕ) → setting_at u ≡ Err (Malformed place) → (n : ℕ) × (place ≡ u.at + n) × SettingBreaks n u.rest
setting_break u place e =
    let behind_it : List ℕ × Unread → Result Unread MessageFault = λ content. Ok content.1 in
    let content_of : ℕ × Unread → Result Unread MessageFault = λ len. and_then (field len.1 (bytes_at len.0 len.1)) behind_it in
    let len_of : ℕ × Unread → Result Unread MessageFault = λ number. and_then (field number.1 (number_at w16 number.1)) content_of in
    elim (and_err (field u (number_at w16 u)) len_of (Malformed place) e) [
      | inl first ↦ let b = half_err u place first in (0, omega (arith, b.0), inl (refl, b.1))
      | inr a ↦
          let number = half_ok u a.0 a.1 in
          let v : Unread = behind 2 u in
          let rest : length v.rest + 2 ≡ length u.rest = omega (arith, length-drop 2 u.rest, number.0) in
          let next : and_then (field v (number_at w16 v)) content_of ≡ Err (Malformed place) = subst (λ (m : ℕ × Unread). len_of m ≡ Err (Malformed place)) number.1 a.2 in
          elim (and_err (field v (number_at w16 v)) content_of (Malformed place) next) [
            | inl second ↦ let b = half_err v place second in (2, omega (arith, b.0), inr (inl (refl, omega arith, omega (arith, b.1, rest))))
            | inr c ↦
                let len = half_ok v c.0 c.1 in
                let w : Unread = behind 2 v in
                let after : length w.rest + 4 ≡ length u.rest = omega (arith, length-drop 2 v.rest, len.0, rest) in
                let last : and_then (field w (bytes_at (from_be_bytes w16 (take 2 v.rest)) w)) behind_it ≡ Err (Malformed place) =
                subst (λ (m : ℕ × Unread). content_of m ≡ Err (Malformed place)) len.1 c.2 in
                elim (and_err (field w (bytes_at (from_be_bytes w16 (take 2 v.rest)) w)) behind_it (Malformed place) last) [
                  | inl third ↦ let b = bytes_err (from_be_bytes w16 (take 2 v.rest)) w place third in (4, omega (arith, b.0), inr (inr (refl, omega (arith, after), omega (arith, b.1, after))))
                  | inr d ↦ absurd cc
                ]
          ]
    ]

settings_break : (most : ℕ) (u : Unread) (place : ℕ) → IsBytes u.rest → settings_at most u ≡ Err (Malformed place) → (n : ℕ) × (place ≡ u.at + n) × SettingsBreak n u.rest
settings_break zero u place fits e = absurd cc
settings_break (suc most) u place fits e = go (λ w. settings_break most w place) (eqb (length u.rest) 0) e
  where
    go : ((w : Unread) → IsBytes w.rest → settings_at most w ≡ Err (Malformed place) → (n : ℕ) × (place ≡ w.at + n) × SettingsBreak n w.rest) → (b : Bool) → cond b (Ok u) (and_then (setting_at u) (settings_at most)) ≡ Err (Malformed place) → (n : ℕ) × (place ≡ u.at + n) × SettingsBreak n u.rest
    go later true f = absurd cc
    go later false f =
        elim (and_err (setting_at u) (settings_at most) (Malformed place) f) [
          | inl broke ↦
              let b = setting_break u place broke in
              (b.0, b.1, record { settings = []; rest = u.rest; parts = refl; are = tt; within = b.0; place = omega arith; breaks = b.2 })
          | inr a ↦
              let s = setting-takes u a.0 fits a.1 in
              let more = later a.0 s.2.rest a.2 in
              let b = more.2 in (
                length (setting_bytes s.0) + more.0,
                omega (arith, more.1, s.2.at),
                record {
                  settings = s.0 ∷ b.settings;
                  rest = b.rest;
                  parts = s.2.bytes ∙ ap (λ (l : List ℕ). setting_bytes s.0 ++ l) b.parts ∙ sym (append_assoc (setting_bytes s.0) (flat_map setting_bytes b.settings) b.rest);
                  are = (s.1, b.are);
                  within = b.within;
                  place = omega (arith, b.place, length-append (setting_bytes s.0) (flat_map setting_bytes b.settings));
                  breaks = b.breaks;
                },
              )
        ]

-- ---- keys

breaks_within : (k : Kind) (u : Unread) (place : ℕ) → IsBytes u.rest → key_at k u ≡ Err (Malformed place) → (n : ℕ) × (place ≡ u.at + n) × BreaksWithin k n u.rest
unfolding key_at
breaks_within Byte u place fits e = (0, omega (arith, field_err u _ place e), refl)
breaks_within (Between low high) u place fits e =
    elim (and_err (field u (number_at w8 u)) (within low high u) (Malformed place) e) [
      | inl first ↦ (0, omega (arith, field_err u _ place first), refl)
      | inr a ↦ (0, omega (arith, within_err low high u a.0 place _ a.2), refl)
    ]
breaks_within Half u place fits e = (0, omega (arith, field_err u _ place e), refl)
breaks_within Word u place fits e = (0, omega (arith, field_err u _ place e), refl)
breaks_within Split u place fits e =
    elim (and_err (field u (number_at w16 u)) _ (Malformed place) e) [
      | inl first ↦ (0, omega (arith, field_err u _ place first), refl)
      | inr a ↦ absurd cc
    ]
breaks_within Time u place fits e = (0, omega (arith, field_err u _ place e), refl)
breaks_within Text u place fits e = (0, omega (arith, field_err u _ place e), refl)
breaks_within Rest u place fits e = absurd cc
breaks_within (AtMost most) u place fits e = absurd cc
breaks_within Numbers u place fits e = numbers_break u.rest u.at place e
breaks_within Settings u place fits e =
    elim (and_err (settings_at (length u.rest) u) _ (Malformed place) e) [
      | inl broke ↦ settings_break (length u.rest) u place fits broke
      | inr a ↦ absurd cc
    ]

-- a key that is refused has no value there
has_none : (k : Kind) (u : Unread) (fault : MessageFault) → key_at k u ≡ Err fault → HasNone k u.rest
has_none k u fault e = λ v rest parts fits obeys follows.
    let again = key-again k u.at v rest fits obeys follows in
    absurd (clash (sym e ∙ ap (λ (l : List ℕ). key_at k (record { at = u.at; rest = l })) parts ∙ again))
  where
    clash : {v : Value k × Unread} → ◌≡◌ {A = Result (Value k × Unread) MessageFault} (Err fault) (Ok v) → ⊥
    clash f = cc

pub reading-breaks : {X : Type 0} (l : MessageLayout X) (u : Unread) (place : ℕ) → IsBytes u.rest → reading l u ≡ Err (Malformed place) → BreaksAt l u.at u.rest place
unfolding reading
reading-breaks (Done x) u place fits e = absurd cc
reading-breaks {X} (Stop fault) u place fits e = err_is {A = X} fault (Malformed place) e
reading-breaks {X} (Key k next) u place fits e =
    elim (and_err (key_at k u) (λ v. reading (next v.0) v.1) (Malformed place) e) [
      | inl broke ↦
          let b = breaks_within k u place fits broke in
          inl (record { none = has_none k u (Malformed place) broke; within = b.0; breaks = b.2; is = b.1 })
      | inr a ↦
          let t = key-takes k u a.0.0 a.0.1 fits a.1 in
          let before : Before k u.rest = record { value = a.0.0; rest = a.0.1.rest; parts = t.takes.bytes; fits = t.fits; obeys = t.obeys; follows = t.follows } in
          let more = reading-breaks (next a.0.0) a.0.1 place t.takes.rest a.2 in
          inr (before, subst (λ (n : ℕ). BreaksAt (next a.0.0) n a.0.1.rest place) t.takes.at more)
    ]

-- the same of what a function answered
pub breaks_by : {X Y : Type 0} (l : MessageLayout X) (view : Y → X) (bytes : List ℕ) (r : Result Y MessageFault) → IsBytes bytes → Gives view r (reading l (whole bytes))
    → (place : ℕ) → r ≡ Err (Malformed place) → BreaksAt l 0 bytes place
breaks_by l view bytes (Ok y) fits given place e = absurd cc
breaks_by {X} {Y} l view bytes (Err fault) fits given place e =
    reading-breaks l (whole bytes) place fits (given ∙ ap (λ (f : MessageFault). Err f) (err_is {A = Y} fault (Malformed place) e))
