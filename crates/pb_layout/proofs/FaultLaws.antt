-- Which fault it is: a key is malformed, and a type is unknown.
use Rattle.std.proofs.Common.{◌≡◌, ℕ, zero, suc, ◌+◌, ◌<◌, ◌≤◌, ◌↔◌, Bool, true, false, cond, eqb, leb, ◌&&◌, List, [], ◌∷◌, length, get_or, Result, Ok, Err, IfErr, refl, sym, ap, subst, ◌∙◌, arith}
use Rattle.pb_base.specs.declared.fields.FieldFault.{FieldFault}
use Rattle.pb_base.specs.declared.message.MessageFault.{MessageFault}
use Rattle.pb_base.specs.declared.message.MessageFault.TheVariants.{UnknownType, Malformed}
use Rattle.pb_base.specs.Fields.{Unread, IsBytes, bytes_at, number_at, whole, unread}
use Rattle.std.specs.Int.{w8, w16}
use Rattle.pb_base.proofs.FieldLaws.{byte-again}
use Rattle.pb_layout.specs.Kind.{Kind, Byte, Between, Half, Word, Split, Time, Text, Rest, AtMost, Numbers, Settings, Value}
use Rattle.pb_layout.specs.Layout.{MessageLayout, Done, Stop, Key}
use Rattle.pb_layout.specs.Reading.{and_then, field, within, with_number, numbers_at, setting_at, settings_at, key_at, reading, Gives}
use Rattle.pb_layout.specs.Typed.{typed}

abbrev pub IsMalformed : MessageFault → Type 0
IsMalformed (UnknownType n) = ⊥
IsMalformed (Malformed at) = Unit {0}

then_malformed : {A B : Type 0} (r : Result A MessageFault) (next : A → Result B MessageFault) → IfErr r IsMalformed → ((x : A) → IfErr (next x) IsMalformed) → IfErr (and_then r next) IsMalformed
then_malformed (Ok x) next p q = q x
then_malformed (Err fault) next p q = p

field_malformed : {A : Type 0} (u : Unread) (r : Result A FieldFault) → IfErr (field u r) IsMalformed
field_malformed u (Ok x) = tt
field_malformed u (Err fault) = tt

cond_malformed : {A : Type 0} (b : Bool) (r s : Result A MessageFault) → IfErr r IsMalformed → IfErr s IsMalformed → IfErr (cond b r s) IsMalformed
cond_malformed true r s p q = p
cond_malformed false r s p q = q

numbers_malformed : (bytes : List ℕ) (at : ℕ) → IfErr (numbers_at bytes at) IsMalformed
numbers_malformed [] at = tt
numbers_malformed (high ∷ []) at = tt
numbers_malformed (high ∷ low ∷ rest) at =
    cond_malformed (eqb (high + low) 0) (Ok ([], unread (at + 2) rest)) (and_then (numbers_at rest (at + 2)) (with_number high low)) tt
    (then_malformed (numbers_at rest (at + 2)) (with_number high low) (numbers_malformed rest (at + 2)) (λ x. tt))

setting_malformed : (u : Unread) → IfErr (setting_at u) IsMalformed
setting_malformed u =
    let behind_it : List ℕ × Unread → Result Unread MessageFault = λ content. Ok content.1 in
    let content_of : ℕ × Unread → Result Unread MessageFault = λ len. and_then (field len.1 (bytes_at len.0 len.1)) behind_it in
    let len_of : ℕ × Unread → Result Unread MessageFault = λ number. and_then (field number.1 (number_at w16 number.1)) content_of in
    then_malformed (field u (number_at w16 u)) len_of (field_malformed u (number_at w16 u)) (λ n.
    then_malformed (field n.1 (number_at w16 n.1)) content_of (field_malformed n.1 (number_at w16 n.1)) (λ l.
    then_malformed (field l.1 (bytes_at l.0 l.1)) behind_it (field_malformed l.1 (bytes_at l.0 l.1)) (λ x. tt)))

settings_malformed : (most : ℕ) (u : Unread) → IfErr (settings_at most u) IsMalformed
settings_malformed zero u = tt
settings_malformed (suc most) u =
    cond_malformed (eqb (length u.rest) 0) (Ok u) (and_then (setting_at u) (settings_at most)) tt
    (then_malformed (setting_at u) (settings_at most) (setting_malformed u) (settings_malformed most))

pub key-malformed : (k : Kind) (u : Unread) → IfErr (key_at k u) IsMalformed
unfolding key_at
key-malformed Byte u = field_malformed u _
key-malformed (Between low high) u =
    then_malformed (field u (number_at w8 u)) (within low high u) (field_malformed u (number_at w8 u)) (λ n.
    cond_malformed (leb low n.0 && leb n.0 high) (Ok n) (Err (Malformed u.at)) tt tt)
key-malformed Half u = field_malformed u _
key-malformed Word u = field_malformed u _
key-malformed Split u = then_malformed (field u (number_at w16 u)) _ (field_malformed u (number_at w16 u)) (λ n. tt)
key-malformed Time u = field_malformed u _
key-malformed Text u = field_malformed u _
key-malformed Rest u = tt
key-malformed (AtMost most) u = tt
key-malformed Numbers u = numbers_malformed u.rest u.at
key-malformed Settings u = then_malformed (settings_at (length u.rest) u) _ (settings_malformed (length u.rest) u) (λ end. tt)

-- A layout that has no fault of its own but malformed values, as behind a value that its key refuses.
abbrev pub OnlyMalformed : {X : Type 0} → MessageLayout X → Type 0
OnlyMalformed (Done x) = Unit {0}
OnlyMalformed (Stop fault) = IsMalformed fault
OnlyMalformed (Key k next) = (v : Value k) → OnlyMalformed (next v)

pub reading-malformed : {X : Type 0} (l : MessageLayout X) (u : Unread) → OnlyMalformed l → IfErr (reading l u) IsMalformed
unfolding reading
reading-malformed (Done x) u none = tt
reading-malformed (Stop fault) u none = none
reading-malformed (Key k next) u none =
    then_malformed (key_at k u) (λ v. reading (next v.0) v.1) (key-malformed k u) (λ v. reading-malformed (next v.0) v.1 (none v.0))

-- ---- layouts that begin with a type and a transaction

module _ {X : Type 0} (of_type : ℕ → ℕ → MessageLayout X) where
  pub reading-short : (bytes : List ℕ) → length bytes < 2 → reading (typed of_type) (whole bytes) ≡ Err (Malformed (length bytes))
  unfolding reading key_at
  reading-short [] short = refl
  reading-short (a ∷ []) short = refl
  reading-short (a ∷ b ∷ bytes) short = absurd (omega arith)

  -- behind two bytes the type decides
  pub reading-typed : (type tran : ℕ) (rest : List ℕ) → type < 256 → tran < 256 → reading (typed of_type) (whole (type ∷ tran ∷ rest)) ≡ reading (of_type type tran) (unread 2 rest)
  unfolding reading key_at
  reading-typed type tran rest small_type small_tran =
      let next : ℕ × Unread → Result X MessageFault = λ v. and_then (field v.1 (number_at w8 v.1)) (λ w. reading (of_type v.0 w.0) w.1) in
      let then_so : ℕ × Unread → Result X MessageFault = λ w. reading (of_type type w.0) w.1 in
      let u : Unread = whole (type ∷ tran ∷ rest) in
      let v : Unread = unread 1 (tran ∷ rest) in
      ap (λ (r : Result (ℕ × Unread) FieldFault). and_then (field u r) next) (byte-again 0 type (tran ∷ rest) small_type)
      ∙ ap (λ (r : Result (ℕ × Unread) FieldFault). and_then (field v r) then_so) (byte-again 1 tran rest small_tran)

clash : {X : Type 0} (at n : ℕ) → (let r : Result X MessageFault = Err (Malformed at) in r ≡ Err (UnknownType n)) → ⊥
clash at n e = cc

same_type : {X : Type 0} (m n : ℕ) → (let r : Result X MessageFault = Err (UnknownType m) in r ≡ Err (UnknownType n)) → m ≡ n
same_type m n e = cc

stopped : {X : Type 0} (u : Unread) (fault : MessageFault) → (let l : MessageLayout X = Stop fault in reading l u ≡ Err fault)
unfolding reading
stopped u fault = refl

-- The type is unknown exactly where there are two bytes and the first is no type.
pub reading-unknown : {X : Type 0} (of_type : ℕ → ℕ → MessageLayout X) (IsType : ℕ → Type 0) → ((type tran : ℕ) → IsType type → OnlyMalformed (of_type type tran))
    → ((type tran : ℕ) → (IsType type → ⊥) → of_type type tran ≡ Stop (UnknownType type)) → (bytes : List ℕ) (n : ℕ) → IsBytes bytes
    → (reading (typed of_type) (whole bytes) ≡ Err (UnknownType n)) ↔ ((2 ≤ length bytes) × (get_or bytes 0 0 ≡ n) × (IsType n → ⊥))
reading-unknown of_type IsType known unknown [] n fits =
    (λ e. absurd (clash 0 n (sym (reading-short of_type [] (omega arith)) ∙ e)), λ h. absurd (omega (arith, h.0)))
reading-unknown of_type IsType known unknown (a ∷ []) n fits =
    (λ e. absurd (clash 1 n (sym (reading-short of_type (a ∷ []) (omega arith)) ∙ e)), λ h. absurd (omega (arith, h.0)))
reading-unknown {X} of_type IsType known unknown (a ∷ b ∷ rest) n fits =
    let u : Unread = unread 2 rest in
    let decides : reading (typed of_type) (whole (a ∷ b ∷ rest)) ≡ reading (of_type a b) u = reading-typed of_type a b rest (fits 0) (fits 1) in
    let stops : (IsType a → ⊥) → reading (of_type a b) u ≡ Err (UnknownType a) = λ no. ap (λ (l : MessageLayout X). reading l u) (unknown a b no) ∙ stopped u (UnknownType a) in (
      λ e.
          let e' : reading (of_type a b) u ≡ Err (UnknownType n) = sym decides ∙ e in
          let no : IsType a → ⊥ = λ is. subst (λ (r : Result X MessageFault). IfErr r IsMalformed) e' (reading-malformed (of_type a b) u (known a b is)) in
          let same : a ≡ n = same_type a n (sym (stops no) ∙ e') in
          (omega arith, same, subst (λ (k : ℕ). IsType k → ⊥) same no),
      λ h.
          let no : IsType a → ⊥ = subst (λ (k : ℕ). IsType k → ⊥) (sym h.1) h.2 in
          decides ∙ stops no ∙ ap (λ (k : ℕ). Err (UnknownType k)) h.1,
    )

-- ---- the same of what a function answered

refused : {X Y : Type 0} (view : Y → X) (r : Result Y MessageFault) (read : Result X MessageFault) (fault : MessageFault) → Gives view r read → (r ≡ Err fault) ↔ (read ≡ Err fault)
refused view (Ok y) read fault given = (λ e. absurd cc, λ e. absurd cc)
refused view (Err other) read fault given = (λ e. cc, λ e. cc)

pub short_by : {X Y : Type 0} (of_type : ℕ → ℕ → MessageLayout X) (view : Y → X) (bytes : List ℕ) (r : Result Y MessageFault)
    → Gives view r (reading (typed of_type) (whole bytes)) → length bytes < 2 → r ≡ Err (Malformed (length bytes))
short_by of_type view bytes r given short = (refused view r _ (Malformed (length bytes)) given).1 (reading-short of_type bytes short)

pub unknown_by : {X Y : Type 0} (of_type : ℕ → ℕ → MessageLayout X) (IsType : ℕ → Type 0) → ((type tran : ℕ) → IsType type → OnlyMalformed (of_type type tran))
    → ((type tran : ℕ) → (IsType type → ⊥) → of_type type tran ≡ Stop (UnknownType type))
    → (view : Y → X) (bytes : List ℕ) (r : Result Y MessageFault) → IsBytes bytes → Gives view r (reading (typed of_type) (whole bytes))
    → (n : ℕ) → (r ≡ Err (UnknownType n)) ↔ ((2 ≤ length bytes) × (get_or bytes 0 0 ≡ n) × (IsType n → ⊥))
unknown_by of_type IsType known unknown view bytes r fits given n =
    let is = refused view r _ (UnknownType n) given in
    let reads = reading-unknown of_type IsType known unknown bytes n fits in
    (λ e. reads.0 (is.0 e), λ h. is.1 (reads.1 h))
