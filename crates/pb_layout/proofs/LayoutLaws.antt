-- What a layout reads is what its values spell, and what they spell is read again.
use Rattle.std.proofs.Common.{◌≡◌, ℕ, ◌+◌, List, [], ◌∷◌, ◌++◌, length, Bool, true, false, eqb, Result, Ok, Err, IfOk, refl, sym, ap, subst, ◌∙◌, append_assoc, inl, inr}
use Rattle.std.specs.List.{AllByRecursion}
use Rattle.std.proofs.lemmas.Bool.{eqb-true, ne_eqb}
use Rattle.std.proofs.lemmas.List.{append-nil}
use Rattle.pb_base.specs.declared.message.MessageFault.{MessageFault}
use Rattle.pb_base.specs.Fields.{Unread, IsBytes, whole}
use Rattle.pb_layout.specs.Kind.{Value, spell, MayFollow}
use Rattle.pb_layout.specs.Layout.{MessageLayout, Done, Stop, Key, Values, made, spelled, AllFit, AllObey, MayEnd, IsAmong, IsValid, bytes_of, ReadsAs, WrittenIsRead}
use Rattle.pb_layout.specs.Reading.{and_then, key_at, reading, Gives}
use Rattle.pb_layout.proofs.Steps.{ok_is, and_ok}
use Rattle.pb_layout.proofs.KeyLaws.{key-takes, key-again}

pub record HasRead {X : Type 0} (l : MessageLayout X) (bytes : List ℕ) (x : X) : Type 0 where
  pub values : Values l
  pub rest : List ℕ
  pub parts : bytes ≡ spelled l values ++ rest
  pub fits : AllFit l values
  pub obeys : AllObey l values
  pub ends : MayEnd l values rest
  pub makes : made l values ≡ x

pub reading-takes : {X : Type 0} (l : MessageLayout X) (u : Unread) (x : X) → IsBytes u.rest → reading l u ≡ Ok x → HasRead l u.rest x
unfolding reading
reading-takes (Done y) u x fits e = record { values = tt; rest = u.rest; parts = refl; fits = tt; obeys = tt; ends = tt; makes = ok_is y x e }
reading-takes (Stop fault) u x fits e = absurd cc
reading-takes (Key k next) u x fits e =
    let a = and_ok (key_at k u) (λ v. reading (next v.0) v.1) x e in
    let t = key-takes k u a.0.0 a.0.1 fits a.1 in
    let r = reading-takes (next a.0.0) a.0.1 x t.takes.rest a.2 in
    let tail : List ℕ = spelled (next a.0.0) r.values in
    record {
      values = (a.0.0, r.values);
      rest = r.rest;
      parts = t.takes.bytes ∙ ap (λ (b : List ℕ). spell k a.0.0 ++ b) r.parts ∙ sym (append_assoc (spell k a.0.0) tail r.rest);
      fits = (t.fits, r.fits);
      obeys = (t.obeys, r.obeys);
      ends = (subst (MayFollow k a.0.0) r.parts t.follows, r.ends);
      makes = r.makes;
    }

pub reading-again : {X : Type 0} (l : MessageLayout X) (at : ℕ) (values : Values l) (rest : List ℕ) → AllFit l values → AllObey l values → MayEnd l values rest
    → reading l (record { at = at; rest = spelled l values ++ rest }) ≡ Ok (made l values)
unfolding reading
reading-again (Done x) at values rest fits obeys ends = refl
reading-again (Stop fault) at values rest fits obeys ends = absurd values
reading-again (Key k next) at values rest fits obeys ends =
    let tail : List ℕ = spelled (next values.0) values.1 in
    ap (λ (b : List ℕ). reading (Key k next) (record { at = at; rest = b })) (append_assoc (spell k values.0) tail rest)
    ∙ ap (λ (r : Result (Value k × Unread) MessageFault). and_then r (λ v. reading (next v.0) v.1)) (key-again k at values.0 (tail ++ rest) fits.0 obeys.0 ends.0)
    ∙ reading-again (next values.0) (at + length (spell k values.0)) values.1 rest fits.1 obeys.1 ends.1

-- What was read is the message that the bytes read as, where the message's keys are the values that make it.
pub reading-found : {X : Type 0} (l : MessageLayout X) (keys : X → Values l) → ((values : Values l) → keys (made l values) ≡ values)
    → (bytes : List ℕ) (x : X) → IsBytes bytes → reading l (whole bytes) ≡ Ok x → ReadsAs l keys x bytes
reading-found l keys back bytes x fits e =
    let r = reading-takes l (whole bytes) x fits e in
    let same : r.values ≡ keys x = sym (back r.values) ∙ ap keys r.makes in
    record {
      valid = record { obeys = subst (AllObey l) same r.obeys; makes = ap (made l) (sym same) ∙ r.makes };
      fits = subst (AllFit l) same r.fits;
      rest = r.rest;
      parts = r.parts ∙ ap (λ (values : Values l). spelled l values ++ r.rest) same;
      ends = subst (λ (values : Values l). MayEnd l values r.rest) same r.ends;
    }

-- what reads as a message is read as it
pub reading-only : {X : Type 0} (l : MessageLayout X) (keys : X → Values l) (bytes : List ℕ) (x : X) → ReadsAs l keys x bytes → reading l (whole bytes) ≡ Ok x
reading-only l keys bytes x r =
    ap (λ (b : List ℕ). reading l (whole b)) r.parts ∙ reading-again l 0 (keys x) r.rest r.fits r.valid.obeys r.ends ∙ ap (λ (y : _). Ok y) r.valid.makes

-- A message that is written reads as itself, whatever may stand behind it.
pub written-reads : {X : Type 0} (l : MessageLayout X) (keys : X → Values l) (x : X) (rest : List ℕ) → IsValid l keys x → AllFit l (keys x) → MayEnd l (keys x) rest
    → ReadsAs l keys x (bytes_of l keys x ++ rest)
written-reads l keys x rest valid fits ends = record { valid = valid; fits = fits; rest = rest; parts = refl; ends = ends }

-- It reads as itself alone, where nothing has to stand behind it.
pub alone-reads : {X : Type 0} (l : MessageLayout X) (keys : X → Values l) → ((x : X) → MayEnd l (keys x) []) → (x : X) → IsValid l keys x → AllFit l (keys x)
    → ReadsAs l keys x (bytes_of l keys x)
alone-reads l keys ends x valid fits = record { valid = valid; fits = fits; rest = []; parts = sym (append-nil (bytes_of l keys x)); ends = ends x }

-- ---- the same of what a function answered

pub found_by : {X Y : Type 0} (l : MessageLayout X) (keys : X → Values l) → ((values : Values l) → keys (made l values) ≡ values)
    → (view : Y → X) (bytes : List ℕ) (r : Result Y MessageFault) → IsBytes bytes → Gives view r (reading l (whole bytes)) → IfOk r (λ y. ReadsAs l keys (view y) bytes)
found_by l keys back view bytes (Ok y) fits e = reading-found l keys back bytes (view y) fits e
found_by l keys back view bytes (Err fault) fits e = tt

pub only_by : {X Y : Type 0} (l : MessageLayout X) (keys : X → Values l) (view : Y → X) (bytes : List ℕ) (r : Result Y MessageFault)
    → Gives view r (reading l (whole bytes)) → (x : X) → ReadsAs l keys x bytes → Gives view r (Ok x)
only_by l keys view bytes (Ok y) e x reads = sym (reading-only l keys bytes x reads) ∙ e
only_by l keys view bytes (Err fault) e x reads = sym (reading-only l keys bytes x reads) ∙ e

-- two messages that the same bytes read as are one
pub one_message : {X : Type 0} (l : MessageLayout X) (keys : X → Values l) (bytes : List ℕ) (x y : X) → ReadsAs l keys x bytes → ReadsAs l keys y bytes → x ≡ y
one_message l keys bytes x y p q = ok_is x y (sym (reading-only l keys bytes x p) ∙ reading-only l keys bytes y q)

pub written-is-read : {X : Type 0} (l : MessageLayout X) (keys : X → Values l) → ((x : X) → MayEnd l (keys x) []) → WrittenIsRead l keys
written-is-read l keys ends = record {
  alone = λ x bytes is. subst (ReadsAs l keys x) (sym is.is) (alone-reads l keys ends x is.valid is.fits);
  again = λ x bytes rest is may. subst (λ b. ReadsAs l keys x (b ++ rest)) (sym is.is) (written-reads l keys x rest is.valid is.fits may);
  parts = λ x bytes reads. (_, reads.rest, reads.parts, record { valid = reads.valid; fits = reads.fits; is = refl }, reads.ends);
  one_message = λ x other bytes. one_message l keys bytes x other;
}

-- ---- types

abbrev pub IsNone : List ℕ → ℕ → Type 0
IsNone types type = AllByRecursion (λ t. eqb type t ≡ false) types

-- what holds of each type of a list, and of what is none of them, holds of every type
pub at_type : (types : List ℕ) (P : ℕ → Type 0) (type : ℕ) → AllByRecursion P types → (IsNone types type → P type) → P type
at_type [] P type each other = other tt
at_type (t ∷ types) P type each other = go (eqb type t) refl (λ no. at_type types P type each.1 (λ none. other (no, none)))
  where
    go : (b : Bool) → eqb type t ≡ b → (eqb type t ≡ false → P type) → P type
    go true e more = subst P (sym (eqb-true type t e)) each.0
    go false e more = more e

pub among : (types : List ℕ) (P : ℕ → Type 0) (type : ℕ) → AllByRecursion P types → IsAmong types type → P type
among [] P type each is = absurd is
among (t ∷ types) P type each is = elim is [
  | inl e ↦ subst P (sym e) each.0
  | inr more ↦ among types P type each.1 more
]

pub is_none : (types : List ℕ) (type : ℕ) → (IsAmong types type → ⊥) → IsNone types type
is_none [] type other = tt
is_none (t ∷ types) type other = (ne_eqb type t (λ e. other (inl e)), is_none types type (λ more. other (inr more)))
