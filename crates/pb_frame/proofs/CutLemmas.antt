-- A stream is its cut put together, and its pieces have no flag byte.
use Rattle.std.proofs.Common.{◌≡◌, ◌≢◌, ℕ, ◌+◌, inl, inr, Bool, All, List, [], ◌∷◌, ◌++◌, length, flat_map, refl, sym, ◌∙◌, ap, subst, arith}
use Rattle.std.proofs.lemmas.Bool.{cases_eq, eq-eqb, ne_eqb, cond-true, cond-false}
use Rattle.std.proofs.lemmas.List.{take_at, drop_at}
use Rattle.std.proofs.lemmas.List.Elements.{All-nil, All-cons, All-append, All-take, All-drop}
use Rattle.pb_frame.specs.Framing.{flag, Cut, cut, piece_of, has_next, placed, pieces}
use Rattle.pb_frame.specs.Hearing.{HasNoFlag}
use Rattle.pb_frame.specs.Faults.{IsPiece}

abbrev NotFlag : ℕ → Type 0
NotFlag byte = byte ≢ flag

-- cutting loses nothing, and cuts at each flag byte
abbrev whole_of : Cut → List ℕ
whole_of c = c.head ++ flat_map (λ text. flag ∷ text) c.texts

pub cut-whole : (stream : List ℕ) → whole_of (cut stream) ≡ stream
unfolding cut
cut-whole [] = refl
cut-whole (x ∷ stream) =
    let flagged : Cut = record { head = []; texts = (cut stream).head ∷ (cut stream).texts } in
    let more : Cut = record { head = x ∷ (cut stream).head; texts = (cut stream).texts } in
    elim (cases_eq x flag) [
      | inl f ↦ ap whole_of (cond-true _ flagged more (eq-eqb x flag f)) ∙ ap (λ t. flag ∷ t) (cut-whole stream) ∙ ap (λ y. y ∷ stream) (sym f)
      | inr nf ↦ ap whole_of (cond-false _ flagged more (ne_eqb x flag nf)) ∙ ap (λ t. x ∷ t) (cut-whole stream)
    ]

pub no_flag-head : (stream : List ℕ) → HasNoFlag (cut stream).head
unfolding cut
no_flag-head [] = All-nil NotFlag
no_flag-head (x ∷ stream) =
    let flagged : Cut = record { head = []; texts = (cut stream).head ∷ (cut stream).texts } in
    let more : Cut = record { head = x ∷ (cut stream).head; texts = (cut stream).texts } in
    elim (cases_eq x flag) [
      | inl f ↦ subst (λ (c : Cut). HasNoFlag c.head) (sym (cond-true _ flagged more (eq-eqb x flag f))) (All-nil NotFlag)
      | inr nf ↦ subst (λ (c : Cut). HasNoFlag c.head) (sym (cond-false _ flagged more (ne_eqb x flag nf))) (All-cons NotFlag x (cut stream).head nf (no_flag-head stream))
    ]

abbrev texts_of : Cut → List ℕ
texts_of c = flat_map (λ text. text) c.texts

pub no_flag-texts : (stream : List ℕ) → HasNoFlag (texts_of (cut stream))
unfolding cut
no_flag-texts [] = All-nil NotFlag
no_flag-texts (x ∷ stream) =
    let flagged : Cut = record { head = []; texts = (cut stream).head ∷ (cut stream).texts } in
    let more : Cut = record { head = x ∷ (cut stream).head; texts = (cut stream).texts } in
    elim (cases_eq x flag) [
      | inl f ↦ subst (λ (c : Cut). HasNoFlag (texts_of c)) (sym (cond-true _ flagged more (eq-eqb x flag f))) (All-append NotFlag (cut stream).head (texts_of (cut stream)) (no_flag-head stream) (no_flag-texts stream))
      | inr nf ↦ subst (λ (c : Cut). HasNoFlag (texts_of c)) (sym (cond-false _ flagged more (ne_eqb x flag nf))) (no_flag-texts stream)
    ]

-- the pieces of a stream have bytes, and no flag byte
placed-pieces : (at : ℕ) (texts : List (List ℕ)) → HasNoFlag (flat_map (λ text. text) texts) → All IsPiece (placed at texts)
unfolding placed
placed-pieces at [] clear = All-nil IsPiece
placed-pieces at (t ∷ ts) clear =
    let rest = flat_map (λ text. text) ts in
    All-append IsPiece (piece_of at t (has_next ts)) (placed (at + length t + 1) ts)
    (one at t (has_next ts) (subst (λ t. HasNoFlag t) (take_at t rest (length t) refl) (All-take NotFlag (length t) (t ++ rest) clear)))
    (placed-pieces (at + length t + 1) ts (subst (λ t. HasNoFlag t) (drop_at t rest (length t) refl) (All-drop NotFlag (length t) (t ++ rest) clear)))
  where
    one : (at : ℕ) (text : List ℕ) (ended : Bool) → HasNoFlag text → All IsPiece (piece_of at text ended)
    one at [] ended h = All-nil IsPiece
    one at (x ∷ text) ended h = All-cons IsPiece (record { at = at; text = x ∷ text; ended = ended }) [] (omega arith, h) (All-nil IsPiece)

pub pieces-pieces : (stream : List ℕ) → All IsPiece (pieces stream)
unfolding pieces
pieces-pieces stream = placed-pieces (length (cut stream).head + 1) (cut stream).texts (no_flag-texts stream)
