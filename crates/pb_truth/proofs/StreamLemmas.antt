-- Good pieces of streams, and where they end.
use Rattle.std.proofs.Common.{◌≡◌, ◌≢◌, inl, inr, ⊎_elim, ℕ, suc, ◌+◌, ◌-◌, true, List, [], ◌∷◌, ◌++◌, length, Option, Some, None, All, flat_map, refl, sym, ◌∙◌, ap, subst, arith, append_assoc, length-append}
use Rattle.std.specs.Prelude.{option_to_list, option_map}
use Rattle.std.specs.List.{Contains}
use Rattle.std.proofs.lemmas.List.{take_at}
use Rattle.std.proofs.lemmas.List.Elements.{All-nil, All-cons, All-contains, Contains-append_cases, Contains-push, Contains-push_cases}
use Rattle.pb_frame.specs.Signature.{start, sig, null}
use Rattle.pb_frame.specs.Framing.{flag, quote, Quoted, nothing, plain, quote_quoted, flag_quoted, quoted, frame, cut, Piece, piece_of, has_next, placed, pieces, IsBodySize, IsContentSize, IsGood, content_of, Finding, Whole, outcome, Verdict, verdict_of, verdicts}
use Rattle.pb_frame.specs.Hearing.{HasNoFlag}
use Rattle.pb_frame.specs.Faults.{IsPiece}
use Rattle.pb_frame.proofs.FrameLemmas.{frame-heard}
use Rattle.pb_truth.specs.Asked.{HasContent}
use Rattle.pb_truth.specs.Honest.{EndsGoodPiece}

none_there : {A : Type 0} (x : A) → Contains [] x → ⊥
none_there x has = omega (arith, has.1)

pub only_one : {A : Type 0} (x y : A) → Contains (x ∷ []) y → x ≡ y
only_one x y has = ⊎_elim (λ none. absurd (none_there y none)) (λ same. same) (Contains-push_cases [] x y has)

from_one : {A B : Type 0} (f : A → List B) (xs : List A) (y : B) → Contains (flat_map f xs) y → (x : A) × Contains xs x × Contains (f x) y
from_one f [] y has = absurd (none_there y has)
from_one f (x ∷ xs) y has =
    ⊎_elim (λ here. (x, (0, omega arith, refl), here))
    (λ later. let one = from_one f xs y later in (one.0, (suc one.1.0, omega (arith, one.1.1), one.1.2), one.2))
    (Contains-append_cases (f x) (flat_map f xs) y has)

outcome_of_verdict : (at : ℕ) (o : Option Finding) (v : Verdict) → Contains (option_to_list (option_map (λ x. record { piece = at; outcome = x }) o)) v → o ≡ Some v.outcome
outcome_of_verdict at None v has = absurd (none_there v has)
outcome_of_verdict at (Some o) v has = ap (λ (x : Verdict). Some x.outcome) (only_one (record { piece = at; outcome = o }) v has)

abbrev flagged : List (List ℕ) → List ℕ
flagged texts = flat_map (λ text. flag ∷ text) texts

-- a piece with an end stands between two flag bytes
abbrev Between : List ℕ → List ℕ → Type 0
Between stream text = (before rest : List ℕ) × (stream ≡ before ++ flag ∷ (text ++ flag ∷ rest))

piece_within : (at : ℕ) (t : List ℕ) (ts : List (List ℕ)) (p : Piece) → Contains (piece_of at t (has_next ts)) p → p.ended ≡ true → Between (flagged (t ∷ ts)) p.text
piece_within at [] ts p has ended = absurd (none_there p has)
piece_within at (b ∷ t) [] p has ended = let e = ap (λ (x : Piece). x.ended) (only_one _ p has) ∙ ended in absurd cc
piece_within at (b ∷ t) (u ∷ us) p has ended =
    let e = ap (λ (x : Piece). x.text) (only_one _ p has) in
    ([], u ++ flagged us, ap (λ x. flag ∷ (x ++ flag ∷ (u ++ flagged us))) e)

placed_within : (at : ℕ) (texts : List (List ℕ)) (p : Piece) → Contains (placed at texts) p → p.ended ≡ true → Between (flagged texts) p.text
unfolding placed
placed_within at [] p has ended = absurd (none_there p has)
placed_within at (t ∷ ts) p has ended =
    ⊎_elim (λ here. piece_within at t ts p here ended)
    (λ later.
    let b = placed_within (at + length t + 1) ts p later ended in
    (flag ∷ (t ++ b.0), b.1, ap (λ l. flag ∷ (t ++ l)) b.2 ∙ ap (λ l. flag ∷ l) (sym (append_assoc t b.0 (flag ∷ (p.text ++ flag ∷ b.1))))))
    (Contains-append_cases (piece_of at t (has_next ts)) (placed (at + length t + 1) ts) p has)

-- what framing says
abbrev CutsWhole : Type 0
CutsWhole = (stream : List ℕ) → (cut stream).head ++ flagged (cut stream).texts ≡ stream

abbrev ArePieces : Type 0
ArePieces = (stream : List ℕ) → All IsPiece (pieces stream)

abbrev WholeIsGood : Type 0
WholeIsGood = (piece : Piece) (content : List ℕ) → IsPiece piece → outcome piece ≡ Some (Whole content)
    → (piece.ended ≡ true) × ((good : IsGood piece.text) × (content ≡ content_of good.0))

-- the piece of a verdict
piece_of_content : (stream content : List ℕ) → HasContent stream content → (p : Piece) × Contains (pieces stream) p × (outcome p ≡ Some (Whole content))
unfolding verdicts
piece_of_content stream content has =
    let one = from_one verdict_of (pieces stream) (record { piece = has.0; outcome = Whole content }) has.1 in
    (one.0, one.1, outcome_of_verdict one.0.at (outcome one.0) (record { piece = has.0; outcome = Whole content }) one.2)

between_pieces : CutsWhole → (stream : List ℕ) (p : Piece) → Contains (pieces stream) p → p.ended ≡ true → Between stream p.text
unfolding pieces
between_pieces whole stream p has ended =
    let head = (cut stream).head in
    let b = placed_within (length head + 1) (cut stream).texts p has ended in
    (head ++ b.0, b.1, sym (whole stream) ∙ ap (λ l. head ++ l) b.2 ∙ sym (append_assoc head b.0 (flag ∷ (p.text ++ flag ∷ b.1))))

-- A good piece of a stream ends a beginning of the stream.
pub content_ends : CutsWhole → ArePieces → WholeIsGood → (stream content : List ℕ) → HasContent stream content
    → (prefix rest : List ℕ) × (stream ≡ prefix ++ rest) × EndsGoodPiece prefix content
content_ends whole are good stream content has =
    let p = piece_of_content stream content has in
    let is = All-contains IsPiece (pieces stream) p.0 (are stream) p.1 in
    let g = good p.0 content is p.2 in
    let b = between_pieces whole stream p.0 p.1 g.0 in (
      b.0 ++ flag ∷ (p.0.text ++ flag ∷ []),
      b.1,
      b.2 ∙ ap (λ l. b.0 ++ flag ∷ l) (sym (append_assoc p.0.text (flag ∷ []) b.1)) ∙ sym (append_assoc b.0 (flag ∷ (p.0.text ++ flag ∷ [])) b.1),
      record { before = b.0; text = p.0.text; body = g.1.0.0; is = refl; no_flag = is.1; good = g.1.0.1; content_is = g.1.1 },
    )

-- whatever came earlier
pub ends_later : (earlier stream content : List ℕ) → EndsGoodPiece stream content → EndsGoodPiece (earlier ++ stream) content
ends_later earlier stream content ends = record {
  before = earlier ++ ends.before;
  text = ends.text;
  body = ends.body;
  is = ap (λ l. earlier ++ l) ends.is ∙ sym (append_assoc earlier ends.before (flag ∷ (ends.text ++ flag ∷ [])));
  no_flag = ends.no_flag;
  good = ends.good;
  content_is = ends.content_is;
}

-- ---- written frames

pub no_flag : {body text : List ℕ} → Quoted body text → HasNoFlag text
no_flag nothing = All-nil (λ byte. byte ≢ flag)
no_flag (plain {byte = b} {text = t} not_quote not_flag q) = All-cons (λ byte. byte ≢ flag) b t not_flag (no_flag q)
no_flag (quote_quoted {text = t} q) =
    All-cons (λ byte. byte ≢ flag) quote (0xDC ∷ t) (λ e. omega (arith, e)) (All-cons (λ byte. byte ≢ flag) 0xDC t (λ e. omega (arith, e)) (no_flag q))
no_flag (flag_quoted {text = t} q) =
    All-cons (λ byte. byte ≢ flag) quote (0xDD ∷ t) (λ e. omega (arith, e)) (All-cons (λ byte. byte ≢ flag) 0xDD t (λ e. omega (arith, e)) (no_flag q))

content_back : (content : List ℕ) (a b : ℕ) → content ≡ content_of (content ++ a ∷ b ∷ [])
content_back content a b = sym (take_at content (a ∷ b ∷ []) _ (sym (ap (λ n. n - 2) (length-append content (a ∷ b ∷ [])) ∙ omega arith)))

body_size : (content : List ℕ) (a b : ℕ) → IsContentSize (length content) → IsBodySize (length (content ++ a ∷ b ∷ []))
body_size content a b size =
    let long = length-append content (a ∷ b ∷ []) in
    ⊎_elim (λ four. inl (omega (arith, four, long))) (λ more. inr (omega (arith, more.0, long), omega (arith, more.1, long))) size

pub written_ends : (content : List ℕ) → IsContentSize (length content) → Quoted (content ++ null (sig content start)) (quoted (content ++ null (sig content start)))
    → sig (content ++ null (sig content start)) start ≡ 0 → EndsGoodPiece (frame content) content
written_ends content size stands signed = record {
  before = [];
  text = quoted (content ++ null (sig content start));
  body = content ++ null (sig content start);
  is = refl;
  no_flag = no_flag stands;
  good = record { stands = stands; size = body_size content _ _ size; signed = signed };
  content_is = content_back content _ _;
}

pub flag_alone : verdicts (flag ∷ []) ≡ []
unfolding verdicts pieces placed cut
flag_alone = refl

-- a written frame has one verdict
pub frame_alone : (content : List ℕ) → IsContentSize (length content) → verdicts (frame content) ≡ record { piece = 1; outcome = Whole content } ∷ []
frame_alone content size = frame-heard [] content size ∙ ap (λ vs. vs ++ record { piece = 1; outcome = Whole content } ∷ []) flag_alone

pub frame_has : (content : List ℕ) → IsContentSize (length content) → HasContent (frame content) content
frame_has content size =
    (1, subst (λ vs. Contains vs (record { piece = 1; outcome = Whole content })) (sym (frame_alone content size)) (Contains-push [] (record { piece = 1; outcome = Whole content })))
