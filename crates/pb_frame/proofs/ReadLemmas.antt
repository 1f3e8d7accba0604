-- What is read of a text, and the outcome of a good piece.
use Rattle.std.proofs.Common.{◌≡◌, ◌≢◌, ℕ, ◌+◌, ◌-◌, ◌<◌, ◌≤◌, ◌⊎◌, inl, inr, Bool, true, false, cond, not, ◌&&◌, List, [], ◌∷◌, ◌++◌, length, take, Some, None, refl, sym, ◌∙◌, ap, subst, arith, append_assoc, ltb, nat_eq}
use Rattle.std.proofs.lemmas.Bool.{true≢false, cases_eq, lt-ltb, le-ltb, ltb-true, ltb-false, eqb-true, eqb-false, eq-eqb, ne_eqb, cond-true, cond-false, and_parts, and_cases, and_from, and_left, and_right, not-true, not-false, not_from_false, not_from_true}
use Rattle.std.proofs.lemmas.List.{append-nil}
use Rattle.std.proofs.lemmas.List.Elements.{All-head, All-tail}
use Rattle.pb_frame.specs.declared.why.Why.TheVariants.{Quote, Long, Short, Signature}
use Rattle.pb_frame.specs.Signature.{start, sig}
use Rattle.pb_frame.specs.Framing.{flag, quote, Quoted, quoted, quoted_byte, Piece, Unquoted, with_byte, unquoted, IsBodySize, IsGoodBody, IsGood, content_of, Finding, Whole, Faulty, ended_outcome, is_broken, outcome}
use Rattle.pb_frame.specs.Hearing.{HasNoFlag}
use Rattle.pb_frame.proofs.QuotedLemmas.{Quoted-text, Quoted-quoted, quoted-nil, quoted-cons, quoted_byte-plain, unquoted-byte, unquoted-whole, unquoted-wrong}
use Rattle.pb_frame.proofs.OutcomeLemmas.{outcome-read, outcome-ended}

abbrev NotFlag : ℕ → Type 0
NotFlag byte = byte ≢ flag

-- the bodies of one text
pub one_body : (a b text : List ℕ) → Quoted a text → Quoted b text → a ≡ b
one_body a b text p q =
    let e : quoted a ≡ quoted b = sym (Quoted-text p) ∙ Quoted-text q in
    ap (λ (u : Unquoted). u.body) (sym (unquoted-whole a) ∙ ap unquoted e ∙ unquoted-whole b)

-- what stands behind the quote byte at which reading stops
abbrev pub IsNoCode : List ℕ → Type 0
IsNoCode [] = Unit {0}
IsNoCode (y ∷ more) = (y ≢ 0xDC) × (y ≢ 0xDD)

-- a text as what was read of it, and where that stopped
pub record IsRead (text : List ℕ) (u : Unquoted) : Type 0 where
  pub splits : text ≡ quoted u.body ++ u.rest
  pub stop : (u.rest ≡ []) ⊎ ((more : List ℕ) × (u.rest ≡ quote ∷ more) × IsNoCode more)

read-more : (x : ℕ) (text : List ℕ) (u : Unquoted) → IsRead text u → IsRead (quoted_byte x ++ text) (with_byte x u)
read-more x text u r = record {
  splits = ap (λ t. quoted_byte x ++ t) r.splits ∙ sym (append_assoc (quoted_byte x) (quoted u.body) u.rest) ∙ ap (λ t. t ++ u.rest) (sym (quoted-cons x u.body));
  stop = r.stop;
}

-- a byte that stands for itself, or a pair that stands for one
read-byte : (x : ℕ) (text : List ℕ) → IsRead text (unquoted text) → IsRead (quoted_byte x ++ text) (unquoted (quoted_byte x ++ text))
read-byte x text r = subst (λ u. IsRead (quoted_byte x ++ text) u) (sym (unquoted-byte x text)) (read-more x text (unquoted text) r)

read-stop : (more : List ℕ) → IsNoCode more → IsRead (quote ∷ more) (record { body = []; rest = quote ∷ more })
read-stop more wrong = record { splits = sym (ap (λ t. t ++ quote ∷ more) quoted-nil); stop = inr (more, refl, wrong) }

read-plain : (x : ℕ) (text : List ℕ) → x ≢ quote → x ≢ flag → IsRead text (unquoted text) → IsRead (x ∷ text) (unquoted (x ∷ text))
read-plain x text nq nf r = subst (λ t. IsRead (t ++ text) (unquoted (t ++ text))) (quoted_byte-plain x (nq, nf)) (read-byte x text r)

read-pair : (y : ℕ) (text : List ℕ) → IsRead text (unquoted text) → IsRead (quote ∷ y ∷ text) (unquoted (quote ∷ y ∷ text))
read-pair y text r = elim (cases_eq y 0xDC) [
  | inl c ↦ subst (λ z. IsRead (quote ∷ z ∷ text) (unquoted (quote ∷ z ∷ text))) (sym c) (read-byte quote text r)
  | inr nc ↦ elim (cases_eq y 0xDD) [
    | inl d ↦ subst (λ z. IsRead (quote ∷ z ∷ text) (unquoted (quote ∷ z ∷ text))) (sym d) (read-byte flag text r)
    | inr nd ↦ subst (λ u. IsRead (quote ∷ y ∷ text) u) (sym (ap (λ t. unquoted (t ++ quote ∷ y ∷ text)) (sym quoted-nil) ∙ unquoted-wrong [] y text nc nd)) (read-stop (y ∷ text) (nc, nd))
  ]
]

pub read-text : (text : List ℕ) → HasNoFlag text → IsRead text (unquoted text)
unfolding unquoted
read-text [] clear = record { splits = sym (ap (λ t. t ++ []) quoted-nil); stop = inl refl }
read-text (x ∷ []) clear = elim (cases_eq x quote) [
  | inl q ↦ subst (λ z. IsRead (z ∷ []) (unquoted (z ∷ []))) (sym q) (read-stop [] tt)
  | inr nq ↦ read-plain x [] nq (All-head NotFlag x [] clear) (record { splits = sym (ap (λ t. t ++ []) quoted-nil); stop = inl refl })
]
read-text (x ∷ y ∷ text) clear =
    let later = All-tail NotFlag x (y ∷ text) clear in
    elim (cases_eq x quote) [
      | inl q ↦ subst (λ z. IsRead (z ∷ y ∷ text) (unquoted (z ∷ y ∷ text))) (sym q) (read-pair y text (read-text text (All-tail NotFlag y text later)))
      | inr nq ↦ read-plain x (y ∷ text) nq (All-head NotFlag x (y ∷ text) clear) (read-text (y ∷ text) later)
    ]

-- which test decided an outcome
pub three : (a b c : Bool) (l q e o : Finding) → cond a (Some l) (cond b (Some q) (cond c (Some e) None)) ≡ Some o
    → ((a ≡ true) × (l ≡ o)) ⊎ (((a ≡ false) × (b ≡ true) × (q ≡ o)) ⊎ ((a ≡ false) × (b ≡ false) × (c ≡ true) × (e ≡ o)))
three true b c l q e o is = inl (refl, cc)
three false true c l q e o is = inr (inl (refl, refl, cc))
three false false true l q e o is = inr (inr (refl, refl, refl, cc))
three false false false l q e o is = cc

pub two : (s g : Bool) (f w b o : Finding) → cond s f (cond g w b) ≡ o
    → ((s ≡ true) × (f ≡ o)) ⊎ (((s ≡ false) × (g ≡ true) × (w ≡ o)) ⊎ ((s ≡ false) × (g ≡ false) × (b ≡ o)))
two true g f w b o is = inl (refl, is)
two false true f w b o is = inr (inl (refl, refl, is))
two false false f w b o is = inr (inr (refl, refl, is))

-- a text that is read to its end
pub read-end : (text : List ℕ) (u : Unquoted) → IsRead text u → is_broken u.rest true ≡ false → text ≡ quoted u.body
read-end text u r b = elim r.stop [
  | inl none ↦ r.splits ∙ ap (λ t. quoted u.body ++ t) none ∙ append-nil (quoted u.body)
  | inr s ↦ absurd (no_end s.0 (ap (λ t. is_broken t true) (sym s.1) ∙ b))
]
  where
    no_end : (more : List ℕ) → is_broken (quote ∷ more) true ≡ false → ⊥
    no_end [] e = true≢false e
    no_end (y ∷ more) e = true≢false e

pub small-test : (n : ℕ) → (ltb n 10 && not (nat_eq n 6)) ≡ true → (n < 10) × (n ≢ 6)
small-test n e =
    let both = and_parts (ltb n 10) (not (nat_eq n 6)) e in
    (ltb-true n 10 both.0, eqb-false n 6 (not-true (nat_eq n 6) both.1))

size-test : (n : ℕ) → (ltb n 10 && not (nat_eq n 6)) ≡ false → n ≤ 1010 → IsBodySize n
size-test n e room = elim (and_cases (ltb n 10) (not (nat_eq n 6)) e) [
  | inl big ↦ inr (ltb-false n 10 big, room)
  | inr six ↦ inl (eqb-true n 6 (not-false (nat_eq n 6) six))
]

size-passes : (n : ℕ) → IsBodySize n → (ltb n 10 && not (nat_eq n 6)) ≡ false
size-passes n (inl six) = and_right (ltb n 10) (not (nat_eq n 6)) (not_from_true (nat_eq n 6) (eq-eqb n 6 six))
size-passes n (inr big) = and_left (ltb n 10) (not (nat_eq n 6)) (le-ltb n 10 big.0)

pub small-passes : (n : ℕ) → n < 10 → n ≢ 6 → (ltb n 10 && not (nat_eq n 6)) ≡ true
small-passes n lt ne = and_from (ltb n 10) (not (nat_eq n 6)) (lt-ltb n 10 lt) (not_from_false (nat_eq n 6) (ne_eqb n 6 ne))

size-room : (n : ℕ) → IsBodySize n → n ≤ 1010
size-room n (inl six) = omega arith
size-room n (inr big) = big.1

-- a good ended piece
pub good-outcome : (piece : Piece) (body : List ℕ) → piece.ended ≡ true → IsGoodBody piece.text body → outcome piece ≡ Some (Whole (content_of body))
good-outcome piece body ended good =
    ap (λ e. outcome (record { at = piece.at; text = piece.text; ended = e })) ended
    ∙ ap (λ t. outcome (record { at = piece.at; text = t; ended = true })) (Quoted-text good.stands)
    ∙ outcome-ended piece.at body (size-room (length body) good.size)
    ∙ ap (λ (o : Finding). Some o) (cond-false _ _ _ (size-passes (length body) good.size) ∙ cond-true _ _ _ (eq-eqb (sig body start) 0 good.signed))

-- what is heard as a content
pub whole-good : (piece : Piece) (content : List ℕ) → HasNoFlag piece.text → outcome piece ≡ Some (Whole content) → (piece.ended ≡ true) × ((good : IsGood piece.text) × (content ≡ content_of good.0))
whole-good piece content clear e =
    let u = unquoted piece.text in
    let end = piece.at + length piece.text in
    elim (three (ltb 1010 (length u.body)) (is_broken u.rest piece.ended) piece.ended (Faulty (piece.at + length (quoted (take 1011 u.body)) - 1) Long) (Faulty (piece.at + length (quoted u.body) + 1) Quote) (ended_outcome end u.body) (Whole content) (sym (outcome-read piece.at piece.text piece.ended u refl) ∙ e)) [
      | inl l ↦ let no : Faulty (piece.at + length (quoted (take 1011 u.body)) - 1) Long ≡ Whole content = l.1 in cc
      | inr rest ↦ elim rest [
        | inl q ↦ let no : Faulty (piece.at + length (quoted u.body) + 1) Quote ≡ Whole content = q.2 in cc
        | inr w ↦ elim (two (ltb (length u.body) 10 && not (nat_eq (length u.body) 6)) (nat_eq (sig u.body start) 0) (Faulty end Short) (Whole (content_of u.body)) (Faulty end Signature) (Whole content) w.3) [
          | inl s ↦ let no : Faulty end Short ≡ Whole content = s.1 in cc
          | inr good ↦ elim good [
            | inl g ↦ (
              w.2,
              (
                (
                  u.body,
                  record {
                    stands = subst (λ t. Quoted u.body t) (sym (read-end piece.text u (read-text piece.text clear) (ap (λ b. is_broken u.rest b) (sym w.2) ∙ w.1))) (Quoted-quoted u.body);
                    size = size-test (length u.body) g.0 (ltb-false 1010 (length u.body) w.0);
                    signed = eqb-true (sig u.body start) 0 g.1;
                  },
                ),
                (let same : Whole (content_of u.body) ≡ Whole content = g.2 in cc),
              ),
            )
            | inr b ↦ let no : Faulty end Signature ≡ Whole content = b.2 in cc
          ]
        ]
      ]
    ]
