-- The fault that is heard of a piece is the first that it has.
use Rattle.std.proofs.Common.{◌≡◌, ℕ, ◌+◌, ◌-◌, ◌≤◌, inl, inr, Bool, true, not, ◌&&◌, List, [], ◌∷◌, ◌++◌, length, take, drop, Some, refl, sym, ◌∙◌, ap, subst, arith, append_assoc, length-append, ltb, nat_eq}
use Rattle.std.proofs.lemmas.Bool.{false≢true, cases_lt, cases_Bool, ltb-true, eqb-false, ne_eqb, cond-true, cond-false}
use Rattle.std.proofs.lemmas.List.{append-nil, take-append-drop, length-take-le}
use Rattle.pb_frame.specs.declared.why.Why.{Why}
use Rattle.pb_frame.specs.declared.why.Why.TheVariants.{Quote, Long, Short, Signature}
use Rattle.pb_frame.specs.Signature.{start, sig}
use Rattle.pb_frame.specs.Framing.{quote, Quoted, quoted, Piece, Unquoted, unquoted, content_of, Finding, Whole, Faulty, ended_outcome, is_broken, outcome}
use Rattle.pb_frame.specs.Hearing.{HasNoFlag}
use Rattle.pb_frame.specs.Faults.{IsWrong, HasWrongQuote, IsTooLong, IsTooShort, IsBadlySigned, HasFault, IsHeardBefore}
use Rattle.pb_frame.proofs.QuotedLemmas.{Quoted-text, Quoted-quoted, quoted-nil, quoted-append, length-quoted, unquoted-quoted, unquoted-whole, unquoted-wrong}
use Rattle.pb_frame.proofs.OutcomeLemmas.{outcome-read, outcome-long, outcome-quote, outcome-ended, settled-long}
use Rattle.pb_frame.proofs.ReadLemmas.{IsRead, IsNoCode, read-text, read-end, three, two, small-test, small-passes}

-- a front of a body has a front of its text
quoted-split : (n : ℕ) (body : List ℕ) → quoted body ≡ quoted (take n body) ++ quoted (drop n body)
quoted-split n body = ap quoted (sym (take-append-drop n body)) ∙ quoted-append (take n body) (drop n body)

length-front : (n : ℕ) (body : List ℕ) → length (quoted (take n body)) ≤ length (quoted body)
length-front n body = omega (arith, ap length (quoted-split n body), length-append (quoted (take n body)) (quoted (drop n body)))

wrong-rest : (u : Unquoted) (text : List ℕ) (ended : Bool) → IsRead text u → is_broken u.rest ended ≡ true → (more : List ℕ) × (u.rest ≡ quote ∷ more) × IsWrong more ended
wrong-rest u text ended r b = elim r.stop [
  | inl none ↦ absurd (false≢true (ap (λ t. is_broken t ended) (sym none) ∙ b))
  | inr s ↦ (s.0, s.1, wrong s.0 s.2 (ap (λ t. is_broken t ended) (sym s.1) ∙ b))
]
  where
    wrong : (more : List ℕ) → IsNoCode more → is_broken (quote ∷ more) ended ≡ true → IsWrong more ended
    wrong [] free e = e
    wrong (y ∷ more) free e = free

-- a fault that is heard is one of the piece
pub fault-has : (piece : Piece) (at : ℕ) (why : Why) → HasNoFlag piece.text → outcome piece ≡ Some (Faulty at why) → HasFault piece at why
fault-has piece at why clear e =
    let u = unquoted piece.text in
    let end = piece.at + length piece.text in
    let read = read-text piece.text clear in
    elim (three (ltb 1010 (length u.body)) (is_broken u.rest piece.ended) piece.ended (Faulty (piece.at + length (quoted (take 1011 u.body)) - 1) Long) (Faulty (piece.at + length (quoted u.body) + 1) Quote) (ended_outcome end u.body) (Faulty at why) (sym (outcome-read piece.at piece.text piece.ended u refl) ∙ e)) [
      | inl l ↦
          let same : Faulty (piece.at + length (quoted (take 1011 u.body)) - 1) Long ≡ Faulty at why = l.1 in
          let place : piece.at + length (quoted (take 1011 u.body)) - 1 ≡ at = cc in
          let kind : Long ≡ why = cc in
          let size : length (take 1011 u.body) ≡ 1011 = length-take-le 1011 u.body (ltb-true 1010 (length u.body) l.0) in
          let some = length-quoted (take 1011 u.body) in
          subst (λ w. HasFault piece at w) kind (record {
            body = take 1011 u.body;
            front = quoted (take 1011 u.body);
            more = quoted (drop 1011 u.body) ++ u.rest;
            stands = Quoted-quoted (take 1011 u.body);
            is = read.splits ∙ ap (λ t. t ++ u.rest) (quoted-split 1011 u.body) ∙ append_assoc (quoted (take 1011 u.body)) (quoted (drop 1011 u.body)) u.rest;
            size = size;
            place = omega arith;
          })
      | inr rest ↦ elim rest [
        | inl q ↦
            let same : Faulty (piece.at + length (quoted u.body) + 1) Quote ≡ Faulty at why = q.2 in
            let place : piece.at + length (quoted u.body) + 1 ≡ at = cc in
            let kind : Quote ≡ why = cc in
            let wrong = wrong-rest u piece.text piece.ended read q.1 in
            subst (λ w. HasFault piece at w) kind (record {
              body = u.body;
              front = quoted u.body;
              more = wrong.0;
              stands = Quoted-quoted u.body;
              is = read.splits ∙ ap (λ t. quoted u.body ++ t) wrong.1;
              wrong = wrong.2;
              place = sym place;
            })
        | inr w ↦
            let whole = read-end piece.text u read (ap (λ b. is_broken u.rest b) (sym w.2) ∙ w.1) in
            let stands = subst (λ t. Quoted u.body t) (sym whole) (Quoted-quoted u.body) in
            elim (two (ltb (length u.body) 10 && not (nat_eq (length u.body) 6)) (nat_eq (sig u.body start) 0) (Faulty end Short) (Whole (content_of u.body)) (Faulty end Signature) (Faulty at why) w.3) [
              | inl s ↦
                  let same : Faulty end Short ≡ Faulty at why = s.1 in
                  let place : end ≡ at = cc in
                  let kind : Short ≡ why = cc in
                  let small = small-test (length u.body) s.0 in
                  subst (λ w. HasFault piece at w) kind (record { ended = w.2; body = u.body; stands = stands; small = small.0; not_six = small.1; place = sym place })
              | inr good ↦ elim good [
                | inl g ↦ let no : Whole (content_of u.body) ≡ Faulty at why = g.2 in cc
                | inr b ↦
                    let same : Faulty end Signature ≡ Faulty at why = b.2 in
                    let place : end ≡ at = cc in
                    let kind : Signature ≡ why = cc in
                    subst (λ w. HasFault piece at w) kind (record { ended = w.2; body = u.body; stands = stands; bad = eqb-false (sig u.body start) 0 b.1; place = sym place })
              ]
            ]
      ]
    ]

-- reading stops at a wrong byte
unquoted-stop : (more : List ℕ) (ended : Bool) → IsWrong more ended → (unquoted (quote ∷ more) ≡ record { body = []; rest = quote ∷ more }) × (is_broken (quote ∷ more) ended ≡ true)
unfolding unquoted
unquoted-stop [] ended wrong = (refl, wrong)
unquoted-stop (y ∷ more) ended wrong = (ap (λ t. unquoted (t ++ quote ∷ y ∷ more)) (sym quoted-nil) ∙ unquoted-wrong [] y more wrong.0 wrong.1, refl)

first-quote : (piece : Piece) (at : ℕ) → HasWrongQuote piece at → IsHeardBefore piece at Quote
first-quote piece at f =
    let front = Quoted-text f.stands in
    let stop = unquoted-stop f.more piece.ended f.wrong in
    let read : unquoted piece.text ≡ record { body = f.body; rest = quote ∷ f.more } =
    ap unquoted (f.is ∙ ap (λ t. t ++ quote ∷ f.more) front) ∙ unquoted-quoted f.body (quote ∷ f.more)
    ∙ ap (λ (u : Unquoted). record { body = f.body ++ u.body; rest = u.rest }) stop.0 ∙ ap (λ b. record { body = b; rest = quote ∷ f.more }) (append-nil f.body) in
    let long : length f.front ≡ length (quoted f.body) = ap length front in
    elim (cases_lt 1010 (length f.body)) [
      | inl lt ↦
          let shorter = length-front 1011 f.body in
          record {
            first_at = piece.at + length (quoted (take 1011 f.body)) - 1;
            first_why = Long;
            heard = outcome-long piece.at piece.text piece.ended f.body (quote ∷ f.more) read lt;
            earlier = omega (arith, f.place);
            ranked = λ same. absurd (omega (arith, f.place));
          }
      | inr ge ↦ record {
        first_at = piece.at + length (quoted f.body) + 1;
        first_why = Quote;
        heard = outcome-quote piece.at piece.text piece.ended f.body (quote ∷ f.more) read ge stop.1;
        earlier = omega (arith, f.place);
        ranked = λ _. omega arith;
      }
    ]

first-long : (piece : Piece) (at : ℕ) → IsTooLong piece at → IsHeardBefore piece at Long
first-long piece at f =
    let front = Quoted-text f.stands in
    let long : length f.front ≡ length (quoted f.body) = ap length front in
    let some = length-quoted f.body in
    record {
      first_at = piece.at + length (quoted f.body) - 1;
      first_why = Long;
      heard = ap (λ t. outcome (record { at = piece.at; text = t; ended = piece.ended })) (f.is ∙ ap (λ t. t ++ f.more) front) ∙ settled-long piece.at f.body f.size f.more piece.ended;
      earlier = omega (arith, f.place);
      ranked = λ _. omega arith;
    }

-- an ended text of a body that isn't too long
ended-heard : (piece : Piece) (body : List ℕ) → piece.ended ≡ true → Quoted body piece.text → length body ≤ 1010 → outcome piece ≡ Some (ended_outcome (piece.at + length piece.text) body)
ended-heard piece body ended stands room =
    let text = Quoted-text stands in
    ap (λ e. outcome (record { at = piece.at; text = piece.text; ended = e })) ended
    ∙ ap (λ t. outcome (record { at = piece.at; text = t; ended = true })) text
    ∙ outcome-ended piece.at body room
    ∙ ap (λ t. Some (ended_outcome (piece.at + length t) body)) (sym text)

first-short : (piece : Piece) (at : ℕ) → IsTooShort piece at → IsHeardBefore piece at Short
first-short piece at f =
    let small = f.small in
    record {
      first_at = piece.at + length piece.text;
      first_why = Short;
      heard = ended-heard piece f.body f.ended f.stands (omega arith) ∙ ap (λ (o : Finding). Some o) (cond-true _ _ _ (small-passes (length f.body) f.small f.not_six));
      earlier = omega (arith, f.place);
      ranked = λ _. omega arith;
    }

first-signature : (piece : Piece) (at : ℕ) → IsBadlySigned piece at → IsHeardBefore piece at Signature
first-signature piece at f =
    let text = Quoted-text f.stands in
    let long : length piece.text ≡ length (quoted f.body) = ap length text in
    elim (cases_lt 1010 (length f.body)) [
      | inl lt ↦
          let shorter = length-front 1011 f.body in
          record {
            first_at = piece.at + length (quoted (take 1011 f.body)) - 1;
            first_why = Long;
            heard = outcome-long piece.at piece.text piece.ended f.body [] (ap unquoted text ∙ unquoted-whole f.body) lt;
            earlier = omega (arith, f.place);
            ranked = λ _. omega arith;
          }
      | inr ge ↦ elim (cases_Bool (ltb (length f.body) 10 && not (nat_eq (length f.body) 6))) [
        | inl short ↦ record {
          first_at = piece.at + length piece.text;
          first_why = Short;
          heard = ended-heard piece f.body f.ended f.stands ge ∙ ap (λ (o : Finding). Some o) (cond-true _ _ _ short);
          earlier = omega (arith, f.place);
          ranked = λ _. omega arith;
        }
        | inr sized ↦ record {
          first_at = piece.at + length piece.text;
          first_why = Signature;
          heard = ended-heard piece f.body f.ended f.stands ge ∙ ap (λ (o : Finding). Some o) (cond-false _ _ _ sized ∙ cond-false _ _ _ (ne_eqb (sig f.body start) 0 f.bad));
          earlier = omega (arith, f.place);
          ranked = λ _. omega arith;
        }
      ]
    ]

-- a piece with a fault is heard with its first one
pub fault-first : (piece : Piece) (at : ℕ) (why : Why) → HasFault piece at why → IsHeardBefore piece at why
fault-first piece at Quote f = first-quote piece at f
fault-first piece at Long f = first-long piece at f
fault-first piece at Short f = first-short piece at f
fault-first piece at Signature f = first-signature piece at f
