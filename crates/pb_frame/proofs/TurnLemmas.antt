-- One push keeps what an unframer stands for, and shows the verdicts that the byte adds.
use Rattle.std.proofs.Common.{◌≡◌, ◌≢◌, ℕ, ◌+◌, ◌-◌, ◌<◌, ◌≤◌, ◌⊎◌, inl, inr, Bool, true, false, cond, not, ◌&&◌, All, IsSome, is_some, List, [], ◌∷◌, ◌++◌, length, Option, Some, None, refl, sym, ◌∙◌, ap, subst, arith, append_assoc, length-append, ltb, nat_eq, take}
use Rattle.std.proofs.lemmas.Bool.{false≢true, cases_eq, eq-eqb, ne_eqb, ltb-true, ltb-false, cond-true, cond-false}
use Rattle.std.proofs.lemmas.List.{append-nil}
use Rattle.std.proofs.lemmas.List.Elements.{All-nil, All-cons, All-push, All-append}
use Rattle.pb_frame.specs.declared.heard.Heard.{Heard}
use Rattle.pb_frame.specs.declared.heard.Heard.TheVariants.{Nothing, Body, Bad}
use Rattle.pb_frame.specs.declared.state.State.{State}
use Rattle.pb_frame.specs.declared.state.State.TheVariants.{Skipping, Between, Whole as WholeBody, Plain, Quoting}
use Rattle.pb_frame.specs.declared.why.Why.TheVariants.{Quote, Long, Short, Signature}
use Rattle.pb_frame.specs.Signature.{start, sig}
use Rattle.pb_frame.specs.Framing.{flag, quote, IsPlain, quoted, quoted_byte, Finding, Whole, Faulty, Verdict, ended_outcome, content_of, outcome, verdicts, unfinished}
use Rattle.pb_frame.specs.Hearing.{Hearing, hearing, HasNoFlag, IsSettled, IsJudged, IsBehindFlag, IsWithin, StandsIn, StandsFor, Follows, shown}
use Rattle.pb_frame.specs.Turn.{Turn, turned, kept, ended, gone_on, begun, unquoted_by, passed, turn_in}
use Rattle.pb_frame.proofs.QuotedLemmas.{quoted-nil, quoted-push, quoted-append, quoted-plain, quoted_byte-plain, no_flag-quoted, length-quoted}
use Rattle.pb_frame.proofs.SplitLemmas.{verdicts-open, verdicts-ended, verdicts-none, verdicts-first, judged-nil, judged-some, judged-none, unfinished-none, unfinished-judged, unfinished-within, unfinished-behind}
use Rattle.pb_frame.proofs.OutcomeLemmas.{outcome-plain, outcome-quoting, outcome-cut_off, outcome-ended, settled-long, settled-wrong}

-- a turn that fits: what it leaves stands for the bytes now pushed, and these are the verdicts
pub record Fits (base : List Verdict) (pushed : List ℕ) (t : Turn) : Type 0 where
  pub stands : StandsFor t.after pushed
  pub shows : verdicts pushed ≡ base ++ shown t.after t.heard

-- behind a flag byte, the text of a body, and that with a quote byte, have no verdict yet
pub verdicts-quoted : (front body : List ℕ) → length body ≤ 1010 → verdicts (front ++ flag ∷ quoted body) ≡ verdicts (front ++ flag ∷ [])
verdicts-quoted front body h =
    verdicts-open front (quoted body) (no_flag-quoted body)
    ∙ ap (λ vs. verdicts (front ++ flag ∷ []) ++ vs) (judged-none (length front + 1) (quoted body) false (outcome-plain (length front + 1) body h))
    ∙ append-nil (verdicts (front ++ flag ∷ []))

no_flag-quoting : (body : List ℕ) → HasNoFlag (quoted body ++ quote ∷ [])
no_flag-quoting body = All-push (λ byte. byte ≢ flag) (quoted body) quote (no_flag-quoted body) (λ e. omega arith)

verdicts-quoting : (front body : List ℕ) → length body ≤ 1010 → verdicts (front ++ flag ∷ (quoted body ++ quote ∷ [])) ≡ verdicts (front ++ flag ∷ [])
verdicts-quoting front body h =
    verdicts-open front (quoted body ++ quote ∷ []) (no_flag-quoting body)
    ∙ ap (λ vs. verdicts (front ++ flag ∷ []) ++ vs) (judged-none (length front + 1) (quoted body ++ quote ∷ []) false (outcome-quoting (length front + 1) body h))
    ∙ append-nil (verdicts (front ++ flag ∷ []))

verdicts-settled : (front text : List ℕ) (o : Finding) → HasNoFlag text → 0 < length text → IsSettled (length front + 1) text o
    → verdicts (front ++ flag ∷ text) ≡ verdicts (front ++ flag ∷ []) ++ record { piece = length front + 1; outcome = o } ∷ []
verdicts-settled front text o clear some settled =
    verdicts-open front text clear
    ∙ ap (λ vs. verdicts (front ++ flag ∷ []) ++ vs) (judged-some (length front + 1) text false o some
    (ap (λ t. outcome (record { at = length front + 1; text = t; ended = false })) (sym (append-nil text)) ∙ settled [] false))

-- the place of the next byte
length-behind : (front text : List ℕ) → length (front ++ flag ∷ text) ≡ length front + 1 + length text
length-behind front text = length-append front (flag ∷ text) ∙ omega arith

-- one more body byte, whose text ends the bytes now pushed
kept-fits : (h : Hearing) (byte : ℕ) (front pushed : List ℕ) → length h.body ≤ 1010 → h.piece ≡ length front + 1 → length pushed ≡ h.count + 1
    → pushed ≡ front ++ flag ∷ (quoted h.body ++ quoted_byte byte) → Fits (verdicts (front ++ flag ∷ [])) pushed (kept h byte)
kept-fits h byte front pushed room at count is =
    let body = h.body ++ byte ∷ [] in
    let size : length body ≡ length h.body + 1 = length-append h.body (byte ∷ []) in
    let some = length-quoted body in
    let is2 : pushed ≡ front ++ flag ∷ quoted body = is ∙ ap (λ t. front ++ flag ∷ t) (sym (quoted-push h.body byte)) in
    let place : length pushed ≡ length front + 1 + length (quoted body) = ap length is2 ∙ length-behind front (quoted body) in
    elim (ltb (length h.body) 1010) as (λ b. ltb (length h.body) 1010 ≡ b → Fits (verdicts (front ++ flag ∷ [])) pushed (cond {A = Turn} b (record { after = hearing Plain (h.count + 1) h.piece body; heard = Nothing }) (turned h Skipping (Bad h.count Long)))) [
      | true ↦ λ e. record {
        stands = record {
          count = count;
          room = let lt = ltb-true (length h.body) 1010 e in omega arith;
          stands = record { front = front; is = is2 ∙ ap (λ t. front ++ flag ∷ t) (sym (append-nil (quoted body))); at = at; some = omega arith };
        };
        shows =
            let lt = ltb-true (length h.body) 1010 e in
            ap verdicts is2 ∙ verdicts-quoted front body (omega arith) ∙ sym (append-nil (verdicts (front ++ flag ∷ [])));
      }
      | false ↦ λ e.
          let ge = ltb-false (length h.body) 1010 e in
          let settled = settled-long (length front + 1) body (omega arith) in
          let here : length front + 1 + length (quoted body) - 1 ≡ h.count = omega arith in
          record {
            stands = record {
              count = count;
              room = room;
              stands = inr (record { front = front; text = quoted body; outcome = Faulty (length front + 1 + length (quoted body) - 1) Long; is = is2; some = omega arith; no_flag = no_flag-quoted body; settled = settled });
            };
            shows =
                ap verdicts is2
                ∙ verdicts-settled front (quoted body) (Faulty (length front + 1 + length (quoted body) - 1) Long) (no_flag-quoted body) (omega arith) settled
                ∙ ap (λ n. verdicts (front ++ flag ∷ []) ++ record { piece = n; outcome = Faulty (length front + 1 + length (quoted body) - 1) Long } ∷ []) (sym at)
                ∙ ap (λ n. verdicts (front ++ flag ∷ []) ++ record { piece = h.piece; outcome = Faulty n Long } ∷ []) here;
          }
    ] refl

-- the flag byte that ends a piece
ended-shown : (h : Hearing) (short good : Bool) → (t : Turn) → t ≡ cond short (turned h Between (Bad h.count Short)) (cond good (turned h WholeBody (Body h.piece)) (turned h Between (Bad h.count Signature)))
    → shown t.after t.heard ≡ record { piece = h.piece; outcome = cond short (Faulty h.count Short) (cond good (Whole (content_of h.body)) (Faulty h.count Signature)) } ∷ []
ended-shown h true good t e = ap (λ (t : Turn). shown t.after t.heard) e
ended-shown h false true t e = ap (λ (t : Turn). shown t.after t.heard) e
ended-shown h false false t e = ap (λ (t : Turn). shown t.after t.heard) e

ended-stands : (h : Hearing) (short good : Bool) (pushed : List ℕ) → length pushed ≡ h.count + 1 → length h.body ≤ 1010 → IsBehindFlag pushed
    → StandsFor (cond {A = Turn} short (turned h Between (Bad h.count Short)) (cond good (turned h WholeBody (Body h.piece)) (turned h Between (Bad h.count Signature)))).after pushed
ended-stands h true good pushed count room behind = record { count = count; room = room; stands = behind }
ended-stands h false true pushed count room behind = record { count = count; room = room; stands = behind }
ended-stands h false false pushed count room behind = record { count = count; room = room; stands = behind }

ended-fits : (h : Hearing) (front pushed : List ℕ) → length h.body ≤ 1010 → 0 < length h.body → h.piece ≡ length front + 1 → length pushed ≡ h.count + 1
    → pushed ≡ front ++ flag ∷ (quoted h.body ++ flag ∷ []) → Fits (verdicts (front ++ flag ∷ [])) pushed (ended h)
ended-fits h front pushed room some at count is =
    let long = length-quoted h.body in
    let place : length pushed ≡ length front + 1 + (length (quoted h.body) + 1) = ap length is ∙ length-behind front (quoted h.body ++ flag ∷ []) ∙ ap (λ n. length front + 1 + n) (length-append (quoted h.body) (flag ∷ [])) in
    let end : length front + 1 + length (quoted h.body) ≡ h.count = omega arith in
    record {
      stands = ended-stands h (ltb (length h.body) 10 && not (nat_eq (length h.body) 6)) (nat_eq (sig h.body start) 0) pushed count room
          (record { front = front ++ flag ∷ quoted h.body; is = is ∙ sym (append_assoc front (flag ∷ quoted h.body) (flag ∷ [])) });
      shows =
          ap verdicts is
          ∙ verdicts-ended front (quoted h.body) (no_flag-quoted h.body)
          ∙ ap (λ vs. verdicts (front ++ flag ∷ []) ++ vs)
          (judged-some (length front + 1) (quoted h.body) true _ (omega arith) (outcome-ended (length front + 1) h.body room)
          ∙ ap (λ n. record { piece = n; outcome = ended_outcome (length front + 1 + length (quoted h.body)) h.body } ∷ []) (sym at)
          ∙ ap (λ n. record { piece = h.piece; outcome = ended_outcome n h.body } ∷ []) end
          ∙ sym (ended-shown h (ltb (length h.body) 10 && not (nat_eq (length h.body) 6)) (nat_eq (sig h.body start) 0) (ended h) refl));
    }

-- a byte of a piece that isn't behind a quote byte
gone_on-fits : (h : Hearing) (byte : ℕ) (front pushed : List ℕ) → length h.body ≤ 1010 → (byte ≡ flag → 0 < length h.body) → h.piece ≡ length front + 1 → length pushed ≡ h.count + 1
    → pushed ≡ front ++ flag ∷ (quoted h.body ++ byte ∷ []) → Fits (verdicts (front ++ flag ∷ [])) pushed (gone_on h byte)
gone_on-fits h byte front pushed room some at count is = elim (cases_eq byte flag) [
  | inl f ↦ subst (λ t. Fits (verdicts (front ++ flag ∷ [])) pushed t) (sym (cond-true _ _ _ (eq-eqb byte flag f)))
      (ended-fits h front pushed room (some f) at count (is ∙ ap (λ x. front ++ flag ∷ (quoted h.body ++ x ∷ [])) f))
  | inr nf ↦ subst (λ t. Fits (verdicts (front ++ flag ∷ [])) pushed t) (sym (cond-false _ _ _ (ne_eqb byte flag nf))) (elim (cases_eq byte quote) [
    | inl q ↦ subst (λ t. Fits (verdicts (front ++ flag ∷ [])) pushed t) (sym (cond-true _ _ _ (eq-eqb byte quote q)))
        (let is2 : pushed ≡ front ++ flag ∷ (quoted h.body ++ quote ∷ []) = is ∙ ap (λ x. front ++ flag ∷ (quoted h.body ++ x ∷ [])) q in
        record {
          stands = record { count = count; room = room; stands = record { front = front; is = is2; at = at; some = omega arith } };
          shows = ap verdicts is2 ∙ verdicts-quoting front h.body room ∙ sym (append-nil (verdicts (front ++ flag ∷ [])));
        })
    | inr nq ↦ subst (λ t. Fits (verdicts (front ++ flag ∷ [])) pushed t) (sym (cond-false _ _ _ (ne_eqb byte quote nq)))
        (kept-fits h byte front pushed room at count (is ∙ ap (λ t. front ++ flag ∷ (quoted h.body ++ t)) (sym (quoted_byte-plain byte (nq, nf)))))
  ])
]

-- a byte behind a flag byte
begun-fits : (h : Hearing) (byte : ℕ) (front pushed : List ℕ) → length (front ++ flag ∷ []) ≡ h.count → length h.body ≤ 1010
    → pushed ≡ front ++ flag ∷ byte ∷ [] → Fits (verdicts (front ++ flag ∷ [])) pushed (begun h byte)
begun-fits h byte front pushed count room is =
    let behind = length-behind front [] in
    let longer : length pushed ≡ h.count + 1 = omega (arith, ap length is, length-append front (flag ∷ byte ∷ [])) in
    elim (cases_eq byte flag) [
      | inl f ↦ subst (λ t. Fits (verdicts (front ++ flag ∷ [])) pushed t) (sym (cond-true _ _ _ (eq-eqb byte flag f)))
          (let is2 : pushed ≡ front ++ flag ∷ flag ∷ [] = is ∙ ap (λ x. front ++ flag ∷ x ∷ []) f in
          record {
            stands = record { count = longer; room = room; stands = record { front = front ++ flag ∷ []; is = is2 ∙ sym (append_assoc front (flag ∷ []) (flag ∷ [])) } };
            shows = ap verdicts is2 ∙ verdicts-ended front [] (All-nil (λ byte. byte ≢ flag)) ∙ ap (λ vs. verdicts (front ++ flag ∷ []) ++ vs) (judged-nil (length front + 1) true);
          })
      | inr nf ↦ subst (λ t. Fits (verdicts (front ++ flag ∷ [])) pushed t) (sym (cond-false _ _ _ (ne_eqb byte flag nf)))
          (gone_on-fits (hearing Plain h.count h.count []) byte front pushed (omega arith) (λ f. absurd (nf f)) (omega arith) longer
          (is ∙ ap (λ t. front ++ flag ∷ (t ++ byte ∷ [])) (sym quoted-nil)))
    ]

-- a byte behind a quote byte
unquoted_by-fits : (h : Hearing) (byte : ℕ) (front pushed : List ℕ) → length h.body ≤ 1010 → h.piece ≡ length front + 1 → length pushed ≡ h.count + 1
    → pushed ≡ front ++ flag ∷ (quoted h.body ++ quote ∷ byte ∷ []) → Fits (verdicts (front ++ flag ∷ [])) pushed (unquoted_by h byte)
unquoted_by-fits h byte front pushed room at count is =
    let place : length pushed ≡ length front + 1 + (length (quoted h.body) + 2) = ap length is ∙ length-behind front (quoted h.body ++ quote ∷ byte ∷ []) ∙ ap (λ n. length front + 1 + n) (length-append (quoted h.body) (quote ∷ byte ∷ [])) in
    let here : length front + 1 + length (quoted h.body) + 1 ≡ h.count = omega arith in
    let moved = λ (y : ℕ) (e : byte ≡ y). is ∙ ap (λ x. front ++ flag ∷ (quoted h.body ++ quote ∷ x ∷ [])) e in
    elim (cases_eq byte 0xDC) [
      | inl c ↦ subst (λ t. Fits (verdicts (front ++ flag ∷ [])) pushed t) (sym (cond-true _ _ _ (eq-eqb byte 0xDC c))) (kept-fits h quote front pushed room at count (moved 0xDC c))
      | inr nc ↦ subst (λ t. Fits (verdicts (front ++ flag ∷ [])) pushed t) (sym (cond-false _ _ _ (ne_eqb byte 0xDC nc))) (elim (cases_eq byte 0xDD) [
        | inl d ↦ subst (λ t. Fits (verdicts (front ++ flag ∷ [])) pushed t) (sym (cond-true _ _ _ (eq-eqb byte 0xDD d))) (kept-fits h flag front pushed room at count (moved 0xDD d))
        | inr nd ↦ subst (λ t. Fits (verdicts (front ++ flag ∷ [])) pushed t) (sym (cond-false _ _ _ (ne_eqb byte 0xDD nd))) (elim (cases_eq byte flag) [
          | inl f ↦ subst (λ t. Fits (verdicts (front ++ flag ∷ [])) pushed t) (sym (cond-true _ _ _ (eq-eqb byte flag f)))
              (let text = quoted h.body ++ quote ∷ [] in
              let is2 : pushed ≡ front ++ flag ∷ (text ++ flag ∷ []) = moved flag f ∙ ap (λ t. front ++ flag ∷ t) (sym (append_assoc (quoted h.body) (quote ∷ []) (flag ∷ []))) in
              record {
                stands = record { count = count; room = room; stands = record { front = front ++ flag ∷ text; is = is2 ∙ sym (append_assoc front (flag ∷ text) (flag ∷ [])) } };
                shows =
                    ap verdicts is2
                    ∙ verdicts-ended front text (no_flag-quoting h.body)
                    ∙ ap (λ vs. verdicts (front ++ flag ∷ []) ++ vs)
                    (judged-some (length front + 1) text true _ (omega (arith, length-append (quoted h.body) (quote ∷ []))) (outcome-cut_off (length front + 1) h.body room)
                    ∙ ap (λ n. record { piece = n; outcome = Faulty (length front + 1 + length (quoted h.body) + 1) Quote } ∷ []) (sym at)
                    ∙ ap (λ n. record { piece = h.piece; outcome = Faulty n Quote } ∷ []) here);
              })
          | inr nf ↦ subst (λ t. Fits (verdicts (front ++ flag ∷ [])) pushed t) (sym (cond-false _ _ _ (ne_eqb byte flag nf)))
              (let text = quoted h.body ++ quote ∷ byte ∷ [] in
              let clear : HasNoFlag text = All-append (λ byte. byte ≢ flag) (quoted h.body) (quote ∷ byte ∷ []) (no_flag-quoted h.body) (All-cons (λ byte. byte ≢ flag) quote (byte ∷ []) (λ e. omega arith) (All-cons (λ byte. byte ≢ flag) byte [] nf (All-nil (λ byte. byte ≢ flag)))) in
              let some : 0 < length text = omega (arith, length-append (quoted h.body) (quote ∷ byte ∷ [])) in
              let settled = settled-wrong (length front + 1) h.body byte room nc nd in
              record {
                stands = record { count = count; room = room; stands = inr (record { front = front; text = text; outcome = Faulty (length front + 1 + length (quoted h.body) + 1) Quote; is = is; some = some; no_flag = clear; settled = settled }) };
                shows =
                    ap verdicts is
                    ∙ verdicts-settled front text (Faulty (length front + 1 + length (quoted h.body) + 1) Quote) clear some settled
                    ∙ ap (λ n. verdicts (front ++ flag ∷ []) ++ record { piece = n; outcome = Faulty (length front + 1 + length (quoted h.body) + 1) Quote } ∷ []) (sym at)
                    ∙ ap (λ n. verdicts (front ++ flag ∷ []) ++ record { piece = h.piece; outcome = Faulty n Quote } ∷ []) here;
              })
        ])
      ])
    ]

-- what is passed over: a run without a flag byte shows nothing, and the flag byte ends it
pub passed-run : (pushed run : List ℕ) → HasNoFlag run → HasNoFlag pushed ⊎ IsJudged pushed → (HasNoFlag (pushed ++ run) ⊎ IsJudged (pushed ++ run)) × (verdicts (pushed ++ run) ≡ verdicts pushed)
passed-run pushed run clear (inl h) =
    let all = All-append (λ byte. byte ≢ flag) pushed run h clear in
    (inl all, verdicts-none (pushed ++ run) all ∙ sym (verdicts-none pushed h))
passed-run pushed run clear (inr j) =
    let is : pushed ++ run ≡ j.front ++ flag ∷ (j.text ++ run) = ap (λ t. t ++ run) j.is ∙ append_assoc j.front (flag ∷ j.text) run in
    let all = All-append (λ byte. byte ≢ flag) j.text run j.no_flag clear in
    let some : 0 < length (j.text ++ run) = omega (arith, length-append j.text run, j.some) in
    let settled : IsSettled (length j.front + 1) (j.text ++ run) j.outcome =
    λ more ended. ap (λ t. outcome (record { at = length j.front + 1; text = t; ended = ended })) (append_assoc j.text run more) ∙ j.settled (run ++ more) ended in (
      inr (record { front = j.front; text = j.text ++ run; outcome = j.outcome; is = is; some = some; no_flag = all; settled = settled }),
      ap verdicts is ∙ verdicts-settled j.front (j.text ++ run) j.outcome all some settled ∙ sym (ap verdicts j.is ∙ verdicts-settled j.front j.text j.outcome j.no_flag j.some j.settled),
    )

passed-flag : (pushed : List ℕ) → HasNoFlag pushed ⊎ IsJudged pushed → verdicts (pushed ++ flag ∷ []) ≡ verdicts pushed
passed-flag pushed (inl h) = verdicts-first pushed h ∙ sym (verdicts-none pushed h)
passed-flag pushed (inr j) =
    ap (λ t. verdicts (t ++ flag ∷ [])) j.is
    ∙ ap verdicts (append_assoc j.front (flag ∷ j.text) (flag ∷ []))
    ∙ verdicts-ended j.front j.text j.no_flag
    ∙ ap (λ vs. verdicts (j.front ++ flag ∷ []) ++ vs)
    (judged-some (length j.front + 1) j.text true j.outcome j.some (ap (λ t. outcome (record { at = length j.front + 1; text = t; ended = true })) (sym (append-nil j.text)) ∙ j.settled [] true))
    ∙ sym (ap verdicts j.is ∙ verdicts-settled j.front j.text j.outcome j.no_flag j.some j.settled)

passed-fits : (h : Hearing) (byte : ℕ) (pushed : List ℕ) → length pushed ≡ h.count → length h.body ≤ 1010 → HasNoFlag pushed ⊎ IsJudged pushed
    → Fits (verdicts pushed) (pushed ++ byte ∷ []) (passed h byte)
passed-fits h byte pushed count room over =
    let longer : length (pushed ++ byte ∷ []) ≡ h.count + 1 = length-append pushed (byte ∷ []) ∙ ap (λ n. n + 1) count in
    elim (cases_eq byte flag) [
      | inl f ↦ subst (λ t. Fits (verdicts pushed) (pushed ++ byte ∷ []) t) (sym (cond-true _ _ _ (eq-eqb byte flag f))) (record {
        stands = record { count = longer; room = room; stands = record { front = pushed; is = ap (λ x. pushed ++ x ∷ []) f } };
        shows = ap (λ x. verdicts (pushed ++ x ∷ [])) f ∙ passed-flag pushed over ∙ sym (append-nil (verdicts pushed));
      })
      | inr nf ↦
          let both = passed-run pushed (byte ∷ []) (All-cons (λ byte. byte ≢ flag) byte [] nf (All-nil (λ byte. byte ≢ flag))) over in
          subst (λ t. Fits (verdicts pushed) (pushed ++ byte ∷ []) t) (sym (cond-false _ _ _ (ne_eqb byte flag nf))) (record {
            stands = record { count = longer; room = room; stands = both.0 };
            shows = both.1 ∙ sym (append-nil (verdicts pushed));
          })
    ]

behind-fits : (h : Hearing) (byte : ℕ) (pushed : List ℕ) → length pushed ≡ h.count → length h.body ≤ 1010 → IsBehindFlag pushed → Fits (verdicts pushed) (pushed ++ byte ∷ []) (begun h byte)
behind-fits h byte pushed count room w =
    subst (λ vs. Fits vs (pushed ++ byte ∷ []) (begun h byte)) (sym (ap verdicts w.is))
    (begun-fits h byte w.front (pushed ++ byte ∷ []) (sym (ap length w.is) ∙ count) room (ap (λ t. t ++ byte ∷ []) w.is ∙ append_assoc w.front (flag ∷ []) (byte ∷ [])))

-- a push, in each state
turn-fits : (s : State) (h : Hearing) (byte : ℕ) (pushed : List ℕ) → length pushed ≡ h.count → length h.body ≤ 1010 → StandsIn s h.piece h.body pushed
    → Fits (verdicts pushed) (pushed ++ byte ∷ []) (turn_in s h byte)
turn-fits Skipping h byte pushed count room w = passed-fits h byte pushed count room w
turn-fits Between h byte pushed count room w = behind-fits h byte pushed count room w
turn-fits WholeBody h byte pushed count room w = behind-fits h byte pushed count room w
turn-fits Plain h byte pushed count room w =
    let is : pushed ≡ w.front ++ flag ∷ quoted h.body = w.is ∙ ap (λ t. w.front ++ flag ∷ t) (append-nil (quoted h.body)) in
    subst (λ vs. Fits vs (pushed ++ byte ∷ []) (gone_on h byte)) (sym (ap verdicts is ∙ verdicts-quoted w.front h.body room))
    (gone_on-fits h byte w.front (pushed ++ byte ∷ []) room (λ _. omega (arith, w.some)) w.at (length-append pushed (byte ∷ []) ∙ ap (λ n. n + 1) count)
    (ap (λ t. t ++ byte ∷ []) is ∙ append_assoc w.front (flag ∷ quoted h.body) (byte ∷ [])))
turn-fits Quoting h byte pushed count room w =
    subst (λ vs. Fits vs (pushed ++ byte ∷ []) (unquoted_by h byte)) (sym (ap verdicts w.is ∙ verdicts-quoting w.front h.body room))
    (unquoted_by-fits h byte w.front (pushed ++ byte ∷ []) room w.at (length-append pushed (byte ∷ []) ∙ ap (λ n. n + 1) count)
    (ap (λ t. t ++ byte ∷ []) w.is ∙ append_assoc w.front (flag ∷ (quoted h.body ++ quote ∷ [])) (byte ∷ []) ∙ ap (λ t. w.front ++ flag ∷ t) (append_assoc (quoted h.body) (quote ∷ []) (byte ∷ []))))

-- what a push leaves and shows
pub Follows-turn : (s : State) (h v : Hearing) (byte : ℕ) (heard : Heard) → h.state ≡ s → v ≡ (turn_in s h byte).after → heard ≡ (turn_in s h byte).heard → Follows h (byte ∷ []) (shown v heard) v
Follows-turn s h v byte heard in_state after answer =
    let fits = λ (pushed : List ℕ) (st : StandsFor h pushed). turn-fits s h byte pushed st.count st.room (subst (λ s. StandsIn s h.piece h.body pushed) in_state st.stands) in
    record {
      stands = λ pushed st. subst (λ v. StandsFor v (pushed ++ byte ∷ [])) (sym after) (fits pushed st).stands;
      shows = λ pushed st. (fits pushed st).shows ∙ ap (λ v. verdicts pushed ++ shown v (turn_in s h byte).heard) (sym after) ∙ ap (λ a. verdicts pushed ++ shown v a) (sym answer);
    }

-- a run of body bytes that stand for themselves
pub Follows-run : (h v : Hearing) (run : List ℕ) → h.state ≡ Plain → All IsPlain run → length h.body + length run ≤ 1010
    → v ≡ hearing h.state (h.count + length run) h.piece (h.body ++ run) → Follows h run [] v
Follows-run h v run in_state plain room after =
    let joined : quoted (h.body ++ run) ≡ quoted h.body ++ run = quoted-append h.body run ∙ ap (λ t. quoted h.body ++ t) (quoted-plain run plain) in
    let size = length-append h.body run in
    let within = λ (pushed : List ℕ) (st : StandsFor h pushed). subst (λ s. StandsIn s h.piece h.body pushed) in_state st.stands in
    let is = λ (pushed : List ℕ) (st : StandsFor h pushed). let w : IsWithin h.piece h.body [] pushed = within pushed st in
    let e : pushed ++ run ≡ w.front ++ flag ∷ quoted (h.body ++ run) =
    ap (λ t. t ++ run) (w.is ∙ ap (λ t. w.front ++ flag ∷ t) (append-nil (quoted h.body))) ∙ append_assoc w.front (flag ∷ quoted h.body) run ∙ ap (λ t. w.front ++ flag ∷ t) (sym joined) in e in
    record {
      stands = λ pushed st. let w : IsWithin h.piece h.body [] pushed = within pushed st in
          subst (λ v. StandsFor v (pushed ++ run)) (sym after) (record {
            count = length-append pushed run ∙ ap (λ n. n + length run) st.count;
            room = omega arith;
            stands = subst (λ s. StandsIn s h.piece (h.body ++ run) (pushed ++ run)) (sym in_state)
                (record { front = w.front; is = is pushed st ∙ ap (λ t. w.front ++ flag ∷ t) (sym (append-nil (quoted (h.body ++ run)))); at = w.at; some = omega (arith, w.some) });
          });
      shows = λ pushed st. let w : IsWithin h.piece h.body [] pushed = within pushed st in
          ap verdicts (is pushed st) ∙ verdicts-quoted w.front (h.body ++ run) (omega arith)
          ∙ sym (ap verdicts (w.is ∙ ap (λ t. w.front ++ flag ∷ t) (append-nil (quoted h.body))) ∙ verdicts-quoted w.front h.body (omega arith))
          ∙ sym (append-nil (verdicts pushed));
    }

-- a run of what is passed over
pub Follows-skipped : (h v : Hearing) (run : List ℕ) → h.state ≡ Skipping → HasNoFlag run → v ≡ hearing h.state (h.count + length run) h.piece h.body → Follows h run [] v
Follows-skipped h v run in_state clear after =
    let over = λ (pushed : List ℕ) (st : StandsFor h pushed). passed-run pushed run clear (subst (λ s. StandsIn s h.piece h.body pushed) in_state st.stands) in
    record {
      stands = λ pushed st. subst (λ v. StandsFor v (pushed ++ run)) (sym after) (record {
        count = length-append pushed run ∙ ap (λ n. n + length run) st.count;
        room = st.room;
        stands = subst (λ s. StandsIn s h.piece h.body (pushed ++ run)) (sym in_state) (over pushed st).0;
      });
      shows = λ pushed st. (over pushed st).1 ∙ sym (append-nil (verdicts pushed));
    }

-- an open piece without a verdict
abbrev pub open_piece : State → ℕ → Option ℕ
open_piece Skipping piece = None
open_piece Between piece = None
open_piece WholeBody piece = None
open_piece Plain piece = Some piece
open_piece Quoting piece = Some piece

unfinished-in : (s : State) (piece : ℕ) (body pushed : List ℕ) → length body ≤ 1010 → StandsIn s piece body pushed → unfinished pushed ≡ open_piece s piece
unfinished-in Skipping piece body pushed room (inl h) = unfinished-none pushed h
unfinished-in Skipping piece body pushed room (inr j) =
    ap unfinished j.is ∙ unfinished-judged j.front j.text j.outcome j.no_flag (ap (λ t. outcome (record { at = length j.front + 1; text = t; ended = false })) (sym (append-nil j.text)) ∙ j.settled [] false)
unfinished-in Between piece body pushed room w = ap unfinished w.is ∙ unfinished-behind w.front
unfinished-in WholeBody piece body pushed room w = ap unfinished w.is ∙ unfinished-behind w.front
unfinished-in Plain piece body pushed room w =
    ap unfinished (w.is ∙ ap (λ t. w.front ++ flag ∷ t) (append-nil (quoted body)))
    ∙ unfinished-within w.front (quoted body) (no_flag-quoted body) (omega (arith, w.some, length-quoted body)) (outcome-plain (length w.front + 1) body room)
    ∙ ap (λ n. Some n) (sym w.at)
unfinished-in Quoting piece body pushed room w =
    ap unfinished w.is
    ∙ unfinished-within w.front (quoted body ++ quote ∷ []) (no_flag-quoting body) (omega (arith, length-append (quoted body) (quote ∷ []))) (outcome-quoting (length w.front + 1) body room)
    ∙ ap (λ n. Some n) (sym w.at)

pub unfinished-open_piece : (h : Hearing) (pushed : List ℕ) → StandsFor h pushed → unfinished pushed ≡ open_piece h.state h.piece
unfinished-open_piece h pushed st = unfinished-in h.state h.piece h.body pushed st.room st.stands

-- what `pending` and `piece` say of it
pub unfinished-at : (s : State) (h : Hearing) (pushed : List ℕ) → h.state ≡ s → StandsFor h pushed → unfinished pushed ≡ open_piece s h.piece
unfinished-at s h pushed in_state st = unfinished-open_piece h pushed st ∙ ap (λ s. open_piece s h.piece) in_state

is_some-piece : (s : State) (piece : ℕ) (o : Option ℕ) → o ≡ open_piece s piece → IsSome o → o ≡ Some piece
is_some-piece Skipping piece o e some = absurd (false≢true (sym (ap is_some e) ∙ some))
is_some-piece Between piece o e some = absurd (false≢true (sym (ap is_some e) ∙ some))
is_some-piece WholeBody piece o e some = absurd (false≢true (sym (ap is_some e) ∙ some))
is_some-piece Plain piece o e some = e
is_some-piece Quoting piece o e some = e

pub unfinished-piece : (h : Hearing) (pushed : List ℕ) → StandsFor h pushed → IsSome (unfinished pushed) → unfinished pushed ≡ Some h.piece
unfinished-piece h pushed st some = is_some-piece h.state h.piece (unfinished pushed) (unfinished-open_piece h pushed st) some

is_none-piece : (s : State) (piece : ℕ) → (s ≡ Plain → ⊥) → (s ≡ Quoting → ⊥) → is_some (open_piece s piece) ≡ false
is_none-piece Skipping piece p q = refl
is_none-piece Between piece p q = refl
is_none-piece WholeBody piece p q = refl
is_none-piece Plain piece p q = absurd (p refl)
is_none-piece Quoting piece p q = absurd (q refl)

pub unfinished-not : (h : Hearing) (pushed : List ℕ) → StandsFor h pushed → (h.state ≡ Plain → ⊥) → (h.state ≡ Quoting → ⊥) → is_some (unfinished pushed) ≡ false
unfinished-not h pushed st p q = ap is_some (unfinished-open_piece h pushed st) ∙ is_none-piece h.state h.piece p q

-- a run of no bytes leaves all as it was
pub run_of_none : (s : State) (c p : ℕ) (b : List ℕ) (h : Hearing) → hearing s c p b ≡ h → (n : ℕ) (bytes : List ℕ) → n ≡ 0 → hearing h.state (h.count + n) h.piece (h.body ++ take n bytes) ≡ h
run_of_none s c p b h is n bytes none =
    let same : c + n ≡ c = omega (arith, none) in
    subst (λ (k : Hearing). hearing k.state (k.count + n) k.piece (k.body ++ take n bytes) ≡ k) is
    (ap (λ m. hearing s m p (b ++ take n bytes)) same ∙ ap (λ m. hearing s c p (b ++ take m bytes)) none ∙ ap (λ l. hearing s c p l) (append-nil b))

pub skip_of_none : (s : State) (c p : ℕ) (b : List ℕ) (h : Hearing) → hearing s c p b ≡ h → (n : ℕ) → n ≡ 0 → hearing h.state (h.count + n) h.piece h.body ≡ h
skip_of_none s c p b h is n none =
    let same : c + n ≡ c = omega (arith, none) in
    subst (λ (k : Hearing). hearing k.state (k.count + n) k.piece k.body ≡ k) is (ap (λ m. hearing s m p b) same)
