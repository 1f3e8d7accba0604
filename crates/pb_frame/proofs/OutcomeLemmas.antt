-- The outcome of a piece whose text is read as a body and a rest.
use Rattle.std.proofs.Common.{◌≡◌, ◌≢◌, ℕ, ◌+◌, ◌-◌, ◌*◌, ◌<◌, ◌≤◌, Bool, true, false, cond, List, [], ◌∷◌, ◌++◌, length, take, Option, Some, None, refl, sym, ◌∙◌, ap, subst, arith, append_assoc, length-append}
use Rattle.std.proofs.lemmas.Bool.{lt-ltb, le-ltb, cond-true, cond-false}
use Rattle.std.proofs.lemmas.List.{take_at}
use Rattle.pb_frame.specs.declared.why.Why.TheVariants.{Quote, Long}
use Rattle.pb_frame.specs.Framing.{quote, quoted, Unquoted, unquoted, Finding, Faulty, ended_outcome, is_broken, outcome}
use Rattle.pb_frame.specs.Hearing.{IsSettled}
use Rattle.pb_frame.proofs.QuotedLemmas.{unquoted-quoted, unquoted-whole, unquoted-cut_off, unquoted-wrong}

-- the outcome over what was read of the text
abbrev pub read_outcome : ℕ → List ℕ → Bool → Unquoted → Option Finding
read_outcome at text ended u =
    cond (Rattle.std.proofs.Common.ltb 1010 (length u.body)) (Some (Faulty (at + length (quoted (take 1011 u.body)) - 1) Long))
    (cond (is_broken u.rest ended) (Some (Faulty (at + length (quoted u.body) + 1) Quote))
    (cond ended (Some (ended_outcome (at + length text) u.body)) None))

pub outcome-read : (at : ℕ) (text : List ℕ) (ended : Bool) (u : Unquoted) → unquoted text ≡ u → outcome (record { at = at; text = text; ended = ended }) ≡ read_outcome at text ended u
unfolding outcome
outcome-read at text ended u e = ap (λ u. read_outcome at text ended u) e

pub outcome-long : (at : ℕ) (text : List ℕ) (ended : Bool) (body rest : List ℕ) → unquoted text ≡ record { body = body; rest = rest } → 1010 < length body
    → outcome (record { at = at; text = text; ended = ended }) ≡ Some (Faulty (at + length (quoted (take 1011 body)) - 1) Long)
outcome-long at text ended body rest e h = outcome-read at text ended _ e ∙ cond-true _ _ _ (lt-ltb 1010 (length body) h)

pub outcome-quote : (at : ℕ) (text : List ℕ) (ended : Bool) (body rest : List ℕ) → unquoted text ≡ record { body = body; rest = rest } → length body ≤ 1010 → is_broken rest ended ≡ true
    → outcome (record { at = at; text = text; ended = ended }) ≡ Some (Faulty (at + length (quoted body) + 1) Quote)
outcome-quote at text ended body rest e h b = outcome-read at text ended _ e ∙ cond-false _ _ _ (le-ltb 1010 (length body) h) ∙ cond-true _ _ _ b

pub outcome-open : (at : ℕ) (text body rest : List ℕ) → unquoted text ≡ record { body = body; rest = rest } → length body ≤ 1010 → is_broken rest false ≡ false
    → outcome (record { at = at; text = text; ended = false }) ≡ None
outcome-open at text body rest e h b = outcome-read at text false _ e ∙ cond-false _ _ _ (le-ltb 1010 (length body) h) ∙ cond-false _ _ _ b

pub outcome-ended : (at : ℕ) (body : List ℕ) → length body ≤ 1010
    → outcome (record { at = at; text = quoted body; ended = true }) ≡ Some (ended_outcome (at + length (quoted body)) body)
outcome-ended at body h = outcome-read at (quoted body) true _ (unquoted-whole body) ∙ cond-false _ _ _ (le-ltb 1010 (length body) h)

-- the texts of the states
pub outcome-plain : (at : ℕ) (body : List ℕ) → length body ≤ 1010 → outcome (record { at = at; text = quoted body; ended = false }) ≡ None
outcome-plain at body h = outcome-open at (quoted body) body [] (unquoted-whole body) h refl

pub outcome-quoting : (at : ℕ) (body : List ℕ) → length body ≤ 1010 → outcome (record { at = at; text = quoted body ++ quote ∷ []; ended = false }) ≡ None
outcome-quoting at body h = outcome-open at (quoted body ++ quote ∷ []) body (quote ∷ []) (unquoted-cut_off body) h refl

-- a flag byte behind the quote byte
pub outcome-cut_off : (at : ℕ) (body : List ℕ) → length body ≤ 1010 → outcome (record { at = at; text = quoted body ++ quote ∷ []; ended = true }) ≡ Some (Faulty (at + length (quoted body) + 1) Quote)
outcome-cut_off at body h = outcome-quote at (quoted body ++ quote ∷ []) true body (quote ∷ []) (unquoted-cut_off body) h refl

-- the byte that completes the 1,011th body byte settles the outcome
pub settled-long : (at : ℕ) (body : List ℕ) → length body ≡ 1011 → IsSettled at (quoted body) (Faulty (at + length (quoted body) - 1) Long)
settled-long at body h more ended =
    outcome-long at (quoted body ++ more) ended (body ++ (unquoted more).body) (unquoted more).rest (unquoted-quoted body more) (omega (arith, length-append body (unquoted more).body))
    ∙ ap (λ b. Some (Faulty (at + length (quoted b) - 1) Long)) (take_at body (unquoted more).body 1011 h)

-- and so does a wrong byte behind the quote byte
pub settled-wrong : (at : ℕ) (body : List ℕ) (y : ℕ) → length body ≤ 1010 → y ≢ 0xDC → y ≢ 0xDD → IsSettled at (quoted body ++ quote ∷ y ∷ []) (Faulty (at + length (quoted body) + 1) Quote)
settled-wrong at body y h nc nd more ended =
    ap (λ t. outcome (record { at = at; text = t; ended = ended })) (append_assoc (quoted body) (quote ∷ y ∷ []) more)
    ∙ outcome-quote at (quoted body ++ quote ∷ y ∷ more) ended body (quote ∷ y ∷ more) (unquoted-wrong body y more nc nd) h refl
