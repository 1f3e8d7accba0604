-- The text of a body, and what is read back from it.
use Rattle.std.proofs.Common.{◌≡◌, ◌≢◌, ℕ, ◌+◌, ◌*◌, ◌<◌, ◌≤◌, List, [], ◌∷◌, ◌++◌, length, take, get_or, All, refl, sym, ◌∙◌, ap, subst, inl, inr, ◌⊎◌, arith, append_assoc, length-append}
use Rattle.std.proofs.lemmas.Grind.{flat_map-append}
use Rattle.std.proofs.lemmas.Bool.{cases_eq, ne_eqb, cond-false}
use Rattle.std.proofs.lemmas.List.{append-nil, take_more}
use Rattle.std.proofs.lemmas.List.Folds.{length-flat_map-take}
use Rattle.std.proofs.lemmas.List.Elements.{All-append, All-nil, All-cons, All-head, All-tail}
use Rattle.pb_frame.specs.Signature.{start, sig, null}
use Rattle.pb_frame.specs.Framing.{flag, quote, IsPlain, Quoted, nothing, plain, quote_quoted, flag_quoted, quoted_byte, quoted, frame, Unquoted, with_byte, unquoted}
use Rattle.pb_frame.specs.Hearing.{HasNoFlag}

pub quoted-nil : quoted [] ≡ []
unfolding quoted
quoted-nil = refl

pub quoted-cons : (byte : ℕ) (body : List ℕ) → quoted (byte ∷ body) ≡ quoted_byte byte ++ quoted body
unfolding quoted
quoted-cons byte body = refl

pub quoted-append : (a b : List ℕ) → quoted (a ++ b) ≡ quoted a ++ quoted b
unfolding quoted
quoted-append a b = flat_map-append quoted_byte a b

pub quoted-push : (body : List ℕ) (byte : ℕ) → quoted (body ++ byte ∷ []) ≡ quoted body ++ quoted_byte byte
quoted-push body byte = quoted-append body (byte ∷ []) ∙ ap (λ t. quoted body ++ t) (quoted-cons byte [] ∙ ap (λ t. quoted_byte byte ++ t) quoted-nil ∙ append-nil (quoted_byte byte))

pub quoted_byte-plain : (byte : ℕ) → IsPlain byte → quoted_byte byte ≡ byte ∷ []
quoted_byte-plain byte p = cond-false _ _ _ (ne_eqb byte quote p.0) ∙ cond-false _ _ _ (ne_eqb byte flag p.1)

-- a run of bytes that stand for themselves
pub quoted-plain : (run : List ℕ) → All IsPlain run → quoted run ≡ run
quoted-plain [] p = quoted-nil
quoted-plain (x ∷ run) p = quoted-cons x run ∙ ap (λ t. t ++ quoted run) (quoted_byte-plain x (All-head IsPlain x run p)) ∙ ap (λ t. x ∷ t) (quoted-plain run (All-tail IsPlain x run p))

-- a byte is the quote byte, the flag byte, or stands for itself
pub cases_byte : (byte : ℕ) → (byte ≡ quote) ⊎ ((byte ≡ flag) ⊎ IsPlain byte)
cases_byte byte = elim (cases_eq byte quote) [ inl q ↦ inl q | inr nq ↦ elim (cases_eq byte flag) [ inl f ↦ inr (inl f) | inr nf ↦ inr (inr (nq, nf)) ] ]

-- the relation and the function
pub Quoted-text : {body text : List ℕ} → Quoted body text → text ≡ quoted body
Quoted-text nothing = sym quoted-nil
Quoted-text (plain {byte = x} {body = b} nq nf q) = ap (λ t. x ∷ t) (Quoted-text q) ∙ sym (quoted-cons x b ∙ ap (λ t. t ++ quoted b) (quoted_byte-plain x (nq, nf)))
Quoted-text (quote_quoted {body = b} q) = ap (λ t. quote ∷ 0xDC ∷ t) (Quoted-text q) ∙ sym (quoted-cons quote b)
Quoted-text (flag_quoted {body = b} q) = ap (λ t. quote ∷ 0xDD ∷ t) (Quoted-text q) ∙ sym (quoted-cons flag b)

pub Quoted-quoted : (body : List ℕ) → Quoted body (quoted body)
Quoted-quoted [] = subst (λ t. Quoted [] t) (sym quoted-nil) nothing
Quoted-quoted (x ∷ body) = subst (λ t. Quoted (x ∷ body) t) (sym (quoted-cons x body)) (elim (cases_byte x) [
  | inl q ↦ subst (λ y. Quoted (y ∷ body) (quoted_byte y ++ quoted body)) (sym q) (quote_quoted (Quoted-quoted body))
  | inr r ↦ elim r [
    | inl f ↦ subst (λ y. Quoted (y ∷ body) (quoted_byte y ++ quoted body)) (sym f) (flag_quoted (Quoted-quoted body))
    | inr p ↦ subst (λ t. Quoted (x ∷ body) (t ++ quoted body)) (sym (quoted_byte-plain x p)) (plain p.0 p.1 (Quoted-quoted body))
  ]
])

abbrev NotFlag : ℕ → Type 0
NotFlag byte = byte ≢ flag

no_flag-two : (y : ℕ) → y ≢ flag → HasNoFlag (quote ∷ y ∷ [])
no_flag-two y ne = All-cons NotFlag quote (y ∷ []) (λ e. omega arith) (All-cons NotFlag y [] ne (All-nil NotFlag))

no_flag-byte : (x : ℕ) → HasNoFlag (quoted_byte x)
no_flag-byte x = elim (cases_byte x) [
  | inl q ↦ subst (λ y. HasNoFlag (quoted_byte y)) (sym q) (no_flag-two 0xDC (λ e. omega arith))
  | inr r ↦ elim r [
    | inl f ↦ subst (λ y. HasNoFlag (quoted_byte y)) (sym f) (no_flag-two 0xDD (λ e. omega arith))
    | inr p ↦ subst (λ t. HasNoFlag t) (sym (quoted_byte-plain x p)) (All-cons NotFlag x [] p.1 (All-nil NotFlag))
  ]
]

pub no_flag-quoted : (body : List ℕ) → HasNoFlag (quoted body)
no_flag-quoted [] = subst (λ t. HasNoFlag t) (sym quoted-nil) (All-nil NotFlag)
no_flag-quoted (x ∷ body) = subst (λ t. HasNoFlag t) (sym (quoted-cons x body)) (All-append NotFlag (quoted_byte x) (quoted body) (no_flag-byte x) (no_flag-quoted body))

length-quoted_byte : (x : ℕ) → (1 ≤ length (quoted_byte x)) × (length (quoted_byte x) ≤ 2)
length-quoted_byte x = elim (cases_byte x) [
  | inl q ↦ subst (λ y. (1 ≤ length (quoted_byte y)) × (length (quoted_byte y) ≤ 2)) (sym q) (omega arith, omega arith)
  | inr r ↦ elim r [
    | inl f ↦ subst (λ y. (1 ≤ length (quoted_byte y)) × (length (quoted_byte y) ≤ 2)) (sym f) (omega arith, omega arith)
    | inr p ↦ subst (λ t. (1 ≤ length t) × (length t ≤ 2)) (sym (quoted_byte-plain x p)) (omega arith, omega arith)
  ]
]

pub length-quoted : (body : List ℕ) → (length body ≤ length (quoted body)) × (length (quoted body) ≤ 2 * length body)
length-quoted [] = subst (λ t. (0 ≤ length t) × (length t ≤ 0)) (sym quoted-nil) (omega arith, omega arith)
length-quoted (x ∷ body) =
    let here = length-quoted_byte x in
    let later = length-quoted body in
    let joined : length (quoted (x ∷ body)) ≡ length (quoted_byte x) + length (quoted body) = ap length (quoted-cons x body) ∙ length-append (quoted_byte x) (quoted body) in
    (omega arith, omega arith)

unquoted-plain : (x : ℕ) (text : List ℕ) → x ≢ quote → unquoted (x ∷ text) ≡ with_byte x (unquoted text)
unfolding unquoted
unquoted-plain x [] ne = cond-false _ _ _ (ne_eqb x quote ne)
unquoted-plain x (y ∷ text) ne = cond-false _ _ _ (ne_eqb x quote ne)

pub unquoted-byte : (x : ℕ) (text : List ℕ) → unquoted (quoted_byte x ++ text) ≡ with_byte x (unquoted text)
unfolding unquoted
unquoted-byte x text = elim (cases_byte x) [
  | inl q ↦ subst (λ y. unquoted (quoted_byte y ++ text) ≡ with_byte y (unquoted text)) (sym q) refl
  | inr r ↦ elim r [
    | inl f ↦ subst (λ y. unquoted (quoted_byte y ++ text) ≡ with_byte y (unquoted text)) (sym f) refl
    | inr p ↦ subst (λ t. unquoted (t ++ text) ≡ with_byte x (unquoted text)) (sym (quoted_byte-plain x p)) (unquoted-plain x text p.0)
  ]
]

-- the front that stands for a body is read as that body
pub unquoted-quoted : (body text : List ℕ) → unquoted (quoted body ++ text) ≡ record { body = body ++ (unquoted text).body; rest = (unquoted text).rest }
unquoted-quoted [] text = subst (λ t. unquoted (t ++ text) ≡ unquoted text) (sym quoted-nil) refl
unquoted-quoted (x ∷ body) text =
    ap (λ t. unquoted (t ++ text)) (quoted-cons x body)
    ∙ ap unquoted (append_assoc (quoted_byte x) (quoted body) text)
    ∙ unquoted-byte x (quoted body ++ text)
    ∙ ap (λ u. with_byte x u) (unquoted-quoted body text)

pub unquoted-whole : (body : List ℕ) → unquoted (quoted body) ≡ record { body = body; rest = [] }
unfolding unquoted
unquoted-whole body = ap unquoted (sym (append-nil (quoted body))) ∙ unquoted-quoted body [] ∙ ap (λ b. record { body = b; rest = [] }) (append-nil body)

pub unquoted-cut_off : (body : List ℕ) → unquoted (quoted body ++ quote ∷ []) ≡ record { body = body; rest = quote ∷ [] }
unfolding unquoted
unquoted-cut_off body = unquoted-quoted body (quote ∷ []) ∙ ap (λ b. record { body = b; rest = quote ∷ [] }) (append-nil body)

pub unquoted-wrong : (body : List ℕ) (y : ℕ) (text : List ℕ) → y ≢ 0xDC → y ≢ 0xDD → unquoted (quoted body ++ quote ∷ y ∷ text) ≡ record { body = body; rest = quote ∷ y ∷ text }
unfolding unquoted
unquoted-wrong body y text nc nd =
    unquoted-quoted body (quote ∷ y ∷ text)
    ∙ ap (λ (u : Unquoted). record { body = body ++ u.body; rest = u.rest }) (cond-false _ _ _ (ne_eqb y 0xDC nc) ∙ cond-false _ _ _ (ne_eqb y 0xDD nd))
    ∙ ap (λ b. record { body = b; rest = quote ∷ y ∷ text }) (append-nil body)

-- a walk over a body: one more byte
pub quoted-more : (body : List ℕ) (i : ℕ) → i < length body → quoted (take (i + 1) body) ≡ quoted (take i body) ++ quoted_byte (get_or body i 0)
quoted-more body i h = ap quoted (take_more body i 0 h) ∙ quoted-push (take i body) (get_or body i 0)

-- and it fits where the whole text does
pub quoted-fits : (body : List ℕ) (i : ℕ) → i < length body → length (quoted (take i body)) + length (quoted_byte (get_or body i 0)) ≤ length (quoted body)
unfolding quoted
quoted-fits body i h = length-flat_map-take quoted_byte body i 0 h

pub length-frame : (content : List ℕ) → length (frame content) ≡ length (quoted content) + length (quoted (null (sig content start))) + 2
length-frame content =
    let ends = null (sig content start) in
    let a = ap length (quoted-append content ends) ∙ length-append (quoted content) (quoted ends) in
    let b = length-append (quoted (content ++ ends)) (flag ∷ []) in
    omega arith
