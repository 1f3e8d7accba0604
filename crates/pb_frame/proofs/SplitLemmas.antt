-- A stream that is cut at a flag byte: what stands before it has its verdicts, and what stands behind it adds its own.
use Rattle.std.proofs.Common.{◌≡◌, ◌≢◌, ℕ, ◌+◌, ◌<◌, Bool, true, false, cond, List, [], ◌∷◌, ◌++◌, length, take, ltb, ◌-◌, Some, None, flat_map, find, option_map, is_none, refl, sym, ◌∙◌, ap, nat_eq, arith, append_assoc}
use Rattle.std.proofs.lemmas.Grind.{flat_map-append}
use Rattle.std.proofs.lemmas.Bool.{ne_eqb, cond-false}
use Rattle.std.proofs.lemmas.List.{append-nil}
use Rattle.std.proofs.lemmas.List.Elements.{All-nil, All-head, All-tail}
use Rattle.pb_frame.specs.declared.why.Why.TheVariants.{Quote, Long}
use Rattle.pb_frame.specs.Framing.{flag, Cut, cut, Piece, piece_of, has_next, placed, pieces, Finding, outcome, Verdict, verdict_of, verdicts, is_open, unfinished, unquoted, quoted, Faulty, ended_outcome, is_broken}
use Rattle.pb_frame.specs.Hearing.{HasNoFlag}

abbrev joined : Cut → Cut → Cut
joined c d = record { head = c.head; texts = c.texts ++ (d.head ∷ d.texts) }

cut-flag : (front rest : List ℕ) → cut (front ++ flag ∷ rest) ≡ joined (cut front) (cut rest)
unfolding cut
cut-flag [] rest = refl
cut-flag (x ∷ front) rest =
    rw (cut-flag front rest)
    (elim (nat_eq x flag) as (λ b. ◌≡◌ {A = Cut}
    (cond b (record { head = []; texts = (joined (cut front) (cut rest)).head ∷ (joined (cut front) (cut rest)).texts }) (record { head = x ∷ (joined (cut front) (cut rest)).head; texts = (joined (cut front) (cut rest)).texts }))
    (joined (cond b (record { head = []; texts = (cut front).head ∷ (cut front).texts }) (record { head = x ∷ (cut front).head; texts = (cut front).texts })) (cut rest)))
    [ true ↦ refl | false ↦ refl ])

pub cut-text : (text : List ℕ) → HasNoFlag text → cut text ≡ record { head = text; texts = [] }
unfolding cut
cut-text [] h = refl
cut-text (x ∷ text) h = rw (cut-text text (All-tail (λ byte. byte ≢ flag) x text h)) (cond-false _ _ _ (ne_eqb x flag (All-head (λ byte. byte ≢ flag) x text h)))

-- how long texts are, each with the flag byte at it
span : List (List ℕ) → ℕ
span [] = 0
span (text ∷ texts) = length text + 1 + span texts

length-cut : (stream : List ℕ) → length (cut stream).head + span (cut stream).texts ≡ length stream
unfolding cut span
length-cut [] = refl
length-cut (x ∷ stream) =
    let e = length-cut stream in
    let flagged : Cut = record { head = []; texts = (cut stream).head ∷ (cut stream).texts } in
    let more : Cut = record { head = x ∷ (cut stream).head; texts = (cut stream).texts } in
    elim (nat_eq x flag) as (λ b. length (cond {A = Cut} b flagged more).head + span (cond {A = Cut} b flagged more).texts ≡ length (x ∷ stream))
    [ true ↦ omega arith | false ↦ omega arith ]

ended_pieces : ℕ → List (List ℕ) → List Piece
ended_pieces at [] = []
ended_pieces at (text ∷ texts) = piece_of at text true ++ ended_pieces (at + length text + 1) texts

has_next-append : (ts : List (List ℕ)) (u : List ℕ) (us : List (List ℕ)) → has_next (ts ++ u ∷ us) ≡ true
has_next-append [] u us = refl
has_next-append (t ∷ ts) u us = refl

placed-append : (at : ℕ) (ts : List (List ℕ)) (u : List ℕ) (us : List (List ℕ)) → placed at (ts ++ u ∷ us) ≡ ended_pieces at ts ++ placed (at + span ts) (u ∷ us)
unfolding ended_pieces span placed
placed-append at [] u us = ap (λ n. placed n (u ∷ us)) (omega arith)
placed-append at (t ∷ ts) u us =
    ap (λ b. piece_of at t b ++ placed (at + length t + 1) (ts ++ u ∷ us)) (has_next-append ts u us)
    ∙ ap (λ ps. piece_of at t true ++ ps) (placed-append (at + length t + 1) ts u us)
    ∙ sym (append_assoc (piece_of at t true) (ended_pieces (at + length t + 1) ts) (placed (at + length t + 1 + span ts) (u ∷ us)))
    ∙ ap (λ n. (piece_of at t true ++ ended_pieces (at + length t + 1) ts) ++ placed n (u ∷ us)) (omega arith)

-- the pieces that end at the flag byte behind a front
before : List ℕ → List Piece
before front = ended_pieces (length (cut front).head + 1) (cut front).texts

pieces-flag : (front rest : List ℕ) → pieces (front ++ flag ∷ rest) ≡ before front ++ placed (length front + 1) ((cut rest).head ∷ (cut rest).texts)
unfolding pieces before
pieces-flag front rest =
    ap (λ (c : Cut). placed (length c.head + 1) c.texts) (cut-flag front rest)
    ∙ placed-append (length (cut front).head + 1) (cut front).texts (cut rest).head (cut rest).texts
    ∙ ap (λ n. ended_pieces (length (cut front).head + 1) (cut front).texts ++ placed n ((cut rest).head ∷ (cut rest).texts)) (omega (arith, length-cut front))

-- the verdicts of a text between the flag byte at a place and what follows
pub judged : ℕ → List ℕ → Bool → List Verdict
judged at text ended = flat_map verdict_of (piece_of at text ended)

verdicts-flag : (front rest : List ℕ) → verdicts (front ++ flag ∷ rest) ≡ flat_map verdict_of (before front) ++ flat_map verdict_of (placed (length front + 1) ((cut rest).head ∷ (cut rest).texts))
unfolding verdicts
verdicts-flag front rest = ap (λ ps. flat_map verdict_of ps) (pieces-flag front rest) ∙ flat_map-append verdict_of (before front) _

verdicts-at : (front : List ℕ) → verdicts (front ++ flag ∷ []) ≡ flat_map verdict_of (before front)
unfolding cut placed
verdicts-at front = verdicts-flag front [] ∙ append-nil (flat_map verdict_of (before front))

-- behind a flag byte, a text without its end
pub verdicts-open : (front text : List ℕ) → HasNoFlag text → verdicts (front ++ flag ∷ text) ≡ verdicts (front ++ flag ∷ []) ++ judged (length front + 1) text false
unfolding placed judged
verdicts-open front text h =
    verdicts-flag front text
    ∙ ap (λ (c : Cut). flat_map verdict_of (before front) ++ flat_map verdict_of (placed (length front + 1) (c.head ∷ c.texts))) (cut-text text h)
    ∙ ap (λ ps. flat_map verdict_of (before front) ++ flat_map verdict_of ps) (append-nil (piece_of (length front + 1) text false))
    ∙ ap (λ vs. vs ++ flat_map verdict_of (piece_of (length front + 1) text false)) (sym (verdicts-at front))

cut-ended : (text : List ℕ) → HasNoFlag text → cut (text ++ flag ∷ []) ≡ record { head = text; texts = [] ∷ [] }
unfolding cut
cut-ended text h = cut-flag text [] ∙ ap (λ (c : Cut). joined c (record { head = []; texts = [] })) (cut-text text h)

-- behind a flag byte, a text with its end
pub verdicts-ended : (front text : List ℕ) → HasNoFlag text → verdicts (front ++ flag ∷ (text ++ flag ∷ [])) ≡ verdicts (front ++ flag ∷ []) ++ judged (length front + 1) text true
unfolding placed judged
verdicts-ended front text h =
    verdicts-flag front (text ++ flag ∷ [])
    ∙ ap (λ (c : Cut). flat_map verdict_of (before front) ++ flat_map verdict_of (placed (length front + 1) (c.head ∷ c.texts))) (cut-ended text h)
    ∙ ap (λ ps. flat_map verdict_of (before front) ++ flat_map verdict_of ps) (append-nil (piece_of (length front + 1) text true))
    ∙ ap (λ vs. vs ++ flat_map verdict_of (piece_of (length front + 1) text true)) (sym (verdicts-at front))

-- before the first flag byte there is no verdict
pub verdicts-none : (text : List ℕ) → HasNoFlag text → verdicts text ≡ []
unfolding verdicts pieces placed
verdicts-none text h = ap (λ (c : Cut). flat_map verdict_of (placed (length c.head + 1) c.texts)) (cut-text text h)

pub verdicts-first : (text : List ℕ) → HasNoFlag text → verdicts (text ++ flag ∷ []) ≡ []
unfolding verdicts pieces placed
verdicts-first text h = ap (λ (c : Cut). flat_map verdict_of (placed (length c.head + 1) c.texts)) (cut-ended text h)

pub judged-nil : (at : ℕ) (ended : Bool) → judged at [] ended ≡ []
unfolding judged
judged-nil at ended = refl

pub judged-some : (at : ℕ) (text : List ℕ) (ended : Bool) (o : Finding) → 0 < length text → outcome (record { at = at; text = text; ended = ended }) ≡ Some o → judged at text ended ≡ record { piece = at; outcome = o } ∷ []
unfolding judged
judged-some at [] ended o some e = absurd (omega arith)
judged-some at (x ∷ text) ended o some e = rw e refl

pub judged-none : (at : ℕ) (text : List ℕ) (ended : Bool) → outcome (record { at = at; text = text; ended = ended }) ≡ None → judged at text ended ≡ []
unfolding judged
judged-none at [] ended e = refl
judged-none at (x ∷ text) ended e = rw e refl

always_some : (a b : Bool) (x y z : Finding) → is_none (cond a (Some x) (cond b (Some y) (Some z))) ≡ false
always_some true b x y z = refl
always_some false true x y z = refl
always_some false false x y z = refl

-- an ended piece has a verdict
not_open : (at : ℕ) (text : List ℕ) → is_open (record { at = at; text = text; ended = true }) ≡ false
unfolding outcome
not_open at text =
    let u = unquoted text in
    always_some (ltb 1010 (length u.body)) (is_broken u.rest true) (Faulty (at + length (quoted (take 1011 u.body)) - 1) Long) (Faulty (at + length (quoted u.body) + 1) Quote) (ended_outcome (at + length text) u.body)

find_open-piece : (at : ℕ) (text : List ℕ) (ps : List Piece) → find is_open (piece_of at text true ++ ps) ≡ find is_open ps
find_open-piece at [] ps = refl
find_open-piece at (x ∷ text) ps = cond-false _ _ _ (not_open at (x ∷ text))

find_open-ended : (at : ℕ) (ts : List (List ℕ)) (ps : List Piece) → find is_open (ended_pieces at ts ++ ps) ≡ find is_open ps
unfolding ended_pieces
find_open-ended at [] ps = refl
find_open-ended at (t ∷ ts) ps =
    ap (λ qs. find is_open qs) (append_assoc (piece_of at t true) (ended_pieces (at + length t + 1) ts) ps)
    ∙ find_open-piece at t (ended_pieces (at + length t + 1) ts ++ ps)
    ∙ find_open-ended (at + length t + 1) ts ps

-- of a text behind the last flag byte
pub unfinished-open : (front text : List ℕ) → HasNoFlag text → unfinished (front ++ flag ∷ text) ≡ option_map (λ (p : Piece). p.at) (find is_open (piece_of (length front + 1) text false))
unfolding unfinished placed before
unfinished-open front text h =
    ap (λ ps. option_map (λ (p : Piece). p.at) (find is_open ps))
    (pieces-flag front text
    ∙ ap (λ (c : Cut). before front ++ placed (length front + 1) (c.head ∷ c.texts)) (cut-text text h)
    ∙ ap (λ ps. before front ++ ps) (append-nil (piece_of (length front + 1) text false)))
    ∙ ap (λ o. option_map (λ (p : Piece). p.at) o) (find_open-ended (length (cut front).head + 1) (cut front).texts (piece_of (length front + 1) text false))

pub unfinished-none : (text : List ℕ) → HasNoFlag text → unfinished text ≡ None
unfolding unfinished pieces placed
unfinished-none text h = ap (λ (c : Cut). option_map (λ (p : Piece). p.at) (find is_open (placed (length c.head + 1) c.texts))) (cut-text text h)

find_piece-some : (at : ℕ) (text : List ℕ) (o : Finding) → outcome (record { at = at; text = text; ended = false }) ≡ Some o → find is_open (piece_of at text false) ≡ None
find_piece-some at [] o e = refl
find_piece-some at (x ∷ text) o e = rw e refl

find_piece-none : (at : ℕ) (text : List ℕ) → 0 < length text → outcome (record { at = at; text = text; ended = false }) ≡ None → find is_open (piece_of at text false) ≡ Some (record { at = at; text = text; ended = false })
find_piece-none at [] some e = absurd (omega arith)
find_piece-none at (x ∷ text) some e = rw e refl

pub unfinished-judged : (front text : List ℕ) (o : Finding) → HasNoFlag text → outcome (record { at = length front + 1; text = text; ended = false }) ≡ Some o → unfinished (front ++ flag ∷ text) ≡ None
unfinished-judged front text o h e = unfinished-open front text h ∙ ap (λ o. option_map (λ (p : Piece). p.at) o) (find_piece-some (length front + 1) text o e)

pub unfinished-within : (front text : List ℕ) → HasNoFlag text → 0 < length text → outcome (record { at = length front + 1; text = text; ended = false }) ≡ None → unfinished (front ++ flag ∷ text) ≡ Some (length front + 1)
unfinished-within front text h some e = unfinished-open front text h ∙ ap (λ o. option_map (λ (p : Piece). p.at) o) (find_piece-none (length front + 1) text some e)

pub unfinished-behind : (front : List ℕ) → unfinished (front ++ flag ∷ []) ≡ None
unfinished-behind front = unfinished-open front [] (All-nil (λ byte. byte ≢ flag))
