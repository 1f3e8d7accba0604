-- From one state of an unframer to a later one, and what that says of any stream.
use Rattle.std.proofs.Common.{◌≡◌, ◌≢◌, ℕ, ◌+◌, ◌-◌, ◌<◌, List, [], ◌∷◌, ◌++◌, length, take, drop, get_or, None, inl, refl, sym, ◌∙◌, ap, subst, arith, append_assoc}
use Rattle.std.proofs.lemmas.List.{append-nil, take_more, take_rest}
use Rattle.std.proofs.lemmas.List.Elements.{All-nil}
use Rattle.std.proofs.Math.Seq.{take-add}
use Rattle.pb_frame.specs.declared.state.State.TheVariants.{Skipping}
use Rattle.pb_frame.specs.Framing.{flag, Verdict, verdicts, unfinished}
use Rattle.pb_frame.specs.Hearing.{Hearing, hearing, StandsFor, Follows, shown}
use Rattle.pb_frame.specs.Turn.{turn_in}
use Rattle.pb_frame.proofs.SplitLemmas.{verdicts-none, unfinished-none}
use Rattle.pb_frame.proofs.TurnLemmas.{Follows-turn}

pub Follows-nil : (h : Hearing) → Follows h [] [] h
Follows-nil h = record {
  stands = λ pushed st. subst (λ t. StandsFor h t) (sym (append-nil pushed)) st;
  shows = λ pushed st. ap verdicts (append-nil pushed) ∙ sym (append-nil (verdicts pushed));
}

pub Follows-trans : (u v w : Hearing) (a b : List ℕ) (vs ws : List Verdict) → Follows u a vs v → Follows v b ws w → Follows u (a ++ b) (vs ++ ws) w
Follows-trans u v w a b vs ws f g = record {
  stands = λ pushed st. subst (λ t. StandsFor w t) (append_assoc pushed a b) (g.stands (pushed ++ a) (f.stands pushed st));
  shows = λ pushed st.
      ap verdicts (sym (append_assoc pushed a b))
      ∙ g.shows (pushed ++ a) (f.stands pushed st)
      ∙ ap (λ xs. xs ++ ws) (f.shows pushed st)
      ∙ append_assoc (verdicts pushed) vs ws;
}

-- In a loop over a piece of the stream, behind its first i bytes: a run without a verdict at `&piece[i..]`, and a
-- pushed byte.
pub Follows-run_on : (u v w : Hearing) (piece : List ℕ) (i n : ℕ) (vs : List Verdict) → Follows u (take i piece) vs v → Follows v (take n (take (length piece - i) (drop i piece))) [] w
    → Follows u (take (i + n) piece) vs w
Follows-run_on u v w piece i n vs f g =
    let h = subst (λ t. Follows v (take n t) [] w) (take_rest piece i) g in
    subst (λ xs. Follows u (take (i + n) piece) xs w) (append-nil vs)
    (subst (λ t. Follows u t (vs ++ []) w) (sym (take-add i n piece)) (Follows-trans u v w (take i piece) (take n (drop i piece)) vs [] f h))

pub Follows-push_on : (u v w : Hearing) (piece : List ℕ) (i : ℕ) (vs ws : List Verdict) → i < length piece → Follows u (take i piece) vs v → Follows v (get_or piece i 0 ∷ []) ws w → Follows u (take (i + 1) piece) (vs ++ ws) w
Follows-push_on u v w piece i vs ws below f g =
    subst (λ t. Follows u t (vs ++ ws) w) (sym (take_more piece i 0 below)) (Follows-trans u v w (take i piece) (get_or piece i 0 ∷ []) vs ws f g)

-- an unframer to which nothing was pushed
abbrev pub fresh : Hearing
fresh = hearing Skipping 0 0 []

pub fresh-stands : StandsFor fresh []
fresh-stands = record { count = refl; room = omega arith; stands = inl (All-nil (λ byte. byte ≢ flag)) }

pub verdicts-nil : verdicts [] ≡ []
verdicts-nil = verdicts-none [] (All-nil (λ byte. byte ≢ flag))

-- what was shown from the start on are the verdicts of all bytes
pub Follows-start : (u v : Hearing) (bytes : List ℕ) (vs : List Verdict) → StandsFor u [] → Follows u bytes vs v → StandsFor v bytes × (verdicts bytes ≡ vs)
Follows-start u v bytes vs st f = (f.stands [] st, f.shows [] st ∙ ap (λ xs. xs ++ vs) verdicts-nil)

-- some unframer hears any bytes
pub heard_of : (u : Hearing) (bytes : List ℕ) → (vs : List Verdict) × (v : Hearing) × Follows u bytes vs v
heard_of u [] = ([], u, Follows-nil u)
heard_of u (byte ∷ bytes) =
    let t = turn_in u.state u byte in
    let more = heard_of t.after bytes in
    (shown t.after t.heard ++ more.0, more.1, Follows-trans u t.after more.1 (byte ∷ []) bytes (shown t.after t.heard) more.0 (Follows-turn u.state u t.after byte t.heard refl refl refl) more.2)

-- more bytes never change the verdicts that stand
pub verdicts-append : (front back : List ℕ) → (vs : List Verdict) × (verdicts (front ++ back) ≡ verdicts front ++ vs)
verdicts-append front back =
    let first = heard_of fresh front in
    let more = heard_of first.1 back in
    (more.0, more.2.shows front (first.2.stands [] fresh-stands))

pub unfinished-nil : unfinished [] ≡ None
unfinished-nil = unfinished-none [] (All-nil (λ byte. byte ≢ flag))
