-- One frame that is heard in a stream in which nothing is open.
use Rattle.std.proofs.Common.{◌≡◌, ◌⊎◌, ⊎_elim, ℕ, ◌+◌, List, [], ◌∷◌, ◌++◌, length, refl, sym, ◌∙◌, ap, append_assoc, append-nil, length-append, arith}
use Rattle.std.proofs.lemmas.List.Elements.{All-head, All-tail}
use Rattle.pb_frame.specs.Signature.{start, sig, null}
use Rattle.pb_frame.specs.Framing.{flag, frame, quoted, IsContentSize, Whole, Verdict, verdicts, whole_at}
use Rattle.pb_frame.specs.Hearing.{HasNoFlag, IsBehindFlag}
use Rattle.pb_frame.proofs.FollowsLemmas.{verdicts-append, verdicts-nil}
use Rattle.pb_frame.proofs.FrameLemmas.{frame-heard, frame-heard_next}
use Rattle.pb_truth.proofs.StreamLemmas.{flag_alone}
use Rattle.pb_truth.proofs.UndisturbedLemmas.{same_end, Place, Behind, Before, place_of}

-- nothing was heard, or a flag byte last
abbrev pub IsClosed : List ℕ → Type 0
IsClosed stream = (stream ≡ []) ⊎ IsBehindFlag stream

tails : {A : Type 0} {x y : A} {xs ys : List A} → x ∷ xs ≡ y ∷ ys → xs ≡ ys
tails is = cc is

heads : {A : Type 0} {x y : A} {xs ys : List A} → x ∷ xs ≡ y ∷ ys → x ≡ y
heads is = cc is

-- what is shown where something is
pub record OneShown (content : List ℕ) (before : List Verdict) (last : Verdict) (more : List Verdict) : Type 0 where
  pub first : before ≡ []
  pub is : last.outcome ≡ Whole content
  pub none : more ≡ []

module _ (stream content : List ℕ) (closed : IsClosed stream) (size : IsContentSize (length content)) where
  pub frame_shows : (n : ℕ) × (verdicts (stream ++ frame content) ≡ verdicts stream ++ whole_at n content)
  frame_shows = ⊎_elim
      (λ (none : stream ≡ []). (
        length stream + 1,
        frame-heard stream content size ∙ ap (λ vs. vs ++ whole_at (length stream + 1) content)
            (ap (λ l. verdicts (l ++ flag ∷ [])) none ∙ flag_alone ∙ sym verdicts-nil ∙ ap verdicts (sym none)),
      ))
      (λ (b : IsBehindFlag stream). (
        length b.front + 2,
        ap (λ l. verdicts (l ++ frame content)) b.is ∙ frame-heard_next b.front content size ∙ ap (λ l. verdicts l ++ whole_at (length b.front + 2) content) (sym b.is),
      )) closed

  -- a flag byte alone shows nothing
  flag_shows : (vs : List Verdict) → verdicts (stream ++ flag ∷ []) ≡ verdicts stream ++ vs → vs ≡ []
  flag_shows vs is = none vs (omega (arith, long, ap (λ (l : List Verdict). length l) is, length-append (verdicts stream) vs))
    where
      long : length (verdicts (stream ++ flag ∷ [])) ≡ length (verdicts stream)
      long =
          let both = ap (λ (l : List Verdict). length l) (sym (frame-heard stream content size) ∙ frame_shows.1) in
          omega (arith, both, length-append (verdicts (stream ++ flag ∷ [])) (whole_at (length stream + 1) content), length-append (verdicts stream) (whole_at frame_shows.0 content))

      none : (vs : List Verdict) → length vs ≡ 0 → vs ≡ []
      none [] is = refl
      none (v ∷ vs) is = absurd (omega (arith, is))

  -- of the frame these bytes were judged
  module _ (pushed rest : List ℕ) (is : pushed ++ rest ≡ frame content) where
    whole : (vs : List Verdict) → verdicts (stream ++ pushed) ≡ verdicts stream ++ vs → (more : List Verdict) × (vs ++ more ≡ whole_at frame_shows.0 content)
    whole vs shown =
        let grown = verdicts-append (stream ++ pushed) rest in (
          grown.0,
          same_end (verdicts stream) (vs ++ grown.0) (whole_at frame_shows.0 content)
              (sym (append_assoc (verdicts stream) vs grown.0) ∙ ap (λ l. l ++ grown.0) (sym shown) ∙ sym grown.1 ∙ ap verdicts (append_assoc stream pushed rest)
              ∙ ap (λ l. verdicts (stream ++ l)) is ∙ frame_shows.1),
        )

    pub one_shown : (before : List Verdict) (last : Verdict) → verdicts (stream ++ pushed) ≡ verdicts stream ++ (before ++ last ∷ []) → (more : List Verdict) × OneShown content before last more
    one_shown before last shown = let w = whole (before ++ last ∷ []) shown in (w.0, by before w.0 w.1)
      where
        by : (before more : List Verdict) → (before ++ last ∷ []) ++ more ≡ whole_at frame_shows.0 content → OneShown content before last more
        by [] more same = record { first = refl; is = ap (λ (v : Verdict). v.outcome) (heads same); none = tails same }
        by (v ∷ []) more same = absurd (cons_nil (tails same))
          where
            cons_nil : last ∷ more ≡ [] → ⊥
            cons_nil e = cc e
        by (v ∷ u ∷ before) more same = absurd (cons_nil (tails same))
          where
            cons_nil : u ∷ ((before ++ last ∷ []) ++ more) ≡ [] → ⊥
            cons_nil e = cc e

    -- nothing of it is left where something was shown, and a flag byte was judged last
    pub all_judged : ((body : List ℕ) → HasNoFlag (quoted body)) → (before : List Verdict) (last : Verdict)
        → verdicts (stream ++ pushed) ≡ verdicts stream ++ (before ++ last ∷ []) → IsBehindFlag (stream ++ pushed) → rest ≡ []
    all_judged unflagged before last shown behind = by pushed is shown behind.front behind.is
      where
        body : List ℕ
        body = content ++ null (sig content start)

        some : (before : List Verdict) → before ++ last ∷ [] ≡ [] → ⊥
        some [] e = cc e
        some (v ∷ before) e = cc e

        last_flag : (xs ys front : List ℕ) (y : ℕ) → xs ++ (y ∷ ys) ≡ front ++ flag ∷ [] → (zs : List ℕ) × (y ∷ ys ≡ zs ++ flag ∷ [])
        last_flag xs ys front y same = at (place_of xs (y ∷ ys) front [] flag same)
          where
            at : Place xs (y ∷ ys) front [] flag → (zs : List ℕ) × (y ∷ ys ≡ zs ++ flag ∷ [])
            at (Behind m _ here) = (m, here)
            at (Before [] _ here) = absurd (cc here)
            at (Before (z ∷ m) _ here) = absurd (cc here)

        ends : (zs q : List ℕ) → (zs ++ flag ∷ []) ++ rest ≡ q ++ flag ∷ [] → HasNoFlag q → rest ≡ []
        ends [] [] same none = tails same
        ends [] (y ∷ q) same none = absurd (All-head (λ byte. byte ≡ flag → ⊥) y q none (sym (heads same)))
        ends (z ∷ zs) [] same none = absurd (left zs (tails same))
          where
            left : (zs : List ℕ) → (zs ++ flag ∷ []) ++ rest ≡ [] → ⊥
            left [] e = cc e
            left (z ∷ zs) e = cc e
        ends (z ∷ zs) (y ∷ q) same none = ends zs q (tails same) (All-tail (λ byte. byte ≡ flag → ⊥) y q none)

        by : (pushed : List ℕ) → pushed ++ rest ≡ frame content → verdicts (stream ++ pushed) ≡ verdicts stream ++ (before ++ last ∷ [])
            → (front : List ℕ) → stream ++ pushed ≡ front ++ flag ∷ [] → rest ≡ []
        by [] same shown front at =
            absurd (some before (sym (same_end (verdicts stream) [] (before ++ last ∷ []) (append-nil (verdicts stream) ∙ ap verdicts (sym (append-nil stream)) ∙ shown))))
        by (x ∷ []) same shown front at =
            absurd (some before (flag_shows (before ++ last ∷ []) (ap (λ b. verdicts (stream ++ b ∷ [])) (sym (heads same)) ∙ shown)))
        by (x ∷ y ∷ t) same shown front at =
            let tail = last_flag (stream ++ x ∷ []) t front y (append_assoc stream (x ∷ []) (y ∷ t) ∙ at) in
            ends tail.0 (quoted body) (ap (λ l. l ++ rest) (sym tail.1) ∙ tails same) (unflagged body)
