-- What follows of the steps of a station on a link.
use Rattle.std.proofs.Common.{◌≡◌, ◌⊎◌, inl, inr, ℕ, List, [], ◌∷◌, ◌++◌, length, map, refl, sym, ap, ap₂, subst, ◌∙◌, arith, append_assoc, append-nil, length-append}
use Rattle.std.proofs.lemmas.Grind.{flat_map-append}
use Rattle.pb_base.specs.World.{World, Event, Begin, Sent, Heard, Quiet, Defined, Stored, Oldest, all_heard, bytes_heard, byte_in, sent}
use Rattle.pb_frame.specs.Framing.{verdicts, pieces, cut, placed}
use Rattle.pb_station.specs.State.{State}
use Rattle.pb_serve.specs.Owed.{Owed, owed, all_owed, contents}
use Rattle.pb_serve.specs.declared.server.End.{End}
use Rattle.pb_serve.specs.declared.server.End.TheVariants.{Done, Idle, Flooded, LinkFault}
use Rattle.pb_serve.specs.Serving.{Ends, SendFails, Moment, Serving, Starts, Ticks, Hears, Passes, Answers, AllSent, SentInTime}

-- ---- what is owed for one good frame more

all_owed-push : (s : State) (cs : List (List ℕ)) (c : List ℕ) → all_owed s (cs ++ c ∷ []) ≡ record { frames = (all_owed s cs).frames ++ (owed (all_owed s cs).state c).frames; state = (owed (all_owed s cs).state c).state }
all_owed-push s [] c = ap (λ (l : List (List ℕ)). record { frames = l; state = (owed s c).state }) (append-nil (owed s c).frames)
all_owed-push s (x ∷ cs) c =
    let more = all_owed-push (owed s x).state cs c in
    ap (λ (o : Owed). record { frames = (owed s x).frames ++ o.frames; state = o.state }) more
    ∙ ap (λ (l : List (List ℕ)). record { frames = l; state = (owed (all_owed (owed s x).state cs).state c).state }) (sym (append_assoc (owed s x).frames (all_owed (owed s x).state cs).frames (owed (all_owed (owed s x).state cs).state c).frames))

-- ---- what events send and hear

sent-append : (a b : World) → sent (a ++ b) ≡ sent a ++ sent b
sent-append a b = flat_map-append _ a b

heard-append : (a b : World) → bytes_heard (a ++ b) ≡ bytes_heard a ++ bytes_heard b
unfolding bytes_heard
heard-append a b = flat_map-append byte_in a b

sent-heard : (bytes : List ℕ) → sent (all_heard bytes) ≡ []
sent-heard [] = refl
sent-heard (x ∷ bytes) = sent-heard bytes

heard-heard : (bytes : List ℕ) → bytes_heard (all_heard bytes) ≡ bytes
unfolding bytes_heard
heard-heard [] = refl
heard-heard (x ∷ bytes) = ap (λ l. x ∷ l) (heard-heard bytes)

sent-sent : (frames : List (List ℕ)) → sent (map Sent frames) ≡ frames
sent-sent [] = refl
sent-sent (f ∷ frames) = ap (λ l. f ∷ l) (sent-sent frames)

heard-sent : (frames : List (List ℕ)) → bytes_heard (map Sent frames) ≡ []
unfolding bytes_heard
heard-sent [] = refl
heard-sent (f ∷ frames) = heard-sent frames

heard-quiet : bytes_heard (Quiet ∷ []) ≡ []
unfolding bytes_heard
heard-quiet = refl

heard-none : bytes_heard [] ≡ []
unfolding bytes_heard
heard-none = refl

contents-none : contents [] ≡ []
unfolding contents verdicts pieces cut placed
contents-none = refl

-- ---- all that is owed was sent

pub all_sent : (first : State) (goal : ℕ) (w : World) (m : Moment) → Serving first goal w m → AllSent first w m
all_sent first goal w m Starts = record {
  frames = ap (λ cs. (all_owed first cs).frames) (sym contents-none);
  state = ap (λ cs. (all_owed first cs).state) (sym contents-none);
  good = ap length (sym contents-none);
  bytes = heard-none;
}
all_sent first goal w m (Ticks {w = v} {m = n} s going none) =
    let h = all_sent first goal v n s in
    record {
      frames = sent-append v (Quiet ∷ []) ∙ append-nil (sent v) ∙ h.frames;
      state = h.state;
      good = h.good;
      bytes = heard-append v (Quiet ∷ []) ∙ ap (λ l. bytes_heard v ++ l) heard-quiet ∙ append-nil (bytes_heard v) ∙ h.bytes;
    }
all_sent first goal w m (Hears {w = v} {m = n} s going none chunk some few) =
    let h = all_sent first goal v n s in
    record {
      frames = sent-append v (all_heard chunk) ∙ ap (λ l. sent v ++ l) (sent-heard chunk) ∙ append-nil (sent v) ∙ h.frames;
      state = h.state;
      good = h.good;
      bytes = heard-append v (all_heard chunk) ∙ ap (λ l. bytes_heard v ++ l) (heard-heard chunk) ∙ ap (λ l. l ++ chunk) (h.bytes ∙ ap (λ l. n.judged ++ l) none ∙ append-nil n.judged);
    }
all_sent first goal w m (Passes {w = v} {m = n} s going run rest split none room) =
    let h = all_sent first goal v n s in
    record {
      frames = h.frames ∙ ap (λ cs. (all_owed first cs).frames) (sym none);
      state = h.state ∙ ap (λ cs. (all_owed first cs).state) (sym none);
      good = h.good ∙ ap length (sym none);
      bytes = h.bytes ∙ ap (λ l. n.judged ++ l) split ∙ sym (append_assoc n.judged run rest);
    }
all_sent first goal w m (Answers {w = v} {m = n} s going byte rest content split ends) =
    let h = all_sent first goal v n s in
    let fs = (owed n.state content).frames in
    let push = all_owed-push first (contents n.judged) content in
    record {
      frames = sent-append v (map Sent fs) ∙ ap (λ l. sent v ++ l) (sent-sent fs)
          ∙ ap₂ (λ a (t : State). a ++ (owed t content).frames) h.frames h.state
          ∙ ap (λ (o : Owed). o.frames) (sym push) ∙ ap (λ cs. (all_owed first cs).frames) (sym ends);
      state = ap (λ (t : State). (owed t content).state) h.state ∙ ap (λ (o : Owed). o.state) (sym push) ∙ ap (λ cs. (all_owed first cs).state) (sym ends);
      good = omega (arith, h.good, ap length ends, length-append (contents n.judged) (content ∷ []));
      bytes = heard-append v (map Sent fs) ∙ ap (λ l. bytes_heard v ++ l) (heard-sent fs) ∙ append-nil (bytes_heard v) ∙ h.bytes ∙ ap (λ l. n.judged ++ l) split ∙ sym (append_assoc n.judged (byte ∷ []) rest);
    }

-- ---- in time

abbrev IsLoud : World → Type 0
IsLoud [] = Unit {0}
IsLoud (Quiet ∷ rest) = ⊥
IsLoud (event ∷ rest) = IsLoud rest

loud-heard : (bytes : List ℕ) → IsLoud (all_heard bytes)
loud-heard [] = tt
loud-heard (x ∷ bytes) = loud-heard bytes

loud-sent : (frames : List (List ℕ)) → IsLoud (map Sent frames)
loud-sent [] = tt
loud-sent (f ∷ frames) = loud-sent frames

loud-tail : (event : Event) (rest : World) → IsLoud (event ∷ rest) → (event ≡ Quiet → ⊥) × IsLoud rest
loud-tail Begin rest h = (λ e. cc e, h)
loud-tail (Sent frame) rest h = (λ e. cc e, h)
loud-tail (Heard byte) rest h = (λ e. cc e, h)
loud-tail Quiet rest h = absurd h
loud-tail (Defined station number definition) rest h = (λ e. cc e, h)
loud-tail (Stored station number stored) rest h = (λ e. cc e, h)
loud-tail (Oldest station number n) rest h = (λ e. cc e, h)

no-quiet : (piece before after : World) → IsLoud piece → piece ≡ before ++ Quiet ∷ after → ⊥
no-quiet [] [] after loud is = cc is
no-quiet [] (b ∷ before) after loud is = cc is
no-quiet (x ∷ piece) [] after loud is = (loud-tail x piece loud).0 (cc is)
no-quiet (x ∷ piece) (b ∷ before) after loud is = no-quiet piece before after (loud-tail x piece loud).1 (cc is)

before-loud : (w piece before after : World) → IsLoud piece → w ++ piece ≡ before ++ Quiet ∷ after → (rest : World) × (w ≡ before ++ Quiet ∷ rest)
before-loud [] piece before after loud is = absurd (no-quiet piece before after loud is)
before-loud (x ∷ w) piece [] after loud is = (w, ap (λ (e : Event). e ∷ w) (cc is))
before-loud (x ∷ w) piece (b ∷ before) after loud is =
    let more = before-loud w piece before after loud (cc is) in
    let same : x ≡ b = cc is in
    (more.0, (λ j. same j ∷ more.1 j))

before-tick : (w before after : World) → w ++ Quiet ∷ [] ≡ before ++ Quiet ∷ after → (w ≡ before) ⊎ ((rest : World) × (w ≡ before ++ Quiet ∷ rest))
before-tick [] [] after is = inl refl
before-tick [] (b ∷ []) after is = absurd (cc is)
before-tick [] (b ∷ (d ∷ before)) after is = absurd (cc is)
before-tick (x ∷ w) [] after is = inr (w, ap (λ (e : Event). e ∷ w) (cc is))
before-tick (x ∷ w) (b ∷ before) after is = one_more x b w before (cc is) (before-tick w before after (cc is))
  where
    one_more : (x b : Event) (w before : World) → x ≡ b → (w ≡ before) ⊎ ((rest : World) × (w ≡ before ++ Quiet ∷ rest)) → (x ∷ w ≡ b ∷ before) ⊎ ((rest : World) × (x ∷ w ≡ (b ∷ before) ++ Quiet ∷ rest))
    one_more x b w before same (inl is) = inl (λ j. same j ∷ is j)
    one_more x b w before same (inr more) = inr (more.0, (λ j. same j ∷ more.1 j))

abbrev AtRest : State → ℕ → World → Type 0
AtRest first goal before = (m : Moment) × Serving first goal before m × (m.waiting ≡ [])

rests : (first : State) (goal : ℕ) (w before after : World) (m : Moment) → Serving first goal w m → w ≡ before ++ Quiet ∷ after → AtRest first goal before
rests first goal w before after m Starts is = absurd (no-quiet [] before after tt is)
rests first goal w before after m (Ticks {w = v} {m = n} s going none) is = turned (λ rest split. rests first goal v before rest n s split) (before-tick v before after is)
  where
    turned : ((rest : World) → v ≡ before ++ Quiet ∷ rest → AtRest first goal before) → (v ≡ before) ⊎ ((rest : World) × (v ≡ before ++ Quiet ∷ rest)) → AtRest first goal before
    turned on (inl same) = (n, subst (λ u. Serving first goal u n) same s, none)
    turned on (inr more) = on more.0 more.1
rests first goal w before after m (Hears {w = v} {m = n} s going none chunk some few) is =
    let more = before-loud v (all_heard chunk) before after (loud-heard chunk) is in
    rests first goal v before more.0 n s more.1
rests first goal w before after m (Passes {w = v} {m = n} s going run rest split none room) is = rests first goal v before after n s is
rests first goal w before after m (Answers {w = v} {m = n} s going byte rest content split ends) is =
    let more = before-loud v (map Sent (owed n.state content).frames) before after (loud-sent (owed n.state content).frames) is in
    rests first goal v before more.0 n s more.1

pub sent_in_time : (first : State) (goal : ℕ) (w : World) (m : Moment) → Serving first goal w m → SentInTime first w
sent_in_time first goal w m s before after is =
    let x = rests first goal w before after m s is in
    let h = all_sent first goal before x.0 x.1 in
    h.frames ∙ ap (λ l. (all_owed first (contents l)).frames) (sym (h.bytes ∙ ap (λ l. (x.0).judged ++ l) x.2 ∙ append-nil (x.0).judged))

sent_before : (first : State) (goal : ℕ) (w before : World) (m : Moment) (frame : List ℕ) → Serving first goal before m → (w ≡ before ++ Sent frame ∷ []) ⊎ (w ≡ before) → SentInTime first w
sent_before first goal w before m frame s (inr same) early late is = sent_in_time first goal before m s early late (sym same ∙ is)
sent_before first goal w before m frame s (inl more) early late is =
    let split = before-loud before (Sent frame ∷ []) early late tt (sym more ∙ is) in
    sent_in_time first goal before m s early split.0 split.1

pub ends_in_time : (first : State) (goal : ℕ) (w : World) (end : End) → Ends first goal w end → SentInTime first w
ends_in_time first goal w Done h = sent_in_time first goal w h.0 h.1
ends_in_time first goal w Idle h = sent_in_time first goal w h.0 h.1
ends_in_time first goal w Flooded h = sent_in_time first goal w h.0 h.1
ends_in_time first goal w LinkFault (inl r) = sent_in_time first goal w r.0 r.1
ends_in_time first goal w LinkFault (inr f) = sent_before first goal w f.before f.moment f.frame f.serving f.events
