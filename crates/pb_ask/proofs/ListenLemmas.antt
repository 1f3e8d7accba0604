-- What a request leaves of the stream that was heard, and of the frames that were sent.
use Rattle.std.proofs.Common.{◌≡◌, ℕ, zero, suc, List, [], ◌∷◌, ◌++◌, length, All, refl, sym, ap, subst, ◌∙◌, append_assoc, length-append, arith}
use Rattle.std.proofs.lemmas.List.{append-nil}
use Rattle.std.proofs.lemmas.List.Elements.{All-append, All-cons, All-nil}
use Rattle.pb_base.specs.World.{World, Begin, Sent, Heard, Quiet, Defined, Stored, Oldest, bytes_heard, stream_events, heard_from, heard, sent}
use Rattle.pb_io.specs.Site.{GrowsBy}
use Rattle.pb_io.specs.View.{Link}
use Rattle.pb_frame.specs.Framing.{Verdict}
use Rattle.pb_frame.proofs.FollowsLemmas.{Follows-trans, Follows-nil}
use Rattle.pb_trans.specs.declared.asked.Limits.{Limits}
use Rattle.pb_ask.specs.declared.question.Ended.TheVariants as ended
use Rattle.pb_ask.specs.declared.question.Conclusion.{Conclusion}
use Rattle.pb_ask.specs.declared.question.Conclusion.TheVariants.{Answer, Undelivered, NoAnswer, Flooded}
use Rattle.pb_ask.specs.Asking.{Sending, Resent, ConclusionOf, Hears, Asks, JudgedAs, Breaks, Unsent, SentOnly, Hearing, Stops}
use Rattle.pb_ask.specs.Events.{HearsOnly}
use Rattle.pb_ask.specs.Judging.{NoneShows, Holds}
use Rattle.pb_ask.specs.Listening.{Listening, IsListening}
use Rattle.pb_ask.specs.Wanted.{Wanted, EndsBy}
use Rattle.pb_ask.proofs.EventLemmas.{bytes_heard-append, bytes_heard-nil, bytes_heard-sent, HearsOnly-heard, HearsOnly-sent, sent-append}
use Rattle.pb_ask.proofs.JudgeLemmas.{NoneShows-append, EndsWith-after, Holds-after}

-- ---- what was heard since the stream began

heard-append : (had : List ℕ) (a b : World) → heard_from had (a ++ b) ≡ heard_from (heard_from had a) b
heard-append had [] b = refl
heard-append had (Begin ∷ a) b = heard-append [] a b
heard-append had (Sent f ∷ a) b = heard-append had a b
heard-append had (Heard x ∷ a) b = heard-append (had ++ x ∷ []) a b
heard-append had (Quiet ∷ a) b = heard-append had a b
heard-append had (Defined s n d ∷ a) b = heard-append had a b
heard-append had (Stored s n r ∷ a) b = heard-append had a b
heard-append had (Oldest s n k ∷ a) b = heard-append had a b

heard-stream : (had : List ℕ) (a : World) → heard_from had (stream_events a) ≡ heard_from had a
heard-stream had [] = refl
heard-stream had (Begin ∷ a) = heard-stream [] a
heard-stream had (Sent f ∷ a) = heard-stream had a
heard-stream had (Heard x ∷ a) = heard-stream (had ++ x ∷ []) a
heard-stream had (Quiet ∷ a) = heard-stream had a
heard-stream had (Defined s n d ∷ a) = heard-stream had a
heard-stream had (Stored s n r ∷ a) = heard-stream had a
heard-stream had (Oldest s n k ∷ a) = heard-stream had a

-- events in which no stream begins
abbrev GoesOn : World → Type 0
GoesOn events = (had : List ℕ) → heard_from had events ≡ had ++ bytes_heard events

goes_on-append : (a b : World) → GoesOn a → GoesOn b → GoesOn (a ++ b)
goes_on-append a b p q = λ had.
    heard-append had a b ∙ q (heard_from had a) ∙ ap (λ l. l ++ bytes_heard b) (p had) ∙ append_assoc had (bytes_heard a) (bytes_heard b) ∙ ap (λ l. had ++ l) (sym (bytes_heard-append a b))

goes_on-nil : GoesOn []
goes_on-nil = λ had. sym (ap (λ l. had ++ l) bytes_heard-nil ∙ append-nil had)

goes_on-sending : (frame : List ℕ) (last : World) → HearsOnly last → GoesOn (Sent frame ∷ last)
goes_on-sending frame last only = λ had. HearsOnly-heard had last only ∙ ap (λ l. had ++ l) (sym (bytes_heard-sent frame last))

goes_on-resent : {A : Type 0} (wanted : Wanted A) (limits : Limits) (n : ℕ) (old : Listening) (events : World) (new : Listening) → Resent wanted limits n old events new → GoesOn events
goes_on-resent wanted limits zero old events new (is, same) = λ had. ap (heard_from had) is ∙ goes_on-nil had ∙ ap (λ l. had ++ bytes_heard l) (sym is)
goes_on-resent wanted limits (suc n) old events new (mid, before, resent, (s, vain, is)) = λ had.
    ap (heard_from had) is ∙ goes_on-append before (Sent wanted.frame ∷ s.heard) (goes_on-resent wanted limits n old before mid resent) (goes_on-sending wanted.frame s.heard s.hearing) had ∙ ap (λ l. had ++ bytes_heard l) (sym is)

goes_on-breaks : {A : Type 0} (wanted : Wanted A) (limits : Limits) (mid : Listening) (rest : World) (new : Listening) → Breaks wanted limits mid rest new → GoesOn rest
goes_on-breaks wanted limits mid rest new Unsent = goes_on-nil
goes_on-breaks wanted limits mid rest new SentOnly = goes_on-sending wanted.frame [] tt
goes_on-breaks wanted limits mid rest new (Hearing last due s vain some) = goes_on-sending wanted.frame s.heard s.hearing

listening_on : (a b : Link) (events : World) (judged waits pushed left : List ℕ) → GrowsBy a.world b.world events → GoesOn events → waits ++ bytes_heard events ≡ pushed ++ left → IsListening a judged waits → IsListening b (judged ++ pushed) left
listening_on a b events judged waits pushed left grows goes split listening = λ v is.
    let x = grows.back v is in
    let was = listening x.0 x.2 in (
      was.0,
      ap heard x.3 ∙ heard-append [] x.0 x.1 ∙ sym (heard-stream (heard x.0) x.1) ∙ ap (heard_from (heard x.0)) x.4 ∙ goes (heard x.0) ∙ ap (λ l. l ++ bytes_heard events) was.1
          ∙ append_assoc (was.0 ++ judged) waits (bytes_heard events) ∙ ap (λ l. (was.0 ++ judged) ++ l) split ∙ sym (append_assoc (was.0 ++ judged) pushed left) ∙ ap (λ l. l ++ left) (append_assoc was.0 judged pushed),
    )

module _ {A : Type 0} (wanted : Wanted A) (limits : Limits) (old new : Listening) (a b : Link) where
  pub asks_listening : (conclusion : Conclusion A) (h : Asks wanted limits old a conclusion new b) (all : Hears old (h.before ++ (Sent wanted.frame ∷ h.last.heard)) new) (judged : List ℕ) → IsListening a judged old.inbox → IsListening b (judged ++ all.pushed) new.inbox
  asks_listening conclusion h all judged =
      listening_on a b (h.before ++ (Sent wanted.frame ∷ h.last.heard)) judged old.inbox all.pushed new.inbox h.grows
      (goes_on-append h.before (Sent wanted.frame ∷ h.last.heard) (goes_on-resent wanted limits h.resends old h.before h.mid h.resent) (goes_on-sending wanted.frame h.last.heard h.last.hearing)) all.split

  pub stops_listening : (h : Stops wanted limits old a new b) (all : Hears old (h.before ++ h.rest) new) (judged : List ℕ) → IsListening a judged old.inbox → IsListening b (judged ++ all.pushed) new.inbox
  stops_listening h all judged =
      listening_on a b (h.before ++ h.rest) judged old.inbox all.pushed new.inbox h.grows
      (goes_on-append h.before h.rest (goes_on-resent wanted limits h.resends old h.before h.mid h.resent) (goes_on-breaks wanted limits h.mid h.rest new h.breaks)) all.split

-- ---- all that was judged in one call

Hears-nil : (old : Listening) → Hears old [] old
Hears-nil old = record { pushed = []; shown = []; follows = Follows-nil old.ear; split = ap (λ l. old.inbox ++ l) bytes_heard-nil ∙ append-nil old.inbox }

pub Hears-trans : (old mid new : Listening) (a b : World) → Hears old a mid → Hears mid b new → Hears old (a ++ b) new
Hears-trans old mid new a b f g = record {
  pushed = f.pushed ++ g.pushed;
  shown = f.shown ++ g.shown;
  follows = Follows-trans old.ear mid.ear new.ear f.pushed g.pushed f.shown g.shown f.follows g.follows;
  split = ap (λ l. old.inbox ++ l) (bytes_heard-append a b) ∙ sym (append_assoc old.inbox (bytes_heard a) (bytes_heard b)) ∙ ap (λ l. l ++ bytes_heard b) f.split ∙ append_assoc f.pushed mid.inbox (bytes_heard b)
      ∙ ap (λ l. f.pushed ++ l) g.split ∙ sym (append_assoc f.pushed g.pushed new.inbox);
}

module _ {A : Type 0} (wanted : Wanted A) (limits : Limits) where
  abbrev Hears-sending : (mid new : Listening) (due : ℕ) (s : Sending wanted limits mid due new) → Hears mid (Sent wanted.frame ∷ s.heard) new
  Hears-sending mid new due s = record { pushed = s.pushed; shown = s.shown; follows = s.follows; split = ap (λ l. mid.inbox ++ l) (bytes_heard-sent wanted.frame s.heard) ∙ s.split }

  HearsVain : Listening → World → Listening → Type 0
  HearsVain old events new = (all : Hears old events new) × NoneShows (EndsBy wanted) all.shown

  after_vain : (old mid new : Listening) (a b : World) → HearsVain old a mid → (g : Hears mid b new) → NoneShows (EndsBy wanted) g.shown → HearsVain old (a ++ b) new
  unfolding HearsVain Hears-trans
  after_vain old mid new a b (f, none) g also = (Hears-trans old mid new a b f g, NoneShows-append (EndsBy wanted) f.shown g.shown none also)

  hears_resent : (n : ℕ) (old : Listening) (events : World) (new : Listening) → Resent wanted limits n old events new → HearsVain old events new
  unfolding HearsVain Hears-nil
  hears_resent zero old events new (is, same) =
      subst (λ (l : Listening). HearsVain old events l) (sym same) (subst (λ (w : World). HearsVain old w old) (sym is) (Hears-nil old, tt))
  hears_resent (suc n) old events new (mid, before, resent, (s, vain, is)) =
      subst (λ (w : World). HearsVain old w new) (sym is) (after_vain old mid new before (Sent wanted.frame ∷ s.heard) (hears_resent n old before mid resent) (Hears-sending mid new 0 s) vain.none)

  module _ (old new : Listening) (a b : Link) where
    pub judged_as : (conclusion : Conclusion A) (resends : ℕ) (mid : Listening) (due : ℕ) (s : Sending wanted limits mid due new) (before : List Verdict) → NoneShows (EndsBy wanted) before
        → ConclusionOf wanted limits resends mid new due s conclusion → JudgedAs wanted conclusion (before ++ s.shown)
    judged_as (Answer answer) resends mid due s before none o = EndsWith-after (EndsBy wanted) (ended.Answer answer) before s.shown none o.0
    judged_as (Undelivered code) resends mid due s before none o = EndsWith-after (EndsBy wanted) (ended.Undelivered code) before s.shown none o.0
    judged_as NoAnswer resends mid due s before none o = NoneShows-append (EndsBy wanted) before s.shown none o.0.none
    judged_as Flooded resends mid due s before none o = NoneShows-append (EndsBy wanted) before s.shown none o.0

    pub asks_judged : (conclusion : Conclusion A) (h : Asks wanted limits old a conclusion new b) → (all : Hears old (h.before ++ (Sent wanted.frame ∷ h.last.heard)) new) × JudgedAs wanted conclusion all.shown
    unfolding HearsVain Hears-trans
    asks_judged conclusion h =
        let first = hears_resent h.resends old h.before h.mid h.resent in
        (Hears-trans old h.mid new h.before (Sent wanted.frame ∷ h.last.heard) first.0 (Hears-sending h.mid new h.due h.last), judged_as conclusion h.resends h.mid h.due h.last first.0.shown first.1 h.ended)

    -- the content that the unframer holds is among them
    pub asks_held : (answer : A) (h : Asks wanted limits old a (Answer answer) new b) → (all : Hears old (h.before ++ (Sent wanted.frame ∷ h.last.heard)) new) × Holds (EndsBy wanted) (ended.Answer answer) all.shown new.ear
    unfolding HearsVain Hears-trans
    asks_held answer h =
        let first = hears_resent h.resends old h.before h.mid h.resent in
        (Hears-trans old h.mid new h.before (Sent wanted.frame ∷ h.last.heard) first.0 (Hears-sending h.mid new h.due h.last), Holds-after (EndsBy wanted) (ended.Answer answer) first.0.shown h.last.shown new.ear h.ended.1)

    pub stops_judged : (h : Stops wanted limits old a new b) → (all : Hears old (h.before ++ h.rest) new) × NoneShows (EndsBy wanted) all.shown
    unfolding HearsVain Hears-nil
    stops_judged h = go h.rest new h.breaks
      where
        first : HearsVain old h.before h.mid
        first = hears_resent h.resends old h.before h.mid h.resent

        go : (rest : World) (end : Listening) → Breaks wanted limits h.mid rest end → HearsVain old (h.before ++ rest) end
        go rest end Unsent = after_vain old h.mid h.mid h.before [] first (Hears-nil h.mid) tt
        go rest end SentOnly = after_vain old h.mid h.mid h.before (Sent wanted.frame ∷ []) first (record { pushed = []; shown = []; follows = Follows-nil h.mid.ear; split = ap (λ l. h.mid.inbox ++ l) (bytes_heard-sent wanted.frame [] ∙ bytes_heard-nil) ∙ append-nil h.mid.inbox }) tt
        go rest end (Hearing last due s vain some) = after_vain old h.mid last h.before (Sent wanted.frame ∷ s.heard) first (Hears-sending h.mid last due s) vain.none

-- ---- the frames that were sent

pub sent_again : {A : Type 0} (wanted : Wanted A) (limits : Limits) (n : ℕ) (old : Listening) (events : World) (new : Listening) → Resent wanted limits n old events new
    → (length (sent events) ≡ n) × All (λ (f : List ℕ). f ≡ wanted.frame) (sent events)
sent_again wanted limits zero old events new (is, same) = (ap (λ l. length (sent l)) is, subst (λ (l : World). All (λ (f : List ℕ). f ≡ wanted.frame) (sent l)) (sym is) (All-nil (λ (f : List ℕ). f ≡ wanted.frame)))
sent_again wanted limits (suc n) old events new (mid, before, resent, (s, vain, is)) =
    let frame = wanted.frame in
    let earlier = sent_again wanted limits n old before mid resent in
    let sents : sent events ≡ sent before ++ frame ∷ [] = ap sent is ∙ sent-append before (Sent frame ∷ s.heard) ∙ ap (λ l. sent before ++ frame ∷ l) (HearsOnly-sent s.heard s.hearing) in (
      ap length sents ∙ length-append (sent before) (frame ∷ []) ∙ omega (arith, earlier.0),
      subst (λ (l : List (List ℕ)). All (λ (f : List ℕ). f ≡ frame) l) (sym sents)
          (All-append (λ (f : List ℕ). f ≡ frame) (sent before) (frame ∷ []) earlier.1 (All-cons (λ (f : List ℕ). f ≡ frame) frame [] refl (All-nil (λ (f : List ℕ). f ≡ frame)))),
    )
