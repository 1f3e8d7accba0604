-- A request of a listener is one of the stream that it stands for.
use Rattle.std.proofs.Common.{◌≡◌, ℕ, zero, suc, List, [], ◌∷◌, ◌++◌, refl, sym, ap, subst, ◌∙◌, append_assoc}
use Rattle.std.proofs.lemmas.List.{append-nil}
use Rattle.pb_base.specs.World.{World, Sent, bytes_heard}
use Rattle.pb_io.specs.View.{Link}
use Rattle.pb_frame.specs.Framing.{Verdict, verdicts}
use Rattle.pb_frame.specs.Hearing.{Follows, StandsFor}
use Rattle.pb_trans.specs.declared.asked.Asked.{Asked}
use Rattle.pb_trans.specs.declared.asked.Limits.{Limits}
use Rattle.pb_ask.specs.declared.question.Conclusion.{Conclusion}
use Rattle.pb_ask.specs.declared.question.Conclusion.TheVariants.{Answer, Undelivered, NoAnswer, Flooded}
use Rattle.pb_ask.specs.Asking.{Sending, IsVain, Resent, ConclusionOf, Asks, Breaks, Unsent as UnsentBy, SentOnly as SentOnlyBy, Hearing as HearingBy, Stops}
use Rattle.pb_ask.specs.Judging.{NoneShows, ShownBy}
use Rattle.pb_ask.specs.Listening.{Listening}
use Rattle.pb_ask.specs.Stream.{Stream, ShownAfter, GoesOn, SentOnce, SentInVain, SentAgain, EndsAsked, AsksOn, BreaksOn, Unsent, SentOnly, Hearing, StopsOn}
use Rattle.pb_ask.specs.Ticking.{IsSet, BySending, AtHand, ByChunk, IsDue}
use Rattle.pb_ask.specs.Wanted.{Wanted, EndsBy}
use Rattle.pb_ask.proofs.EventLemmas.{bytes_heard-append, bytes_heard-nil, bytes_heard-sent}
use Rattle.pb_ask.proofs.JudgeLemmas.{NoneShows-append}
use Rattle.pb_ask.proofs.ListenLemmas.{judged_as}

-- ---- the ticks that are due

set_as : (P Q : List ℕ → List Verdict → Type 0) → ((bytes : List ℕ) (vs : List Verdict) → P bytes vs → Q bytes vs) → (hand : List ℕ) (asked : Asked) (limits : Limits) (before : World) (first : List Verdict) (ticks : ℕ)
    → IsSet P hand asked limits before first ticks → IsSet Q hand asked limits before first ticks
set_as P Q turn hand asked limits before first ticks BySending = BySending
set_as P Q turn hand asked limits before first ticks (AtHand taken rest shown seconds is by last) = AtHand taken rest shown seconds is (turn taken shown by) last
set_as P Q turn hand asked limits before first ticks (ByChunk earlier taken rest shown more seconds by with_more last) =
    ByChunk earlier taken rest shown more seconds (turn (hand ++ bytes_heard earlier) shown by) (turn ((hand ++ bytes_heard earlier) ++ taken) (shown ++ more) with_more) last

due_as : (P Q : List ℕ → List Verdict → Type 0) → ((bytes : List ℕ) (vs : List Verdict) → P bytes vs → Q bytes vs) → (hand : List ℕ) (asked : Asked) (limits : Limits) (heard : World) (shown : List Verdict) (due : ℕ)
    → IsDue P hand asked limits heard shown due → IsDue Q hand asked limits heard shown due
due_as P Q turn hand asked limits heard shown due d = record {
  before = d.before;
  since = d.since;
  first = d.first;
  later = d.later;
  ticks = d.ticks;
  heard_is = d.heard_is;
  shown_are = d.shown_are;
  set = set_as P Q turn hand asked limits d.before d.first d.ticks d.set;
  none_later = d.none_later;
  due_is = d.due_is;
}

-- ---- one sending

abbrev stream_of : List ℕ → Listening → Stream
stream_of judged l = record { judged = judged; waiting = l.inbox }

-- bytes that were pushed, of these events
goes_on : (old new : Listening) (events : World) (judged pushed : List ℕ) (shown : List Verdict) → StandsFor old.ear judged → Follows old.ear pushed shown new.ear → old.inbox ++ bytes_heard events ≡ pushed ++ new.inbox
    → GoesOn (stream_of judged old) events shown (stream_of (judged ++ pushed) new)
goes_on old new events judged pushed shown stands follows split = record {
  bytes = append_assoc judged old.inbox (bytes_heard events) ∙ ap (λ l. judged ++ l) split ∙ sym (append_assoc judged pushed new.inbox);
  verdicts_are = follows.shows judged stands;
}

GoesOn-nil : (old : Stream) → GoesOn old [] [] old
GoesOn-nil old = record { bytes = ap (λ l. (old.judged ++ old.waiting) ++ l) bytes_heard-nil ∙ append-nil (old.judged ++ old.waiting); verdicts_are = sym (append-nil (verdicts old.judged)) }

pub GoesOn-trans : (old mid new : Stream) (a b : World) (vs ws : List Verdict) → GoesOn old a vs mid → GoesOn mid b ws new → GoesOn old (a ++ b) (vs ++ ws) new
GoesOn-trans old mid new a b vs ws f g = record {
  bytes = ap (λ l. (old.judged ++ old.waiting) ++ l) (bytes_heard-append a b) ∙ sym (append_assoc (old.judged ++ old.waiting) (bytes_heard a) (bytes_heard b)) ∙ ap (λ l. l ++ bytes_heard b) f.bytes ∙ g.bytes;
  verdicts_are = g.verdicts_are ∙ ap (λ l. l ++ ws) f.verdicts_are ∙ append_assoc (verdicts old.judged) vs ws;
}

GoesOn-sent : (old new : Stream) (frame : List ℕ) (heard : World) (vs : List Verdict) → GoesOn old heard vs new → GoesOn old (Sent frame ∷ heard) vs new
GoesOn-sent old new frame heard vs f = record { bytes = ap (λ l. (old.judged ++ old.waiting) ++ l) (bytes_heard-sent frame heard) ∙ f.bytes; verdicts_are = f.verdicts_are }

module _ {A : Type 0} (wanted : Wanted A) (limits : Limits) where
  sent_once : (old new : Listening) (due : ℕ) (judged : List ℕ) → StandsFor old.ear judged → (s : Sending wanted limits old due new) → SentOnce wanted limits (stream_of judged old) s.heard s.shown due (stream_of (judged ++ s.pushed) new)
  sent_once old new due judged stands s = record {
    hearing = s.hearing;
    brief = s.brief;
    goes_on = goes_on old new s.heard judged s.pushed s.shown stands s.follows s.split;
    is_due = due_as (ShownBy old.ear) (ShownAfter judged) (λ bytes vs by. by.1.shows judged stands) old.inbox wanted.asked limits s.heard s.shown due s.is_due;
  }

  in_vain : (old new : Listening) (due : ℕ) (judged : List ℕ) → StandsFor old.ear judged → (s : Sending wanted limits old due new) → IsVain wanted limits old new due s → SentInVain wanted limits (stream_of judged old) s.heard due (stream_of (judged ++ s.pushed) new)
  in_vain old new due judged stands s vain = record { shown = s.shown; sending = sent_once old new due judged stands s; none = vain.none; all = vain.all; no_flood = vain.no_flood }

  -- ---- the sendings before the last

  -- a listener stands for a stream, on which the request was sent so often in vain
  record Again (n : ℕ) (old : Stream) (events : World) (new : Listening) : Type 0 where
    pub judged : List ℕ
    pub stands : StandsFor new.ear judged
    pub is : SentAgain wanted limits n old events (stream_of judged new)
    pub shown : List Verdict
    pub all : GoesOn old events shown (stream_of judged new)
    pub none : NoneShows (EndsBy wanted) shown

  again : (n : ℕ) (old : Listening) (events : World) (new : Listening) (judged : List ℕ) → StandsFor old.ear judged → Resent wanted limits n old events new → Again n (stream_of judged old) events new
  again zero old events new judged stands (nothing, same) =
      subst (λ (l : Listening). Again 0 (stream_of judged old) events l) (sym same) (record {
        judged = judged;
        stands = stands;
        is = (nothing, refl);
        shown = [];
        all = subst (λ (w : World). GoesOn (stream_of judged old) w [] (stream_of judged old)) (sym nothing) (GoesOn-nil (stream_of judged old));
        none = tt;
      })
  again (suc n) old events new judged stands (mid, before, resent, (s, vain, is)) =
      let first = again n old before mid judged stands resent in
      let end = stream_of (first.judged ++ s.pushed) new in
      let one = sent_once mid new 0 first.judged first.stands s in
      record {
        judged = first.judged ++ s.pushed;
        stands = s.follows.stands first.judged first.stands;
        is = (stream_of first.judged mid, before, first.is, (s.heard, in_vain mid new 0 first.judged first.stands s vain, is));
        shown = first.shown ++ s.shown;
        all = subst (λ (w : World). GoesOn (stream_of judged old) w (first.shown ++ s.shown) end) (sym is)
            (GoesOn-trans (stream_of judged old) (stream_of first.judged mid) end before (Sent wanted.frame ∷ s.heard) first.shown s.shown first.all (GoesOn-sent (stream_of first.judged mid) end wanted.frame s.heard s.shown one.goes_on));
        none = NoneShows-append (EndsBy wanted) first.shown s.shown first.none vain.none;
      }

  -- ---- the whole request

  ends_asked : (mid new : Listening) (due resends : ℕ) (s : Sending wanted limits mid due new) (judged : List ℕ) (conclusion : Conclusion A) → ConclusionOf wanted limits resends mid new due s conclusion → EndsAsked limits resends s.heard due (stream_of judged new) conclusion
  ends_asked mid new due resends s judged (Answer answer) o = (o.2, o.3)
  ends_asked mid new due resends s judged (Undelivered code) o = (o.1, o.2)
  ends_asked mid new due resends s judged NoAnswer o = (o.0.all, o.1, o.2, o.0.no_flood)
  ends_asked mid new due resends s judged Flooded o = (o.1, o.3, o.2)

  -- a listener that stands for a stream after a request that it asked
  pub record AskedOn (old : Stream) (events : World) (conclusion : Conclusion A) (new : Listening) : Type 0 where
    pub judged : List ℕ
    pub stands : StandsFor new.ear judged
    pub is : AsksOn wanted limits old events conclusion (record { judged = judged; waiting = new.inbox })

  pub asked_on : (old new : Listening) (a b : Link) (conclusion : Conclusion A) (judged : List ℕ) → StandsFor old.ear judged → (h : Asks wanted limits old a conclusion new b)
      → AskedOn (record { judged = judged; waiting = old.inbox }) (h.before ++ (Sent wanted.frame ∷ h.last.heard)) conclusion new
  asked_on old new a b conclusion judged stands h =
      let first = again h.resends old h.before h.mid judged stands h.resent in
      let s = h.last in
      let end = stream_of (first.judged ++ s.pushed) new in
      let one = sent_once h.mid new h.due first.judged first.stands s in
      record {
        judged = first.judged ++ s.pushed;
        stands = s.follows.stands first.judged first.stands;
        is = record {
          resends = h.resends;
          few = h.few;
          before = h.before;
          mid = stream_of first.judged h.mid;
          again = first.is;
          heard = s.heard;
          last_shown = s.shown;
          due = h.due;
          last = one;
          ends = ends_asked h.mid new h.due h.resends s (first.judged ++ s.pushed) conclusion h.ended;
          events_are = refl;
          shown = first.shown ++ s.shown;
          goes_on = GoesOn-trans (stream_of judged old) (stream_of first.judged h.mid) end h.before (Sent wanted.frame ∷ s.heard) first.shown s.shown first.all (GoesOn-sent (stream_of first.judged h.mid) end wanted.frame s.heard s.shown one.goes_on);
          judged = judged_as wanted limits old new a b conclusion h.resends h.mid h.due s first.shown first.none h.ended;
        };
      }

  pub record StoppedOn (old : Stream) (events : World) (new : Listening) : Type 0 where
    pub judged : List ℕ
    pub stands : StandsFor new.ear judged
    pub is : StopsOn wanted limits old events (record { judged = judged; waiting = new.inbox })

  pub stopped_on : (old new : Listening) (a b : Link) (judged : List ℕ) → StandsFor old.ear judged → (h : Stops wanted limits old a new b)
      → StoppedOn (record { judged = judged; waiting = old.inbox }) (h.before ++ h.rest) new
  stopped_on old new a b judged stands h = go h.rest new h.breaks
    where
      first : Again h.resends (stream_of judged old) h.before h.mid
      first = again h.resends old h.before h.mid judged stands h.resent

      stops : (rest : World) (end : Stream) → BreaksOn wanted limits (stream_of first.judged h.mid) rest end → StopsOn wanted limits (stream_of judged old) (h.before ++ rest) end
      stops rest end breaks = record { resends = h.resends; few = h.few; before = h.before; mid = stream_of first.judged h.mid; again = first.is; rest = rest; breaks = breaks; events_are = refl }

      go : (rest : World) (end : Listening) → Breaks wanted limits h.mid rest end → StoppedOn (stream_of judged old) (h.before ++ rest) end
      go rest end UnsentBy = record { judged = first.judged; stands = first.stands; is = stops [] (stream_of first.judged h.mid) Unsent }
      go rest end SentOnlyBy = record { judged = first.judged; stands = first.stands; is = stops (Sent wanted.frame ∷ []) (stream_of first.judged h.mid) SentOnly }
      go rest end (HearingBy last due s vain some) = record {
        judged = first.judged ++ s.pushed;
        stands = s.follows.stands first.judged first.stands;
        is = stops (Sent wanted.frame ∷ s.heard) (stream_of (first.judged ++ s.pushed) last) (Hearing s.heard due (stream_of (first.judged ++ s.pushed) last) (in_vain h.mid last due first.judged first.stands s vain) some);
      }
