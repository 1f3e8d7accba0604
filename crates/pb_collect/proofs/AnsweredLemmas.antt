-- One request in an undisturbed world: the one frame that is heard after it answers it.
use Rattle.std.proofs.Common.{◌≡◌, inr, ℕ, zero, suc, ◌+◌, ◌≤◌, List, [], ◌∷◌, ◌++◌, length, drop, Some, refl, sym, ◌∙◌, ap, subst, append_assoc, length-append, arith}
use Rattle.std.specs.List.{AllByRecursion, Contains}
use Rattle.std.proofs.lemmas.Option.{same_Some}
use Rattle.pb_base.specs.World.{World, Begin, Sent, Heard, Quiet, Defined, Stored, Oldest, bytes_heard, quiet_ticks, stream_events}
use Rattle.pb_frame.specs.Framing.{frame, frame_max, quoted, Whole, Finding, Verdict, verdicts, IsContentSize}
use Rattle.pb_frame.specs.Hearing.{HasNoFlag, HoldsContent, IsBehindFlag, StandsFor, StandsIn}
use Rattle.pb_frame.specs.declared.state.State.{State}
use Rattle.pb_io.specs.View.{Link}
use Rattle.pb_packet.specs.declared.headers.Header.{Header}
use Rattle.pb_packet.specs.Packet.{full, packet_bytes}
use Rattle.pb_trans.specs.declared.asked.Asked.{Asked}
use Rattle.pb_trans.specs.declared.asked.Limits.{Limits}
use Rattle.pb_ask.specs.Asking.{Asks, ConclusionOf, Resent, Sending}
use Rattle.pb_ask.specs.Events.{HearsOnly}
use Rattle.pb_ask.specs.Judging.{FindingShows, Holds}
use Rattle.pb_ask.specs.Listening.{Listening}
use Rattle.pb_ask.specs.Ticking.{IsDue, IsSet, BySending, AtHand, ByChunk}
use Rattle.pb_ask.specs.Wanted.{EndsAs, EndsBy}
use Rattle.pb_ask.specs.declared.question.Ended.{Ended}
use Rattle.pb_ask.specs.declared.question.Ended.TheVariants as ended
use Rattle.pb_ask.specs.declared.question.Conclusion.{Conclusion}
use Rattle.pb_ask.specs.declared.question.Conclusion.TheVariants.{Answer, Undelivered, NoAnswer, Flooded}
use Rattle.pb_ask.proofs.EventLemmas.{quiet_ticks-append, quiet_ticks-sent}
use Rattle.pb_ask.proofs.JudgeLemmas.{of_packet}
use Rattle.pb_bmp5.specs.TrueReply.{Delivered}
use Rattle.pb_truth.specs.Asked.{IsIn}
use Rattle.pb_truth.specs.Undisturbed.{IsExchange, Undisturbed}
use Rattle.pb_truth.proofs.UndisturbedLemmas.{Followed, Grown, IsSteady, IsUnsent, bytes_heard-append, each_sent, same_end, steady_back, steady_front, undisturbed_grown, unsent_back, unsent_front, unsent_same}
use Rattle.pb_truth.proofs.StreamLemmas.{only_one}
use Rattle.pb_truth.proofs.WholeLemmas.{IsClosed, OneShown, all_judged, one_shown}
use Rattle.pb_collect.specs.Question.{AsksOnce, command_frame, command_request, wanted_reply}
use Rattle.pb_collect.specs.declared.answer.Said.{Said}
use Rattle.pb_collect.specs.declared.question.CollectCommand.{CollectCommand}

-- ---- events

tails : {A : Type 0} {x y : A} {xs ys : List A} → x ∷ xs ≡ y ∷ ys → xs ≡ ys
tails is = cc is

sent_heads : {f g : List ℕ} {xs ys : World} → Sent f ∷ xs ≡ Sent g ∷ ys → f ≡ g
sent_heads is = cc is

none_front : (a b : List ℕ) → a ++ b ≡ [] → a ≡ []
none_front [] b is = refl
none_front (x ∷ a) b is = absurd (cc is)

-- a world whose stream is a sending and what was heard after it
pub record SentIn (more : World) (f : List ℕ) (heard : World) : Type 0 where
  pub pre : World
  pub post : World
  pub is : more ≡ pre ++ Sent f ∷ post
  pub unsent : AllByRecursion IsUnsent pre
  pub heard_is : stream_events post ≡ heard

pub sent_in : (more : World) (f : List ℕ) (heard : World) → stream_events more ≡ Sent f ∷ heard → SentIn more f heard
sent_in [] f heard is = absurd (cc is)
sent_in (Begin ∷ more) f heard is = absurd (cc is)
sent_in (Heard byte ∷ more) f heard is = absurd (cc is)
sent_in (Quiet ∷ more) f heard is = absurd (cc is)
sent_in (Sent g ∷ more) f heard is =
    let same : g ≡ f = cc is in
    record { pre = []; post = more; is = ap (λ l. Sent l ∷ more) same; unsent = tt; heard_is = tails is }
sent_in (Defined s n d ∷ more) f heard is =
    let so = sent_in more f heard is in
    record { pre = Defined s n d ∷ so.pre; post = so.post; is = ap (λ (l : World). Defined s n d ∷ l) so.is; unsent = (tt, so.unsent); heard_is = so.heard_is }
sent_in (Stored s n r ∷ more) f heard is =
    let so = sent_in more f heard is in
    record { pre = Stored s n r ∷ so.pre; post = so.post; is = ap (λ (l : World). Stored s n r ∷ l) so.is; unsent = (tt, so.unsent); heard_is = so.heard_is }
sent_in (Oldest s n k ∷ more) f heard is =
    let so = sent_in more f heard is in
    record { pre = Oldest s n k ∷ so.pre; post = so.post; is = ap (λ (l : World). Oldest s n k ∷ l) so.is; unsent = (tt, so.unsent); heard_is = so.heard_is }

unsent_heard : (w : World) → HearsOnly (stream_events w) → AllByRecursion IsUnsent w
unsent_heard [] only = tt
unsent_heard (Begin ∷ w) only = absurd only
unsent_heard (Sent g ∷ w) only = absurd only
unsent_heard (Heard byte ∷ w) only = (tt, unsent_heard w only)
unsent_heard (Quiet ∷ w) only = (tt, unsent_heard w only)
unsent_heard (Defined s n d ∷ w) only = (tt, unsent_heard w only)
unsent_heard (Stored s n r ∷ w) only = (tt, unsent_heard w only)
unsent_heard (Oldest s n k ∷ w) only = (tt, unsent_heard w only)

bytes_stream : (w : World) → bytes_heard (stream_events w) ≡ bytes_heard w
unfolding bytes_heard
bytes_stream [] = refl
bytes_stream (Begin ∷ w) = bytes_stream w
bytes_stream (Sent g ∷ w) = bytes_stream w
bytes_stream (Heard byte ∷ w) = ap (λ l. byte ∷ l) (bytes_stream w)
bytes_stream (Quiet ∷ w) = bytes_stream w
bytes_stream (Defined s n d ∷ w) = bytes_stream w
bytes_stream (Stored s n r ∷ w) = bytes_stream w
bytes_stream (Oldest s n k ∷ w) = bytes_stream w

steady_ticks : (w : World) → AllByRecursion IsSteady w → quiet_ticks (stream_events w) ≡ 0
unfolding quiet_ticks
steady_ticks [] all = refl
steady_ticks (Begin ∷ w) all = absurd all.0
steady_ticks (Quiet ∷ w) all = absurd all.0
steady_ticks (Sent g ∷ w) all = steady_ticks w all.1
steady_ticks (Heard byte ∷ w) all = steady_ticks w all.1
steady_ticks (Defined s n d ∷ w) all = steady_ticks w all.1
steady_ticks (Stored s n r ∷ w) all = steady_ticks w all.1
steady_ticks (Oldest s n k ∷ w) all = steady_ticks w all.1

-- ---- ticks

set_some : (P : List ℕ → List Verdict → Type 0) (hand : List ℕ) (asked : Asked) (limits : Limits) (w : World) (vs : List Verdict) (ticks : ℕ) → IsSet P hand asked limits w vs ticks → limits.quiets ≤ ticks
set_some P hand asked limits w' vs' ticks' BySending = omega arith
set_some P hand asked limits w' vs' ticks' (AtHand taken rest shown seconds _ _ _) = omega arith
set_some P hand asked limits w' vs' ticks' (ByChunk earlier taken rest shown more seconds _ _ _) = omega arith

-- after the ticks of a sending were heard there was a quiet one
due_some : (P : List ℕ → List Verdict → Type 0) (hand : List ℕ) (asked : Asked) (limits : Limits) (heard : World) (shown : List Verdict) (due : ℕ) → 1 ≤ limits.quiets
    → IsDue P hand asked limits heard shown due → 1 ≤ due + quiet_ticks heard
due_some P hand asked limits heard shown due some d =
    omega (arith, some, set_some P hand asked limits d.before d.first d.ticks d.set, d.due_is, ap quiet_ticks d.heard_is, quiet_ticks-append d.before d.since)

-- ---- the laws of framing that are needed

pub record FramingLaws : Type 0 where
  pub unflagged : (body : List ℕ) → HasNoFlag (quoted body)
  pub fits : (content : List ℕ) → IsContentSize (length content) → length (frame content) ≤ frame_max

message_is : (header : Header) (message content : List ℕ) → content ≡ packet_bytes (full header message) → drop 8 content ≡ message
message_is header message content is = ap (λ l. drop 8 l) is

-- ---- between two requests

-- The world is one on the way from the first to the last; all that was heard was judged, and nothing is open.
pub record Settled (first last : World) (l : Listening) (w : World) : Type 0 where
  pub from : World
  pub is_from : w ≡ first ++ from
  pub rest : World
  pub is_to : last ≡ w ++ rest
  pub none : l.inbox ≡ []
  pub judged : List ℕ
  pub stands : StandsFor l.ear judged
  pub closed : IsClosed judged

-- A request was answered by the one frame that was heard after it.
pub record Answered (first last : World) (c : CollectCommand) (l_new : Listening) (w v : World) (conclusion : Conclusion Said) : Type 0 where
  pub said : Said
  pub is : conclusion ≡ Answer said
  pub pre : World
  pub unsent : AllByRecursion IsUnsent pre
  pub events : World
  pub after : World
  pub whole : last ≡ ((w ++ pre) ++ events) ++ after
  pub exchange : IsExchange (w ++ pre) events
  pub request : exchange.request ≡ command_request c
  pub message : exchange.packet.message ≡ drop 8 l_new.ear.content
  pub settled : Settled first last l_new v
  -- the next request is sent where the exchange ended
  pub next : (p r : World) (f : List ℕ) → last ≡ (v ++ p) ++ Sent f ∷ r → AllByRecursion IsUnsent p → (w ++ pre) ++ events ≡ v ++ p

module _ (first last : World) (undisturbed : Undisturbed first last) (laws : FramingLaws) (c : CollectCommand) (once : AsksOnce c) (limits : Limits) (some : 1 ≤ limits.quiets) where
  -- no sending is in vain
  sent_once : (n : ℕ) (old mid : Listening) (before heard : World) → Resent (wanted_reply c) limits n old before mid → quiet_ticks (before ++ (Sent (command_frame c) ∷ heard)) ≡ 0
      → (before ≡ []) × (mid ≡ old)
  sent_once zero old mid before heard resent quiet = resent
  sent_once (suc n) old mid before heard (earlier, begun, again, (s, vain, is)) quiet =
      absurd (omega (
        arith,
        quiet,
        quiet_ticks-append before (Sent (command_frame c) ∷ heard),
        ap quiet_ticks is,
        quiet_ticks-append begun (Sent (command_frame c) ∷ s.heard),
        quiet_ticks-sent (command_frame c) s.heard,
        due_some _ _ _ limits s.heard s.shown 0 some s.is_due,
      ))

  module _ (l_new : Listening) (w pre post e : World) (J : List ℕ) (closed : IsClosed J) (mid : Listening) (stands : StandsFor mid.ear J) (nothing : mid.inbox ≡ [])
      (due : ℕ) (s : Sending (wanted_reply c) limits mid due l_new) (quiet : quiet_ticks s.heard ≡ 0) (heard_is : stream_events post ≡ s.heard)
      (x : Followed (w ++ pre) (command_frame c) (post ++ e)) where
    abbrev its : IsExchange (w ++ pre) (Sent (command_frame c) ∷ x.until)
    its = x.exchange

    rest_is : x.until ≡ its.rest
    rest_is = tails its.is

    up_to : (m : World) × (x.until ≡ post ++ m) × (e ≡ m ++ x.after)
    up_to = unsent_front post e x.until x.after x.is (unsent_heard post (subst HearsOnly (sym heard_is) s.hearing)) x.next

    abbrev left : List ℕ
    left = l_new.inbox ++ bytes_heard up_to.0

    all_bytes : s.pushed ++ left ≡ frame its.content
    all_bytes =
        sym (append_assoc s.pushed l_new.inbox (bytes_heard up_to.0))
        ∙ ap (λ l. l ++ bytes_heard up_to.0) (sym s.split ∙ ap (λ l. l ++ bytes_heard s.heard) nothing ∙ ap bytes_heard (sym heard_is) ∙ bytes_stream post)
        ∙ sym (bytes_heard-append post up_to.0) ∙ ap bytes_heard (sym up_to.1 ∙ rest_is) ∙ its.heard

    -- the verdict that ends the request is on that frame
    module _ (before : List Verdict) (v : Verdict) (shown_is : s.shown ≡ before ++ v ∷ []) where
      shows : verdicts (J ++ s.pushed) ≡ verdicts J ++ (before ++ v ∷ [])
      shows = s.follows.shows J stands ∙ ap (λ vs. verdicts J ++ vs) shown_is

      one : (more : List Verdict) × OneShown its.content before v more
      one = one_shown J its.content closed its.size s.pushed left all_bytes before v shows

      ends_content : (end : Ended Said) → FindingShows (EndsBy (wanted_reply c)) end v.outcome → EndsAs (wanted_reply c) end its.delivers.header its.delivers.message
      ends_content end at =
          of_packet (EndsAs (wanted_reply c) end) its.delivers.header its.delivers.message its.content its.delivers.packet
          (subst (λ (o : Finding). FindingShows (EndsBy (wanted_reply c)) end o) one.1.is at)

      proto_is : its.delivers.header.proto ≡ 1
      proto_is = ap (λ (d : _). d.proto) (sym its.delivers.is) ∙ its.reply.is_true.proto

      held_is : (end : Ended Said) (holds : Holds (EndsBy (wanted_reply c)) end s.shown l_new.ear) → l_new.ear.content ≡ its.content
      held_is end holds =
          let there : Contains (before ++ v ∷ []) (record { piece = holds.piece; outcome = Whole l_new.ear.content }) = subst (λ (vs : List Verdict). Contains vs (record { piece = holds.piece; outcome = Whole l_new.ear.content })) shown_is holds.was_shown in
          let alone : Contains (v ∷ []) (record { piece = holds.piece; outcome = Whole l_new.ear.content }) = subst (λ (vs : List Verdict). Contains (vs ++ v ∷ []) (record { piece = holds.piece; outcome = Whole l_new.ear.content })) one.1.first there in
          let same : Whole l_new.ear.content ≡ Whole its.content = ap (λ (x : Verdict). x.outcome) (sym (only_one v (record { piece = holds.piece; outcome = Whole l_new.ear.content }) alone)) ∙ one.1.is in
          cc same

      behind : HoldsContent l_new.ear → IsBehindFlag (J ++ s.pushed)
      behind holds =
          subst (λ (st : State). StandsIn st l_new.ear.piece l_new.ear.body (J ++ s.pushed)) holds.state (s.follows.stands J stands).stands

      nothing_left : HoldsContent l_new.ear → left ≡ []
      nothing_left holds = all_judged J its.content closed its.size s.pushed left all_bytes laws.unflagged before v shows (behind holds)

  -- what a request comes to
  pub answered : (old l_new : Listening) (a b : Link) (w v e : World) (conclusion : Conclusion Said) → a.world ≡ Some w → b.world ≡ Some v → last ≡ v ++ e → Settled first last old w
      → Asks (wanted_reply c) limits old a conclusion l_new b → Answered first last c l_new w v conclusion
  answered old l_new a b w v e conclusion a_is b_is last_is settled asks = by conclusion asks.ended
    where
      grown : (more : World) × (b.world ≡ Some (w ++ more)) × (stream_events more ≡ asks.before ++ (Sent (command_frame c) ∷ asks.last.heard))
      grown = asks.grows.on w a_is

      more : World
      more = grown.0

      v_is : v ≡ w ++ more
      v_is = same_Some v (w ++ more) (sym b_is ∙ grown.1)

      all : Grown first last
      all = undisturbed_grown first last undisturbed

      steady : AllByRecursion IsSteady more
      steady =
          let whole : first ++ all.more ≡ first ++ (settled.from ++ (more ++ e)) =
          sym all.is ∙ last_is ∙ ap (λ (l : World). l ++ e) (v_is ∙ ap (λ (l : World). l ++ more) settled.is_from) ∙ append_assoc (first ++ settled.from) more e
          ∙ append_assoc first settled.from (more ++ e) in
          let same = same_end first all.more (settled.from ++ (more ++ e)) whole in
          steady_front more e (steady_back settled.from (more ++ e) (subst (λ (l : World). AllByRecursion IsSteady l) same all.steady))

      no_ticks : quiet_ticks (asks.before ++ (Sent (command_frame c) ∷ asks.last.heard)) ≡ 0
      no_ticks = ap quiet_ticks (sym grown.2) ∙ steady_ticks more steady

      alone : (asks.before ≡ []) × (asks.mid ≡ old)
      alone = sent_once asks.resends old asks.mid asks.before asks.last.heard asks.resent no_ticks

      quiet : quiet_ticks asks.last.heard ≡ 0
      quiet =
          omega (arith, no_ticks, quiet_ticks-append asks.before (Sent (command_frame c) ∷ asks.last.heard), quiet_ticks-sent (command_frame c) asks.last.heard)

      parts : SentIn more (command_frame c) asks.last.heard
      parts = sent_in more (command_frame c) asks.last.heard (grown.2 ∙ ap (λ (l : World). l ++ (Sent (command_frame c) ∷ asks.last.heard)) alone.0)

      v_parts : v ≡ (w ++ parts.pre) ++ Sent (command_frame c) ∷ parts.post
      v_parts = v_is ∙ ap (λ (l : World). w ++ l) parts.is ∙ sym (append_assoc w parts.pre (Sent (command_frame c) ∷ parts.post))

      after : Followed (w ++ parts.pre) (command_frame c) (parts.post ++ e)
      after =
          each_sent first last undisturbed (w ++ parts.pre) (parts.post ++ e) (command_frame c)
          (last_is ∙ ap (λ (l : World). l ++ e) v_parts ∙ append_assoc (w ++ parts.pre) (Sent (command_frame c) ∷ parts.post) e)
          (omega (arith, ap (λ (l : World). length l) settled.is_from, length-append first settled.from, length-append w parts.pre))

      mid_stands : StandsFor asks.mid.ear settled.judged
      mid_stands = subst (λ (l : Listening). StandsFor l.ear settled.judged) (sym alone.1) settled.stands

      mid_none : asks.mid.inbox ≡ []
      mid_none = ap (λ (l : Listening). l.inbox) alone.1 ∙ settled.none

      by : (conclusion : Conclusion Said) → ConclusionOf (wanted_reply c) limits asks.resends asks.mid l_new asks.due asks.last conclusion → Answered first last c l_new w v conclusion
      by (Answer said) done =
          let s = asks.last in
          let J = settled.judged in
          let x = after.exchange in
          let before = done.0.before in
          let shown = done.0.last in
          let holds = done.1 in
          let up = up_to l_new w parts.pre parts.post e J settled.closed asks.mid mid_stands mid_none asks.due s quiet parts.heard_is after in
          let content = held_is l_new w parts.pre parts.post e J settled.closed asks.mid mid_stands mid_none asks.due s quiet parts.heard_is after before shown done.0.is (ended.Answer said) holds in
          let none = nothing_left l_new w parts.pre parts.post e J settled.closed asks.mid mid_stands mid_none asks.due s quiet parts.heard_is after before shown done.0.is holds.holds in
          record {
            said = said;
            is = refl;
            pre = parts.pre;
            unsent = parts.unsent;
            events = Sent (command_frame c) ∷ after.until;
            after = after.after;
            whole =
                last_is ∙ ap (λ (l : World). l ++ e) v_parts ∙ append_assoc (w ++ parts.pre) (Sent (command_frame c) ∷ parts.post) e
                ∙ ap (λ (l : World). (w ++ parts.pre) ++ Sent (command_frame c) ∷ l) after.is ∙ sym (append_assoc (w ++ parts.pre) (Sent (command_frame c) ∷ after.until) after.after);
            exchange = x;
            request = once x.request (subst (λ (f : List ℕ). IsIn x.request f) (sym (sent_heads x.is)) x.asks);
            message =
                ap (λ (d : Delivered). d.message) x.delivers.is ∙ sym (message_is x.delivers.header x.delivers.message x.content x.delivers.packet.bytes)
                ∙ ap (λ l. drop 8 l) (sym content);
            settled = record {
              from = settled.from ++ more;
              is_from = v_is ∙ ap (λ (l : World). l ++ more) settled.is_from ∙ append_assoc first settled.from more;
              rest = e;
              is_to = last_is;
              none = none_front l_new.inbox (bytes_heard up.0) none;
              judged = J ++ s.pushed;
              stands = s.follows.stands J mid_stands;
              closed =
                  inr (behind l_new w parts.pre parts.post e J settled.closed asks.mid mid_stands mid_none asks.due s quiet parts.heard_is after before shown done.0.is holds.holds);
            };
            next = λ p r f at unsent.
                let e_is = same_end v e (p ++ Sent f ∷ r) (sym last_is ∙ at ∙ append_assoc v p (Sent f ∷ r)) in
                let same = unsent_same up.0 after.after p r f (sym up.2 ∙ e_is) (unsent_back parts.post up.0 (subst (λ (l : World). AllByRecursion IsUnsent l) up.1 after.unsent)) unsent after.next in
                ap (λ (l : World). (w ++ parts.pre) ++ Sent (command_frame c) ∷ l) up.1 ∙ sym (append_assoc (w ++ parts.pre) (Sent (command_frame c) ∷ parts.post) up.0)
                ∙ ap (λ (l : World). l ++ up.0) (sym v_parts) ∙ ap (λ (l : World). v ++ l) same;
          }
      by (Undelivered code) done =
          let before = done.0.before in
          let shown = done.0.last in
          let failure = ends_content l_new w parts.pre parts.post e settled.judged settled.closed asks.mid mid_stands mid_none asks.due asks.last quiet parts.heard_is after before shown done.0.is (ended.Undelivered code) done.0.shows in
          let proto = proto_is l_new w parts.pre parts.post e settled.judged settled.closed asks.mid mid_stands mid_none asks.due asks.last quiet parts.heard_is after before shown done.0.is in
          absurd (omega (arith, failure.0.proto, proto))
      by NoAnswer done = absurd (omega (arith, due_some _ _ _ limits asks.last.heard asks.last.shown asks.due some asks.last.is_due, quiet, done.2))
      by Flooded done =
          let bytes = all_bytes l_new w parts.pre parts.post e settled.judged settled.closed asks.mid mid_stands mid_none asks.due asks.last quiet parts.heard_is after in
          let s = asks.last in
          let up = up_to l_new w parts.pre parts.post e settled.judged settled.closed asks.mid mid_stands mid_none asks.due s quiet parts.heard_is after in
          absurd (omega (
            arith,
            done.2,
            ap (λ (l : List ℕ). length l) bytes,
            length-append s.pushed (l_new.inbox ++ bytes_heard up.0),
            length-append l_new.inbox (bytes_heard up.0),
            ap (λ (l : List ℕ). length l) s.split,
            length-append asks.mid.inbox (bytes_heard s.heard),
            length-append s.pushed l_new.inbox,
            laws.fits after.exchange.content after.exchange.size,
          ))
