-- What one request keeps, and what was heard in answer to it.
use Rattle.std.proofs.Common.{◌≡◌, inl, ℕ, ◌≤◌, List, ◌∷◌, ◌++◌, length, drop, All, refl, sym, ap, subst, arith}
use Rattle.std.specs.List.{Contains}
use Rattle.std.proofs.lemmas.List.Elements.{Contains-append_right, All-contains}
use Rattle.pb_base.specs.World.{World, Sent, sent}
use Rattle.pb_base.specs.Request.{Request}
use Rattle.pb_frame.specs.Framing.{Whole, verdicts}
use Rattle.pb_io.specs.View.{View, Link, IsLawful}
use Rattle.pb_io.proofs.Moments.{LeavesOnly-weaker}
use Rattle.pb_packet.specs.declared.headers.Header.{Header}
use Rattle.pb_packet.specs.Packet.{full, packet_bytes}
use Rattle.pb_trans.specs.declared.asked.Limits.{Limits}
use Rattle.pb_ask.specs.Asking.{Asks, Hears}
use Rattle.pb_ask.specs.Events.{Resending, Passes}
use Rattle.pb_ask.specs.Judging.{Holds}
use Rattle.pb_ask.specs.Listening.{Listening, IsListening}
use Rattle.pb_ask.specs.Wanted.{EndsBy}
use Rattle.pb_ask.proofs.ListenLemmas.{asks_judged, asks_held, asks_listening}
use Rattle.pb_ask.specs.declared.question.Ended.TheVariants as ended
use Rattle.pb_ask.specs.declared.question.Conclusion.{Conclusion}
use Rattle.pb_ask.specs.declared.question.Conclusion.TheVariants.{Answer, Undelivered, NoAnswer, Flooded}
use Rattle.pb_truth.specs.Asked.{WasAsked, IsIn, Allows}
use Rattle.pb_truth.specs.Honest.{delivered}
use Rattle.pb_truth.specs.Pairs.{AsksAllowed}
use Rattle.pb_truth.proofs.ViewLemmas.{good_asks}
use Rattle.pb_collect.specs.Heard.{Listens, IsAllowedIn, HasHeard, HeardBy}
use Rattle.pb_collect.specs.Kept.{GoesOnBy, Keeps, StaysOrCollects}
use Rattle.pb_collect.specs.Question.{AsksOnce, MeansReply, command_frame, command_request, wanted_reply}
use Rattle.pb_collect.specs.declared.answer.Said.{Said}
use Rattle.pb_collect.specs.declared.question.CollectCommand.{CollectCommand}
use Rattle.pb_collect.proofs.KeptLemmas.{grows_by}

-- ---- what is kept

-- what was asked in these frames is the command's request
asked_is : (c : CollectCommand) (more : World) (r : Request) → AsksOnce c → All (λ (f : List ℕ). f ≡ command_frame c) (sent more) → WasAsked more r → r ≡ command_request c
asked_is c more r once all asked =
    once r (subst (λ (f : List ℕ). IsIn r f) (All-contains (λ (f : List ℕ). f ≡ command_frame c) (sent more) asked.0 all asked.1) asked.2)

pub keeps_asked : (c : CollectCommand) (most : ℕ) (old new : View) → IsLawful new → AsksOnce c → IsAllowedIn old c → Passes (command_frame c) most old new → Keeps old new
keeps_asked c most old new lawful once allowed passes = record {
  grows = grows_by old.link.world new.link.world passes.events passes.grows;
  leaves = LeavesOnly-weaker old new (Resending (command_frame c) most old) (GoesOnBy StaysOrCollects old) passes.leaves (λ w image r. record {
    first = image;
    was = r.image;
    goes_on = inl (inl refl);
    before = r.before;
    more = r.more;
    known = r.known;
    is = r.is;
  });
  good = λ good honest. good_asks old new lawful good
      (LeavesOnly-weaker old new (Resending (command_frame c) most old) (AsksAllowed old) passes.leaves (λ w image r. record {
        was = r.image;
        before = r.before;
        more = r.more;
        known = r.known;
        is = r.is;
        allowed = λ a request has asked own. subst (λ x. Allows a x) (sym (asked_is c r.more request once r.frames.each asked)) (allowed image a r.image has);
      }));
}

-- ---- what was heard

message_is : (header : Header) (message content : List ℕ) → content ≡ packet_bytes (full header message) → drop 8 content ≡ message
message_is header message content is = ap (λ l. drop 8 l) is

long : (header : Header) (message content : List ℕ) → content ≡ packet_bytes (full header message) → 8 ≤ length content
long header message content is = omega (arith, ap length is)

module _ (c : CollectCommand) (old new : Listening) (a b : Link) where
  pub listens_after : (events : World) (all : Hears old events new) (l : Listens old a) → IsListening b (l.judged ++ all.pushed) new.inbox → Listens new b
  listens_after events all l hears = record { judged = l.judged ++ all.pushed; stands = all.follows.stands l.judged l.stands; hears = hears }

  pub heard_answer : (said : Said) (events : World) (all : Hears old events new) (l : Listens old a) → IsListening b (l.judged ++ all.pushed) new.inbox
      → Holds (EndsBy (wanted_reply c)) (ended.Answer said) all.shown new.ear → HasHeard c said new b
  heard_answer said events all l hears h =
      let header = h.shows.header in
      let message = h.shows.message in
      let is = h.shows.is in
      let bytes = h.shows.packet.bytes in
      record {
        held = h.holds;
        full = long header message new.ear.content bytes;
        means = subst (λ m. MeansReply c said m) (sym (message_is header message new.ear.content bytes)) is.1;
        packet = delivered header message;
        message = sym (message_is header message new.ear.content bytes);
        src = is.0.way.from;
        dst = is.0.way.to;
        proto = is.0.proto;
        heard = λ w world.
            let at = hears w world in
            record {
              earlier = at.0;
              judged = l.judged ++ all.pushed;
              waiting = new.inbox;
              stream = at.1;
              content = new.ear.content;
              has = (
                h.piece,
                subst (λ vs. Contains vs (record { piece = h.piece; outcome = Whole new.ear.content })) (sym (all.follows.shows l.judged l.stands))
                    (Contains-append_right (verdicts l.judged) all.shown (record { piece = h.piece; outcome = Whole new.ear.content }) h.was_shown),
              );
              delivers = record { header = header; message = message; packet = h.shows.packet; is = refl };
            };
      }

-- ---- by the conclusion of a request

module _ (c : CollectCommand) (limits : Limits) (old new : Listening) (a b : Link) where
  pub asks_on : (conclusion : Conclusion Said) → Asks (wanted_reply c) limits old a conclusion new b → Listens old a → Listens new b
  asks_on conclusion h l =
      let all = (asks_judged (wanted_reply c) limits old new a b conclusion h).0 in
      listens_after c old new a b (h.before ++ (Sent (command_frame c) ∷ h.last.heard)) all l
      (asks_listening (wanted_reply c) limits old new a b conclusion h all l.judged l.hears)

  pub heard_by : (conclusion : Conclusion Said) → Asks (wanted_reply c) limits old a conclusion new b → Listens old a → HeardBy c conclusion new b
  heard_by (Answer said) h l =
      let all = asks_held (wanted_reply c) limits old new a b said h in
      heard_answer c old new a b said (h.before ++ (Sent (command_frame c) ∷ h.last.heard)) all.0 l
      (asks_listening (wanted_reply c) limits old new a b (Answer said) h all.0 l.judged l.hears) all.1
  heard_by (Undelivered code) h l = tt
  heard_by NoAnswer h l = tt
  heard_by Flooded h l = tt
