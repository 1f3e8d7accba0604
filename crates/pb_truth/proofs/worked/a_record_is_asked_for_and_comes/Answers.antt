use Rattle.std.proofs.Common.{◌≡◌, ℕ, Bool, true, List, [], ◌∷◌, ◌++◌, length, refl, sym, subst, ◌∙◌, ap, arith, append_assoc, append-nil, inl, inr}
use Rattle.std.proofs.lemmas.List.Elements.{Contains-push}
use Rattle.std.specs.List.{AllByRecursion, Contains, flat_map}
use Rattle.pb_base.specs.World.{World, Sent, all_heard, bytes_heard, heard_from}
use Rattle.pb_base.specs.History.{TableKey, History, history, events_under, definition_in, record_in, greatest_oldest}
use Rattle.pb_io.proofs.WorldLemmas.{history-later}
use Rattle.pb_frame.specs.Framing.{frame, IsContentSize}
use Rattle.pb_packet.specs.declared.headers.LinkState.TheVariants.{Ready}
use Rattle.pb_packet.specs.declared.headers.Header.{Header}
use Rattle.pb_packet.specs.Packet.{full, PacketBytes, IsValidHeader}
use Rattle.pb_bmp5.specs.declared.message.Mode.TheVariants as wire
use Rattle.pb_bmp5.specs.Message.{Collect, CollectKeys, MessageReads}
use Rattle.pb_bmp5.specs.TrueReply.{IsTrueOf, TrueReply, FullReply}
use Rattle.pb_bmp5.specs.WorkedReply.{worked_definition, worked_request, worked_reply}
use Rattle.pb_bmp5.proofs.TrueLemmas.{reply-stays}
use Rattle.pb_bmp5.proofs.WorkedLemmas.{worked_says}
use Rattle.pb_truth.specs.Asked.{request_of, AsksFor, IsIn, WasAsked}
use Rattle.pb_truth.specs.Honest.{Delivers}
use Rattle.pb_truth.specs.Undisturbed.{IsCalm, Calm, Exchanges}
use Rattle.pb_truth.specs.Worked.{asking, answering, before_the_request, before_the_reply, worked_world}
use Rattle.pb_truth.proofs.StreamLemmas.{frame_has}
use Rattle.pb_truth.proofs.worked.a_record_is_asked_for_and_comes.Goals as goal

abbrev out : Header
out = record {
  phys = record { state = Ready; dst = 10; more = 0; priority = 1; src = 4094 };
  proto = 1;
  dst = 10;
  hops = 0;
  src = 4094;
}

out_valid : IsValidHeader out
out_valid = record {
  phys = record { dst = (omega arith, omega arith); more = omega arith; priority = omega arith; src = (omega arith, omega arith) };
  proto = omega arith;
  dst = (omega arith, omega arith);
  hops = omega arith;
  src = (omega arith, omega arith);
}

abbrev command : List ℕ
command = 9 ∷ 1 ∷ 0 ∷ 0 ∷ 4 ∷ 0 ∷ 1 ∷ 0x8A ∷ 0x5F ∷ 0 ∷ 0 ∷ 0 ∷ 0 ∷ 0 ∷ 0 ∷ []

abbrev its_keys : CollectKeys
its_keys = record { code = 0; mode = wire.From 0; table = 1; sig = 0x8A5F; fields = [] }

reads : MessageReads (Collect 1 its_keys) command
reads = record {
  valid = record { obeys = (tt, (tt, (tt, ((omega arith, omega arith), (tt, (tt, (tt, (tt, tt)))))))); makes = refl };
  fits = (omega arith, (omega arith, (omega arith, (omega arith, (omega arith, (omega arith, (omega arith, (tt, tt))))))));
  rest = [];
  parts = refl;
  ends = (tt, (tt, (tt, (tt, (tt, (tt, (tt, (tt, tt))))))));
}

asks : AsksFor asking worked_request
unfolding out_valid reads
asks = record {
  header = out;
  message = command;
  packet = record { valid = out_valid; bytes = refl };
  proto = refl;
  tran = 1;
  keys = its_keys;
  reads = reads;
  is = refl;
}

-- ---- the reply

abbrev back : Header
back = record {
  phys = record { state = Ready; dst = 4094; more = 0; priority = 1; src = 10 };
  proto = 1;
  dst = 4094;
  hops = 0;
  src = 10;
}

delivers : Delivers answering worked_reply
delivers = record {
  header = back;
  message = worked_reply.message;
  packet = record {
    valid = record {
      phys = record { dst = (omega arith, omega arith); more = omega arith; priority = omega arith; src = (omega arith, omega arith) };
      proto = omega arith;
      dst = (omega arith, omega arith);
      hops = omega arith;
      src = (omega arith, omega arith);
    };
    bytes = refl;
  };
  is = refl;
}

says : IsTrueOf worked_request worked_reply.message (history before_the_reply worked_request.table)
says = worked_says (history before_the_reply worked_request.table) (Contains-push [] worked_definition) refl

is_true : TrueReply worked_request worked_reply (history before_the_reply)
is_true = record { src = refl; dst = refl; proto = refl; resp = 0; body = _; parts = refl; says = λ complete. says }

is_true_still : TrueReply worked_request worked_reply (history worked_world)
is_true_still =
    reply-stays worked_request worked_reply (history before_the_reply) (history worked_world) is_true (history-later before_the_reply (all_heard (frame answering)))

heard-bytes : (had bytes : List ℕ) → heard_from had (all_heard bytes) ≡ had ++ bytes
heard-bytes had [] = sym (append-nil had)
heard-bytes had (b ∷ bytes) = heard-bytes (had ++ b ∷ []) bytes ∙ append_assoc had (b ∷ []) bytes

was_asked : IsIn worked_request (frame asking) → WasAsked worked_world worked_request
was_asked is = (frame asking, (0, omega arith, refl), is)

abbrev Written : Type 0
Written = (content message : List ℕ) (header : Header) (tran : ℕ) (keys : CollectKeys) → IsContentSize (length content) → PacketBytes (full header message) content → MessageReads (Collect tran keys) message
    → header.proto ≡ 1 → IsIn (request_of header tran keys) (frame content)

is_in : Written → IsIn worked_request (frame asking)
is_in written = written asking command out 1 its_keys (inr (omega arith, omega arith)) (record { valid = out_valid; bytes = refl }) reads refl

pub returns-clause-asks : goal.returns-clause-asks
returns-clause-asks c = asks

pub returns-clause-asked : goal.returns-clause-asked
returns-clause-asked c = was_asked (is_in c.written_frames_ask_once.ensures.asks)

pub returns-clause-heard : goal.returns-clause-heard
returns-clause-heard c = record {
  earlier = [];
  judged = frame answering;
  waiting = [];
  stream = heard-bytes [] (frame answering) ∙ sym (append-nil (frame answering));
  content = answering;
  has = frame_has answering (inr (omega arith, omega arith));
  delivers = delivers;
}

pub returns-clause-answer : goal.returns-clause-answer
returns-clause-answer c = record {
  request = worked_request;
  asked = was_asked (is_in c.written_frames_ask_once.ensures.asks);
  reply = is_true_still;
}

calm : (bytes : List ℕ) → AllByRecursion IsCalm (all_heard bytes)
calm [] = tt
calm (b ∷ bytes) = (tt, calm bytes)

all-bytes : (bytes : List ℕ) → bytes_heard (all_heard bytes) ≡ bytes
unfolding bytes_heard
all-bytes [] = refl
all-bytes (b ∷ bytes) = ap (λ l. b ∷ l) (all-bytes bytes)

-- what is heard adds nothing to a history
none-under : (key : TableKey) (before : Bool) (bytes : List ℕ) → events_under key before (all_heard bytes) ≡ []
none-under key before [] = refl
none-under key before (b ∷ bytes) = none-under key before bytes

same_history : history worked_world worked_request.table ≡ history before_the_reply worked_request.table
same_history = ap (λ (rest : World). told (before_the_request ++ rest)) (none-under worked_request.table true (frame answering))
  where
    told : World → History
    told events = record { definitions = flat_map definition_in events; records = flat_map record_in events; oldest = greatest_oldest events }

says_then : IsTrueOf worked_request worked_reply.message (history worked_world worked_request.table)
says_then =
    worked_says (history worked_world worked_request.table)
    (subst (λ ds. Contains ds worked_definition) (sym (ap (λ (h : History). h.definitions) same_history)) (Contains-push [] worked_definition))
    (ap (λ (h : History). h.records) same_history)

is_full : FullReply worked_request worked_reply (history worked_world)
unfolding says_then worked_says
is_full = record {
  is_true = record { src = refl; dst = refl; proto = refl; resp = 0; body = _; parts = refl; says = λ complete. says_then };
  full = λ complete. record { some = λ lt none. none; uncut = λ short. (tt, tt); long = (tt, tt) };
}

pub returns-clause-undisturbed : goal.returns-clause-undisturbed
unfolding bytes_heard is_full says_then worked_says
returns-clause-undisturbed c =
    Exchanges before_the_request before_the_request (Sent (frame asking) ∷ all_heard (frame answering)) (Calm before_the_request [] tt refl) (record {
      sent = frame asking;
      rest = all_heard (frame answering);
      is = refl;
      calm = calm (frame answering);
      request = worked_request;
      asks = is_in c.written_frames_ask_once.ensures.asks;
      content = answering;
      size = inr (omega arith, omega arith);
      heard = all-bytes (frame answering);
      packet = worked_reply;
      delivers = delivers;
      reply = is_full;
      complete = refl;
      stage = record { stored = omega arith; oldest = omega arith; held = inl (omega arith) };
    })
