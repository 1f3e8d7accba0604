use Rattle.std.proofs.Common.{◌≡◌, ℕ, ◌≤◌, List, length, drop, sym, ap, subst, arith}
use Rattle.pb_packet.specs.declared.headers.Header.{Header}
use Rattle.pb_packet.specs.Packet.{full, packet_bytes}
use Rattle.pb_ask.proofs.laws.law_message.Goals as goal

message_is : (header : Header) (message content : List ℕ) → content ≡ packet_bytes (full header message) → drop 8 content ≡ message
message_is header message content is = ap (λ l. drop 8 l) is

long : (header : Header) (message content : List ℕ) → content ≡ packet_bytes (full header message) → 8 ≤ length content
long header message content is = omega (arith, ap length is)

pub returns : goal.returns
returns g c = λ q answer shown ear h. (
  long h.shows.header h.shows.message ear.content h.shows.packet.bytes,
  subst (λ (l : List ℕ). (g.Q.Question.wanted q).takes answer l) (sym (message_is h.shows.header h.shows.message ear.content h.shows.packet.bytes)) h.shows.is.1,
)
