-- How a station is asked: the header of a command's packet.
use Rattle.std.specs.Prelude.{List, ℕ}
use Rattle.pb_frame.specs.Framing.{frame}
use Rattle.pb_packet.specs.Packet.{full, packet_bytes}
use Rattle.pb_packet.specs.declared.headers.LinkState.TheVariants.{Ready}
use Rattle.pb_packet.specs.declared.headers.Header.{Header}
use Rattle.pb_packet.specs.declared.headers.TheConstants.{PROTO_BMP5}
use Rattle.pb_collect.specs.declared.command.Contact.{Contact}

-- a BMP5 command, after which more is expected; it goes to the neighbour
abbrev pub header_to : Contact → Header
header_to c =
    record {
      phys = record { state = Ready; dst = c.via; more = 1; priority = 1; src = c.me };
      proto = PROTO_BMP5;
      dst = c.station;
      hops = 0;
      src = c.me;
    }

abbrev pub content_to : Contact → List ℕ → List ℕ
content_to c message = packet_bytes (full (header_to c) message)

-- the frame of a command with this message
unfoldable pub frame_to : Contact → List ℕ → List ℕ
frame_to c message = frame (content_to c message)
