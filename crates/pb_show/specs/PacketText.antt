-- The text of a packet in a line of `show`.
use Rattle.std.specs.Prelude.{ℕ, List, [], ◌∷◌, ◌++◌, ◌==◌, Bool, true, false, Result, Ok, Err, codes, decimal, if◌then◌else◌}
use Rattle.pb_packet.specs.Packet.{Seen, link, full}
use Rattle.pb_packet.specs.declared.headers.LinkState.{LinkState}
use Rattle.pb_packet.specs.declared.headers.LinkState.TheVariants.{OffLine, Ring, Ready, Finished, Pause}
use Rattle.pb_packet.specs.declared.headers.Phys.{Phys}
use Rattle.pb_packet.specs.declared.headers.Header.{Header}
use Rattle.pb_packet.specs.declared.headers.PacketFault.{PacketFault}
use Rattle.pb_packet.specs.declared.headers.PacketFault.TheVariants.{ReservedState, NullAddress}
use Rattle.pb_io.specs.Page.{joined}
use Rattle.pb_show.specs.MessageText.{message_text, is_damaged_message}

-- a link state, and a space
abbrev pub state_text : LinkState → List ℕ
state_text OffLine = codes "offline "
state_text Ring = codes "ring "
state_text Ready = codes "ready "
state_text Finished = codes "finished "
state_text Pause = codes "pause "

-- `SRC>DST`
unfoldable pub route_text : (src dst : ℕ) → List ℕ
route_text src dst = joined (decimal src ∷ codes ">" ∷ decimal dst ∷ [])

-- ` more E pri P`
unfoldable pub order_text : Phys → List ℕ
order_text p = joined (codes " more " ∷ decimal p.more ∷ codes " pri " ∷ decimal p.priority ∷ [])

-- `STATE SRC>DST more E pri P`, with the addresses of the link
unfoldable pub phys_text : Phys → List ℕ
phys_text p = joined (state_text p.state ∷ route_text p.src p.dst ∷ order_text p ∷ [])

-- ` pakctrl`, ` bmp5` or ` protoN`
unfoldable pub proto_text : ℕ → List ℕ
proto_text proto = if proto == 0 then codes " pakctrl"
    else (if proto == 1 then codes " bmp5" else joined (codes " proto" ∷ decimal proto ∷ []))

-- ` hops H `
unfoldable pub hops_text : ℕ → List ℕ
hops_text hops = joined (codes " hops " ∷ decimal hops ∷ codes " " ∷ [])

-- ` SRC>DST hops H `, with the addresses of the nodes
unfoldable pub nodes_text : Header → List ℕ
nodes_text h = joined (codes " " ∷ route_text h.src h.dst ∷ hops_text h.hops ∷ [])

-- the words of the link, the protocol and the words of the nodes
unfoldable pub header_text : Header → List ℕ
header_text h = phys_text h.phys ++ (proto_text h.proto ++ nodes_text h)

unfoldable pub packet_text : Seen → List ℕ
packet_text (link p) = phys_text p
packet_text (full h message) = header_text h ++ message_text h.proto message

-- a content that is no packet
unfoldable pub fault_text : PacketFault → List ℕ
fault_text (ReservedState state) = joined (codes "bad packet state " ∷ decimal state ∷ [])
fault_text (NullAddress word) = joined (codes "bad packet address " ∷ decimal word ∷ [])

unfoldable pub content_text : Result Seen PacketFault → List ℕ
content_text (Ok packet) = packet_text packet
content_text (Err fault) = fault_text fault

-- whether a content is no packet, or its message is malformed
abbrev pub is_damaged_content : Result Seen PacketFault → Bool
is_damaged_content (Ok (link p)) = false
is_damaged_content (Ok (full h message)) = is_damaged_message h.proto message
is_damaged_content (Err fault) = true
