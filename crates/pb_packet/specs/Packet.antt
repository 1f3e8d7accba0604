-- The bytes of a packet (PakBus), and the packet that bytes are.
use Rattle.std.specs.Prelude.{◌≡◌, ℕ, ◌+◌, ◌*◌, ◌/◌, ◌%◌, ◌≤◌, ◌==◌, List, [], ◌∷◌, ◌++◌, length, drop, slice_index, Result, Ok, Err, if◌then◌else◌}
use Rattle.pb_packet.specs.declared.headers.LinkState.{LinkState}
use Rattle.pb_packet.specs.declared.headers.LinkState.TheVariants.{OffLine, Ring, Ready, Finished, Pause}
use Rattle.pb_packet.specs.declared.headers.Phys.{Phys}
use Rattle.pb_packet.specs.declared.headers.Header.{Header}
use Rattle.pb_packet.specs.declared.headers.Packet.{Packet}
use Rattle.pb_packet.specs.declared.headers.Packet.TheVariants.{Link, Full}
use Rattle.pb_packet.specs.declared.headers.PacketFault.{PacketFault}
use Rattle.pb_packet.specs.declared.headers.PacketFault.TheVariants.{ReservedState, NullAddress}

-- a packet without where its message lies in memory
pub data Seen : Type 0 where
  link : Phys → Seen
  full : Header → List ℕ → Seen

abbrev pub seen_of : Packet → Seen
seen_of (Link phys) = link phys
seen_of (Full header message) = full header message.now

-- the number that stands for a link state
abbrev pub code_of : LinkState → ℕ
code_of OffLine = 8
code_of Ring = 9
code_of Ready = 10
code_of Finished = 11
code_of Pause = 12

-- ---- the bytes of a packet

-- a word of a header: four bits, and an address of twelve
abbrev pub word : ℕ → ℕ → List ℕ
word bits address = (bits * 16 + address / 256) ∷ address % 256 ∷ []

abbrev pub phys_bytes : Phys → List ℕ
phys_bytes p = word (code_of p.state) p.dst ++ word (p.more * 4 + p.priority) p.src

abbrev pub header_bytes : Header → List ℕ
header_bytes h = phys_bytes h.phys ++ word h.proto h.dst ++ word h.hops h.src

abbrev pub packet_bytes : Seen → List ℕ
packet_bytes (link p) = phys_bytes p
packet_bytes (full h message) = header_bytes h ++ message

abbrev pub IsAddress : ℕ → Type 0
IsAddress n = (1 ≤ n) × (n ≤ 4095)

-- what a header has room for
pub record IsValidPhys (p : Phys) : Type 0 where
  pub dst : IsAddress p.dst
  pub more : p.more ≤ 3
  pub priority : p.priority ≤ 3
  pub src : IsAddress p.src

pub record IsValidHeader (h : Header) : Type 0 where
  pub phys : IsValidPhys h.phys
  pub proto : h.proto ≤ 15
  pub dst : IsAddress h.dst
  pub hops : h.hops ≤ 15
  pub src : IsAddress h.src

abbrev pub IsValid : Seen → Type 0
IsValid (link p) = IsValidPhys p
IsValid (full h message) = IsValidHeader h

-- The numbers beside the addresses have room; an address of a node always has.
pub record FitsPhys (p : Phys) : Type 0 where
  pub more : p.more ≤ 3
  pub priority : p.priority ≤ 3

pub record FitsHeader (h : Header) : Type 0 where
  pub phys : FitsPhys h.phys
  pub proto : h.proto ≤ 15
  pub hops : h.hops ≤ 15

abbrev pub Fits : Seen → Type 0
Fits (link p) = FitsPhys p
Fits (full h message) = FitsHeader h

-- the content is that of the packet: its words, and then its message
pub record PacketBytes (packet : Seen) (content : List ℕ) : Type 0 where
  pub valid : IsValid packet
  pub bytes : content ≡ packet_bytes packet

-- ---- the packet that a content is

-- the four bits of a word, and its address
abbrev pub bits_at : ℕ → List ℕ → ℕ
bits_at word content = slice_index content (2 * word) / 16

abbrev pub address_at : ℕ → List ℕ → ℕ
address_at word content = (slice_index content (2 * word) % 16) * 256 + slice_index content (2 * word + 1)

-- the link state of a number, and what follows where there is one
abbrev pub with_state : {X : Type 0} → ℕ → (LinkState → Result X PacketFault) → Result X PacketFault
with_state n then_so =
    if n == 8 then then_so OffLine else
    if n == 9 then then_so Ring else
    if n == 10 then then_so Ready else
    if n == 11 then then_so Finished else
    if n == 12 then then_so Pause else Err (ReservedState n)

-- the address of a word, and what follows where it isn't 0
abbrev pub with_address : {X : Type 0} → ℕ → List ℕ → (ℕ → Result X PacketFault) → Result X PacketFault
with_address word content then_so = if address_at word content == 0 then Err (NullAddress word)
    else then_so (address_at word content)

abbrev pub phys_of : List ℕ → Result Phys PacketFault
phys_of content = with_state (bits_at 0 content) (λ state. with_address 0 content (λ dst. with_address 1 content (λ src.
    Ok (record { state = state; dst = dst; more = bits_at 1 content / 4; priority = bits_at 1 content % 4; src = src }))))

abbrev pub header_of : Phys → List ℕ → Result Header PacketFault
header_of phys content = with_address 2 content (λ dst. with_address 3 content (λ src.
    Ok (record { phys = phys; proto = bits_at 2 content; dst = dst; hops = bits_at 3 content; src = src })))

abbrev pub behind : {X Y : Type 0} → Result X PacketFault → (X → Result Y PacketFault) → Result Y PacketFault
behind (Ok x) then_so = then_so x
behind (Err e) then_so = Err e

-- the packet, or the first fault: the state, then the addresses in order
abbrev pub packet_of : List ℕ → Result Seen PacketFault
packet_of content = behind (phys_of content) (λ phys.
    if length content == 4 then Ok (link phys) else behind (header_of phys content) (λ header. Ok (full header (drop 8 content))))
