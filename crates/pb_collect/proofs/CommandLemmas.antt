-- Commands to a station: their packets, and their frames from what each writer wrote.
use Rattle.std.proofs.Common.{◌≡◌, ℕ, List, ◌++◌, Result, Ok, IfOk, length, take, drop, refl, sym, ap, subst, ◌∙◌, arith}
use Rattle.std.proofs.lemmas.List.{take_at}
use Rattle.pb_base.specs.declared.refusal.Full.{Full as NoRoom}
use Rattle.pb_base.specs.Put.{IsWritten}
use Rattle.pb_frame.specs.Framing.{frame}
use Rattle.pb_packet.specs.Packet.{full, packet_bytes, IsAddress, PacketBytes}
use Rattle.pb_packet.specs.declared.headers.Header.{Header}
use Rattle.pb_collect.specs.Command.{content_to, frame_to, header_to}
use Rattle.pb_collect.specs.declared.command.Contact.{Contact}

pub at_ok : {T E : Type 0} (r : Result T E) (x : T) (P : T → Type 0) → r ≡ Ok x → IfOk r P → P x
at_ok r x P is h = subst (λ (s : Result _ _). IfOk s P) is h

-- ---- the content

pub content_packet : (c : Contact) (message : List ℕ) → IsAddress c.me → IsAddress c.via → IsAddress c.station
    → PacketBytes (full (header_to c) message) (content_to c message)
content_packet c message me via station = record {
  bytes = refl;
  valid = record {
    phys = record { dst = via; more = omega arith; priority = omega arith; src = me };
    proto = omega arith;
    dst = station;
    hops = omega arith;
    src = me;
  };
}

-- ---- the frame

-- what was written stands at the front
written_front : (bytes old new : List ℕ) (n : ℕ) → IsWritten bytes old new n → take n new ≡ bytes
written_front bytes old new n w = ap (take n) w.parts ∙ take_at bytes (drop n old) n (sym w.len)

pub framed : (c : Contact) (message : List ℕ) (header : Header) (old content : List ℕ) (n : ℕ) (room out : List ℕ) (m : ℕ)
    (r : Result ℕ NoRoom) (s : Result ℕ NoRoom) → header ≡ header_to c
    → IfOk r (IsWritten (packet_bytes (full header message)) old content) → r ≡ Ok n
    → IfOk s (λ k. k ≡ length (frame (take n content))) → IfOk s (λ k. out ≡ frame (take n content) ++ drop k room) → s ≡ Ok m
    → take m out ≡ frame_to c message
unfolding frame_to
framed c message header old content n room out m r s is_header written is_n size framed_out is_m =
    let packet = written_front _ old content n (at_ok r n _ is_n written) in
    let len = at_ok s m (λ k. k ≡ length (frame (take n content))) is_m size in
    let parts = at_ok s m (λ k. out ≡ frame (take n content) ++ drop k room) is_m framed_out in
    ap (take m) parts ∙ take_at (frame (take n content)) (drop m room) m (sym len)
    ∙ ap frame (packet ∙ ap (λ (h : Header). packet_bytes (full h message)) is_header)
