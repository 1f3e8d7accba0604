-- The frame of a request, from what each writer wrote.
use Rattle.std.proofs.Common.{◌≡◌, ℕ, List, ◌++◌, Result, Ok, IfOk, length, take, drop, sym, ap, subst, ◌∙◌}
use Rattle.std.proofs.lemmas.List.{take_at}
use Rattle.pb_base.specs.declared.refusal.Full.{Full as NoRoom}
use Rattle.pb_base.specs.Put.{IsWritten}
use Rattle.pb_frame.specs.Framing.{frame}
use Rattle.pb_packet.specs.Packet.{full, packet_bytes}
use Rattle.pb_packet.specs.declared.headers.Header.{Header}
use Rattle.pb_tool.specs.declared.ping.request.Request.{Request}
use Rattle.pb_tool.specs.Ping.Requests.{request_header, request_message, request_frame}

at_ok : {T E : Type 0} (r : Result T E) (x : T) (P : T → Type 0) → r ≡ Ok x → IfOk r P → P x
at_ok r x P is h = subst (λ (s : Result _ _). IfOk s P) is h

-- what was written stands at the front
written_front : (bytes old new : List ℕ) (n : ℕ) → IsWritten bytes old new n → take n new ≡ bytes
written_front bytes old new n w = ap (take n) w.parts ∙ take_at bytes (drop n old) n (sym w.len)

pub framed : (request : Request) (me node : ℕ) (message : List ℕ) (header : Header) (old content : List ℕ) (n : ℕ) (room out : List ℕ) (m : ℕ)
    (r : Result ℕ NoRoom) (s : Result ℕ NoRoom) → message ≡ request_message request → header ≡ request_header request me node
    → IfOk r (IsWritten (packet_bytes (full header message)) old content) → r ≡ Ok n
    → IfOk s (λ k. k ≡ length (frame (take n content))) → IfOk s (λ k. out ≡ frame (take n content) ++ drop k room) → s ≡ Ok m
    → take m out ≡ request_frame request me node
unfolding request_frame
framed request me node message header old content n room out m r s is_message is_header written is_n size framed_out is_m =
    let packet = written_front _ old content n (at_ok r n _ is_n written) in
    let len = at_ok s m (λ k. k ≡ length (frame (take n content))) is_m size in
    let parts = at_ok s m (λ k. out ≡ frame (take n content) ++ drop k room) is_m framed_out in
    ap (take m) parts ∙ take_at (frame (take n content)) (drop m room) m (sym len)
    ∙ ap frame (packet ∙ ap (λ (h : Header). packet_bytes (full h message)) is_header ∙ ap (λ l. packet_bytes (full (request_header request me node) l)) is_message)
