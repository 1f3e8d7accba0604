use Rattle.std.proofs.Common.{◌++◌, take, drop, refl, ap, ◌∙◌, arith}
use Rattle.pb_packet.specs.declared.headers.Header.{Header}
use borrow.Rule.Slice.PartMut.{put_mid}
use Rattle.pb_packet.specs.Packet.{header_bytes}
use Rattle.pb_station.specs.Answer.{reply_header}
use Rattle.pb_bmp5.specs.Message.{message_of, message_bytes}
use Rattle.pb_station.proofs.WrittenLemmas.{ok-written, reply-written}
use Rattle.pb_station.proofs.reply.reply_bmp5.Goals as goal

pub returns-clause-answered : goal.returns-clause-answered
returns-clause-answered c =
    let old = c.args.out.now in
    let m = message_bytes (message_of c.args.message.now) in
    let w = ok-written c.write.result c.unwrap-len.result m (take 1000 (drop 8 old)) c.write.new.out c.unwrap-len.ensures c.write.ensures.written in
    let h = c.write_header.ensures ∙ ap (λ (x : Header). header_bytes x ++ drop 8 (put_mid 8 1000 old c.write.new.out)) c.reply_header.ensures in
    reply-written (header_bytes (reply_header c.args.address 1 0 c.args.header.now)) m old c.write.new.out c.write_header.new.out 1000 c.unwrap-len.result refl (omega arith) w h
