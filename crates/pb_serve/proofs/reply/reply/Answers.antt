use Rattle.std.proofs.Common.{◌≡◌, Ok, rules}
use Rattle.pb_packet.specs.Packet.{full, packet_of}
use Rattle.pb_serve.proofs.ServeLemmas.{reply_owes, reply_size}
use Rattle.pb_serve.proofs.reply.reply.Goals as goal

pub returns-in-Reply-clause-owes : goal.returns-in-Reply-clause-owes
returns-in-Reply-clause-owes c state stands =
    let is : packet_of c.args.content.now ≡ Ok (full c.in-Ok-Full.header c.in-Ok-Full.message.now) = search rules in
    reply_owes state c.args.content.now c.in-Ok-Full.header c.in-Ok-Full.message.now _ c.answer.new.out c.in-Reply.n is (c.in-Reply.ensures.says state stands)

pub returns-in-Reply-clause-size : goal.returns-in-Reply-clause-size
returns-in-Reply-clause-size c =
    let alive = c.requires.alive in
    reply_size alive.0 c.in-Ok-Full.header c.in-Ok-Full.message.now _ c.answer.new.out c.in-Reply.n (c.in-Reply.ensures.says alive.0 alive.1) c.in-Reply.ensures.within
