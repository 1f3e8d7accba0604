use Rattle.std.proofs.Common.{take}
use Rattle.pb_serve.proofs.ServeLemmas.{framed, sent_owed, sends_some}
use Rattle.pb_serve.proofs.TalkLemmas.{Talks-refl, Talks-call}
use Rattle.pb_serve.proofs.reply.send_reply.Goals as goal

pub returns-in_default-clause-talks : goal.returns-in_default-clause-talks
returns-in_default-clause-talks g c = Talks-refl (g.S.Disk.view c.args.site.now) (g.met.S.Disk.lawful c.args.site.now)

pub returns-clause-sends : goal.returns-clause-sends
returns-clause-sends g c state stands =
    sent_owed _ _ _ _ _ c.send.result (c.in-Some.ensures.owes state stands) (framed (take c.in-Some.n c.reply.new.packet) _ c.frame_into.new.out c.frame_into.result c.unwrap-len.result c.unwrap-len.ensures c.frame_into.ensures.length c.frame_into.ensures.ok) c.send.ensures.world

pub returns-clause-talks : goal.returns-clause-talks
returns-clause-talks g c =
    let sent = c.send.ensures in
    let events = sends_some _ _ _ c.send.result sent.world in
    Talks-call (g.S.Disk.view c.args.site.now) (g.S.Disk.view c.send.new.self) events.0 (g.met.S.Disk.lawful c.args.site.now) sent.disk sent.disk_faults sent.time events.1
