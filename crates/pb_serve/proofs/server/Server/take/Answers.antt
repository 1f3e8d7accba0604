use Rattle.std.proofs.Common.{[], subst}
use Rattle.pb_base.specs.World.{World}
use Rattle.pb_station.specs.State.{State}
use Rattle.pb_serve.specs.Inside.{Kept, IsGoing, Stands, IsHandled}
use Rattle.pb_serve.proofs.ServeLemmas.{tick_takes, chunk_takes, no_bytes, some_bytes}
use Rattle.pb_serve.proofs.TalkLemmas.{Talks-refl}
use Rattle.pb_serve.proofs.server.Server.take.Goals as goal

pub returns-then-is_empty-clause-takes : goal.returns-then-is_empty-clause-takes
returns-then-is_empty-clause-takes g c first w s =
    tick_takes first c.args.self.now c.tick.new.self w c.args.bytes.now (g.S.Disk.view c.args.site.now).link c.tick.result (no_bytes c.args.bytes.now c.is_empty.result c.is_empty.ensures c.if-is_empty.true) c.requires.going c.tick.ensures.quiets c.tick.ensures.ends s

pub returns-then-is_empty-clause-talks : goal.returns-then-is_empty-clause-talks
returns-then-is_empty-clause-talks g c = Talks-refl (g.S.Disk.view c.args.site.now) (g.met.S.Disk.lawful c.args.site.now)

pub returns-clause-takes : goal.returns-clause-takes
returns-clause-takes g c =
    let i = c.self.inside in
    let k : Kept = record { ear = i.ear; station = i.station; goal = i.goal; good = i.good; since = i.since; quiets = i.quiets } in
    let old = (g.S.Disk.view c.args.site.now).link in
    let now = (g.S.Disk.view c.hear.new.site).link in
    let bytes = c.args.bytes.now in
    subst (λ (x : Kept). IsGoing x → (first : State) (w : World) → Stands first x w [] → IsHandled first x.goal w bytes old now c.hear.result c.hear.new.self) c.self.view_is
    (λ going first w s. chunk_takes first k c.hear.new.self w bytes old now c.hear.result (some_bytes bytes c.is_empty.result c.is_empty.ensures c.if-is_empty.false) c.requires.few going c.hear.ensures.leads s) c.requires.going
