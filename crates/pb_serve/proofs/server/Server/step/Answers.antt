use Rattle.pb_serve.proofs.ServeLemmas.{run_leads}
use Rattle.pb_serve.proofs.TalkLemmas.{Talks-refl}
use Rattle.pb_serve.proofs.server.Server.step.Goals as goal

pub returns-then-taken-ne0-clause-leads : goal.returns-then-taken-ne0-clause-leads
returns-then-taken-ne0-clause-leads g c =
    let pass = c.pass-taken.ensures in
    run_leads c.args.self.now c.pass-taken.new.self c.pass-taken.result c.args.bytes.now (g.S.Disk.view c.args.site.now).link c.flooded.result c.requires.going pass.front pass.follows pass.room pass.passed c.flooded.ensures

pub returns-then-taken-ne0-clause-talks : goal.returns-then-taken-ne0-clause-talks
returns-then-taken-ne0-clause-talks g c = Talks-refl (g.S.Disk.view c.args.site.now) (g.met.S.Disk.lawful c.args.site.now)
