use Rattle.std.proofs.Common.{ℕ, subst}
use Rattle.pb_script.specs.ScriptText.{ServedText}
use Rattle.pb_serve.specs.Serving.{Ends}
use Rattle.pb_serve.proofs.TalkLemmas.{Talks-refl}
use Rattle.pb_serve.proofs.LawLemmas.{ends_in_time}
use Rattle.pb_script.specs.Station.{state_of}
use Rattle.pb_tool.proofs.serve.serve.Goals as goal

pub returns-in-Err-clause-talks : goal.returns-in-Err-clause-talks
returns-in-Err-clause-talks g c = Talks-refl (g.S.Disk.view c.args.site.now) (g.met.S.Disk.lawful c.args.site.now)

pub returns-in-Err-Line-clause-talks : goal.returns-in-Err-Line-clause-talks
returns-in-Err-Line-clause-talks g c = Talks-refl (g.S.Disk.view c.args.site.now) (g.met.S.Disk.lawful c.args.site.now)

pub returns-in-Err-Memory-clause-talks : goal.returns-in-Err-Memory-clause-talks
returns-in-Err-Memory-clause-talks g c = Talks-refl (g.S.Disk.view c.args.site.now) (g.met.S.Disk.lawful c.args.site.now)

pub returns-in-Err-station-clause-talks : goal.returns-in-Err-station-clause-talks
returns-in-Err-station-clause-talks g c = Talks-refl (g.S.Disk.view c.args.site.now) (g.met.S.Disk.lawful c.args.site.now)

pub returns-clause-means : goal.returns-clause-means
returns-clause-means g c =
    let script = c.in-Ok-read_served.script in
    let run = c.run.ensures.ends (state_of script) (c.new-server.ensures.starts (state_of script) c.in-Ok-station.ensures) in
    let ends = subst (λ (n : ℕ). Ends (state_of script) n run.0 c.run.result) c.new-server.ensures.goal run.2 in
    let whole = c.in-Ok.ensures.whole in (
      script,
      record { text = c.in-Ok.text.items; reads = whole; is = subst (ServedText script) c.deref.ensures.value c.in-Ok-read_served.ensures.found },
      record { events = run.0; grows = run.1; ends = ends; in_time = ends_in_time (state_of script) c.args.goal run.0 c.run.result ends },
    )
