use Rattle.std.proofs.Common.{subst, ◌∙◌}
use Rattle.pb_station.specs.Making.{IsRefused}
use Rattle.pb_script.proofs.StationLemmas.{begins_as, only_memory}
use Rattle.pb_script.proofs.script.Script.empty_station.Goals as goal

pub returns-in-Ok-clause-made : goal.returns-in-Ok-clause-made
returns-in-Ok-clause-made c =
    let made = c.in-Ok.ensures.made in
    begins_as c.self.inside.draft c.args.self.now c.in-Ok.station _ _ c.deref.result.now made.0 c.self.view_is c.station-station.ensures.addr c.station-station.ensures.code (c.deref.ensures.value ∙ c.self.invariant) c.tables-tables.ensures.script made.1 made.2

pub returns-in-Err-clause-memory : goal.returns-in-Err-clause-memory
returns-in-Err-clause-memory c =
    only_memory c.self.inside.draft c.in-Err.fault c.tables-tables.ensures.script (subst (λ l. IsRefused l c.in-Err.fault) (c.deref.ensures.value ∙ c.self.invariant) c.in-Err.ensures.refused)
