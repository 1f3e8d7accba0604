use Rattle.std.proofs.Common.{◌∙◌, subst, ap}
use Rattle.pb_archive.specs.Opened.{Register, OpenArchive, GoesOn, register_of, register_after, stop_of}
use Rattle.pb_archive.proofs.CallLemmas.{stop_entry, made_by}
use Rattle.pb_archive.proofs.archive.Archive.stop.Goals as goal

pub returns-in-Ok-clause-writes : goal.returns-in-Ok-clause-writes
returns-in-Ok-clause-writes g c =
    c.write.ensures.writes (stop_of c.args.id.0 c.args.told)
    (stop_entry _ c.args.id.0 _ c.stop_body.result (subst (λ (r : Register). GoesOn r c.args.id.0) (ap register_of c.self.view_is) c.in-None.ensures) c.stop_body.ensures.ranges c.stop_body.ensures.body)

pub returns-in-Err-clause-writes : goal.returns-in-Err-clause-writes
returns-in-Err-clause-writes g c =
    c.write.ensures.writes (stop_of c.args.id.0 c.args.told)
    (stop_entry _ c.args.id.0 _ c.stop_body.result (subst (λ (r : Register). GoesOn r c.args.id.0) (ap register_of c.self.view_is) c.in-None.ensures) c.stop_body.ensures.ranges c.stop_body.ensures.body)

pub returns-in-Ok-clause-wrote : goal.returns-in-Ok-clause-wrote
returns-in-Ok-clause-wrote g c =
    (c.in-Ok.ensures.wrote (stop_of c.args.id.0 c.args.told)
    (stop_entry _ c.args.id.0 _ c.stop_body.result (subst (λ (r : Register). GoesOn r c.args.id.0) (ap register_of c.self.view_is) c.in-None.ensures) c.stop_body.ensures.ranges c.stop_body.ensures.body)).wrote

pub returns-in-Ok-clause-made : goal.returns-in-Ok-clause-made
returns-in-Ok-clause-made g c =
    let change = stop_of c.args.id.0 c.args.told in
    let written = c.in-Ok.ensures.wrote change
    (stop_entry _ c.args.id.0 _ c.stop_body.result (subst (λ (r : Register). GoesOn r c.args.id.0) (ap register_of c.self.view_is) c.in-None.ensures) c.stop_body.ensures.ranges c.stop_body.ensures.body) in
    made_by _ _ _ _ change c.write.new.self.journal.gate written
    (c.stop.ensures ∙ ap (λ (r : Register). register_after r change) (ap register_of c.self-2.view_is ∙ c.write.ensures.same))
    (ap (λ (o : OpenArchive). o.journal.gate) c.self-2.view_is)
    (ap (λ (o : OpenArchive). o.journal.must_reopen) c.self-2.view_is ∙ c.in-Ok.ensures.must_reopen)
