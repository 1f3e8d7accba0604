use Rattle.std.proofs.Common.{arith, ◌∙◌}
use Rattle.pb_journal.proofs.GateLemmas.{part-prefix, length-part}
use Rattle.pb_journal.proofs.WindowLemmas.{shown_bytes}
use Rattle.pb_journal.proofs.walk.look.Goals as goal

pub returns-clause-gate : goal.returns-clause-gate
returns-clause-gate g c f view shows =
    let place = c.args.place in
    let end = c.args.end in
    let filled = c.in_ok-fill.ensures in
    let within = c.requires.file f view in
    c.gate_of.ensures.is _ (length-part f place end (omega arith) within)
    (c.bytes.ensures.value ∙ shown_bytes c.fill.new.self place _ f filled.covers (filled.shows f view shows) ∙ part-prefix f place end _ c.requires.within within (omega (arith, c.min-count.ensures)))
