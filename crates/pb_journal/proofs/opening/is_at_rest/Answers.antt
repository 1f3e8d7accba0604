use Rattle.std.proofs.Common.{◌∙◌}
use Rattle.std.proofs.lemmas.Bool.{eqb-true}
use Rattle.pb_journal.proofs.WalkLemmas.{at_end}
use Rattle.pb_journal.proofs.WindowLemmas.{shown_bytes}
use Rattle.pb_journal.proofs.opening.is_at_rest.Goals as goal

pub returns-then-bytes-eq-CLOSED-clause-rests : goal.returns-then-bytes-eq-CLOSED-clause-rests
returns-then-bytes-eq-CLOSED-clause-rests g c last f view =
    let filled = c.in_ok-fill.ensures in
    let shows = filled.shows f view (c.requires.shows f view) in
    at_end c.args.gate f _ (c.requires.ends f view) (eqb-true _ _ last ∙ (c.requires.size f view).size) (c.bytes.ensures.value ∙ shown_bytes c.fill.new.self c.args.gate _ f filled.covers shows) c.if-bytes-eq-CLOSED.true
