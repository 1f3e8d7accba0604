use Rattle.pb_csv.proofs.PlainLemmas.{adds_next, plain_time}
use Rattle.pb_csv.proofs.line.push_time.Goals as goal

pub returns-clause-added : goal.returns-clause-added
returns-clause-added c =
    adds_next c.extend_from_slice.result _ _ _ _ _ c.in-Ok.len c.extend_from_slice.ensures.items c.in-Ok.ensures.written (plain_time c.args.time)
