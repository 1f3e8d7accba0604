use Rattle.pb_csv.proofs.PlainLemmas.{adds_next, not_text, plain_value}
use Rattle.pb_csv.proofs.line.push_plain.Goals as goal

pub returns : goal.returns
returns c =
    let value = c.args.value.now in
    adds_next c.extend_from_slice.result _ _ _ _ _ c.in-Ok.len c.extend_from_slice.ensures.items c.in-Ok.ensures.written
    (plain_value value.kind value.bytes.now (not_text value.kind c.requires.plain))
