use Rattle.std.proofs.Common.{decimal, ◌∙◌}
use Rattle.pb_csv.proofs.PlainLemmas.{adds_plain, plain_decimal}
use Rattle.pb_csv.proofs.line.push_number.Goals as goal

pub returns : goal.returns
returns c =
    adds_plain c.extend_from_slice.result _ _ _ (decimal c.args.number) c.extend_from_slice.ensures.items (c.as_bytes.ensures.value ∙ c.format.ensures.text)
    (plain_decimal c.args.number)
