use Rattle.std.proofs.Common.{ap, ◌∙◌, rules}
use Rattle.pb_collect.specs.Inside.{first_records}
use Rattle.pb_collect.proofs.ProgressLemmas.{from_fits, part_fits}
use Rattle.pb_collect.proofs.answer.fits.Goals as goal

pub returns-in-From : goal.returns-in-From
returns-in-From c = from_fits _ _ c.args.reply.now _ _ c.in-From.is (c.first_records-first.ensures ∙ ap first_records c.fragments.ensures) (search rules) c.begins_from.ensures

pub returns-in-Part : goal.returns-in-Part
returns-in-Part c = part_fits _ _ _ c.args.reply.now _ _ c.in-Part.is (c.first_records-first.ensures ∙ ap first_records c.fragments.ensures) (search rules) c.begins_with_part.ensures
