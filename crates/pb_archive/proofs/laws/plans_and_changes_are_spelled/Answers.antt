use Rattle.std.proofs.Common.{refl}
use Rattle.std.specs.Fmt.{digits}
use Rattle.pb_archive.proofs.laws.plans_and_changes_are_spelled.Goals as goal

pub returns : goal.returns
unfolding digits
returns c = (refl, refl, refl, refl, refl)
