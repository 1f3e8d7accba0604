use Rattle.std.proofs.Common.{arith, refl}
use Rattle.pb_archive.specs.Inside.{seen_advance}
use Rattle.pb_archive.proofs.RunLemmas.{run_is}
use Rattle.pb_archive.proofs.run.run_of.Goals as goal

pub returns-clause-run : goal.returns-clause-run
returns-clause-run c =
    run_is c.args.layout (seen_advance c.args.advance.now) c.requires (omega (arith, c.in_ok-checked_add.ensures)) (c.if-not-has_form.ensures.0 refl)
