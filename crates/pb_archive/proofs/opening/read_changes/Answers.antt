use Rattle.std.proofs.Common.{◌∙◌, subst}
use Rattle.pb_journal.proofs.RunLemmas.{Peeks-trans}
use Rattle.pb_archive.specs.Inside.{ReadsNext}
use Rattle.pb_archive.proofs.opening.read_changes.Goals as goal

pub loop-fault-preserved : goal.loop-fault-preserved
loop-fault-preserved g c = record {
  so_far = λ f view.
      subst (λ more. ReadsNext c.read_next.new.register c.read_next.new.entries c.args.journal.now.gate more f) c.in-Ok-true.field-0-test
      (c.in-Ok-true.ensures.read f (c.loop-fault.invariant.peeks.disk.file ∙ view));
  peeks = Peeks-trans _ _ _ c.loop-fault.invariant.peeks c.read_next.ensures.peeks;
  kept = c.in-Ok-true.ensures.cause.kept (λ e. cc e) ∙ c.loop-fault.invariant.kept;
}

pub returns-in-Ok-false-clause-read : goal.returns-in-Ok-false-clause-read
returns-in-Ok-false-clause-read g c f view =
    subst (λ more. ReadsNext c.read_next.new.register c.read_next.new.entries c.args.journal.now.gate more f) c.in-Ok-false.field-0-test
    (c.in-Ok-false.ensures.read f (c.loop-fault.invariant.peeks.disk.file ∙ view))
