use Rattle.std.proofs.Common.{sym, subst}
use Rattle.pb_bmp5.specs.declared.fragment.Fragment.{Fragment}
use Rattle.pb_bmp5.specs.CollectReply.{whole, seen_of}
use Rattle.pb_truth.specs.Learning.{taken}
use Rattle.pb_collect.specs.Progress.{Progress, IsAt, CanTake}
use Rattle.pb_collect.proofs.ProgressLemmas.{known_taken}
use Rattle.pb_collect.proofs.progress.Progress.take.Goals as goal

pub returns-in-Whole-clause-known : goal.returns-in-Whole-clause-known
returns-in-Whole-clause-known c k at =
    let p = c.args.self.now in
    let can = subst (λ (f : Fragment). CanTake p (seen_of f)) c.in-Whole.is c.requires in
    subst (λ (f : Fragment). IsAt c.take_run.new.self (taken p.layout k (seen_of f))) (sym c.in-Whole.is)
    (subst (λ (q : Progress). IsAt q (taken p.layout k (whole c.in-Whole.first.0 c.in-Whole.count c.in-Whole.bytes.now))) (sym c.take_run.ensures.after)
    (known_taken p k (whole c.in-Whole.first.0 c.in-Whole.count c.in-Whole.bytes.now) can at))
