use Rattle.std.proofs.Common.{drop, subst, ap, arith}
use Rattle.pb_base.specs.Fields.{IsBytes}
use Rattle.pb_base.proofs.FieldLaws.{IsBytes-drop}
use Rattle.pb_archive.proofs.run.run_in.Goals as goal

pub run_of-requires : goal.run_of-requires
run_of-requires c =
    subst IsBytes (ap (drop 9) c.in-Some.ensures.read) (IsBytes-drop 9 _ (IsBytes-drop 1 c.args.body.now (λ i. omega (arith, c.type_inv.body i))))
