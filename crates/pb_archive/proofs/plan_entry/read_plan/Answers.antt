use Rattle.std.proofs.Common.{sym, arith, subst}
use Rattle.pb_base.specs.Fields.{Unread, IsBytes}
use Rattle.pb_base.proofs.FieldLaws.{IsBytes-drop, IsBytes-take}
use Rattle.pb_archive.proofs.plan_entry.read_plan.Goals as goal

pub read_stations-requires-clause-bytes : goal.read_stations-requires-clause-bytes
read_stations-requires-clause-bytes c =
    subst (λ (u : Unread). IsBytes u.rest) (sym c.new-fields.ensures) (IsBytes-take _ _ (IsBytes-drop 6 c.args.body.now (λ i. omega (arith, c.type_inv.body i))))
