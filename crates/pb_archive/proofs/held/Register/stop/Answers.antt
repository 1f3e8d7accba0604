use Rattle.std.proofs.Common.{ℕ, List, arith, ◌∙◌, ap, ◌<◌, length}
use Rattle.pb_archive.specs.Archive.{changed_at}
use Rattle.pb_archive.specs.Opened as opened
use Rattle.pb_archive.specs.declared.held.Held.{Held}
use Rattle.pb_archive.proofs.HeldLemmas.{set_changed_at}
use Rattle.pb_archive.proofs.held.Register.stop.Goals as goal

pub returns : goal.returns
returns c =
    let f = opened.ended c.args.stop in
    let items = c.self.inside.tables.items in
    let within : c.from.result < length items = omega (arith, c.requires, ap (λ (r : opened.Register). length r.tables) c.self.view_is, c.from.ensures) in
    let made : opened.Register → opened.Register = λ r. record { plan = r.plan; tables = changed_at c.args.id.0 f r.tables } in
    ap (λ (l : List Held). let r : opened.Register = record { plan = c.self.inside.plan; tables = l } in r)
    (set_changed_at f items c.from.result c.index_mut.result.now c.index_mut.result.now within c.index_mut.ensures.value ∙ ap (λ (n : ℕ). changed_at n f items) c.from.ensures)
    ∙ ap made c.self.view_is
