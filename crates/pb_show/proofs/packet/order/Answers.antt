use Rattle.std.proofs.Common.{[], ◌∷◌, sym, arith}
use Rattle.std.specs.Prelude.{codes}
use Rattle.std.proofs.lemmas.Fmt.{decimal_digit}
use Rattle.pb_io.specs.Page.{joined}
use Rattle.pb_show.specs.PacketText.{order_text}
use Rattle.pb_show.proofs.packet.order.Goals as goal

pub returns : goal.returns
unfolding order_text
returns c =
    let fits = c.requires in
    let more = decimal_digit c.args.phys.now.more (omega (arith, fits.more)) in
    let priority = decimal_digit c.args.phys.now.priority (omega (arith, fits.priority)) in
    sym (λ i. joined (codes " more " ∷ more i ∷ codes " pri " ∷ priority i ∷ []))
