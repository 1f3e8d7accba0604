use Rattle.std.proofs.Common.{arith, sym, ◌∙◌}
use Rattle.std.proofs.lemmas.Fmt.{decimal_injective}
use Rattle.pakbus.proofs.peer.port_of.Goals.{then-port-eq0-via-then-port-eq0, then-port-eq0-via-else-port-eq0+then-port-from}
use Rattle.pakbus.proofs.peer.port_of.Goals as goal

pub returns-then-port-eq0 : goal.returns-then-port-eq0
returns-then-port-eq0 c port small is =
    let same = decimal_injective port c.in_ok-port.port (omega (arith, small)) (omega arith) (sym is.text ∙ sym c.as_bytes.ensures.value ∙ c.in_ok-port.ensures) in
    elim c.then-port-eq0.branch [
      | then-port-eq0-via-then-port-eq0 w ↦ omega (arith, same, is.some, w.if-port-eq0.true)
      | then-port-eq0-via-else-port-eq0+then-port-from w ↦ omega (arith, same, small, w.if-port-from.true)
    ]
