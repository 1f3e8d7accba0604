use Rattle.std.proofs.Common.{arith, ◌≡◌, sym, subst, ◌+◌}
use Rattle.pb_script.specs.Script.{IsScript, Script, all_ring_bytes}
use Rattle.pb_script.proofs.DraftLemmas.{declared_is}
use Rattle.pb_script.proofs.draft.Draft.declare.Goals as goal

pub invariant_of-self : goal.invariant_of-self
invariant_of-self c =
    let d = c.self.inside in
    let s : Script = record { me = d.me; name = d.station.name; addr = d.station.addr; code = d.station.code; tables = d.tables.items; storing = d.storing } in
    subst (λ l. IsScript (record s { tables = l }) × (d.used + c.ring_bytes-bytes.result ≡ all_ring_bytes l)) (sym c.in-Ok.ensures.items)
    (declared_is s c.args.table d.used c.ring_bytes-bytes.result c.self.invariant.0 c.self.invariant.1 c.ring_bytes-bytes.ensures c.requires.is (omega arith) (omega arith))
