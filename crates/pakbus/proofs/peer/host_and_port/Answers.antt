use Rattle.std.proofs.Common.{arith, sym, ◌∙◌}
use Rattle.std.specs.Cmp.Lexicographic.{bytes_decides}
use Rattle.pakbus.proofs.PeerLemmas.{cut_peer, last_cut, no_colon, no_host, no_port}
use Rattle.pakbus.proofs.peer.host_and_port.Goals as goal

pub returns-in_err-text : goal.returns-in_err-text
returns-in_err-text c = rw c.from_residual.ensures (λ host port small. no_colon c.args.word.now host port c.in_err-text.ensures.cases)

pub returns-then-eq : goal.returns-then-eq
returns-then-eq c host port small peer =
    let whole = last_cut 58 c.args.word.now c.in_ok-text.text.now c.in_ok-text.digits.now (omega arith) c.in_ok-text.ensures.cases in
    let same = cut_peer c.args.word.now host c.in_ok-text.digits.now c.in_ok-text.text.now port small whole peer in
    peer.not_listen (sym same.0 ∙ (bytes_decides c.in_ok-text.text.now _).0 (sym c.if-eq.ensures))

pub returns-in_err-host : goal.returns-in_err-host
returns-in_err-host c =
    let whole = last_cut 58 c.args.word.now c.in_ok-text.text.now c.in_ok-text.digits.now (omega arith) c.in_ok-text.ensures.cases in
    rw c.from_residual-in_err-host.ensures (λ host port small. no_host c.args.word.now host c.in_ok-text.digits.now c.in_ok-text.text.now port whole c.in_err-host.ensures small)

pub returns-in_err-port : goal.returns-in_err-port
returns-in_err-port c =
    let whole = last_cut 58 c.args.word.now c.in_ok-text.text.now c.in_ok-text.digits.now (omega arith) c.in_ok-text.ensures.cases in
    rw c.from_residual-in_err-port.ensures (λ host port small. no_port c.args.word.now host c.in_ok-text.digits.now c.in_ok-text.text.now port whole c.in_err-port.ensures small)
