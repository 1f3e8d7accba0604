use Rattle.std.proofs.Common.{sym, ◌∙◌, arith}
use Rattle.pb_tool.proofs.WordLemmas.{Unicast-one}
use Rattle.pb_tool.proofs.words.two_nodes.Goals as goal

pub returns-then-get : goal.returns-then-get
returns-then-get c = λ p.
    let me = Unicast-one p.0 c.in_ok-me.me p.2.me_unicast (omega (arith, c.in_ok-me.ensures.0)) (sym p.2.me_text ∙ c.in_ok-me.ensures.1) in
    let node = Unicast-one p.1 c.in_ok-node.node p.2.node_unicast (omega (arith, c.in_ok-node.ensures.0)) (sym p.2.node_text ∙ c.in_ok-node.ensures.1) in
    p.2.different (omega (arith, me, node, c.if-get.true))
