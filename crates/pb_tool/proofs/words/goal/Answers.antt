use Rattle.std.proofs.Common.{arith, sym, ◌∙◌}
use Rattle.pb_tool.proofs.WordLemmas.{Goal-made}
use Rattle.pb_tool.proofs.words.goal.Goals as goal

pub returns : goal.returns
returns c =
    Goal-made c.new.result c.in_ok-n.n c.args.word.now c.new.ensures (omega arith) (sym c.in_ok-n.ensures ∙ c.as_bytes.ensures.value)
