use Rattle.std.proofs.Common.{rules, arith}
use Rattle.pb_journal.proofs.GateLemmas.{entry_by_prefix}
use Rattle.pb_journal.proofs.walk.gate_of.Goals as goal

pub returns-clause-is : goal.returns-clause-is
returns-clause-is c tail size prefix =
    let large = c.type_inv.prefix 3 in
    let small = c.type_inv.prefix 4 in
    entry_by_prefix tail c.args.prefix.now c.args.left size prefix
    (record {
      opened_gate = c.if-prefix-ne-OPEN.false;
      first = c.if-prefix-ne0.false;
      second = c.if-prefix-ne0-2.false;
      large = search rules;
      small = search rules;
      some = omega arith;
    })
    (omega arith)
