use Rattle.std.proofs.Common.{◌<◌, length, take, get_or, ◌∙◌, ap, arith, length-append}
use Rattle.std.proofs.lemmas.Grind.{common_steps}
use Rattle.std.proofs.lemmas.List.{take_all}
use Rattle.pb_frame.specs.Framing.{quoted, quoted_byte}
use Rattle.pb_frame.proofs.QuotedLemmas.{quoted-nil, quoted-more, quoted-fits, length-quoted}
use Rattle.pb_frame.proofs.writer.quoted_length.Goals as goal

pub loop-byte-init : goal.loop-byte-init
loop-byte-init c = grind (arith, common_steps, quoted-nil)

pub overflow_add-n : goal.overflow_add-n
overflow_add-n c =
    let body = c.args.body.now in
    let i = c.loop-byte.byte-index in
    let below : i < length body = omega arith in
    omega (arith, quoted-fits body i below, length-quoted body)

pub loop-byte-preserved : goal.loop-byte-preserved
loop-byte-preserved c =
    let body = c.args.body.now in
    let i = c.loop-byte.byte-index in
    let below : i < length body = omega arith in
    omega (arith, ap length (quoted-more body i below) ∙ length-append (quoted (take i body)) (quoted_byte (get_or body i 0)))

pub returns-clause-bound : goal.returns-clause-bound
returns-clause-bound c =
    let body = c.args.body.now in
    omega (arith, c.loop-byte.invariant, ap (λ t. length (quoted t)) (take_all c.loop-byte.byte-index body c.loop-byte-test.false), length-quoted body)
