use Rattle.std.proofs.Common.{◌≡◌, sym, ap, ◌∙◌, subst, decimal, arith}
use Rattle.std.specs.Str.{IsUtf8}
use Rattle.std.specs.Cmp.Lexicographic.{bytes_decides}
use Rattle.std.proofs.lemmas.Bool.{not-true, true≢false}
use Rattle.std.proofs.lemmas.Fmt.{IsAscii-decimal, parse-decimal}
use Rattle.std.proofs.lemmas.Str.{IsUtf8-from_ascii}
use Rattle.pb_base.proofs.decimal.parse_decimal.Goals as goal

pub returns-in-Err : goal.returns-in-Err
returns-in-Err c n small is = c.in-Err.ensures.cases.0 (subst IsUtf8 (sym is) (IsUtf8-from_ascii (decimal n) (IsAscii-decimal n (omega arith))))

pub returns-in-Err-parse : goal.returns-in-Err-parse
returns-in-Err-parse c n small is =
    let read = parse-decimal 32 n c.in-Ok.text.now c.parse.result (omega arith) (omega arith) (c.in-Ok.ensures.cases.0 ∙ is) c.parse.ensures.value.0 in
    absurd (cc (read, c.in-Err-parse.is))

pub returns-then-ne : goal.returns-then-ne
returns-then-ne c n small is =
    let read = parse-decimal 32 n c.in-Ok.text.now c.parse.result (omega arith) (omega arith) (c.in-Ok.ensures.cases.0 ∙ is) c.parse.ensures.value.0 in
    let same : c.in-Ok-parse.n ≡ n = cc (read, c.in-Ok-parse.is) in
    let text = c.as_bytes.ensures.value ∙ c.format.ensures.text ∙ ap decimal same ∙ sym is in
    true≢false (sym ((bytes_decides c.as_bytes.result.now c.args.word.now).1 text) ∙ not-true _ (sym c.ne.ensures ∙ c.if-ne.true))
