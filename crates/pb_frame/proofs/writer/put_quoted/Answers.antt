use Rattle.std.proofs.Common.{◌≡◌, ◌<◌, ◌≤◌, ◌+◌, ◌++◌, length, take, drop, get_or, sym, ◌∙◌, ap, arith, length-append, append_assoc}
use Rattle.std.proofs.lemmas.List.{append-nil, take-append-drop, length-take-le}
use Rattle.pb_frame.specs.Framing.{quoted, quoted_byte}
use Rattle.pb_frame.proofs.QuotedLemmas.{quoted-nil, quoted-more, quoted-fits}
use Rattle.pb_frame.proofs.RunLemmas.{put-next}
use Rattle.pb_frame.proofs.writer.put_quoted.Goals as goal

pub loop-byte-init : goal.loop-byte-init
loop-byte-init c =
    let out = c.args.out.now in
    let at = c.args.at in
    record {
      end = omega (arith, ap length quoted-nil);
      text = sym (ap (λ t. (take at out ++ t) ++ drop at out) quoted-nil ∙ ap (λ t. t ++ drop at out) (append-nil (take at out)) ∙ take-append-drop at out);
    }

pub loop-byte-preserved : goal.loop-byte-preserved
loop-byte-preserved c =
    let body = c.args.body.now in
    let old = c.args.out.now in
    let at = c.args.at in
    let i = c.loop-byte.byte-index in
    let to = c.loop-byte.to in
    let text = quoted_byte (get_or body i 0) in
    let below : i < length body = omega arith in
    let within : at ≤ length old = omega arith in
    let more = quoted-more body i below in
    let long : length (take at old ++ quoted (take i body)) ≡ to =
    length-append (take at old) (quoted (take i body)) ∙ ap (λ n. n + length (quoted (take i body))) (length-take-le at old within) ∙ sym c.loop-byte.invariant.end in
    record {
      end = omega (arith, ap length more ∙ length-append (quoted (take i body)) text, c.put_byte-to.ensures.end, c.loop-byte.invariant.end);
      text =
          put-next old c.loop-byte.out _ (take at old ++ quoted (take i body)) text to _ c.loop-byte.invariant.text long c.put_byte-to.ensures.end c.put_byte-to.ensures.text
          ∙ ap (λ t. t ++ drop c.put_byte-to.result old) (append_assoc (take at old) (quoted (take i body)) text ∙ ap (λ t. take at old ++ t) (sym more));
    }

pub put_byte-to-requires : goal.put_byte-to-requires
put_byte-to-requires c =
    let body = c.args.body.now in
    let i = c.loop-byte.byte-index in
    let below : i < length body = omega arith in
    omega (arith, quoted-fits body i below, c.loop-byte.invariant.end, c.loop-byte.auto.out)
