use Rattle.std.proofs.Common.{arith, ap, subst, ◌≡◌, ◌+◌, ◌<◌, ◌≤◌, ℕ, List, length, drop, length-drop, rules, None}
use Rattle.pb_ask.specs.Inside.{Judged}
use Rattle.pb_ask.specs.Listening.{Listening}
use Rattle.pb_ask.specs.Wanted.{EndsBy}
use Rattle.pb_ask.proofs.JudgeLemmas.{Judged-byte, Judged-body}
use Rattle.pb_ask.proofs.listener.Listener.judge_run.Goals as goal

below : (n : ℕ) (bytes inbox : List ℕ) → bytes ≡ inbox → n ≤ length bytes → (n ≡ length bytes → ⊥) → n < length inbox
below n bytes inbox is front not = omega (arith, ap length is)

shorter : (n : ℕ) (old new : List ℕ) → new ≡ drop (n + 1) old → n < length old → length new < length old
shorter n old new is small = omega (arith, ap length is, length-drop (n + 1) old, small)

pub returns-clause-judged : goal.returns-clause-judged
returns-clause-judged g c =
    let P = EndsBy (g.Q.Question.wanted c.args.question.now) in
    let old = c.self.inside in
    subst (λ (l : Listening). Judged P l c.args.exchange.now c.judge_content.result (record { ear = c.push-heard.new.self; inbox = c.skip-2.new.self }) c.judge_content.new.exchange) c.self.view_is (
    Judged-body P (record { ear = old.ear; inbox = old.inbox }) c.args.exchange.now c.judge_content.new.exchange c.take_plain-n.new.self c.push-heard.new.self c.take_plain-n.result c.in-Body.at c.bytes-bytes.result.now c.skip-2.new.self
    c.content.result.now c.judge_content.result c.bytes-bytes.ensures.value (below _ _ _ c.bytes-bytes.ensures.value c.take_plain-n.ensures.front c.if-n-bytes.false) c.take_plain-n.ensures.follows c.take_plain-n.ensures.count c.in-Body.ensures.follows c.in-Body.ensures.count c.skip-2.ensures
    c.content.ensures.value c.in-Body.ensures.answer.1 c.judge_content.ensures.ends c.judge_content.ensures.heeds
    )

pub returns-in_default : goal.returns-in_default
returns-in_default g c =
    let P = EndsBy (g.Q.Question.wanted c.args.question.now) in
    let old = c.self.inside in
    let small = below _ _ _ c.bytes-bytes.ensures.value c.take_plain-n.ensures.front c.if-n-bytes.false in
    record {
      judged = subst (λ (l : Listening). Judged P l c.args.exchange.now None (record { ear = c.push-heard.new.self; inbox = c.skip-2.new.self }) c.args.exchange.now) c.self.view_is (
          Judged-byte P (record { ear = old.ear; inbox = old.inbox }) c.args.exchange.now c.take_plain-n.new.self c.push-heard.new.self c.take_plain-n.result c.bytes-bytes.result.now c.skip-2.new.self
          c.push-heard.result c.bytes-bytes.ensures.value small c.take_plain-n.ensures.follows c.take_plain-n.ensures.count c.push-heard.ensures.follows c.push-heard.ensures.count c.skip-2.ensures (search rules)
          );
      some = subst (λ (l : Listening). length c.skip-2.new.self < length l.inbox) c.self.view_is (shorter c.take_plain-n.result old.inbox c.skip-2.new.self c.skip-2.ensures small);
    }
