use Rattle.std.proofs.Common.{IfOk, OnErr, ℕ, rules}
use Rattle.pb_base.specs.Put.{IsWritten, DoesNotFit}
use Rattle.pb_bmp5.specs.Message.{CollectReply, InRange}
use Rattle.pb_bmp5.proofs.ReplyLaws.{collect_answer_bytes, collect_refusal_bytes, collect_refusal_fits, at_zero}
use Rattle.pb_bmp5.proofs.collect_answer.write_collect_reply.Goals as goal

pub returns-then-resp-ne0-clause-written : goal.returns-then-resp-ne0-clause-written
returns-then-resp-ne0-clause-written c =
    collect_refusal_bytes _ _ c.args.bytes.now (λ b. IfOk c.write_refusal.result (IsWritten b c.args.out.now c.write_refusal.new.out)) c.if-resp-ne0.true c.write_refusal.ensures.written

pub returns-then-resp-ne0-clause-full : goal.returns-then-resp-ne0-clause-full
returns-then-resp-ne0-clause-full c =
    collect_refusal_bytes _ _ c.args.bytes.now (λ b. OnErr c.write_refusal.result (DoesNotFit b c.args.out.now c.write_refusal.new.out)) c.if-resp-ne0.true c.write_refusal.ensures.full

pub returns-then-resp-ne0-clause-in_range : goal.returns-then-resp-ne0-clause-in_range
returns-then-resp-ne0-clause-in_range c = collect_refusal_fits _ _ c.args.bytes.now c.if-resp-ne0.true (search rules) (search rules)

pub returns-clause-written : goal.returns-clause-written
returns-clause-written c =
    collect_answer_bytes _ _ c.args.bytes.now (λ b. IfOk c.write_pieces.result (IsWritten b c.args.out.now c.write_pieces.new.out)) c.if-resp-ne0.false c.write_pieces.ensures.written

pub returns-clause-full : goal.returns-clause-full
returns-clause-full c =
    collect_answer_bytes _ _ c.args.bytes.now (λ b. OnErr c.write_pieces.result (DoesNotFit b c.args.out.now c.write_pieces.new.out)) c.if-resp-ne0.false c.write_pieces.ensures.full

pub returns-clause-in_range : goal.returns-clause-in_range
returns-clause-in_range c = at_zero (λ (n : ℕ). InRange (CollectReply c.args.tran n c.args.bytes.now)) c.args.resp c.if-resp-ne0.false (search rules)
