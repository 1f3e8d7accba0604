use Rattle.std.proofs.Common.{arith, ◌-◌, ◌+◌, refl, rules, ap, ◌∙◌}
use Rattle.pb_io.proofs.SinkLemmas.{OnErr-anyway}
use Rattle.pb_trans.specs.Waiting.{after_sending}
use Rattle.pb_ask.proofs.PassLemmas.{Passes-refl, Passes-less, Passes-trans, Passes-sending, Passes-sent, Passes-maybe}
use Rattle.pb_ask.proofs.AskLemmas.{Going-start, few_sent, sent_more, sent_frame, maybe_sent, stops_sending, stops_listening, asks_ended, Going-more, count_more, listens_as}
use Rattle.pb_ask.proofs.listener.Listener.ask.Goals as goal

pub loop-self-init : goal.loop-self-init
loop-self-init g c = record {
  so_far = Going-start (g.Q.Question.wanted c.args.question.now) c.args.limits c.args.self.now (g.S.Disk.view c.args.site.now).link c.begin-exchange.result c.requires.sends (c.begin-exchange.ensures.value ∙ ap (λ a. after_sending a c.args.limits 1) c.asked.ensures);
  passes = Passes-less (g.Q.Question.wanted c.args.question.now).frame 0 _ _ _ (omega arith) (Passes-refl (g.Q.Question.wanted c.args.question.now).frame _ (g.met.S.Disk.lawful c.args.site.now));
  still = refl;
}

pub loop-self-preserved : goal.loop-self-preserved
loop-self-preserved g c =
    let heard = c.in_ok-conclusion.ensures in
    let sent = c.in_ok-send.ensures in
    record {
      so_far = Going-more (g.Q.Question.wanted c.args.question.now) c.args.limits c.args.self.now (g.S.Disk.view c.args.site.now).link c.loop-self.self c.listen.new.self (g.S.Disk.view c.loop-self.site).link (g.S.Disk.view c.send.new.self).link (g.S.Disk.view c.listen.new.site).link c.loop-self.exchange c.loop-self.invariant.so_far (sent_frame (g.Q.Question.wanted c.args.question.now) c.args.limits c.args.self.now (g.S.Disk.view c.args.site.now).link c.write-len.ensures.frame c.in_ok-send.ensures.world) c.in_ok-send.ensures.quiets c.listen.new.exchange (listens_as (g.Q.Question.wanted c.args.question.now) c.args.limits c.args.self.now (g.S.Disk.view c.args.site.now).link c.loop-self.self c.listen.new.self (g.S.Disk.view c.loop-self.site).link (g.S.Disk.view c.send.new.self).link (g.S.Disk.view c.listen.new.site).link c.loop-self.exchange c.loop-self.invariant.so_far (sent_frame (g.Q.Question.wanted c.args.question.now) c.args.limits c.args.self.now (g.S.Disk.view c.args.site.now).link c.write-len.ensures.frame c.in_ok-send.ensures.world) c.in_ok-send.ensures.quiets c.listen.new.exchange c.in_default.is heard.listens);
      passes = Passes-sending (g.Q.Question.wanted c.args.question.now).frame (c.loop-self.exchange.sent - 1) (c.listen.new.exchange.sent - 1) _ _ _ _ (sent_more (g.Q.Question.wanted c.args.question.now) c.args.limits c.args.self.now (g.S.Disk.view c.args.site.now).link c.loop-self.self c.listen.new.self (g.S.Disk.view c.loop-self.site).link (g.S.Disk.view c.send.new.self).link (g.S.Disk.view c.listen.new.site).link c.loop-self.exchange c.loop-self.invariant.so_far (sent_frame (g.Q.Question.wanted c.args.question.now) c.args.limits c.args.self.now (g.S.Disk.view c.args.site.now).link c.write-len.ensures.frame c.in_ok-send.ensures.world) c.in_ok-send.ensures.quiets c.listen.new.exchange (listens_as (g.Q.Question.wanted c.args.question.now) c.args.limits c.args.self.now (g.S.Disk.view c.args.site.now).link c.loop-self.self c.listen.new.self (g.S.Disk.view c.loop-self.site).link (g.S.Disk.view c.send.new.self).link (g.S.Disk.view c.listen.new.site).link c.loop-self.exchange c.loop-self.invariant.so_far (sent_frame (g.Q.Question.wanted c.args.question.now) c.args.limits c.args.self.now (g.S.Disk.view c.args.site.now).link c.write-len.ensures.frame c.in_ok-send.ensures.world) c.in_ok-send.ensures.quiets c.listen.new.exchange c.in_default.is heard.listens)) c.loop-self.invariant.passes (Passes-sent (g.Q.Question.wanted c.args.question.now).frame _ _ (g.met.S.Disk.lawful c.loop-self.site) sent.disk sent.disk_faults sent.time sent.cause.later (sent_frame (g.Q.Question.wanted c.args.question.now) c.args.limits c.args.self.now (g.S.Disk.view c.args.site.now).link c.write-len.ensures.frame c.in_ok-send.ensures.world)) (heard.passes (g.Q.Question.wanted c.args.question.now).frame);
      still = heard.cause.kept ∙ sent.cause.kept ∙ c.loop-self.invariant.still;
    }

pub returns-in_err-send-clause-stops : goal.returns-in_err-send-clause-stops
returns-in_err-send-clause-stops g c = OnErr-anyway _ _ (stops_sending (g.Q.Question.wanted c.args.question.now) c.args.limits c.args.self.now (g.S.Disk.view c.args.site.now).link c.loop-self.self c.loop-self.self (g.S.Disk.view c.loop-self.site).link (g.S.Disk.view c.send.new.self).link (g.S.Disk.view c.args.site.now).link c.loop-self.exchange c.loop-self.invariant.so_far c.in_err-send.ensures.quiets (maybe_sent (g.Q.Question.wanted c.args.question.now) c.args.limits c.args.self.now (g.S.Disk.view c.args.site.now).link c.write-len.ensures.frame c.in_err-send.ensures.world))

pub returns-in_err-send-clause-passes : goal.returns-in_err-send-clause-passes
returns-in_err-send-clause-passes g c =
    let sent = c.in_err-send.ensures in
    Passes-less (g.Q.Question.wanted c.args.question.now).frame ((c.loop-self.exchange.sent - 1) + 1) _ _ _ (omega (arith, (few_sent (g.Q.Question.wanted c.args.question.now) c.args.limits c.args.self.now (g.S.Disk.view c.args.site.now).link c.loop-self.self (g.S.Disk.view c.loop-self.site).link c.loop-self.exchange c.loop-self.invariant.so_far)))
    (Passes-trans (g.Q.Question.wanted c.args.question.now).frame (c.loop-self.exchange.sent - 1) 1 _ _ _ c.loop-self.invariant.passes
    (Passes-maybe (g.Q.Question.wanted c.args.question.now).frame _ _ (g.met.S.Disk.lawful c.loop-self.site) sent.disk sent.disk_faults sent.time sent.cause.later (maybe_sent (g.Q.Question.wanted c.args.question.now) c.args.limits c.args.self.now (g.S.Disk.view c.args.site.now).link c.write-len.ensures.frame sent.world)))

pub returns-in_err-conclusion-clause-stops : goal.returns-in_err-conclusion-clause-stops
returns-in_err-conclusion-clause-stops g c = OnErr-anyway _ _ (stops_listening (g.Q.Question.wanted c.args.question.now) c.args.limits c.args.self.now (g.S.Disk.view c.args.site.now).link c.loop-self.self c.listen.new.self (g.S.Disk.view c.loop-self.site).link (g.S.Disk.view c.send.new.self).link (g.S.Disk.view c.listen.new.site).link c.loop-self.exchange c.loop-self.invariant.so_far (sent_frame (g.Q.Question.wanted c.args.question.now) c.args.limits c.args.self.now (g.S.Disk.view c.args.site.now).link c.write-len.ensures.frame c.in_ok-send.ensures.world) c.in_ok-send.ensures.quiets c.in_err-conclusion.ensures.breaks)

pub returns-in_err-conclusion-clause-passes : goal.returns-in_err-conclusion-clause-passes
returns-in_err-conclusion-clause-passes g c =
    let sent = c.in_ok-send.ensures in
    Passes-sending (g.Q.Question.wanted c.args.question.now).frame (c.loop-self.exchange.sent - 1) _ _ _ _ _ (few_sent (g.Q.Question.wanted c.args.question.now) c.args.limits c.args.self.now (g.S.Disk.view c.args.site.now).link c.loop-self.self (g.S.Disk.view c.loop-self.site).link c.loop-self.exchange c.loop-self.invariant.so_far) c.loop-self.invariant.passes (Passes-sent (g.Q.Question.wanted c.args.question.now).frame _ _ (g.met.S.Disk.lawful c.loop-self.site) sent.disk sent.disk_faults sent.time sent.cause.later (sent_frame (g.Q.Question.wanted c.args.question.now) c.args.limits c.args.self.now (g.S.Disk.view c.args.site.now).link c.write-len.ensures.frame c.in_ok-send.ensures.world)) (c.in_err-conclusion.ensures.passes (g.Q.Question.wanted c.args.question.now).frame)

pub returns-in-Some-clause-asks : goal.returns-in-Some-clause-asks
returns-in-Some-clause-asks g c =
    asks_ended (g.Q.Question.wanted c.args.question.now) c.args.limits c.args.self.now (g.S.Disk.view c.args.site.now).link c.loop-self.self c.listen.new.self (g.S.Disk.view c.loop-self.site).link (g.S.Disk.view c.send.new.self).link (g.S.Disk.view c.listen.new.site).link c.loop-self.exchange c.loop-self.invariant.so_far (sent_frame (g.Q.Question.wanted c.args.question.now) c.args.limits c.args.self.now (g.S.Disk.view c.args.site.now).link c.write-len.ensures.frame c.in_ok-send.ensures.world) c.in_ok-send.ensures.quiets c.in-Some.conclusion c.listen.new.exchange (listens_as (g.Q.Question.wanted c.args.question.now) c.args.limits c.args.self.now (g.S.Disk.view c.args.site.now).link c.loop-self.self c.listen.new.self (g.S.Disk.view c.loop-self.site).link (g.S.Disk.view c.send.new.self).link (g.S.Disk.view c.listen.new.site).link c.loop-self.exchange c.loop-self.invariant.so_far (sent_frame (g.Q.Question.wanted c.args.question.now) c.args.limits c.args.self.now (g.S.Disk.view c.args.site.now).link c.write-len.ensures.frame c.in_ok-send.ensures.world) c.in_ok-send.ensures.quiets c.listen.new.exchange c.in-Some.is c.in_ok-conclusion.ensures.listens)

pub returns-in-Some-clause-passes : goal.returns-in-Some-clause-passes
returns-in-Some-clause-passes g c =
    let sent = c.in_ok-send.ensures in
    Passes-sending (g.Q.Question.wanted c.args.question.now).frame (c.loop-self.exchange.sent - 1) _ _ _ _ _ (few_sent (g.Q.Question.wanted c.args.question.now) c.args.limits c.args.self.now (g.S.Disk.view c.args.site.now).link c.loop-self.self (g.S.Disk.view c.loop-self.site).link c.loop-self.exchange c.loop-self.invariant.so_far) c.loop-self.invariant.passes (Passes-sent (g.Q.Question.wanted c.args.question.now).frame _ _ (g.met.S.Disk.lawful c.loop-self.site) sent.disk sent.disk_faults sent.time sent.cause.later (sent_frame (g.Q.Question.wanted c.args.question.now) c.args.limits c.args.self.now (g.S.Disk.view c.args.site.now).link c.write-len.ensures.frame c.in_ok-send.ensures.world)) (c.in_ok-conclusion.ensures.passes (g.Q.Question.wanted c.args.question.now).frame)

pub returns-in-Some-clause-count : goal.returns-in-Some-clause-count
returns-in-Some-clause-count g c =
    count_more (g.Q.Question.wanted c.args.question.now) c.args.limits c.args.self.now (g.S.Disk.view c.args.site.now).link c.loop-self.self c.listen.new.self (g.S.Disk.view c.loop-self.site).link (g.S.Disk.view c.send.new.self).link (g.S.Disk.view c.listen.new.site).link c.loop-self.exchange c.loop-self.invariant.so_far (sent_frame (g.Q.Question.wanted c.args.question.now) c.args.limits c.args.self.now (g.S.Disk.view c.args.site.now).link c.write-len.ensures.frame c.in_ok-send.ensures.world) c.in_ok-send.ensures.quiets _ c.listen.new.exchange c.in_ok-conclusion.ensures.listens (search rules)
