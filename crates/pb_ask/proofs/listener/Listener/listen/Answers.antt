use Rattle.std.proofs.Common.{refl, ap, subst, ◌∙◌, ◌≡◌, ℕ}
use Rattle.pb_io.proofs.SinkLemmas.{OnErr-anyway}
use Rattle.pb_trans.specs.declared.asked.Step.{Step}
use Rattle.pb_trans.specs.Waiting.{Waiting}
use Rattle.pb_ask.specs.Listening.{Listening}
use Rattle.pb_ask.specs.Wanted.{EndsBy}
use Rattle.pb_ask.specs.Inside.{Counted}
use Rattle.pb_ask.proofs.JudgeLemmas.{judged_as, judged_at}
use Rattle.pb_ask.proofs.PassLemmas.{Passes-refl, Passes-trans, Passes-heard, Passes-nothing}
use Rattle.pb_ask.proofs.RunLemmas.{comes, Ongoing-start, listens_first, listens_ended, Ongoing-more, measure, listens_resend, listens_no_answer, listens_flooded, breaks}
use Rattle.pb_ask.proofs.listener.Listener.listen.Goals as goal

counted_as : {e f : Waiting} {n : ℕ} {s t : Step} → s ≡ t → Counted e n s f → Counted e n t f
counted_as {e} {f} {n} is c = subst (λ (v : Step). Counted e n v f) is c

pub loop-n-init : goal.loop-n-init
loop-n-init g c = record {
  so_far = Ongoing-start (g.Q.Question.wanted c.args.question.now) c.args.self.now (g.S.Disk.view c.args.site.now).link c.args.exchange.now c.judge.new.self c.judge.new.exchange c.judge.ensures.room c.requires.begun c.requires.some
      (judged_as (EndsBy (g.Q.Question.wanted c.args.question.now)) c.in_default.is c.judge.ensures.judged) (c.judge.ensures.all c.in_default.is);
  passes = λ frame. Passes-refl frame _ (g.met.S.Disk.lawful c.args.site.now);
  still = refl;
}

pub returns-in-Some-clause-listens : goal.returns-in-Some-clause-listens
returns-in-Some-clause-listens g c =
    listens_first (g.Q.Question.wanted c.args.question.now) c.args.self.now (g.S.Disk.view c.args.site.now).link c.args.exchange.now c.judge.new.self c.in-Some.ended c.conclusion_of.result c.judge.new.exchange c.judge.ensures.room c.requires.begun c.requires.some c.requires.sent
    (judged_as (EndsBy (g.Q.Question.wanted c.args.question.now)) c.in-Some.is c.judge.ensures.judged) c.conclusion_of.ensures

pub returns-in_err-n-clause-breaks : goal.returns-in_err-n-clause-breaks
returns-in_err-n-clause-breaks g c =
    OnErr-anyway _ _ (breaks (g.Q.Question.wanted c.args.question.now) c.args.self.now (g.S.Disk.view c.args.site.now).link c.args.exchange.now c.loop-n.self (record { ear = c.self.inside.ear; inbox = c.fill.new.self }) (g.S.Disk.view c.loop-n.site).link (g.S.Disk.view c.fill.new.site).link c.loop-n.exchange c.loop-n.invariant.so_far (ap (λ (l : Listening). l.ear) c.self.view_is) c.in_err-n.ensures.nothing (record { grows = c.in_err-n.ensures.world; quiets = c.in_err-n.ensures.still }))

pub returns-in_err-n-clause-passes : goal.returns-in_err-n-clause-passes
returns-in_err-n-clause-passes g c = λ frame.
    let came = c.in_err-n.ensures in
    Passes-trans frame 0 0 _ _ _ (c.loop-n.invariant.passes frame) (Passes-nothing frame 0 _ _ (g.met.S.Disk.lawful c.loop-n.site) came.disk came.disk_faults came.time came.cause.later came.world)

pub returns-in-Some-judge-clause-listens : goal.returns-in-Some-judge-clause-listens
returns-in-Some-judge-clause-listens g c =
    let came = c.in_ok-n.ensures in
    listens_ended (g.Q.Question.wanted c.args.question.now) c.args.self.now (g.S.Disk.view c.args.site.now).link c.args.exchange.now c.loop-n.self c.judge-in-loop-n.new.self (g.S.Disk.view c.loop-n.site).link (g.S.Disk.view c.fill.new.site).link c.loop-n.exchange c.loop-n.invariant.so_far c.fill.new.self
    (comes _ _ _ came.world _ came.count came.tick came.no_tick) came.few c.requires.some
    c.in-Some-judge.ended c.conclusion_of-in-Some-judge.result c.judge-in-loop-n.new.exchange c.requires.sent (judged_at (EndsBy (g.Q.Question.wanted c.args.question.now)) c.self.view_is (judged_as (EndsBy (g.Q.Question.wanted c.args.question.now)) c.in-Some-judge.is c.judge-in-loop-n.ensures.judged)) c.conclusion_of-in-Some-judge.ensures

pub returns-in-Some-judge-clause-passes : goal.returns-in-Some-judge-clause-passes
returns-in-Some-judge-clause-passes g c = λ frame.
    let came = c.in_ok-n.ensures in
    Passes-heard frame _ _ _ c.fill.new.self (c.loop-n.invariant.passes frame) (g.met.S.Disk.lawful c.loop-n.site) came.disk came.disk_faults came.time came.cause.later came.world

pub returns-in-Resend-clause-listens : goal.returns-in-Resend-clause-listens
returns-in-Resend-clause-listens g c =
    let came = c.in_ok-n.ensures in
    listens_resend (g.Q.Question.wanted c.args.question.now) c.args.self.now (g.S.Disk.view c.args.site.now).link c.args.exchange.now c.loop-n.self c.judge-in-loop-n.new.self (g.S.Disk.view c.loop-n.site).link (g.S.Disk.view c.fill.new.site).link c.loop-n.exchange c.loop-n.invariant.so_far c.fill.new.self
    (comes _ _ _ came.world _ came.count came.tick came.no_tick) came.few c.requires.some
    c.judge-in-loop-n.new.exchange c.count.new.exchange
    (judged_at (EndsBy (g.Q.Question.wanted c.args.question.now)) c.self.view_is (judged_as (EndsBy (g.Q.Question.wanted c.args.question.now)) c.in_default-judge.is c.judge-in-loop-n.ensures.judged)) (c.judge-in-loop-n.ensures.all c.in_default-judge.is) c.in_ok-n.n came.count
    (counted_as c.in-Resend.is c.count.ensures)

pub returns-in-Resend-clause-passes : goal.returns-in-Resend-clause-passes
returns-in-Resend-clause-passes g c = λ frame.
    let came = c.in_ok-n.ensures in
    Passes-heard frame _ _ _ c.fill.new.self (c.loop-n.invariant.passes frame) (g.met.S.Disk.lawful c.loop-n.site) came.disk came.disk_faults came.time came.cause.later came.world

pub returns-in-NoAnswer-clause-listens : goal.returns-in-NoAnswer-clause-listens
returns-in-NoAnswer-clause-listens g c =
    let came = c.in_ok-n.ensures in
    listens_no_answer (g.Q.Question.wanted c.args.question.now) c.args.self.now (g.S.Disk.view c.args.site.now).link c.args.exchange.now c.loop-n.self c.judge-in-loop-n.new.self (g.S.Disk.view c.loop-n.site).link (g.S.Disk.view c.fill.new.site).link c.loop-n.exchange c.loop-n.invariant.so_far c.fill.new.self
    (comes _ _ _ came.world _ came.count came.tick came.no_tick) came.few c.requires.some
    c.judge-in-loop-n.new.exchange c.count.new.exchange
    (judged_at (EndsBy (g.Q.Question.wanted c.args.question.now)) c.self.view_is (judged_as (EndsBy (g.Q.Question.wanted c.args.question.now)) c.in_default-judge.is c.judge-in-loop-n.ensures.judged)) (c.judge-in-loop-n.ensures.all c.in_default-judge.is) c.in_ok-n.n came.count
    c.requires.sent (counted_as c.in-NoAnswer.is c.count.ensures)

pub returns-in-NoAnswer-clause-passes : goal.returns-in-NoAnswer-clause-passes
returns-in-NoAnswer-clause-passes g c = λ frame.
    let came = c.in_ok-n.ensures in
    Passes-heard frame _ _ _ c.fill.new.self (c.loop-n.invariant.passes frame) (g.met.S.Disk.lawful c.loop-n.site) came.disk came.disk_faults came.time came.cause.later came.world

pub returns-in-Flooded-clause-listens : goal.returns-in-Flooded-clause-listens
returns-in-Flooded-clause-listens g c =
    let came = c.in_ok-n.ensures in
    listens_flooded (g.Q.Question.wanted c.args.question.now) c.args.self.now (g.S.Disk.view c.args.site.now).link c.args.exchange.now c.loop-n.self c.judge-in-loop-n.new.self (g.S.Disk.view c.loop-n.site).link (g.S.Disk.view c.fill.new.site).link c.loop-n.exchange c.loop-n.invariant.so_far c.fill.new.self
    (comes _ _ _ came.world _ came.count came.tick came.no_tick) came.few c.requires.some
    c.judge-in-loop-n.new.exchange c.count.new.exchange
    (judged_at (EndsBy (g.Q.Question.wanted c.args.question.now)) c.self.view_is (judged_as (EndsBy (g.Q.Question.wanted c.args.question.now)) c.in_default-judge.is c.judge-in-loop-n.ensures.judged)) (c.judge-in-loop-n.ensures.all c.in_default-judge.is) c.in_ok-n.n came.count
    c.requires.sent (counted_as c.in-Flooded.is c.count.ensures)

pub returns-in-Flooded-clause-passes : goal.returns-in-Flooded-clause-passes
returns-in-Flooded-clause-passes g c = λ frame.
    let came = c.in_ok-n.ensures in
    Passes-heard frame _ _ _ c.fill.new.self (c.loop-n.invariant.passes frame) (g.met.S.Disk.lawful c.loop-n.site) came.disk came.disk_faults came.time came.cause.later came.world

pub loop-n-preserved : goal.loop-n-preserved
loop-n-preserved g c =
    let came = c.in_ok-n.ensures in
    record {
      so_far =
          Ongoing-more (g.Q.Question.wanted c.args.question.now) c.args.self.now (g.S.Disk.view c.args.site.now).link c.args.exchange.now c.loop-n.self c.judge-in-loop-n.new.self (g.S.Disk.view c.loop-n.site).link (g.S.Disk.view c.fill.new.site).link c.loop-n.exchange c.loop-n.invariant.so_far c.fill.new.self
          (comes _ _ _ came.world _ came.count came.tick came.no_tick) came.few c.requires.some
          c.judge-in-loop-n.new.exchange c.count.new.exchange
          (judged_at (EndsBy (g.Q.Question.wanted c.args.question.now)) c.self.view_is (judged_as (EndsBy (g.Q.Question.wanted c.args.question.now)) c.in_default-judge.is c.judge-in-loop-n.ensures.judged)) (c.judge-in-loop-n.ensures.all c.in_default-judge.is) c.in_ok-n.n came.count
          c.count.result c.count.ensures c.in_default-count.not-Resend c.in_default-count.not-NoAnswer c.in_default-count.not-Flooded;
      passes = λ frame.
          let came = c.in_ok-n.ensures in
          Passes-heard frame _ _ _ c.fill.new.self (c.loop-n.invariant.passes frame) (g.met.S.Disk.lawful c.loop-n.site) came.disk came.disk_faults came.time came.cause.later came.world;
      still = came.cause.kept ∙ c.loop-n.invariant.still;
    }

pub loop-n-smaller : goal.loop-n-smaller
loop-n-smaller g c =
    let came = c.in_ok-n.ensures in
    measure (g.Q.Question.wanted c.args.question.now) c.args.self.now (g.S.Disk.view c.args.site.now).link c.args.exchange.now c.loop-n.self c.judge-in-loop-n.new.self (g.S.Disk.view c.loop-n.site).link (g.S.Disk.view c.fill.new.site).link c.loop-n.exchange c.loop-n.invariant.so_far c.fill.new.self
    (comes _ _ _ came.world _ came.count came.tick came.no_tick) came.few c.requires.some
    c.judge-in-loop-n.new.exchange c.count.new.exchange
    (judged_at (EndsBy (g.Q.Question.wanted c.args.question.now)) c.self.view_is (judged_as (EndsBy (g.Q.Question.wanted c.args.question.now)) c.in_default-judge.is c.judge-in-loop-n.ensures.judged)) (c.judge-in-loop-n.ensures.all c.in_default-judge.is) c.in_ok-n.n came.count
    c.count.result c.count.ensures c.in_default-count.not-Resend c.in_default-count.not-NoAnswer c.in_default-count.not-Flooded c.judge-in-loop-n.ensures.still c.requires.quiets

pub returns-in-Some-clause-passes : goal.returns-in-Some-clause-passes
returns-in-Some-clause-passes g c = λ frame. Passes-refl frame _ (g.met.S.Disk.lawful c.args.site.now)
