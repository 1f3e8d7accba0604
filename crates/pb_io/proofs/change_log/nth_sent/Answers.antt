use Rattle.std.proofs.Common.{slice_get, drop, ◌+◌, ◌∙◌, ap}
use Rattle.pb_base.specs.World.{sent}
use Rattle.pb_io.specs.Events.{world_in}
use Rattle.pb_io.proofs.ChangeLogLemmas.{nth-other, nth-sent}
use Rattle.pb_io.proofs.change_log.nth_sent.Goals as goal
use Rattle.pb_io.proofs.change_log.nth_sent.Goals.{in-Sent+else-before-eq0, in_default}

pub loop-event-preserved : goal.loop-event-preserved
loop-event-preserved c =
    let i = c.loop-event.event-index in
    let rest = sent (world_in (drop (i + 1) c.args.events.now)) in
    elim c.match-event.branch [
      | in-Sent+else-before-eq0 w ↦
          ap (slice_get rest) w.before-is
          ∙ nth-sent c.args.events.now i c.loop-event.before c.event-item.result w.in-Sent.frame c.loop-event-test.true c.event-item.is w.in-Sent.is w.if-before-eq0.false ∙ c.loop-event.invariant
      | in_default w ↦
          ap (slice_get rest) w.before-is ∙ nth-other c.args.events.now i c.loop-event.before c.event-item.result c.loop-event-test.true c.event-item.is w.in_default.not-Sent ∙ c.loop-event.invariant
    ]
