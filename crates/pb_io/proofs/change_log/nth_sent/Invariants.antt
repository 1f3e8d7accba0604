use Rattle.std.proofs.Common.{◌≡◌, slice_get, drop}
use Rattle.pb_base.specs.World.{sent}
use Rattle.pb_io.specs.Events.{world_in}
use Rattle.pb_io.proofs.change_log.nth_sent.Given as goal

abbrev pub invariant-loop-event : goal.invariant-loop-event
invariant-loop-event l = slice_get (sent (world_in (drop l.event-index l.events))) l.before ≡ slice_get (sent (world_in l.events)) l.n
