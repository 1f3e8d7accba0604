-- The events of a world that a site in memory or a simulated one enters into its log.
use Rattle.std.specs.Prelude.{List, [], ◌∷◌}
use Rattle.std.specs.List.{flat_map}
use Rattle.pb_base.specs.World.{World, Begin, Quiet, all_heard}
use Rattle.pb_base.specs.World as world
use Rattle.pb_io.specs.declared.event.Event.{Event}
use Rattle.pb_io.specs.declared.event.Event.TheVariants as event

-- bytes that were heard are one event each
abbrev pub events_of : Event → World
events_of event.Begin = Begin ∷ []
events_of (event.Sent frame) = world.Sent frame.items ∷ []
events_of (event.Heard bytes) = all_heard bytes.items
events_of event.Quiet = Quiet ∷ []
events_of (event.Defined station number bytes signature layout) =
    world.Defined station number.0 (record { bytes = bytes.items; signature = signature; layout = layout }) ∷ []
events_of (event.Stored station number time bytes) =
    world.Stored station number.0 (record { time = time; bytes = bytes.items }) ∷ []
events_of (event.Oldest station number n) = world.Oldest station number.0 n.0 ∷ []

-- the events of all of them, in their order
abbrev pub world_in : List Event → World
world_in events = flat_map events_of events
