-- How a disk in memory keeps what was done to it, and what a site in memory adds, the oldest first.
use Rattle.std.specs.Prelude.{ℕ, ◌+◌, List, [], ◌∷◌, take, drop}
use Rattle.pb_base.specs.World.{World, Quiet, all_heard}
use Rattle.pb_io.specs.DiskLog.{Change, Linked}
use Rattle.pb_io.specs.DiskLog as disk
use Rattle.pb_io.specs.Events.{world_in}
use Rattle.pb_io.specs.declared.change_log.Entry.{Entry}
use Rattle.pb_io.specs.declared.change_log.Entry.TheVariants as entry
use Rattle.pb_io.specs.declared.event.Event.{Event}

-- the change of an entry that takes these events
abbrev pub change_of : Entry → World → Change
change_of (entry.Wrote at bytes) events = disk.Wrote at bytes.items
change_of (entry.Cut len) events = disk.Cut len
change_of entry.Synced events = disk.Synced
change_of (entry.Linked count) events = Linked events

-- how many events an entry takes
abbrev pub event_count : Entry → ℕ
event_count (entry.Linked count) = count
event_count (entry.Wrote at bytes) = 0
event_count (entry.Cut len) = 0
event_count entry.Synced = 0

abbrev pub event_counts : List Entry → ℕ
event_counts [] = 0
event_counts (entry ∷ rest) = event_count entry + event_counts rest

-- The changes of these entries after earlier ones, the newest first. Each entry takes its number of the events.
abbrev pub changes_after : List Change → List Event → List Entry → List Change
changes_after earlier events [] = earlier
changes_after earlier events (entry ∷ rest) =
    changes_after (change_of entry (world_in (take (event_count entry) events)) ∷ earlier) (drop (event_count entry) events) rest

-- what comes of a receive: one event for each byte, or a quiet tick where there's none
abbrev pub arrival : List ℕ → World
arrival [] = Quiet ∷ []
arrival (byte ∷ bytes) = all_heard (byte ∷ bytes)
