use Rattle.std.proofs.Common.{◌≡◌, ◌-◌, length}
use Rattle.pb_station.specs.Settings.{set_all, set_from, settings_in}
use Rattle.pb_station.proofs.device.Device.set.Given as goal

abbrev pub invariant-loop : goal.invariant-loop
invariant-loop l = set_from l.initial.self l.settings ≡ set_all l.self (settings_in (length l.settings - l.counter) l.left)
