use Rattle.std.proofs.Common.{take}
use Rattle.std.specs.List.{AllByRecursion}
use Rattle.pb_archive.specs.Opened.{IsOther}
use Rattle.pb_collect.proofs.defining.place_of.Given as goal

abbrev pub invariant-loop-n : goal.invariant-loop-n
invariant-loop-n l = AllByRecursion (IsOther l.station l.number.0) (take l.n l.archive.tables)
