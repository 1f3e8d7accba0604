-- A command by what its words say, without where they lie in memory.
use Rattle.std.specs.Prelude.{ℕ, Option}
use Rattle.pb_tool.specs.Export.{Asked, asked_by}
use Rattle.pb_tool.specs.declared.words.Command.{Command}
use Rattle.pb_tool.specs.declared.words.Command.TheVariants as command

pub data Order : Type 0 where
  Show : Order
  Init : Order
  Check : Order
  Ping : (me node : ℕ) → Order
  Serve : (frames : ℕ) → Order
  Collect : (budget : Option ℕ) → Order
  Export : (asked : Asked) → Order
  Defs : Order

abbrev pub order_of : Command → Order
order_of command.Show = Show
order_of command.Init = Init
order_of command.Check = Check
order_of (command.Ping me node) = Ping me node
order_of (command.Serve goal) = Serve goal
order_of (command.Collect budget) = Collect budget
order_of (command.Export asked) = Export (asked_by asked)
order_of command.Defs = Defs
