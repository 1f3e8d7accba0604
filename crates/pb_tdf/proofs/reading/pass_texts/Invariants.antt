use Rattle.std.proofs.Common.{ℕ, List, length}
use Rattle.pb_tdf.specs.Definition.{Definition, FieldDefinition}
use Rattle.pb_tdf.specs.Order.{Alias, at_item}
use Rattle.pb_tdf.specs.Inside.Passing.{Passes}
use Rattle.pb_tdf.proofs.reading.pass_texts.Given as goal

abbrev pub invariant-loop : goal.invariant-loop
invariant-loop l =
    (d : Definition) (f : FieldDefinition) → (aliases : List (List ℕ)) × Passes l.initial.items l.items (at_item Alias d f l.initial.items.left) (at_item Alias d (record f { aliases = aliases }) l.items.left)

abbrev pub decreases-loop : goal.decreases-loop
decreases-loop l = length l.items.left.rest
