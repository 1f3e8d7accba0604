use Rattle.std.proofs.Common.{ℕ, List, length}
use Rattle.pb_tdf.specs.Definition.{Definition, FieldDefinition}
use Rattle.pb_tdf.specs.Order.{SubDimension, at_item}
use Rattle.pb_tdf.specs.Inside.Passing.{Passes}
use Rattle.pb_tdf.proofs.reading.pass_words.Given as goal

abbrev pub invariant-loop : goal.invariant-loop
invariant-loop l =
    (d : Definition) (f : FieldDefinition) → (subs : List ℕ) × Passes l.initial.items l.items (at_item SubDimension d f l.initial.items.left) (at_item SubDimension d (record f { sub_dimensions = subs }) l.items.left)

abbrev pub decreases-loop : goal.decreases-loop
decreases-loop l = length l.items.left.rest
