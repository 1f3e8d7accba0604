use Rattle.std.proofs.Common.{◌≡◌, ◌-◌, []}
use Rattle.pb_tdf.specs.Definition.{Definition, FieldDefinition, fields_max}
use Rattle.pb_tdf.specs.Inside.Passing.{PassesSome}
use Rattle.pb_tdf.proofs.reading.read_fields.Given as goal

abbrev pub invariant-loop-places : goal.invariant-loop-places
invariant-loop-places l = (d : Definition) (f0 : FieldDefinition) → d.fields ≡ [] → PassesSome l.initial.items l.items l.start d f0 l.places.items l.totals

abbrev pub decreases-loop-places : goal.decreases-loop-places
decreases-loop-places l = fields_max - l.totals.fields
