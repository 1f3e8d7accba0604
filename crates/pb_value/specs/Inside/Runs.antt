-- Where an iterator over a record's values has come to.
use Rattle.std.specs.Prelude.{ℕ, List, ◌++◌, drop, replicate}
use Rattle.pb_tdf.specs.View.{FieldView}
use Rattle.pb_value.specs.declared.record_values.Run.{Run}
use Rattle.pb_value.specs.Values.{Shape, shape, shapes}

-- values of one shape, one after another
abbrev pub run_shapes : Run → List Shape
run_shapes run = replicate run.count (shape run.kind run.len)

-- the values that are left: those of a run, and those of the fields from a place on
abbrev pub shapes_left : Run → ℕ → List FieldView → List Shape
shapes_left run at fields = run_shapes run ++ shapes (drop at fields)
