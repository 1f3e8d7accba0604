-- Why a text is no plan.
use Rattle.std.specs.Prelude.{⊤, ℕ, List}
use Rattle.pb_archive.specs.Plan.{RefusedLine}
use Rattle.pb_archive.specs.declared.fault.PlanFault.{PlanFault}
use Rattle.pb_archive.specs.declared.fault.PlanFault.TheVariants.{Line, Memory}

abbrev pub PlanRefuses : List ℕ → PlanFault → Type 0
PlanRefuses text (Line n) = RefusedLine text n
PlanRefuses text Memory = ⊤
