-- Why a text is no script of one station.
use Rattle.std.specs.Prelude.{⊤, ℕ, List}
use Rattle.pb_script.specs.ScriptText.{RefusedLine}
use Rattle.pb_script.specs.declared.fault.ScriptFault.{ScriptFault}
use Rattle.pb_script.specs.declared.fault.ScriptFault.TheVariants.{Line, Memory}

abbrev pub ScriptRefuses : List ℕ → ScriptFault → Type 0
ScriptRefuses text (Line n) = RefusedLine text n
ScriptRefuses text Memory = ⊤
