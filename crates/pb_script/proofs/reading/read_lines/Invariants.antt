use Rattle.std.proofs.Common.{◌≤◌, ◌+◌, ℕ, List, length}
use Rattle.pb_script.specs.ScriptText.{Says}
use Rattle.pb_script.proofs.reading.read_lines.Given as goal

abbrev pub invariant-loop-rest : goal.invariant-loop-rest
invariant-loop-rest l = record {
  says : (whole : List ℕ) → Says whole 2 l.fn.draft l.fn.text → Says whole l.lines l.draft l.rest;
  count : l.lines + length l.rest ≤ 2 + length l.fn.text;
}

abbrev pub decreases-loop-rest : goal.decreases-loop-rest
decreases-loop-rest l = length l.rest
