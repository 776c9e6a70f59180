use Rattle.std.proofs.Common.{drop}
use Rattle.script_functions.specs.Underway.{IsUnderWay}
use Rattle.script_functions.proofs.building.build_lines.Given as goal

abbrev pub invariant-loop-row : goal.invariant-loop-row
invariant-loop-row l = IsUnderWay l.fn.builder l.builder l.body l.left l.captures l.made.items (drop l.row-index l.lines)
