use Rattle.std.proofs.Common.{◌↔◌, drop}
use Rattle.inc_value.specs.Choice.{Every}
use Rattle.script_functions.specs.Keeping.{is_known, makers, side_in}
use Rattle.script_functions.specs.Lines.{line_uses}
use Rattle.std_library.specs.Functions as library
use Rattle.incr_bench.specs.Sides.{CanCall}
use Rattle.incr_bench.proofs.sides.can_call_lines.Given as goal

abbrev pub invariant-loop-line : goal.invariant-loop-line
invariant-loop-line l =
    let bodies = makers l.functions.bodies.items in
    Every (λ x. Every (CanCall (is_known library.known bodies) (side_in bodies)) (line_uses x.line)) (drop l.line-index l.lines)
    ↔ Every (λ x. Every (CanCall (is_known library.known bodies) (side_in bodies)) (line_uses x.line)) l.lines
