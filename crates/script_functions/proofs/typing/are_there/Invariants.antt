use Rattle.std.proofs.Common.{drop}
use Rattle.inc_value.specs.Choice.{Every}
use Rattle.script_functions.specs.Bodies.{IsThere}
use Rattle.script_functions.proofs.typing.are_there.Given as goal

-- all are there exactly where those left are
abbrev pub invariant-loop-part : goal.invariant-loop-part
invariant-loop-part l =
    (Every (IsThere l.draft) (drop l.part-index l.parts) → Every (IsThere l.draft) l.parts)
    × (Every (IsThere l.draft) l.parts → Every (IsThere l.draft) (drop l.part-index l.parts))
