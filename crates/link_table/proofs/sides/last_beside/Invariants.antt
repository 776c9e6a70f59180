use Rattle.std.proofs.Common.{◌≤◌, length}
use Rattle.link_table.proofs.Beside.{LeadsBackFrom}
use Rattle.link_table.proofs.sides.last_beside.Given as goal

abbrev pub invariant-loop-i : goal.invariant-loop-i
invariant-loop-i l = (l.i ≤ length l.ends) × LeadsBackFrom l.ends l.kept l.i

abbrev pub decreases-loop-i : goal.decreases-loop-i
decreases-loop-i l = l.i
