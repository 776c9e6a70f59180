use Rattle.std.proofs.Common.{◌≡◌, take}
use Rattle.link_table.specs.Ends.{ends_with}
use Rattle.link_table.proofs.sides.place_of.Given as goal

abbrev pub invariant-loop-i : goal.invariant-loop-i
invariant-loop-i l = ends_with (take l.i l.ends) l.q ≡ 0
