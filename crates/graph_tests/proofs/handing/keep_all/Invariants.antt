use Rattle.std.proofs.Common.{map, length}
use Rattle.closures.specs.Tables.{AreSound, map_of, side_of}
use Rattle.graph_tests.proofs.handing.keep_all.Given as goal

abbrev pub invariant-loop-function : goal.invariant-loop-function
invariant-loop-function g l =
    AreSound
    (map (λ b. map_of ((goal.MapFn-dyn g (b.vtable, b.value)).map_sig b.value)
    ((goal.MapFn-dyn g (b.vtable, b.value)).map_value b.value)) l.functions.maps.items)
    (map (λ b. side_of ((goal.RhsFn-dyn g (b.vtable, b.value)).rhs_sig b.value)
    ((goal.RhsFn-dyn g (b.vtable, b.value)).rhs b.value)) l.functions.sides.items)

abbrev pub decreases-loop-function : goal.decreases-loop-function
decreases-loop-function g l = length l.boxes.items
