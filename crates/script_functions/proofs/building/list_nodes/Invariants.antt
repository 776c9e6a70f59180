use Rattle.std.proofs.Common.{◌≡◌, ◌≤◌, length, map, take}
use Rattle.std.specs.Prelude.{vec_capacity}
use Rattle.script_functions.specs.Filling.{node_of}
use Rattle.script_functions.proofs.building.list_nodes.Given as goal

abbrev pub invariant-loop-part : goal.invariant-loop-part
invariant-loop-part l =
    (l.nodes.items ≡ map (node_of l.listed l.captures l.made) (take l.part-index l.parts)) × (length l.parts ≤ vec_capacity l.nodes)
