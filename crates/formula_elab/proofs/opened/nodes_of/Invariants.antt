use Rattle.std.proofs.Common.{◌≡◌, map, take}
use Rattle.formula_elab.specs.Opened.{node_of}
use Rattle.formula_elab.proofs.opened.nodes_of.Given as goal

abbrev pub invariant-loop-part : goal.invariant-loop-part
invariant-loop-part l = l.nodes.items ≡ map (node_of l.made) (take l.part-index l.parts)
