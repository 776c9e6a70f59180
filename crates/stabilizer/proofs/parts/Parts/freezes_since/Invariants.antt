use Rattle.std.proofs.Common.{◌≡◌, ◌++◌, ◌-◌, List}
use Rattle.inc_value.specs.declared.node.NodeId.{NodeId}
use Rattle.stabilizer.proofs.Between.Listing.{AreListed}
use Rattle.stabilizer.proofs.parts.Parts.freezes_since.Given as goal

abbrev pub invariant-loop-id : goal.invariant-loop-id
invariant-loop-id l =
    (done : List NodeId) × (l.nodes.items ≡ l.fn.nodes.items ++ done) × AreListed l.fn.self.arena l.fn.self.work l.count l.next done

abbrev pub decreases-loop-id : goal.decreases-loop-id
decreases-loop-id l = l.fn.self.arena.given - l.next
