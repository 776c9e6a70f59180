use Rattle.scopes.specs.Scopes.{node_count}
use Rattle.stabilizer.proofs.Killing.Invalidating.{IsInvalidating}
use Rattle.stabilizer.proofs.parts.Parts.invalidate.Given as goal

abbrev pub invariant-loop-node : goal.invariant-loop-node
invariant-loop-node l = IsInvalidating l.fn.self l.self l.fn.bind

abbrev pub decreases-loop-node : goal.decreases-loop-node
decreases-loop-node l = node_count l.self.scopes
