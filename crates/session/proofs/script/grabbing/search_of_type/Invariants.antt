use Rattle.std.proofs.Common.{◌<◌, ℕ}
use Rattle.session.specs.Grabbed.{IsOwnOfType}
use Rattle.session.proofs.script.grabbing.search_of_type.Given as goal

abbrev pub invariant-loop-position : goal.invariant-loop-position
invariant-loop-position l = (p : ℕ) → p < l.position → IsOwnOfType l.names l.nodes l.node l.ty p → ⊥
