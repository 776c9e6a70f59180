use Rattle.std.proofs.Common.{◌≡◌, ◌++◌, drop}
use Rattle.observers.specs.Observers.{in_use}
use Rattle.observers.proofs.observer.nodes_in_use.Given as goal

abbrev pub invariant-loop-observer : goal.invariant-loop-observer
invariant-loop-observer l = l.nodes.items ++ in_use (drop l.observer-index l.made) ≡ in_use l.made
