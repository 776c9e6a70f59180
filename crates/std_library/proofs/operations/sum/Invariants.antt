use Rattle.std.proofs.Common.{◌≡◌, take}
use Rattle.std_library.specs.Operations.{sum_of}
use Rattle.std_library.proofs.operations.sum.Given as goal

abbrev pub invariant-loop-value : goal.invariant-loop-value
invariant-loop-value l = l.sum ≡ sum_of (take l.value-index l.values)
