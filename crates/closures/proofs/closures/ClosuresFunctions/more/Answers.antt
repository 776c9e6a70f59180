use Rattle.closures.proofs.closures.ClosuresFunctions.more.Goals as goal

pub add_rhs-requires-clause-usable : goal.add_rhs-requires-clause-usable
add_rhs-requires-clause-usable g c = rw c.in-Rhs.is at c.requires.keepable
