use Rattle.closures.proofs.closures.ClosuresFunctions.knows.Goals as goal

pub returns-in-Map : goal.returns-in-Map
returns-in-Map g c = rw c.in-Map.is (rw c.deref.ensures.value at c.map_has.ensures)

pub returns-in-Rhs : goal.returns-in-Rhs
returns-in-Rhs g c = rw c.in-Rhs.is (rw c.deref-in-Rhs.ensures.value at c.side_has.ensures)
