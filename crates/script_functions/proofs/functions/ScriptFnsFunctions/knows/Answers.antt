use Rattle.script_functions.proofs.functions.ScriptFnsFunctions.knows.Goals as goal

pub returns-in-Rhs : goal.returns-in-Rhs
returns-in-Rhs g c = rw c.in-Rhs.is (rw c.deref.ensures.value at c.has_body.ensures)
