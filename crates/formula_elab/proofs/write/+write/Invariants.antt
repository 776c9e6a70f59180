use Rattle.std.proofs.Common.{length}
use Rattle.formula_elab.specs.Opened.{node_at}
use Rattle.formula_elab.specs.Types.{type_at}
use Rattle.formula_elab.proofs.WrittenInTurn.{AreBeingWritten}
use Rattle.formula_elab.proofs.write.+write.Given as goal

abbrev pub invariant-write_each-loop-formula : goal.invariant-write_each-loop-formula
invariant-write_each-loop-formula l =
    AreBeingWritten (node_at l.ids) (type_at l.names) l.tys (length l.ids) l.fn.makes.items l.fn.page l.formulas l.formula-index l.makes.items l.page
    l.parts.items
