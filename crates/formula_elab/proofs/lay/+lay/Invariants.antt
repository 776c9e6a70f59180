use Rattle.std.proofs.Common.{length}
use Rattle.formula_elab.specs.Opened.{node_at}
use Rattle.formula_elab.specs.Types.{type_at}
use Rattle.formula_elab.proofs.LaidInTurn.{AreBeingLaid}
use Rattle.formula_elab.proofs.lay.+lay.Given as goal

abbrev pub invariant-lay_each-loop-formula : goal.invariant-lay_each-loop-formula
invariant-lay_each-loop-formula l =
    AreBeingLaid (node_at l.ids) (type_at l.names) (length l.ids) l.fn.makes.items l.formulas l.formula-index l.makes.items l.nodes.items
