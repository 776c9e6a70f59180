use Rattle.std.proofs.Common.{◌≡◌, drop, map, Some}
use Rattle.script_model.specs.Check.{typed_each}
use Rattle.inc_value.specs.Choice.{and_then}
use Rattle.script_model.specs.Parsing.{trees_of}
use Rattle.line_parser.specs.TreeView.{tree_view}
use Rattle.script_model.specs.Formula.{meanings_of}
use Rattle.formula_lang.specs.Typing.{bound_view}
use Rattle.formula_lang.proofs.TypedArguments.{behind}
use Rattle.formula_lang.proofs.typing.+formula.Given as goal

abbrev pub invariant-typed_each-loop-tree : goal.invariant-typed_each-loop-tree
invariant-typed_each-loop-tree g l =
    typed_each (meanings_of (g.L.Library.named l.library) (g.L.Library.value l.library)) l.names (map bound_view l.variables) (trees_of (map tree_view l.trees))
    ≡ and_then (typed_each (meanings_of (g.L.Library.named l.library) (g.L.Library.value l.library)) l.names
    (map bound_view l.variables) (trees_of (map tree_view (drop l.tree-index l.trees))))
    (λ ts. Some (behind l.formulas.formulas.items l.formulas.tys.items ts))
