use Rattle.std.proofs.Common.{◌≡◌, drop, map}
use Rattle.std.specs.List.{list_any}
use Rattle.formula_lang.specs.Within.{functions_within_all}
use Rattle.script_model.specs.Parsing.{trees_of}
use Rattle.formula_lang.specs.Rows.{lacks}
use Rattle.line_parser.specs.TreeView.{tree_view}
use Rattle.formula_lang.proofs.typing.+functions_in.Given as goal

abbrev pub invariant-have_unknown_function-loop-tree : goal.invariant-have_unknown_function-loop-tree
invariant-have_unknown_function-loop-tree g l =
    list_any (lacks (g.L.Library.named l.library)) (functions_within_all (trees_of (map tree_view (drop l.tree-index l.trees))))
    ≡ list_any (lacks (g.L.Library.named l.library)) (functions_within_all (trees_of (map tree_view l.trees)))
