use Rattle.std.proofs.Common.{◌≡◌, drop, map}
use Rattle.std.specs.List.{list_any}
use Rattle.formula_lang.specs.Within.{names_within_all}
use Rattle.script_model.specs.Parsing.{trees_of}
use Rattle.formula_lang.specs.Rows.{is_unknown}
use Rattle.line_parser.specs.TreeView.{tree_view}
use Rattle.formula_lang.proofs.mentioning.+names_of.Given as goal

abbrev pub invariant-have_unknown_name-loop-tree : goal.invariant-have_unknown_name-loop-tree
invariant-have_unknown_name-loop-tree l =
    list_any (is_unknown l.names) (names_within_all l.variables (trees_of (map tree_view (drop l.tree-index l.trees))))
    ≡ list_any (is_unknown l.names) (names_within_all l.variables (trees_of (map tree_view l.trees)))
