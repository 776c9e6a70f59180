use Rattle.std.proofs.Common.{◌≡◌, drop, map}
use Rattle.std.specs.List.{list_any}
use Rattle.script_model.specs.Check.{trees_in_all}
use Rattle.script_model.specs.Parsing.{trees_of}
use Rattle.line_times.specs.Sought.{is_sought}
use Rattle.line_parser.specs.TreeView.{tree_view}
use Rattle.line_times.proofs.search.+seek.Given as goal

abbrev pub invariant-one_holds-loop-tree : goal.invariant-one_holds-loop-tree
invariant-one_holds-loop-tree l =
    list_any (is_sought l.sought) (trees_in_all (trees_of (map tree_view (drop l.tree-index l.trees))))
    ≡ list_any (is_sought l.sought) (trees_in_all (trees_of (map tree_view l.trees)))
