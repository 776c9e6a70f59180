use Rattle.std.proofs.Common.{◌≡◌, ◌+◌, ◌-◌, ◌*◌, [], map}
use Rattle.line_parser.specs.TreeView.{tree_view}
use Rattle.line_tokens.specs.View.{sign_view}
use Rattle.script_model.specs.Parsing.{formula_read, list_front}
use Rattle.script_model.specs.Tokens.{sign_byte}
use Rattle.line_parser.proofs.parser.formula.+formula.Given as goal

abbrev pub decreases-formula_of : goal.decreases-formula_of
decreases-formula_of l = 6 * l.depth

abbrev pub decreases-unfrozen_of : goal.decreases-unfrozen_of
decreases-unfrozen_of l = 6 * l.depth + 5

abbrev pub decreases-named_of : goal.decreases-named_of
decreases-named_of l = 6 * l.depth + 4

abbrev pub decreases-reserved_of : goal.decreases-reserved_of
decreases-reserved_of l = 6 * l.depth + 4

abbrev pub decreases-if_of : goal.decreases-if_of
decreases-if_of l = 6 * l.depth + 3

abbrev pub decreases-bind_of : goal.decreases-bind_of
decreases-bind_of l = 6 * l.depth + 3

abbrev pub decreases-join_of : goal.decreases-join_of
decreases-join_of l = 6 * l.depth + 3

abbrev pub decreases-fold_of : goal.decreases-fold_of
decreases-fold_of l = 6 * l.depth + 3

abbrev pub decreases-side_of : goal.decreases-side_of
decreases-side_of l = 6 * l.depth + 2

abbrev pub decreases-boxed_of : goal.decreases-boxed_of
decreases-boxed_of l = 6 * l.depth + 1

abbrev pub decreases-elements_of : goal.decreases-elements_of
decreases-elements_of l = 6 * l.depth + 2

abbrev pub decreases-list_of : goal.decreases-list_of
decreases-list_of l = 6 * l.depth + 1

-- the formulas so far and those that are read of what is left
abbrev pub invariant-list_of-loop-count : goal.invariant-list_of-loop-count
invariant-list_of-loop-count l =
    list_front (formula_read l.depth) (sign_byte (sign_view l.end)) (l.limit - l._count) (map tree_view l.found.items) l.tokens
    ≡ list_front (formula_read l.depth) (sign_byte (sign_view l.end)) l.limit [] l.fn.tokens
