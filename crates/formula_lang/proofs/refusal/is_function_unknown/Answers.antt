use Rattle.line_parser.specs.TreeView.{tree_view}
use Rattle.formula_lang.proofs.Within.{calls_within}
use Rattle.formula_lang.proofs.refusal.is_function_unknown.Goals as goal

pub returns-in-Let : goal.returns-in-Let
returns-in-Let g c = rw (c.in-Let.is, calls_within (tree_view c.in-Let.formula)) c.has_unknown_function.ensures
