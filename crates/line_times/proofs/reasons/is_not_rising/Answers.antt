use Rattle.std.proofs.Common.{◌∙◌}
use Rattle.script_model.specs.Check.{trees_in}
use Rattle.line_parser.specs.TreeView.{tree_view}
use Rattle.line_times.proofs.Sought.{falling_times}
use Rattle.line_times.proofs.reasons.is_not_rising.Goals as goal

pub returns-in-Let : goal.returns-in-Let
returns-in-Let c = rw c.in-Let.is (c.holds.ensures ∙ falling_times (trees_in (tree_view c.in-Let.formula)))
