use Rattle.std.proofs.Common.{◌∙◌}
use Rattle.script_model.specs.Check.{trees_in}
use Rattle.line_parser.specs.TreeView.{tree_view}
use Rattle.line_times.proofs.Sought.{empty_spans}
use Rattle.line_times.proofs.reasons.is_span_zero.Goals as goal

pub returns-in-Let : goal.returns-in-Let
returns-in-Let c = rw c.in-Let.is (c.holds.ensures ∙ empty_spans (trees_in (tree_view c.in-Let.formula)))
