use Rattle.std.proofs.Common.{refl, ◌∙◌}
use Rattle.script_model.specs.Check.{trees_in}
use Rattle.line_parser.specs.TreeView.{tree_view}
use Rattle.line_parser.specs.View.{time_view}
use Rattle.line_times.proofs.Sought.{large_time, large_times, past_span}
use Rattle.line_times.proofs.reasons.is_time_too_large.Goals as goal

pub returns-in-Let : goal.returns-in-Let
returns-in-Let c =
    rw (c.in-Let.is, c.holds.ensures, c.ends_too_late.ensures c.in-Let.name, large_times (trees_in (tree_view c.in-Let.formula))) refl

pub returns-in-Advance : goal.returns-in-Advance
returns-in-Advance c = rw c.in-Advance.is (c.is_past.ensures ∙ past_span c.args.now (time_view c.in-Advance.span))

pub returns-in-AdvanceTo : goal.returns-in-AdvanceTo
returns-in-AdvanceTo c = rw c.in-AdvanceTo.is (c.is_too_large.ensures ∙ large_time (time_view c.in-AdvanceTo.time))
