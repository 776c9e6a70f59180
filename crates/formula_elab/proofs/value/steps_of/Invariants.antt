use Rattle.std.proofs.Common.{◌≡◌, ◌<◌, drop, length, map, take}
use Rattle.inc_value.specs.Choice.{Every}
use Rattle.inc_terms.specs.Steps.{step_of}
use Rattle.formula_lang.specs.CommandView.{timed_view}
use Rattle.script_model.specs.Formula.{TimedValue}
use Rattle.script_model.specs.Leaves.{EveryReference}
use Rattle.transfer.specs.Shows.{graph_step}
use Rattle.formula_elab.specs.Opened.{node_at}
use Rattle.formula_elab.proofs.value.steps_of.Given as goal

abbrev pub invariant-loop-step : goal.invariant-loop-step
invariant-loop-step l = record {
  so_far : map step_of l.list.items ≡ map (graph_step (node_at l.ids)) (map timed_view (take l.step-index l.steps));
  names : Every (λ (s : TimedValue). EveryReference (λ n. n < length l.ids) s.value) (map timed_view (drop l.step-index l.steps));
}
