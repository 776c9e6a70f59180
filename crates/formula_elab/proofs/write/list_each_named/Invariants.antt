use Rattle.std.proofs.Common.{◌≡◌, ◌<◌, drop, length, map}
use Rattle.inc_value.specs.Choice.{Every}
use Rattle.formula_lang.specs.CommandView.{timed_view}
use Rattle.script_model.specs.Formula.{TimedValue}
use Rattle.script_model.specs.Leaves.{EveryReference}
use Rattle.formula_elab.specs.Bodies.{size_of}
use Rattle.formula_elab.specs.Opened.{node_at}
use Rattle.formula_elab.specs.Writing.{with_each_named}
use Rattle.formula_elab.proofs.write.list_each_named.Given as goal

abbrev pub invariant-loop-step : goal.invariant-loop-step
invariant-loop-step l = record {
  so_far : with_each_named (node_at l.ids) l.page (map timed_view (drop l.step-index l.steps))
      ≡ with_each_named (node_at l.ids) l.fn.page (map timed_view l.steps);
  size : size_of l.page ≡ size_of l.fn.page;
  names : Every (λ (s : TimedValue). EveryReference (λ n. n < length l.ids) s.value) (map timed_view (drop l.step-index l.steps));
}
