use Rattle.std.proofs.Common.{◌≡◌, ◌≤◌, ◌+◌, ◌*◌, ◌^◌, [], length}
use Rattle.generated_script.specs.Counting.{nothing}
use Rattle.script_graph.specs.State.{Stands}
use Rattle.script_model.specs.Formula.{meanings_of}
use Rattle.script_model.specs.Step.{first_moment}
use Rattle.script_run.specs.Programs.{KeepsLibrary}
use Rattle.script_run.specs.Summing.{CountsSoFar}
use Rattle.script_run.proofs.summing.count_lines.Given as goal

abbrev pub invariant-loop-rest : goal.invariant-loop-rest
invariant-loop-rest g l = record {
  so_far : let F = meanings_of (g.L.Library.named l.fn.session.library) (g.L.Library.value l.fn.session.library) in
      Stands F l.fn.session.kept first_moment → l.fn.tally ≡ nothing
      → CountsSoFar F l.text l.rest (g.L.Library.calls l.fn.session.library) l.session.kept (g.L.Library.calls l.session.library) l.tally l.refused;
  lines : l.session.lines + length l.rest ≤ 2 ^ 30;
  few : l.tally.bytes ≤ 2 ^ 64 * l.session.lines;
  empty : l.buffer.items ≡ [];
  library : KeepsLibrary (λ x. meanings_of (g.L.Library.named x) (g.L.Library.value x)) g.L.Library.known g.L.Library.calls l.fn.session.library l.session.library;
}

abbrev pub decreases-loop-rest : goal.decreases-loop-rest
decreases-loop-rest g l = length l.rest
