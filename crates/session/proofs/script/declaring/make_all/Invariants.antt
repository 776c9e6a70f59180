use Rattle.std.proofs.Common.{◌≡◌, ◌≤◌, ◌-◌, ◌↔◌, length, take, IsSome, IsTrue}
use Rattle.std.specs.Prelude.{IfSome}
use Rattle.formula_elab.specs.Functions.{bodies_in}
use Rattle.formula_elab.specs.Plan.{IsAnswer, with_made}
use Rattle.session.specs.Making.{KeepsFunctions, MadeSoFar}
use Rattle.session.proofs.script.declaring.make_all.Given as goal

abbrev pub invariant-loop-make : goal.invariant-loop-make
invariant-loop-make g l = record {
  makes : l.plan.makes ≡ l.fn.plan.makes;
  root : l.plan.root ≡ l.fn.plan.root;
  answered : IsSome l.made ↔ IsTrue l.plan.is_waiting;
  kind : IfSome l.made (IsAnswer l.plan);
  made : MadeSoFar (g.L.Library.known l.graph.functions.library) (g.L.Library.value l.graph.functions.library) l.graph.functions.bodies.items
      l.fn.graph l.graph l.fn.plan.makes (with_made l.plan.made l.made);
  within : length (with_made l.plan.made l.made) ≤ length l.fn.plan.makes;
  functions : KeepsFunctions l.fn.graph.functions.library l.graph.functions.library l.fn.graph.functions.builds l.graph.functions.builds
      l.fn.graph.functions.bodies.items l.graph.functions.bodies.items (bodies_in (take (length (with_made l.plan.made l.made)) l.fn.plan.makes));
}

abbrev pub decreases-loop-make : goal.decreases-loop-make
decreases-loop-make g l = length l.fn.plan.makes - length (with_made l.plan.made l.made)
