-- A state of a script and the graph that holds it fit.
use Rattle.std.proofs.Common.{◌≡◌, ℕ, true, List, [], length, Option, Some, subst, sym}
use Rattle.inc_value.specs.declared.function.FnRef.{FnRef}
use Rattle.inc_value.specs.declared.value.Value.{Value as GraphValue}
use Rattle.inc_terms.specs.Term.{Functions}
use Rattle.graph.specs.Standing.{graph}
use Rattle.script_model.specs.Formula.{State, Grab, meanings_of, body_at}
use Rattle.script_model.specs.Valid.{KeepToTypes, Valid}
use Rattle.script_model.specs.Values.{Value, Val}
use Rattle.script_model.proofs.TypedValues.{values_have_types}
use Rattle.script_graph.specs.Growing.{functions_over}
use Rattle.script_graph.specs.Kept.{Kept, node_in}
use Rattle.script_graph.specs.Represents.{beside, graph_functions, Represents}
use Rattle.script_graph.proofs.Functions.{functions_are, functions_fit}
use Rattle.stabilize_round.specs.Invariant.{Rooted}
use Rattle.transfer.specs.Shows.{BindsRooted, Fits, Grabbed}
use Rattle.transfer.proofs.Keeping.{same_known}
use Rattle.transfer.proofs.Typed.{valid_grabs, valid_resolved, grab_typed}

-- binds are built of what the script's functions give
pub rooted_binds : (named : List ℕ → Option FnRef) (value : FnRef → List GraphValue → GraphValue) (k : Kept)
    → Rooted (functions_over value k.bodies) (graph k.graph) → BindsRooted (graph_functions (meanings_of named value) k.bodies) (graph k.graph)
rooted_binds named value k rooted = subst (λ (H : Functions). BindsRooted H (graph k.graph)) (sym (functions_are named value k.bodies)) rooted

-- they fit
pub represented_fits : (named : List ℕ → Option FnRef) (value : FnRef → List GraphValue → GraphValue) (s : State) (k : Kept)
    → KeepToTypes (meanings_of named value) → Valid (meanings_of named value) s
    → BindsRooted (graph_functions (meanings_of named value) k.bodies) (graph k.graph) → Represents (meanings_of named value) s k
    → Fits (beside (meanings_of named value) s k)
represented_fits named value s k keep valid rooted held = record {
  clock = held.clock;
  functions = functions_fit named value k.bodies;
  declared = held.declares;
  resolved = λ n t kept at. valid_resolved (meanings_of named value) s valid n t kept at;
  rooted = rooted;
  grabbed = grabbed;
}
  where
    grabbed : (n b : ℕ) (v : Value) → body_at s n ≡ Some (Grab b v true) → Grabbed (beside (meanings_of named value) s k) b v
    grabbed n b v at =
        let bind = valid_grabs (meanings_of named value) s valid n b v at in
        let typed = grab_typed (meanings_of named value) s valid n b v bind.0 bind.1 bind.2 at bind.3 in
        record {
          left = bind.0;
          body = bind.1;
          kept = bind.2;
          is_bind = bind.3;
          no_name = λ t e. held.grabs n b v bind.0 t bind.2 at (rw e at bind.3);
          apart = λ u gives same.
              same_known s (node_in k.nodes) held.apart (length s.entries) (length s.entries) typed.0 typed.0 u v
              (values_have_types (meanings_of named value) s keep valid b [] [] bind.0 typed.0 (Val u) tt typed.1 gives) typed.2 same;
        }
