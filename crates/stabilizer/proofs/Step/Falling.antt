-- Steps end.
use Rattle.std.proofs.Common.{◌≡◌, ◌⊎◌, inl, inr, ◌<◌, Bool, sym, subst, ap, ◌∙◌}
use Rattle.inc_value.specs.declared.node.NodeId.{NodeId}
use Rattle.inc_value.specs.declared.node.Point.{Point}
use Rattle.inc_value.specs.declared.outcome.Outcome.{Outcome}
use Rattle.inc_value.specs.Choice.{Reaches}
use Rattle.inc_terms.specs.Term.{Functions}
use Rattle.inc_terms.specs.Depend.{change}
use Rattle.point_map.specs.Rows.{Holds}
use Rattle.stabilize_round.specs.State.{State, Start}
use Rattle.stabilize_round.specs.Moves.{Quiet, changed, StepChange}
use Rattle.stabilize_round.specs.Machine.{Move, step_main, step_change, link, link_new, root, root_new, raise, finish, schedule, cut, rebuild, level, spend}
use Rattle.stabilize_round.specs.Steps.{Settles, Wiring, Wired, plainly, after_refusal}
use Rattle.stabilize_round.proofs.Falling as machine
use Rattle.node_outcomes.specs.Meaning.{Meaning}
use Rattle.wiring.specs.Kept.{IsKept}
use Rattle.wiring.specs.Stands.{Counts}
use Rattle.stabilizer.specs.Stepping.{Steps, StepsAt, StepFalls}
use Rattle.stabilizer.specs.declared.parts.Parts.{Parts}
use Rattle.stabilizer.proofs.Step.Left.{less_left}

-- points get their links without a refusal, or fewer links may be tried again
pub wired_cases : (F : Functions) (z : Start) (s t : State) → Wired F z s t → Reaches (Wiring F z) s t ⊎ (t.retries < s.retries)
wired_cases F z s t (plainly run) = inl run
wired_cases F z s t (after_refusal {u} {v} {w} on off m it rest) = inr (machine.retried F z s u v w t on off m it rest)

-- ---- the move that settles a change

-- it gives the change an outcome
pub record SettlesChange (F : Functions) (s t : State) (n : NodeId) : Type 0 where
  pub outcome : Outcome
  pub woken : Point → Bool
  pub quiet : Quiet s
  pub made : StepChange F s n outcome woken
  pub now : t ≡ changed s n outcome woken

pub change_settled : (F : Functions) (z : Start) (s t : State) (n : NodeId) (m : Move F z s t) → Settles (change n) m → SettlesChange F s t n
change_settled F z s t n (step_change {n = k} {o} {todo'} quiet m e) it =
    let same : k ≡ n = sym (ap (λ (x : Point). x.node) it) in record {
      outcome = o;
      woken = todo';
      quiet = quiet;
      made = subst (λ (x : NodeId). StepChange F s x o todo') same m;
      now = subst (λ (x : NodeId). t ≡ changed s x o todo') same e;
    }
change_settled F z s t n (step_main quiet m e) it = absurd (let parts = ap (λ (x : Point). x.part) it in cc)
change_settled F z s t n (link m need e) it = absurd it
change_settled F z s t n (link_new m need k e) it = absurd it
change_settled F z s t n (root need e) it = absurd it
change_settled F z s t n (root_new given need k e) it = absurd it
change_settled F z s t n (raise m e) it = absurd it
change_settled F z s t n (finish m e) it = absurd it
change_settled F z s t n (schedule m e) it = absurd it
change_settled F z s t n (cut d w e) it = absurd it
change_settled F z s t n (rebuild r made count e) it = absurd it
change_settled F z s t n (level m e) it = absurd it
change_settled F z s t n (spend u k e) it = absurd it

-- ---- steps end

-- a step that takes a point is a step
pub steps_at : (M : Meaning) (old new : Parts) (before after : Counts) (p : Point) → StepsAt M old new before after p → Steps M old new before after
steps_at M old new before after p steps z s begun quiet st = let k = steps z s begun quiet st in (k.0, k.1, k.2)

-- each step leaves less of the parts
pub steps_leave_less : (M : Meaning) (old new : Parts) (before after : Counts) → IsKept old.arena old.work → IsKept new.arena new.work
    → Steps M old new before after → StepFalls M old new before
steps_leave_less M old new before after kept kept' steps z s begun quiet st points nodes covers =
    let made = steps z s begun quiet st in
    let k = made.1 in
    let row : Holds old.work.rows k.point = kept.heap k.point (sym (st.heap k.point) ∙ k.least.heap) in
    less_left old.arena new.arena old.work new.work before after s made.0 kept kept' st made.2 points nodes
    (machine.step_falls M.functions z s made.0 begun.holds k points nodes (covers.points_of k.point row) (covers.nodes_of k.point row))
