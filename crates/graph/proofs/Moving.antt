-- What the call answers that moves the time on.
use Rattle.std.proofs.Common.{◌≡◌, inl, inr, ℕ, ℤ, Bool, List, Option, Ok, Err, refl, sym, ap, subst, ◌∙◌, arith}
use Rattle.std.specs.Prelude.{Result, IfErr, OnOk, OnErr, ◌↔◌}
use Rattle.inc_value.specs.declared.function.FnRef.{FnRef}
use Rattle.inc_value.specs.declared.node.NodeId.{NodeId}
use Rattle.inc_value.specs.declared.node.Point.{Point}
use Rattle.inc_terms.specs.Depend.{main, change}
use Rattle.inc_terms.specs.Within.{Given}
use Rattle.expert_nodes.specs.Experts.{ExpertPlace, expert_at}
use Rattle.clock_nodes.specs.declared.clock.AdvanceFault.{AdvanceFault}
use Rattle.clock_nodes.specs.declared.clock.AdvanceFault.TheVariants as advance
use Rattle.node_arena.specs.RightSide.{RightSide}
use Rattle.node_outcomes.specs.Row.{outcome_in, cutoff_in}
use Rattle.node_outcomes.specs.Progress.{Progress}
use Rattle.point_map.specs.Rows.{Rows, at}
use Rattle.timed_nodes.specs.Timed.{IsMovedTo}
use Rattle.stabilizer.specs.Between.{StaysButHeap}
use Rattle.stabilizer.specs.Kept.{graph_in}
use Rattle.stabilizer.specs.Look.{freeze_roots}
use Rattle.stabilizer.specs.Weights.{SidesFit}
use Rattle.stabilizer.specs.declared.parts.Parts.{Parts}
use Rattle.wiring.specs.declared.refused.Refused.{Refused}
use Rattle.graph.specs.Clock.{IsAdvanceFault, MovesTo}
use Rattle.graph.specs.Effects.{KeepsAll}
use Rattle.graph.specs.Fault.{of_advance}
use Rattle.graph.specs.declared.fault.GraphFault.{GraphFault}
use Rattle.graph.specs.declared.fault.GraphFault.TheVariants as fault
use Rattle.observers.specs.Observers.{ObserversView}
use Rattle.graph.proofs.Adding.{all_stays}
use Rattle.graph.proofs.Faulting.{same_err}
use Rattle.graph.proofs.Fitting.{fit_left}
use Rattle.graph.proofs.Freezes.{freezes_as, kept_as}
use Rattle.graph.proofs.Seeing.{beside_as, built_still, seen_as}

-- an answer of the nodes, as a graph gives it
abbrev pub Passes : {T : Type 0} → Result T AdvanceFault → Result T GraphFault → Type 0
Passes (Ok u) q = q ≡ Ok u
Passes (Err e) q = q ≡ Err (of_advance e)

pub passed_back : {T P U : Type 0} (r : Result T AdvanceFault) (q : Result T GraphFault) → Passes r q → (r ≡ Err advance.Back) ↔ P → U
    → (q ≡ Err fault.Back) ↔ (U × P)
passed_back (Ok u) q is both unbroken = ((λ h. absurd (let x = sym is ∙ h in cc)), (λ k. absurd (let x = both.1 k.1 in cc)))
passed_back (Err advance.Back) q is both unbroken = ((λ h. (unbroken, both.0 refl)), (λ k. is))
passed_back (Err advance.Memory) q is both unbroken =
    ((λ h. absurd (let x = same_err (sym is ∙ h) in cc)), (λ k. absurd (let x = same_err (both.1 k.1) in cc)))

pub passed_fault : {T : Type 0} (r : Result T AdvanceFault) (q : Result T GraphFault) → Passes r q → IfErr q IsAdvanceFault
passed_fault {T} (Ok u) q is = subst (λ (x : Result T GraphFault). IfErr x IsAdvanceFault) (sym is) tt
passed_fault {T} (Err advance.Back) q is = subst (λ (x : Result T GraphFault). IfErr x IsAdvanceFault) (sym is) (inr (inl refl))
passed_fault {T} (Err advance.Memory) q is = subst (λ (x : Result T GraphFault). IfErr x IsAdvanceFault) (sym is) (inr (inr refl))

-- need begins at the same freezes
pub moved_freezes : {T E : Type 0} (old new : Parts) (to : ℤ) (r : Result T E) → OnOk r (IsMovedTo old.arena new.arena to)
    → OnErr r (new ≡ record old { timed = new.timed }) → new.work.rows ≡ old.work.rows → (since : ℕ) (p : Point)
    → freeze_roots (graph_in new) since p ≡ freeze_roots (graph_in old) since p
moved_freezes old new to (Ok u) moved err rows since p =
    freezes_as (graph_in old) (graph_in new) since (λ n early. moved.rows n) (λ n early. kept_as old new rows n) p
moved_freezes old new to (Err e) moved err rows since p = ap (λ (q : Parts). freeze_roots (graph_in q) since p) err

-- functions of all nodes stay fit
pub moved_fit : {T E : Type 0} (known : FnRef → Bool) (right : FnRef → RightSide) (old new : Parts) (to : ℤ) (r : Result T E)
    → OnOk r (IsMovedTo old.arena new.arena to) → OnErr r (new ≡ record old { timed = new.timed }) → SidesFit known right old.arena
    → SidesFit known right new.arena
moved_fit known right old new to (Ok u) moved err fit =
    let given = moved.given in fit_left known right old.arena new.arena (omega (arith, given)) (λ n. inl (moved.rows n)) fit
moved_fit known right old new to (Err e) moved err fit = subst (λ (p : Parts). SidesFit known right p.arena) (sym err) fit

module _ {F : Type 0} (functions : F) (old new : Parts) (observers : ObserversView) (rooted since : ℕ) (refused : Option Refused) where
  -- the time moved
  moves : (to : ℤ) → StaysButHeap old new → IsMovedTo old.arena new.arena to
      → MovesTo (seen_as functions old observers rooted since refused) (seen_as functions new observers rooted since refused) to
  moves to stays moved = record {
    beside = beside_as functions old new observers rooted since refused (Given old.arena.given) (ap (λ v. v.items) stays.ran) stays.links stays.roots
        (λ p given. ap (λ (m : Rows Progress). at m p) stays.rows)
        (λ n given. built_still old new n (moved.rows n) (ap (λ (m : Rows Progress). outcome_in (at m (change n))) stays.rows)
        (ap (λ (roots : Rows NodeId). at roots (change n)) stays.right_sides))
        (λ n given. ap (λ (e : List ExpertPlace). expert_at e n) stays.experts)
        (λ n. inl (ap (λ (m : Rows Progress). cutoff_in (at m (main n))) stays.rows));
    time = moved.time;
    rows = moved.rows;
    given = moved.given;
    live = moved.live;
  }

  pub answer_moves : {T : Type 0} (to : ℤ) (r : Result T AdvanceFault) (q : Result T GraphFault) → Passes r q → StaysButHeap old new
      → OnOk r (IsMovedTo old.arena new.arena to)
      → OnOk q (MovesTo (seen_as functions old observers rooted since refused) (seen_as functions new observers rooted since refused) to)
  answer_moves {T} to (Ok u) q is stays moved = subst (λ (x : Result T GraphFault). OnOk x
      (MovesTo (seen_as functions old observers rooted since refused) (seen_as functions new observers rooted since refused) to)) (sym is) (moves to stays moved)
  answer_moves {T} to (Err e) q is stays moved = subst (λ (x : Result T GraphFault). OnOk x
      (MovesTo (seen_as functions old observers rooted since refused) (seen_as functions new observers rooted since refused) to)) (sym is) tt

  -- it didn't
  pub answer_stays : {T : Type 0} (r : Result T AdvanceFault) (q : Result T GraphFault) → Passes r q → OnErr r (new ≡ record old { timed = new.timed })
      → OnErr q (KeepsAll (seen_as functions old observers rooted since refused) (seen_as functions new observers rooted since refused))
  answer_stays {T} (Ok u) q is err = subst (λ (x : Result T GraphFault). OnErr x
      (KeepsAll (seen_as functions old observers rooted since refused) (seen_as functions new observers rooted since refused))) (sym is) tt
  answer_stays {T} (Err e) q is err = subst (λ (x : Result T GraphFault). OnErr x
      (KeepsAll (seen_as functions old observers rooted since refused) (seen_as functions new observers rooted since refused))) (sym is)
      (subst (λ (p : Parts). KeepsAll (seen_as functions old observers rooted since refused) (seen_as functions p observers rooted since refused)) (sym err)
      (all_stays (seen_as functions old observers rooted since refused)))
