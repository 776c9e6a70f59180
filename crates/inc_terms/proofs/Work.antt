-- What one visit is, and what none cost.
use Rattle.std.proofs.Common.{◌≡◌, ◌≤◌, List, [], ◌∷◌, Option, Some, refl, arith}
use Rattle.std.specs.List.{sum_by}
use Rattle.inc_value.specs.declared.node.NodeId.{NodeId}
use Rattle.inc_value.specs.declared.outcome.Outcome.TheVariants.{Val}
use Rattle.inc_value.specs.declared.value.Value.{Value}
use Rattle.inc_value.specs.Choice.{Every}
use Rattle.inc_terms.specs.Term.{Functions}
use Rattle.inc_terms.specs.Graph.{Graph}
use Rattle.inc_terms.specs.Evaluate.{GiveAll}
use Rattle.inc_terms.specs.Depend.{kids_of}
use Rattle.inc_terms.specs.Need.{Beside, Observed}
use Rattle.inc_terms.specs.Work.{Visit, cost_of, HasReason, other, stale, passed, IsDueVisit, OneVisit, IsIdle, IdleIsFree}
use Rattle.inc_terms.proofs.Evaluation.{one_outcome}

give_one : (F : Functions) (G : Graph) (ns : List NodeId) (vs ws : List Value) → GiveAll F G ns vs → GiveAll F G ns ws → vs ≡ ws
give_one F G [] [] [] g h = refl
give_one F G [] [] (w ∷ ws) g h = absurd h
give_one F G [] (v ∷ vs) ws g h = absurd g
give_one F G (n ∷ ns) [] ws g h = absurd g
give_one F G (n ∷ ns) (v ∷ vs) [] g h = absurd h
give_one F G (n ∷ ns) (v ∷ vs) (w ∷ ws) g h =
    let first = one_outcome F G _ (Val v) (Val w) g.0 h.0 in
    let rest = give_one F G ns vs ws g.1 h.1 in cc

same_visit : (v w : Visit) → v.node ≡ w.node → v.values ≡ w.values → v.cost ≡ w.cost → v ≡ w
same_visit v w n vs c = λ i. record { node = n i; values = vs i; cost = c i }

pub one_visit : OneVisit
one_visit F G v w a b e =
    let row : G.row v.node ≡ Some b.row = rw e b.is_row in
    let rows : a.row ≡ b.row = let x = a.is_row in cc in
    let values : GiveAll F G (kids_of G v.node a.row.def) w.values = rw (e, rows) b.values in
    let cost : cost_of G v.node a.row.def ≡ Some w.cost = rw (e, rows) b.cost in
    let costs : v.cost ≡ w.cost = let x = a.cost in cc in
    same_visit v w e (give_one F G (kids_of G v.node a.row.def) v.values w.values a.values values) costs

module _ (F : Functions) (G : Graph) (died : NodeId → Option NodeId) (observers : List Observed) (before : Beside)
    (idle : IsIdle F G died observers before) where
  not_due : (v : Visit) → IsDueVisit F G died observers before v → ⊥
  not_due v d = by d.reason
    where
      by : HasReason G before v → ⊥
      by (other h) = h (idle.same v d.visit d.met)
      by (stale e) = idle.fresh v.node d.met e
      by (passed kid row among e) = idle.stops kid e

pub idle_is_free : IdleIsFree
idle_is_free F G died observers before calls idle work = none work.visits work.due work.enough
  where
    none : (vs : List Visit) → Every (IsDueVisit F G died observers before) vs → calls ≤ sum_by (λ (v : Visit). v.cost) vs → calls ≡ 0
    none [] h le = omega (arith, le)
    none (v ∷ vs) h le = absurd (not_due F G died observers before idle v h.0)
