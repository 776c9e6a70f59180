-- What holds once the heap and the worklist are empty.
use Rattle.std.specs.Prelude.{◌≡◌, ◌⊎◌, ◌<◌, ℕ, Bool, true, false, cond, List, [], ◌∷◌, None, Some}
use Rattle.inc_value.specs.declared.node.NodeId.{NodeId}
use Rattle.inc_value.specs.declared.node.Point.{Point}
use Rattle.inc_value.specs.Choice.{Among, NoRepeats}
use Rattle.inc_value.specs.Walk.{IsDeep, IsOnCycle}
use Rattle.inc_terms.specs.Term.{Functions}
use Rattle.inc_value.specs.declared.function.FnRef.{FnRef}
use Rattle.inc_value.specs.declared.outcome.Outcome.TheVariants.{Val}
use Rattle.inc_value.specs.declared.value.Value.{Value}
use Rattle.inc_value.specs.declared.value.Value.TheVariants as value
use Rattle.inc_terms.specs.Evaluate.{NodeGives, GiveAll}
use Rattle.inc_terms.specs.Work.{taken_by}
use Rattle.stabilize_round.specs.Freezing.{fires_at}
use Rattle.inc_terms.specs.Graph.{Graph, Row, Freeze}
use Rattle.inc_terms.specs.Depend.{Depends, main}
use Rattle.inc_terms.specs.Local.{shown, Exact, Sees, Local}
use Rattle.inc_terms.specs.Need.{IsRoot, Needed}
use Rattle.stabilize_round.specs.Calling.{cost_at, costs_of}
use Rattle.stabilize_round.specs.Counts.{RoseBy, number_of}
use Rattle.stabilize_round.specs.State.{State, Start, Full, Linked}
use Rattle.stabilize_round.specs.Invariant.{HasCalled, Recalls}

-- the roots are the mains of these nodes, at which observers look, and of freezes that keep no value yet
pub record RootsAre (s : State) (observed : List NodeId) : Type 0 where
  pub on : (n : NodeId) → IsRoot s.graph observed n → 0 < s.root (main n)
  pub listed : (p : Point) → 0 < s.root p → (n : NodeId) × IsRoot s.graph observed n × (p ≡ main n)

-- a freeze keeps no value yet, and its predicate is true of the value that its child gives
pub record Fires (F : Functions) (G : Graph) (n : NodeId) (v : Value) : Type 0 where
  pub row : Row
  pub kid : NodeId
  pub predicate : FnRef
  pub is_row : G.row n ≡ Some row
  pub is_freeze : row.def ≡ Freeze kid predicate
  pub keeps_none : G.frozen n ≡ None
  pub gives : NodeGives F G kid (Val v)
  pub holds : F.value predicate (v ∷ []) ≡ value.Bool true

-- all that is needed has all its links and is exact; what is linked is what is depended on, and what is needed is so over what points depend on,
-- without cycles and walks of 130; a node whose function wasn't called was last called as before, or takes no call; no needed node is marked stale,
-- and one that was has run where it takes a call and its children give values; a freeze that keeps no value yet fires just where its predicate is true
-- of what its child gives
pub record Ended (F : Functions) (z : Start) (s : State) (observed : List NodeId) : Type 0 where
  pub full : (p : Point) (r : Row) → s.graph.row p.node ≡ Some r → s.needed p ≡ true → s.stage p ≡ Full
  pub exact : (p : Point) → s.needed p ≡ true → Exact F s.graph s.out p
  pub links : (p q : Point) → s.needed p ≡ true → (Linked s p q → Depends F s.graph s.died p q) × (Depends F s.graph s.died p q → Linked s p q)
  pub needs : (p : Point) → (s.needed p ≡ true → Needed F s.graph s.died observed p) × (Needed F s.graph s.died observed p → s.needed p ≡ true)
  pub acyclic : (p : Point) → Needed F s.graph s.died observed p → IsOnCycle (Depends F s.graph s.died) p → ⊥
  pub shallow : (p : Point) → Needed F s.graph s.died observed p → IsDeep (Depends F s.graph s.died) p → ⊥
  pub local : Local F s.graph s.out s.died observed
  pub sees : (n : NodeId) → Needed F s.graph s.died observed (main n) → Sees F s.graph s.out n
  pub recalls : (p : Point) → s.needed p ≡ true → Recalls s.graph (shown s.graph s.out) s.last p
  pub kept : (n : NodeId) (r : Row) → s.graph.row n ≡ Some r → (Among n s.ran → ⊥)
      → (s.last n ≡ z.last n) ⊎ (HasCalled F z s.graph s.died s.root s.settled s.last n × (cost_at s.graph n ≡ 0))
  pub once : NoRepeats s.ran
  pub ran : (n : NodeId) → Among n s.ran → HasCalled F z s.graph s.died s.root s.settled s.last n
  pub costs : (n : NodeId) → Among n s.ran → 0 < cost_at s.graph n
  pub calls : RoseBy z.calls (costs_of s.graph s.ran) s.calls
  pub unmarked : (n : NodeId) (r : Row) → s.graph.row n ≡ Some r → s.needed (main n) ≡ true → s.stale n ≡ false
  pub renewed : (n : NodeId) (r : Row) (kids : List NodeId) (values : List Value) → z.stale n ≡ true → s.needed (main n) ≡ true
      → s.graph.row n ≡ Some r → taken_by s.graph n r.def ≡ Some kids → GiveAll F s.graph kids values → 0 < cost_at s.graph n
      → Among n s.ran
  pub fires : (n : NodeId) (v : Value) → (fires_at s n ≡ Some v → Fires F s.graph n v) × (Fires F s.graph n v → fires_at s n ≡ Some v)

-- how many of the points aren't settled
abbrev pub unsettled : (Point → Bool) → List Point → ℕ
unsettled settled points = number_of (λ (p : Point). cond (settled p) false true) points
