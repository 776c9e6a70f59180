-- What stands beside a graph, and what is needed, held and met.
use Rattle.std.specs.Prelude.{◌≡◌, ◌⊎◌, ◌<◌, ℕ, Bool, List, map, Option, None, Some}
use Rattle.inc_value.specs.declared.function.FnRef.{FnRef}
use Rattle.inc_value.specs.declared.node.NodeId.{NodeId}
use Rattle.inc_value.specs.declared.node.ObsId.{ObsId}
use Rattle.inc_value.specs.declared.node.Point.{Point}
use Rattle.inc_value.specs.declared.value.Value.{Value}
use Rattle.inc_value.specs.Choice.{Among, Reaches}
use Rattle.map_nodes.specs.declared.cutoff.Cutoff.{Cutoff}
use Rattle.inc_terms.specs.Term.{Functions}
use Rattle.inc_terms.specs.Graph.{Graph, Row, Built, Freeze}
use Rattle.inc_terms.specs.Evaluate.{Stands}
use Rattle.inc_terms.specs.Depend.{Depends, main}

-- ---- beside the graph

-- who asks for a node: an observer for the one that it looks at, or a freeze that keeps no value yet for itself
pub data Holder : Type 0 where
  Observing : (observer : ObsId) → Holder
  Freezing : (freeze : NodeId) → Holder

-- what is kept beside a graph: for which node each holder has put need on, how often a point is linked to another, the arguments on which a
-- node's function was last called, which experts were made stale, and each node's cutoff
pub record Beside : Type 0 where
  pub roots : Holder → Option NodeId
  pub links : Point → Point → ℕ
  pub last : NodeId → Option (List Value)
  pub stale : NodeId → Bool
  pub cutoff : NodeId → Cutoff

-- the one point is linked to the other
abbrev pub Linked : Beside → Point → Point → Type 0
Linked beside p q = 0 < beside.links p q

-- an observer in use, and the node that it looks at
pub record Observed : Type 0 where
  pub observer : ObsId
  pub node : NodeId

-- the nodes that observers in use look at
abbrev pub nodes_of : List Observed → List NodeId
nodes_of observers = map (λ (x : Observed). x.node) observers

-- ---- need

-- a live freeze that keeps no value yet
pub record IsUnfrozen (G : Graph) (n : NodeId) : Type 0 where
  pub row : Row
  pub kid : NodeId
  pub predicate : FnRef
  pub is_row : G.row n ≡ Some row
  pub is_freeze : row.def ≡ Freeze kid predicate
  pub keeps_none : G.frozen n ≡ None

-- the graph as a call leaves it, in which just those freezes keep values that kept them when the call began
abbrev pub left_by_call : Graph → Graph → Graph
left_by_call G G' = record G' { frozen = G.frozen }

-- where need begins: at what observers in use look at, and at freezes that keep no value yet
abbrev pub IsRoot : Graph → List NodeId → NodeId → Type 0
IsRoot G observed n = Among n observed ⊎ IsUnfrozen G n

-- reached from the roots by what points depend on
abbrev pub Needed : Functions → Graph → (NodeId → Option NodeId) → List NodeId → Point → Type 0
Needed F G died observed p = (n : NodeId) × IsRoot G observed n × Reaches (Depends F G died) (main n) p

-- ---- what was held when a call began

-- a holder that isn't an observer that was ended
abbrev pub StillHolds : List Observed → Holder → Type 0
StillHolds observers (Observing o) = Among o (map (λ (x : Observed). x.observer) observers)
StillHolds observers (Freezing n) = Unit {0}

-- reached over the attached links from the need of holders that weren't ended
pub record Held (beside : Beside) (observers : List Observed) (p : Point) : Type 0 where
  pub holder : Holder
  pub node : NodeId
  pub is_root : beside.roots holder ≡ Some node
  pub still : StillHolds observers holder
  pub reached : Reaches (Linked beside) (main node) p

-- ---- what is met

-- reached by what points depend on, from the roots, or from what was held, is live and stands
pub data Met (F : Functions) (G : Graph) (died : NodeId → Option NodeId) (observed : List NodeId) (held : Point → Type 0) (p : Point) : Type 0 where
  from_root : {n : NodeId} → IsRoot G observed n → Reaches (Depends F G died) (main n) p → Met F G died observed held p
  from_held : {h : Point} {r : Row} → held h → G.row h.node ≡ Some r → Stands F G r.scope
      → Reaches (Depends F G died) h p → Met F G died observed held p

-- what the graph keeps beside its rows names given nodes, and a freeze stands in no scope
pub record Keeps (P : NodeId → Type 0) (G : Graph) (died : NodeId → Option NodeId) : Type 0 where
  pub roots : (b : NodeId) (w : Built) (m : NodeId) → P b → G.built b ≡ Some w → w.root ≡ Some m → P m
  pub scopes : (n : NodeId) (b : NodeId) → P n → died n ≡ Some b → P b
  pub freezes : (n : NodeId) (r : Row) (kid : NodeId) (f : FnRef) → G.row n ≡ Some r → r.def ≡ Freeze kid f → r.scope ≡ None
