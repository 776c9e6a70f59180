-- Which freezes are to keep a value behind a round, and what experts may be linked to.
use Rattle.std.specs.Prelude.{◌≡◌, ◌-◌, not, is_some, Bool, List, [], ◌∷◌, Some, option_map}
use Rattle.inc_value.specs.Choice.{Among}
use Rattle.inc_value.specs.declared.function.FnRef.{FnRef}
use Rattle.inc_value.specs.declared.node.NodeId.{NodeId}
use Rattle.inc_value.specs.declared.node.Point.{Point}
use Rattle.inc_value.specs.declared.ty.Ty.{Ty}
use Rattle.inc_value.specs.declared.value.Value.{Value}
use Rattle.inc_terms.specs.Depend.{main}
use Rattle.inc_terms.specs.Graph.{Row, Expert, Freeze}
use Rattle.link_table.specs.Links.{Links, Reads, times}
use Rattle.necessary_graph.specs.Part.{IsInStep, NecessaryPart, Needed, web}
use Rattle.necessary_graph.specs.Sweep.{DropsLeaves, IsUnlinked, IsUnrooted, Sweep}
use Rattle.necessity.specs.Need.{IsRoot, Roots, root_times}
use Rattle.node_arena.specs.Arena.{Arena, row_at}
use Rattle.node_arena.specs.Typing.{Fits}
use Rattle.node_outcomes.specs.Row.{fires_in, with_frozen}
use Rattle.node_outcomes.specs.Progress.{Progress}
use Rattle.point_map.specs.Rows.{Rows, at}
use Rattle.stabilize_round.specs.State.{count}

-- a live freeze of this child that keeps no value, of which the predicate was last found true
pub record HasToFreeze (arena : Arena) (rows : Rows Progress) (n kid : NodeId) : Type 0 where
  pub row : Row
  pub is_row : row_at arena n ≡ Some row
  pub predicate : FnRef
  pub is_freeze : row.def ≡ Freeze kid predicate
  pub value : Value
  pub fires : fires_in (at rows (main n)) ≡ Some value

-- a live expert, whose function takes a value of the node's type beside what it gives, or the node is dead
pub record MayList (arena : Arena) (expert kid : NodeId) : Type 0 where
  pub row : Row
  pub is_row : row_at arena expert ≡ Some row
  pub function : FnRef
  pub first : Value
  pub kids : List NodeId
  pub is_expert : row.def ≡ Expert function first kids
  pub element : Ty
  pub takes : function.sig.takes ≡ function.sig.gives ∷ element ∷ []
  pub fits : Fits arena kid element

-- a freeze that is to keep a value was called in the round; it is a root, and reads its child's main
pub record IsFiring (graph : NecessaryPart) (called : List NodeId) (n kid : NodeId) : Type 0 where
  pub ran : Among n called
  pub root : IsRoot (web graph) (main n)
  pub reads : Reads graph.links (main n) (main kid)

abbrev pub CanFreeze : Arena → Rows Progress → NecessaryPart → List NodeId → Type 0
CanFreeze arena rows graph called = (n kid : NodeId) → HasToFreeze arena rows n kid → IsFiring graph called n kid

-- the points that are there only while they are needed: those without a row
abbrev pub leaf_of : Rows Progress → Point → Bool
leaf_of rows p = not (is_some (at rows p))

-- a freeze has a root less, and where it is needed still, no link to its child
pub record IsTakenOff (rows : Rows Progress) (old new : NecessaryPart) (n kid : NodeId) : Type 0 where
  pub middle : NecessaryPart
  pub unrooted : IsUnrooted (leaf_of rows) old middle (main n)
  pub step : IsInStep middle
  pub unlinked : Needed middle (main n) → IsUnlinked (leaf_of rows) middle new (main n) (main kid)
  pub unneeded : (Needed middle (main n) → ⊥) → new ≡ middle

-- a point has the row, the links and the roots that it had; or it is the main of a freeze that was to keep a value, and does: it has a root less, and no
-- link to its child
pub data IsFrozenAt (arena : Arena) (rows rows' : Rows Progress) (old : NecessaryPart) (links : Links) (roots : Roots) (p : Point) : Type 0 where
  as_was : at rows' p ≡ at rows p → ((q : Point) → times links p q ≡ times old.links p q) → root_times roots p ≡ root_times old.roots p
      → IsFrozenAt arena rows rows' old links roots p
  froze : {n kid : NodeId} → HasToFreeze arena rows n kid → p ≡ main n → at rows' p ≡ option_map with_frozen (at rows p)
      → ((q : Point) → times links p q ≡ times old.links p q - count q (main kid ∷ [])) → root_times roots p ≡ root_times old.roots p - 1
      → IsFrozenAt arena rows rows' old links roots p

-- all freezes that are to keep a value do, and then what is no longer needed lost its links
pub record FreezesKeep (arena : Arena) (rows rows' : Rows Progress) (old new : NecessaryPart) : Type 0 where
  pub links : Links
  pub roots : Roots
  pub each : (p : Point) → IsFrozenAt arena rows rows' old links roots p
  pub none : (n kid : NodeId) → HasToFreeze arena rows' n kid → ⊥
  pub sweep : Sweep (record old { links = links; roots = roots }) new
  pub drops : DropsLeaves (leaf_of rows) old new
  pub step : IsInStep new
