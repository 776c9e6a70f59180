-- What a stabilize means for maps that are seen.
use Rattle.std.specs.Prelude.{◌≡◌, List, Some}
use Rattle.std.specs.List.{AllZip}
use Rattle.inc_value.specs.declared.function.FnRef.{FnRef}
use Rattle.inc_value.specs.declared.node.NodeId.{NodeId}
use Rattle.inc_value.specs.declared.node.ObsId.{ObsId}
use Rattle.inc_value.specs.declared.outcome.Outcome.TheVariants.{Val}
use Rattle.inc_value.specs.declared.value.Value.{Value}
use Rattle.inc_terms.specs.Graph.{Row, Map}
use Rattle.node_arena.specs.Arena.{row_at}
use Rattle.graph.specs.Standing.{GraphView, node_at, shown_of}

module _ {F : Type 0} where
  -- an observer in use looks at the node, which shows the value
  pub record Sees (s : GraphView F) (n : NodeId) (v : Value) : Type 0 where
    pub observer : ObsId
    pub looks : node_at s.observers observer ≡ Some n
    pub shows : shown_of s n ≡ Some (Val v)

  -- where a map and its children are seen with their values, the map's is what its function gives of theirs
  abbrev pub MapsAreRight : (FnRef → List Value → Value) → GraphView F → Type 0
  MapsAreRight value s =
      (n : NodeId) (r : Row) (f : FnRef) (kids : List NodeId) (v : Value) (vs : List Value) → row_at s.nodes n ≡ Some r → r.def ≡ Map f kids
      → Sees s n v → AllZip (Sees s) kids vs → v ≡ value f vs

  -- a live node that is seen with a value is what it was
  abbrev pub SeenStay : GraphView F → GraphView F → Type 0
  SeenStay old new = (n : NodeId) (r : Row) (v : Value) → row_at old.nodes n ≡ Some r → Sees new n v → row_at new.nodes n ≡ Some r
