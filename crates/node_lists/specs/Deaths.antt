-- What a contract sees of the nodes that died in a round.
use Rattle.std.specs.Prelude.{◌↔◌, ℕ, List, map}
use Rattle.inc_value.specs.Choice.{Among, NoRepeats}
use Rattle.inc_value.specs.declared.node.NodeId.{NodeId}
use Rattle.inc_value.specs.declared.node.Point.{Point}
use Rattle.inc_terms.specs.Depend.{main}
use Rattle.point_map.specs.Rows.{Rows, Holds}

-- the nodes in the order of dying, the scope of each at its main, and how many more can be added without memory
pub record Deaths : Type 0 where
  pub nodes : List NodeId
  pub scopes : Rows NodeId
  pub spare : ℕ

-- no node died twice, and there is a scope at the main of each that died and nowhere else
pub record AreDeaths (nodes : List NodeId) (scopes : Rows NodeId) : Type 0 where
  pub once : NoRepeats nodes
  pub rows : (p : Point) → Holds scopes p ↔ Among p (map main nodes)
