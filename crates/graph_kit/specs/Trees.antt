-- Trees of maps over nodes.
use Rattle.std.specs.Prelude.{◌≡◌, ◌≤◌, ◌^◌, ◌++◌, ℕ, zero, suc, List, [], ◌∷◌, length, Some}
use Rattle.inc_value.specs.declared.function.FnRef.{FnRef}
use Rattle.inc_value.specs.declared.node.NodeId.{NodeId}
use Rattle.inc_terms.specs.Graph.{Map}
use Rattle.inc_terms.specs.Within.{Given}
use Rattle.node_arena.specs.Arena.{Arena, row_at}
use Rattle.graph.specs.Effects.{KeepsBesideGiven, top}
use Rattle.graph.specs.Standing.{GraphView}

-- a node, or one over two trees
pub data Tree : Type 0 where
  Leaf : (node : NodeId) → Tree
  Fork : (node : NodeId) (left right : Tree) → Tree

abbrev pub root : Tree → NodeId
root (Leaf n) = n
root (Fork n l r) = n

-- the nodes over which it stands, in order
abbrev pub leaves : Tree → List NodeId
leaves (Leaf n) = n ∷ []
leaves (Fork n l r) = leaves l ++ leaves r

-- it is no higher than so
abbrev pub IsLow : Tree → ℕ → Type 0
IsLow (Leaf n) d = Unit {0}
IsLow (Fork n l r) zero = ⊥
IsLow (Fork n l r) (suc d) = IsLow l d × IsLow r d

-- the node was given, and is a map of the two by the function, outside all scopes
pub record IsPair (a : Arena) (f : FnRef) (left right n : NodeId) : Type 0 where
  pub given : Given a.given n
  pub row : row_at a n ≡ Some (top (Map f (left ∷ right ∷ [])) f.sig.gives)

-- each fork is a map of the roots below it
abbrev pub AreMaps : Arena → FnRef → Tree → Type 0
AreMaps a f (Leaf n) = Unit {0}
AreMaps a f (Fork n l r) = IsPair a f (root l) (root r) n × AreMaps a f l × AreMaps a f r

-- the node is the root of a tree of maps by the function over these nodes, in their order. The tree is balanced: over at most 2 ^ d nodes it
-- is no higher than d
pub record IsSum (a : Arena) (f : FnRef) (kids : List NodeId) (n : NodeId) : Type 0 where
  pub tree : Tree
  pub is_root : root tree ≡ n
  pub over : leaves tree ≡ kids
  pub maps : AreMaps a f tree
  pub low : (d : ℕ) → length kids ≤ 2 ^ d → IsLow tree d

-- nodes may have been added, and nothing else changed
pub record Grows {F : Type 0} (old new : GraphView F) : Type 0 where
  pub beside : KeepsBesideGiven old new
  pub later : old.nodes.given ≤ new.nodes.given
  pub rows : (n : NodeId) → Given old.nodes.given n → row_at new.nodes n ≡ row_at old.nodes n
