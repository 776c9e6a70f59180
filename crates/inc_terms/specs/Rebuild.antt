-- One bind built anew.
use Rattle.std.specs.Prelude.{◌≡◌, ◌⊎◌, ℕ, Bool, List, None, Some}
use Rattle.inc_value.specs.declared.function.FnKind.{FnKind}
use Rattle.inc_value.specs.declared.function.FnRef.{FnRef}
use Rattle.inc_value.specs.declared.node.NodeId.{NodeId}
use Rattle.inc_value.specs.declared.outcome.Outcome.{Outcome}
use Rattle.inc_value.specs.declared.value.Value.{Value}
use Rattle.inc_value.specs.Choice.{Every}
use Rattle.inc_terms.specs.Term.{Functions}
use Rattle.inc_terms.specs.Graph as graph
use Rattle.inc_terms.specs.Graph.{Graph, Row, Built, present}
use Rattle.inc_terms.specs.Within.{TermWithin, DefWithin, ValueWithin, FunctionLaws, Given, Fit}
use Rattle.inc_terms.specs.Evaluate.{NodeGives, Stands}

-- a node stands in the bind's scope, or in one within it
pub data Inside (G : Graph) (b : NodeId) : NodeId → Type 0 where
  direct : {n : NodeId} {r : Row} → G.row n ≡ Some r → r.scope ≡ Some b → Inside G b n
  nested : {n : NodeId} {r : Row} {c : NodeId} → G.row n ≡ Some r → r.scope ≡ Some c → Inside G b c → Inside G b n

-- live nodes were given, name given nodes alone, and stand in scopes of given nodes
pub record Names (P : NodeId → Type 0) (Q : FnKind → FnRef → Type 0) (G : Graph) : Type 0 where
  pub live : (n : NodeId) (r : Row) → G.row n ≡ Some r → P n
  pub reads : (n : NodeId) (r : Row) → G.row n ≡ Some r → TermWithin P Q (present G n r)
  pub scope : (n : NodeId) (r : Row) (b : NodeId) → G.row n ≡ Some r → r.scope ≡ Some b → P b

-- the same, part by part as an arena keeps it: rows, their scopes, the values that freezes keep, and the lists of experts
pub record Keeping (P : NodeId → Type 0) (Q : FnKind → FnRef → Type 0) (G : Graph) : Type 0 where
  pub live : (n : NodeId) (r : Row) → G.row n ≡ Some r → P n
  pub defs : (n : NodeId) (r : Row) → G.row n ≡ Some r → DefWithin P Q r.def
  pub scope : (n : NodeId) (r : Row) (b : NodeId) → G.row n ≡ Some r → r.scope ≡ Some b → P b
  pub frozen : (n : NodeId) (v : Value) → G.frozen n ≡ Some v → ValueWithin P v
  pub lists : (n : NodeId) → Every P (G.lists n)

-- a bind that holds with those round it, and whose left outcome is another than it was built for
pub record IsDue (F : Functions) (G : Graph) (b : NodeId) (now : Outcome) : Type 0 where
  pub row : Row
  pub left : NodeId
  pub function : FnRef
  pub captures : List NodeId
  pub is_row : G.row b ≡ Some row
  pub is_bind : row.def ≡ graph.Bind left function captures
  pub stands : Stands F G row.scope
  pub gives : NodeGives F G left now
  pub changed : (w : Built) → G.built b ≡ Some w → w.outcome ≡ now → ⊥

-- of the given nodes just those inside the bind's scope died, and all else of them but what the bind was built for is as it was
pub record Rebuilt (P : NodeId → Type 0) (G G' : Graph) (b : NodeId) : Type 0 where
  pub clock : G'.now ≡ G.now
  pub frozen : (n : NodeId) → P n → G'.frozen n ≡ G.frozen n
  pub lists : (n : NodeId) → P n → G'.lists n ≡ G.lists n
  pub rows : (n : NodeId) → P n → (Inside G b n × (G'.row n ≡ None)) ⊎ ((Inside G b n → ⊥) × (G'.row n ≡ G.row n))
  pub built : (c : NodeId) → P c → (c ≡ b → ⊥) → (Inside G b c → ⊥) → G'.built c ≡ G.built c

-- a bind is due and built anew, in a graph in which so many ids were given, by functions that keep their promise: those that are known, each
-- with the nodes that it may name. The graph names given nodes and fit functions
pub record Rebuilds (F : Functions) (known : FnRef → Bool) (ids : FnRef → List NodeId) (count : ℕ) (G G' : Graph)
    (b : NodeId) (now : Outcome) : Type 0 where
  pub laws : FunctionLaws F known ids
  pub names : Names (Given count) (Fit count known ids) G
  pub due : IsDue F G b now
  pub rebuilt : Rebuilt (Given count) G G' b
