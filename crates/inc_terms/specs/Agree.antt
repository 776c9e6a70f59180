-- Two graphs that differ only in nodes that give Invalid in both.
use Rattle.std.specs.Prelude.{◌≡◌, ◌⊎◌, Some}
use Rattle.inc_value.specs.declared.function.FnKind.{FnKind}
use Rattle.inc_value.specs.declared.function.FnRef.{FnRef}
use Rattle.inc_value.specs.declared.node.NodeId.{NodeId}
use Rattle.inc_value.specs.declared.outcome.Outcome.TheVariants.{Invalid}
use Rattle.inc_terms.specs.Term.{Functions}
use Rattle.inc_terms.specs.Graph.{Graph, Row, present}
use Rattle.inc_terms.specs.Within.{TermWithin}
use Rattle.inc_terms.specs.Evaluate.{NodeGives}

-- every node of P gives Invalid in both graphs, or is kept: the same row, read alike, naming nodes of P alone, in a scope of a
-- kept bind that is built for the same
pub record Agree (F : Functions) (P : NodeId → Type 0) (Q : FnKind → FnRef → Type 0) (K : NodeId → Type 0) (G G' : Graph) : Type 0 where
  pub now : G'.now ≡ G.now
  pub either : (n : NodeId) → P n → (NodeGives F G n Invalid × NodeGives F G' n Invalid) ⊎ K n
  pub row : (n : NodeId) → K n → G'.row n ≡ G.row n
  pub reads : (n : NodeId) (r : Row) → K n → G.row n ≡ Some r → (present G' n r ≡ present G n r) × TermWithin P Q (present G n r)
  pub scope : (n : NodeId) (r : Row) (b : NodeId) → K n → G.row n ≡ Some r → r.scope ≡ Some b → K b × (G'.built b ≡ G.built b)
