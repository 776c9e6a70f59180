-- A node read back as a term.
use Rattle.std.specs.Prelude.{◌≡◌, List, [], ◌∷◌, Option, Some, slice_get}
use Rattle.inc_value.specs.declared.node.NodeId.{NodeId}
use Rattle.inc_terms.specs.Term.{Term, Terms, Const, Ref, Cap, Map, Fold, If, Join, Bind, At, Steps, Now, End, More}
use Rattle.inc_terms.specs.Graph as graph
use Rattle.inc_terms.specs.Graph.{Graph, Row, Def}

-- a live node of the scope that is so defined
abbrev pub IsIn : Graph → Option NodeId → NodeId → Def → Type 0
IsIn G S n def = (r : Row) × (G.row n ≡ Some r) × (r.scope ≡ S) × (r.def ≡ def)

-- a node that isn't one of the scope
abbrev pub Outside : Graph → Option NodeId → NodeId → Type 0
Outside G S n = (r : Row) → G.row n ≡ Some r → r.scope ≡ S → ⊥

abbrev mutual
  -- the node reads back as the term: nodes of the scope S by what they are, the i-th capture as Cap i, any other as itself
  pub Unfolds : Graph → Option NodeId → List NodeId → NodeId → Term → Type 0
  Unfolds G S caps n (Const v) = IsIn G S n (graph.Const v)
  Unfolds G S caps n (Ref m) = (n ≡ m) × Outside G S n
  Unfolds G S caps n (Cap i) = (slice_get caps i ≡ Some n) × Outside G S n
  Unfolds G S caps n (Map f ts) = (kids : List NodeId) × IsIn G S n (graph.Map f kids) × UnfoldsAll G S caps kids ts
  Unfolds G S caps n (Fold f v ts) = (kids : List NodeId) × IsIn G S n (graph.Fold f v kids) × UnfoldsAll G S caps kids ts
  Unfolds G S caps n (If t a b) = (x y z : NodeId) × IsIn G S n (graph.If x y z) × Unfolds G S caps x t × Unfolds G S caps y a × Unfolds G S caps z b
  Unfolds G S caps n (Join t) = (x : NodeId) × IsIn G S n (graph.Join x) × Unfolds G S caps x t
  Unfolds G S caps n (Bind l f ts) =
      (x : NodeId) × (kids : List NodeId) × IsIn G S n (graph.Bind x f kids) × Unfolds G S caps x l × UnfoldsAll G S caps kids ts
  Unfolds G S caps n (At t) = IsIn G S n (graph.At t)
  Unfolds G S caps n (Steps v steps) = IsIn G S n (graph.Steps v steps)
  Unfolds G S caps n Now = IsIn G S n graph.Now

  -- the nodes read back as the terms, one for one
  pub UnfoldsAll : Graph → Option NodeId → List NodeId → List NodeId → Terms → Type 0
  UnfoldsAll G S caps [] End = Unit {0}
  UnfoldsAll G S caps (n ∷ ns) End = ⊥
  UnfoldsAll G S caps [] (More t ts) = ⊥
  UnfoldsAll G S caps (n ∷ ns) (More t ts) = Unfolds G S caps n t × UnfoldsAll G S caps ns ts
