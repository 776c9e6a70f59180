-- What names only certain nodes and functions.
use Rattle.std.specs.Prelude as std
use Rattle.std.specs.Prelude.{◌≡◌, ◌⊎◌, ◌<◌, ℕ, List, IsTrue}
use Rattle.inc_value.specs.declared.function.FnKind.{FnKind}
use Rattle.inc_value.specs.declared.function.FnRef.{FnRef}
use Rattle.inc_value.specs.declared.function.FnKind.TheVariants as kind
use Rattle.inc_value.specs.declared.node.NodeId.{NodeId}
use Rattle.inc_value.specs.declared.outcome.Outcome.{Outcome}
use Rattle.inc_value.specs.declared.outcome.Outcome.TheVariants.{Val, Invalid}
use Rattle.inc_value.specs.declared.value.Value.{Value}
use Rattle.inc_value.specs.declared.value.Value.TheVariants.{Node}
use Rattle.inc_value.specs.Choice.{Every, Among}
use Rattle.inc_terms.specs.Graph as graph
use Rattle.inc_terms.specs.Graph.{Def}
use Rattle.inc_terms.specs.Term.{Term, Terms, Step, Const, Ref, Cap, Map, Fold, If, Join, Bind, At, Steps, Now, End, More, Functions}

-- a value that names none but such nodes
abbrev pub ValueWithin : (NodeId → Type 0) → Value → Type 0
ValueWithin P (Node n base) = P n
ValueWithin P v = Unit {0}

-- an outcome that names none but such nodes
abbrev pub OutcomeWithin : (NodeId → Type 0) → Outcome → Type 0
OutcomeWithin P (Val v) = ValueWithin P v
OutcomeWithin P Invalid = Unit {0}

abbrev mutual
  -- a term that names none but such nodes, and such functions as may stand there for their kind
  pub TermWithin : (NodeId → Type 0) → (FnKind → FnRef → Type 0) → Term → Type 0
  TermWithin P Q (Const v) = ValueWithin P v
  TermWithin P Q (Ref n) = P n
  TermWithin P Q (Cap i) = Unit {0}
  TermWithin P Q (Map f ts) = Q kind.Map f × TermsWithin P Q ts
  TermWithin P Q (Fold f v ts) = Q kind.Map f × ValueWithin P v × TermsWithin P Q ts
  TermWithin P Q (If t a b) = TermWithin P Q t × TermWithin P Q a × TermWithin P Q b
  TermWithin P Q (Join t) = TermWithin P Q t
  TermWithin P Q (Bind l f ts) = Q kind.Rhs f × TermWithin P Q l × TermsWithin P Q ts
  TermWithin P Q (At t) = Unit {0}
  TermWithin P Q (Steps v steps) = ValueWithin P v × Every (λ (s : Step). ValueWithin P s.value) steps
  TermWithin P Q Now = Unit {0}

  -- terms that do so
  pub TermsWithin : (NodeId → Type 0) → (FnKind → FnRef → Type 0) → Terms → Type 0
  TermsWithin P Q End = Unit {0}
  TermsWithin P Q (More t ts) = TermWithin P Q t × TermsWithin P Q ts

-- a definition that names none but such nodes, and such functions as may stand there for their kind
abbrev pub DefWithin : (NodeId → Type 0) → (FnKind → FnRef → Type 0) → Def → Type 0
DefWithin P Q (graph.Const v) = ValueWithin P v
DefWithin P Q (graph.Var v) = ValueWithin P v
DefWithin P Q (graph.Map f ns) = Q kind.Map f × Every P ns
DefWithin P Q (graph.Fold f v ns) = Q kind.Map f × ValueWithin P v × Every P ns
DefWithin P Q (graph.If t a b) = P t × P a × P b
DefWithin P Q (graph.Join n) = P n
DefWithin P Q (graph.Bind l f ns) = Q kind.Rhs f × P l × Every P ns
DefWithin P Q (graph.At t) = Unit {0}
DefWithin P Q (graph.Steps v steps) = ValueWithin P v × Every (λ (s : Step). ValueWithin P s.value) steps
DefWithin P Q graph.Now = Unit {0}
DefWithin P Q (graph.Every base span) = Unit {0}
DefWithin P Q (graph.Freeze n f) = Q kind.Map f × P n
DefWithin P Q (graph.Expert f v ns) = Q kind.Map f × ValueWithin P v × Every P ns

-- functions such that what they give, on such values, names none but such nodes and functions
pub record FunctionsWithin (F : Functions) (P : NodeId → Type 0) (Q : FnKind → FnRef → Type 0) : Type 0 where
  pub values : (f : FnRef) (vs : List Value) → Q kind.Map f → Every (ValueWithin P) vs → ValueWithin P (F.value f vs)
  pub terms : (f : FnRef) (v : Value) → Q kind.Rhs f → ValueWithin P v → TermWithin P Q (F.term f v)

-- the node that a value names
abbrev pub NamedBy : Value → NodeId → Type 0
NamedBy (Node m base) n = n ≡ m
NamedBy v n = ⊥

-- a known function of the kind
abbrev pub KnownAs : (FnRef → std.Bool) → FnKind → FnRef → Type 0
KnownAs known k f = IsTrue (known f) × (f.id.kind ≡ k)

-- the function's term may name the node: it is the left value's, or listed
abbrev pub MayName : (FnRef → List NodeId) → FnRef → Value → NodeId → Type 0
MayName ids f v n = NamedBy v n ⊎ Among n (ids f)

-- the function's term may hold the function: it is known, of the kind, and lists no further nodes
abbrev pub MayHold : (FnRef → std.Bool) → (FnRef → List NodeId) → FnRef → FnKind → FnRef → Type 0
MayHold known ids f k g = KnownAs known k g × ((n : NodeId) → Among n (ids g) → Among n (ids f))

-- what the functions promise of all arguments and all left values: a known map's value names no node, and a known right side's term names
-- and holds what it may
pub record FunctionLaws (F : Functions) (known : FnRef → std.Bool) (ids : FnRef → List NodeId) : Type 0 where
  pub values : (f : FnRef) (vs : List Value) → KnownAs known kind.Map f → ValueWithin (λ (n : NodeId). ⊥) (F.value f vs)
  pub terms : (f : FnRef) (v : Value) → KnownAs known kind.Rhs f → TermWithin (MayName ids f v) (MayHold known ids f) (F.term f v)

-- a known function of the kind whose nodes are all of the set
abbrev pub IsFit : (NodeId → Type 0) → (FnRef → std.Bool) → (FnRef → List NodeId) → FnKind → FnRef → Type 0
IsFit P known ids k f = KnownAs known k f × ((n : NodeId) → Among n (ids f) → P n)

-- an id that was given
abbrev pub Given : ℕ → NodeId → Type 0
Given count n = n.gen_ < count

-- a known function all of whose nodes were given
abbrev pub Fit : ℕ → (FnRef → std.Bool) → (FnRef → List NodeId) → FnKind → FnRef → Type 0
Fit count known ids f = IsFit (Given count) known ids f
