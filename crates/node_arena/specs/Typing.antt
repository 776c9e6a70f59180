-- The type that a definition makes of its children and values.
use Rattle.std.specs.Prelude.{◌≡◌, ◌<◌, ◌-◌, ◌^◌, List, [], ◌∷◌, Some, IfSome}
use Rattle.std.specs.List.{AllZip}
use Rattle.inc_value.specs.Choice.{Every}
use Rattle.inc_value.specs.Ty.{base_of, type_of_base}
use Rattle.inc_value.specs.Value.{type_of}
use Rattle.inc_value.specs.declared.function.FnKind.TheVariants as kind
use Rattle.inc_value.specs.declared.function.FnRef.{FnRef}
use Rattle.inc_value.specs.declared.node.NodeId.{NodeId}
use Rattle.inc_value.specs.declared.ty.Base.{Base}
use Rattle.inc_value.specs.declared.ty.Ty.{Ty}
use Rattle.inc_value.specs.declared.ty.Ty.TheVariants as ty
use Rattle.inc_value.specs.declared.value.Value.{Value}
use Rattle.inc_value.specs.declared.value.Value.TheVariants.{Node}
use Rattle.inc_terms.specs.Graph as graph
use Rattle.inc_terms.specs.Graph.{Row, Def, Const, Var, Map, Fold, If, Join, Bind, At, Steps, Now, Freeze, Expert}
use Rattle.inc_terms.specs.Term.{Step}
use Rattle.node_arena.specs.Arena.{Arena, row_at, live, NamesGiven}

-- the node is of the type, or dead
abbrev pub Fits : Arena → NodeId → Ty → Type 0
Fits a n t = IfSome (row_at a n) (λ (r : Row). r.ty ≡ t)

-- a reference names a node of its base type, or a dead one
abbrev pub ReferenceFits : Arena → Value → Type 0
ReferenceFits a (Node n b) = Fits a n (type_of_base b)
ReferenceFits a v = Unit {0}

-- a value of the type
pub record HasType (a : Arena) (v : Value) (t : Ty) : Type 0 where
  pub type : type_of v ≡ t
  pub reference : ReferenceFits a v

-- of a live node, the value has the type
abbrev pub FitsNode : Arena → NodeId → Value → Type 0
FitsNode a n v = IfSome (row_at a n) (λ (r : Row). HasType a v r.ty)

-- a map whose children are of the types that the function takes, and which gives the type
pub record MapMakes (a : Arena) (f : FnRef) (kids : List NodeId) (t : Ty) : Type 0 where
  pub kind : f.id.kind ≡ kind.Map
  pub children : AllZip (Fits a) kids f.sig.takes
  pub gives : f.sig.gives ≡ t

-- a function that takes the type and another one folds children of the other
abbrev pub FoldTakes : Arena → Ty → List NodeId → List Ty → Type 0
FoldTakes a t kids (first ∷ element ∷ []) = (first ≡ t) × Every (λ n. Fits a n element) kids
FoldTakes a t kids tys = ⊥

-- a fold from a value of the type that the function gives and takes first, over children of the type that it takes second
pub record FoldMakes (a : Arena) (f : FnRef) (v : Value) (kids : List NodeId) (t : Ty) : Type 0 where
  pub kind : f.id.kind ≡ kind.Map
  pub takes : FoldTakes a t kids f.sig.takes
  pub gives : f.sig.gives ≡ t
  pub initial : HasType a v t

-- a test of truth values, and two branches of the type
abbrev pub IfMakes : Arena → NodeId → NodeId → NodeId → Ty → Type 0
IfMakes a test left right t = Fits a test ty.Bool × Fits a left t × Fits a right t

-- a child whose references lead to nodes of the type, which is a base type
abbrev pub JoinMakes : Arena → NodeId → Ty → Type 0
JoinMakes a kid t = (b : Base) × (base_of t ≡ Some b) × Fits a kid (ty.Node b)

-- of the types that the function takes, the first is the left's and the rest are the captures'
abbrev pub BindTakes : Arena → NodeId → List NodeId → List Ty → Type 0
BindTakes a left captures [] = ⊥
BindTakes a left captures (first ∷ rest) = Fits a left first × AllZip (Fits a) captures rest

-- a bind whose left and captures are of the types that the function takes, and whose function gives the type
pub record BindMakes (a : Arena) (left : NodeId) (f : FnRef) (captures : List NodeId) (t : Ty) : Type 0 where
  pub kind : f.id.kind ≡ kind.Rhs
  pub takes : BindTakes a left captures f.sig.takes
  pub gives : f.sig.gives ≡ t

-- values of the type: the first, and that of each step
abbrev pub StepsMake : Arena → Value → List Step → Ty → Type 0
StepsMake a v steps t = HasType a v t × Every (λ (s : Step). HasType a s.value t) steps

-- a child of the type, and a function that takes one value of it and gives a truth value
pub record FreezeMakes (a : Arena) (kid : NodeId) (f : FnRef) (t : Ty) : Type 0 where
  pub kind : f.id.kind ≡ kind.Map
  pub takes : f.sig.takes ≡ t ∷ []
  pub gives : f.sig.gives ≡ ty.Bool
  pub child : Fits a kid t

-- what the types of live children, of values and of the function make of the definition
abbrev pub Makes : Arena → Def → Ty → Type 0
Makes a (Const v) t = HasType a v t
Makes a (Var v) t = HasType a v t
Makes a (Map f kids) t = MapMakes a f kids t
Makes a (Fold f v kids) t = FoldMakes a f v kids t
Makes a (If test left right) t = IfMakes a test left right t
Makes a (Join kid) t = JoinMakes a kid t
Makes a (Bind left f captures) t = BindMakes a left f captures t
Makes a (At time) t = t ≡ ty.Bool
Makes a (Steps v steps) t = StepsMake a v steps t
Makes a Now t = t ≡ ty.Int
Makes a (graph.Every base span) t = t ≡ ty.Int
Makes a (Freeze kid f) t = FreezeMakes a kid f t
Makes a (Expert f v kids) t = FoldMakes a f v kids t

-- a node of this definition and type can be added, where there is memory
pub record IsAddable (a : Arena) (def : Def) (t : Ty) : Type 0 where
  pub names : NamesGiven a.given def
  pub types : Makes a def t
  pub few : live a < 1048576
  pub count : a.given < 2 ^ 64 - 1
