-- A graph to which nodes were added, and the nodes that are made for a plan.
use Rattle.std.specs.Prelude.{◌≡◌, ◌⊎◌, ◌+◌, ◌<◌, ◌≤◌, ℕ, Bool, List, [], ◌∷◌, length, pos, take, None, Some, IsTrue, slice_get}
use Rattle.std.specs.List.{AllZip}
use Rattle.inc_value.specs.Choice.{Among, Every}
use Rattle.inc_value.specs.Ty.{IsBase, type_of_base}
use Rattle.inc_value.specs.Value.{type_of}
use Rattle.inc_value.specs.declared.function.FnKind.TheVariants as kind
use Rattle.inc_value.specs.declared.function.FnRef.{FnRef}
use Rattle.inc_value.specs.declared.node.NodeId.{NodeId}
use Rattle.inc_value.specs.declared.ty.Base.{Base}
use Rattle.inc_value.specs.declared.ty.Ty.{Ty}
use Rattle.inc_value.specs.declared.ty.Ty.TheVariants as types
use Rattle.inc_value.specs.declared.value.Value.{Value}
use Rattle.inc_value.specs.declared.value.Value.TheVariants as value
use Rattle.inc_terms.specs.Clock.{IsTimed}
use Rattle.inc_terms.specs.Graph as graph_def
use Rattle.inc_terms.specs.Graph.{Row, Def}
use Rattle.inc_terms.specs.Term.{Functions, Step}
use Rattle.inc_terms.specs.Within.{Given}
use Rattle.formula_elab.specs.Made.{StandsIn}
use Rattle.formula_elab.specs.Make as make
use Rattle.formula_elab.specs.Make.{Make, function_made, made_at, IsFunction}
use Rattle.formula_elab.specs.Bodies.{OpenBody, size_of}
use Rattle.formula_elab.specs.Opened.{made_node, open_ty}
use Rattle.formula_elab.specs.declared.plan.Planned.{Planned}
use Rattle.formula_elab.specs.declared.body.OpenLine.{OpenLine}
use Rattle.formula_elab.specs.declared.body.OpenLine.TheVariants as open_line
use Rattle.formula_elab.specs.declared.make.Made.{Made}
use Rattle.formula_elab.specs.declared.make.Made.TheVariants as was
use Rattle.formula_elab.specs.declared.opened.Open.{Open}
use Rattle.formula_elab.specs.declared.opened.Open.TheVariants as open_def
use Rattle.formula_elab.specs.declared.opened.Part.{Part}
use Rattle.formula_elab.specs.declared.opened.Part.TheVariants as part
use Rattle.formula_elab.specs.declared.plan.Planned.TheVariants as planned
use Rattle.graph.specs.Effects.{top, Adds, CallsKnown, KeepsBesideGiven}
use Rattle.graph.specs.Standing.{GraphView, graph, without_functions}
use Rattle.node_arena.specs.Arena.{Arena, row_at, live, NamesGiven}
use Rattle.node_arena.specs.Building.{Use}
use Rattle.node_arena.specs.Listing.{Listed}
use Rattle.node_arena.specs.RightSide.{AreFit, AreUsable, RightSide}
use Rattle.node_arena.specs.RightSideLaws.{meaning}
use Rattle.node_arena.specs.Typing.{Fits, Makes}
use Rattle.script_functions.specs.Bodies as Bodies
use Rattle.script_functions.specs.Bodies.{side_of, term_at}
use Rattle.script_functions.specs.Keeping.{makers, side_in}
pub use Rattle.script_functions.specs.Keeping.{KeepsBodies}
use Rattle.script_functions.specs.Lines.{line_uses}
use Rattle.script_model.specs.Values.{seen_value}

-- a value refers to a node of its base type or a dead one, if to any
abbrev pub RefersToFit : Arena → Value → Type 0
RefersToFit a (value.Node n base) = Given a.given n × Fits a n (type_of_base base)
RefersToFit a v = Unit {0}

-- the node is to be made as the i-th, of the type
abbrev pub IsNodeOf : List Planned → ℕ → Ty → Type 0
IsNodeOf makes i t = (x : Open) × (slice_get makes i ≡ Some (planned.Node x)) × (open_ty x ≡ t)

-- the part is a live node of the type, a dead one of a grab, or made as the i-th, of that type
abbrev pub PartFits : Arena → List Planned → Ty → Part → Type 0
PartFits a makes t (part.Given n) = Given a.given n × Fits a n t
PartFits a makes t (part.Made i) = IsNodeOf makes i t

-- a known map folds parts of the one type from a value of the base type that it gives and takes with a part
pub record FoldFits (known : FnRef → Bool) (a : Arena) (makes : List Planned) (f : FnRef) (v : Value) (parts : List Part) : Type 0 where
  pub element : Ty
  pub is_known : IsTrue (known f)
  pub kind : f.id.kind ≡ kind.Map
  pub takes : f.sig.takes ≡ f.sig.gives ∷ element ∷ []
  pub initial : type_of v ≡ f.sig.gives
  pub base : IsBase (type_of v)
  pub parts_fit : Every (PartFits a makes element) parts

-- a known map tells of values of the type, which a part has
pub record FreezeFits (known : FnRef → Bool) (a : Arena) (makes : List Planned) (ty : Ty) (child : Part) (predicate : FnRef) : Type 0 where
  pub is_known : IsTrue (known predicate)
  pub kind : predicate.id.kind ≡ kind.Map
  pub takes : predicate.sig.takes ≡ ty ∷ []
  pub gives : predicate.sig.gives ≡ types.Bool
  pub child_fits : PartFits a makes ty child

-- a known map folds elements of a type from a value of the type that it gives
pub record ExpertFits (known : FnRef → Bool) (a : Arena) (f : FnRef) (v : Value) : Type 0 where
  pub element : Ty
  pub is_known : IsTrue (known f)
  pub kind : f.id.kind ≡ kind.Map
  pub takes : f.sig.takes ≡ f.sig.gives ∷ element ∷ []
  pub initial : type_of v ≡ f.sig.gives
  pub refers : RefersToFit a v

-- the function is to be made as the i-th, of a body that takes the one type and gives the other
abbrev pub IsBodyOf : List Planned → ℕ → Ty → Ty → Type 0
IsBodyOf makes i variable ty =
    (o : OpenBody) × (slice_get makes i ≡ Some (planned.Body o)) × (o.sig ≡ record { takes = variable ∷ []; gives = ty })

-- a node that is to be made fits: values refer to nodes of their types, functions are known maps whose arguments have the types that they take, an if has
-- a test and branches of its type, a join a child whose references lead to its type, and a bind a left of the type that its function takes,
-- steps values of one type, a count of spans a base that the clock has come to, a freeze a predicate on its child's values, and an expert a function that
-- folds
abbrev pub OpenFits : (FnRef → Bool) → Arena → List Planned → Open → Type 0
OpenFits known a makes (open_def.Const v) = RefersToFit a v
OpenFits known a makes (open_def.Var v) = RefersToFit a v
OpenFits known a makes (open_def.Map f parts) =
    IsTrue (known f) × (f.id.kind ≡ kind.Map) × AllZip (λ (p : Part) (t : Ty). PartFits a makes t p) parts f.sig.takes
OpenFits known a makes (open_def.Fold f v parts) = FoldFits known a makes f v parts
OpenFits known a makes (open_def.If ty test left right) =
    PartFits a makes types.Bool test × PartFits a makes ty left × PartFits a makes ty right
OpenFits known a makes (open_def.Join ty child) = (base : Base) × PartFits a makes (types.Node base) child × (type_of_base base ≡ ty)
OpenFits known a makes (open_def.Bind ty left body) = (u : Ty) × PartFits a makes u left × IsBodyOf makes body u ty
OpenFits known a makes (open_def.At time) = Unit {0}
OpenFits known a makes (open_def.Steps v steps) =
    RefersToFit a v × Every (λ (s : Step). (type_of s.value ≡ type_of v) × RefersToFit a s.value) steps
OpenFits known a makes open_def.Now = Unit {0}
OpenFits known a makes (open_def.Every base span) = IsTimed a.time (graph_def.Every base (pos span))
OpenFits known a makes (open_def.Freeze ty child predicate) = FreezeFits known a makes ty child predicate
OpenFits known a makes (open_def.Expert f v) = ExpertFits known a f v

-- a line calls a known map, or a function that is to be made before, which takes no more nodes and lists no others
abbrev pub LineFits : (FnRef → Bool) → List Planned → List Listed → OpenLine → Type 0
LineFits known earlier listed (open_line.Ready l) = Every (λ (u : Use). IsTrue (known u.function) × (u.function.id.kind ≡ kind.Map)) (line_uses l)
LineFits known earlier listed (open_line.Bind left body most captures) =
    (o : OpenBody) × (slice_get earlier body ≡ Some (planned.Body o)) × (most ≡ size_of o.page)
    × ((x : Listed) → Among x o.page.listed → Among x listed)

-- a body that is to be made fits: so do its lines, and the nodes that it lists were given and are of their types or dead
pub record BodyFits (known : FnRef → Bool) (a : Arena) (earlier : List Planned) (o : OpenBody) : Type 0 where
  pub lines : Every (LineFits known earlier o.page.listed) o.page.lines
  pub listed : AreFit a o.page.listed

-- so does what is to be made behind the others
abbrev pub PlannedFits : (FnRef → Bool) → Arena → List Planned → ℕ → Planned → Type 0
PlannedFits known a makes i (planned.Node x) = OpenFits known a makes x
PlannedFits known a makes i (planned.Body o) = BodyFits known a (take i makes) o

abbrev pub AllPlannedFit : (FnRef → Bool) → Arena → List Planned → Type 0
AllPlannedFit known a makes = (i : ℕ) (x : Planned) → slice_get makes i ≡ Some x → PlannedFits known a makes i x

-- a definition that a graph takes with the type: it names given nodes, makes the type, counts spans that there are, and its function is known, and lists
-- nodes that fit
pub record IsWelcome (known : FnRef → Bool) (right : FnRef → RightSide) (a : Arena) (d : Def) (ty : Ty) : Type 0 where
  pub named : NamesGiven a.given d
  pub makes : Makes a d ty
  pub timed : IsTimed a.time d
  pub calls : CallsKnown known right a d

-- what is to be made is such a definition, or a body that can be kept beside the functions
abbrev pub IsWelcomeMake : (FnRef → Bool) → (FnRef → RightSide) → Arena → Make → Type 0
IsWelcomeMake known right a (make.Node d ty) = IsWelcome known right a d ty
IsWelcomeMake known right a (make.Right b) = AreUsable known right (side_of b)

module _ {F : Type 0} where
  -- it was made: a node that is so defined was added
  abbrev pub IsNodeAdded : GraphView F → GraphView F → Def → Ty → Made → Type 0
  IsNodeAdded old new d ty (was.Node n) = Adds old new n (top d ty)
  IsNodeAdded old new d ty (was.Fn f) = ⊥

  -- nodes were added, and functions maybe, while the time stood: what was given before is as it was, and each node that is live was so before, or stands
  -- outside all scopes
  pub record Extends (old new : GraphView F) : Type 0 where
    pub beside : KeepsBesideGiven (without_functions old) (without_functions new)
    pub given : old.nodes.given ≤ new.nodes.given
    pub time : new.nodes.time ≡ old.nodes.time
    pub rows : (n : NodeId) → Given old.nodes.given n → row_at new.nodes n ≡ row_at old.nodes n
    pub outside : (n : NodeId) (r : Row) → row_at new.nodes n ≡ Some r → (row_at old.nodes n ≡ Some r) ⊎ (r.scope ≡ None)

  -- over the first graph so many of what is to be made were made in order, each node under the next id
  pub record IsMaking (H : Functions) (first now : GraphView F) (makes : List Planned) (made : List Made) : Type 0 where
    pub extends : Extends first now
    pub stands : StandsIn H (graph now) makes made
    pub types : (i : ℕ) (x : Open) → slice_get makes i ≡ Some (planned.Node x) → i < length made
        → (r : Row) × (row_at now.nodes (made_node made i) ≡ Some r) × (r.ty ≡ open_ty x)
    pub unbuilt : (i : ℕ) (x : Open) → slice_get makes i ≡ Some (planned.Node x) → i < length made → (graph now).built (made_node made i) ≡ None
    pub unfrozen : (i : ℕ) (x : Open) → slice_get makes i ≡ Some (planned.Node x) → i < length made → (graph now).frozen (made_node made i) ≡ None
    pub unlisted : (i : ℕ) (x : Open) → slice_get makes i ≡ Some (planned.Node x) → i < length made → (graph now).lists (made_node made i) ≡ []
    pub ids : (i j : ℕ) (x y : Open) → slice_get makes i ≡ Some (planned.Node x) → slice_get makes j ≡ Some (planned.Node y)
        → i < j → j < length made → (made_node made i).gen_ < (made_node made j).gen_
    pub later : (i : ℕ) (x : Open) → slice_get makes i ≡ Some (planned.Node x) → i < length made → first.nodes.given ≤ (made_node made i).gen_
    pub given : now.nodes.given ≤ first.nodes.given + length made
    pub new_rows : (n : NodeId) (r : Row) → row_at now.nodes n ≡ Some r → (row_at first.nodes n ≡ Some r) ⊎ Among (was.Node n) made
    pub few : live now.nodes ≤ live first.nodes + length made

-- ---- functions of a script

-- what the functions of a script mean, over a library that has these values, and the bodies that are kept
abbrev pub functions_over : (FnRef → List Value → Value) → List Bodies.Body → Functions
functions_over value bodies = meaning (seen_value value) (side_in (makers bodies))

-- over these functions a function of right sides has the terms of the body, and of the graph all but its functions stays
pub record IsBodyKept {F : Type 0} (H : Functions) (old new : GraphView F) (b : Bodies.Body) (m : Made) : Type 0 where
  pub is_function : IsFunction m
  pub kind : (function_made m).id.kind ≡ kind.Rhs
  pub sig : (function_made m).sig ≡ b.draft.sig
  pub terms : (v : Value) → H.term (function_made m) v ≡ term_at b v
  pub rest : without_functions new ≡ without_functions old

-- it was made: a node that is so defined was added, or a body was kept
abbrev pub IsMadeIn : {F : Type 0} → Functions → GraphView F → GraphView F → Make → Made → Type 0
IsMadeIn H old new (make.Node d ty) m = IsNodeAdded old new d ty m
IsMadeIn H old new (make.Right b) m = IsBodyKept H old new b m

-- each function that was made is known, lists the nodes of its body, and takes as many nodes
pub record AreServed (known : FnRef → Bool) (right : FnRef → RightSide) (makes : List Planned) (made : List Made) : Type 0 where
  pub known_each : (i : ℕ) (o : OpenBody) → slice_get makes i ≡ Some (planned.Body o) → i < length made → IsTrue (known (function_made (made_at made i)))
  pub ids : (i : ℕ) (o : OpenBody) → slice_get makes i ≡ Some (planned.Body o) → i < length made
      → (right (function_made (made_at made i))).ids ≡ o.page.listed
  pub size : (i : ℕ) (o : OpenBody) → slice_get makes i ≡ Some (planned.Body o) → i < length made
      → (right (function_made (made_at made i))).size ≡ size_of o.page
