-- Nodes and functions to be made, over those that may not be made yet.
use Rattle.std.specs.Prelude.{◌≡◌, ◌≤◌, ◌+◌, ℕ, List, [], ◌∷◌, ◌++◌, All, length, map, pos, sum_by, take, Some, slice_get, slice_index_or}
use Rattle.inc_value.specs.Choice.{Every as Each}
use Rattle.inc_value.specs.Value.{type_of}
use Rattle.inc_value.specs.declared.function.FnKind.TheVariants as kind
use Rattle.inc_value.specs.declared.node.NodeId.{NodeId}
use Rattle.inc_value.specs.declared.ty.Ty.{Ty}
use Rattle.inc_value.specs.declared.ty.Ty.TheVariants as types
use Rattle.inc_terms.specs.Graph as graph
use Rattle.inc_terms.specs.Graph.{Def}
use Rattle.script_functions.specs.Bodies as functions
use Rattle.script_functions.specs.Bodies.{IsWhole}
use Rattle.formula_elab.specs.Bodies.{IsFilled, OpenBody, size_of}
use Rattle.formula_elab.specs.Make as make
use Rattle.formula_elab.specs.Make.{Make, function_made, made_at, no_node, node_made, IsFunction, IsNode}
use Rattle.formula_elab.specs.declared.body.OpenLine.{OpenLine}
use Rattle.formula_elab.specs.declared.body.OpenLine.TheVariants as line
use Rattle.formula_elab.specs.declared.make.Made.{Made}
use Rattle.formula_elab.specs.declared.opened.Open.{Open}
use Rattle.formula_elab.specs.declared.opened.Open.TheVariants.{Const, Var, Map, Fold, If, Join, Bind, At, Steps, Now, Every, Freeze, Expert}
use Rattle.formula_elab.specs.declared.opened.Part.{Part}
use Rattle.formula_elab.specs.declared.opened.Part.TheVariants.{Given, Made as Numbered}
pub use Rattle.formula_elab.specs.declared.plan.Planned.{Planned}
use Rattle.formula_elab.specs.declared.plan.Planned.TheVariants.{Body, Node}

-- the i-th of the nodes
abbrev pub node_at : List NodeId → ℕ → NodeId
node_at nodes i = slice_index_or nodes i no_node

-- the node that was made as the i-th
abbrev pub made_node : List Made → ℕ → NodeId
made_node made i = node_made (made_at made i)

-- the node that was given, or made as the i-th
abbrev pub node_of : List Made → Part → NodeId
node_of made (Given n) = n
node_of made (Numbered i) = made_node made i

-- the definition, with what was made
abbrev pub filled : List Made → Open → Def
filled made (Const v) = graph.Const v
filled made (Var v) = graph.Var v
filled made (Map f parts) = graph.Map f (map (node_of made) parts)
filled made (Fold f v parts) = graph.Fold f v (map (node_of made) parts)
filled made (If ty test a b) = graph.If (node_of made test) (node_of made a) (node_of made b)
filled made (Join ty child) = graph.Join (node_of made child)
filled made (Bind ty left body) = graph.Bind (node_of made left) (function_made (made_at made body)) []
filled made (At time) = graph.At time
filled made (Steps first steps) = graph.Steps first steps
filled made Now = graph.Now
filled made (Every base span) = graph.Every base (pos span)
filled made (Freeze ty child predicate) = graph.Freeze (node_of made child) predicate
filled made (Expert f v) = graph.Expert f v []

-- the type of the node
abbrev pub open_ty : Open → Ty
open_ty (Const v) = type_of v
open_ty (Var v) = type_of v
open_ty (Map f parts) = f.sig.gives
open_ty (Fold f v parts) = f.sig.gives
open_ty (If ty test a b) = ty
open_ty (Join ty child) = ty
open_ty (Bind ty left body) = ty
open_ty (At time) = types.Bool
open_ty (Steps first steps) = type_of first
open_ty Now = types.Int
open_ty (Every base span) = types.Int
open_ty (Freeze ty child predicate) = ty
open_ty (Expert f v) = f.sig.gives

-- what is to be made of it: the node, or the function of a body that has its lines
abbrev pub Makes : List Made → Planned → Make → Type 0
Makes made (Body o) m = (b : _) × (m ≡ make.Right b) × IsFilled made o b
Makes made (Node x) m = m ≡ make.Node (filled made x) (open_ty x)

-- what was made of it is of its kind, and a function is one of right sides and has its body's types
abbrev pub IsMadeAs : Planned → Made → Type 0
IsMadeAs (Body o) m = IsFunction m × ((function_made m).id.kind ≡ kind.Rhs) × ((function_made m).sig ≡ o.sig)
IsMadeAs (Node x) m = IsNode m

-- ---- order

-- the node was given, or is to be made as one of these
abbrev pub IsEarlier : List Planned → Part → Type 0
IsEarlier earlier (Given n) = Unit {0}
IsEarlier earlier (Numbered i) = (x : Open) × (slice_get earlier i ≡ Some (Node x))

-- the function is to be made as one of these
abbrev pub IsEarlierBody : List Planned → ℕ → Type 0
IsEarlierBody earlier i = (o : OpenBody) × (slice_get earlier i ≡ Some (Body o))

-- a line needs only such functions
abbrev pub LineNeedsEarlier : List Planned → OpenLine → Type 0
LineNeedsEarlier earlier (line.Ready l) = Unit {0}
LineNeedsEarlier earlier (line.Bind left body most captures) = IsEarlierBody earlier body

-- needs only such nodes and functions
abbrev pub NodeNeedsEarlier : List Planned → Open → Type 0
NodeNeedsEarlier earlier (Const v) = Unit {0}
NodeNeedsEarlier earlier (Var v) = Unit {0}
NodeNeedsEarlier earlier (Map f parts) = All (IsEarlier earlier) parts
NodeNeedsEarlier earlier (Fold f v parts) = All (IsEarlier earlier) parts
NodeNeedsEarlier earlier (If ty test a b) = IsEarlier earlier test × IsEarlier earlier a × IsEarlier earlier b
NodeNeedsEarlier earlier (Join ty child) = IsEarlier earlier child
NodeNeedsEarlier earlier (Bind ty left body) = IsEarlier earlier left × IsEarlierBody earlier body
NodeNeedsEarlier earlier (At time) = Unit {0}
NodeNeedsEarlier earlier (Steps first steps) = Unit {0}
NodeNeedsEarlier earlier Now = Unit {0}
NodeNeedsEarlier earlier (Every base span) = Unit {0}
NodeNeedsEarlier earlier (Freeze ty child predicate) = IsEarlier earlier child
NodeNeedsEarlier earlier (Expert f v) = Unit {0}

-- so does what is to be made
abbrev pub NeedsEarlier : List Planned → Planned → Type 0
NeedsEarlier earlier (Body o) = Each (LineNeedsEarlier earlier) o.page.lines
NeedsEarlier earlier (Node x) = NodeNeedsEarlier earlier x

-- behind these, each needs only nodes and functions that are made before it
abbrev pub AreInOrder : List Planned → List Planned → Type 0
AreInOrder earlier [] = Unit {0}
AreInOrder earlier (x ∷ xs) = NeedsEarlier earlier x × AreInOrder (earlier ++ x ∷ []) xs

-- ---- what was made of the first of what is to be made

-- each is of its kind
abbrev pub AreMadeAs : List Planned → List Made → Type 0
AreMadeAs makes [] = Unit {0}
AreMadeAs [] (m ∷ made) = ⊥
AreMadeAs (x ∷ makes) (m ∷ made) = IsMadeAs x m × AreMadeAs makes made

-- ---- types

-- whatever functions are made of the bodies before it, the body has lines and a root of their types
abbrev pub IsTyped : List Planned → OpenBody → Type 0
IsTyped earlier o = (made : List Made) → AreMadeAs earlier made → length earlier ≤ length made
    → (b : functions.Body) × IsFilled made o b × IsWhole b

-- so has it, if it is a body
abbrev pub IsTypedIn : List Planned → Planned → Type 0
IsTypedIn earlier (Body o) = IsTyped earlier o
IsTypedIn earlier (Node x) = Unit {0}

-- so has each of them
abbrev pub AreTyped : List Planned → Type 0
AreTyped makes = (i : ℕ) (o : OpenBody) → slice_get makes i ≡ Some (Body o) → IsTyped (take i makes) o

-- ---- sizes

-- how many nodes a right side of the function takes at most that is to be made as the i-th
abbrev pub size_at : List Planned → ℕ → ℕ
size_at makes i = elim (slice_get makes i) [ Some (Body o) ↦ size_of o.page | _ ↦ 0 ]

-- how many nodes may come to live of a node: itself, and those of a bind's right side
abbrev pub weight_of : List Planned → Planned → ℕ
weight_of makes (Body o) = 0
weight_of makes (Node (Bind ty left body)) = 1 + size_at makes body
weight_of makes (Node x) = 1

-- of all of them
abbrev pub weight : List Planned → ℕ
weight makes = sum_by (weight_of makes) makes
