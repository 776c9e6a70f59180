-- A body as lines: one for each place of its formula, inner ones first. Line 0 is the bind's variable, a constant of the
-- left value.
use Rattle.std.specs.Prelude.{◌≡◌, ◌+◌, ◌++◌, ℕ, List, [], ◌∷◌, Option, Some, option_map, slice_get, sum_by, unwrap_or}
use Rattle.std.specs.List.{AllZip}
use Rattle.inc_value.specs.Choice.{Among, Every}
use Rattle.inc_value.specs.Ty.{base_of}
use Rattle.inc_value.specs.declared.function.FnKind.TheVariants as kind
use Rattle.inc_value.specs.declared.function.FnRef.{FnRef}
use Rattle.inc_value.specs.declared.node.NodeId.{NodeId}
use Rattle.inc_value.specs.declared.ty.Base.{Base}
use Rattle.inc_value.specs.declared.ty.Ty.{Ty}
use Rattle.inc_value.specs.declared.ty.Ty.TheVariants as ty
use Rattle.inc_value.specs.declared.value.Value.{Value}
use Rattle.inc_terms.specs.Term as term
use Rattle.inc_terms.specs.Term.{Term, Terms, End, More}
use Rattle.node_arena.specs.Building.{Use}
use Rattle.node_arena.specs.Listing.{Listed}
use Rattle.node_arena.specs.RightSide.{ValueHas}
use Rattle.script_functions.specs.declared.line.Line as lines
use Rattle.script_functions.specs.declared.line.Line.TheVariants.{Const, Map, Fold, If, Join, Bind, At, Steps, Now}
use Rattle.script_functions.specs.declared.line.Part as parts
use Rattle.script_functions.specs.declared.line.Part.TheVariants as part
use Rattle.script_functions.specs.declared.line.TypedLine.{TypedLine}

-- ---- terms

-- the term of a part, among those of the lines before. A part that isn't there has some term
abbrev pub term_of : List Listed → List Term → parts.Part → Term
term_of listed terms (part.Listed i) =
    unwrap_or (option_map (λ (x : Listed). term.Ref x.node) (slice_get listed i)) (term.Cap 0)
term_of listed terms (part.Captured i) = term.Cap i
term_of listed terms (part.Line i) = unwrap_or (slice_get terms i) (term.Cap 0)

-- the terms of parts
abbrev pub terms_of : List Listed → List Term → List parts.Part → Terms
terms_of listed terms [] = End
terms_of listed terms (p ∷ ps) = More (term_of listed terms p) (terms_of listed terms ps)

-- the term of a line
abbrev pub line_term : List Listed → List Term → lines.Line → Term
line_term listed terms (Const v) = term.Const v
line_term listed terms (Map f ps) = term.Map f (terms_of listed terms ps)
line_term listed terms (Fold f v ps) = term.Fold f v (terms_of listed terms ps)
line_term listed terms (If t a b) = term.If (term_of listed terms t) (term_of listed terms a) (term_of listed terms b)
line_term listed terms (Join p) = term.Join (term_of listed terms p)
line_term listed terms (Bind l f most ps) = term.Bind (term_of listed terms l) f (terms_of listed terms ps)
line_term listed terms (At time) = term.At time
line_term listed terms (Steps first steps) = term.Steps first steps
line_term listed terms Now = term.Now

-- the terms of all lines, after those that stand there
abbrev pub terms_after : List Listed → List Term → List TypedLine → List Term
terms_after listed terms [] = terms
terms_after listed terms (x ∷ xs) = terms_after listed (terms ++ line_term listed terms x.line ∷ []) xs

-- ---- what lines call, and take

-- the function of a line, and how many nodes a right side of it takes at most
abbrev pub line_uses : lines.Line → List Use
line_uses (Map f ps) = record { function = f; most = 0 } ∷ []
line_uses (Fold f v ps) = record { function = f; most = 0 } ∷ []
line_uses (Bind l f most ps) = record { function = f; most = most } ∷ []
line_uses line = []

-- the functions of lines
abbrev pub uses_of : List TypedLine → List Use
uses_of [] = []
uses_of (x ∷ xs) = line_uses x.line ++ uses_of xs

-- how many nodes a line takes at most, with those of the scopes within
abbrev pub line_size : lines.Line → ℕ
line_size (Bind l f most ps) = most + 1
line_size line = 1

-- how many lines take
abbrev pub sizes : List TypedLine → ℕ
sizes xs = sum_by (λ (x : TypedLine). line_size x.line) xs

-- ---- types

-- the type of a part, if it is there: among the listed nodes, the captures' types and those of the lines before
abbrev pub type_in : List Listed → List Ty → List Ty → parts.Part → Option Ty
type_in listed captures types (part.Listed i) = option_map (λ (x : Listed). x.ty) (slice_get listed i)
type_in listed captures types (part.Captured i) = slice_get captures i
type_in listed captures types (part.Line i) = slice_get types i

-- the node is listed with the type
abbrev pub IsListedAs : List Listed → NodeId → Ty → Type 0
IsListedAs listed n t = Among (record { node = n; ty = t }) listed

-- the parts are of the types, one for one
abbrev pub PartsHave : (parts.Part → Option Ty) → List parts.Part → List Ty → Type 0
PartsHave T ps tys = AllZip (λ p t. T p ≡ Some t) ps tys

-- a map of parts of the types that the function takes, which gives the type
pub record MapHas (T : parts.Part → Option Ty) (f : FnRef) (ps : List parts.Part) (t : Ty) : Type 0 where
  pub kind : f.id.kind ≡ kind.Map
  pub takes : PartsHave T ps f.sig.takes
  pub gives : f.sig.gives ≡ t

-- a function that takes the type and another one folds parts of the other
abbrev pub FoldTakes : (parts.Part → Option Ty) → Ty → List parts.Part → List Ty → Type 0
FoldTakes T t ps (first ∷ element ∷ []) = (first ≡ t) × Every (λ p. T p ≡ Some element) ps
FoldTakes T t ps tys = ⊥

-- a fold from a value of the type that the function gives and takes first, over parts of the type that it takes second
pub record FoldHas (listed : List Listed) (T : parts.Part → Option Ty) (f : FnRef) (v : Value) (ps : List parts.Part)
    (t : Ty) : Type 0 where
  pub kind : f.id.kind ≡ kind.Map
  pub takes : FoldTakes T t ps f.sig.takes
  pub gives : f.sig.gives ≡ t
  pub initial : ValueHas (IsListedAs listed) v t

-- a test of truth values, and two branches of the type
abbrev pub IfHas : (parts.Part → Option Ty) → parts.Part → parts.Part → parts.Part → Ty → Type 0
IfHas T c a b t = (T c ≡ Some ty.Bool) × (T a ≡ Some t) × (T b ≡ Some t)

-- a part whose references lead to nodes of the type, which is a base type
abbrev pub JoinHas : (parts.Part → Option Ty) → parts.Part → Ty → Type 0
JoinHas T p t = (b : Base) × (base_of t ≡ Some b) × (T p ≡ Some (ty.Node b))

-- of the types that the function takes, the first is the left's and the rest are the captures'
abbrev pub BindTakes : (parts.Part → Option Ty) → parts.Part → List parts.Part → List Ty → Type 0
BindTakes T l ps [] = ⊥
BindTakes T l ps (first ∷ rest) = (T l ≡ Some first) × PartsHave T ps rest

-- a bind whose left and captures are of the types that the function takes, and whose function gives the type
pub record BindHas (T : parts.Part → Option Ty) (l : parts.Part) (f : FnRef) (ps : List parts.Part) (t : Ty) : Type 0 where
  pub kind : f.id.kind ≡ kind.Rhs
  pub takes : BindTakes T l ps f.sig.takes
  pub gives : f.sig.gives ≡ t

-- steps from a value on, all of the type
abbrev pub StepsHave : List Listed → Value → List term.Step → Ty → Type 0
StepsHave listed first steps t =
    ValueHas (IsListedAs listed) first t × Every (λ (s : term.Step). ValueHas (IsListedAs listed) s.value t) steps

-- the line is of the type, where parts have the types that T tells: its values name listed nodes alone, and its function
-- is of the kind that stands there
abbrev pub LineHas : List Listed → (parts.Part → Option Ty) → lines.Line → Ty → Type 0
LineHas listed T (Const v) t = ValueHas (IsListedAs listed) v t
LineHas listed T (Map f ps) t = MapHas T f ps t
LineHas listed T (Fold f v ps) t = FoldHas listed T f v ps t
LineHas listed T (If c a b) t = IfHas T c a b t
LineHas listed T (Join p) t = JoinHas T p t
LineHas listed T (Bind l f most ps) t = BindHas T l f ps t
LineHas listed T (At time) t = t ≡ ty.Bool
LineHas listed T (Steps first steps) t = StepsHave listed first steps t
LineHas listed T Now t = t ≡ ty.Int

-- each line is of its type, over those that stand before it
abbrev pub AreTyped : List Listed → List Ty → List Ty → List TypedLine → Type 0
AreTyped listed captures types [] = Unit {0}
AreTyped listed captures types (x ∷ xs) =
    LineHas listed (type_in listed captures types) x.line x.ty × AreTyped listed captures (types ++ x.ty ∷ []) xs

-- the parts that a line reads
abbrev pub parts_of : lines.Line → List parts.Part
parts_of (Const v) = []
parts_of (Map f ps) = ps
parts_of (Fold f v ps) = ps
parts_of (If c a b) = c ∷ a ∷ b ∷ []
parts_of (Join p) = p ∷ []
parts_of (Bind l f most ps) = l ∷ ps
parts_of (At time) = []
parts_of (Steps first steps) = []
parts_of Now = []
