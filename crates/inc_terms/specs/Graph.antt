-- A graph: its live nodes, and what it holds beside them.
use Rattle.std.specs.Prelude.{ℤ, ◌-ℤ◌, List, [], ◌∷◌, Option, None, Some}
use Rattle.std.specs.Int.Signed.{quot_z}
use Rattle.inc_value.specs.declared.function.FnRef.{FnRef}
use Rattle.inc_value.specs.declared.node.NodeId.{NodeId}
use Rattle.inc_value.specs.declared.outcome.Outcome.{Outcome}
use Rattle.inc_value.specs.declared.ty.Ty.{Ty}
use Rattle.inc_value.specs.declared.value.Value.{Value}
use Rattle.inc_value.specs.declared.value.Value.TheVariants as value
use Rattle.inc_terms.specs.Term as term
use Rattle.inc_terms.specs.Term.{Term, Step, refs}

-- what a node is. A bind's right side is what its function makes of the left's value and the captures; At tells whether the clock has come to
-- a time, Steps the last value whose time has come, Every how many spans went by since the base; a freeze keeps the first value of its child on
-- which its predicate is true; an expert folds the children of a list that the caller changes
pub data Def : Type 0 where
  Const : (value : Value) → Def
  Var : (value : Value) → Def
  Map : (function : FnRef) (kids : List NodeId) → Def
  Fold : (function : FnRef) (initial : Value) (kids : List NodeId) → Def
  If : (test left right : NodeId) → Def
  Join : (kid : NodeId) → Def
  Bind : (left : NodeId) (function : FnRef) (captures : List NodeId) → Def
  At : (time : ℤ) → Def
  Steps : (initial : Value) (steps : List Step) → Def
  Now : Def
  Every : (base : ℤ) (span : ℤ) → Def
  Freeze : (kid : NodeId) (function : FnRef) → Def
  Expert : (function : FnRef) (initial : Value) (kids : List NodeId) → Def

-- the children that a definition lists
abbrev pub kids : Def → List NodeId
kids (Map f ns) = ns
kids (Fold f v ns) = ns
kids (Freeze n f) = n ∷ []
kids (Expert f v ns) = ns
kids def = []

-- a live node: what it is, and the bind in whose scope it stands
pub record Row : Type 0 where
  pub def : Def
  pub ty : Ty
  pub scope : Option NodeId

-- what a bind was last built for, and the root that it was given for a value
pub record Built : Type 0 where
  pub outcome : Outcome
  pub root : Option NodeId

-- a graph: its live nodes, per bind what it is built for, the clock, the values that freezes keep, and the lists of experts
pub record Graph : Type 0 where
  pub row : NodeId → Option Row
  pub built : NodeId → Option Built
  pub now : ℤ
  pub frozen : NodeId → Option Value
  pub lists : NodeId → List NodeId

-- a freeze: what it keeps, or else its kid
abbrev pub frozen_or : NodeId → Option Value → Term
frozen_or kid None = term.Ref kid
frozen_or kid (Some v) = term.Const v

-- how a node reads at present, over other nodes
abbrev pub present_def : Graph → NodeId → Def → Term
present_def G n (Const v) = term.Const v
present_def G n (Var v) = term.Const v
present_def G n (Map f kids) = term.Map f (refs kids)
present_def G n (Fold f v kids) = term.Fold f v (refs kids)
present_def G n (If t a b) = term.If (term.Ref t) (term.Ref a) (term.Ref b)
present_def G n (Join k) = term.Join (term.Ref k)
present_def G n (Bind l f caps) = term.Bind (term.Ref l) f (refs caps)
present_def G n (At t) = term.At t
present_def G n (Steps v steps) = term.Steps v steps
present_def G n Now = term.Now
present_def G n (Every base span) = term.Const (value.Int (quot_z (G.now -ℤ base) span))
present_def G n (Freeze kid f) = frozen_or kid (G.frozen n)
present_def G n (Expert f v kids) = term.Fold f v (refs (G.lists n))

-- how a row reads at present
abbrev pub present : Graph → NodeId → Row → Term
present G n r = present_def G n r.def
