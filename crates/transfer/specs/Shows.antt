-- A node, or a term, against a formula.
use Rattle.std.specs.Prelude.{◌≡◌, ◌⊎◌, ℕ, zero, suc, ◌-◌, ◌/◌, pos, ◌-ℤ◌, true, false, List, [], ◌∷◌, map, Option, None, Some, option_map, slice_get}
use Rattle.std.specs.Int.Signed.{quot_z}
use Rattle.inc_value.specs.declared.function.FnRef.{FnRef}
use Rattle.inc_value.specs.declared.node.NodeId.{NodeId}
use Rattle.inc_value.specs.declared.outcome.Outcome.TheVariants as outcome
use Rattle.inc_value.specs.declared.value.Value.{Value as GraphValue}
use Rattle.inc_terms.specs.Evaluate.{Stands}
use Rattle.inc_terms.specs.Graph as graph
use Rattle.inc_terms.specs.Graph.{Graph, Row, Def, Built as BuiltFor}
use Rattle.inc_terms.specs.Local.{IsRooted}
use Rattle.inc_terms.specs.Term as term
use Rattle.inc_terms.specs.Term.{Term, Terms, Functions, refs}
use Rattle.inc_value.specs.Choice.{Every as Each}
use Rattle.script_model.specs.Formula as script
use Rattle.script_model.specs.Formula.{Formula, Formulas, TimedValue, Body, Meanings, body_at, Literal, Name, Bound, Apply, Fold, If, Join, Bind, At, Steps, Now, End, More, Variable, Computed, Freeze, After, Every, Expert, Grab}
use Rattle.script_model.specs.Values.{Value, Outcome, Val}
use Rattle.script_model.specs.Evaluate.{Gives}
use Rattle.transfer.specs.Both.{Both, graph_value}

-- how a formula stands in a graph: spelled as a term, or built of nodes of a scope
pub data Mode : Type 0 where
  Spelled : Mode
  Built : (scope : Option NodeId) → Mode

-- a variable of a bind: its value, and how it stands
pub record Binding : Type 0 where
  pub value : Value
  pub mode : Mode

-- the values of the variables
abbrev pub values : List Binding → List Value
values E = map (λ (b : Binding). b.value) E

-- how a node of such a kind reads, whatever the graph
abbrev pub plain : Def → Option Term
plain (graph.Const v) = Some (term.Const v)
plain (graph.Map f kids) = Some (term.Map f (refs kids))
plain (graph.Fold f v kids) = Some (term.Fold f v (refs kids))
plain (graph.If t a b) = Some (term.If (term.Ref t) (term.Ref a) (term.Ref b))
plain (graph.Join k) = Some (term.Join (term.Ref k))
plain (graph.Bind l f caps) = Some (term.Bind (term.Ref l) f (refs caps))
plain (graph.At t) = Some (term.At t)
plain (graph.Steps v steps) = Some (term.Steps v steps)
plain graph.Now = Some term.Now
plain def = None

-- the term is u, or a live node of the scope that reads so
abbrev pub Opens : Graph → Mode → Term → Term → Type 0
Opens G Spelled t u = t ≡ u
Opens G (Built S) t u =
    (n : NodeId) × (r : Row) × (t ≡ term.Ref n) × (G.row n ≡ Some r) × (r.scope ≡ S) × (plain r.def ≡ Some u)

-- how a term of a bind's function writes a variable: its own as the left's value, one from further out as a capture,
-- if
-- it takes it
pub data Spot : Type 0 where
  Own : (value : GraphValue) → Spot
  Taken : (index : ℕ) → Spot
  Unused : Spot

-- how a variable is written; one that isn't taken has no term
abbrev pub written : Spot → Option Term
written (Own v) = Some (term.Const v)
written (Taken j) = Some (term.Cap j)
written Unused = None

-- a variable as the binds inside see it: a capture, or nothing
abbrev pub taken : Option ℕ → Spot
taken None = Unused
taken (Some j) = Taken j

-- the k-th of the terms
abbrev pub term_at : Terms → ℕ → Option Term
term_at term.End k = None
term_at (term.More t ts) zero = Some t
term_at (term.More t ts) (suc k) = term_at ts k

-- the captures of an inner bind are the variables that it takes, as they are written round it
abbrev pub Takes : List Spot → List (Option ℕ) → Terms → Type 0
Takes [] [] ts = Unit {0}
Takes [] (j ∷ inner) ts = ⊥
Takes (s ∷ spots) [] ts = ⊥
Takes (s ∷ spots) (None ∷ inner) ts = Takes spots inner ts
Takes (s ∷ spots) (Some j ∷ inner) ts =
    ((u : Term) × (written s ≡ Some u) × (term_at ts j ≡ Some u))
    × Takes spots inner ts

-- the captures of a bind stand for the variables that it takes
abbrev pub Fills : Both → List Binding → List (Option ℕ) → Terms → Type 0
Fills x [] [] caps = Unit {0}
Fills x [] (j ∷ inner) caps = ⊥
Fills x (b ∷ E) [] caps = ⊥
Fills x (b ∷ E) (None ∷ inner) caps = Fills x E inner caps
Fills x (b ∷ E) (Some j ∷ inner) caps =
    ((u : Term) × (term_at caps j ≡ Some u) × Opens x.graph b.mode u (term.Const (graph_value x.nodes b.value)))
    × Fills x E inner caps

-- a value from a time on, as the graph has it
abbrev pub graph_step : (ℕ → NodeId) → TimedValue → term.Step
graph_step nodes step = record { time = pos step.time; value = graph_value nodes step.value }

abbrev mutual
  -- the term, with captures yet to be put in, is written for the formula
  pub Writes : Both → List Spot → Term → Formula → Type 0
  Writes x spots t (Literal v) = t ≡ term.Const (graph_value x.nodes v)
  Writes x spots t (Name k) = t ≡ term.Ref (x.nodes k)
  Writes x spots t (Bound k) = (s : Spot) × (slice_get spots k ≡ Some s) × (written s ≡ Some t)
  Writes x spots t (Apply f fs) = (ts : Terms) × (t ≡ term.Map f ts) × WritesAll x spots ts fs
  Writes x spots t (Fold f v fs) =
      (ts : Terms) × (t ≡ term.Fold f (graph_value x.nodes v) ts) × WritesAll x spots ts fs
  Writes x spots t (If test a b) =
      (p : Term) × (q : Term) × (r : Term) × (t ≡ term.If p q r)
      × Writes x spots p test × Writes x spots q a × Writes x spots r b
  Writes x spots t (Join child) = (p : Term) × (t ≡ term.Join p) × Writes x spots p child
  Writes x spots t (Bind left body) =
      (p : Term) × (f : FnRef) × (ts : Terms) × (t ≡ term.Bind p f ts) × Writes x spots p left
      × (inner : List (Option ℕ)) × Takes spots inner ts
      × ((v : GraphValue) → Writes x (Own v ∷ map taken inner) (x.functions.term f v) body)
  Writes x spots t (At time) = t ≡ term.At (pos time)
  Writes x spots t (Steps v steps) = t ≡ term.Steps (graph_value x.nodes v) (map (graph_step x.nodes) steps)
  Writes x spots t Now = t ≡ term.Now

  -- so do terms for formulas
  pub WritesAll : Both → List Spot → Terms → Formulas → Type 0
  WritesAll x spots term.End End = Unit {0}
  WritesAll x spots term.End (More f fs) = ⊥
  WritesAll x spots (term.More t ts) End = ⊥
  WritesAll x spots (term.More t ts) (More f fs) = Writes x spots t f × WritesAll x spots ts fs

abbrev mutual
  -- the term, or the node that it is, shows the formula
  pub Shows : Both → Mode → List Binding → Term → Formula → Type 0
  Shows x m E t (Literal v) = Opens x.graph m t (term.Const (graph_value x.nodes v))
  Shows x m E t (Name k) = t ≡ term.Ref (x.nodes k)
  Shows x m E t (Bound k) =
      (b : Binding) × (slice_get E k ≡ Some b) × Opens x.graph b.mode t (term.Const (graph_value x.nodes b.value))
  Shows x m E t (Apply f fs) = (ts : Terms) × Opens x.graph m t (term.Map f ts) × ShowsAll x m E ts fs
  Shows x m E t (Fold f v fs) =
      (ts : Terms) × Opens x.graph m t (term.Fold f (graph_value x.nodes v) ts) × ShowsAll x m E ts fs
  Shows x m E t (If test a b) =
      (p : Term) × (q : Term) × (r : Term) × Opens x.graph m t (term.If p q r)
      × Shows x m E p test × Shows x m E q a × Shows x m E r b
  Shows x m E t (Join child) = (p : Term) × Opens x.graph m t (term.Join p) × Shows x m E p child
  Shows x m E t (Bind left body) =
      (p : Term) × (f : FnRef) × (caps : Terms) × Opens x.graph m t (term.Bind p f caps) × Shows x m E p left
      × (inner : List (Option ℕ)) × Fills x E inner caps
      × ((v : GraphValue) → Writes x (Own v ∷ map taken inner) (x.functions.term f v) body)
  Shows x m E t (At time) = Opens x.graph m t (term.At (pos time))
  Shows x m E t (Steps v steps) =
      Opens x.graph m t (term.Steps (graph_value x.nodes v) (map (graph_step x.nodes) steps))
  Shows x m E t Now = Opens x.graph m t term.Now

  -- so do terms of formulas
  pub ShowsAll : Both → Mode → List Binding → Terms → Formulas → Type 0
  ShowsAll x m E term.End End = Unit {0}
  ShowsAll x m E term.End (More f fs) = ⊥
  ShowsAll x m E (term.More t ts) End = ⊥
  ShowsAll x m E (term.More t ts) (More f fs) = Shows x m E t f × ShowsAll x m E ts fs

-- a live node outside all scopes that is so defined
abbrev pub IsTop : Graph → NodeId → Def → Type 0
IsTop G n def = (r : Row) × (G.row n ≡ Some r) × (r.scope ≡ None) × (r.def ≡ def)

-- a grab that died in the call: its bind's left gives another outcome, and the bind is built for another
abbrev pub Lost : Both → NodeId → ℕ → Value → Type 0
Lost x n bind v =
    (p : Outcome) × (x.graph.row n ≡ None) × (x.died n ≡ Some (x.nodes bind)) × (p ≡ Val v → ⊥)
    × ((left body : Formula) (kept : script.Kept) → body_at x.state bind ≡ Some (Computed (Bind left body) kept)
    → Gives x.meanings x.state [] left p)
    × ((w : BuiltFor) → x.graph.built (x.nodes bind) ≡ Some w → w.outcome ≡ outcome.Val (graph_value x.nodes v) → ⊥)

-- the node shows what is declared of a name
abbrev pub Declares : Both → NodeId → Option Body → Type 0
Declares x n None = (x.graph.row n ≡ None) × (x.died n ≡ None)
Declares x n (Some (Variable v)) = IsTop x.graph n (graph.Var (graph_value x.nodes v))
Declares x n (Some (Computed f kept)) = Shows x (Built None) [] (term.Ref n) f
Declares x n (Some (Freeze child predicate frozen)) =
    (kid : NodeId) × IsTop x.graph n (graph.Freeze kid predicate) × Shows x (Built None) [] (term.Ref kid) child
    × (x.graph.frozen n ≡ option_map (graph_value x.nodes) frozen)
Declares x n (Some (After t)) = IsTop x.graph n (graph.At (pos t))
Declares x n (Some (Every base span)) =
    IsTop x.graph n (graph.Every (pos base) (pos span))
    × (quot_z (x.graph.now -ℤ pos base) (pos span) ≡ pos ((x.state.now - base) / span))
Declares x n (Some (Expert f first links stale)) =
    (kids : List NodeId) × IsTop x.graph n (graph.Expert f (graph_value x.nodes first) kids)
    × (x.graph.lists n ≡ map x.nodes links)
Declares x n (Some (Grab bind v false)) = (x.graph.row n ≡ None) × (x.died n ≡ None)
Declares x n (Some (Grab bind v true)) =
    ((w : BuiltFor) × (x.graph.built (x.nodes bind) ≡ Some w)
    × (w.outcome ≡ outcome.Val (graph_value x.nodes v)) × (w.root ≡ Some n)) ⊎ Lost x n bind v

-- whether what is declared is another name, whose node is the name's
abbrev pub IsOwn : Option Body → Type 0
IsOwn (Some (Computed (Name t) kept)) = ⊥
IsOwn body = Unit {0}

-- of a live grab: its bind, whose body is no name, and whose left tells the grab's value from others that have the
-- same
-- node
pub record Grabbed (x : Both) (bind : ℕ) (v : Value) : Type 0 where
  pub left : Formula
  pub body : Formula
  pub kept : script.Kept
  pub is_bind : body_at x.state bind ≡ Some (Computed (Bind left body) kept)
  pub no_name : (t : ℕ) → body ≡ Name t → ⊥
  pub apart : (u : Value) → Gives x.meanings x.state [] left (Val u) → graph_value x.nodes u ≡ graph_value x.nodes v
      → u ≡ v

-- what a script's functions and a graph's give is the same, whatever the nodes of names are
abbrev pub FunctionsFit : Meanings → Functions → Type 0
FunctionsFit F H =
    (nodes : ℕ → NodeId) (f : FnRef) (vs : List Value)
    → H.value f (map (graph_value nodes) vs) ≡ graph_value nodes (F.value f vs)

-- the root of each bind is built of what its function gives
abbrev pub BindsRooted : Functions → Graph → Type 0
BindsRooted H G =
    (b : NodeId) (r : Row) (l : NodeId) (f : FnRef) (caps : List NodeId) (w : BuiltFor)
    → G.row b ≡ Some r → r.def ≡ graph.Bind l f caps → G.built b ≡ Some w → IsRooted H G b f caps w

-- what a session keeps of the script in the graph
pub record Fits (x : Both) : Type 0 where
  pub clock : x.graph.now ≡ pos x.state.now
  pub functions : FunctionsFit x.meanings x.functions
  pub declared : (k : ℕ) → Declares x (x.nodes k) (body_at x.state k)
  pub resolved : (k t : ℕ) (kept : script.Kept)
      → body_at x.state k ≡ Some (Computed (Name t) kept) → IsOwn (body_at x.state t)
  pub rooted : BindsRooted x.functions x.graph
  pub grabbed : (k b : ℕ) (v : Value) → body_at x.state k ≡ Some (Grab b v true) → Grabbed x b v

-- the scopes in which the formula stands hold
abbrev pub Holds : Both → Mode → Type 0
Holds x Spelled = Unit {0}
Holds x (Built S) = Stands x.functions x.graph S

-- and so do those of the variables round it
abbrev pub Sound : Both → Mode → List Binding → Type 0
Sound x m E = Holds x m × Each (λ (b : Binding). Holds x b.mode) E
