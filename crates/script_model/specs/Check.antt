-- Names, functions and types of commands: what a command comes to, and what stands against it.
use Rattle.std.specs.Prelude as std
use Rattle.std.specs.Prelude.{ℕ, ◌+◌, ◌^◌, true, false, not, ◌&&◌, ◌||◌, nat_lt, nat_eq, List, [], ◌∷◌, ◌++◌, map, cond, if◌then◌else◌, Option, None, Some, is_some, is_none, unwrap_or, slice_get}
use Rattle.std.specs.List.{list_any, flat_map}
use Rattle.std.specs.Str.{bytes_eq}
use Rattle.inc_value.specs.Ty.{same_ty, same_types, base_of, type_of_base}
use Rattle.inc_value.specs.declared.function.FnRef.{FnRef}
use Rattle.inc_value.specs.declared.ty.Ty.TheVariants as ty
use Rattle.inc_value.specs.declared.ty.Ty.{Ty}
use Rattle.inc_value.specs.Choice.{and_then}
use Rattle.script_model.specs.Values as value
use Rattle.script_model.specs.Values.{Value}
use Rattle.script_model.specs.Formula as model
use Rattle.script_model.specs.Formula.{Formula, Formulas, TimedValue, Body, Meanings, nothing_kept}
use Rattle.script_model.specs.Grammar as line
use Rattle.script_model.specs.Grammar.{Tree, Trees, Time, TimedLiteral, Line, Call, If, Join, Fold, At, Now, Steps, Freeze, After, Every, End, More}
use Rattle.script_model.specs.Literals as literals
use Rattle.script_model.specs.Literals.{Literal, Integer, Referred}

-- ---- what is declared

-- how a name was declared; `Bind` is a `let` whose formula is a bind, and an expert has the type that it takes
pub data Kind : Type 0 where
  Variable : Kind
  Computed : Kind
  Bind : Kind
  Expert : (takes : Ty) → Kind
  Grab : Kind

-- a declared name; its target is the position of the declaration that it stands for
pub record Declared : Type 0 where
  pub name : List ℕ
  pub ty : Ty
  pub kind : Kind
  pub target : ℕ

-- the declared names in order, the observers' names in use, and the clock
pub record Names : Type 0 where
  pub declared : List Declared
  pub observers : List (List ℕ)
  pub now : ℕ

-- the first declaration of a name
abbrev pub first_named : List ℕ → List Declared → Option Declared
first_named name [] = None
first_named name (d ∷ ds) = if bytes_eq name d.name then Some d else first_named name ds

abbrev pub find_declared : Names → List ℕ → Option Declared
find_declared names name = first_named name names.declared

abbrev pub is_declared : Names → List ℕ → std.Bool
is_declared names name = is_some (find_declared names name)

-- how the target of a name was declared
abbrev pub kind_of : Names → List ℕ → Option Kind
kind_of names name = and_then (find_declared names name) (λ d. and_then (slice_get names.declared d.target) (λ t. Some t.kind))

-- whether the name is among these
abbrev pub is_among : List (List ℕ) → List ℕ → std.Bool
is_among names name = list_any (bytes_eq name) names

-- ---- the parts of a command

abbrev mutual
  -- a formula and all formulas in it
  pub trees_in : Tree → List Tree
  trees_in (If test a b) = If test a b ∷ (trees_in test ++ trees_in a ++ trees_in b)
  trees_in (line.Bind variable left body) = line.Bind variable left body ∷ (trees_in left ++ trees_in body)
  trees_in (Join child) = Join child ∷ trees_in child
  trees_in (Call function arguments) = Call function arguments ∷ trees_in_all arguments
  trees_in (Fold function first elements) = Fold function first elements ∷ trees_in_all elements
  trees_in (Freeze child predicate) = Freeze child predicate ∷ trees_in child
  trees_in tree = tree ∷ []

  pub trees_in_all : Trees → List Tree
  trees_in_all End = []
  trees_in_all (More first rest) = trees_in first ++ trees_in_all rest

-- the literals that a formula holds itself
abbrev pub own_literals : Tree → List Literal
own_literals (line.Literal literal) = literal ∷ []
own_literals (Fold function first elements) = first ∷ []
own_literals (Steps first steps) = first ∷ map (λ (s : TimedLiteral). s.literal) steps
own_literals tree = []

-- the functions that a formula names itself
abbrev pub own_functions : Tree → List (List ℕ)
own_functions (Call function arguments) = function ∷ []
own_functions (Fold function first elements) = function ∷ []
own_functions (Freeze child predicate) = predicate ∷ []
own_functions tree = []

-- the times and spans that a formula holds itself
abbrev pub own_times : Tree → List Time
own_times (At time) = time ∷ []
own_times (Steps first steps) = map (λ (s : TimedLiteral). s.time) steps
own_times (After span) = span ∷ []
own_times (Every span) = span ∷ []
own_times tree = []

-- a form of the top of a `let` alone
abbrev pub is_top_form : Tree → std.Bool
is_top_form (Freeze child predicate) = true
is_top_form (After span) = true
is_top_form (Every span) = true
is_top_form tree = false

-- times that rise
abbrev pub times_rise : List TimedLiteral → std.Bool
times_rise [] = true
times_rise (a ∷ []) = true
times_rise (a ∷ b ∷ steps) = nat_lt (unwrap_or a.time 0) (unwrap_or b.time 0) && times_rise (b ∷ steps)

-- the names that a literal refers to
abbrev pub referred_names : Literal → List (List ℕ)
referred_names (Referred name) = name ∷ []
referred_names literal = []

abbrev mutual
  -- the names that a formula mentions, where they aren't variables of the binds round them
  pub mentioned : List (List ℕ) → Tree → List (List ℕ)
  mentioned variables (line.Name name) = cond (is_among variables name) [] (name ∷ [])
  mentioned variables (Call function arguments) = mentioned_in_all variables arguments
  mentioned variables (Fold function first elements) = mentioned_in_all variables elements
  mentioned variables (If test a b) = mentioned variables test ++ mentioned variables a ++ mentioned variables b
  mentioned variables (line.Bind variable left body) = mentioned variables left ++ mentioned (variable ∷ variables) body
  mentioned variables (Join child) = mentioned variables child
  mentioned variables (Freeze child predicate) = mentioned variables child
  mentioned variables tree = []

  pub mentioned_in_all : List (List ℕ) → Trees → List (List ℕ)
  mentioned_in_all variables End = []
  mentioned_in_all variables (More first rest) = mentioned variables first ++ mentioned_in_all variables rest

-- the formulas of a command
abbrev pub trees_of : Line → List Tree
trees_of (line.Let name tree) = trees_in tree
trees_of _ = []

-- the formulas of a command that aren't the whole
abbrev pub inner_trees : Line → List Tree
inner_trees (line.Let name tree) = std.drop 1 (trees_in tree)
inner_trees _ = []

abbrev pub literals_of : Line → List Literal
literals_of (line.Var name t first) = first ∷ []
literals_of (line.Set name literal) = literal ∷ []
literals_of (line.Let name tree) = flat_map own_literals (trees_in tree)
literals_of (line.Expert name function first) = first ∷ []
literals_of _ = []

abbrev pub functions_in : Line → List (List ℕ)
functions_in (line.Let name tree) = flat_map own_functions (trees_in tree)
functions_in (line.Expert name function first) = function ∷ []
functions_in _ = []

abbrev pub times_of : Line → List Time
times_of (line.Let name tree) = flat_map own_times (trees_in tree)
times_of (line.Advance span) = span ∷ []
times_of (line.AdvanceTo time) = time ∷ []
times_of _ = []

-- the spans of a command that are added to the clock
abbrev pub spans_of : Line → List Time
spans_of (line.Let name (After span)) = span ∷ []
spans_of (line.Advance span) = span ∷ []
spans_of _ = []

-- the name that a command declares
abbrev pub new_names : Line → List (List ℕ)
new_names (line.Var name t first) = name ∷ []
new_names (line.Let name tree) = name ∷ []
new_names (line.Expert name function first) = name ∷ []
new_names (line.Grab name bind) = name ∷ []
new_names _ = []

-- the names that a command reads, but for those of its formula and literals
abbrev pub named_by : Line → List (List ℕ)
named_by (line.Set name literal) = name ∷ []
named_by (line.Link expert name) = expert ∷ name ∷ []
named_by (line.Unlink expert name) = expert ∷ name ∷ []
named_by (line.Stale expert) = expert ∷ []
named_by (line.Grab name bind) = bind ∷ []
named_by (line.Observe observer name) = name ∷ []
named_by _ = []

-- the names that a command's formula mentions
abbrev pub mentioned_by : Line → List (List ℕ)
mentioned_by (line.Let name tree) = mentioned [] tree
mentioned_by _ = []

-- all names that a command reads
abbrev pub read_names : Line → List (List ℕ)
read_names l = named_by l ++ mentioned_by l ++ flat_map referred_names (literals_of l)

-- the name of a command that has to be a variable, a bind, an expert
abbrev pub variables_of : Line → List (List ℕ)
variables_of (line.Set name literal) = name ∷ []
variables_of _ = []

abbrev pub binds_of : Line → List (List ℕ)
binds_of (line.Grab name bind) = bind ∷ []
binds_of _ = []

abbrev pub experts_of : Line → List (List ℕ)
experts_of (line.Link expert name) = expert ∷ []
experts_of (line.Unlink expert name) = expert ∷ []
experts_of (line.Stale expert) = expert ∷ []
experts_of _ = []

-- the observer that a command makes, and that it looks for
abbrev pub new_observers : Line → List (List ℕ)
new_observers (line.Observe observer name) = observer ∷ []
new_observers _ = []

abbrev pub observers_of : Line → List (List ℕ)
observers_of (line.Unobserve observer) = observer ∷ []
observers_of (line.Watch observer) = observer ∷ []
observers_of (line.Show observer) = observer ∷ []
observers_of _ = []

-- ---- types

-- a value with its type
pub record TypedValue : Type 0 where
  pub value : Value
  pub ty : Ty

-- the constant that a literal stands for; none where it refers to nothing of a base type
abbrev pub typed_literal : Names → Literal → Option TypedValue
typed_literal names (Integer z) = Some (record { value = value.Int z; ty = ty.Int })
typed_literal names (literals.Bool b) = Some (record { value = value.Bool b; ty = ty.Bool })
typed_literal names (literals.Text content) = Some (record { value = value.Text content; ty = ty.Text })
typed_literal names (Referred name) =
    and_then (find_declared names name) (λ d. and_then (base_of d.ty) (λ b. Some (record { value = value.Reference d.target b; ty = ty.Node b })))

-- something where a type is the wanted one
abbrev pub where_same : {A : Type 0} → Ty → Ty → Option A → Option A
where_same a b x = cond (same_ty a b) x None

-- the constant of a literal, where it has the type
abbrev pub literal_of_type : Names → Ty → Literal → Option Value
literal_of_type names t literal = and_then (typed_literal names literal) (λ v. where_same v.ty t (Some v.value))

-- the constants of timed literals, where they have the type
abbrev pub steps_of_type : Names → Ty → List TimedLiteral → Option (List TimedValue)
steps_of_type names t [] = Some []
steps_of_type names t (step ∷ steps) =
    and_then (literal_of_type names t step.literal) (λ v. and_then (steps_of_type names t steps) (λ rest. Some (record { time = unwrap_or step.time 0; value = v } ∷ rest)))

-- a formula with its type
pub record TypedFormula : Type 0 where
  pub formula : Formula
  pub ty : Ty

-- formulas with their types
pub record TypedFormulas : Type 0 where
  pub formulas : Formulas
  pub tys : List Ty

-- a variable of a bind with its type
pub record Bound : Type 0 where
  pub name : List ℕ
  pub ty : Ty

abbrev pub typed_as : Formula → Ty → Option TypedFormula
typed_as f t = Some (record { formula = f; ty = t })

-- one more formula in front
abbrev pub before : TypedFormula → TypedFormulas → TypedFormulas
before first rest = record { formulas = model.More first.formula rest.formulas; tys = first.ty ∷ rest.tys }

-- a function of formulas, where their types are those that it takes
abbrev pub applied : FnRef → TypedFormulas → Option TypedFormula
applied f arguments = cond (same_types f.sig.takes arguments.tys) (typed_as (model.Apply f arguments.formulas) f.sig.gives) None

-- a name: the variable of the innermost bind round it that has it, so many binds out, else what is declared
abbrev pub typed_name : Names → List ℕ → ℕ → List Bound → Option TypedFormula
typed_name names name k [] = and_then (find_declared names name) (λ d. typed_as (model.Name d.target) d.ty)
typed_name names name k (b ∷ bounds) = cond (bytes_eq name b.name) (typed_as (model.Bound k) b.ty) (typed_name names name (k + 1) bounds)

-- the type of the elements of a fold of this function, which takes what it gives and an element
abbrev pub element_of : FnRef → List Ty → Option Ty
element_of f (a ∷ t ∷ []) = where_same a f.sig.gives (Some t)
element_of f _ = None

-- all of the types are this one
abbrev pub are_all : Ty → List Ty → std.Bool
are_all t tys = not (list_any (λ u. not (same_ty t u)) tys)

-- a fold of formulas, where the types fit
abbrev pub folded : Names → FnRef → Literal → TypedFormulas → Option TypedFormula
folded names f first elements =
    and_then (element_of f f.sig.takes) (λ t. and_then (literal_of_type names f.sig.gives first) (λ v.
    cond (are_all t elements.tys) (typed_as (model.Fold f v elements.formulas) f.sig.gives) None))

-- a test with two sides of one type
abbrev pub branched : TypedFormula → TypedFormula → TypedFormula → Option TypedFormula
branched test a b = where_same test.ty ty.Bool (where_same a.ty b.ty (typed_as (model.If test.formula a.formula b.formula) a.ty))

-- a join of a reference
abbrev pub join_of : TypedFormula → Ty → Option TypedFormula
join_of child (ty.Node b) = typed_as (model.Join child.formula) (type_of_base b)
join_of child t = None

abbrev mutual
  -- the formula with a target for each name, a number for each variable and a reference for each function; none where a
  -- type doesn't fit
  pub typed : Meanings → Names → List Bound → Tree → Option TypedFormula
  typed F names bounds (line.Literal literal) = and_then (typed_literal names literal) (λ v. typed_as (model.Literal v.value) v.ty)
  typed F names bounds (line.Name name) = typed_name names name 0 bounds
  typed F names bounds (Call function arguments) =
      and_then (F.named function) (λ f. and_then (typed_each F names bounds arguments) (λ typed_arguments. applied f typed_arguments))
  typed F names bounds (Fold function first elements) =
      and_then (F.named function) (λ f. and_then (typed_each F names bounds elements) (λ typed_elements. folded names f first typed_elements))
  typed F names bounds (If test a b) =
      and_then (typed F names bounds test) (λ t. and_then (typed F names bounds a) (λ x. and_then (typed F names bounds b) (λ y. branched t x y)))
  typed F names bounds (line.Bind variable left body) =
      and_then (typed F names bounds left) (λ l. and_then (typed F names (record { name = variable; ty = l.ty } ∷ bounds) body) (λ b.
      typed_as (model.Bind l.formula b.formula) b.ty))
  typed F names bounds (Join child) = and_then (typed F names bounds child) (λ c. join_of c c.ty)
  typed F names bounds (At time) = typed_as (model.At (unwrap_or time 0)) ty.Bool
  typed F names bounds Now = typed_as model.Now ty.Int
  typed F names bounds (Steps first steps) =
      and_then (typed_literal names first) (λ v. and_then (steps_of_type names v.ty steps) (λ rest. typed_as (model.Steps v.value rest) v.ty))
  typed F names bounds (Freeze child predicate) = None
  typed F names bounds (After span) = None
  typed F names bounds (Every span) = None

  pub typed_each : Meanings → Names → List Bound → Trees → Option TypedFormulas
  typed_each F names bounds End = Some (record { formulas = model.End; tys = [] })
  typed_each F names bounds (More first rest) =
      and_then (typed F names bounds first) (λ t. and_then (typed_each F names bounds rest) (λ ts. Some (before t ts)))

-- what a `let` declares, with its type
pub record TypedBody : Type 0 where
  pub body : Body
  pub ty : Ty

abbrev pub body_as : Body → Ty → Option TypedBody
body_as body t = Some (record { body = body; ty = t })

-- a freeze, where the predicate takes the child's type alone and gives a truth value
abbrev pub frozen_when : TypedFormula → FnRef → Option TypedBody
frozen_when child f = cond (same_types f.sig.takes (child.ty ∷ [])) (where_same f.sig.gives ty.Bool (body_as (model.Freeze child.formula f None) child.ty)) None

-- what a formula at the top of a `let` declares
abbrev pub typed_top : Meanings → Names → Tree → Option TypedBody
typed_top F names (Freeze child predicate) = and_then (typed F names [] child) (λ c. and_then (F.named predicate) (λ f. frozen_when c f))
typed_top F names (After span) = body_as (model.After (names.now + unwrap_or span 0)) ty.Bool
typed_top F names (Every span) = body_as (model.Every names.now (unwrap_or span 0)) ty.Int
typed_top F names tree = and_then (typed F names [] tree) (λ t. body_as (model.Computed t.formula nothing_kept) t.ty)

-- an expert, where the types fit
abbrev pub expert_of : Names → Literal → FnRef → Option TypedBody
expert_of names first f =
    and_then (element_of f f.sig.takes) (λ t. and_then (literal_of_type names f.sig.gives first) (λ v. body_as (model.Expert f v [] 0) f.sig.gives))

-- ---- commands

-- a command with a position for each name that is read and a reference for each function
pub data Command : Type 0 where
  Declare : (name : List ℕ) (ty : Ty) (body : Body) → Command
  Assign : (target : ℕ) (value : Value) → Command
  Link : (expert target : ℕ) → Command
  Unlink : (expert target : ℕ) → Command
  Stale : (expert : ℕ) → Command
  Take : (name : List ℕ) (ty : Ty) (bind : ℕ) → Command
  Observe : (observer : List ℕ) (target : ℕ) → Command
  Unobserve : (observer : List ℕ) → Command
  Watch : (observer : List ℕ) → Command
  Show : (observer : List ℕ) → Command
  Advance : (time : ℕ) → Command
  Stabilize : Command

-- how many binds a command declares
abbrev pub binds_of_command : Command → ℕ
binds_of_command (Declare name t body) = model.binds_of_body body
binds_of_command command = 0

-- a link, where the node has the type that the expert takes
abbrev pub link_of : Option Kind → ℕ → Declared → Option Command
link_of (Some (Expert t)) expert d = where_same d.ty t (Some (Link expert d.target))
link_of kind expert d = None

-- what a command comes to; none where a name, a function or a type doesn't fit
abbrev pub command_of : Meanings → Names → Line → Option Command
command_of F names (line.Var name t first) = and_then (literal_of_type names t first) (λ v. Some (Declare name t (model.Variable v)))
command_of F names (line.Set name literal) =
    and_then (find_declared names name) (λ d. and_then (literal_of_type names d.ty literal) (λ v. Some (Assign d.target v)))
command_of F names (line.Let name tree) = and_then (typed_top F names tree) (λ t. Some (Declare name t.ty t.body))
command_of F names (line.Expert name function first) =
    and_then (F.named function) (λ f. and_then (expert_of names first f) (λ t. Some (Declare name t.ty t.body)))
command_of F names (line.Link expert name) =
    and_then (find_declared names expert) (λ e. and_then (find_declared names name) (λ d. link_of (kind_of names expert) e.target d))
command_of F names (line.Unlink expert name) = and_then (find_declared names expert) (λ e. and_then (find_declared names name) (λ d. Some (Unlink e.target d.target)))
command_of F names (line.Stale expert) = and_then (find_declared names expert) (λ e. Some (Stale e.target))
command_of F names (line.Grab name bind) = and_then (find_declared names bind) (λ b. Some (Take name b.ty b.target))
command_of F names (line.Observe observer name) = and_then (find_declared names name) (λ d. Some (Observe observer d.target))
command_of F names (line.Unobserve observer) = Some (Unobserve observer)
command_of F names (line.Watch observer) = Some (Watch observer)
command_of F names (line.Show observer) = Some (Show observer)
command_of F names (line.Advance span) = Some (Advance (names.now + unwrap_or span 0))
command_of F names (line.AdvanceTo time) = Some (Advance (unwrap_or time 0))
command_of F names line.Stabilize = Some Stabilize

-- ---- what stands against a command

-- why a command is refused
pub data Reason : Type 0 where
  SessionBroken : Reason
  NameTaken : Reason
  ObserverTaken : Reason
  NameUnknown : Reason
  ObserverUnknown : Reason
  FunctionUnknown : Reason
  NotWhole : Reason
  NotVariable : Reason
  NotBind : Reason
  NotExpert : Reason
  IllTyped : Reason
  TimeTooLarge : Reason
  TimesNotRising : Reason
  SpanIsZero : Reason
  BackInTime : Reason
  NotStabilized : Reason
  NotBuilt : Reason
  NotLinked : Reason
  TooManyLinks : Reason
  TooManyPlaces : Reason

-- the number that is printed
abbrev pub reason_number : Reason → ℕ
reason_number SessionBroken = 22
reason_number NameTaken = 3
reason_number ObserverTaken = 12
reason_number NameUnknown = 4
reason_number ObserverUnknown = 11
reason_number FunctionUnknown = 5
reason_number NotWhole = 14
reason_number NotVariable = 7
reason_number NotBind = 8
reason_number NotExpert = 10
reason_number IllTyped = 6
reason_number TimeTooLarge = 16
reason_number TimesNotRising = 17
reason_number SpanIsZero = 18
reason_number BackInTime = 15
reason_number NotStabilized = 13
reason_number NotBuilt = 9
reason_number NotLinked = 23
reason_number TooManyLinks = 24
reason_number TooManyPlaces = 19

abbrev pub is_variable : Option Kind → std.Bool
is_variable (Some Variable) = true
is_variable _ = false

abbrev pub is_bind : Option Kind → std.Bool
is_bind (Some Bind) = true
is_bind _ = false

abbrev pub is_expert : Option Kind → std.Bool
is_expert (Some (Expert t)) = true
is_expert _ = false

-- a span after which the clock would pass its greatest time
abbrev pub is_past : ℕ → Time → std.Bool
is_past now None = true
is_past now (Some span) = not (nat_lt (now + span) (2 ^ 63))

abbrev pub has_falling_times : Tree → std.Bool
has_falling_times (Steps first steps) = not (times_rise steps)
has_falling_times tree = false

abbrev pub is_empty_interval : Tree → std.Bool
is_empty_interval (Every (Some span)) = nat_eq span 0
is_empty_interval tree = false

abbrev pub is_back : ℕ → Line → std.Bool
is_back now (line.AdvanceTo time) = nat_lt (unwrap_or time 0) now
is_back now _ = false

-- where a reason stands against a line, by its names, functions, types and times; of the other reasons none does
abbrev pub is_against : Meanings → Names → Line → Reason → std.Bool
is_against F names l NameTaken = list_any (is_declared names) (new_names l)
is_against F names l ObserverTaken = list_any (is_among names.observers) (new_observers l)
is_against F names l NameUnknown = list_any (λ name. not (is_declared names name)) (read_names l)
is_against F names l ObserverUnknown = list_any (λ name. not (is_among names.observers name)) (observers_of l)
is_against F names l FunctionUnknown = list_any (λ name. is_none (F.named name)) (functions_in l)
is_against F names l NotWhole = list_any is_top_form (inner_trees l)
is_against F names l NotVariable = list_any (λ name. not (is_variable (kind_of names name))) (variables_of l)
is_against F names l NotBind = list_any (λ name. not (is_bind (kind_of names name))) (binds_of l)
is_against F names l NotExpert = list_any (λ name. not (is_expert (kind_of names name))) (experts_of l)
is_against F names l IllTyped = is_none (command_of F names l)
is_against F names l TimeTooLarge = list_any is_none (times_of l) || list_any (is_past names.now) (spans_of l)
is_against F names l TimesNotRising = list_any has_falling_times (trees_of l)
is_against F names l SpanIsZero = list_any is_empty_interval (trees_of l)
is_against F names l BackInTime = is_back names.now l
is_against F names l _ = false

-- the order in which a line's reasons are looked at
abbrev pub line_order : List Reason
line_order =
    NameTaken ∷ ObserverTaken ∷ NameUnknown ∷ ObserverUnknown ∷ FunctionUnknown ∷ NotWhole ∷ NotVariable ∷ NotBind ∷ NotExpert ∷ IllTyped
    ∷ TimeTooLarge ∷ TimesNotRising ∷ SpanIsZero ∷ BackInTime ∷ []

-- the first of them that holds
abbrev pub first_that : (Reason → std.Bool) → List Reason → Option Reason
first_that holds [] = None
first_that holds (r ∷ rs) = cond (holds r) (Some r) (first_that holds rs)

-- ---- the names of a state

-- how a body was declared
abbrev pub kind_of_body : Body → Kind
kind_of_body (model.Variable v) = Variable
kind_of_body (model.Computed (model.Bind left body) kept) = Bind
kind_of_body (model.Computed f kept) = Computed
kind_of_body (model.Freeze child predicate frozen) = Computed
kind_of_body (model.After t) = Computed
kind_of_body (model.Every base span) = Computed
kind_of_body (model.Expert f first links stale) = Expert (unwrap_or (element_of f f.sig.takes) ty.Int)
kind_of_body (model.Grab bind v is_live) = Grab

-- a declaration as a declared name
abbrev pub declared_of : model.Entry → Declared
declared_of e = record { name = e.name; ty = e.ty; kind = kind_of_body e.body; target = e.target }

-- the names of a state
abbrev pub names_of : model.State → Names
names_of s = record { declared = map declared_of s.entries; observers = map (λ (o : model.Observer). o.name) s.observers; now = s.now }

-- the target of a declaration at position n: that of the name that its whole formula is, else its own position
abbrev pub target_of_body : ℕ → Body → ℕ
target_of_body n (model.Computed (model.Name target) kept) = target
target_of_body n body = n
