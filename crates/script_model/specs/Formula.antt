-- Formulas, declarations and the state of a script.
use Rattle.std.specs.Prelude.{ℕ, ◌+◌, Bool, List, [], map, Option, None, Some, slice_get}
use Rattle.std.specs.List.{sum_by}
use Rattle.inc_value.specs.declared.function.FnRef.{FnRef}
use Rattle.inc_value.specs.declared.ty.Ty.{Ty}
use Rattle.inc_value.specs.declared.value.Value as engine
use Rattle.inc_value.specs.Choice.{and_then}
use Rattle.script_model.specs.Values.{Value, Outcome, to_engine, from_engine, seen_value}

-- a value from a time on
pub record TimedValue : Type 0 where
  pub time : ℕ
  pub value : Value

mutual
  -- a formula; a name is the position of the declaration that it stands for, and a bind variable the number of binds
  -- between it and its own, from the inside
  pub data Formula : Type 0 where
    Literal : (value : Value) → Formula
    Name : (position : ℕ) → Formula
    Bound : (binds_between : ℕ) → Formula
    Apply : (function : FnRef) (arguments : Formulas) → Formula
    Fold : (function : FnRef) (first : Value) (elements : Formulas) → Formula
    If : (test then_side else_side : Formula) → Formula
    Join : (child : Formula) → Formula
    Bind : (left body : Formula) → Formula
    At : (time : ℕ) → Formula
    Steps : (first : Value) (steps : List TimedValue) → Formula
    Now : Formula

  pub data Formulas : Type 0 where
    End : Formulas
    More : (first : Formula) (rest : Formulas) → Formulas

-- what stabilizes keep of a `let`: of one whose formula is a bind, the outcome that it was last built for
pub record Kept : Type 0 where
  pub built : Option Outcome

-- nothing yet
abbrev pub nothing_kept : Kept
nothing_kept = record { built = None }

-- what is declared, with what is kept of it
pub data Body : Type 0 where
  Variable : (present : Value) → Body
  Computed : (formula : Formula) (kept : Kept) → Body
  Freeze : (child : Formula) (predicate : FnRef) (frozen : Option Value) → Body
  After : (time : ℕ) → Body
  Every : (base span : ℕ) → Body
  Expert : (function : FnRef) (first : Value) (links : List ℕ) (stale : ℕ) → Body
  Grab : (bind : ℕ) (value : Value) (is_live : Bool) → Body

-- a declaration; its target is the position of the declaration that the name stands for
pub record Entry : Type 0 where
  pub name : List ℕ
  pub ty : Ty
  pub target : ℕ
  pub body : Body

-- whether an observer is watched, and what it told last
pub data Watch : Type 0 where
  Unwatched : Watch
  Fresh : Watch
  Told : (outcome : Outcome) → Watch

-- an observer in use, with the outcome that it shows, if a stabilize was accepted since it was made
pub record Observer : Type 0 where
  pub name : List ℕ
  pub target : ℕ
  pub shown : Option Outcome
  pub watch : Watch

-- what a script has made so far: the declarations in order, the observers in the order they were made, the clock in
-- nanoseconds, and how many stabilizes were accepted
pub record State : Type 0 where
  pub entries : List Entry
  pub observers : List Observer
  pub now : ℕ
  pub accepted : ℕ

-- before the first line
abbrev pub start : State
start = record { entries = []; observers = []; now = 0; accepted = 0 }

-- what the functions of a library are: which one a name stands for, and what it gives
pub record Meanings : Type 0 where
  pub named : List ℕ → Option FnRef
  pub value : FnRef → List Value → Value

-- the functions of a library, by what its names stand for and what they give; they don't see which node a reference leads to
abbrev pub meanings_of : (List ℕ → Option FnRef) → (FnRef → List engine.Value → engine.Value) → Meanings
meanings_of named value = record { named = named; value = λ f values. from_engine (seen_value value f (map to_engine values)) }

-- the declaration at a position
abbrev pub entry_at : State → ℕ → Option Entry
entry_at s n = slice_get s.entries n

-- the body of the declaration at a position
abbrev pub body_at : State → ℕ → Option Body
body_at s n = and_then (entry_at s n) (λ e. Some e.body)

-- ---- parts of bodies

-- the left side and the body of a bind that is the whole formula of a `let`
abbrev pub bind_of : Body → Option (Formula × Formula)
bind_of (Computed (Bind left body) kept) = Some (left, body)
bind_of _ = None

-- the bind at a position
abbrev pub bind_at : State → ℕ → Option (Formula × Formula)
bind_at s n = and_then (body_at s n) bind_of

-- what was kept of a bind: the outcome that it was last built for
abbrev pub built_of_body : Body → Option Outcome
built_of_body (Computed f kept) = kept.built
built_of_body _ = None

-- the outcome that the bind at a position was last built for
abbrev pub built_at : State → ℕ → Option Outcome
built_at s n = and_then (body_at s n) built_of_body

-- the dependencies of an expert
abbrev pub links_of : Body → List ℕ
links_of (Expert f first links stale) = links
links_of _ = []

-- the dependencies of the expert at a position
abbrev pub links_at : State → ℕ → List ℕ
links_at s n = elim (body_at s n) [ None ↦ [] | Some body ↦ links_of body ]

-- the formula whose places a declaration has
abbrev pub formula_of_body : Body → Option Formula
formula_of_body (Computed f kept) = Some f
formula_of_body (Freeze child predicate frozen) = Some child
formula_of_body _ = None

-- ---- places

abbrev mutual
  -- the places that a formula counts: a bind two, a name and a bind variable none, all else one
  pub places_in : Formula → ℕ
  places_in (Literal v) = 1
  places_in (Name n) = 0
  places_in (Bound k) = 0
  places_in (Apply f arguments) = 1 + places_in_all arguments
  places_in (Fold f first elements) = 1 + places_in_all elements
  places_in (If test a b) = 1 + (places_in test + (places_in a + places_in b))
  places_in (Join child) = 1 + places_in child
  places_in (Bind left body) = 2 + (places_in left + places_in body)
  places_in (At t) = 1
  places_in (Steps first steps) = 1
  places_in Now = 1

  pub places_in_all : Formulas → ℕ
  places_in_all End = 0
  places_in_all (More f rest) = places_in f + places_in_all rest

abbrev mutual
  -- how many binds a formula has
  pub binds_in : Formula → ℕ
  binds_in (Apply f arguments) = binds_in_all arguments
  binds_in (Fold f first elements) = binds_in_all elements
  binds_in (If test a b) = binds_in test + (binds_in a + binds_in b)
  binds_in (Join child) = binds_in child
  binds_in (Bind left body) = 1 + (binds_in left + binds_in body)
  binds_in f = 0

  pub binds_in_all : Formulas → ℕ
  binds_in_all End = 0
  binds_in_all (More f rest) = binds_in f + binds_in_all rest

-- how many binds what is declared has
abbrev pub binds_of_body : Body → ℕ
binds_of_body (Computed f kept) = binds_in f
binds_of_body (Freeze child predicate frozen) = binds_in child
binds_of_body body = 0

-- a variable, an expert and a form of the top count one place, a formula its own, a grab none
abbrev pub places_of_body : Body → ℕ
places_of_body (Variable v) = 1
places_of_body (Computed f kept) = places_in f
places_of_body (Freeze child predicate frozen) = 1 + places_in child
places_of_body (After t) = 1
places_of_body (Every base span) = 1
places_of_body (Expert f first links stale) = 1
places_of_body (Grab bind v is_live) = 0

-- the places of a script
abbrev pub places_of : State → ℕ
places_of s = sum_by (λ (e : Entry). places_of_body e.body) s.entries
