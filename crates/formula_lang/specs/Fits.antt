-- What is true of every command that is allowed: its names, functions and types fit together.
use Rattle.std.specs.Prelude.{◌≡◌, ◌<◌, ◌≤◌, ◌^◌, ℕ, Bool, List, [], ◌∷◌, length, None, Some, slice_get, IsTrue, IsFalse}
use Rattle.inc_value.specs.Sig.{IsMapSig}
use Rattle.inc_value.specs.Ty.{IsBase, type_of_base}
use Rattle.inc_value.specs.declared.function.FnKind.TheVariants.{Map}
use Rattle.inc_value.specs.declared.function.FnRef.{FnRef}
use Rattle.inc_value.specs.declared.ty.Base.{Base}
use Rattle.inc_value.specs.declared.ty.Ty.{Ty}
use Rattle.inc_value.specs.declared.ty.Ty.TheVariants as types
use Rattle.script_model.specs.Check.{Command, Declare, Assign, Link, Unlink, Stale, Take, Observe, Unobserve, Watch, Advance, Stabilize, Show, Declared, Expert as AnExpert, Names, first_named, is_among, is_bind, is_variable, target_of_body}
use Rattle.inc_value.specs.Choice.{Every as Each, and_then}
use Rattle.script_model.specs.Formula.{Formula, Formulas, TimedValue, Body, Literal, Name, Bound, Apply, Fold, If, Join, Bind, At, Steps, Now, End, More, Variable, Computed, Freeze, After, Every, Expert, Grab, nothing_kept}
use Rattle.script_model.specs.Valid.{FoldsOver}
use Rattle.script_model.specs.Values.{Value, Reference, type_of}

-- a declared name of the type stands for the declaration at the position
pub record NameFits (names : Names) (position : ℕ) (ty : Ty) : Type 0 where
  pub place : ℕ
  pub declared : Declared
  pub stands : slice_get names.declared place ≡ Some declared
  pub target : declared.target ≡ position
  pub typed : declared.ty ≡ ty
  pub earlier : position < length names.declared

-- the function is known, and a map
pub record FunctionFits (known : FnRef → Bool) (f : FnRef) : Type 0 where
  pub is_known : IsTrue (known f)
  pub kind : f.id.kind ≡ Map
  pub signature : IsMapSig f.sig

-- what a value refers to, if anything, is a declaration of the base type
abbrev pub ReferenceFits : Names → Value → Type 0
ReferenceFits names (Reference target base) = NameFits names target (type_of_base base)
ReferenceFits names v = Unit {0}

-- a value of the type, which refers to what fits
abbrev pub ValueFits : Names → Value → Ty → Type 0
ValueFits names v ty = (type_of v ≡ ty) × ReferenceFits names v

-- the values of all steps are of the type, and refer to what fits
abbrev pub StepsFit : Names → List TimedValue → Ty → Type 0
StepsFit names steps ty = Each (λ (s : TimedValue). ValueFits names s.value ty) steps

abbrev mutual
  -- within binds whose variables have these types, the innermost first, the formula has the type, and each of its functions,
  -- names and references fits
  pub FormulaFits : (FnRef → Bool) → Names → List Ty → Formula → Ty → Type 0
  FormulaFits known names bounds (Literal v) ty = ValueFits names v ty
  FormulaFits known names bounds (Name position) ty = NameFits names position ty
  FormulaFits known names bounds (Bound k) ty = slice_get bounds k ≡ Some ty
  FormulaFits known names bounds (Apply f arguments) ty =
      FunctionFits known f × ArgumentsFit known names bounds arguments f.sig.takes × (f.sig.gives ≡ ty)
  FormulaFits known names bounds (Fold f first elements) ty =
      (element : Ty) × FunctionFits known f × FoldsOver f ty element × (type_of first ≡ ty) × IsBase ty
      × ElementsFit known names bounds elements element
  FormulaFits known names bounds (If test a b) ty =
      FormulaFits known names bounds test types.Bool × FormulaFits known names bounds a ty × FormulaFits known names bounds b ty
  FormulaFits known names bounds (Join child) ty =
      (base : Base) × FormulaFits known names bounds child (types.Node base) × (type_of_base base ≡ ty)
  FormulaFits known names bounds (Bind left body) ty =
      (u : Ty) × FormulaFits known names bounds left u × FormulaFits known names (u ∷ bounds) body ty
  FormulaFits known names bounds (At time) ty = types.Bool ≡ ty
  FormulaFits known names bounds (Steps first steps) ty = ValueFits names first ty × StepsFit names steps ty
  FormulaFits known names bounds Now ty = types.Int ≡ ty

  -- each argument has the type that is listed for it, and there are as many
  pub ArgumentsFit : (FnRef → Bool) → Names → List Ty → Formulas → List Ty → Type 0
  ArgumentsFit known names bounds End [] = Unit {0}
  ArgumentsFit known names bounds End (ty ∷ tys) = ⊥
  ArgumentsFit known names bounds (More f rest) [] = ⊥
  ArgumentsFit known names bounds (More f rest) (ty ∷ tys) =
      FormulaFits known names bounds f ty × ArgumentsFit known names bounds rest tys

  -- each element has the type
  pub ElementsFit : (FnRef → Bool) → Names → List Ty → Formulas → Ty → Type 0
  ElementsFit known names bounds End ty = Unit {0}
  ElementsFit known names bounds (More f rest) ty =
      FormulaFits known names bounds f ty × ElementsFit known names bounds rest ty

-- a formula of the type, and a predicate on its values
pub record FreezeFits (known : FnRef → Bool) (names : Names) (child : Formula) (predicate : FnRef) (ty : Ty) : Type 0 where
  pub child_fits : FormulaFits known names [] child ty
  pub predicate_fits : FunctionFits known predicate
  pub takes : predicate.sig.takes ≡ ty ∷ []
  pub gives : predicate.sig.gives ≡ types.Bool

-- a function that folds elements of a type from the first value on
pub record ExpertFits (known : FnRef → Bool) (names : Names) (f : FnRef) (first : Value) (ty : Ty) : Type 0 where
  pub element : Ty
  pub function_fits : FunctionFits known f
  pub folds : FoldsOver f ty element
  pub first_fits : ValueFits names first ty

-- what is declared has the type, and nothing is kept of it
abbrev pub BodyFits : (FnRef → Bool) → Names → Body → Ty → Type 0
BodyFits known names (Variable v) ty = ValueFits names v ty
BodyFits known names (Computed f kept) ty = FormulaFits known names [] f ty × (kept ≡ nothing_kept)
BodyFits known names (After time) ty = (types.Bool ≡ ty) × (time < 2 ^ 63)
BodyFits known names (Every base span) ty = (types.Int ≡ ty) × (base ≡ names.now) × (0 < span)
BodyFits known names (Freeze child predicate frozen) ty = FreezeFits known names child predicate ty × (frozen ≡ None)
BodyFits known names (Expert f first links stale) ty = ExpertFits known names f first ty × (links ≡ []) × (stale ≡ 0)
BodyFits known names (Grab bind v is_live) ty = ⊥

-- a new name that may be declared; the name that it stands for comes no later
pub record DeclarationFits (known : FnRef → Bool) (names : Names) (name : List ℕ) (ty : Ty) (body : Body) : Type 0 where
  pub fresh : first_named name names.declared ≡ None
  pub body_fits : BodyFits known names body ty
  pub earlier : target_of_body (length names.declared) body ≤ length names.declared

-- a new name for the right side of a bind that is declared with the type
pub record GrabFits (names : Names) (name : List ℕ) (ty : Ty) (bind : ℕ) : Type 0 where
  pub fresh : first_named name names.declared ≡ None
  pub bind_fits : NameFits names bind ty
  pub is_bind : IsTrue (is_bind (and_then (slice_get names.declared bind) (λ d. Some d.kind)))

-- a variable that may have the value
pub record AssignmentFits (names : Names) (target : ℕ) (value : Value) : Type 0 where
  pub name : NameFits names target (type_of value)
  pub refers : ReferenceFits names value
  pub variable : IsTrue (is_variable (and_then (slice_get names.declared target) (λ d. Some d.kind)))

-- a time that the clock may come to, and that isn't past
abbrev pub TimeFits : Names → ℕ → Type 0
TimeFits names time = (names.now ≤ time) × (time < 2 ^ 63)

-- a new observer of a declaration
pub record ObserverFits (names : Names) (observer : List ℕ) (target : ℕ) : Type 0 where
  pub fresh : IsFalse (is_among names.observers observer)
  pub earlier : target < length names.declared

-- a name stands for the declaration at the position, which is an expert whose elements have the type
pub record IsExpertOf (names : Names) (expert : ℕ) (element : Ty) : Type 0 where
  pub ty : Ty
  pub name : NameFits names expert ty
  pub kind : and_then (slice_get names.declared expert) (λ d. Some d.kind) ≡ Some (AnExpert element)

-- a declaration of the type that the expert takes
pub record LinkFits (names : Names) (expert target : ℕ) : Type 0 where
  pub element : Ty
  pub is_expert : IsExpertOf names expert element
  pub linked : NameFits names target element

-- a declaration, and an expert
pub record UnlinkFits (names : Names) (expert target : ℕ) : Type 0 where
  pub element : Ty
  pub is_expert : IsExpertOf names expert element
  pub ty : Ty
  pub linked : NameFits names target ty

-- the names, functions and types of a command fit together
abbrev pub FitsNames : (FnRef → Bool) → Names → Command → Type 0
FitsNames known names (Declare name ty body) = DeclarationFits known names name ty body
FitsNames known names (Take name ty bind) = GrabFits names name ty bind
FitsNames known names (Assign target value) = AssignmentFits names target value
FitsNames known names (Observe observer target) = ObserverFits names observer target
FitsNames known names (Unobserve observer) = IsTrue (is_among names.observers observer)
FitsNames known names (Watch observer) = IsTrue (is_among names.observers observer)
FitsNames known names (Advance time) = TimeFits names time
FitsNames known names Stabilize = Unit {0}
FitsNames known names (Show observer) = IsTrue (is_among names.observers observer)
FitsNames known names (Link expert target) = LinkFits names expert target
FitsNames known names (Unlink expert target) = UnlinkFits names expert target
FitsNames known names (Stale expert) = (element : Ty) × IsExpertOf names expert element
