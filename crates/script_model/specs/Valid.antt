-- Well-typed states: what every line of a script keeps.
use Rattle.std.specs.Prelude.{◌≡◌, ℕ, ◌<◌, ◌≤◌, ◌^◌, Bool, true, List, [], ◌∷◌, length, Option, None, Some, slice_get, All}
use Rattle.inc_value.specs.Ty.{IsBase, type_of_base}
use Rattle.inc_value.specs.Value as engine
use Rattle.inc_value.specs.declared.function.FnRef.{FnRef}
use Rattle.inc_value.specs.declared.ty.Ty.TheVariants as ty
use Rattle.inc_value.specs.declared.ty.Ty.{Ty}
use Rattle.inc_value.specs.declared.value.Value as declared
use Rattle.script_model.specs.Check.{target_of_body}
use Rattle.inc_value.specs.Choice.{Every}
use Rattle.script_model.specs.Values as value
use Rattle.script_model.specs.Values.{Value, Outcome, Val, Invalid, type_of, IsProper}
use Rattle.script_model.specs.Formula as model
use Rattle.script_model.specs.Formula.{Formula, Formulas, TimedValue, Kept, Body, Entry, Observer, Watch, State, Meanings, entry_at, bind_at, built_at, places_of, Literal, Name, Bound, Apply, Fold, If, Join, Bind, At, Steps, Now, End, More, Variable, Computed, Freeze, After, Expert, Grab, Unwatched, Fresh, Told}

-- a declaration of this type stands at the position, below the bound, and is its own target
pub record NameHasType (s : State) (below position : ℕ) (t : Ty) : Type 0 where
  pub entry : Entry
  pub earlier : position < below
  pub stands : entry_at s position ≡ Some entry
  pub typed : entry.ty ≡ t
  pub own : entry.target ≡ position

-- a proper value; a reference names such a declaration
abbrev pub IsKnown : State → ℕ → Value → Type 0
IsKnown s below (value.Reference target base) = NameHasType s below target (type_of_base base)
IsKnown s below v = IsProper v

-- a value of the type
abbrev pub ValueHasType : State → ℕ → Value → Ty → Type 0
ValueHasType s below v t = (type_of v ≡ t) × IsKnown s below v

-- an outcome whose value, if it is one, has the type
abbrev pub OutcomeHasType : State → Outcome → Ty → Type 0
OutcomeHasType s (Val v) t = ValueHasType s (length s.entries) v t
OutcomeHasType s Invalid t = Unit {0}

-- each later value has the type, and their times rise
abbrev pub StepsHaveType : State → ℕ → List TimedValue → Ty → Type 0
StepsHaveType s n [] t = Unit {0}
StepsHaveType s n (a ∷ []) t = ValueHasType s n a.value t
StepsHaveType s n (a ∷ b ∷ steps) t = ValueHasType s n a.value t × (a.time < b.time) × StepsHaveType s n (b ∷ steps) t

-- the values of the binds round a formula have these types
abbrev pub BoundsFit : State → List Value → List Ty → Type 0
BoundsFit s [] [] = Unit {0}
BoundsFit s [] (t ∷ tys) = ⊥
BoundsFit s (v ∷ vs) [] = ⊥
BoundsFit s (v ∷ vs) (t ∷ tys) = ValueHasType s (length s.entries) v t × BoundsFit s vs tys

-- some name stands for the function
abbrev pub IsNamed : Meanings → FnRef → Type 0
IsNamed F f = (name : List ℕ) × (F.named name ≡ Some f)

-- a function of this type and an element's, which gives this type
abbrev pub FoldsOver : FnRef → Ty → Ty → Type 0
FoldsOver f t element = (f.sig.takes ≡ t ∷ element ∷ []) × (f.sig.gives ≡ t)

abbrev mutual
  -- in the declaration at position n, below variables of binds of these types, a formula has this type
  pub HasType : Meanings → State → ℕ → List Ty → Formula → Ty → Type 0
  HasType F s n bounds (Literal v) t = ValueHasType s n v t
  HasType F s n bounds (Name position) t = NameHasType s n position t
  HasType F s n bounds (Bound k) t = slice_get bounds k ≡ Some t
  HasType F s n bounds (Apply f arguments) t = IsNamed F f × ArgumentsHaveTypes F s n bounds arguments f.sig.takes × (f.sig.gives ≡ t)
  HasType F s n bounds (Fold f first elements) t = (element : Ty) × IsNamed F f × FoldsOver f t element × ValueHasType s n first t × ElementsHaveType F s n bounds elements element
  HasType F s n bounds (If test a b) t = HasType F s n bounds test ty.Bool × HasType F s n bounds a t × HasType F s n bounds b t
  HasType F s n bounds (Join child) t = (base : _) × HasType F s n bounds child (ty.Node base) × (type_of_base base ≡ t)
  HasType F s n bounds (Bind left body) t = (u : Ty) × HasType F s n bounds left u × HasType F s n (u ∷ bounds) body t
  HasType F s n bounds (At time) t = t ≡ ty.Bool
  HasType F s n bounds (Steps first steps) t = ValueHasType s n first t × StepsHaveType s n steps t
  HasType F s n bounds Now t = t ≡ ty.Int

  -- each argument has the type that is listed for it, and there are as many
  pub ArgumentsHaveTypes : Meanings → State → ℕ → List Ty → Formulas → List Ty → Type 0
  ArgumentsHaveTypes F s n bounds End [] = Unit {0}
  ArgumentsHaveTypes F s n bounds End (t ∷ tys) = ⊥
  ArgumentsHaveTypes F s n bounds (More f rest) [] = ⊥
  ArgumentsHaveTypes F s n bounds (More f rest) (t ∷ tys) = HasType F s n bounds f t × ArgumentsHaveTypes F s n bounds rest tys

  -- each element has the type
  pub ElementsHaveType : Meanings → State → ℕ → List Ty → Formulas → Ty → Type 0
  ElementsHaveType F s n bounds End t = Unit {0}
  ElementsHaveType F s n bounds (More f rest) t = HasType F s n bounds f t × ElementsHaveType F s n bounds rest t

-- what a bind was built for has its left's type
abbrev pub BuiltFits : Meanings → State → ℕ → Formula → Kept → Type 0
BuiltFits F s n (Bind left body) kept = (o : Outcome) → kept.built ≡ Some o → (t : Ty) × HasType F s n [] left t × OutcomeHasType s o t
BuiltFits F s n f kept = kept.built ≡ None

-- a grab of an earlier bind; while it lives its bind was last built for its value, and no other grab of that bind lives
pub record GrabFits (F : Meanings) (s : State) (n bind : ℕ) (v : Value) (is_live : Bool) (t : Ty) : Type 0 where
  pub left : Formula
  pub body : Formula
  pub earlier : bind < n
  pub stands : bind_at s bind ≡ Some (left, body)
  pub typed : HasType F s bind [] (Bind left body) t
  pub built : is_live ≡ true → built_at s bind ≡ Some (Val v)
  pub alone : is_live ≡ true → (m : ℕ) (w : Value) (e : Entry) → entry_at s m ≡ Some e → e.body ≡ Grab bind w true → m ≡ n

-- a declaration's body fits the declared type
abbrev pub BodyHasType : Meanings → State → ℕ → Body → Ty → Type 0
BodyHasType F s n (Variable v) t = ValueHasType s (length s.entries) v t
BodyHasType F s n (Computed f kept) t = HasType F s n [] f t × BuiltFits F s n f kept
BodyHasType F s n (Freeze child predicate frozen) t =
    HasType F s n [] child t × IsNamed F predicate × (predicate.sig.takes ≡ t ∷ []) × (predicate.sig.gives ≡ ty.Bool) × ((v : Value) → frozen ≡ Some v → ValueHasType s (length s.entries) v t)
BodyHasType F s n (After time) t = t ≡ ty.Bool
BodyHasType F s n (model.Every base span) t = (t ≡ ty.Int) × (0 < span) × (base ≤ s.now)
BodyHasType F s n (Expert f first links stale) t =
    (element : Ty) × IsNamed F f × FoldsOver f t element × ValueHasType s (length s.entries) first t × Every (λ m. NameHasType s (length s.entries) m element) links × (length links ≤ 4096)
BodyHasType F s n (Grab bind v is_live) t = GrabFits F s n bind v is_live t

-- a declaration that may stand at position n: well typed, and its target is that of the name that its whole formula is, or
-- itself
pub record ValidEntry (F : Meanings) (s : State) (n : ℕ) (e : Entry) : Type 0 where
  pub typed : BodyHasType F s n e.body e.ty
  pub target_is : e.target ≡ target_of_body n e.body

-- what a watched observer told last has its type
abbrev pub WatchFits : State → Ty → Watch → Type 0
WatchFits s t Unwatched = Unit {0}
WatchFits s t Fresh = Unit {0}
WatchFits s t (Told o) = OutcomeHasType s o t

-- an observer of a declaration that is its own target
pub record ValidObserver (s : State) (o : Observer) : Type 0 where
  pub ty : Ty
  pub target : NameHasType s (length s.entries) o.target ty
  pub shown : (p : Outcome) → o.shown ≡ Some p → OutcomeHasType s p ty
  pub watch : WatchFits s ty o.watch

-- every declaration and every observer of the state is valid, the clock is a time, and there are not too many places
pub record Valid (F : Meanings) (s : State) : Type 0 where
  pub entries : (n : ℕ) (e : Entry) → entry_at s n ≡ Some e → ValidEntry F s n e
  pub observers : Every (ValidObserver s) s.observers
  pub now : s.now < 2 ^ 63
  pub places : places_of s ≤ 1048575

-- ---- functions

abbrev pub HaveTypes : List Value → List Ty → Type 0
HaveTypes [] [] = Unit {0}
HaveTypes [] (t ∷ tys) = ⊥
HaveTypes (v ∷ vs) [] = ⊥
HaveTypes (v ∷ vs) (t ∷ tys) = (type_of v ≡ t) × IsProper v × HaveTypes vs tys

-- each function that a name stands for takes and gives base types, and of proper values of the types that it takes it
-- gives a proper value of its type
abbrev pub KeepToTypes : Meanings → Type 0
KeepToTypes F =
    (name : List ℕ) (f : FnRef) → F.named name ≡ Some f → IsBase f.sig.gives × Every IsBase f.sig.takes
    × ((values : List Value) → HaveTypes values f.sig.takes → (type_of (F.value f values) ≡ f.sig.gives) × IsProper (F.value f values))

-- so does each function of a library, over the engine's values
abbrev pub LibraryKeepsToTypes : (List ℕ → Option FnRef) → (FnRef → List declared.Value → declared.Value) → Type 0
LibraryKeepsToTypes named value =
    (name : List ℕ) (f : FnRef) → named name ≡ Some f → IsBase f.sig.gives × All IsBase f.sig.takes
    × ((values : List declared.Value) → All engine.IsProper values → engine.HaveTypes values f.sig.takes
    → (engine.type_of (value f values) ≡ f.sig.gives) × engine.IsProper (value f values))
