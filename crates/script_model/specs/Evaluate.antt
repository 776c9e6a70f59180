-- What a formula gives: evaluation from scratch, by depth (Acar, Self-Adjusting Computation, 2005: the run from scratch
-- that change propagation has to equal).
use Rattle.std.specs.Prelude as std
use Rattle.std.specs.Prelude.{◌≡◌, ℕ, zero, suc, ◌-◌, ◌/◌, pos, cond, true, false, nat_le, List, [], ◌∷◌, map, Option, None, Some, option_map, slice_get}
use Rattle.inc_value.specs.declared.function.FnRef.{FnRef}
use Rattle.inc_value.specs.Choice.{and_then}
use Rattle.script_model.specs.Values.{Value, Outcome, Int, Bool, Reference, Val, Invalid, same_value}
use Rattle.script_model.specs.Formula.{Formula, Formulas, TimedValue, Body, Entry, State, Meanings, entry_at, bind_at, Literal, Name, Bound, Apply, Fold, If, Join, Bind, At, Steps, Now, End, More, Variable, Computed, Freeze, After, Every, Expert, Grab}

-- ---- several outcomes

-- the outcomes of arguments, put together
pub data Gathered : Type 0 where
  Unknown : Gathered
  SomeInvalid : Gathered
  Values : (values : List Value) → Gathered

-- one more argument in front
abbrev pub joined : Option Outcome → Gathered → Gathered
joined None rest = Unknown
joined (Some Invalid) Unknown = Unknown
joined (Some Invalid) rest = SomeInvalid
joined (Some (Val v)) (Values values) = Values (v ∷ values)
joined (Some (Val v)) rest = rest

-- what arguments give, put together: unknown where one has no answer, else invalid where one is
abbrev pub gathered : List (Option Outcome) → Gathered
gathered [] = Values []
gathered (o ∷ os) = joined o (gathered os)

-- what each of the formulas gives
abbrev pub each_of : (Formula → Option Outcome) → Formulas → List (Option Outcome)
each_of part End = []
each_of part (More f rest) = part f ∷ each_of part rest

-- a function of the values; where one is Invalid it isn't called
abbrev pub given : (List Value → Value) → Gathered → Option Outcome
given f Unknown = None
given f SomeInvalid = Some Invalid
given f (Values values) = Some (Val (f values))

-- a function of two arguments, from a first value over all of them, from left to right
abbrev pub fold_from : Meanings → FnRef → Value → List Value → Value
fold_from F f v [] = v
fold_from F f v (w ∷ ws) = fold_from F f (F.value f (v ∷ w ∷ [])) ws

-- ---- one outcome

-- what follows from a value; Invalid stays so
abbrev pub with_value : Option Outcome → (Value → Option Outcome) → Option Outcome
with_value None next = None
with_value (Some Invalid) next = Some Invalid
with_value (Some (Val v)) next = next v

-- a truth value
abbrev pub truth_of : Value → Option std.Bool
truth_of (Bool b) = Some b
truth_of _ = None

-- the declaration that a reference names
abbrev pub target_of : Value → Option ℕ
target_of (Reference target base) = Some target
target_of _ = None

-- what follows from what an outcome chooses; Invalid where it chooses nothing
abbrev pub or_invalid : {A : Type 0} → Option A → (A → Option Outcome) → Option Outcome
or_invalid None next = Some Invalid
or_invalid (Some x) next = next x

-- the side that a test chooses
abbrev pub chosen : {A : Type 0} → std.Bool → A → A → A
chosen true a b = a
chosen false a b = b

-- what a right side built for a value gives: Invalid where the left gives another
abbrev pub while_built : Value → Option Outcome → Option Outcome → Option Outcome
while_built v None right = None
while_built v (Some Invalid) right = Some Invalid
while_built v (Some (Val w)) right = chosen (same_value v w) right (Some Invalid)

-- the last value whose time has come, else the first
abbrev pub stepped : ℕ → Value → List TimedValue → Value
stepped now v [] = v
stepped now v (step ∷ steps) = cond (nat_le step.time now) (stepped now step.value steps) v

-- whether a time has come
abbrev pub has_come : State → ℕ → Option Outcome
has_come s t = Some (Val (Bool (nat_le t s.now)))

-- ---- evaluation

-- what a declaration gives, over what parts give
abbrev pub body_level : Meanings → State → (List Value → Formula → Option Outcome) → Body → Option Outcome
body_level F s part (Variable v) = Some (Val v)
body_level F s part (Computed f kept) = part [] f
body_level F s part (Freeze child predicate None) = part [] child
body_level F s part (Freeze child predicate (Some v)) = Some (Val v)
body_level F s part (After t) = has_come s t
body_level F s part (Every base span) = Some (Val (Int (pos ((s.now - base) / span))))
body_level F s part (Expert f first links stale) = given (fold_from F f first) (gathered (map (λ n. part [] (Name n)) links))
body_level F s part (Grab bind v true) = and_then (bind_at s bind) (λ b. while_built v (part [] b.0) (part (v ∷ []) b.1))
body_level F s part (Grab bind v false) = Some Invalid

-- what a name gives, over what parts give; Invalid where nothing is declared there
abbrev pub name_level : Meanings → State → (List Value → Formula → Option Outcome) → Option Entry → Option Outcome
name_level F s part None = Some Invalid
name_level F s part (Some e) = body_level F s part e.body

-- one level of evaluation, over what parts give, with the values of the binds round it, the innermost first
abbrev pub level : Meanings → State → (List Value → Formula → Option Outcome) → List Value → Formula → Option Outcome
level F s part E (Literal v) = Some (Val v)
level F s part E (Name n) = name_level F s part (entry_at s n)
level F s part E (Bound k) = option_map (λ v. Val v) (slice_get E k)
level F s part E (Apply f arguments) = given (F.value f) (gathered (each_of (part E) arguments))
level F s part E (Fold f first elements) = given (fold_from F f first) (gathered (each_of (part E) elements))
level F s part E (If test a b) = with_value (part E test) (λ v. or_invalid (truth_of v) (λ t. part E (chosen t a b)))
level F s part E (Join child) = with_value (part E child) (λ v. or_invalid (target_of v) (λ n. part [] (Name n)))
level F s part E (Bind left body) = with_value (part E left) (λ v. part (v ∷ E) body)
level F s part E (At t) = has_come s t
level F s part E (Steps first steps) = Some (Val (stepped s.now first steps))
level F s part E Now = Some (Val (Int (pos s.now)))

-- what a formula gives within a depth
unfoldable pub value_at : Meanings → State → ℕ → List Value → Formula → Option Outcome
value_at F s zero E f = None
value_at F s (suc d) E f = level F s (value_at F s d) E f

-- some depth answers
abbrev pub Gives : Meanings → State → List Value → Formula → Outcome → Type 0
Gives F s E f o = (d : ℕ) × (value_at F s d E f ≡ Some o)

-- what a declaration gives
abbrev pub NameGives : Meanings → State → ℕ → Outcome → Type 0
NameGives F s n o = Gives F s [] (Name n) o
