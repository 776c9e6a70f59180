-- The leaves of formulas: the names that they read, and the values that they hold.
use Rattle.std.specs.Prelude.{ℕ, IfSome}
use Rattle.inc_value.specs.Choice.{Every as Each}
use Rattle.script_model.specs.Formula.{Formula, Formulas, TimedValue, Body, Literal, Name, Bound, Apply, Fold, If, Join, Bind, At, Steps, Now, End, More, Variable, Computed, Freeze, After, Every, Expert, Grab}
use Rattle.script_model.specs.Values.{Value, Reference}

-- what the value refers to, if anything, has the property
abbrev pub EveryReference : (ℕ → Type 0) → Value → Type 0
EveryReference R (Reference target base) = R target
EveryReference R v = Unit {0}

abbrev mutual
  -- every name that the formula reads has the one property, and what its values refer to has the other; a bind variable
  -- is no name
  pub EveryLeaf : (ℕ → Type 0) → (ℕ → Type 0) → Formula → Type 0
  EveryLeaf P R (Literal v) = EveryReference R v
  EveryLeaf P R (Name n) = P n
  EveryLeaf P R (Bound k) = Unit {0}
  EveryLeaf P R (Apply function arguments) = EveryLeafOfAll P R arguments
  EveryLeaf P R (Fold function first elements) = EveryReference R first × EveryLeafOfAll P R elements
  EveryLeaf P R (If test a b) = EveryLeaf P R test × EveryLeaf P R a × EveryLeaf P R b
  EveryLeaf P R (Join child) = EveryLeaf P R child
  EveryLeaf P R (Bind left body) = EveryLeaf P R left × EveryLeaf P R body
  EveryLeaf P R (At time) = Unit {0}
  EveryLeaf P R (Steps first steps) = EveryReference R first × Each (λ (step : TimedValue). EveryReference R step.value) steps
  EveryLeaf P R Now = Unit {0}

  -- so for all of the formulas
  pub EveryLeafOfAll : (ℕ → Type 0) → (ℕ → Type 0) → Formulas → Type 0
  EveryLeafOfAll P R End = Unit {0}
  EveryLeafOfAll P R (More f rest) = EveryLeaf P R f × EveryLeafOfAll P R rest

-- so for what is declared: what an expert is linked to is referred to, as commands name it; a grab reads the name of its bind
abbrev pub EveryLeafOf : (ℕ → Type 0) → (ℕ → Type 0) → Body → Type 0
EveryLeafOf P R (Variable v) = EveryReference R v
EveryLeafOf P R (Computed f kept) = EveryLeaf P R f
EveryLeafOf P R (Freeze child predicate frozen) = EveryLeaf P R child × IfSome frozen (EveryReference R)
EveryLeafOf P R (After time) = Unit {0}
EveryLeafOf P R (Every base span) = Unit {0}
EveryLeafOf P R (Expert function first links stale) = EveryReference R first × Each R links
EveryLeafOf P R (Grab bind v is_live) = P bind × EveryReference R v
