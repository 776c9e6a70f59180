-- What is laid out: formulas whose variables are of binds round them, and all that is declared but a grab.
use Rattle.std.specs.Prelude.{◌<◌, ℕ, suc}
use Rattle.script_model.specs.Formula.{Formula, Formulas, Body, Literal, Name, Bound, Apply, Fold, If, Join, Bind, At, Steps, Now, End, More, Variable, Computed, Freeze, After, Every, Expert, Grab}

abbrev mutual
  -- within so many binds each variable of the formula is of one of these
  pub IsLaidOut : ℕ → Formula → Type 0
  IsLaidOut binds (Literal v) = Unit {0}
  IsLaidOut binds (Name n) = Unit {0}
  IsLaidOut binds (Bound k) = k < binds
  IsLaidOut binds (Apply function arguments) = AreLaidOut binds arguments
  IsLaidOut binds (Fold function first elements) = AreLaidOut binds elements
  IsLaidOut binds (If test a b) = IsLaidOut binds test × IsLaidOut binds a × IsLaidOut binds b
  IsLaidOut binds (Join child) = IsLaidOut binds child
  IsLaidOut binds (Bind left body) = IsLaidOut binds left × IsLaidOut (suc binds) body
  IsLaidOut binds (At time) = Unit {0}
  IsLaidOut binds (Steps first steps) = Unit {0}
  IsLaidOut binds Now = Unit {0}

  -- so are all of the formulas
  pub AreLaidOut : ℕ → Formulas → Type 0
  AreLaidOut binds End = Unit {0}
  AreLaidOut binds (More f rest) = IsLaidOut binds f × AreLaidOut binds rest

-- so is what is declared
abbrev pub IsLaidOutBody : Body → Type 0
IsLaidOutBody (Variable v) = Unit {0}
IsLaidOutBody (Computed f kept) = IsLaidOut 0 f
IsLaidOutBody (After time) = Unit {0}
IsLaidOutBody (Every base span) = Unit {0}
IsLaidOutBody (Freeze child predicate frozen) = IsLaidOut 0 child
IsLaidOutBody (Expert f first links stale) = Unit {0}
IsLaidOutBody (Grab bind v is_live) = ⊥
