-- Formulas that tests plan over one declared name, and what a plan waits for.
use Rattle.std.specs.Prelude.{◌≡◌, ◌≤◌, ◌<◌, [], ◌∷◌, length, Some, slice_get, IsTrue, codes, pos}
use Rattle.inc_value.specs.Sig.{Signature}
use Rattle.inc_value.specs.declared.ty.Ty.TheVariants as ty
use Rattle.script_model.specs.Check as model
use Rattle.script_model.specs.Check.{Declared, Names}
use Rattle.script_model.specs.Formula.{Formula, Literal, Name, Bound, Apply, Fold, Bind, End, More, places_in, binds_in}
use Rattle.script_model.specs.Values.{Int}
use Rattle.formula_lang.specs.Fits.{FormulaFits}
use Rattle.formula_elab.specs.Bodies.{OpenBody}
use Rattle.formula_elab.specs.Names.{EveryName}
use Rattle.formula_elab.specs.Plan.{PlanView}
use Rattle.formula_elab.specs.declared.opened.Open.{Open}
use Rattle.formula_elab.specs.declared.plan.Planned.TheVariants as planned
use Rattle.std_library.specs.Functions.{known, reference_of}
use Rattle.std_library.specs.declared.function.Function.TheVariants.{Add, Neg}

-- ---- formulas

-- the negation of 2
abbrev pub negation_of_two : Formula
negation_of_two = Apply (reference_of Neg) (More (Literal (Int (pos 2))) End)

-- its sum with the declared name
abbrev pub sum_of_both : Formula
sum_of_both = Apply (reference_of Add) (More (Name 0) (More negation_of_two End))

-- the fold of `add` from 5 over the declared name, that sum, and the declared name again
abbrev pub total_of_three : Formula
total_of_three = Fold (reference_of Add) (Int (pos 5)) (More (Name 0) (More sum_of_both (More (Name 0) End)))

-- the negation of a bind's variable
abbrev pub negation_of_bound : Formula
negation_of_bound = Apply (reference_of Neg) (More (Bound 0) End)

-- the sum of the variables of two binds
abbrev pub sum_of_bounds : Formula
sum_of_bounds = Apply (reference_of Add) (More (Bound 1) (More (Bound 0) End))

-- the bind of the declared name, in whose body a bind of the negation of its variable sums both variables
abbrev pub nested_bind : Formula
nested_bind = Bind (Name 0) (Bind negation_of_bound sum_of_bounds)

-- ---- what may be planned

-- one name of an Int
abbrev pub one_declared : Declared
one_declared = record { name = codes "a"; ty = ty.Int; kind = model.Variable; target = 0 }

abbrev pub one_name : Names
one_name = record { declared = one_declared ∷ []; observers = []; now = 0 }

-- a formula of an Int over that name, with few places and binds
pub record IsPlannable (f : Formula) : Type 0 where
  pub names : EveryName (λ n. n < 1) 0 f
  pub fits : FormulaFits known one_name [] f ty.Int
  pub few : places_in f ≤ 1048575
  pub few_binds : binds_in f ≤ 64

-- ---- what a plan waits for

-- a node was asked for, and isn't made yet
pub record AwaitsNode (p : PlanView) : Type 0 where
  pub node : Open
  pub waits : IsTrue p.is_waiting
  pub next : slice_get p.makes (length p.made) ≡ Some (planned.Node node)

-- a function of these types was asked for, and isn't made yet
pub record AwaitsFunction (p : PlanView) (types : Signature) : Type 0 where
  pub body : OpenBody
  pub waits : IsTrue p.is_waiting
  pub next : slice_get p.makes (length p.made) ≡ Some (planned.Body body)
  pub typed : types ≡ body.sig
