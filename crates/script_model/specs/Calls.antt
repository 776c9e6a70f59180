-- The calls of functions that a visit makes.
use Rattle.std.specs.Prelude.{List, [], ◌∷◌, Option, None, Some}
use Rattle.inc_value.specs.declared.function.FnRef.{FnRef}
use Rattle.script_model.specs.Values.{Value}
use Rattle.script_model.specs.Formula.{Formula, Body, State, Meanings, body_at, Apply, Fold, Freeze, Expert}
use Rattle.script_model.specs.Need.{Item, Named, Place, Visit, formula_at}
use Rattle.script_model.specs.Valid.{HaveTypes}

-- a call: the function and the values that it is given
pub record Call : Type 0 where
  pub function : FnRef
  pub arguments : List Value

-- a call of the function with these values
abbrev pub call : FnRef → List Value → Call
call f arguments = record { function = f; arguments = arguments }

-- the calls of a fold: one for each element, with what the calls before gave
abbrev pub fold_calls : Meanings → FnRef → Value → List Value → List Call
fold_calls F f v [] = []
fold_calls F f v (w ∷ ws) = call f (v ∷ w ∷ []) ∷ fold_calls F f (F.value f (v ∷ w ∷ [])) ws

-- the calls of a formula
abbrev pub formula_calls : Meanings → Option Formula → List Value → List Call
formula_calls F (Some (Apply f arguments)) values = call f values ∷ []
formula_calls F (Some (Fold f first elements)) values = fold_calls F f first values
formula_calls F f values = []

-- the calls of a declaration
abbrev pub body_calls : Meanings → Option Body → List Value → List Call
body_calls F (Some (Freeze child predicate None)) values = call predicate values ∷ []
body_calls F (Some (Expert f first links stale)) values = fold_calls F f first values
body_calls F body values = []

-- the calls of an item, where its parts give these values
abbrev pub calls_at : Meanings → State → Item → List Value → List Call
calls_at F s (Named n) values = body_calls F (body_at s n) values
calls_at F s (Place owner path) values = formula_calls F (formula_at s owner path) values

-- the calls of a visit
abbrev pub calls_of : Meanings → State → Visit → List Call
calls_of F s v = calls_at F s v.item v.values

-- proper values of the types that the function takes
abbrev pub IsTyped : Call → Type 0
IsTyped c = HaveTypes c.arguments c.function.sig.takes
