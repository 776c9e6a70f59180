-- Types of formulas.
use Rattle.std.specs.Prelude.{◌≡◌, ℕ, List, ◌∷◌, None, Some, slice_get, slice_index_or}
use Rattle.inc_value.specs.Ty.{type_of_base}
use Rattle.inc_value.specs.declared.ty.Ty.{Ty}
use Rattle.inc_value.specs.declared.ty.Ty.TheVariants as types
use Rattle.script_model.specs.Check.{Declared, Names}
use Rattle.script_model.specs.Formula as script
use Rattle.script_model.specs.Formula.{Formula, Literal, Name, Bound, Apply}
use Rattle.script_model.specs.Values.{type_of}

-- the type of the declaration at a position
abbrev pub type_at : Names → ℕ → Ty
type_at names n = elim (slice_get names.declared n) [ None ↦ types.Int | Some d ↦ d.ty ]

-- each declaration is of the type of the one that it stands for
abbrev pub AreTypedAsTargets : Names → Type 0
AreTypedAsTargets names = (i : ℕ) (d : Declared) → slice_get names.declared i ≡ Some d
    → (t : Declared) × (slice_get names.declared d.target ≡ Some t) × (t.ty ≡ d.ty)

-- what references of the type lead to
abbrev pub joined_ty : Ty → Ty
joined_ty (types.Node base) = type_of_base base
joined_ty ty = ty

-- the type of a formula, over those of names and of the variables of the binds round it
abbrev pub formula_ty : (ℕ → Ty) → List Ty → Formula → Ty
formula_ty tys bounds (Literal v) = type_of v
formula_ty tys bounds (Name n) = tys n
formula_ty tys bounds (Bound k) = slice_index_or bounds k types.Int
formula_ty tys bounds (Apply function arguments) = function.sig.gives
formula_ty tys bounds (script.Fold function first elements) = function.sig.gives
formula_ty tys bounds (script.If test a b) = formula_ty tys bounds a
formula_ty tys bounds (script.Join child) = joined_ty (formula_ty tys bounds child)
formula_ty tys bounds (script.Bind left body) = formula_ty tys (formula_ty tys bounds left ∷ bounds) body
formula_ty tys bounds (script.At time) = types.Bool
formula_ty tys bounds (script.Steps first steps) = type_of first
formula_ty tys bounds script.Now = types.Int
