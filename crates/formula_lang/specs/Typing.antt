-- Typed formulas as the model of scripts sees them.
use Rattle.std.specs.Prelude.{ℕ, suc, List, [], ◌∷◌, map, if◌then◌else◌, Option, None, Some}
use Rattle.std.specs.Str.{bytes_eq}
use Rattle.script_model.specs.Check as model
use Rattle.inc_value.specs.Choice.{and_then}
use Rattle.script_model.specs.Formula as formula
use Rattle.formula_lang.specs.CommandView.{formula_view, formulas_of}
use Rattle.inc_value.specs.declared.ty.Ty.{Ty}
use Rattle.formula_lang.specs.declared.scope.Variable.{Variable}
use Rattle.formula_lang.specs.declared.typing.TypedFormula.{TypedFormula}
use Rattle.formula_lang.specs.declared.typing.TypedPart.{TypedPart}
use Rattle.formula_lang.specs.declared.typing.TypedFormulas.{TypedFormulas}

abbrev pub typed_view : TypedFormula → model.TypedFormula
typed_view t = record { formula = formula_view t.formula; ty = t.ty }

abbrev pub part_view : TypedPart → model.TypedFormula
part_view t = record { formula = formula_view t.formula.value; ty = t.ty }

abbrev pub typed_each_view : TypedFormulas → model.TypedFormulas
typed_each_view ts = record { formulas = formulas_of (map formula_view ts.formulas.items); tys = ts.tys.items }

-- a variable of a bind
abbrev pub bound_view : Variable → model.Bound
bound_view v = record { name = v.name; ty = v.ty }

-- the place, from the k-th on, and the type of the first of the variables that has the name
abbrev pub variable_from : ℕ → List model.Bound → List ℕ → Option (ℕ × Ty)
variable_from k [] name = None
variable_from k (b ∷ bounds) name = if bytes_eq name b.name then Some (k, b.ty) else variable_from (suc k) bounds name

abbrev pub variable_in : List model.Bound → List ℕ → Option (ℕ × Ty)
variable_in bounds name = variable_from 0 bounds name

-- a name's declaration as a formula
abbrev pub named_formula : Option model.Declared → Option model.TypedFormula
named_formula found = and_then found (λ d. Some (record { formula = formula.Name d.target; ty = d.ty }))
