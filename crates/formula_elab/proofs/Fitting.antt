-- A formula that fits is of the type that is told of it.
use Rattle.std.proofs.Common.{◌≡◌, ℕ, Bool, List, [], ◌∷◌, ◌++◌, Some, refl, sym, ◌∙◌, ap, subst}
use Rattle.std.proofs.lemmas.Option.{get_or_from_slice_get}
use Rattle.std.specs.List.{slice_get}
use Rattle.inc_value.specs.Choice.{Among}
use Rattle.inc_value.specs.Ty.{base_of, type_of_base}
use Rattle.inc_value.specs.declared.function.FnRef.{FnRef}
use Rattle.inc_value.specs.declared.node.NodeId.{NodeId}
use Rattle.inc_value.specs.declared.ty.Base.{Base}
use Rattle.inc_value.specs.declared.ty.Base.TheVariants as base
use Rattle.inc_value.specs.declared.ty.Ty.{Ty}
use Rattle.inc_value.specs.declared.ty.Ty.TheVariants as types
use Rattle.node_arena.specs.Listing.{Listed}
use Rattle.node_arena.specs.RightSide.{ValueHas}
use Rattle.script_functions.specs.Lines.{IsListedAs}
use Rattle.formula_lang.specs.Fits.{FormulaFits, NameFits}
use Rattle.script_model.specs.Check.{Declared, Names}
use Rattle.script_model.specs.Formula as script
use Rattle.script_model.specs.Formula.{Formula, Literal, Name, Bound, Apply}
use Rattle.script_model.specs.Values as value
use Rattle.script_model.specs.Values.{Value, Reference}
use Rattle.transfer.specs.Both.{graph_value}
use Rattle.formula_elab.specs.Bodies.{Page}
use Rattle.formula_elab.specs.Types.{formula_ty, joined_ty, type_at, AreTypedAsTargets}
use Rattle.formula_elab.specs.Writing.{with_named}
use Rattle.formula_elab.proofs.Lists.{Begins, among_last, among_left}

type_there : (names : Names) (n : ℕ) (d : Declared) → slice_get names.declared n ≡ Some d → type_at names n ≡ d.ty
type_there names n d at = rw (at, type_at) refl

-- the target of a name that fits is of the type
pub name_type : (names : Names) (n : ℕ) (ty : Ty) → AreTypedAsTargets names → NameFits names n ty → type_at names n ≡ ty
name_type names n ty targets fits =
    let t = targets fits.place fits.declared fits.stands in
    let at : slice_get names.declared n ≡ Some t.0 = subst (λ i. slice_get names.declared i ≡ Some t.0) fits.target t.1 in
    type_there names n t.0 at ∙ (t.2 ∙ fits.typed)

pub base_is : (b : Base) → base_of (type_of_base b) ≡ Some b
base_is base.Int = refl
base_is base.Bool = refl
base_is base.Text = refl

module _ (known : FnRef → Bool) (names : Names) (targets : AreTypedAsTargets names) where
  pub formula_type : (bounds : List Ty) (f : Formula) (ty : Ty) → FormulaFits known names bounds f ty
      → formula_ty (type_at names) bounds f ≡ ty
  formula_type bounds (Literal v) ty fits = fits.0
  formula_type bounds (Name n) ty fits = name_type names n ty targets fits
  formula_type bounds (Bound k) ty fits = get_or_from_slice_get bounds k ty types.Int fits
  formula_type bounds (Apply f arguments) ty fits = fits.2
  formula_type bounds (script.Fold f first elements) ty fits = fits.2.1
  formula_type bounds (script.If test a b) ty fits = formula_type bounds a ty fits.1
  formula_type bounds (script.Join child) ty fits = ap joined_ty (formula_type bounds child (types.Node fits.0) fits.1) ∙ fits.2
  formula_type bounds (script.Bind left body) ty fits =
      ap (λ u. formula_ty (type_at names) (u ∷ bounds) body) (formula_type bounds left fits.0 fits.1)
      ∙ formula_type (fits.0 ∷ bounds) body ty fits.2
  formula_type bounds (script.At time) ty fits = fits
  formula_type bounds (script.Steps first steps) ty fits = fits.0.0
  formula_type bounds script.Now ty fits = fits

-- ---- values

-- a value of the type, whose node is listed, is of it in the graph
pub value_has : (nodes : ℕ → NodeId) (p : Page) (v : Value) (ty : Ty) (listed : List Listed) → value.type_of v ≡ ty
    → Begins listed (with_named nodes p v).listed → ValueHas (IsListedAs listed) (graph_value nodes v) ty
value_has nodes p (value.Int z) ty listed is ids = record { type = is; reference = tt }
value_has nodes p (value.Bool b) ty listed is ids = record { type = is; reference = tt }
value_has nodes p (value.Text bytes) ty listed is ids = record { type = is; reference = tt }
value_has nodes p (Reference target b) ty listed is ids =
    let item : Listed = record { node = nodes target; ty = type_of_base b } in
    let there = among_left item (p.listed ++ item ∷ []) ids.0 (among_last item p.listed) in
    record { type = is; reference = subst (λ xs. Among item xs) (sym ids.1) there }
