-- What tests plan may be planned; what a plan asks for it then waits for, and what was made of that is an answer.
use Rattle.std.proofs.Common.{lit≤, lit<, ◌≡◌, [], Some, refl, sym, ap, ◌∙◌, Bool, subst, zero, suc}
use Rattle.std.specs.Prelude.{slice_get, IsTrue}
use Rattle.inc_value.specs.Sig.{Signature}
use Rattle.inc_value.specs.declared.function.FnKind.TheVariants.{Map, Rhs}
use Rattle.inc_value.specs.declared.function.FnRef.{FnRef}
use Rattle.inc_value.specs.declared.node.NodeId.{NodeId}
use Rattle.inc_value.specs.declared.ty.Ty.{Ty}
use Rattle.inc_value.specs.declared.ty.Ty.TheVariants as ty
use Rattle.inc_terms.specs.Graph.{Def}
use Rattle.script_functions.specs.Bodies as functions
use Rattle.script_model.specs.Check.{Declared, Names}
use Rattle.script_model.specs.Formula.{Formula, Computed, nothing_kept}
use Rattle.formula_lang.specs.Fits.{NameFits, FunctionFits, FormulaFits, BodyFits}
use Rattle.formula_elab.specs.Make as make
use Rattle.formula_elab.specs.Plan.{PlanView, IsNext, IsAnswer}
use Rattle.formula_elab.specs.Types.{AreTypedAsTargets}
use Rattle.formula_elab.specs.declared.make.Made.TheVariants as made
use Rattle.formula_elab.specs.declared.plan.Planned.TheVariants as planned
use Rattle.std_library.specs.FunctionLaws.{known_is_map}
use Rattle.std_library.specs.Functions.{known, reference_of}
use Rattle.std_library.specs.declared.function.Function.TheVariants.{Add, Neg}
use Rattle.language_tests.specs.Planning.{one_declared, one_name, sum_of_both, total_of_three, nested_bind, IsPlannable, AwaitsNode, AwaitsFunction}

-- the declared name fits as one of an Int
name_fits : NameFits one_name 0 ty.Int
name_fits = record { place = 0; declared = _; stands = refl; target = refl; typed = refl; earlier = lit< tt }

-- it is of its own type
one_typed : AreTypedAsTargets one_name
one_typed zero d is =
    let HasTarget : Declared → Type 0 = λ x. (t : Declared) × (slice_get one_name.declared x.target ≡ Some t) × (t.ty ≡ x.ty) in
    let same : one_declared ≡ d = cc is in
    subst HasTarget same (one_declared, refl, refl)
one_typed (suc i) d is = absurd (cc is)

pub targets_typed : {names : Names} → names ≡ one_name → AreTypedAsTargets names
targets_typed e = subst AreTypedAsTargets (sym e) one_typed

-- a function of the library fits
function_fits : (f : FnRef) → IsTrue (known f) → f.id.kind ≡ Map → FunctionFits known f
function_fits f is kind = record { is_known = is; kind = kind; signature = known_is_map f is }

neg_fits : FunctionFits known (reference_of Neg)
neg_fits = function_fits (reference_of Neg) refl refl

add_fits : FunctionFits known (reference_of Add)
add_fits = function_fits (reference_of Add) refl refl

sum_fits : FormulaFits known one_name [] sum_of_both ty.Int
sum_fits = (add_fits, (name_fits, ((neg_fits, ((refl, tt), tt), refl), tt)), refl)

total_plannable : IsPlannable total_of_three
total_plannable = record {
  names = ((tt, ((tt, ((tt, tt), tt)), (tt, tt))), (tt, (lit< tt, ((lit< tt, ((tt, tt), tt)), (lit< tt, tt)))));
  fits = (ty.Int, add_fits, (refl, refl), refl, tt, (name_fits, (sum_fits, (name_fits, tt))));
  few = lit≤ tt;
  few_binds = lit≤ tt;
}

nested_plannable : IsPlannable nested_bind
nested_plannable = record {
  names = ((tt, ((lit< tt, tt), (lit< tt, (lit< tt, tt)))), (lit< tt, ((tt, tt), (tt, (tt, tt)))));
  fits = (ty.Int, name_fits, (ty.Int, (neg_fits, (refl, tt), refl), (add_fits, (refl, (refl, tt)), refl)));
  few = lit≤ tt;
  few_binds = lit≤ tt;
}

pub total_is_plannable : {f : Formula} → f ≡ total_of_three → IsPlannable f
total_is_plannable e = subst IsPlannable (sym e) total_plannable

pub nested_is_plannable : {f : Formula} → f ≡ nested_bind → IsPlannable f
nested_is_plannable e = subst IsPlannable (sym e) nested_plannable

-- what is declared by a formula that may be planned fits
pub body_fits : (names : Names) (f : Formula) → names ≡ one_name → IsPlannable f
    → (known : FnRef → Bool) × (ty : Ty) × BodyFits known names (Computed f nothing_kept) ty
body_fits names f e h = (known, ty.Int, (subst (λ (n : Names). FormulaFits known n [] f ty.Int) (sym e) h.fits, refl))

-- a node that was asked for is waited for
pub awaits_node : (p : PlanView) (def : Def) (type : Ty) → IsTrue p.is_waiting → IsNext p.makes p.made (Some (make.Node def type)) → AwaitsNode p
awaits_node p def type waits (planned.Node x, at, is) = record { node = x; waits = waits; next = at }
awaits_node p def type waits (planned.Body o, at, (b, is, filled)) = absurd (cc is)

-- so is a function
pub awaits_function : (p : PlanView) (b : functions.Body) → IsTrue p.is_waiting → IsNext p.makes p.made (Some (make.Right b)) → AwaitsFunction p b.draft.sig
awaits_function p b waits (planned.Node x, at, is) = absurd (cc is)
awaits_function p b waits (planned.Body o, at, (c, is, filled)) =
    let same : b ≡ c = cc is in
    record { body = o; waits = waits; next = at; typed = ap (λ (x : functions.Body). x.draft.sig) same ∙ filled.sig }

-- what is waited for was asked for
pub node_waits : {p : PlanView} → AwaitsNode p → IsTrue p.is_waiting
node_waits w = w.waits

pub function_waits : {p : PlanView} {types : Signature} → AwaitsFunction p types → IsTrue p.is_waiting
function_waits w = w.waits

-- a node is an answer where one is waited for
pub node_answers : {p : PlanView} → AwaitsNode p → (n : NodeId) → IsAnswer p (made.Node n)
node_answers w n = (planned.Node w.node, w.next, tt)

-- so is a function of right sides where one of its types is
pub function_answers : {p : PlanView} (f : FnRef) → f.id.kind ≡ Rhs → AwaitsFunction p f.sig → IsAnswer p (made.Fn f)
function_answers f kind w = (planned.Body w.body, w.next, (tt, kind, w.typed))
