-- What is allowed fits together.
use Rattle.std.proofs.Common.{◌≡◌, ℕ, zero, suc, ◌+◌, ◌^◌, ◌<◌, ◌≤◌, Bool, true, false, not, ◌||◌, nat_lt, cond, if◌then◌else◌, List, [], ◌∷◌, length, map, Option, None, Some, is_none, is_some, unwrap_or, inl, inr, refl, sym, subst, arith, add-zero}
use Rattle.std.proofs.lemmas.Bool.{ltb-true, ltb-false}
use Rattle.std.proofs.lemmas.Option.{slice_get_within}
use Rattle.std.specs.List.{list_any, slice_get}
use Rattle.std.specs.Str.{bytes_eq}
use Rattle.inc_value.proofs.SameTypes.{ty_true, types_true}
use Rattle.inc_value.specs.Ty.{same_ty, same_types, base_of, type_of_base}
use Rattle.inc_value.specs.declared.function.FnRef.{FnRef}
use Rattle.inc_value.specs.declared.ty.Base.TheVariants as bases
use Rattle.inc_value.specs.declared.ty.Base.{Base}
use Rattle.inc_value.specs.declared.ty.Ty.TheVariants as types
use Rattle.inc_value.specs.declared.ty.Ty.{Ty}
use Rattle.script_model.specs.Check.{Bound, Command, Declare, Assign, Link, Unlink, Stale, Take, Observe, Unobserve, Watch, Advance, Stabilize, Show, Declared, Kind, Expert as AnExpert, Names, Reason, NameTaken, ObserverTaken, NotVariable, NotBind, NotExpert, ObserverUnknown, TimeTooLarge, SpanIsZero, BackInTime, TypedFormula, TypedFormulas, TypedValue, first_named, find_declared, is_among, is_bind, is_variable, kind_of, typed, typed_each, typed_name, typed_as, typed_literal, literal_of_type, where_same, applied, are_all, before, branched, element_of, folded, join_of, steps_of_type, command_of, body_as, expert_of, experts_of, frozen_when, is_expert, link_of, target_of_body, times_of, spans_of, is_top_form, is_empty_interval, is_past, first_that, is_against, line_order}
use Rattle.inc_value.specs.Choice.{and_then}
use Rattle.script_model.specs.Formula as model
use Rattle.script_model.specs.Formula.{Formula, TimedValue, Body, Meanings, nothing_kept}
use Rattle.script_model.specs.Grammar as grammar
use Rattle.script_model.specs.Grammar.{Line, Time, TimedLiteral, Tree, Trees, time_of, Call, If, Bind, Join, Fold, End, More}
use Rattle.script_model.specs.Literals as literals
use Rattle.script_model.specs.Literals.{Literal, Integer, Referred}
use Rattle.script_model.specs.Values.{Value, Reference, type_of}
use Rattle.formula_lang.specs.Fits.{NameFits, ValueFits, FunctionFits, FormulaFits, ArgumentsFit, ElementsFit, StepsFit, FreezeFits, ExpertFits, BodyFits, IsExpertOf, TimeFits, FitsNames}
use Rattle.formula_lang.specs.NamesView.{AreEarlier}
use Rattle.line_parser.specs.TreeView.{line_view}
use Rattle.line_parser.specs.declared.tree.Line as code
use Rattle.line_parser.specs.declared.tree.Line.TheVariants as variant
use Rattle.line_parser.specs.declared.tree.Time.TheVariants as code_time
use Rattle.formula_lang.proofs.Within.{computed_top}
use Rattle.formula_lang.proofs.Table.{none_holds}

-- ---- what tests say

or_false : (b : Bool) → (b || false) ≡ false → b ≡ false
or_false true e = absurd (cc)
or_false false e = refl

both_false : (a b : Bool) → (a || b) ≡ false → (a ≡ false) × (b ≡ false)
both_false true b e = absurd (cc)
both_false false b e = (refl, e)

not_false : (b : Bool) → not b ≡ false → b ≡ true
not_false true e = refl
not_false false e = absurd (cc)

none_found : {A : Type 0} (o : Option A) → is_some o ≡ false → o ≡ None
none_found None e = refl
none_found (Some x) e = absurd (cc)

some_is : {A : Type 0} (x y : A) → Some x ≡ Some y → x ≡ y
some_is x y e = cc

-- ---- times

-- a span from now on that doesn't end beyond the greatest time
not_past : (now : ℕ) (span : Time) → is_past now span ≡ false → now + unwrap_or span 0 < 2 ^ 63
not_past now None e = absurd (cc)
not_past now (Some span) e = ltb-true (now + span) (2 ^ 63) (not_false _ e)

-- a span that isn't too large and isn't empty
not_empty : (span : Time) → is_none span ≡ false → is_empty_interval (grammar.Every span) ≡ false → 0 < unwrap_or span 0
not_empty None large e = absurd (cc)
not_empty (Some zero) large e = absurd (cc)
not_empty (Some (suc n)) large e = omega arith

-- a time that isn't past
not_back : (now time : ℕ) → nat_lt time now ≡ false → now ≤ time
not_back now time e = ltb-false time now e

-- a time that the clock may come to, where a line moves it to one
abbrev pub HasTime : Line → Type 0
HasTime (grammar.AdvanceTo (Some time)) = time < 2 ^ 63
HasTime l = Unit {0}

time_is : (n : ℕ) → HasTime (grammar.AdvanceTo (time_of n))
time_is n = go (nat_lt n (2 ^ 63)) refl
  where
    go : (b : Bool) → nat_lt n (2 ^ 63) ≡ b → HasTime (grammar.AdvanceTo (if b then Some n else None))
    go true small = ltb-true n (2 ^ 63) small
    go false large = tt

-- no line has another
pub line_has_time : (l : code.Line) → HasTime (line_view l)
line_has_time (variant.AdvanceTo (code_time.Nanoseconds n)) = time_is n
line_has_time (variant.AdvanceTo code_time.TooLarge) = tt
line_has_time _ = tt

-- ---- folds

-- what a function takes that folds elements of a type
takes_pair : (f : FnRef) (takes : List Ty) (t : Ty) → element_of f takes ≡ Some t → takes ≡ f.sig.gives ∷ t ∷ []
takes_pair f (a ∷ u ∷ []) t e = go (same_ty a f.sig.gives) refl e
  where
    go : (b : Bool) → same_ty a f.sig.gives ≡ b → cond b (Some u) None ≡ Some t → a ∷ u ∷ [] ≡ f.sig.gives ∷ t ∷ []
    go true is e = let first : a ≡ f.sig.gives = ty_true a f.sig.gives is in let second : u ≡ t = cc in cc
    go false is e = absurd (cc)
takes_pair f takes t e = absurd (cc)

-- ---- names

-- what is found stands in the list
find_stands : (name : List ℕ) (ds : List Declared) (d : Declared) → first_named name ds ≡ Some d → (i : ℕ) × (slice_get ds i ≡ Some d)
find_stands name [] d found = absurd (cc)
find_stands name (x ∷ xs) d found = go (bytes_eq name x.name) found (find_stands name xs d)
  where
    go : (b : Bool) → cond b (Some x) (first_named name xs) ≡ Some d → (first_named name xs ≡ Some d → (i : ℕ) × (slice_get xs i ≡ Some d))
        → (i : ℕ) × (slice_get (x ∷ xs) i ≡ Some d)
    go true is rest = (zero, is)
    go false is rest = let there = rest is in (suc there.0, there.1)

module _ (names : Names) (earlier : AreEarlier names.declared) where
  name_fits : (name : List ℕ) (d : Declared) → find_declared names name ≡ Some d → NameFits names d.target d.ty
  name_fits name d found =
      let there = find_stands name names.declared d found in
      record {
        place = there.0;
        declared = d;
        stands = there.1;
        target = refl;
        typed = refl;
        earlier = omega (arith, earlier there.0 d there.1, slice_get_within names.declared there.0 d there.1);
      }

  -- ---- literals

  base_is : (t : Ty) (b : Base) → base_of t ≡ Some b → t ≡ type_of_base b
  base_is types.Int b e = let same : bases.Int ≡ b = cc in rw (← same) refl
  base_is types.Bool b e = let same : bases.Bool ≡ b = cc in rw (← same) refl
  base_is types.Text b e = let same : bases.Text ≡ b = cc in rw (← same) refl
  base_is (types.Node c) b e = absurd (cc)

  referred_fits : (name : List ℕ) (found : Option Declared) (v : TypedValue) → find_declared names name ≡ found
      → and_then found (λ d. and_then (base_of d.ty) (λ b. Some (record { value = Reference d.target b; ty = types.Node b }))) ≡ Some v
      → ValueFits names v.value v.ty
  referred_fits name None v is e = absurd (cc)
  referred_fits name (Some d) v is e = go (base_of d.ty) (λ b at. base_is d.ty b at) e
    where
      go : (o : Option Base) → ((b : Base) → o ≡ Some b → d.ty ≡ type_of_base b)
          → and_then o (λ b. Some (record { value = Reference d.target b; ty = types.Node b })) ≡ Some v → ValueFits names v.value v.ty
      go None same e = absurd (cc)
      go (Some b) same e =
          subst (λ (x : TypedValue). ValueFits names x.value x.ty) (some_is _ v e)
          (refl, subst (λ t. NameFits names d.target t) (same b refl) (name_fits name d is))

  typed_value_fits : (literal : Literal) (v : TypedValue) → typed_literal names literal ≡ Some v → ValueFits names v.value v.ty
  typed_value_fits (Integer z) v e = subst (λ (x : TypedValue). ValueFits names x.value x.ty) (some_is _ v e) (refl, tt)
  typed_value_fits (literals.Bool b) v e = subst (λ (x : TypedValue). ValueFits names x.value x.ty) (some_is _ v e) (refl, tt)
  typed_value_fits (literals.Text content) v e = subst (λ (x : TypedValue). ValueFits names x.value x.ty) (some_is _ v e) (refl, tt)
  typed_value_fits (Referred name) v e = referred_fits name (find_declared names name) v refl e

  literal_fits : (t : Ty) (literal : Literal) (v : Value) → literal_of_type names t literal ≡ Some v → ValueFits names v t
  literal_fits t literal v e = go (typed_literal names literal) (λ x is. typed_value_fits literal x is) e
    where
      same : (x : TypedValue) (b : Bool) → same_ty x.ty t ≡ b → ValueFits names x.value x.ty → cond b (Some x.value) None ≡ Some v → ValueFits names v t
      same x true is fits e =
          let value : x.value ≡ v = some_is x.value v e in
          let of_type : x.ty ≡ t = ty_true x.ty t is in
          subst (λ w. ValueFits names w t) value (subst (λ u. ValueFits names x.value u) of_type fits)
      same x false is fits e = absurd (cc)

      go : (o : Option TypedValue) → ((x : TypedValue) → o ≡ Some x → ValueFits names x.value x.ty)
          → and_then o (λ x. where_same x.ty t (Some x.value)) ≡ Some v → ValueFits names v t
      go None fits e = absurd (cc)
      go (Some x) fits e = same x (same_ty x.ty t) refl (fits x refl) e

  steps_fit : (t : Ty) (steps : List TimedLiteral) (found : List TimedValue) → steps_of_type names t steps ≡ Some found → StepsFit names found t
  steps_fit t [] found e = subst (λ ss. StepsFit names ss t) (some_is [] found e) tt
  steps_fit t (step ∷ steps) found e =
      go (literal_of_type names t step.literal) (λ v is. literal_fits t step.literal v is) (λ ss is. steps_fit t steps ss is) e
    where
      more : (v : Value) (rest : Option (List TimedValue)) → ValueFits names v t → ((ss : List TimedValue) → rest ≡ Some ss → StepsFit names ss t)
          → and_then rest (λ ss. Some (record { time = unwrap_or step.time 0; value = v } ∷ ss)) ≡ Some found → StepsFit names found t
      more v None fits all e = absurd (cc)
      more v (Some ss) fits all e = subst (λ xs. StepsFit names xs t) (some_is _ found e) (fits, all ss refl)

      go : (o : Option Value) → ((v : Value) → o ≡ Some v → ValueFits names v t)
          → ((ss : List TimedValue) → steps_of_type names t steps ≡ Some ss → StepsFit names ss t)
          → and_then o (λ v. and_then (steps_of_type names t steps) (λ ss. Some (record { time = unwrap_or step.time 0; value = v } ∷ ss))) ≡ Some found
          → StepsFit names found t
      go None fits all e = absurd (cc)
      go (Some v) fits all e = more v (steps_of_type names t steps) (fits v refl) all e

-- ---- formulas

module _ (F : Meanings) (known : FnRef → Bool) (names : Names) (earlier : AreEarlier names.declared)
    (maps : (name : List ℕ) (f : FnRef) → F.named name ≡ Some f → FunctionFits known f) where
  -- within binds whose variables have these types
  module _ (bounds : List Ty) where
    abbrev Fits : TypedFormula → Type 0
    Fits t = FormulaFits known names bounds t.formula t.ty

    abbrev AllFit : TypedFormulas → Type 0
    AllFit ts = ArgumentsFit known names bounds ts.formulas ts.tys

    applied_fits : (f : FnRef) (ts : TypedFormulas) (t : TypedFormula) → FunctionFits known f → AllFit ts → applied f ts ≡ Some t → Fits t
    applied_fits f ts t function all is = go (same_types f.sig.takes ts.tys) refl is
      where
        go : (b : Bool) → same_types f.sig.takes ts.tys ≡ b → cond b (typed_as (model.Apply f ts.formulas) f.sig.gives) None ≡ Some t → Fits t
        go true same e =
            let takes : ts.tys ≡ f.sig.takes = sym (types_true f.sig.takes ts.tys same) in
            let whole = some_is _ t e in
            subst Fits whole (function, subst (λ tys. ArgumentsFit known names bounds ts.formulas tys) takes all, refl)
        go false same e = absurd (cc)

    written_fits : (literal : Literal) (o : Option TypedValue) (t : TypedFormula)
        → ((x : TypedValue) → o ≡ Some x → ValueFits names x.value x.ty)
        → and_then o (λ v. typed_as (model.Literal v.value) v.ty) ≡ Some t → Fits t
    written_fits literal None t fits e = absurd (cc)
    written_fits literal (Some x) t fits e = subst Fits (some_is _ t e) (fits x refl)

    mentioned_fits : (name : List ℕ) (found : Option Declared) (t : TypedFormula) → find_declared names name ≡ found
        → and_then found (λ d. typed_as (model.Name d.target) d.ty) ≡ Some t → Fits t
    mentioned_fits name None t is e = absurd (cc)
    mentioned_fits name (Some d) t is e = subst Fits (some_is _ t e) (name_fits names earlier name d is)

    call_fits : (name : List ℕ) (found : Option FnRef) (each : Option TypedFormulas) (t : TypedFormula) → F.named name ≡ found
        → ((ts : TypedFormulas) → each ≡ Some ts → AllFit ts) → and_then found (λ f. and_then each (λ ts. applied f ts)) ≡ Some t → Fits t
    call_fits name None each t is all e = absurd (cc)
    call_fits name (Some f) None t is all e = absurd (cc)
    call_fits name (Some f) (Some ts) t is all e = applied_fits f ts t (maps name f is) (all ts refl) e

    -- where all types are one, each argument fits as an element
    all_elements : (t : Ty) (fs : model.Formulas) (tys : List Ty) → are_all t tys ≡ true → ArgumentsFit known names bounds fs tys
        → ElementsFit known names bounds fs t
    all_elements t model.End tys same all = tt
    all_elements t (model.More f fs) [] same all = absurd all
    all_elements t (model.More f fs) (u ∷ tys) same all = go (same_ty t u) refl same (λ rest. all_elements t fs tys rest all.1)
      where
        go : (b : Bool) → same_ty t u ≡ b → not (not b || list_any (λ u. not (same_ty t u)) tys) ≡ true
            → (are_all t tys ≡ true → ElementsFit known names bounds fs t) → ElementsFit known names bounds (model.More f fs) t
        go true is same others = (subst (λ v. FormulaFits known names bounds f v) (sym (ty_true t u is)) all.0, others same)
        go false is same others = absurd (cc)

    folded_fits : (f : FnRef) (first : Literal) (ts : TypedFormulas) (t : TypedFormula) → FunctionFits known f → AllFit ts
        → folded names f first ts ≡ Some t → Fits t
    folded_fits f first ts t function all is = over (element_of f f.sig.takes) refl is
      where
        over : (element : Option Ty) → element_of f f.sig.takes ≡ element
            → and_then element (λ u. and_then (literal_of_type names f.sig.gives first) (λ v.
            cond (are_all u ts.tys) (typed_as (model.Fold f v ts.formulas) f.sig.gives) None)) ≡ Some t → Fits t
        over None at e = absurd (cc)
        over (Some u) at e = from (literal_of_type names f.sig.gives first) (λ v is. (literal_fits names earlier f.sig.gives first v is).0) e
          where
            from : (o : Option Value) → ((v : Value) → o ≡ Some v → type_of v ≡ f.sig.gives)
                → and_then o (λ v. cond (are_all u ts.tys) (typed_as (model.Fold f v ts.formulas) f.sig.gives) None) ≡ Some t → Fits t
            from None fits e = absurd (cc)
            from (Some v) fits e = each (are_all u ts.tys) refl e
              where
                each : (b : Bool) → are_all u ts.tys ≡ b → cond b (typed_as (model.Fold f v ts.formulas) f.sig.gives) None ≡ Some t → Fits t
                each true same e =
                    let elements = all_elements u ts.formulas ts.tys same all in
                    subst Fits (some_is _ t e) (u, function, (takes_pair f f.sig.takes u at, refl), fits v refl, function.signature.2, elements)
                each false same e = absurd (cc)

    fold_fits : (name : List ℕ) (first : Literal) (found : Option FnRef) (each : Option TypedFormulas) (t : TypedFormula)
        → F.named name ≡ found → ((ts : TypedFormulas) → each ≡ Some ts → AllFit ts)
        → and_then found (λ f. and_then each (λ ts. folded names f first ts)) ≡ Some t → Fits t
    fold_fits name first None each t is all e = absurd (cc)
    fold_fits name first (Some f) None t is all e = absurd (cc)
    fold_fits name first (Some f) (Some ts) t is all e = folded_fits f first ts t (maps name f is) (all ts refl) e

    branched_fits : (x a b : TypedFormula) (t : TypedFormula) → Fits x → Fits a → Fits b → branched x a b ≡ Some t → Fits t
    branched_fits x a b t fits first second is = go (same_ty x.ty types.Bool) (same_ty a.ty b.ty) refl refl is
      where
        whole : Option TypedFormula
        whole = typed_as (model.If x.formula a.formula b.formula) a.ty

        go : (p q : Bool) → same_ty x.ty types.Bool ≡ p → same_ty a.ty b.ty ≡ q → cond p (cond q whole None) None ≡ Some t → Fits t
        go true true test same e =
            let truth : FormulaFits known names bounds x.formula types.Bool = subst (λ u. FormulaFits known names bounds x.formula u) (ty_true x.ty types.Bool test) fits in
            let other : FormulaFits known names bounds b.formula a.ty = subst (λ u. FormulaFits known names bounds b.formula u) (sym (ty_true a.ty b.ty same)) second in
            subst Fits (some_is _ t e) (truth, first, other)
        go true false test same e = absurd (cc)
        go false q test same e = absurd (cc)

    if_fits : (x a b : Option TypedFormula) (t : TypedFormula) → ((u : TypedFormula) → x ≡ Some u → Fits u)
        → ((u : TypedFormula) → a ≡ Some u → Fits u) → ((u : TypedFormula) → b ≡ Some u → Fits u)
        → and_then x (λ x. and_then a (λ a. and_then b (λ b. branched x a b))) ≡ Some t → Fits t
    if_fits None a b t test first second e = absurd (cc)
    if_fits (Some x) None b t test first second e = absurd (cc)
    if_fits (Some x) (Some a) None t test first second e = absurd (cc)
    if_fits (Some x) (Some a) (Some b) t test first second e = branched_fits x a b t (test x refl) (first a refl) (second b refl) e

    joined_fits : (f : Formula) (u : Ty) (t : TypedFormula) → FormulaFits known names bounds f u → join_of (record { formula = f; ty = u }) u ≡ Some t → Fits t
    joined_fits f (types.Node b) t fits e = subst Fits (some_is _ t e) (b, fits, refl)
    joined_fits f u t fits e = absurd (cc)

    join_fits : (o : Option TypedFormula) (t : TypedFormula) → ((u : TypedFormula) → o ≡ Some u → Fits u)
        → and_then o (λ c. join_of c c.ty) ≡ Some t → Fits t
    join_fits None t fits e = absurd (cc)
    join_fits (Some c) t fits e = joined_fits c.formula c.ty t (fits c refl) e

    -- a bind, where the body fits for whatever type the left has
    bind_fits : (left : Option TypedFormula) (body : TypedFormula → Option TypedFormula) (t : TypedFormula)
        → ((l : TypedFormula) → left ≡ Some l → Fits l)
        → ((l b : TypedFormula) → body l ≡ Some b → FormulaFits known names (l.ty ∷ bounds) b.formula b.ty)
        → and_then left (λ l. and_then (body l) (λ b. typed_as (model.Bind l.formula b.formula) b.ty)) ≡ Some t → Fits t
    bind_fits None body t first second e = absurd (cc)
    bind_fits (Some l) body t first second e = go (body l) (λ b is. second l b is) e
      where
        go : (o : Option TypedFormula) → ((b : TypedFormula) → o ≡ Some b → FormulaFits known names (l.ty ∷ bounds) b.formula b.ty)
            → and_then o (λ b. typed_as (model.Bind l.formula b.formula) b.ty) ≡ Some t → Fits t
        go None within e = absurd (cc)
        go (Some b) within e = subst Fits (some_is _ t e) (l.ty, first l refl, within b refl)

    -- steps, where their values fit for whatever type the first has
    stepped_fits : (first : Option TypedValue) (rest : Ty → Option (List TimedValue)) (t : TypedFormula)
        → ((x : TypedValue) → first ≡ Some x → ValueFits names x.value x.ty)
        → ((u : Ty) (ss : List TimedValue) → rest u ≡ Some ss → StepsFit names ss u)
        → and_then first (λ v. and_then (rest v.ty) (λ ss. typed_as (model.Steps v.value ss) v.ty)) ≡ Some t → Fits t
    stepped_fits None rest t one others e = absurd (cc)
    stepped_fits (Some x) rest t one others e = go (rest x.ty) (λ ss is. others x.ty ss is) e
      where
        go : (o : Option (List TimedValue)) → ((ss : List TimedValue) → o ≡ Some ss → StepsFit names ss x.ty)
            → and_then o (λ ss. typed_as (model.Steps x.value ss) x.ty) ≡ Some t → Fits t
        go None all e = absurd (cc)
        go (Some ss) all e = subst Fits (some_is _ t e) (one x refl, all ss refl)

    more_fit : (first : Option TypedFormula) (rest : Option TypedFormulas) (ts : TypedFormulas) → ((t : TypedFormula) → first ≡ Some t → Fits t)
        → ((us : TypedFormulas) → rest ≡ Some us → AllFit us) → and_then first (λ t. and_then rest (λ us. Some (before t us))) ≡ Some ts → AllFit ts
    more_fit None rest ts one others e = absurd (cc)
    more_fit (Some t) None ts one others e = absurd (cc)
    more_fit (Some t) (Some us) ts one others e = subst AllFit (some_is (before t us) ts e) (one t refl, others us refl)

  -- the types of variables
  abbrev tys_of : List Bound → List Ty
  tys_of bounds = map (λ (b : Bound). b.ty) bounds

  -- a name, where the rest are the variables from the k-th on
  named_fits : (bounds : List Bound) (name : List ℕ) (k : ℕ) (rest : List Bound) (t : TypedFormula)
      → ((i : ℕ) → slice_get (tys_of bounds) (k + i) ≡ slice_get (tys_of rest) i)
      → typed_name names name k rest ≡ Some t → Fits (tys_of bounds) t
  named_fits bounds name k [] t same e = mentioned_fits (tys_of bounds) name (find_declared names name) t refl e
  named_fits bounds name k (b ∷ rest) t same e = go (bytes_eq name b.name) (named_fits bounds name (k + 1) rest t further) e
    where
      here : slice_get (tys_of bounds) k ≡ Some b.ty
      here = rw add-zero at (same 0)

      further : (i : ℕ) → slice_get (tys_of bounds) (k + 1 + i) ≡ slice_get (tys_of rest) i
      further i = let e : k + 1 + i ≡ k + suc i = omega arith in rw e (same (suc i))

      go : (x : Bool) → (typed_name names name (k + 1) rest ≡ Some t → Fits (tys_of bounds) t)
          → cond x (typed_as (model.Bound k) b.ty) (typed_name names name (k + 1) rest) ≡ Some t → Fits (tys_of bounds) t
      go true later is = subst (Fits (tys_of bounds)) (some_is _ t is) here
      go false later is = later is

  from_zero : (tys : List Ty) (i : ℕ) → slice_get tys (0 + i) ≡ slice_get tys i
  from_zero tys i = let e : 0 + i ≡ i = omega arith in rw e refl

  mutual
    typed_fits : (bounds : List Bound) (tree : Tree) → (t : TypedFormula) → typed F names bounds tree ≡ Some t
        → Fits (tys_of bounds) t
    typed_fits bounds (grammar.Literal literal) t e =
        written_fits (tys_of bounds) literal (typed_literal names literal) t (λ x is. typed_value_fits names earlier literal x is) e
    typed_fits bounds (grammar.Name name) t e = named_fits bounds name 0 bounds t (λ i. from_zero (tys_of bounds) i) e
    typed_fits bounds (Call function arguments) t e =
        call_fits (tys_of bounds) function (F.named function) (typed_each F names bounds arguments) t refl (typed_each_fit bounds arguments) e
    typed_fits bounds (If test a b) t e =
        if_fits (tys_of bounds) (typed F names bounds test) (typed F names bounds a) (typed F names bounds b) t
        (typed_fits bounds test) (typed_fits bounds a) (typed_fits bounds b) e
    typed_fits bounds (Bind variable left body) t e =
        bind_fits (tys_of bounds) (typed F names bounds left) (λ l. typed F names (record { name = variable; ty = l.ty } ∷ bounds) body) t
        (typed_fits bounds left) (λ l b is. typed_fits (record { name = variable; ty = l.ty } ∷ bounds) body b is) e
    typed_fits bounds (Join child) t e = join_fits (tys_of bounds) (typed F names bounds child) t (typed_fits bounds child) e
    typed_fits bounds (Fold function first elements) t e =
        fold_fits (tys_of bounds) function first (F.named function) (typed_each F names bounds elements) t refl
        (typed_each_fit bounds elements) e
    typed_fits bounds (grammar.At time) t e = subst (Fits (tys_of bounds)) (some_is _ t e) refl
    typed_fits bounds grammar.Now t e = subst (Fits (tys_of bounds)) (some_is _ t e) refl
    typed_fits bounds (grammar.Steps first steps) t e =
        stepped_fits (tys_of bounds) (typed_literal names first) (λ u. steps_of_type names u steps) t
        (λ x is. typed_value_fits names earlier first x is) (λ u ss is. steps_fit names earlier u steps ss is) e
    typed_fits bounds _ t e = absurd (cc)

    typed_each_fit : (bounds : List Bound) (trees : Trees) → (ts : TypedFormulas)
        → typed_each F names bounds trees ≡ Some ts → AllFit (tys_of bounds) ts
    typed_each_fit bounds End ts e = subst (AllFit (tys_of bounds)) (some_is _ ts e) tt
    typed_each_fit bounds (More first rest) ts e =
        more_fit (tys_of bounds) (typed F names bounds first) (typed_each F names bounds rest) ts (typed_fits bounds first)
        (typed_each_fit bounds rest) e

  -- ---- commands

  abbrev Stands : Line → Reason → Bool
  Stands l = is_against F names l

  target_fits : (formula : Formula) (t : Ty) → FormulaFits known names [] formula t
      → target_of_body (length names.declared) (model.Computed formula nothing_kept) ≤ length names.declared
  target_fits (model.Literal v) t h = omega arith
  target_fits (model.Name n) t h = omega (arith, h.earlier)
  target_fits (model.Apply f arguments) t h = omega arith
  target_fits (model.Fold f first elements) t h = omega arith
  target_fits (model.If test a b) t h = omega arith
  target_fits (model.Join child) t h = omega arith
  target_fits (model.Bound k) t h = omega arith
  target_fits (model.Bind left body) t h = omega arith
  target_fits (model.At time) t h = omega arith
  target_fits (model.Steps first steps) t h = omega arith
  target_fits model.Now t h = omega arith

  fresh : (name : List ℕ) → (is_some (find_declared names name) || false) ≡ false → first_named name names.declared ≡ None
  fresh name e = none_found (first_named name names.declared) (or_false (is_some (find_declared names name)) e)

  var_fits : (name : List ℕ) (t : Ty) (first : Literal) (o : Option Value) (c : Command) → first_named name names.declared ≡ None
      → ((v : Value) → o ≡ Some v → ValueFits names v t) → and_then o (λ v. Some (Declare name t (model.Variable v))) ≡ Some c
      → FitsNames known names c
  var_fits name t first None c none fits e = absurd (cc)
  var_fits name t first (Some v) c none fits e =
      subst (FitsNames known names) (some_is (Declare name t (model.Variable v)) c e)
      (record { fresh = none; body_fits = fits v refl; earlier = omega arith })

  set_fits : (name : List ℕ) (literal : Literal) (found : Option Declared) (c : Command) → find_declared names name ≡ found
      → is_variable (and_then found (λ d. and_then (slice_get names.declared d.target) (λ t. Some t.kind))) ≡ true
      → and_then found (λ d. and_then (literal_of_type names d.ty literal) (λ v. Some (Assign d.target v))) ≡ Some c → FitsNames known names c
  set_fits name literal None c is variable e = absurd (cc)
  set_fits name literal (Some d) c is variable e =
      go (literal_of_type names d.ty literal) (λ v at. literal_fits names earlier d.ty literal v at) e
    where
      go : (o : Option Value) → ((v : Value) → o ≡ Some v → ValueFits names v d.ty)
          → and_then o (λ v. Some (Assign d.target v)) ≡ Some c → FitsNames known names c
      go None fits e = absurd (cc)
      go (Some v) fits e =
          let of_type : d.ty ≡ type_of v = sym (fits v refl).0 in
          subst (FitsNames known names) (some_is (Assign d.target v) c e) (record {
            name = subst (λ t. NameFits names d.target t) of_type (name_fits names earlier name d is);
            refers = (fits v refl).1;
            variable = variable;
          })

  -- what reads the clock
  timed_fits : (name : List ℕ) (t : Ty) (body : Body) (c : Command) → first_named name names.declared ≡ None → BodyFits known names body t
      → target_of_body (length names.declared) body ≤ length names.declared → Some (Declare name t body) ≡ Some c → FitsNames known names c
  timed_fits name t body c none fits within e =
      subst (FitsNames known names) (some_is (Declare name t body) c e) (record { fresh = none; body_fits = fits; earlier = within })

  let_fits : (name : List ℕ) (tree : Tree) (result : Option TypedFormula) (c : Command) → first_named name names.declared ≡ None
      → ((t : TypedFormula) → result ≡ Some t → Fits [] t)
      → and_then (and_then result (λ t. body_as (model.Computed t.formula nothing_kept) t.ty)) (λ t. Some (Declare name t.ty t.body)) ≡ Some c
      → FitsNames known names c
  let_fits name tree None c none all e = absurd (cc)
  let_fits name tree (Some t) c none all e =
      subst (FitsNames known names) (some_is (Declare name t.ty (model.Computed t.formula nothing_kept)) c e)
      (record { fresh = none; body_fits = (all t refl, refl); earlier = target_fits t.formula t.ty (all t refl) })

  grab_fits : (name bind : List ℕ) (found : Option Declared) (c : Command) → first_named name names.declared ≡ None
      → find_declared names bind ≡ found
      → is_bind (and_then found (λ d. and_then (slice_get names.declared d.target) (λ t. Some t.kind))) ≡ true
      → and_then found (λ b. Some (Take name b.ty b.target)) ≡ Some c → FitsNames known names c
  grab_fits name bind None c none is kind e = absurd (cc)
  grab_fits name bind (Some d) c none is kind e =
      subst (FitsNames known names) (some_is (Take name d.ty d.target) c e)
      (record { fresh = none; bind_fits = name_fits names earlier bind d is; is_bind = kind })

  observe_fits : (observer name : List ℕ) (found : Option Declared) (c : Command) → find_declared names name ≡ found
      → is_among names.observers observer ≡ false
      → and_then found (λ d. Some (Observe observer d.target)) ≡ Some c → FitsNames known names c
  observe_fits observer name None c is unused e = absurd (cc)
  observe_fits observer name (Some d) c is unused e =
      subst (FitsNames known names) (some_is (Observe observer d.target) c e)
      (record { fresh = unused; earlier = (name_fits names earlier name d is).earlier })

  -- where a line isn't refused for its times
  times_fit : (l : Line) → first_that (Stands l) line_order ≡ None → (list_any is_none (times_of l) ≡ false) × (list_any (is_past names.now) (spans_of l) ≡ false)
  times_fit l none =
      both_false (list_any is_none (times_of l)) (list_any (is_past names.now) (spans_of l))
      (none_holds (Stands l) line_order TimeTooLarge none (inr (inr (inr (inr (inr (inr (inr (inr (inr (inr (inl refl))))))))))))

  -- a formula that may stand within others
  computed_fits : (name : List ℕ) (tree : Tree) (c : Command) → is_top_form tree ≡ false → first_named name names.declared ≡ None
      → command_of F names (grammar.Let name tree) ≡ Some c → FitsNames known names c
  computed_fits name tree c inner free e =
      let top = computed_top F names tree inner in
      let allowed : and_then (and_then (typed F names [] tree) (λ t. body_as (model.Computed t.formula nothing_kept) t.ty))
      (λ t. Some (Declare name t.ty t.body)) ≡ Some c = rw (← top) e in
      let_fits name tree (typed F names [] tree) c free (typed_fits [] tree) allowed

  -- a freeze of a formula
  freeze_fits : (name : List ℕ) (child : Option TypedFormula) (found : Option FnRef) (c : Command) → first_named name names.declared ≡ None
      → ((t : TypedFormula) → child ≡ Some t → Fits [] t) → ((f : FnRef) → found ≡ Some f → FunctionFits known f)
      → and_then (and_then child (λ t. and_then found (λ f. frozen_when t f))) (λ t. Some (Declare name t.ty t.body)) ≡ Some c
      → FitsNames known names c
  freeze_fits name None found c none fits is_map e = absurd (cc)
  freeze_fits name (Some t) None c none fits is_map e = absurd (cc)
  freeze_fits name (Some t) (Some f) c none fits is_map e = go (same_types f.sig.takes (t.ty ∷ [])) (same_ty f.sig.gives types.Bool) refl refl e
    where
      go : (p q : Bool) → same_types f.sig.takes (t.ty ∷ []) ≡ p → same_ty f.sig.gives types.Bool ≡ q
          → and_then (cond p (cond q (body_as (model.Freeze t.formula f None) t.ty) None) None) (λ t. Some (Declare name t.ty t.body)) ≡ Some c
          → FitsNames known names c
      go true true takes gives e =
          let freeze : FreezeFits known names t.formula f t.ty = record {
            child_fits = fits t refl;
            predicate_fits = is_map f refl;
            takes = types_true f.sig.takes (t.ty ∷ []) takes;
            gives = ty_true f.sig.gives types.Bool gives;
          } in
          subst (FitsNames known names) (some_is (Declare name t.ty (model.Freeze t.formula f None)) c e)
          (record { fresh = none; body_fits = (freeze, refl); earlier = omega arith })
      go true false takes gives e = absurd (cc)
      go false q takes gives e = absurd (cc)

  -- ---- experts

  expert_fits : (name : List ℕ) (first : Literal) (found : Option FnRef) (c : Command) → first_named name names.declared ≡ None
      → ((f : FnRef) → found ≡ Some f → FunctionFits known f)
      → and_then found (λ f. and_then (expert_of names first f) (λ t. Some (Declare name t.ty t.body))) ≡ Some c → FitsNames known names c
  expert_fits name first None c none is_map e = absurd (cc)
  expert_fits name first (Some f) c none is_map e = over (element_of f f.sig.takes) refl e
    where
      from : (u : Ty) → element_of f f.sig.takes ≡ Some u → (o : Option Value) → ((v : Value) → o ≡ Some v → ValueFits names v f.sig.gives)
          → and_then (and_then o (λ v. body_as (model.Expert f v [] 0) f.sig.gives)) (λ t. Some (Declare name t.ty t.body)) ≡ Some c
          → FitsNames known names c
      from u at None fits e = absurd (cc)
      from u at (Some v) fits e =
          let expert : ExpertFits known names f v f.sig.gives = record {
            element = u;
            function_fits = is_map f refl;
            folds = (takes_pair f f.sig.takes u at, refl);
            first_fits = fits v refl;
          } in
          subst (FitsNames known names) (some_is (Declare name f.sig.gives (model.Expert f v [] 0)) c e)
          (record { fresh = none; body_fits = (expert, refl, refl); earlier = omega arith })

      over : (element : Option Ty) → element_of f f.sig.takes ≡ element
          → and_then (and_then element (λ u. and_then (literal_of_type names f.sig.gives first) (λ v. body_as (model.Expert f v [] 0) f.sig.gives)))
          (λ t. Some (Declare name t.ty t.body)) ≡ Some c → FitsNames known names c
      over None at e = absurd (cc)
      over (Some u) at e = from u at (literal_of_type names f.sig.gives first) (λ v is. literal_fits names earlier f.sig.gives first v is) e

  -- how what a name stands for was declared
  abbrev kind_at : Option Declared → Option Kind
  kind_at found = and_then found (λ d. and_then (slice_get names.declared d.target) (λ t. Some t.kind))

  expert_kind : (k : Option Kind) → is_expert k ≡ true → (t : Ty) × (k ≡ Some (AnExpert t))
  expert_kind (Some (AnExpert t)) e = (t, refl)
  expert_kind k e = absurd (cc)

  expert_is : (name : List ℕ) (x : Declared) → find_declared names name ≡ Some x → (t : Ty) → kind_at (Some x) ≡ Some (AnExpert t)
      → IsExpertOf names x.target t
  expert_is name x found t at = record { ty = x.ty; name = name_fits names earlier name x found; kind = at }

  link_fits : (on name : List ℕ) (expert found : Option Declared) (c : Command) → find_declared names on ≡ expert → find_declared names name ≡ found
      → and_then expert (λ x. and_then found (λ d. link_of (kind_at expert) x.target d)) ≡ Some c → FitsNames known names c
  link_fits on name None found c there is e = absurd (cc)
  link_fits on name (Some x) None c there is e = absurd (cc)
  link_fits on name (Some x) (Some d) c there is e = go (kind_at (Some x)) refl e
    where
      same : (t : Ty) → kind_at (Some x) ≡ Some (AnExpert t) → (b : Bool) → same_ty d.ty t ≡ b → cond b (Some (Link x.target d.target)) None ≡ Some c
          → FitsNames known names c
      same t at true fits e =
          let linked = subst (λ u. NameFits names d.target u) (ty_true d.ty t fits) (name_fits names earlier name d is) in
          subst (FitsNames known names) (some_is (Link x.target d.target) c e)
          (record { element = t; is_expert = expert_is on x there t at; linked = linked })
      same t at false fits e = absurd (cc)

      go : (k : Option Kind) → kind_at (Some x) ≡ k → link_of k x.target d ≡ Some c → FitsNames known names c
      go (Some (AnExpert t)) at e = same t at (same_ty d.ty t) refl e
      go k at e = absurd (cc)

  unlink_fits : (on name : List ℕ) (expert found : Option Declared) (c : Command) → find_declared names on ≡ expert → find_declared names name ≡ found
      → is_expert (kind_at expert) ≡ true
      → and_then expert (λ x. and_then found (λ d. Some (Unlink x.target d.target))) ≡ Some c → FitsNames known names c
  unlink_fits on name None found c there is kind e = absurd (cc)
  unlink_fits on name (Some x) None c there is kind e = absurd (cc)
  unlink_fits on name (Some x) (Some d) c there is kind e =
      let at = expert_kind (kind_at (Some x)) kind in
      subst (FitsNames known names) (some_is (Unlink x.target d.target) c e)
      (record { element = at.0; is_expert = expert_is on x there at.0 at.1; ty = d.ty; linked = name_fits names earlier name d is })

  stale_fits : (on : List ℕ) (expert : Option Declared) (c : Command) → find_declared names on ≡ expert → is_expert (kind_at expert) ≡ true
      → and_then expert (λ x. Some (Stale x.target)) ≡ Some c → FitsNames known names c
  stale_fits on None c there kind e = absurd (cc)
  stale_fits on (Some x) c there kind e =
      let at = expert_kind (kind_at (Some x)) kind in
      subst (FitsNames known names) (some_is (Stale x.target) c e) (at.0, expert_is on x there at.0 at.1)

  -- what a line asks of an expert, where it isn't refused
  is_that_expert : (l : Line) (name : List ℕ) → experts_of l ≡ name ∷ [] → first_that (Stands l) line_order ≡ None
      → is_expert (kind_of names name) ≡ true
  is_that_expert l name one none =
      let other = none_holds (Stands l) line_order NotExpert none (inr (inr (inr (inr (inr (inr (inr (inr (inl refl))))))))) in
      let that : (not (is_expert (kind_of names name)) || false) ≡ false = rw one at other in
      not_false (is_expert (kind_of names name)) (or_false (not (is_expert (kind_of names name))) that)

  formula_fits : (name : List ℕ) (tree : Tree) (c : Command) → first_named name names.declared ≡ None
      → first_that (Stands (grammar.Let name tree)) line_order ≡ None → command_of F names (grammar.Let name tree) ≡ Some c → FitsNames known names c
  formula_fits name (grammar.After span) c free none e =
      let fit = times_fit (grammar.Let name (grammar.After span)) none in
      timed_fits name types.Bool (model.After (names.now + unwrap_or span 0)) c free
      (refl, not_past names.now span (or_false (is_past names.now span) fit.1)) (omega arith) e
  formula_fits name (grammar.Every span) c free none e =
      let fit = times_fit (grammar.Let name (grammar.Every span)) none in
      let some = none_holds (Stands (grammar.Let name (grammar.Every span))) line_order SpanIsZero none
      (inr (inr (inr (inr (inr (inr (inr (inr (inr (inr (inr (inr (inl refl))))))))))))) in
      timed_fits name types.Int (model.Every names.now (unwrap_or span 0)) c free
      (refl, refl, not_empty span (or_false (is_none span) fit.0) (or_false (is_empty_interval (grammar.Every span)) some)) (omega arith) e
  formula_fits name (grammar.Freeze child predicate) c free none e =
      freeze_fits name (typed F names [] child) (F.named predicate) c free (typed_fits [] child) (λ f is. maps predicate f is) e
  formula_fits name (grammar.Literal l) c free none e = computed_fits name (grammar.Literal l) c refl free e
  formula_fits name (grammar.Name n) c free none e = computed_fits name (grammar.Name n) c refl free e
  formula_fits name (Call f arguments) c free none e = computed_fits name (Call f arguments) c refl free e
  formula_fits name (If test a b) c free none e = computed_fits name (If test a b) c refl free e
  formula_fits name (Bind v left body) c free none e = computed_fits name (Bind v left body) c refl free e
  formula_fits name (Join child) c free none e = computed_fits name (Join child) c refl free e
  formula_fits name (Fold f first elements) c free none e = computed_fits name (Fold f first elements) c refl free e
  formula_fits name (grammar.At time) c free none e = computed_fits name (grammar.At time) c refl free e
  formula_fits name grammar.Now c free none e = computed_fits name grammar.Now c refl free e
  formula_fits name (grammar.Steps first steps) c free none e = computed_fits name (grammar.Steps first steps) c refl free e

  -- the clock is moved on to a time that it may come to
  advance_fits : (time : ℕ) (c : Command) → TimeFits names time → Some (Advance time) ≡ Some c → FitsNames known names c
  advance_fits time c fits e = subst (FitsNames known names) (some_is (Advance time) c e) fits

  advance_to_fits : (time : Time) (c : Command) → HasTime (grammar.AdvanceTo time) → is_none time ≡ false
      → nat_lt (unwrap_or time 0) names.now ≡ false → Some (Advance (unwrap_or time 0)) ≡ Some c → FitsNames known names c
  advance_to_fits None c has large back e = absurd (cc)
  advance_to_fits (Some time) c has large back e = advance_fits time c (not_back names.now time back, has) e

  pub check_fits : (l : Line) (c : Command) → HasTime l → first_that (Stands l) line_order ≡ None → command_of F names l ≡ Some c
      → FitsNames known names c
  check_fits (grammar.Var name t first) c has none e =
      let taken = none_holds (Stands (grammar.Var name t first)) line_order NameTaken none (inl refl) in
      var_fits name t first (literal_of_type names t first) c (fresh name taken)
      (λ v at. literal_fits names earlier t first v at) e
  check_fits (grammar.Set name literal) c has none e =
      let other = none_holds (Stands (grammar.Set name literal)) line_order NotVariable none (inr (inr (inr (inr (inr (inr (inl refl))))))) in
      let variable : is_variable (kind_of names name) ≡ true =
      not_false (is_variable (kind_of names name)) (or_false (not (is_variable (kind_of names name))) other) in
      set_fits name literal (find_declared names name) c refl variable e
  check_fits (grammar.Let name tree) c has none e =
      let taken = none_holds (Stands (grammar.Let name tree)) line_order NameTaken none (inl refl) in
      formula_fits name tree c (fresh name taken) none e
  check_fits (grammar.Grab name bind) c has none e =
      let taken = none_holds (Stands (grammar.Grab name bind)) line_order NameTaken none (inl refl) in
      let other = none_holds (Stands (grammar.Grab name bind)) line_order NotBind none (inr (inr (inr (inr (inr (inr (inr (inl refl)))))))) in
      let kind : is_bind (kind_of names bind) ≡ true =
      not_false (is_bind (kind_of names bind)) (or_false (not (is_bind (kind_of names bind))) other) in
      grab_fits name bind (find_declared names bind) c (fresh name taken) refl kind e
  check_fits (grammar.Observe observer name) c has none e =
      let taken = none_holds (Stands (grammar.Observe observer name)) line_order ObserverTaken none (inr (inl refl)) in
      observe_fits observer name (find_declared names name) c refl (or_false (is_among names.observers observer) taken) e
  check_fits (grammar.Unobserve observer) c has none e =
      let unknown = none_holds (Stands (grammar.Unobserve observer)) line_order ObserverUnknown none (inr (inr (inr (inl refl)))) in
      subst (FitsNames known names) (some_is (Unobserve observer) c e)
      (not_false (is_among names.observers observer) (or_false (not (is_among names.observers observer)) unknown))
  check_fits (grammar.Watch observer) c has none e =
      let unknown = none_holds (Stands (grammar.Watch observer)) line_order ObserverUnknown none (inr (inr (inr (inl refl)))) in
      subst (FitsNames known names) (some_is (Watch observer) c e)
      (not_false (is_among names.observers observer) (or_false (not (is_among names.observers observer)) unknown))
  check_fits (grammar.Advance span) c has none e =
      let fit = times_fit (grammar.Advance span) none in
      advance_fits (names.now + unwrap_or span 0) c
      (omega arith, not_past names.now span (or_false (is_past names.now span) fit.1)) e
  check_fits (grammar.AdvanceTo time) c has none e =
      let fit = times_fit (grammar.AdvanceTo time) none in
      let back = none_holds (Stands (grammar.AdvanceTo time)) line_order BackInTime none
      (inr (inr (inr (inr (inr (inr (inr (inr (inr (inr (inr (inr (inr (inl refl)))))))))))))) in
      advance_to_fits time c has (or_false (is_none time) fit.0) back e
  check_fits grammar.Stabilize c has none e = subst (FitsNames known names) (some_is Stabilize c e) tt
  check_fits (grammar.Show observer) c has none e =
      let unknown = none_holds (Stands (grammar.Show observer)) line_order ObserverUnknown none (inr (inr (inr (inl refl)))) in
      subst (FitsNames known names) (some_is (Show observer) c e)
      (not_false (is_among names.observers observer) (or_false (not (is_among names.observers observer)) unknown))
  check_fits (grammar.Expert name function first) c has none e =
      let taken = none_holds (Stands (grammar.Expert name function first)) line_order NameTaken none (inl refl) in
      expert_fits name first (F.named function) c (fresh name taken) (λ f is. maps function f is) e
  check_fits (grammar.Link expert name) c has none e =
      link_fits expert name (find_declared names expert) (find_declared names name) c refl refl e
  check_fits (grammar.Unlink expert name) c has none e =
      unlink_fits expert name (find_declared names expert) (find_declared names name) c refl refl
      (is_that_expert (grammar.Unlink expert name) expert refl none) e
  check_fits (grammar.Stale expert) c has none e =
      stale_fits expert (find_declared names expert) c refl (is_that_expert (grammar.Stale expert) expert refl none) e
