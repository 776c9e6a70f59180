-- What a line's literals, formulas and declarations come to has the type that the check gives them.
use Rattle.std.proofs.Common.{◌≡◌, ℕ, zero, suc, ◌+◌, ◌<◌, true, false, not, ◌&&◌, ◌||◌, cond, List, [], ◌∷◌, ◌++◌, length, map, slice_get, Option, None, Some, refl, sym, ◌∙◌, ap, subst, arith, add-zero}
use Rattle.std.specs.Prelude as std
use Rattle.std.specs.Prelude.{nat_lt, unwrap_or}
use Rattle.std.specs.List.{list_any}
use Rattle.std.specs.Str.{bytes_eq}
use Rattle.std.proofs.lemmas.Bool.{ltb-true}
use Rattle.std.proofs.lemmas.List.Folds.{list_any-append}
use Rattle.std.proofs.lemmas.Option.{slice_get_within}
use Rattle.inc_value.proofs.SameTypes.{ty_true, types_true}
use Rattle.inc_value.specs.Ty.{same_ty, same_types, base_of, type_of_base}
use Rattle.inc_value.specs.declared.function.FnRef.{FnRef}
use Rattle.inc_value.specs.declared.ty.Base.{Base}
use Rattle.inc_value.specs.declared.ty.Ty.TheVariants as ty
use Rattle.inc_value.specs.declared.ty.Ty.{Ty}
use Rattle.script_model.specs.Check as check
use Rattle.script_model.specs.Check.{Declared, TypedValue, TypedFormula, TypedFormulas, first_named, find_declared, typed_literal, where_same, literal_of_type, steps_of_type, typed_as, before, applied, typed_name, element_of, are_all, folded, branched, join_of, typed, typed_each, names_of, declared_of, target_of_body, trees_in, trees_in_all, has_falling_times, times_rise}
use Rattle.inc_value.specs.Choice.{and_then}
use Rattle.script_model.specs.Values.{Value}
use Rattle.script_model.specs.Formula as model
use Rattle.script_model.specs.Formula.{Formula, Formulas, TimedValue, Body, Entry, State, Meanings, entry_at}
use Rattle.script_model.specs.Grammar as grammar
use Rattle.script_model.specs.Grammar.{Tree, Trees, TimedLiteral}
use Rattle.script_model.specs.Literals as literals
use Rattle.script_model.specs.Literals.{Literal}
use Rattle.script_model.specs.Valid.{NameHasType, ValueHasType, StepsHaveType, IsNamed, FoldsOver, HasType, ArgumentsHaveTypes, ElementsHaveType, BodyHasType, Valid}
use Rattle.script_model.proofs.Proper.{ProperLiteral, ProperSteps, ProperTree, ProperTrees}

-- ---- what follows from an answer that is there

pub then_some : {A B : Type 0} (o : Option A) (f : A → Option B) (y : B) → and_then o f ≡ Some y → (x : A) × (o ≡ Some x) × (f x ≡ Some y)
then_some None f y e = absurd (cc)
then_some (Some x) f y e = (x, refl, e)

pub cond_some : {A : Type 0} (b : std.Bool) (o : Option A) (y : A) → cond b o None ≡ Some y → (b ≡ true) × (o ≡ Some y)
cond_some true o y e = (refl, e)
cond_some false o y e = absurd (cc)

pub same_some : {A : Type 0} (a b : Ty) (o : Option A) (y : A) → where_same a b o ≡ Some y → (a ≡ b) × (o ≡ Some y)
same_some a b o y e = let parts = cond_some (same_ty a b) o y e in (ty_true a b parts.0, parts.1)

pub some_is : {A : Type 0} (x y : A) → Some x ≡ Some y → x ≡ y
some_is x y e = cc

pub either_false : (a b : std.Bool) → (a || b) ≡ false → (a ≡ false) × (b ≡ false)
either_false true b is = absurd (cc)
either_false false b is = (refl, is)

pub both : (a b : std.Bool) → (a && b) ≡ true → (a ≡ true) × (b ≡ true)
both false b is = absurd (cc)
both true b is = (refl, is)

not_true : (b : std.Bool) → not b ≡ true → b ≡ false
not_true true is = absurd (cc)
not_true false is = refl

pub not_false : (b : std.Bool) → not b ≡ false → b ≡ true
not_false true is = refl
not_false false is = absurd (cc)

-- where no element passes, none of the first and none of the rest does
pub none_first : {A : Type 0} (p : A → std.Bool) (x : A) (xs : List A) → list_any p (x ∷ xs) ≡ false → (p x ≡ false) × (list_any p xs ≡ false)
none_first p x xs e = either_false (p x) (list_any p xs) e

pub none_front : {A : Type 0} (p : A → std.Bool) (xs ys : List A) → list_any p (xs ++ ys) ≡ false → (list_any p xs ≡ false) × (list_any p ys ≡ false)
none_front p xs ys e = either_false (list_any p xs) (list_any p ys) (sym (list_any-append p xs ys) ∙ e)

-- ---- names

-- a declared name stands somewhere
pub found_at : (name : List ℕ) (es : List Entry) (d : Declared) → first_named name (map declared_of es) ≡ Some d
    → (n : ℕ) × (e : Entry) × (slice_get es n ≡ Some e) × (d ≡ declared_of e)
found_at name [] d found = absurd (cc)
found_at name (x ∷ es) d found = go (bytes_eq name x.name) found (found_at name es d)
  where
    go : (b : std.Bool) → cond b (Some (declared_of x)) (first_named name (map declared_of es)) ≡ Some d
        → (first_named name (map declared_of es) ≡ Some d → (n : ℕ) × (e : Entry) × (slice_get es n ≡ Some e) × (d ≡ declared_of e))
        → (n : ℕ) × (e : Entry) × (slice_get (x ∷ es) n ≡ Some e) × (d ≡ declared_of e)
    go true is later = (zero, x, refl, cc)
    go false is later = let rest = later is in (suc rest.0, rest.1, rest.2, rest.3)

pub get-declared : (es : List Entry) (n : ℕ) (e : Entry) → slice_get es n ≡ Some e → slice_get (map declared_of es) n ≡ Some (declared_of e)
get-declared [] n e is = absurd (cc)
get-declared (x ∷ es) zero e is = let same : x ≡ e = cc in ap (λ y. Some (declared_of y)) same
get-declared (x ∷ es) (suc n) e is = get-declared es n e is

-- its own target
pub own_named : (s : State) (n : ℕ) (e : Entry) → e.target ≡ n → entry_at s n ≡ Some e → NameHasType s (length s.entries) n e.ty
own_named s n e own stands = record { entry = e; earlier = slice_get_within s.entries n e stands; stands = stands; typed = refl; own = own }

module _ (F : Meanings) (s : State) (valid : Valid F s) where
  -- the target of a name is its own target, and has the type of the name
  target_has : (n : ℕ) (e : Entry) (b : Body) → e.body ≡ b → entry_at s n ≡ Some e → e.target ≡ target_of_body n b
      → BodyHasType F s n b e.ty → NameHasType s (length s.entries) e.target e.ty
  target_has n e (model.Computed (model.Name m) kept) body stands target has =
      let within = slice_get_within s.entries n e stands in
      let named = has.0 in
      rw target (record {
        entry = named.entry;
        earlier = omega (arith, within, named.earlier);
        stands = named.stands;
        typed = named.typed;
        own = named.own;
      })
  target_has n e b body stands target has = rw target (own_named s n e target stands)

  pub found_has : (name : List ℕ) (d : Declared) → find_declared (names_of s) name ≡ Some d → NameHasType s (length s.entries) d.target d.ty
  found_has name d found =
      let there = found_at name s.entries d found in
      let valid_there = valid.entries there.0 there.1 there.2 in
      rw there.3 (target_has there.0 there.1 there.1.body refl there.2 valid_there.target_is valid_there.typed)

  -- where the next declaration will stand
  abbrev here : ℕ
  here = length s.entries

  -- ---- literals

  literal_has : (l : Literal) (v : TypedValue) → ProperLiteral l → typed_literal (names_of s) l ≡ Some v → ValueHasType s here v.value v.ty
  literal_has (literals.Integer z) v proper e = rw (← some_is _ _ e) (refl, proper)
  literal_has (literals.Bool b) v proper e = rw (← some_is _ _ e) (refl, tt)
  literal_has (literals.Text content) v proper e = rw (← some_is _ _ e) (refl, proper)
  literal_has (literals.Referred name) v proper e =
      let found = then_some (find_declared (names_of s) name) _ v e in
      let d = found.0 in
      let based = then_some (base_of d.ty) _ v found.2 in
      rw (← some_is _ _ based.2) (refl, named_base d.ty based.0 based.1 (found_has name d found.1))
    where
      named_base : {m : ℕ} (t : Ty) (b : Base) → base_of t ≡ Some b → NameHasType s here m t → NameHasType s here m (type_of_base b)
      named_base ty.Int b is h = rw (← some_is _ _ is) h
      named_base ty.Bool b is h = rw (← some_is _ _ is) h
      named_base ty.Text b is h = rw (← some_is _ _ is) h
      named_base (ty.Node c) b is h = absurd (cc)

  pub literal_of_has : (t : Ty) (l : Literal) (v : Value) → ProperLiteral l → literal_of_type (names_of s) t l ≡ Some v → ValueHasType s here v t
  literal_of_has t l v proper e =
      let typed_it = then_some (typed_literal (names_of s) l) _ v e in
      let same = same_some typed_it.0.ty t (Some typed_it.0.value) v typed_it.2 in
      let has = subst (λ u. ValueHasType s here typed_it.0.value u) same.0 (literal_has l typed_it.0 proper typed_it.1) in
      subst (λ w. ValueHasType s here w t) (some_is typed_it.0.value v same.1) has

  -- the first of the values comes later
  abbrev Later : ℕ → List TimedValue → Type 0
  Later time [] = Unit {0}
  Later time (u ∷ us) = time < u.time

  comes_later : (t : Ty) (time : ℕ) (b : TimedLiteral) (steps : List TimedLiteral) (us : List TimedValue)
      → time < unwrap_or b.time 0 → steps_of_type (names_of s) t (b ∷ steps) ≡ Some us → Later time us
  comes_later t time b steps [] less is = tt
  comes_later t time b steps (u ∷ us) less is =
      let second = then_some (literal_of_type (names_of s) t b.literal) _ (u ∷ us) is in
      let others = then_some (steps_of_type (names_of s) t steps) _ (u ∷ us) second.2 in
      let all = others.2 in
      let same : record { time = unwrap_or b.time 0; value = second.0 } ≡ u = cc in
      rw (← same) less

  step_in_front : (t : Ty) (time : ℕ) (v : Value) (us : List TimedValue) → ValueHasType s here v t → StepsHaveType s here us t
      → Later time us → StepsHaveType s here (record { time = time; value = v } ∷ us) t
  step_in_front t time v [] has rest late = has
  step_in_front t time v (u ∷ us) has rest late = (has, late, rest)

  steps_have : (t : Ty) (steps : List TimedLiteral) (vs : List TimedValue) → ProperSteps steps → times_rise steps ≡ true
      → steps_of_type (names_of s) t steps ≡ Some vs → StepsHaveType s here vs t
  steps_have t [] vs proper rise e = rw (← some_is _ _ e) tt
  steps_have t (a ∷ []) vs proper rise e =
      let first = then_some (literal_of_type (names_of s) t a.literal) _ vs e in
      rw (← some_is _ _ first.2) (literal_of_has t a.literal first.0 proper.0 first.1)
  steps_have t (a ∷ b ∷ steps) vs proper rise e =
      let first = then_some (literal_of_type (names_of s) t a.literal) _ vs e in
      let rest = then_some (steps_of_type (names_of s) t (b ∷ steps)) _ vs first.2 in
      let rises = both (nat_lt (unwrap_or a.time 0) (unwrap_or b.time 0)) (times_rise (b ∷ steps)) rise in
      let late = comes_later t (unwrap_or a.time 0) b steps rest.0 (ltb-true _ _ rises.0) rest.1 in
      subst (λ us. StepsHaveType s here us t) (some_is (record { time = unwrap_or a.time 0; value = first.0 } ∷ rest.0) vs rest.2)
      (step_in_front t (unwrap_or a.time 0) first.0 rest.0 (literal_of_has t a.literal first.0 proper.0 first.1)
      (steps_have t (b ∷ steps) rest.0 proper.1 rises.1 rest.1) late)

  -- ---- formulas

  -- the types of the variables of binds
  abbrev tys_of : List check.Bound → List Ty
  tys_of bounds = map (λ (b : check.Bound). b.ty) bounds

  -- the formula has its type
  abbrev Has : List check.Bound → TypedFormula → Type 0
  Has bounds t = HasType F s here (tys_of bounds) t.formula t.ty

  -- the formulas have their types
  abbrev AllHave : List check.Bound → TypedFormulas → Type 0
  AllHave bounds ts = ArgumentsHaveTypes F s here (tys_of bounds) ts.formulas ts.tys

  -- a formula that is given with its type
  has_as : (bounds : List check.Bound) (f : Formula) (u : Ty) (t : TypedFormula) → HasType F s here (tys_of bounds) f u
      → typed_as f u ≡ Some t → Has bounds t
  has_as bounds f u t has e = subst (Has bounds) (some_is (record { formula = f; ty = u }) t e) has

  name_has : (bounds : List check.Bound) (name : List ℕ) (k : ℕ) (rest : List check.Bound) (t : TypedFormula)
      → ((i : ℕ) → slice_get (tys_of bounds) (k + i) ≡ slice_get (tys_of rest) i)
      → typed_name (names_of s) name k rest ≡ Some t → Has bounds t
  name_has bounds name k [] t same e =
      let found = then_some (find_declared (names_of s) name) _ t e in
      has_as bounds (model.Name found.0.target) found.0.ty t (found_has name found.0 found.1) found.2
  name_has bounds name k (b ∷ rest) t same e = go (bytes_eq name b.name) (λ is. name_has bounds name (k + 1) rest t further is) e
    where
      here_it : slice_get (tys_of bounds) k ≡ Some b.ty
      here_it = rw add-zero at (same 0)

      further : (i : ℕ) → slice_get (tys_of bounds) (k + 1 + i) ≡ slice_get (tys_of rest) i
      further i = let e : k + 1 + i ≡ k + suc i = omega arith in rw e (same (suc i))

      go : (x : std.Bool) → (typed_name (names_of s) name (k + 1) rest ≡ Some t → Has bounds t)
          → cond x (typed_as (model.Bound k) b.ty) (typed_name (names_of s) name (k + 1) rest) ≡ Some t → Has bounds t
      go true later is = has_as bounds (model.Bound k) b.ty t here_it is
      go false later is = later is

  from_zero : (bounds : List check.Bound) (i : ℕ) → slice_get (tys_of bounds) (0 + i) ≡ slice_get (tys_of bounds) i
  from_zero bounds i = let e : 0 + i ≡ i = omega arith in rw e refl

  applied_has : (bounds : List check.Bound) (f : FnRef) (ts : TypedFormulas) (t : TypedFormula) → IsNamed F f
      → AllHave bounds ts → applied f ts ≡ Some t → Has bounds t
  applied_has bounds f ts t named all e =
      let same = cond_some (same_types f.sig.takes ts.tys) (typed_as (model.Apply f ts.formulas) f.sig.gives) t e in
      has_as bounds (model.Apply f ts.formulas) f.sig.gives t (
        named,
        subst (λ tys. ArgumentsHaveTypes F s here (tys_of bounds) ts.formulas tys)
            (sym (types_true f.sig.takes ts.tys same.0)) all,
        refl,
      ) same.1

  pub folds_over : (f : FnRef) (takes : List Ty) (u : Ty) → f.sig.takes ≡ takes → element_of f takes ≡ Some u → FoldsOver f f.sig.gives u
  folds_over f (a ∷ v ∷ []) u is e =
      let same = same_some a f.sig.gives (Some v) u e in
      let element : v ≡ u = some_is v u same.1 in
      (is ∙ rw (same.0, element) refl, refl)
  folds_over f [] u is e = absurd (cc)
  folds_over f (a ∷ []) u is e = absurd (cc)
  folds_over f (a ∷ b ∷ c ∷ rest) u is e = absurd (cc)

  elements_have : (bounds : List check.Bound) (fs : Formulas) (tys : List Ty) (u : Ty) → are_all u tys ≡ true
      → ArgumentsHaveTypes F s here (tys_of bounds) fs tys → ElementsHaveType F s here (tys_of bounds) fs u
  elements_have bounds model.End tys u same all = tt
  elements_have bounds (model.More f rest) [] u same all = absurd all
  elements_have bounds (model.More f rest) (t ∷ tys) u same all =
      let others = none_first (λ w. not (same_ty u w)) t tys (not_true _ same) in
      let first : u ≡ t = ty_true u t (not_false _ others.0) in
      (rw first all.0, elements_have bounds rest tys u (rw others.1 refl) all.1)

  folded_has : (bounds : List check.Bound) (f : FnRef) (first : Literal) (ts : TypedFormulas) (t : TypedFormula) → IsNamed F f
      → ProperLiteral first → AllHave bounds ts
      → folded (names_of s) f first ts ≡ Some t → Has bounds t
  folded_has bounds f first ts t named proper all e =
      let element = then_some (element_of f f.sig.takes) _ t e in
      let u = element.0 in
      let begins = then_some (literal_of_type (names_of s) f.sig.gives first) _ t element.2 in
      let same = cond_some (are_all u ts.tys) (typed_as (model.Fold f begins.0 ts.formulas) f.sig.gives) t begins.2 in
      has_as bounds (model.Fold f begins.0 ts.formulas) f.sig.gives t (
        u,
        named,
        folds_over f f.sig.takes u refl element.1,
        literal_of_has f.sig.gives first begins.0 proper begins.1,
        elements_have bounds ts.formulas ts.tys u same.0 all,
      ) same.1

  branched_has : (bounds : List check.Bound) (test a b t : TypedFormula) → Has bounds test → Has bounds a → Has bounds b
      → branched test a b ≡ Some t → Has bounds t
  branched_has bounds test a b t x y z e =
      let truth = same_some test.ty ty.Bool (where_same a.ty b.ty (typed_as (model.If test.formula a.formula b.formula) a.ty)) t e in
      let sides = same_some a.ty b.ty (typed_as (model.If test.formula a.formula b.formula) a.ty) t truth.1 in
      has_as bounds (model.If test.formula a.formula b.formula) a.ty t (
        subst (λ u. HasType F s here (tys_of bounds) test.formula u) truth.0 x,
        y,
        subst (λ u. HasType F s here (tys_of bounds) b.formula u) (sym sides.0) z,
      ) sides.1

  join_has : (bounds : List check.Bound) (c t : TypedFormula) (u : Ty) → HasType F s here (tys_of bounds) c.formula u
      → check.join_of c u ≡ Some t → Has bounds t
  join_has bounds c t (ty.Node b) has e = has_as bounds (model.Join c.formula) (type_of_base b) t (b, has, refl) e
  join_has bounds c t ty.Int has e = absurd (cc)
  join_has bounds c t ty.Bool has e = absurd (cc)
  join_has bounds c t ty.Text has e = absurd (cc)

  -- no formula in it has times that don't rise
  abbrev NoneFalls : Tree → Type 0
  NoneFalls tree = list_any has_falling_times (trees_in tree) ≡ false

  -- nor does one of theirs
  abbrev NoneOfFalls : Trees → Type 0
  NoneOfFalls trees = list_any has_falling_times (trees_in_all trees) ≡ false

  mutual
    pub formula_has : (bounds : List check.Bound) (tree : Tree) (t : TypedFormula) → ProperTree tree → NoneFalls tree
        → typed F (names_of s) bounds tree ≡ Some t → Has bounds t
    formula_has bounds (grammar.Literal literal) t proper rise e =
        let constant = then_some (typed_literal (names_of s) literal) _ t e in
        has_as bounds (model.Literal constant.0.value) constant.0.ty t (literal_has literal constant.0 proper constant.1) constant.2
    formula_has bounds (grammar.Name name) t proper rise e = name_has bounds name 0 bounds t (λ i. from_zero bounds i) e
    formula_has bounds (grammar.Call function arguments) t proper rise e =
        let f = then_some (F.named function) _ t e in
        let each = then_some (typed_each F (names_of s) bounds arguments) _ t f.2 in
        applied_has bounds f.0 each.0 t (function, f.1) (formulas_have bounds arguments each.0 proper rise each.1) each.2
    formula_has bounds (grammar.Fold function first elements) t proper rise e =
        let f = then_some (F.named function) _ t e in
        let each = then_some (typed_each F (names_of s) bounds elements) _ t f.2 in
        folded_has bounds f.0 first each.0 t (function, f.1) proper.0 (formulas_have bounds elements each.0 proper.1 rise each.1) each.2
    formula_has bounds (grammar.If test a b) t proper rise e =
        let x = then_some (typed F (names_of s) bounds test) _ t e in
        let y = then_some (typed F (names_of s) bounds a) _ t x.2 in
        let z = then_some (typed F (names_of s) bounds b) _ t y.2 in
        let rises = none_front has_falling_times (trees_in test ++ trees_in a) (trees_in b) rise in
        let sides = none_front has_falling_times (trees_in test) (trees_in a) rises.0 in
        branched_has bounds x.0 y.0 z.0 t (formula_has bounds test x.0 proper.0 sides.0 x.1)
        (formula_has bounds a y.0 proper.1 sides.1 y.1) (formula_has bounds b z.0 proper.2 rises.1 z.1) z.2
    formula_has bounds (grammar.Bind variable left body) t proper rise e =
        let l = then_some (typed F (names_of s) bounds left) _ t e in
        let inside : List check.Bound = record { name = variable; ty = l.0.ty } ∷ bounds in
        let b = then_some (typed F (names_of s) inside body) _ t l.2 in
        let rises = none_front has_falling_times (trees_in left) (trees_in body) rise in
        has_as bounds (model.Bind l.0.formula b.0.formula) b.0.ty t (
          l.0.ty,
          formula_has bounds left l.0 proper.0 rises.0 l.1,
          formula_has inside body b.0 proper.1 rises.1 b.1,
        ) b.2
    formula_has bounds (grammar.Join child) t proper rise e =
        let c = then_some (typed F (names_of s) bounds child) _ t e in
        join_has bounds c.0 t c.0.ty (formula_has bounds child c.0 proper rise c.1) c.2
    formula_has bounds (grammar.At time) t proper rise e = has_as bounds _ _ t refl e
    formula_has bounds grammar.Now t proper rise e = has_as bounds model.Now ty.Int t refl e
    formula_has bounds (grammar.Steps first steps) t proper rise e =
        let constant = then_some (typed_literal (names_of s) first) _ t e in
        let later = then_some (steps_of_type (names_of s) constant.0.ty steps) _ t constant.2 in
        let rises = not_false (times_rise steps) (none_first has_falling_times (grammar.Steps first steps) [] rise).0 in
        has_as bounds (model.Steps constant.0.value later.0) constant.0.ty t
        (literal_has first constant.0 proper.0 constant.1, steps_have constant.0.ty steps later.0 proper.1 rises later.1) later.2
    formula_has bounds (grammar.Freeze child predicate) t proper rise e = absurd (cc)
    formula_has bounds (grammar.After span) t proper rise e = absurd (cc)
    formula_has bounds (grammar.Every span) t proper rise e = absurd (cc)

    formulas_have : (bounds : List check.Bound) (trees : Trees) (ts : TypedFormulas) → ProperTrees trees → NoneOfFalls trees
        → typed_each F (names_of s) bounds trees ≡ Some ts → AllHave bounds ts
    formulas_have bounds grammar.End ts proper rise e = subst (AllHave bounds) (some_is (record { formulas = model.End; tys = [] }) ts e) tt
    formulas_have bounds (grammar.More first rest) ts proper rise e =
        let x = then_some (typed F (names_of s) bounds first) _ ts e in
        let others = then_some (typed_each F (names_of s) bounds rest) _ ts x.2 in
        let rises = none_front has_falling_times (trees_in first) (trees_in_all rest) rise in
        subst (AllHave bounds) (some_is (before x.0 others.0) ts others.2)
        (formula_has bounds first x.0 proper.0 rises.0 x.1, formulas_have bounds rest others.0 proper.1 rises.1 others.1)
