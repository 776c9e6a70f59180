-- What a line declares has at most 64 binds: each opens a level for the rest of the line.
use Rattle.std.proofs.Common.{◌≡◌, inl, inr, ℕ, ◌+◌, ◌≤◌, true, false, cond, List, [], ◌∷◌, ◌++◌, Option, Some, None, IsTrue, refl, arith, codes}
use Rattle.std.specs.Prelude as std
use Rattle.std.specs.Prelude.{nat_lt}
use Rattle.std.specs.Str.{bytes_eq}
use Rattle.std.proofs.lemmas.Bool.{ltb-false, or_parts}
use Rattle.inc_value.specs.Ty.{same_ty, same_types, type_of_base}
use Rattle.inc_value.specs.declared.function.FnRef.{FnRef}
use Rattle.inc_value.specs.declared.ty.Ty.TheVariants as ty
use Rattle.inc_value.specs.declared.ty.Ty.{Ty}
use Rattle.script_model.specs.Check as check
use Rattle.inc_value.specs.Choice.{and_then}
use Rattle.script_model.specs.Check.{Command, Names, Kind, Declared, Bound, TypedFormula, TypedFormulas, TypedBody, binds_of_command, command_of, find_declared, typed_literal, where_same, literal_of_type, steps_of_type, typed_as, before, typed_name, element_of, are_all, folded, join_of, typed, typed_each, body_as, frozen_when, typed_top, expert_of, kind_of, link_of}
use Rattle.script_model.specs.Formula as model
use Rattle.script_model.specs.Formula.{Formula, Meanings, binds_in, binds_in_all, binds_of_body, nothing_kept}
use Rattle.script_model.specs.Grammar as grammar
use Rattle.script_model.specs.Grammar.{Tree, Trees, TimedLiteral, Line, WritesTime, WritesLiteral, WritesSteps, WritesAnySteps, Writes, WritesEach, WritesAny, IsLine}
use Rattle.script_model.specs.Laws.{FewBinds}
use Rattle.script_model.specs.Literals as literals
use Rattle.script_model.specs.Literals.{Literal}
use Rattle.script_model.specs.Tokens.{Token, Word, opens, closes, is_too_deep}
use Rattle.script_model.proofs.Typing.{then_some, cond_some, same_some, some_is}

-- ---- the binds of a formula are those that it is written with

abbrev mutual
  -- how many binds a written formula has
  written_binds : Tree → ℕ
  written_binds (grammar.Call function arguments) = written_binds_in_all arguments
  written_binds (grammar.Fold function first elements) = written_binds_in_all elements
  written_binds (grammar.If test a b) = written_binds test + (written_binds a + written_binds b)
  written_binds (grammar.Bind variable left body) = 1 + (written_binds left + written_binds body)
  written_binds (grammar.Join child) = written_binds child
  written_binds (grammar.Freeze child predicate) = written_binds child
  written_binds tree = 0

  written_binds_in_all : Trees → ℕ
  written_binds_in_all grammar.End = 0
  written_binds_in_all (grammar.More first rest) = written_binds first + written_binds_in_all rest

module _ (F : Meanings) (names : Names) where
  -- a formula that is given with its type
  binds_as : (f : Formula) (u : Ty) (t : TypedFormula) (n : ℕ) → binds_in f ≤ n → typed_as f u ≡ Some t → binds_in t.formula ≤ n
  binds_as f u t n few e = rw (← some_is (record { formula = f; ty = u }) t e) few

  name_binds : (name : List ℕ) (k : ℕ) (bounds : List Bound) (t : TypedFormula) → typed_name names name k bounds ≡ Some t → binds_in t.formula ≤ 0
  name_binds name k [] t e =
      let found = then_some (find_declared names name) _ t e in
      binds_as (model.Name found.0.target) found.0.ty t 0 (omega arith) found.2
  name_binds name k (b ∷ bounds) t e = go (bytes_eq name b.name) (name_binds name (k + 1) bounds t) e
    where
      go : (x : std.Bool) → (typed_name names name (k + 1) bounds ≡ Some t → binds_in t.formula ≤ 0)
          → cond x (typed_as (model.Bound k) b.ty) (typed_name names name (k + 1) bounds) ≡ Some t → binds_in t.formula ≤ 0
      go true later is = binds_as (model.Bound k) b.ty t 0 (omega arith) is
      go false later is = later is

  folded_binds : (f : FnRef) (first : Literal) (ts : TypedFormulas) (t : TypedFormula) (n : ℕ) → binds_in_all ts.formulas ≤ n
      → folded names f first ts ≡ Some t → binds_in t.formula ≤ n
  folded_binds f first ts t n few e =
      let element = then_some (element_of f f.sig.takes) _ t e in
      let begins = then_some (literal_of_type names f.sig.gives first) _ t element.2 in
      let same = cond_some (are_all element.0 ts.tys) (typed_as (model.Fold f begins.0 ts.formulas) f.sig.gives) t begins.2 in
      binds_as (model.Fold f begins.0 ts.formulas) f.sig.gives t n few same.1

  join_binds : (c t : TypedFormula) (u : Ty) (n : ℕ) → binds_in c.formula ≤ n → join_of c u ≡ Some t → binds_in t.formula ≤ n
  join_binds c t (ty.Node b) n few e = binds_as (model.Join c.formula) (type_of_base b) t n few e
  join_binds c t ty.Int n few e = absurd (cc)
  join_binds c t ty.Bool n few e = absurd (cc)
  join_binds c t ty.Text n few e = absurd (cc)

  mutual
    typed_binds : (bounds : List Bound) (tree : Tree) (t : TypedFormula) → typed F names bounds tree ≡ Some t
        → binds_in t.formula ≤ written_binds tree
    typed_binds bounds (grammar.Literal literal) t e =
        let constant = then_some (typed_literal names literal) _ t e in
        binds_as (model.Literal constant.0.value) constant.0.ty t 0 (omega arith) constant.2
    typed_binds bounds (grammar.Name name) t e = name_binds name 0 bounds t e
    typed_binds bounds (grammar.Call function arguments) t e =
        let f = then_some (F.named function) _ t e in
        let each = then_some (typed_each F names bounds arguments) _ t f.2 in
        let same = cond_some (same_types f.0.sig.takes each.0.tys) (typed_as (model.Apply f.0 each.0.formulas) f.0.sig.gives) t each.2 in
        binds_as (model.Apply f.0 each.0.formulas) f.0.sig.gives t (written_binds_in_all arguments) (each_binds bounds arguments each.0 each.1) same.1
    typed_binds bounds (grammar.Fold function first elements) t e =
        let f = then_some (F.named function) _ t e in
        let each = then_some (typed_each F names bounds elements) _ t f.2 in
        folded_binds f.0 first each.0 t (written_binds_in_all elements) (each_binds bounds elements each.0 each.1) each.2
    typed_binds bounds (grammar.If test a b) t e =
        let x = then_some (typed F names bounds test) _ t e in
        let y = then_some (typed F names bounds a) _ t x.2 in
        let z = then_some (typed F names bounds b) _ t y.2 in
        let whole = model.If x.0.formula y.0.formula z.0.formula in
        let truth = same_some x.0.ty ty.Bool (where_same y.0.ty z.0.ty (typed_as whole y.0.ty)) t z.2 in
        let sides = same_some y.0.ty z.0.ty (typed_as whole y.0.ty) t truth.1 in
        let in_test = typed_binds bounds test x.0 x.1 in
        let in_a = typed_binds bounds a y.0 y.1 in
        let in_b = typed_binds bounds b z.0 z.1 in
        binds_as whole y.0.ty t (written_binds test + (written_binds a + written_binds b)) (omega (arith, in_test, in_a, in_b)) sides.1
    typed_binds bounds (grammar.Bind variable left body) t e =
        let l = then_some (typed F names bounds left) _ t e in
        let inside : List Bound = record { name = variable; ty = l.0.ty } ∷ bounds in
        let b = then_some (typed F names inside body) _ t l.2 in
        let in_left = typed_binds bounds left l.0 l.1 in
        let in_body = typed_binds inside body b.0 b.1 in
        binds_as (model.Bind l.0.formula b.0.formula) b.0.ty t (1 + (written_binds left + written_binds body)) (omega (arith, in_left, in_body)) b.2
    typed_binds bounds (grammar.Join child) t e =
        let c = then_some (typed F names bounds child) _ t e in
        join_binds c.0 t c.0.ty (written_binds child) (typed_binds bounds child c.0 c.1) c.2
    typed_binds bounds (grammar.At time) t e = binds_as (model.At (std.unwrap_or time 0)) ty.Bool t 0 (omega arith) e
    typed_binds bounds grammar.Now t e = binds_as model.Now ty.Int t 0 (omega arith) e
    typed_binds bounds (grammar.Steps first steps) t e =
        let constant = then_some (typed_literal names first) _ t e in
        let later = then_some (steps_of_type names constant.0.ty steps) _ t constant.2 in
        binds_as (model.Steps constant.0.value later.0) constant.0.ty t 0 (omega arith) later.2
    typed_binds bounds (grammar.Freeze child predicate) t e = absurd (cc)
    typed_binds bounds (grammar.After span) t e = absurd (cc)
    typed_binds bounds (grammar.Every span) t e = absurd (cc)

    each_binds : (bounds : List Bound) (trees : Trees) (ts : TypedFormulas) → typed_each F names bounds trees ≡ Some ts
        → binds_in_all ts.formulas ≤ written_binds_in_all trees
    each_binds bounds grammar.End ts e = rw (← some_is (record { formulas = model.End; tys = [] }) ts e) (omega arith)
    each_binds bounds (grammar.More first rest) ts e =
        let x = then_some (typed F names bounds first) _ ts e in
        let others = then_some (typed_each F names bounds rest) _ ts x.2 in
        let in_first = typed_binds bounds first x.0 x.1 in
        let in_rest = each_binds bounds rest others.0 others.1 in
        rw (← some_is (before x.0 others.0) ts others.2) (omega (arith, in_first, in_rest))

-- what is declared, where something is, has so many binds at most
abbrev BodyWithin : ℕ → Option TypedBody → Type 0
BodyWithin n None = Unit {0}
BodyWithin n (Some t) = binds_of_body t.body ≤ n

body_then : {A : Type 0} (n : ℕ) (o : Option A) (next : A → Option TypedBody) → ((x : A) → o ≡ Some x → BodyWithin n (next x)) → BodyWithin n (and_then o next)
body_then n None next h = tt
body_then n (Some x) next h = h x refl

body_where : (n : ℕ) (b : std.Bool) (o : Option TypedBody) → BodyWithin n o → BodyWithin n (cond b o None)
body_where n true o h = h
body_where n false o h = tt

frozen_binds : (n : ℕ) (c : TypedFormula) (f : FnRef) → binds_in c.formula ≤ n → BodyWithin n (frozen_when c f)
frozen_binds n c f few =
    body_where n (same_types f.sig.takes (c.ty ∷ [])) (where_same f.sig.gives ty.Bool (body_as (model.Freeze c.formula f None) c.ty))
    (body_where n (same_ty f.sig.gives ty.Bool) (body_as (model.Freeze c.formula f None) c.ty) few)

top_binds : (F : Meanings) (names : Names) (tree : Tree) → BodyWithin (written_binds tree) (typed_top F names tree)
top_binds F names (grammar.Freeze child predicate) =
    body_then (written_binds child) (typed F names [] child) _ (λ c is.
    body_then (written_binds child) (F.named predicate) _ (λ f named. frozen_binds (written_binds child) c f (typed_binds F names [] child c is)))
top_binds F names (grammar.After span) = omega arith
top_binds F names (grammar.Every span) = omega arith
top_binds F names tree =
    body_then (written_binds tree) (typed F names [] tree) (λ t. body_as (model.Computed t.formula nothing_kept) t.ty) (λ t is. typed_binds F names [] tree t is)

-- ---- levels

-- how many levels tokens open, and how many they close
abbrev opened_by : List Token → ℕ
opened_by [] = 0
opened_by (t ∷ tokens) = opens t + opened_by tokens

abbrev closed_by : List Token → ℕ
closed_by [] = 0
closed_by (t ∷ tokens) = closes t + closed_by tokens

opened-append : (xs ys : List Token) → opened_by (xs ++ ys) ≡ opened_by xs + opened_by ys
opened-append [] ys = omega arith
opened-append (x ∷ xs) ys = let e = opened-append xs ys in omega (arith, e)

closed-append : (xs ys : List Token) → closed_by (xs ++ ys) ≡ closed_by xs + closed_by ys
closed-append [] ys = omega arith
closed-append (x ∷ xs) ys = let e = closed-append xs ys in omega (arith, e)

-- where tokens aren't too deep, those that they leave open are at most 64
left_open : (tokens : List Token) (opened closed : ℕ) → opened ≤ closed + 64 → is_too_deep opened closed tokens ≡ false
    → opened + opened_by tokens ≤ closed + closed_by tokens + 64
left_open [] opened closed few is = omega arith
left_open (t ∷ tokens) opened closed few is =
    let parts = or_parts (nat_lt (closed + closes t + 64) (opened + opens t)) (is_too_deep (opened + opens t) (closed + closes t) tokens) is in
    let here = ltb-false (closed + closes t + 64) (opened + opens t) parts.0 in
    let rest = left_open tokens (opened + opens t) (closed + closes t) here parts.1 in
    omega (arith, rest)

-- the tokens leave so many levels open, at the least
abbrev Leaves : ℕ → List Token → Type 0
Leaves n tokens = closed_by tokens + n ≤ opened_by tokens

literal_leaves : (l : Literal) (tokens : List Token) → WritesLiteral l tokens → Leaves 0 tokens
literal_leaves (literals.Integer z) tokens w = rw w.2 (omega arith)
literal_leaves (literals.Bool true) tokens w = rw w (omega arith)
literal_leaves (literals.Bool false) tokens w = rw w (omega arith)
literal_leaves (literals.Text content) tokens w = rw w.0 (omega arith)
literal_leaves (literals.Referred name) tokens w = rw w.0 (omega arith)

time_closes : (time : grammar.Time) (t : Token) → WritesTime time t → closes t ≡ 0
time_closes time t (inl w) = rw w.2 refl
time_closes time t (inr w) = rw w.1 refl

steps_leave : (steps : List TimedLiteral) (tokens : List Token) → WritesSteps steps tokens → Leaves 0 tokens
steps_leave [] tokens w = absurd w
steps_leave (step ∷ []) tokens w =
    let time = time_closes step.time w.0 w.3 in
    let literal = literal_leaves step.literal w.1 w.4 in
    rw w.2 (omega (arith, time, literal))
steps_leave (step ∷ next ∷ steps) tokens w =
    let time = time_closes step.time w.0 w.4 in
    let literal = literal_leaves step.literal w.1 w.5 in
    let rest = steps_leave (next ∷ steps) w.2 w.6 in
    rw (w.3, opened-append, closed-append) (omega (arith, time, literal, rest))

any_steps_leave : (steps : List TimedLiteral) (tokens : List Token) → WritesAnySteps steps tokens → Leaves 0 tokens
any_steps_leave [] tokens w = rw w (omega arith)
any_steps_leave (step ∷ steps) tokens w = steps_leave (step ∷ steps) tokens w

mutual
  formula_leaves : (tree : Tree) (tokens : List Token) → Writes tree tokens → Leaves (written_binds tree) tokens
  formula_leaves (grammar.Literal literal) tokens w = literal_leaves literal tokens w
  formula_leaves (grammar.Name name) tokens w = rw w.0 (omega arith)
  formula_leaves (grammar.Call function arguments) tokens w =
      let inner = each_leaves arguments w.0 w.4 in
      rw (w.1, opened-append, closed-append) (omega (arith, inner))
  formula_leaves (grammar.If test a b) tokens w =
      let front = formula_leaves test w.0 w.4 in
      let middle = formula_leaves a w.1 w.5 in
      let back = formula_leaves b w.2 w.6 in
      simp (w.3, opened-append, closed-append) (omega (arith, front, middle, back))
  formula_leaves (grammar.Bind variable left body) tokens w =
      let front = formula_leaves left w.0 w.4 in
      let back = formula_leaves body w.1 w.5 in
      let one : opens (Word (codes "bind")) ≡ 1 = refl in
      rw (w.2, opened-append, closed-append) (omega (arith, one, front, back))
  formula_leaves (grammar.Join child) tokens w =
      let inner = formula_leaves child w.0 w.2 in
      rw (w.1, opened-append, closed-append) (omega (arith, inner))
  formula_leaves (grammar.Fold function first elements) tokens w =
      let front = literal_leaves first w.0 w.4 in
      let inner = any_leaves elements w.1 w.5 in
      simp (w.2, opened-append, closed-append) (omega (arith, front, inner))
  formula_leaves (grammar.At time) tokens w = let at = time_closes time w.0 w.2 in rw w.1 (omega (arith, at))
  formula_leaves grammar.Now tokens w = rw w (omega arith)
  formula_leaves (grammar.Steps first steps) tokens w =
      let front = literal_leaves first w.0 w.3 in
      let inner = any_steps_leave steps w.1 w.4 in
      simp (w.2, opened-append, closed-append) (omega (arith, front, inner))
  formula_leaves (grammar.Freeze child predicate) tokens w =
      let front = formula_leaves child w.0 w.3 in
      rw (w.1, opened-append, closed-append) (omega (arith, front))
  formula_leaves (grammar.After span) tokens w = let at = time_closes span w.0 w.2 in rw w.1 (omega (arith, at))
  formula_leaves (grammar.Every span) tokens w = let at = time_closes span w.0 w.2 in rw w.1 (omega (arith, at))

  each_leaves : (trees : Trees) (tokens : List Token) → WritesEach trees tokens → Leaves (written_binds_in_all trees) tokens
  each_leaves grammar.End tokens w = absurd w
  each_leaves (grammar.More first grammar.End) tokens w = let one = formula_leaves first tokens w in omega (arith, one)
  each_leaves (grammar.More first (grammar.More second rest)) tokens w =
      let front = formula_leaves first w.0 w.3 in
      let back = each_leaves (grammar.More second rest) w.1 w.4 in
      rw (w.2, opened-append, closed-append) (omega (arith, front, back))

  any_leaves : (trees : Trees) (tokens : List Token) → WritesAny trees tokens → Leaves (written_binds_in_all trees) tokens
  any_leaves grammar.End tokens w = rw w (omega arith)
  any_leaves (grammar.More first grammar.End) tokens w = let one = formula_leaves first tokens w in omega (arith, one)
  any_leaves (grammar.More first (grammar.More second rest)) tokens w =
      let front = formula_leaves first w.0 w.3 in
      let back = each_leaves (grammar.More second rest) w.1 w.4 in
      rw (w.2, opened-append, closed-append) (omega (arith, front, back))

-- ---- commands

tree_binds : (bytes name : List ℕ) (tree : Tree) → IsLine bytes (grammar.Let name tree) → written_binds tree ≤ 64
tree_binds bytes name tree h =
    let shallow = left_open h.tokens 0 0 (omega arith) (not_deep (is_too_deep 0 0 h.tokens) h.level) in
    let open_ones = formula_leaves tree h.writes.0 h.writes.3 in
    let opened : opened_by h.writes.0 ≤ opened_by h.tokens = rw h.writes.1 (omega arith) in
    let closed : closed_by h.tokens ≡ closed_by h.writes.0 = rw h.writes.1 (omega arith) in
    omega (arith, shallow, open_ones, opened, closed)
  where
    not_deep : (deep : std.Bool) → (IsTrue deep → ⊥) → deep ≡ false
    not_deep true none = absurd (none refl)
    not_deep false none = refl

-- a command, where there is one, has so many binds at most
abbrev Within : ℕ → Option Command → Type 0
Within n None = Unit {0}
Within n (Some c) = binds_of_command c ≤ n

then_within : {A : Type 0} (n : ℕ) (o : Option A) (next : A → Option Command) → ((x : A) → Within n (next x)) → Within n (and_then o next)
then_within n None next h = tt
then_within n (Some x) next h = h x

link_within : (n : ℕ) (k : Option Kind) (e : ℕ) (d : Declared) → Within n (link_of k e d)
link_within n None e d = tt
link_within n (Some (check.Expert t)) e d = go (same_ty d.ty t)
  where
    go : (same : std.Bool) → Within n (cond same (Some (check.Link e d.target)) None)
    go true = omega arith
    go false = tt
link_within n (Some k) e d = tt

declares_within : (n : ℕ) (name : List ℕ) (o : Option TypedBody) → BodyWithin n o → Within n (and_then o (λ t. Some (check.Declare name t.ty t.body)))
declares_within n name None h = tt
declares_within n name (Some t) h = h

-- the binds of a line that is written
abbrev line_binds : Line → ℕ
line_binds (grammar.Let name tree) = written_binds tree
line_binds line = 0

no_more : 0 ≤ 0
no_more = omega arith

expert_binds : (names : Names) (first : Literal) (f : FnRef) → BodyWithin 0 (expert_of names first f)
expert_binds names first f =
    body_then 0 (element_of f f.sig.takes) (λ t. and_then (literal_of_type names f.sig.gives first) (λ v. body_as (model.Expert f v [] 0) f.sig.gives))
    (λ t is. body_then 0 (literal_of_type names f.sig.gives first) (λ v. body_as (model.Expert f v [] 0) f.sig.gives) (λ v there. no_more))

command_within : (F : Meanings) (names : Names) (l : Line) → Within (line_binds l) (command_of F names l)
command_within F names (grammar.Var name t first) = then_within 0 (literal_of_type names t first) _ (λ v. no_more)
command_within F names (grammar.Set name literal) =
    then_within 0 (find_declared names name) _
    (λ d. then_within 0 (literal_of_type names d.ty literal) (λ v. Some (check.Assign d.target v)) (λ v. no_more))
command_within F names (grammar.Let name tree) = declares_within (written_binds tree) name (typed_top F names tree) (top_binds F names tree)
command_within F names (grammar.Expert name function first) =
    then_within 0 (F.named function) _ (λ f. declares_within 0 name (expert_of names first f) (expert_binds names first f))
command_within F names (grammar.Link expert name) =
    then_within 0 (find_declared names expert) _
    (λ e. then_within 0 (find_declared names name) (λ d. link_of (kind_of names expert) e.target d) (λ d. link_within 0 (kind_of names expert) e.target d))
command_within F names (grammar.Unlink expert name) =
    then_within 0 (find_declared names expert) _
    (λ e. then_within 0 (find_declared names name) (λ d. Some (check.Unlink e.target d.target)) (λ d. no_more))
command_within F names (grammar.Stale expert) = then_within 0 (find_declared names expert) _ (λ e. no_more)
command_within F names (grammar.Grab name bind) = then_within 0 (find_declared names bind) _ (λ b. no_more)
command_within F names (grammar.Observe observer name) = then_within 0 (find_declared names name) _ (λ d. no_more)
command_within F names (grammar.Unobserve observer) = no_more
command_within F names (grammar.Watch observer) = no_more
command_within F names (grammar.Show observer) = no_more
command_within F names (grammar.Advance span) = no_more
command_within F names (grammar.AdvanceTo time) = no_more
command_within F names grammar.Stabilize = no_more

line_few : (bytes : List ℕ) (l : Line) → IsLine bytes l → line_binds l ≤ 64
line_few bytes (grammar.Let name tree) h = tree_binds bytes name tree h
line_few bytes l h = omega arith

pub few_binds : FewBinds
few_binds F names bytes l command h e =
    let within : Within (line_binds l) (Some command) = rw e at (command_within F names l) in
    let few = line_few bytes l h in
    omega (arith, within, few)
