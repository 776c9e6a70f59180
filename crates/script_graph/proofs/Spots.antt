-- How many calls one visit of each place and each name makes: those of a state that call functions, whatever the values of the binds round them.
use Rattle.std.proofs.Common.{◌≡◌, inr, ℕ, zero, suc, true, ◌+◌, ◌≤◌, List, [], ◌∷◌, ◌++◌, map, length, Option, None, Some, sym, subst, arith, slice_get}
use Rattle.std.specs.List.{sum_by}
use Rattle.std.proofs.lemmas.List.Sums.{sum_by-append, sum_by-cons}
use Rattle.inc_terms.proofs.Plan.{among_left, among_right}
use Rattle.inc_value.specs.Choice.{Among, and_then}
use Rattle.script_model.specs.Formula.{State, Entry, Body, Formula, Formulas, body_at, formula_of_body, Literal, Name, Bound, Apply, Fold, If, Join, Bind, At, Steps, Now, End, More, Variable, Computed, Freeze, After, Every, Expert, Grab}
use Rattle.script_model.specs.Need.{Edge, Argument, Test, Then, Else, Child, Left, Inside, argument_at, part_at, part_of, formula_at}
use Rattle.script_model.specs.Laws.{bare}
use Rattle.script_model.specs.Values as value
use Rattle.script_model.specs.Run.{calls_in, calls_in_all, count_in, calls_of_body, most_calls}
use Rattle.formula_elab.specs.Today.{IsLaidOut}
use Rattle.script_graph.specs.Today.{AllPlain}
use Rattle.script_graph.proofs.Plain.{binds_round, laid_within}
use Rattle.transfer.proofs.Places.{then_some}
use Rattle.transfer.proofs.Typed.{body_entry}

-- a name, or a place by its bare path, and how many calls of its function one visit makes
pub record Spot : Type 0 where
  pub owner : ℕ
  pub path : Option (List Edge)
  pub cost : ℕ

-- into a bind's body, whatever its value
abbrev pub within : Edge
within = bare (Inside (value.Bool true))

-- how many calls they make in all
abbrev pub costs : List Spot → ℕ
costs spots = sum_by (λ (y : Spot). y.cost) spots

-- ---- of a formula

abbrev mutual
  -- the places that call functions, of a formula that stands at a path
  pub spots_in : ℕ → List Edge → Formula → List Spot
  spots_in owner path (Apply f arguments) = record { owner = owner; path = Some path; cost = 1 } ∷ spots_each owner path 0 arguments
  spots_in owner path (Fold f first elements) =
      record { owner = owner; path = Some path; cost = count_in elements } ∷ spots_each owner path 0 elements
  spots_in owner path (If test a b) =
      spots_in owner (Test ∷ path) test ++ (spots_in owner (Then ∷ path) a ++ spots_in owner (Else ∷ path) b)
  spots_in owner path (Join child) = spots_in owner (Child ∷ path) child
  spots_in owner path (Bind left body) = spots_in owner (Left ∷ path) left ++ spots_in owner (within ∷ path) body
  spots_in owner path f = []

  -- those of its arguments, from the k-th on
  pub spots_each : ℕ → List Edge → ℕ → Formulas → List Spot
  spots_each owner path k End = []
  spots_each owner path k (More f rest) = spots_in owner (Argument k ∷ path) f ++ spots_each owner path (suc k) rest

mutual
  formula_costs : (owner : ℕ) (path : List Edge) (f : Formula) → costs (spots_in owner path f) ≤ calls_in f
  formula_costs owner path (Apply f arguments) =
      let rest = each_costs owner path 0 arguments in
      let all = sum_by-cons (λ (y : Spot). y.cost) (record { owner = owner; path = Some path; cost = 1 }) (spots_each owner path 0 arguments) in
      omega (arith, rest, all)
  formula_costs owner path (Fold f first elements) =
      let rest = each_costs owner path 0 elements in
      let all = sum_by-cons (λ (y : Spot). y.cost) (record { owner = owner; path = Some path; cost = count_in elements }) (spots_each owner path 0 elements) in
      omega (arith, rest, all)
  formula_costs owner path (If test a b) =
      let first = formula_costs owner (Test ∷ path) test in
      let second = formula_costs owner (Then ∷ path) a in
      let third = formula_costs owner (Else ∷ path) b in
      let sides = sum_by-append (λ (y : Spot). y.cost) (spots_in owner (Then ∷ path) a) (spots_in owner (Else ∷ path) b) in
      let all = sum_by-append (λ (y : Spot). y.cost) (spots_in owner (Test ∷ path) test)
      (spots_in owner (Then ∷ path) a ++ spots_in owner (Else ∷ path) b) in
      omega (arith, first, second, third, sides, all)
  formula_costs owner path (Join child) = formula_costs owner (Child ∷ path) child
  formula_costs owner path (Bind left body) =
      let first = formula_costs owner (Left ∷ path) left in
      let second = formula_costs owner (within ∷ path) body in
      let all = sum_by-append (λ (y : Spot). y.cost) (spots_in owner (Left ∷ path) left) (spots_in owner (within ∷ path) body) in
      omega (arith, first, second, all)
  formula_costs owner path f = omega arith

  each_costs : (owner : ℕ) (path : List Edge) (k : ℕ) (fs : Formulas) → costs (spots_each owner path k fs) ≤ calls_in_all fs
  each_costs owner path k End = omega arith
  each_costs owner path k (More f rest) =
      let here = formula_costs owner (Argument k ∷ path) f in
      let there = each_costs owner path (suc k) rest in
      let all = sum_by-append (λ (y : Spot). y.cost) (spots_in owner (Argument k ∷ path) f) (spots_each owner path (suc k) rest) in
      omega (arith, here, there, all)

module _ (owner : ℕ) (y : Spot) where
  among_same : (path : List Edge) (f g : Formula) → Some f ≡ Some g → Among y (spots_in owner path g) → Among y (spots_in owner path f)
  among_same path f g e among = let same : g ≡ f = cc in subst (λ (h : Formula). Among y (spots_in owner path h)) same among

  among_each : (path : List Edge) (k : ℕ) (fs : Formulas) (j : ℕ) (g : Formula) → argument_at fs j ≡ Some g
      → Among y (spots_in owner (Argument (k + j) ∷ path) g) → Among y (spots_each owner path k fs)
  among_each path k End j g at among = absurd (cc)
  among_each path k (More f rest) zero g at among =
      let here : k + 0 ≡ k = omega arith in
      among_left y (spots_in owner (Argument k ∷ path) f) (spots_each owner path (suc k) rest)
      (among_same (Argument k ∷ path) f g at (subst (λ (i : ℕ). Among y (spots_in owner (Argument i ∷ path) g)) here among))
  among_each path k (More f rest) (suc j) g at among =
      let next : k + suc j ≡ suc k + j = omega arith in
      among_right y (spots_in owner (Argument k ∷ path) f) (spots_each owner path (suc k) rest)
      (among_each path (suc k) rest j g at (subst (λ (i : ℕ). Among y (spots_in owner (Argument i ∷ path) g)) next among))

  among_first : (path : List Edge) (fs : Formulas) (j : ℕ) (g : Formula) → argument_at fs j ≡ Some g
      → Among y (spots_in owner (Argument j ∷ path) g) → Among y (spots_each owner path 0 fs)
  among_first path fs j g at among =
      let same : j ≡ 0 + j = omega arith in
      among_each path 0 fs j g at (subst (λ (i : ℕ). Among y (spots_in owner (Argument i ∷ path) g)) same among)

  -- a part's places are places of the formula
  among_part : (binds : ℕ) (path : List Edge) (h : Formula) (edge : Edge) (g : Formula) → part_at h edge ≡ Some g → IsLaidOut binds h
      → Among y (spots_in owner (bare edge ∷ path) g) → Among y (spots_in owner path h)
  among_part binds path (Apply f arguments) (Argument j) g at fine among = inr (among_first path arguments j g at among)
  among_part binds path (Apply f arguments) edge g at fine among = absurd (cc)
  among_part binds path (Fold f first elements) (Argument j) g at fine among = inr (among_first path elements j g at among)
  among_part binds path (Fold f first elements) edge g at fine among = absurd (cc)
  among_part binds path (If test a b) Test g at fine among =
      among_left y (spots_in owner (Test ∷ path) test) (spots_in owner (Then ∷ path) a ++ spots_in owner (Else ∷ path) b)
      (among_same (Test ∷ path) test g at among)
  among_part binds path (If test a b) Then g at fine among =
      among_right y (spots_in owner (Test ∷ path) test) (spots_in owner (Then ∷ path) a ++ spots_in owner (Else ∷ path) b)
      (among_left y (spots_in owner (Then ∷ path) a) (spots_in owner (Else ∷ path) b) (among_same (Then ∷ path) a g at among))
  among_part binds path (If test a b) Else g at fine among =
      among_right y (spots_in owner (Test ∷ path) test) (spots_in owner (Then ∷ path) a ++ spots_in owner (Else ∷ path) b)
      (among_right y (spots_in owner (Then ∷ path) a) (spots_in owner (Else ∷ path) b) (among_same (Else ∷ path) b g at among))
  among_part binds path (If test a b) edge g at fine among = absurd (cc)
  among_part binds path (Join child) Child g at fine among = among_same (Child ∷ path) child g at among
  among_part binds path (Join child) edge g at fine among = absurd (cc)
  among_part binds path (Bind left body) Left g at fine among =
      among_left y (spots_in owner (Left ∷ path) left) (spots_in owner (within ∷ path) body) (among_same (Left ∷ path) left g at among)
  among_part binds path (Bind left body) (Inside v) g at fine among =
      among_right y (spots_in owner (Left ∷ path) left) (spots_in owner (within ∷ path) body) (among_same (within ∷ path) body g at among)
  among_part binds path (Bind left body) edge g at fine among = absurd (cc)
  among_part binds path (Literal v) edge g at fine among = absurd (cc)
  among_part binds path (Name n) edge g at fine among = absurd (cc)
  among_part binds path (Bound k) edge g at fine among = absurd (cc)
  among_part binds path (At time) edge g at fine among = absurd (cc)
  among_part binds path (Steps v steps) edge g at fine among = absurd (cc)
  among_part binds path Now edge g at fine among = absurd (cc)

  -- and so those of a part further in
  among_whole : (f : Formula) → IsLaidOut 0 f → (path : List Edge) (g : Formula) → part_of f path ≡ Some g
      → Among y (spots_in owner (map bare path) g) → Among y (spots_in owner [] f)
  among_whole f fine [] g at among = among_same [] f g at among
  among_whole f fine (edge ∷ path) g at among =
      let h = then_some (part_of f path) (λ h. part_at h edge) g at in
      among_whole f fine path h.0 h.1 (among_part (binds_round path) (map bare path) h.0 edge g h.2 (laid_within f fine path h.0 h.1) among)

-- ---- of a state

abbrev spots_of_body : ℕ → Body → List Spot
spots_of_body owner (Computed f kept) = spots_in owner [] f
spots_of_body owner (Freeze child predicate frozen) = record { owner = owner; path = None; cost = 1 } ∷ spots_in owner [] child
spots_of_body owner (Expert f first links stale) = record { owner = owner; path = None; cost = length links } ∷ []
spots_of_body owner body = []

-- those of declarations, from the n-th on
abbrev spots_from : ℕ → List Entry → List Spot
spots_from n [] = []
spots_from n (e ∷ es) = spots_of_body n e.body ++ spots_from (suc n) es

abbrev pub spots : State → List Spot
spots s = spots_from 0 s.entries

body_costs : (n : ℕ) (b : Body) → costs (spots_of_body n b) ≤ calls_of_body b
body_costs n (Computed f kept) = formula_costs n [] f
body_costs n (Freeze child predicate frozen) =
    let rest = formula_costs n [] child in
    let all = sum_by-cons (λ (y : Spot). y.cost) (record { owner = n; path = None; cost = 1 }) (spots_in n [] child) in
    omega (arith, rest, all)
body_costs n (Expert f first links stale) =
    let all = sum_by-cons (λ (y : Spot). y.cost) (record { owner = n; path = None; cost = length links }) [] in
    omega (arith, all)
body_costs n b = omega arith

from_costs : (n : ℕ) (es : List Entry) → costs (spots_from n es) ≤ sum_by (λ (e : Entry). calls_of_body e.body) es
from_costs n [] = omega arith
from_costs n (e ∷ es) =
    let here = body_costs n e.body in
    let rest = from_costs (suc n) es in
    let all = sum_by-append (λ (y : Spot). y.cost) (spots_of_body n e.body) (spots_from (suc n) es) in
    let most = sum_by-cons (λ (e : Entry). calls_of_body e.body) e es in
    omega (arith, here, rest, all, most)

-- one visit of each makes no more calls than are allowed
pub most_costs : (s : State) → costs (spots s) ≤ most_calls s
most_costs s = from_costs 0 s.entries

among_from : (y : Spot) (n : ℕ) (es : List Entry) (j : ℕ) (e : Entry) → slice_get es j ≡ Some e → Among y (spots_of_body (n + j) e.body)
    → Among y (spots_from n es)
among_from y n [] j e at among = absurd (cc)
among_from y n (d ∷ es) zero e at among =
    let here : n + 0 ≡ n = omega arith in
    let same : e ≡ d = cc in
    among_left y (spots_of_body n d.body) (spots_from (suc n) es)
    (subst (λ (c : Entry). Among y (spots_of_body n c.body)) same (subst (λ (i : ℕ). Among y (spots_of_body i e.body)) here among))
among_from y n (d ∷ es) (suc j) e at among =
    let next : n + suc j ≡ suc n + j = omega arith in
    among_right y (spots_of_body n d.body) (spots_from (suc n) es)
    (among_from y (suc n) es j e at (subst (λ (i : ℕ). Among y (spots_of_body i e.body)) next among))

-- the spots of what is declared are those of the state
pub body_among : (s : State) (y : Spot) (owner : ℕ) (b : Body) → body_at s owner ≡ Some b → Among y (spots_of_body owner b) → Among y (spots s)
body_among s y owner b is among =
    let e = body_entry s owner b is in
    let same : owner ≡ 0 + owner = omega arith in
    among_from y 0 s.entries owner e.0 e.1
    (subst (λ (i : ℕ). Among y (spots_of_body i e.0.body)) same
    (subst (λ (c : Body). Among y (spots_of_body owner c)) (sym e.2) among))

-- the places of what stands at a place are those of the state
pub place_among : (s : State) → AllPlain s → (y : Spot) (owner : ℕ) (path : List Edge) (g : Formula) → formula_at s owner path ≡ Some g
    → Among y (spots_in owner (map bare path) g) → Among y (spots s)
place_among s plain y owner path g at among =
    let b = then_some (body_at s owner) (λ b. and_then (formula_of_body b) (λ f. part_of f path)) g at in
    body_among s y owner b.0 b.1 (by_body b.0 b.1 b.2)
  where
    by_body : (b : Body) → body_at s owner ≡ Some b → and_then (formula_of_body b) (λ f. part_of f path) ≡ Some g → Among y (spots_of_body owner b)
    by_body (Computed f kept) is part = among_whole owner y f (plain owner (Computed f kept) is).0 path g part among
    by_body (Variable v) is part = absurd (cc)
    by_body (Grab bind v is_live) is part = absurd (cc)
    by_body (After time) is part = absurd (cc)
    by_body (Every base span) is part = absurd (cc)
    by_body (Freeze child predicate frozen) is part =
        inr (among_whole owner y child (plain owner (Freeze child predicate frozen) is).0 path g part among)
    by_body (Expert f first links stale) is part = absurd (cc)
