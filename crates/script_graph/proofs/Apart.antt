-- Parts of what is declared have other nodes than names have: what is no bare name has that of a name of its own only where it is the name's whole
-- formula, or the right side that a grab is of.
use Rattle.std.proofs.Common.{◌≡◌, ◌⊎◌, inl, inr, ℕ, zero, suc, ◌+◌, ◌<◌, ◌≤◌, Bool, true, false, List, [], ◌∷◌, ◌++◌, map, length, Option, None, Some, refl, ap, sym, subst, ◌∙◌, arith, slice_get}
use Rattle.std.specs.Prelude as std
use Rattle.std.proofs.lemmas.Bool.{cases_lt}
use Rattle.std.proofs.lemmas.Option.{none-some}
use Rattle.inc_value.specs.Choice.{and_then, Every as Each}
use Rattle.inc_value.specs.declared.node.NodeId.{NodeId}
use Rattle.inc_value.specs.declared.outcome.Outcome.TheVariants as outcome
use Rattle.inc_value.specs.declared.ty.Ty.{Ty}
use Rattle.inc_terms.proofs.Same.{outcome_decides}
use Rattle.inc_terms.specs.Graph.{Graph, Row, Built as BuiltFor}
use Rattle.inc_terms.specs.Local.{Scoped}
use Rattle.inc_terms.specs.Same.{same_outcome}
use Rattle.inc_terms.specs.Term as term
use Rattle.inc_terms.specs.Term.{Term, Terms, Functions}
use Rattle.script_model.specs.Formula as script
use Rattle.script_model.specs.Formula.{State, Body, Formula, Formulas, Meanings, body_at, Literal, Name, Bound, Apply, Fold, If, Join, Bind, At, Steps, Now, End, More, Variable, Computed, Freeze, After, Every, Expert, Grab}
use Rattle.script_model.specs.Leaves.{EveryLeaf, EveryLeafOfAll}
use Rattle.script_model.specs.Need.{Edge, Argument, Test, Then, Else, Child, Left, Inside, argument_at, environment, part_at, formula_at}
use Rattle.script_model.specs.Valid.{ValueHasType, KeepToTypes, Valid}
use Rattle.script_model.specs.Values.{Value, Int, Bool as Truth, Text, Reference}
use Rattle.script_graph.specs.Kept.{node_in}
use Rattle.script_graph.specs.Today.{AllPlain, IsDeclaredTarget, IsEarlierTarget, IsPartWithin, IsWithin, OwnNodesOf}
use Rattle.script_graph.proofs.Owning.{HasOwnNode, IsOutside, node_above, outside_above, own_kid, own_name, own_or_grab, own_part}
use Rattle.script_graph.proofs.Rooting.{scoped_root, top_row}
use Rattle.transfer.specs.Both.{Both, graph_value}
use Rattle.transfer.specs.Cycles.{IsForm, IsOwnValue, PartsApart}
use Rattle.transfer.specs.Items.{root_at, node_at, around, scope_at}
use Rattle.transfer.specs.Keeping.{NodesApart}
use Rattle.transfer.specs.Shows.{Mode, Built, Binding, Declares, Fits, IsOwn, Opens, Shows, ShowsAll, graph_step, plain}
use Rattle.transfer.proofs.Places.{if_true, opened, part_above, place_shows, then_some}
use Rattle.transfer.proofs.Staying.{IsOther, other_row, same_own}
use Rattle.transfer.proofs.Typed.{grab_typed}

-- ---- forms, and how many parts they have

-- which form with parts the formula is of, if any
abbrev form : Formula → ℕ
form (Apply f arguments) = 1
form (Fold f first elements) = 2
form (If test a b) = 3
form (Join child) = 4
form (Bind left body) = 5
form f = 0

-- and the term
abbrev kind : Term → ℕ
kind (term.Map f ts) = 1
kind (term.Fold f v ts) = 2
kind (term.If t a b) = 3
kind (term.Join t) = 4
kind (term.Bind l f ts) = 5
kind t = 0

abbrev mutual
  -- how many parts the formula has outside the bodies of its binds, itself with them
  size : Formula → ℕ
  size (Apply f arguments) = suc (sizes arguments)
  size (Fold f first elements) = suc (sizes elements)
  size (If test a b) = suc (size test + (size a + size b))
  size (Join child) = suc (size child)
  size (Bind left body) = suc (size left)
  size f = 1

  sizes : Formulas → ℕ
  sizes End = 0
  sizes (More f rest) = size f + sizes rest

leaf_size : (f : Formula) → form f ≡ 0 → size f ≡ 1
leaf_size (Apply f arguments) e = absurd (cc)
leaf_size (Fold f first elements) e = absurd (cc)
leaf_size (If test a b) e = absurd (cc)
leaf_size (Join child) e = absurd (cc)
leaf_size (Bind left body) e = absurd (cc)
leaf_size f e = refl

argument_size : (fs : Formulas) (j : ℕ) (f : Formula) → argument_at fs j ≡ Some f → size f ≤ sizes fs
argument_size End j f e = absurd (cc)
argument_size (More g fs) zero f e = let same : g ≡ f = cc in let sizes_are : size g ≡ size f = ap size same in omega (arith, sizes_are)
argument_size (More g fs) (suc j) f e = let rest = argument_size fs j f e in omega (arith, rest)

-- a part outside the bodies of binds has fewer
part_size : (edge : Edge) (path : List Edge) → IsOutside (edge ∷ path) → (g f : Formula) → part_at g edge ≡ Some f → size f < size g
part_size (Inside v) path out g f e = absurd out
part_size (Argument j) path out (Apply h arguments) f e = let less = argument_size arguments j f e in omega (arith, less)
part_size (Argument j) path out (Fold h first elements) f e = let less = argument_size elements j f e in omega (arith, less)
part_size Test path out (If test a b) f e = let same : test ≡ f = cc in let sizes_are : size test ≡ size f = ap size same in omega (arith, sizes_are)
part_size Then path out (If test a b) f e = let same : a ≡ f = cc in let sizes_are : size a ≡ size f = ap size same in omega (arith, sizes_are)
part_size Else path out (If test a b) f e = let same : b ≡ f = cc in let sizes_are : size b ≡ size f = ap size same in omega (arith, sizes_are)
part_size Child path out (Join child) f e = let same : child ≡ f = cc in let sizes_are : size child ≡ size f = ap size same in omega (arith, sizes_are)
part_size Left path out (Bind left body) f e = let same : left ≡ f = cc in let sizes_are : size left ≡ size f = ap size same in omega (arith, sizes_are)
part_size edge path out g f e = absurd (cc)

-- a formula without parts has none
no_part : (g : Formula) (edge : Edge) (f : Formula) → form g ≡ 0 → part_at g edge ≡ Some f → ⊥
no_part (Apply h arguments) edge f e is = absurd (cc)
no_part (Fold h first elements) edge f e is = absurd (cc)
no_part (If test a b) edge f e is = absurd (cc)
no_part (Join child) edge f e is = absurd (cc)
no_part (Bind left body) edge f e is = absurd (cc)
no_part g edge f e is = absurd (cc)

module _ (P R : ℕ → Type 0) where
  argument_leaves : (fs : Formulas) (j : ℕ) (f : Formula) → argument_at fs j ≡ Some f → EveryLeafOfAll P R fs → EveryLeaf P R f
  argument_leaves End j f e h = absurd (cc)
  argument_leaves (More g fs) zero f e h = let same : g ≡ f = cc in subst (λ (x : Formula). EveryLeaf P R x) same h.0
  argument_leaves (More g fs) (suc j) f e h = argument_leaves fs j f e h.1

  -- what holds of all leaves holds of a part's
  part_leaves : (edge : Edge) (g f : Formula) → part_at g edge ≡ Some f → EveryLeaf P R g → EveryLeaf P R f
  part_leaves (Argument j) (Apply a arguments) f e h = argument_leaves arguments j f e h
  part_leaves (Argument j) (Fold a first elements) f e h = argument_leaves elements j f e h.1
  part_leaves Test (If test a b) f e h = let same : test ≡ f = cc in subst (λ (x : Formula). EveryLeaf P R x) same h.0
  part_leaves Then (If test a b) f e h = let same : a ≡ f = cc in subst (λ (x : Formula). EveryLeaf P R x) same h.1
  part_leaves Else (If test a b) f e h = let same : b ≡ f = cc in subst (λ (x : Formula). EveryLeaf P R x) same h.2
  part_leaves Child (Join child) f e h = let same : child ≡ f = cc in subst (λ (x : Formula). EveryLeaf P R x) same h
  part_leaves Left (Bind left body) f e h = let same : left ≡ f = cc in subst (λ (x : Formula). EveryLeaf P R x) same h.0
  part_leaves (Inside v) (Bind left body) f e h = let same : body ≡ f = cc in subst (λ (x : Formula). EveryLeaf P R x) same h.1
  part_leaves edge g f e h = absurd (cc)

-- ---- paths

module _ (s : State) (owner : ℕ) (p : List Edge) where
  -- something stands above what stands there
  formula_above : (es : List Edge) (f : Formula) → formula_at s owner (es ++ p) ≡ Some f → (g : Formula) × (formula_at s owner p ≡ Some g)
  formula_above [] f is = (f, is)
  formula_above (edge ∷ es) f is = let above = part_above s owner (es ++ p) edge f is in formula_above es above.0 above.1

  module _ (g : Formula) (there : formula_at s owner p ≡ Some g) where
    first_part : (edge : Edge) (f : Formula) → formula_at s owner (edge ∷ p) ≡ Some f → part_at g edge ≡ Some f
    first_part edge f is =
        let above = part_above s owner p edge f is in
        let same : above.0 ≡ g = (let e : Some above.0 ≡ Some g = sym above.1 ∙ there in cc) in
        subst (λ (h : Formula). part_at h edge ≡ Some f) same above.2

    -- what stands beneath has fewer parts
    beneath_size : (edge : Edge) (es : List Edge) (f : Formula) → IsOutside (edge ∷ es) → formula_at s owner (edge ∷ (es ++ p)) ≡ Some f
        → size f < size g
    beneath_size edge [] f out is = part_size edge [] out g f (first_part edge f is)
    beneath_size edge (e ∷ es) f out is =
        let above = part_above s owner (e ∷ (es ++ p)) edge f is in
        let more = beneath_size e es above.0 (outside_above edge (e ∷ es) out) above.1 in
        let less = part_size edge (e ∷ es) out above.0 f above.2 in
        omega (arith, more, less)

    -- nothing stands beneath what has no parts
    none_beneath : form g ≡ 0 → (edge : Edge) (es : List Edge) (f : Formula) → formula_at s owner (edge ∷ (es ++ p)) ≡ Some f → ⊥
    none_beneath leaf edge [] f is = no_part g edge f leaf (first_part edge f is)
    none_beneath leaf edge (e ∷ es) f is = let above = part_above s owner (e ∷ (es ++ p)) edge f is in none_beneath leaf e es above.0 above.1

    beneath_leaves : (P R : ℕ → Type 0) → EveryLeaf P R g → (es : List Edge) (f : Formula) → formula_at s owner (es ++ p) ≡ Some f → EveryLeaf P R f
    beneath_leaves P R h [] f is =
        let same : g ≡ f = (let e : Some g ≡ Some f = sym there ∙ is in cc) in
        subst (λ (x : Formula). EveryLeaf P R x) same h
    beneath_leaves P R h (edge ∷ es) f is =
        let above = part_above s owner (es ++ p) edge f is in
        part_leaves P R edge above.0 f above.2 (beneath_leaves P R h es above.0 above.1)

module _ (x : Both) (owner : ℕ) where
  nodes_above : (p es : List Edge) (n : NodeId) → node_at x owner (es ++ p) ≡ Some n → (m : NodeId) × (node_at x owner p ≡ Some m)
  nodes_above p [] n at = (n, at)
  nodes_above p (edge ∷ es) n at = let m = node_above x (λ q. Unit {0}) owner edge (es ++ p) n at in nodes_above p es m.0 m.1

  scope_beneath : (p es : List Edge) → IsOutside es → scope_at x owner (es ++ p) ≡ scope_at x owner p
  scope_beneath p [] out = refl
  scope_beneath p (Inside v ∷ es) out = absurd out
  scope_beneath p (Argument j ∷ es) out = scope_beneath p es out
  scope_beneath p (Test ∷ es) out = scope_beneath p es out
  scope_beneath p (Then ∷ es) out = scope_beneath p es out
  scope_beneath p (Else ∷ es) out = scope_beneath p es out
  scope_beneath p (Child ∷ es) out = scope_beneath p es out
  scope_beneath p (Left ∷ es) out = scope_beneath p es out

  around_beneath : (p es : List Edge) → IsOutside es → around x owner (es ++ p) ≡ around x owner p
  around_beneath p [] out = refl
  around_beneath p (Inside v ∷ es) out = absurd out
  around_beneath p (Argument j ∷ es) out = around_beneath p es out
  around_beneath p (Test ∷ es) out = around_beneath p es out
  around_beneath p (Then ∷ es) out = around_beneath p es out
  around_beneath p (Else ∷ es) out = around_beneath p es out
  around_beneath p (Child ∷ es) out = around_beneath p es out
  around_beneath p (Left ∷ es) out = around_beneath p es out

  scope_outside : (path : List Edge) → IsOutside path → scope_at x owner path ≡ None
  scope_outside [] out = refl
  scope_outside (Inside v ∷ es) out = absurd out
  scope_outside (Argument j ∷ es) out = scope_outside es out
  scope_outside (Test ∷ es) out = scope_outside es out
  scope_outside (Then ∷ es) out = scope_outside es out
  scope_outside (Else ∷ es) out = scope_outside es out
  scope_outside (Child ∷ es) out = scope_outside es out
  scope_outside (Left ∷ es) out = scope_outside es out

  -- a variable round a place is that of a bind round it
  abbrev IsAround : List Edge → Binding → Type 0
  IsAround path b =
      (es : List Edge) × (v : Value) × (rest : List Edge) × (path ≡ es ++ (Inside v ∷ rest)) × (b.mode ≡ Built (node_at x owner rest))

  further : (edge : Edge) (path : List Edge) (b : Binding) → IsAround path b → IsAround (edge ∷ path) b
  further edge path b (es, v, rest, e, is) = (edge ∷ es, v, rest, ap (λ (p : List Edge). edge ∷ p) e, is)

  around_at : (path : List Edge) (j : ℕ) (b : Binding) → slice_get (around x owner path) j ≡ Some b → IsAround path b
  around_at [] j b is = absurd (cc)
  around_at (Inside v ∷ path) zero b is =
      ([], v, path, refl, (let e : record { value = v; mode = Built (node_at x owner path) } ≡ b = cc in sym (ap (λ (c : Binding). c.mode) e)))
  around_at (Inside v ∷ path) (suc j) b is = further (Inside v) path b (around_at path j b is)
  around_at (Argument k ∷ path) j b is = further (Argument k) path b (around_at path j b is)
  around_at (Test ∷ path) j b is = further Test path b (around_at path j b is)
  around_at (Then ∷ path) j b is = further Then path b (around_at path j b is)
  around_at (Else ∷ path) j b is = further Else path b (around_at path j b is)
  around_at (Child ∷ path) j b is = further Child path b (around_at path j b is)
  around_at (Left ∷ path) j b is = further Left path b (around_at path j b is)

-- a path leads into no bind's body, or there is an innermost one
abbrev IsSplit : List Edge → Type 0
IsSplit path = IsOutside path ⊎ ((es : List Edge) × (v : Value) × (rest : List Edge) × IsOutside es × (path ≡ es ++ (Inside v ∷ rest)))

longer : (edge : Edge) → ((es : List Edge) → IsOutside es → IsOutside (edge ∷ es)) → (path : List Edge) → IsSplit path → IsSplit (edge ∷ path)
longer edge more path (inl out) = inl (more path out)
longer edge more path (inr (es, v, rest, out, e)) = inr (edge ∷ es, v, rest, more es out, ap (λ (p : List Edge). edge ∷ p) e)

split : (path : List Edge) → IsSplit path
split [] = inl tt
split (Inside v ∷ path) = inr ([], v, path, tt, refl)
split (Argument j ∷ path) = longer (Argument j) (λ es out. out) path (split path)
split (Test ∷ path) = longer Test (λ es out. out) path (split path)
split (Then ∷ path) = longer Then (λ es out. out) path (split path)
split (Else ∷ path) = longer Else (λ es out. out) path (split path)
split (Child ∷ path) = longer Child (λ es out. out) path (split path)
split (Left ∷ path) = longer Left (λ es out. out) path (split path)

regroup : (es : List Edge) (v : Value) (rest : List Edge) → es ++ (Inside v ∷ rest) ≡ (es ++ (Inside v ∷ [])) ++ rest
regroup [] v rest = refl
regroup (e ∷ es) v rest = ap (λ (p : List Edge). e ∷ p) (regroup es v rest)

-- a property of all values round a place is one of the value of a bind round it
value_around : (Q : Value → Type 0) (es : List Edge) (v : Value) (rest : List Edge) → Each Q (environment (es ++ (Inside v ∷ rest))) → Q v
value_around Q [] v rest h = h.0
value_around Q (Inside w ∷ es) v rest h = value_around Q es v rest h.1
value_around Q (Argument j ∷ es) v rest h = value_around Q es v rest h
value_around Q (Test ∷ es) v rest h = value_around Q es v rest h
value_around Q (Then ∷ es) v rest h = value_around Q es v rest h
value_around Q (Else ∷ es) v rest h = value_around Q es v rest h
value_around Q (Child ∷ es) v rest h = value_around Q es v rest h
value_around Q (Left ∷ es) v rest h = value_around Q es v rest h

-- a value of a type refers to a name of its own
typed_own : (s : State) (n : ℕ) (v : Value) (t : Ty) → ValueHasType s n v t → IsOwnValue s v
typed_own s n (Int z) t h = tt
typed_own s n (Truth b) t h = tt
typed_own s n (Text bytes) t h = tt
typed_own s n (Reference a base) t h = (h.1.entry, h.1.stands, h.1.own)

-- ---- formulas of one scope with one node

module _ (x : Both) (S : Option NodeId) (E : List Binding) (inner : (j : ℕ) (b : Binding) → slice_get E j ≡ Some b → b.mode ≡ Built S) where
  -- what the node of a form reads as
  abbrev Head : Term → Formula → Type 0
  Head t g = (u : Term) × Opens x.graph (Built S) t u × (kind u ≡ form g)

  head : (t : Term) (g : Formula) → IsForm g → Shows x (Built S) E t g → Head t g
  head t (Name k) is h = absurd is
  head t (Bound j) is h = (
    term.Const (graph_value x.nodes h.0.value),
    subst (λ (m : Mode). Opens x.graph m t (term.Const (graph_value x.nodes h.0.value))) (inner j h.0 h.1) h.2,
    refl,
  )
  head t (Literal v) is h = (term.Const (graph_value x.nodes v), h, refl)
  head t (Apply f arguments) is h = (term.Map f h.0, h.1, refl)
  head t (Fold f first elements) is h = (term.Fold f (graph_value x.nodes first) h.0, h.1, refl)
  head t (If test a b) is h = (term.If h.0 h.1 h.2, h.3, refl)
  head t (Join child) is h = (term.Join h.0, h.1, refl)
  head t (Bind left body) is h = (term.Bind h.0 h.1 h.2, h.3, refl)
  head t (At time) is h = (term.At (std.pos time), h, refl)
  head t (Steps v steps) is h = (term.Steps (graph_value x.nodes v) (map (graph_step x.nodes) steps), h, refl)
  head t Now is h = (term.Now, h, refl)

  same_opened : (t u v : Term) → Opens x.graph (Built S) t u → Opens x.graph (Built S) t v → u ≡ v
  same_opened t u v (n, r, ref, row, scope, def) (m, q, ref', row', scope', def') =
      let e : term.Ref n ≡ term.Ref m = sym ref ∙ ref' in
      let nodes : n ≡ m = cc in
      let rows : Some r ≡ Some q = sym row ∙ (ap x.graph.row nodes ∙ row') in
      let same : r ≡ q = cc in
      let reads : Some u ≡ Some v = sym def ∙ (ap (λ (w : Row). plain w.def) same ∙ def') in
      cc

  same_form : (t : Term) (f g : Formula) → IsForm f → IsForm g → Shows x (Built S) E t f → Shows x (Built S) E t g → form f ≡ form g
  same_form t f g is is' h k =
      let p = head t f is h in
      let q = head t g is' k in
      sym p.2 ∙ (ap kind (same_opened t p.0 q.0 p.1 q.1) ∙ q.2)

  -- where no name's node is one of the scope
  module _ (P R : ℕ → Type 0) (apart : (t : ℕ) → P t → (r : Row) → x.graph.row (x.nodes t) ≡ Some r → r.scope ≡ S → ⊥) where
    name_apart : (t : Term) (k : ℕ) (g : Formula) → IsForm g → P k → Shows x (Built S) E t (Name k) → Shows x (Built S) E t g → ⊥
    name_apart t k g is named h shows =
        let a = head t g is shows in
        let o = opened x.graph S (x.nodes k) a.0 (subst (λ (q : Term). Opens x.graph (Built S) q a.0) h a.1) in
        apart k named o.0 o.1 o.2

    mutual
      -- they have as many parts
      same_size : (t : Term) (f g : Formula) → EveryLeaf P R f → EveryLeaf P R g → Shows x (Built S) E t f → Shows x (Built S) E t g → size f ≡ size g
      same_size t (Name a) (Name b) p q h k = refl
      same_size t (Name a) g p q h k = absurd (name_apart t a g tt p h k)
      same_size t f (Name b) p q h k = absurd (name_apart t b f tt q k h)
      same_size t (Apply a fs) (Apply b gs) p q h k =
          let e : term.Map a h.0 ≡ term.Map b k.0 = same_opened t (term.Map a h.0) (term.Map b k.0) h.1 k.1 in
          let ts : h.0 ≡ k.0 = cc in
          ap (λ n. suc n) (same_sizes k.0 fs gs p q (subst (λ (us : Terms). ShowsAll x (Built S) E us fs) ts h.2) k.2)
      same_size t (Apply a fs) g p q h k = absurd (let e = same_form t (Apply a fs) g tt tt h k in cc)
      same_size t (Fold a v fs) (Fold b w gs) p q h k =
          let e : term.Fold a (graph_value x.nodes v) h.0 ≡ term.Fold b (graph_value x.nodes w) k.0 =
          same_opened t (term.Fold a (graph_value x.nodes v) h.0) (term.Fold b (graph_value x.nodes w) k.0) h.1 k.1 in
          let ts : h.0 ≡ k.0 = cc in
          ap (λ n. suc n) (same_sizes k.0 fs gs p.1 q.1 (subst (λ (us : Terms). ShowsAll x (Built S) E us fs) ts h.2) k.2)
      same_size t (Fold a v fs) g p q h k = absurd (let e = same_form t (Fold a v fs) g tt tt h k in cc)
      same_size t (If a b c) (If a' b' c') p q h k =
          let e : term.If h.0 h.1 h.2 ≡ term.If k.0 k.1 k.2 = same_opened t (term.If h.0 h.1 h.2) (term.If k.0 k.1 k.2) h.3 k.3 in
          let e0 : h.0 ≡ k.0 = cc in
          let e1 : h.1 ≡ k.1 = cc in
          let e2 : h.2 ≡ k.2 = cc in
          let s0 = same_size k.0 a a' p.0 q.0 (subst (λ (u : Term). Shows x (Built S) E u a) e0 h.4) k.4 in
          let s1 = same_size k.1 b b' p.1 q.1 (subst (λ (u : Term). Shows x (Built S) E u b) e1 h.5) k.5 in
          let s2 = same_size k.2 c c' p.2 q.2 (subst (λ (u : Term). Shows x (Built S) E u c) e2 h.6) k.6 in
          omega (arith, s0, s1, s2)
      same_size t (If a b c) g p q h k = absurd (let e = same_form t (If a b c) g tt tt h k in cc)
      same_size t (Join a) (Join b) p q h k =
          let e : term.Join h.0 ≡ term.Join k.0 = same_opened t (term.Join h.0) (term.Join k.0) h.1 k.1 in
          let e0 : h.0 ≡ k.0 = cc in
          ap (λ n. suc n) (same_size k.0 a b p q (subst (λ (u : Term). Shows x (Built S) E u a) e0 h.2) k.2)
      same_size t (Join a) g p q h k = absurd (let e = same_form t (Join a) g tt tt h k in cc)
      same_size t (Bind l b) (Bind l' b') p q h k =
          let e : term.Bind h.0 h.1 h.2 ≡ term.Bind k.0 k.1 k.2 = same_opened t (term.Bind h.0 h.1 h.2) (term.Bind k.0 k.1 k.2) h.3 k.3 in
          let e0 : h.0 ≡ k.0 = cc in
          ap (λ n. suc n) (same_size k.0 l l' p.0 q.0 (subst (λ (u : Term). Shows x (Built S) E u l) e0 h.4) k.4)
      same_size t (Bind l b) g p q h k = absurd (let e = same_form t (Bind l b) g tt tt h k in cc)
      same_size t f g p q h k = sym (leaf_size g (sym (same_form t f g tt tt h k)))

      same_sizes : (ts : Terms) (fs gs : Formulas) → EveryLeafOfAll P R fs → EveryLeafOfAll P R gs → ShowsAll x (Built S) E ts fs
          → ShowsAll x (Built S) E ts gs → sizes fs ≡ sizes gs
      same_sizes term.End End End p q h k = refl
      same_sizes term.End End (More g gs) p q h k = absurd k
      same_sizes term.End (More f fs) gs p q h k = absurd h
      same_sizes (term.More t ts) End gs p q h k = absurd h
      same_sizes (term.More t ts) (More f fs) End p q h k = absurd k
      same_sizes (term.More t ts) (More f fs) (More g gs) p q h k =
          let s = same_size t f g p.0 q.0 h.0 k.0 in
          let rest = same_sizes ts fs gs p.1 q.1 h.1 k.1 in
          omega (arith, s, rest)

-- ---- names and parts

form_other : (f : Formula) → IsForm f → IsOther f ⊎ ((j : ℕ) × (f ≡ Bound j))
form_other (Name k) is = absurd is
form_other (Bound j) is = inr (j, refl)
form_other f is = inl tt

inside_bind : (g f : Formula) (v : Value) → part_at g (Inside v) ≡ Some f → (left : Formula) × (g ≡ Bind left f)
inside_bind (Bind left body) f v e = let same : body ≡ f = cc in (left, ap (λ (b : Formula). Bind left b) same)
inside_bind g f v e = absurd (cc)

module _ (F : Meanings) (s : State) (nodes : List NodeId) (H : Functions) (G : Graph) (died : NodeId → Option NodeId) where
  abbrev x : Both
  x = record { meanings = F; state = s; functions = H; graph = G; nodes = node_in nodes; died = died }

  module _ (valid : Valid F s) (keep : KeepToTypes F) (fits : Fits x) (apart : NodesApart s (node_in nodes)) (plain_all : AllPlain s)
      (aged : (n : ℕ) (b : Body) → body_at s n ≡ Some b → OwnNodesOf G (IsWithin nodes n) (IsPartWithin nodes n) (node_in nodes n) b) where
    within : (n : ℕ) (b : Body) → body_at s n ≡ Some b → HasOwnNode b → IsWithin nodes n (node_in nodes n)
    within n b is own = own_name x (IsWithin nodes) (IsPartWithin nodes) aged n b is own

    -- names with nodes of their own have different ones
    names_apart : (j k : ℕ) (b c : Body) → body_at s j ≡ Some b → HasOwnNode b → body_at s k ≡ Some c → HasOwnNode c
        → node_in nodes j ≡ node_in nodes k → j ≡ k
    names_apart j k b c at own at' own' same =
        let ages : (node_in nodes j).gen_ ≡ (node_in nodes k).gen_ = ap (λ (n : NodeId). n.gen_) same in
        elim (cases_lt j k) [
          | inl less ↦ absurd (let later = (within k c at' own').later j less in omega (arith, later, ages))
          | inr more ↦ elim (cases_lt k j) [
            | inl less ↦ absurd (let later = (within j b at own).later k less in omega (arith, later, ages))
            | inr more' ↦ omega (arith, more, more')
          ]
        ]

    -- the root of a bind that a live grab is of stands in the bind's scope
    grab_row : (k b : ℕ) (v : Value) (is_live : Bool) → body_at s k ≡ Some (Grab b v is_live) → (r : Row) → G.row (node_in nodes k) ≡ Some r
        → (is_live ≡ true) × (r.scope ≡ Some (node_in nodes b))
        × (w : BuiltFor) × (G.built (node_in nodes b) ≡ Some w) × (w.outcome ≡ outcome.Val (graph_value (node_in nodes) v))
        × (w.root ≡ Some (node_in nodes k))
    grab_row k b v is_live is r row = by_live is_live is (rw is at (fits.declared k))
      where
        by_live : (l : Bool) → body_at s k ≡ Some (Grab b v l) → Declares x (node_in nodes k) (Some (Grab b v l))
            → (l ≡ true) × (r.scope ≡ Some (node_in nodes b))
            × (w : BuiltFor) × (G.built (node_in nodes b) ≡ Some w) × (w.outcome ≡ outcome.Val (graph_value (node_in nodes) v))
            × (w.root ≡ Some (node_in nodes k))
        by_live false at d = absurd (none-some r (sym d.0 ∙ row))
        by_live true at (inl (w, built, for, root)) =
            let grabbed = fits.grabbed k b v at in
            let scoped = scoped_root x fits b grabbed.left grabbed.body grabbed.kept grabbed.is_bind w v (node_in nodes k) built for root grabbed.no_name in
            let rows : Some scoped.0 ≡ Some r = sym scoped.1 ∙ row in
            let same : scoped.0 ≡ r = cc in
            (refl, sym (ap (λ (q : Row). q.scope) same) ∙ scoped.2, w, built, for, root)
        by_live true at (inr lost) = absurd (none-some r (sym lost.1 ∙ row))

    -- no node of an earlier name stands in the scope of a bind's
    earlier_apart : (owner : ℕ) (b : Body) → body_at s owner ≡ Some b → HasOwnNode b → (t : ℕ) → IsEarlierTarget s owner t → (r : Row)
        → G.row (node_in nodes t) ≡ Some r → r.scope ≡ Some (node_in nodes owner) → ⊥
    earlier_apart owner b is own t early r row scope = by_body (body_at s t) refl early.1
      where
        by_own : (c : Body) → body_at s t ≡ Some c → HasOwnNode c ⊎ ((bind : ℕ) × (v : Value) × (is_live : Bool) × (c ≡ Grab bind v is_live)) → ⊥
        by_own c at (inl has) =
            let top = top_row x fits plain_all t c at has in
            let rows : Some top.0 ≡ Some r = sym top.1 ∙ row in
            let same : top.0 ≡ r = cc in
            let none : None ≡ Some (node_in nodes owner) = sym top.2 ∙ (ap (λ (q : Row). q.scope) same ∙ scope) in
            absurd (cc)
        by_own c at (inr (bind, v, is_live, same)) =
            let grab : body_at s t ≡ Some (Grab bind v is_live) = at ∙ ap (λ (d : Body). Some d) same in
            let g = grab_row t bind v is_live grab r row in
            let nodes_are : Some (node_in nodes bind) ≡ Some (node_in nodes owner) = sym g.1 ∙ scope in
            let same_node : node_in nodes bind ≡ node_in nodes owner = cc in
            let ages : (node_in nodes bind).gen_ ≡ (node_in nodes owner).gen_ = ap (λ (n : NodeId). n.gen_) same_node in
            let fine = plain_all t (Grab bind v is_live) grab in
            let low = fine.0.0 in
            let less = early.0 in
            let later = (within owner b is own).later bind (omega (arith, low, less)) in
            absurd (omega (arith, later, ages))

        by_body : (o : Option Body) → body_at s t ≡ o → IsOwn o → ⊥
        by_body None at mine = let d : Declares x (node_in nodes t) None = rw at at (fits.declared t) in absurd (none-some r (sym d.0 ∙ row))
        by_body (Some c) at mine = by_own c at (own_or_grab c mine)

    module _ (owner : ℕ) (path : List Edge) (f : Formula) (n : NodeId) (is : formula_at s owner path ≡ Some f) (is_form : IsForm f)
        (at : node_at x owner path ≡ Some n) where
      -- in which scope its node stands, and how
      abbrev IsIn : Option NodeId → Type 0
      IsIn S = (r : Row) × (G.row n ≡ Some r) × (r.scope ≡ S)

      -- outside all bodies of binds, or in the scope of a bind round it: a form of its own in that of the innermost
      abbrev Spot : Type 0
      Spot = (IsOutside path × IsIn None)
          ⊎ ((es : List Edge) × (v : Value) × (rest : List Edge) × (path ≡ es ++ (Inside v ∷ rest)) × IsIn (node_at x owner rest)
          × ((IsOther f × IsOutside es) ⊎ ((j : ℕ) × (f ≡ Bound j))))

      shown : Shows x (Built (scope_at x owner path)) (around x owner path) (term.Ref n) f
      shown = place_shows x fits owner path n f is at

      spot : Spot
      spot = elim (form_other f is_form) [
        | inl other ↦ by_split other (split path)
        | inr bound ↦ inr (by_bound bound.0 bound.1)
      ]
        where
          row_in : IsOther f → IsIn (scope_at x owner path)
          row_in other = let row = other_row x (scope_at x owner path) (around x owner path) n f other shown in (row.0, row.2, row.3)

          by_split : IsOther f → IsSplit path → Spot
          by_split other (inl out) = inl (out, subst (λ (S : Option NodeId). IsIn S) (scope_outside x owner path out) (row_in other))
          by_split other (inr (es, v, rest, out, e)) =
              let scope : scope_at x owner path ≡ node_at x owner rest = ap (scope_at x owner) e ∙ scope_beneath x owner (Inside v ∷ rest) es out in
              inr (es, v, rest, e, subst (λ (S : Option NodeId). IsIn S) scope (row_in other), inl (other, out))

          by_bound : (j : ℕ) → f ≡ Bound j → (es : List Edge) × (v : Value) × (rest : List Edge) × (path ≡ es ++ (Inside v ∷ rest))
              × IsIn (node_at x owner rest) × ((IsOther f × IsOutside es) ⊎ ((i : ℕ) × (f ≡ Bound i)))
          by_bound j e =
              let shows = subst (λ (g : Formula). Shows x (Built (scope_at x owner path)) (around x owner path) (term.Ref n) g) e shown in
              let a = around_at x owner path j shows.0 shows.1 in
              let opens = subst (λ (m : Mode). Opens G m (term.Ref n) (term.Const (graph_value (node_in nodes) shows.0.value))) a.4 shows.2 in
              let o = opened G (node_at x owner a.2) n (term.Const (graph_value (node_in nodes) shows.0.value)) opens in
              (a.0, a.1, a.2, a.3, (o.0, o.1, o.2), inr (j, e))

      -- a name with a node of its own that is this is the whole
      own_here : (k : ℕ) (b : Body) → body_at s k ≡ Some b → HasOwnNode b → node_in nodes k ≡ n → (owner ≡ k) × (path ≡ [])
      own_here k b there own same = by_spot spot
        where
          -- which no part has
          no_part : IsPartWithin nodes owner n → ⊥
          no_part h =
              let ages : (node_in nodes k).gen_ ≡ n.gen_ = ap (λ (m : NodeId). m.gen_) same in
              let early = h.earlier in
              elim (cases_lt k owner) [
                | inl less ↦ (let later = h.within.later k less in absurd (omega (arith, later, ages)))
                | inr more ↦ elim (cases_lt owner k) [
                  | inl less ↦ (let later = (within k b there own).later owner less in absurd (omega (arith, later, ages, early)))
                  | inr more' ↦ (
                      let names : owner ≡ k = omega (arith, more, more') in
                      let owners : (node_in nodes owner).gen_ ≡ (node_in nodes k).gen_ = ap (λ (i : ℕ). (node_in nodes i).gen_) names in
                      absurd (omega (arith, ages, early, owners))
                      )
                ]
              ]

          by_path : (p : List Edge) → path ≡ p → IsOutside p → (owner ≡ k) × (path ≡ [])
          by_path [] e out = (whole (body_at s owner) refl, e)
            where
              whole : (o : Option Body) → body_at s owner ≡ o → owner ≡ k
              whole None b_at = absurd (let none : None ≡ Some f = rw (e, b_at) at is in cc)
              whole (Some c) b_at = by_body c b_at
                where
                  by_body : (d : Body) → body_at s owner ≡ Some d → owner ≡ k
                  by_body (Computed g kept) d_at =
                      let forms : Some g ≡ Some f = rw (e, d_at) at is in
                      let same_form_is : g ≡ f = cc in
                      let node : Some (node_in nodes owner) ≡ Some n = rw (e, d_at) at at in
                      let same_node : node_in nodes owner ≡ n = cc in
                      names_apart owner k (Computed g kept) b d_at (subst (λ (h : Formula). IsForm h) (sym same_form_is) is_form) there own (same_node ∙ sym same)
                  by_body (Variable v) d_at = absurd (let none : None ≡ Some f = rw (e, d_at) at is in cc)
                  by_body (Grab c v l) d_at = absurd (let none : None ≡ Some f = rw (e, d_at) at is in cc)
                  by_body (After time) d_at = absurd (let none : None ≡ Some f = rw (e, d_at) at is in cc)
                  by_body (Every base span) d_at = absurd (let none : None ≡ Some f = rw (e, d_at) at is in cc)
                  by_body (Freeze child predicate frozen) d_at =
                      let forms : Some child ≡ Some f = rw (e, d_at) at is in
                      let same_form_is : f ≡ child = cc in
                      absurd (no_part (own_kid x (IsWithin nodes) (IsPartWithin nodes) aged owner child predicate frozen d_at
                      (subst (λ (h : Formula). IsForm h) same_form_is is_form) n (subst (λ (p : List Edge). node_at x owner p ≡ Some n) e at)))
                  by_body (Expert g first links stale) d_at = absurd (let none : None ≡ Some f = rw (e, d_at) at is in cc)
          by_path (edge ∷ rest) e out = absurd (no_part (own_part x (IsWithin nodes) (IsPartWithin nodes) aged owner edge rest f n out
              (subst (λ (p : List Edge). formula_at s owner p ≡ Some f) e is) is_form (subst (λ (p : List Edge). node_at x owner p ≡ Some n) e at)))

          by_spot : Spot → (owner ≡ k) × (path ≡ [])
          by_spot (inl (out, r)) = by_path path refl out
          by_spot (inr (es, v, rest, e, r, how)) =
              let top = top_row x fits plain_all k b there own in
              let m = nodes_above x owner rest (es ++ (Inside v ∷ [])) n
              (subst (λ (p : List Edge). node_at x owner p ≡ Some n) (e ∙ regroup es v rest) at) in
              let rows : Some top.0 ≡ Some r.0 = sym top.1 ∙ (ap G.row same ∙ r.1) in
              let same_row_is : top.0 ≡ r.0 = cc in
              let none : None ≡ Some m.0 = sym top.2 ∙ (ap (λ (q : Row). q.scope) same_row_is ∙ (r.2 ∙ m.1)) in
              absurd (cc)

    -- ---- the root of a bind

    module _ (bind : ℕ) (left below : Formula) (kept : script.Kept) (is_bind : body_at s bind ≡ Some (Computed (Bind left below) kept))
        (no_name : (t : ℕ) → below ≡ Name t → ⊥) (v : Value) (n : NodeId) (w : BuiltFor) (built : G.built (node_in nodes bind) ≡ Some w)
        (for : w.outcome ≡ outcome.Val (graph_value (node_in nodes) v)) (root : w.root ≡ Some n) (u : Value) where
      abbrev right : List Edge
      right = Inside u ∷ []

      abbrev S : Option NodeId
      S = node_at x bind []

      abbrev E : List Binding
      E = record { value = u; mode = Built S } ∷ []

      whole : node_at x bind [] ≡ Some (node_in nodes bind)
      whole = rw is_bind refl

      right_there : formula_at s bind right ≡ Some below
      right_there = rw is_bind refl

      below_form : IsForm below
      below_form = not_name below no_name
        where
          not_name : (f : Formula) → ((t : ℕ) → f ≡ Name t → ⊥) → IsForm f
          not_name (Name t) h = h t refl
          not_name f h = tt

      inner : (j : ℕ) (b : Binding) → slice_get E j ≡ Some b → b.mode ≡ Built S
      inner zero b e = let same : record { value = u; mode = Built S } ≡ b = cc in sym (ap (λ (c : Binding). c.mode) same)
      inner (suc j) b e = absurd (cc)

      -- what has a node there is what it is built for, and is the root
      root_of : (m : NodeId) → node_at x bind right ≡ Some m → (graph_value (node_in nodes) u ≡ graph_value (node_in nodes) v) × (m ≡ n)
      root_of m at =
          let first = then_some (node_at x bind []) (λ b. and_then (G.built b) (root_at (node_in nodes) u)) m at in
          let bind_is : first.0 ≡ node_in nodes bind = (let e : Some first.0 ≡ Some (node_in nodes bind) = sym first.1 ∙ whole in cc) in
          let second = then_some (G.built first.0) (root_at (node_in nodes) u) m first.2 in
          let same : second.0 ≡ w = (let e : Some second.0 ≡ Some w = sym second.1 ∙ (ap G.built bind_is ∙ built) in cc) in
          let t = if_true (same_outcome second.0.outcome (outcome.Val (graph_value (node_in nodes) u))) second.0.root m second.2 in
          let for_u = (outcome_decides second.0.outcome (outcome.Val (graph_value (node_in nodes) u))).0 t.0 in
          let outcomes : outcome.Val (graph_value (node_in nodes) u) ≡ outcome.Val (graph_value (node_in nodes) v) =
          sym for_u ∙ (ap (λ (b : BuiltFor). b.outcome) same ∙ for) in
          let roots : Some m ≡ Some n = sym t.1 ∙ (ap (λ (b : BuiltFor). b.root) same ∙ root) in
          ((cc), (cc))

      module _ (f : Formula) (edge : Edge) (es : List Edge) (is : formula_at s bind (edge ∷ (es ++ right)) ≡ Some f)
          (at : node_at x bind (edge ∷ (es ++ right)) ≡ Some n) (at_right : node_at x bind right ≡ Some n) where
        right_shown : Shows x (Built S) E (term.Ref n) below
        right_shown = place_shows x fits bind right n below right_there at_right

        part_shown : Shows x (Built (scope_at x bind (edge ∷ (es ++ right)))) (around x bind (edge ∷ (es ++ right))) (term.Ref n) f
        part_shown = place_shows x fits bind (edge ∷ (es ++ right)) n f is at

        -- no part outside the binds in the body has its node
        no_other : IsOutside (edge ∷ es) → ⊥
        no_other out =
            let scope : scope_at x bind (edge ∷ (es ++ right)) ≡ S = scope_beneath x bind right (edge ∷ es) out in
            let rounds : around x bind (edge ∷ (es ++ right)) ≡ E = around_beneath x bind right (edge ∷ es) out in
            let shows = subst (λ (T : Option NodeId). Shows x (Built T) E (term.Ref n) f) scope
            (subst (λ (D : List Binding). Shows x (Built (scope_at x bind (edge ∷ (es ++ right)))) D (term.Ref n) f) rounds part_shown) in
            let leaves = (plain_all bind (Computed (Bind left below) kept) is_bind).1.1 in
            let leaves_too = beneath_leaves s bind right below right_there (IsEarlierTarget s bind) (IsDeclaredTarget s) leaves (edge ∷ es) f is in
            let same = same_size x S E inner (IsEarlierTarget s bind) (IsDeclaredTarget s)
            (λ t early r row of. earlier_apart bind (Computed (Bind left below) kept) is_bind tt t early r row (of ∙ whole))
            (term.Ref n) f below leaves_too leaves shows right_shown in
            let less = beneath_size s bind right below right_there edge es f out is in
            omega (arith, same, less)

        -- nor has a variable beneath it
        no_bound : (j : ℕ) → f ≡ Bound j → ⊥
        no_bound j e =
            let shows = subst (λ (g : Formula). Shows x (Built (scope_at x bind (edge ∷ (es ++ right)))) (around x bind (edge ∷ (es ++ right))) (term.Ref n) g)
            e part_shown in
            let a = around_at x bind (edge ∷ (es ++ right)) j shows.0 shows.1 in
            let value = term.Const (graph_value (node_in nodes) shows.0.value) in
            let opens = subst (λ (m : Mode). Opens G m (term.Ref n) value) a.4 shows.2 in
            let o = opened G (node_at x bind a.2) n value opens in
            let h = head x S E inner (term.Ref n) below below_form right_shown in
            let p = opened G S n h.0 h.1 in
            let rows : Some p.0 ≡ Some o.0 = sym p.1 ∙ o.1 in
            let same : p.0 ≡ o.0 = cc in
            let reads : Some h.0 ≡ Some value = sym p.3 ∙ (ap (λ (r : Row). plain r.def) same ∙ o.3) in
            let terms : h.0 ≡ value = cc in
            none_beneath s bind right below right_there (sym h.2 ∙ ap kind terms) edge es f is

      -- it is the whole right side, for the value that the bind is built for
      root_alone : (f : Formula) (es : List Edge) → formula_at s bind (es ++ right) ≡ Some f → node_at x bind (es ++ right) ≡ Some n
          → ((IsOther f × IsOutside es) ⊎ ((j : ℕ) × (f ≡ Bound j))) → IsOwnValue s u → IsOwnValue s v → (u ≡ v) × (es ≡ [])
      root_alone f es is at how own_u own_v = (same_own s (node_in nodes) apart u v own_u own_v there_is.0, by_path es refl)
        where
          there_is : (graph_value (node_in nodes) u ≡ graph_value (node_in nodes) v) × (node_at x bind right ≡ Some n)
          there_is =
              let m = nodes_above x bind right es n at in
              let r = root_of m.0 m.1 in
              (r.0, m.1 ∙ ap (λ (q : NodeId). Some q) r.1)

          by_path : (ds : List Edge) → es ≡ ds → es ≡ []
          by_path [] e = e
          by_path (edge ∷ ds) e =
              let is' = subst (λ (p : List Edge). formula_at s bind (p ++ right) ≡ Some f) e is in
              let at' = subst (λ (p : List Edge). node_at x bind (p ++ right) ≡ Some n) e at in
              absurd (elim how [
                | inl other ↦ no_other f edge ds is' at' there_is.1 (subst (λ (p : List Edge). IsOutside p) e other.1)
                | inr bound ↦ no_bound f edge ds is' at' there_is.1 bound.0 bound.1
              ])

    module _ (owner : ℕ) (path : List Edge) (f : Formula) (n : NodeId) (k : ℕ) (values : Each (IsOwnValue s) (environment path))
        (is : formula_at s owner path ≡ Some f) (is_form : IsForm f) (at : node_at x owner path ≡ Some n) (same : node_in nodes k ≡ n) where
      abbrev IsGrabs : Body → Type 0
      IsGrabs b = (v : Value) × (b ≡ Grab owner v true) × (path ≡ Inside v ∷ [])

      grab_here : (bind : ℕ) (v : Value) (is_live : Bool) → body_at s k ≡ Some (Grab bind v is_live) → IsGrabs (Grab bind v is_live)
      grab_here bind v is_live there = by_spot (spot owner path f n is is_form at)
        where
          by_spot : Spot owner path f n is is_form at → IsGrabs (Grab bind v is_live)
          by_spot (inl (out, r)) =
              let g = grab_row k bind v is_live there r.0 (ap G.row same ∙ r.1) in
              let none : None ≡ Some (node_in nodes bind) = sym r.2 ∙ g.1 in
              absurd (cc)
          by_spot (inr (es, u, rest, e, r, how)) =
              let g = grab_row k bind v is_live there r.0 (ap G.row same ∙ r.1) in
              let live : body_at s k ≡ Some (Grab bind v true) = there ∙ ap (λ (l : Bool). Some (Grab bind v l)) g.0 in
              let grabbed = fits.grabbed k bind v live in
              let is' = subst (λ (p : List Edge). formula_at s owner p ≡ Some f) e is in
              let at' = subst (λ (p : List Edge). node_at x owner p ≡ Some n) e at in
              let below = formula_above s owner (Inside u ∷ rest) es f is' in
              let above = part_above s owner rest (Inside u) below.0 below.1 in
              let bind_is = inside_bind above.0 below.0 u above.2 in
              let at_rest : node_at x owner rest ≡ Some (node_in nodes bind) = sym r.2 ∙ g.1 in
              let whole = own_here owner rest above.0 (node_in nodes bind) above.1 (subst (λ (h : Formula). IsForm h) (sym bind_is.1) tt) at_rest bind
              (Computed (Bind grabbed.left grabbed.body) grabbed.kept) grabbed.is_bind tt refl in
              let here : es ++ (Inside u ∷ rest) ≡ es ++ (Inside u ∷ []) = ap (λ (p : List Edge). es ++ (Inside u ∷ p)) whole.1 in
              let is'' = subst (λ (o : ℕ). formula_at s o (es ++ (Inside u ∷ [])) ≡ Some f) whole.0
              (subst (λ (p : List Edge). formula_at s owner p ≡ Some f) here is') in
              let at'' = subst (λ (o : ℕ). node_at x o (es ++ (Inside u ∷ [])) ≡ Some n) whole.0
              (subst (λ (p : List Edge). node_at x owner p ≡ Some n) here at') in
              let own_u = value_around (IsOwnValue s) es u rest (subst (λ (p : List Edge). Each (IsOwnValue s) (environment p)) e values) in
              let typed = grab_typed F s valid k bind v grabbed.left grabbed.body grabbed.kept live grabbed.is_bind in
              let own_v = typed_own s (length s.entries) v typed.0 typed.2 in
              let alone = root_alone bind grabbed.left grabbed.body grabbed.kept grabbed.is_bind grabbed.no_name v n g.2 g.3 g.4
              (g.5 ∙ ap (λ (q : NodeId). Some q) same) u f es is'' at'' how own_u own_v in
              let body : Grab bind v is_live ≡ Grab owner v true =
              ap (λ (b : ℕ). Grab b v is_live) (sym whole.0) ∙ ap (λ (l : Bool). Grab owner v l) g.0 in
              let place : path ≡ Inside v ∷ [] =
              e ∙ (here ∙ (ap (λ (ds : List Edge). ds ++ (Inside u ∷ [])) alone.1 ∙ ap (λ (q : Value). Inside q ∷ []) alone.0)) in
              (v, body, place)

      abbrev IsWholes : Body → Type 0
      IsWholes b = (owner ≡ k) × (path ≡ []) × (g : Formula) × (kept : script.Kept) × (b ≡ Computed g kept)

      whole_here : (b : Body) → body_at s k ≡ Some b → HasOwnNode b → IsWholes b
      whole_here b there own =
          let h = own_here owner path f n is is_form at k b there own same in
          let c = computed b there own h.0 h.1 in
          (h.0, h.1, c.0, c.1, c.2)
        where
          computed : (c : Body) → body_at s k ≡ Some c → HasOwnNode c → owner ≡ k → path ≡ [] → (g : Formula) × (kept : script.Kept) × (c ≡ Computed g kept)
          computed (Computed g kept) there has owners paths = (g, kept, refl)
          computed (Variable v) there has owners paths = absurd (let none : None ≡ Some f = rw (paths, owners, there) at is in cc)
          computed (Grab bind v is_live) there has owners paths = absurd has
          computed (After time) there has owners paths = absurd (let none : None ≡ Some f = rw (paths, owners, there) at is in cc)
          computed (Every base span) there has owners paths = absurd (let none : None ≡ Some f = rw (paths, owners, there) at is in cc)
          computed (Freeze child predicate frozen) there has owners paths =
              let forms : Some child ≡ Some f = rw (paths, owners, there) at is in
              let same_form_is : f ≡ child = cc in
              let at_k = subst (λ (o : ℕ). node_at x o [] ≡ Some n) owners (subst (λ (p : List Edge). node_at x owner p ≡ Some n) paths at) in
              let kid = own_kid x (IsWithin nodes) (IsPartWithin nodes) aged k child predicate frozen there
              (subst (λ (h : Formula). IsForm h) same_form_is is_form) n at_k in
              let early = kid.earlier in
              let ages : (node_in nodes k).gen_ ≡ n.gen_ = ap (λ (m : NodeId). m.gen_) same in
              absurd (omega (arith, early, ages))
          computed (Expert g first links stale) there has owners paths = absurd (let none : None ≡ Some f = rw (paths, owners, there) at is in cc)

  -- a place that is no bare name and has the node of an own name is the name's, or that of which a grab is
  pub parts_apart : Valid F s → KeepToTypes F → Fits x → NodesApart s (node_in nodes) → AllPlain s
      → ((n : ℕ) (b : Body) → body_at s n ≡ Some b → OwnNodesOf G (IsWithin nodes n) (IsPartWithin nodes n) (node_in nodes n) b)
      → Scoped G → PartsApart x
  parts_apart valid keep fits apart plain_all aged scoped owner path f n k b values is is_form at there own same = elim (own_or_grab b own) [
    | inl has ↦ inl (whole_here valid keep fits apart plain_all aged owner path f n k values is is_form at same b there has)
    | inr (bind, v, is_live, e) ↦
        let grab = grab_here valid keep fits apart plain_all aged owner path f n k values is is_form at same bind v is_live
        (there ∙ ap (λ (c : Body). Some c) e) in
        inr (grab.0, e ∙ grab.1, grab.2)
  ]
