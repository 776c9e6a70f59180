-- What a point of the script depends on, and which of them a point of the graph is.
use Rattle.std.proofs.Common.{◌≡◌, inl, inr, ℕ, ◌+◌, ◌≤◌, true, false, ◌&&◌, List, [], ◌∷◌, ◌++◌, map, Option, None, Some, refl, sym, ap, subst, arith}
use Rattle.std.specs.Prelude as std
use Rattle.inc_value.specs.declared.node.NodeId.{NodeId}
use Rattle.inc_value.specs.declared.node.Point.{Point as GraphPoint}
use Rattle.inc_value.specs.Choice.{and_then, Among, Every as Each}
use Rattle.inc_terms.specs.Depend.{main, change}
use Rattle.script_model.specs.Depth.{Point, Main, Change, mains, change_of, stands_at, main_points, change_points, scoped_points, Depends}
use Rattle.script_model.specs.Depth as depth
use Rattle.script_model.specs.Evaluate.{chosen, value_at}
use Rattle.script_model.specs.Formula as script
use Rattle.script_model.specs.Formula.{Formula, Body, State, body_at, Literal, Name, Bound, Apply, Fold, If, Join, Bind, At, Steps, Now, Computed, Grab}
use Rattle.script_model.specs.Need.{Edge, Left, Inside, Item, Named, Place, Round, rounds, environment, bind_around, formula_at, outcome_at, StillGives}
use Rattle.script_model.specs.Values.{Value, Outcome, Val, same_value}
use Rattle.script_model.proofs.Evaluation.{every_depth_agrees}
use Rattle.transfer.specs.Both.{Both}
use Rattle.transfer.specs.Items.{node_at, IsChoice}
use Rattle.transfer.proofs.Agreement.{same_itself}
use Rattle.transfer.specs.Cycles.{IsForm}
use Rattle.transfer.proofs.Staying.{IsOther}

-- ---- lists

pub among_mains : (s : State) (items : List Item) (i : Item) → Among i items
    → Among (Main (depth.node_of s i)) (mains s items)
among_mains s [] i none = absurd none
among_mains s (j ∷ items) i (inl e) = inl (ap (λ i. Main (depth.node_of s i)) e)
among_mains s (j ∷ items) i (inr later) = inr (among_mains s items i later)

pub links_among : (nodes : ℕ → NodeId) (links : List ℕ) (q : GraphPoint) → Among q (map main (map nodes links))
    → (m : ℕ) × Among m links × (q ≡ main (nodes m))
links_among nodes [] q none = absurd none
links_among nodes (m ∷ links) q (inl e) = (m, inl refl, e)
links_among nodes (m ∷ links) q (inr later) = let r = links_among nodes links q later in (r.0, inr r.1, r.2)

pub named_among : (links : List ℕ) (m : ℕ) → Among m links → Among (Named m) (map (λ k. Named k) links)
named_among [] m none = absurd none
named_among (k ∷ links) m (inl e) = inl (ap (λ k. Named k) e)
named_among (k ∷ links) m (inr later) = inr (named_among links m later)

pub each_among : (P : ℕ → Type 0) (links : List ℕ) (m : ℕ) → Each P links → Among m links → P m
each_among P [] m h none = absurd none
each_among P (k ∷ links) m h (inl e) = rw e h.0
each_among P (k ∷ links) m h (inr later) = each_among P links m h.1 later

pub among_right : {A : Type 0} (a : A) (xs ys : List A) → Among a ys → Among a (xs ++ ys)
among_right a [] ys h = h
among_right a (x ∷ xs) ys h = inr (among_right a xs ys h)

-- ---- what a point of the script depends on

module _ (F : script.Meanings) (s : State) where
  pub scoped_other : (owner : ℕ) (path : List Edge) (d : ℕ) (f : Formula) (points : List Point) → IsOther f
      → scoped_points F s d owner path points f
      ≡ change_of owner (bind_around 0 path) ++ chosen (stands_at F s d owner (rounds path)) points []
  scoped_other owner path d (Name t) points form = absurd form
  scoped_other owner path d (Bound k) points form = absurd form
  scoped_other owner path d (Literal v) points form = refl
  scoped_other owner path d (Apply g fs) points form = refl
  scoped_other owner path d (Fold g v fs) points form = refl
  scoped_other owner path d (If t a b) points form = refl
  scoped_other owner path d (Join c) points form = refl
  scoped_other owner path d (Bind l b) points form = refl
  scoped_other owner path d (At t) points form = refl
  scoped_other owner path d (Steps v ss) points form = refl
  scoped_other owner path d Now points form = refl

  -- points of the parts, where the place stands
  pub scoped_in : (owner : ℕ) (path : List Edge) (d : ℕ) (f : Formula) (points : List Point) (q : Point) → IsOther f
      → stands_at F s d owner (rounds path) ≡ true → Among q points → Among q (scoped_points F s d owner path points f)
  scoped_in owner path d f points q form stands among =
      subst (λ (ps : List Point). Among q ps) (sym (scoped_other owner path d f points form))
      (among_right q (change_of owner (bind_around 0 path)) (chosen (stands_at F s d owner (rounds path)) points [])
      (subst (λ (t : std.Bool). Among q (chosen t points [])) (sym stands) among))

  -- the change of the innermost bind
  pub gate_in : (owner : ℕ) (path bind : List Edge) (d : ℕ) (f : Formula) (points : List Point) → IsOther f
      → bind_around 0 path ≡ Some bind → Among (Change (Place owner bind)) (scoped_points F s d owner path points f)
  gate_in owner path bind d f points form is =
      subst (λ (ps : List Point). Among (Change (Place owner bind)) ps) (sym (scoped_other owner path d f points form))
      (subst (λ (o : Option (List Edge)). Among (Change (Place owner bind))
      (change_of owner o ++ chosen (stands_at F s d owner (rounds path)) points [])) (sym is) (inl refl))

  pub main_in : (owner : ℕ) (path : List Edge) (d : ℕ) (f : Formula) (q : Point) → formula_at s owner path ≡ Some f
      → Among q (scoped_points F s d owner path (main_points s (value_at F s d (environment path)) owner path f) f)
      → Depends F s (Main (Place owner path)) q
  main_in owner path d f q is among = (
    d,
    subst (λ (o : Option Formula). Among q (elim o [
      | None ↦ []
      | Some f ↦ scoped_points F s d owner path (main_points s (value_at F s d (environment path)) owner path f) f
    ])) (sym is) among,
  )

  pub change_in : (owner : ℕ) (path : List Edge) (d : ℕ) (f : Formula) (points : List Point) (q : Point)
      → formula_at s owner path ≡ Some f → change_points s owner path f ≡ Some points
      → Among q (scoped_points F s d owner path points f) → Depends F s (Change (Place owner path)) q
  change_in owner path d f points q is two among = (
    d,
    subst (λ (o : Option Formula). Among q (elim o [
      | None ↦ []
      | Some f ↦ elim (change_points s owner path f) [
        | None ↦ []
        | Some points ↦ scoped_points F s d owner path points f
      ]
    ])) (sym is) (subst (λ (c : Option (List Point)). Among q (elim c [
      | None ↦ []
      | Some points ↦ scoped_points F s d owner path points f
    ])) (sym two) among),
  )

  pub outcome_later : (i : Item) (d e : ℕ) (o : Outcome) → d ≤ e → outcome_at F s d i ≡ Some o → outcome_at F s e i ≡ Some o
  outcome_later (Named n) d e o le h = every_depth_agrees F s d e [] (Name n) o le h
  outcome_later (Place owner path) d e o le h = go (formula_at s owner path) h
    where
      go : (f : Option Formula) → and_then f (λ f. value_at F s d (environment path) f) ≡ Some o
          → and_then f (λ f. value_at F s e (environment path) f) ≡ Some o
      go None h = absurd (cc)
      go (Some f) h = every_depth_agrees F s d e (environment path) f o le h

  pub round_stands : (owner : ℕ) (round : Round) (rest : std.Bool) (d : ℕ)
      → outcome_at F s d (Place owner (Left ∷ round.bind)) ≡ Some (Val round.value) → rest ≡ true
      → (elim (outcome_at F s d (Place owner (Left ∷ round.bind))) [
        | Some (Val w) ↦ same_value round.value w && rest
        | _ ↦ false
      ]) ≡ true
  round_stands owner round rest d gives is = rw (gives, same_itself round.value, is) refl

  -- what stands does so at some depth and at every greater one
  pub stands_deep : (owner : ℕ) (rs : List Round) → Each (StillGives F s owner) rs
      → (d : ℕ) × ((e : ℕ) → d ≤ e → stands_at F s e owner rs ≡ true)
  stands_deep owner [] h = (0, λ e le. refl)
  stands_deep owner (round ∷ outer) h =
      let rest = stands_deep owner outer h.1 in (
        h.0.0 + rest.0,
        λ e le. round_stands owner round (stands_at F s e owner outer) e
            (outcome_later (Place owner (Left ∷ round.bind)) h.0.0 e (Val round.value) (omega (arith, le)) h.0.1)
            (rest.1 e (omega (arith, le))),
      )

-- ---- a point of the graph and the point of the script that it is

-- what has a node of its own that isn't a place's
abbrev pub IsItself : Option Body → Type 0
IsItself (Some (Computed f kept)) = ⊥
IsItself (Some (Grab b v true)) = ⊥
IsItself body = Unit {0}

-- by an item of a set. A grab's point is that of its bind's right side, also where the grab died in the call
pub data Own (x : Both) (X : Item → Type 0) (p : Point) (P : GraphPoint) : Type 0 where
  own_name : (k : ℕ) → X (Named k) → IsItself (body_at x.state k) → p ≡ Main (Named k) → P ≡ main (x.nodes k) → Own x X p P
  own_place : (owner : ℕ) (path : List Edge) (f : Formula) (n : NodeId) → X (Place owner path)
      → formula_at x.state owner path ≡ Some f → IsForm f → node_at x owner path ≡ Some n → p ≡ Main (Place owner path)
      → P ≡ main n → Own x X p P
  own_choice : (owner : ℕ) (path : List Edge) (f : Formula) (n : NodeId) → X (Place owner path)
      → formula_at x.state owner path ≡ Some f → IsChoice (Some f) → node_at x owner path ≡ Some n
      → p ≡ Change (Place owner path) → P ≡ change n → Own x X p P
  own_left : (owner : ℕ) (path : List Edge) (left body : Formula) (n : NodeId) → X (Place owner (Left ∷ path))
      → formula_at x.state owner path ≡ Some (Bind left body) → node_at x owner path ≡ Some n
      → p ≡ Change (Place owner path) → P ≡ change n → Own x X p P
  own_grab : (k b : ℕ) (v : Value) → X (Named k) → body_at x.state k ≡ Some (Grab b v true)
      → p ≡ Main (Place b (Inside v ∷ [])) → P ≡ main (x.nodes k) → Own x X p P
