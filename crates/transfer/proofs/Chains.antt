-- A point of the graph that is met and begins a long walk tells of a met item that is too deep.
use Rattle.std.proofs.Common.{◌≡◌, inl, inr, ℕ, suc, true, false, List, [], ◌∷◌, length, Option, None, Some, refl, sym, ap, subst, ◌∙◌, arith}
use Rattle.inc_value.specs.declared.node.NodeId.{NodeId}
use Rattle.inc_value.specs.declared.node.Part.TheVariants.{Main as MainPart, Change as ChangePart}
use Rattle.inc_value.specs.declared.node.Point.{Point as GraphPoint}
use Rattle.inc_value.specs.Choice.{and_then, Among, NoRepeats}
use Rattle.inc_value.specs.Walk.{IsWalk as IsGraphWalk}
use Rattle.inc_terms.specs.Depend as depend
use Rattle.inc_terms.specs.Depend.{main, change, Depends as GraphDepends}
use Rattle.inc_terms.specs.Graph as graph
use Rattle.inc_terms.specs.Graph.{Row}
use Rattle.inc_terms.specs.Term as term
use Rattle.script_model.specs.Depth.{Point, Main, Change, node_of_body, change_points, points_of, Depends, TooDeep}
use Rattle.script_model.specs.Depth as depth
use Rattle.script_model.specs.Formula.{Formula, Body, State, body_at, Name, If, Join, Bind, Variable, Computed, Freeze, After, Every, Expert, Grab}
use Rattle.script_model.specs.Need.{Edge, Left, Inside, Item, Named, Place, rounds, part_at, formula_at, Met, StillStands}
use Rattle.script_model.specs.Valid.{Valid, KeepToTypes}
use Rattle.script_model.proofs.Places.{met_stands}
use Rattle.transfer.specs.Both.{Both}
use Rattle.transfer.specs.Deep.{IsOfBind, IsToldOf, of_node, of_bind, of_grab}
use Rattle.transfer.specs.Shows.{Built, IsTop, Declares, IsOwn, Fits}
use Rattle.transfer.specs.Items.{node_at, node_of, around, scope_at, IsChoice, Covers, by_main, by_choice, by_left, by_variable, Closed}
use Rattle.transfer.specs.Laws.{DeepHasItem}
use Rattle.transfer.proofs.Agreement.{own_or}
use Rattle.transfer.proofs.Carriers.{Carrier, at_name, at_place, at_grab, name_or, part_in, whole_in, carrier}
use Rattle.transfer.specs.Cycles.{IsForm}
use Rattle.transfer.proofs.Ghosts.{form_row}
use Rattle.transfer.proofs.Going.{grab_depends}
use Rattle.transfer.proofs.Leading.{itself, one_point, alongside, Alongside}
use Rattle.transfer.proofs.Owning.{Own, own_name, own_place, own_choice, own_left, own_grab, IsItself, main_in, scoped_in, stands_deep}
use Rattle.transfer.proofs.Places.{part_above, place_shows}
use Rattle.transfer.proofs.Reaching.{met_closed}
use Rattle.transfer.proofs.Readers.{Reader, left_has_reader}
use Rattle.transfer.proofs.Typed.{valid_grabs}

-- ---- lists

-- all but the last
abbrev but_last : {A : Type 0} → List A → List A
but_last [] = []
but_last (a ∷ []) = []
but_last (a ∷ b ∷ rest) = a ∷ but_last (b ∷ rest)

one_less : {A : Type 0} (a : A) (rest : List A) → length (but_last (a ∷ rest)) ≡ length rest
one_less a [] = refl
one_less a (b ∷ rest) = ap (λ n. suc n) (one_less b rest)

but_last_among : {A : Type 0} (a : A) (xs : List A) → Among a (but_last xs) → Among a xs
but_last_among a [] none = absurd none
but_last_among a (b ∷ []) none = absurd none
but_last_among a (b ∷ c ∷ rest) (inl e) = inl e
but_last_among a (b ∷ c ∷ rest) (inr later) = inr (but_last_among a (c ∷ rest) later)

but_last_once : {A : Type 0} (xs : List A) → NoRepeats xs → NoRepeats (but_last xs)
but_last_once [] once = tt
but_last_once (a ∷ []) once = tt
but_last_once (a ∷ b ∷ rest) once =
    (λ among. once.0 (but_last_among a (b ∷ rest) among), but_last_once (b ∷ rest) once.1)

but_last_walk : {A : Type 0} (R : A → A → Type 0) (p : A) (xs : List A) → IsGraphWalk R (p ∷ xs)
    → IsGraphWalk R (p ∷ but_last xs)
but_last_walk R p [] w = w
but_last_walk R p (a ∷ []) w = tt
but_last_walk R p (a ∷ b ∷ rest) w = (w.0, but_last_walk R a (b ∷ rest) w.1)

-- ---- items

itself_is : (s : State) (k : ℕ) (b : Option Body) → IsItself b → node_of_body k b ≡ Named k
itself_is s k None h = refl
itself_is s k (Some (Computed f kept)) h = absurd h
itself_is s k (Some (Grab b v true)) h = absurd h
itself_is s k (Some (Grab b v false)) h = refl
itself_is s k (Some (Variable v)) h = refl
itself_is s k (Some (Freeze c p v)) h = refl
itself_is s k (Some (After t)) h = refl
itself_is s k (Some (Every t u)) h = refl
itself_is s k (Some (Expert g v l st)) h = refl

form_is : (s : State) (owner : ℕ) (path : List Edge) (f : Formula) → formula_at s owner path ≡ Some f → IsForm f
    → depth.node_of s (Place owner path) ≡ Place owner path
form_is s owner path f is form =
    subst (λ (o : Option Formula). depth.node_of_formula s (Place owner path) o ≡ Place owner path) (sym is) (by_form f form)
  where
    by_form : (f : Formula) → IsForm f → depth.node_of_formula s (Place owner path) (Some f) ≡ Place owner path
    by_form (Name t) form = absurd form
    by_form f form = refl

main_first : (s : State) (i : Item) → Among (Main i) (points_of s i)
main_first s (Named k) = inl refl
main_first s (Place owner path) = go (and_then (formula_at s owner path) (change_points s owner path))
  where
    go : (c : Option (List Point)) → Among (Main (Place owner path)) (elim c [
      | None ↦ Main (Place owner path) ∷ []
      | Some points ↦ Main (Place owner path) ∷ Change (Place owner path) ∷ []
    ])
    go None = inl refl
    go (Some points) = inl refl

change_second : (s : State) (owner : ℕ) (path : List Edge) (f : Formula) (points : List Point)
    → formula_at s owner path ≡ Some f → change_points s owner path f ≡ Some points
    → Among (Change (Place owner path)) (points_of s (Place owner path))
change_second s owner path f points is two =
    subst (λ (o : Option Formula). Among (Change (Place owner path)) (elim (and_then o (change_points s owner path)) [
      | None ↦ Main (Place owner path) ∷ []
      | Some points ↦ Main (Place owner path) ∷ Change (Place owner path) ∷ []
    ])) (sym is) (subst (λ (c : Option (List Point)). Among (Change (Place owner path)) (elim c [
      | None ↦ Main (Place owner path) ∷ []
      | Some points ↦ Main (Place owner path) ∷ Change (Place owner path) ∷ []
    ])) (sym two) (inr (inl refl)))

pub left_bind : (g f : Formula) → part_at g Left ≡ Some f → (l : Formula) × (b : Formula) × (g ≡ Bind l b)
left_bind (Bind l b) f e = (l, b, refl)
left_bind g f e = absurd (cc)

module _ (x : Both) (fits : Fits x) (keep : KeepToTypes x.meanings) (valid : Valid x.meanings x.state)
    (X : Item → Type 0) (closed : Closed x X) (stand : (i : Item) → X i → StillStands x.meanings x.state i) where
  abbrev D : GraphPoint → GraphPoint → Type 0
  D p q = GraphDepends x.functions x.graph x.died p q

  -- ---- the point of an item whose main depends on something

  top_lives : (n : NodeId) (def : graph.Def) → IsTop x.graph n def → x.graph.row n ≡ None → ⊥
  top_lives n def (r, row, scope, is) gone = cc

  -- the main of a dead node that depends on something is a lost grab's
  own_dead : (k : ℕ) (b : NodeId) (body : Option Body) → X (Named k) → body_at x.state k ≡ body
      → Declares x (x.nodes k) body → IsOwn body → x.graph.row (x.nodes k) ≡ None → x.died (x.nodes k) ≡ Some b
      → (p : Point) × Own x X p (main (x.nodes k))
  own_dead k b None is at dec own gone died = absurd (let e = dec.1 in cc)
  own_dead k b (Some (Variable v)) is at dec own gone died = absurd (top_lives (x.nodes k) _ dec gone)
  own_dead k b (Some (After t)) is at dec own gone died = absurd (top_lives (x.nodes k) _ dec gone)
  own_dead k b (Some (Every t u)) is at dec own gone died = absurd (top_lives (x.nodes k) _ dec.0 gone)
  own_dead k b (Some (Freeze c p v)) is at dec own gone died = absurd (top_lives (x.nodes k) _ dec.1 gone)
  own_dead k b (Some (Expert g v l s)) is at dec own gone died = absurd (top_lives (x.nodes k) _ dec.1 gone)
  own_dead k b (Some (Computed f kept)) is at dec own gone died = elim (name_or f) [
    | inl (t, e) ↦ absurd (rw e at own)
    | inr form ↦ absurd (form_row x (Built None) [] (x.nodes k) f form dec gone)
  ]
  own_dead k b (Some (Grab c v false)) is at dec own gone died = absurd (let e = dec.1 in cc)
  own_dead k b (Some (Grab c v true)) is at dec own gone died = (Main (Place c (Inside v ∷ [])), own_grab k c v is at refl refl)

  name_dead : (k : ℕ) (b : NodeId) → X (Named k) → x.graph.row (x.nodes k) ≡ None → x.died (x.nodes k) ≡ Some b
      → (p : Point) × Own x X p (main (x.nodes k))
  name_dead k b is gone died = elim (own_or x fits (body_at x.state k)) [
    | inl own ↦ own_dead k b (body_at x.state k) is refl (fits.declared k) own gone died
    | inr (t, kept, e) ↦
        let nodes : term.Ref (x.nodes k) ≡ term.Ref (x.nodes t) = rw e at (fits.declared k) in
        let same : x.nodes k ≡ x.nodes t = cc in
        let whole : X (Place k []) = whole_in x fits X closed k (Name t) kept is e in
        let named : X (Named t) = part_in x fits X closed k [] (Name t) 0 (Named t) whole (rw e refl) (inl refl) in
        let found = own_dead t b (body_at x.state t) named refl (fits.declared t) (fits.resolved k t kept e)
        (rw same at gone) (rw same at died) in
        (found.0, rw same found.1)
  ]

  dead_item : (i : Item) (n b : NodeId) → X i → node_of x i ≡ Some n → x.graph.row n ≡ None → x.died n ≡ Some b
      → (p : Point) × Own x X p (main n)
  dead_item (Named k) n b is node gone died =
      let same : n ≡ x.nodes k = cc in
      let found = name_dead k b is (rw same at gone) (rw same at died) in (found.0, rw same found.1)
  dead_item (Place owner path) n b is node gone died =
      let there = closed.there owner path is in
      elim (name_or there.0) [
        | inl (t, e) ↦
            let f_is = rw e at there.1 in
            let shows = place_shows x fits owner path n (Name t) f_is node in
            let same : n ≡ x.nodes t = cc in
            let found = name_dead t b (part_in x fits X closed owner path (Name t) 0 (Named t) is f_is (inl refl))
            (rw same at gone) (rw same at died) in
            (found.0, subst (λ (m : NodeId). Own x X found.0 (main m)) (sym same) found.1)
        | inr form ↦ absurd (form_row x (Built (scope_at x owner path)) (around x owner path) n there.0 form
            (place_shows x fits owner path n there.0 there.1 node) gone)
      ]

  live_item : (i : Item) (n : NodeId) (r : Row) → X i → node_of x i ≡ Some n → x.graph.row n ≡ Some r
      → (p : Point) × Own x X p (main n)
  live_item i n r is node row = by_carrier (carrier x fits X closed i n r is node row)
    where
      by_carrier : Carrier x X n → (p : Point) × Own x X p (main n)
      by_carrier (at_name k body named same body_is form) =
          (Main (Named k), own_name k named (rw body_is (itself body form)) refl (ap main (sym same)))
      by_carrier (at_place owner path f place at f_is form) =
          (Main (Place owner path), own_place owner path f n place f_is form at refl refl)
      by_carrier (at_grab k b v named same body_is) =
          (Main (Place b (Inside v ∷ [])), own_grab k b v named body_is refl (ap main (sym same)))

  pub main_item : (i : Item) (n : NodeId) (Q : GraphPoint) → X i → node_of x i ≡ Some n → D (main n) Q
      → (p : Point) × Own x X p (main n)
  main_item i n Q is node (depend.gate {r = r} row scope Q_is) = live_item i n r is node row
  main_item i n Q is node (depend.fixed {r = r} row round among) = live_item i n r is node row
  main_item i n Q is node (depend.right {r = r} row round part sub gives among Q_is) = live_item i n r is node row
  main_item i n Q is node (depend.ghost {b = b} gone died Q_is) = dead_item i n b is node gone died

  -- ---- what a walk tells

  abbrev Tells : GraphPoint → Type 0
  Tells p = (i : Item) × X i × IsToldOf x p i × TooDeep x.meanings x.state i

  -- the point begins the walk, and the item begins by it
  deep_by : (i : Item) (q : Point) (p : GraphPoint) (rest : List GraphPoint) → Own x X q p
      → Among q (points_of x.state (depth.node_of x.state i)) → length rest ≡ 129 → IsGraphWalk D (p ∷ rest)
      → NoRepeats (p ∷ rest) → TooDeep x.meanings x.state i
  deep_by i q p rest own begins long w once =
      let a = alongside x fits keep valid X closed stand q p rest own w in
      record {
        first = q;
        rest = a.points;
        begins = begins;
        walk = a.walk;
        distinct = a.distinct once.1;
        long = a.long ∙ long;
      }

  own_tells : (q : Point) (p : GraphPoint) (rest : List GraphPoint) → Own x X q p → length rest ≡ 129
      → IsGraphWalk D (p ∷ rest) → NoRepeats (p ∷ rest)
      → ((owner : ℕ) (path : List Edge) → q ≡ Change (Place owner path) → X (Place owner path)) → Tells p
  own_tells q p rest (own_name k is self q_is p_is) long w once whole = (
    Named k,
    is,
    of_node (ap (λ (p : GraphPoint). Some p.node) (sym p_is)),
    deep_by (Named k) q p rest (own_name k is self q_is p_is)
        (rw (q_is, itself_is x.state k (body_at x.state k) self) (inl refl)) long w once,
  )
  own_tells q p rest (own_place owner path f n is f_is form at q_is p_is) long w once whole = (
    Place owner path,
    is,
    of_node (at ∙ ap (λ (p : GraphPoint). Some p.node) (sym p_is)),
    deep_by (Place owner path) q p rest (own_place owner path f n is f_is form at q_is p_is)
        (rw (q_is, form_is x.state owner path f f_is form) (main_first x.state (Place owner path))) long w once,
  )
  own_tells q p rest (own_choice owner path f n is f_is choice at q_is p_is) long w once whole = (
    Place owner path,
    is,
    of_node (at ∙ ap (λ (p : GraphPoint). Some p.node) (sym p_is)),
    deep_by (Place owner path) q p rest (own_choice owner path f n is f_is choice at q_is p_is)
        (by_form f f_is choice) long w once,
  )
    where
      by_form : (f : Formula) → formula_at x.state owner path ≡ Some f → IsChoice (Some f)
          → Among q (points_of x.state (depth.node_of x.state (Place owner path)))
      by_form (If a b c) f_is choice =
          rw (q_is, form_is x.state owner path (If a b c) f_is tt) (change_second x.state owner path (If a b c) _ f_is refl)
      by_form (Join c) f_is choice =
          rw (q_is, form_is x.state owner path (Join c) f_is tt) (change_second x.state owner path (Join c) _ f_is refl)
      by_form f f_is choice = absurd choice
  own_tells q p rest (own_left owner path left body n is f_is at q_is p_is) long w once whole = (
    Place owner path,
    whole owner path q_is,
    of_node (at ∙ ap (λ (p : GraphPoint). Some p.node) (sym p_is)),
    deep_by (Place owner path) q p rest (own_left owner path left body n is f_is at q_is p_is)
        (rw (q_is, form_is x.state owner path (Bind left body) f_is tt)
        (change_second x.state owner path (Bind left body) _ f_is refl)) long w once,
  )
  own_tells q p rest (own_grab k b v is body_is q_is p_is) long w once whole = (
    Named k,
    is,
    of_node (ap (λ (p : GraphPoint). Some p.node) (sym p_is)),
    deep_by (Named k) q p rest (own_grab k b v is body_is q_is p_is)
        (rw (q_is, body_is) (main_first x.state (Place b (Inside v ∷ [])))) long w once,
  )

  -- ---- behind the change of a bind

  -- an item whose main depends on the bind's change, which begins a walk of 129 points; the main may be one of them
  behind : (i : Item) (first : Point) (owner : ℕ) (path : List Edge) (left body : Formula) (b : NodeId)
      (p : GraphPoint) (more : List GraphPoint) → X i → IsToldOf x p i
      → Among first (points_of x.state (depth.node_of x.state i))
      → Depends x.meanings x.state first (Change (Place owner path))
      → X (Place owner (Left ∷ path)) → formula_at x.state owner path ≡ Some (Bind left body)
      → node_at x owner path ≡ Some b → length more ≡ 128 → IsGraphWalk D (change b ∷ more)
      → NoRepeats (change b ∷ more) → Tells p
  behind i first owner path left body b p more is told begins dep left_is f_is at long w once =
      let q : Point = Change (Place owner path) in
      let q_own : Own x X q (change b) = own_left owner path left body b left_is f_is at refl refl in
      let a = alongside x fits keep valid X closed stand q (change b) more q_own w in
      let points : List Point = q ∷ a.points in
      let once' : NoRepeats points = (again a q_own, a.distinct once.1) in
      let long' : length points ≡ 129 = ap (λ n. suc n) (a.long ∙ long) in (
        i,
        is,
        told,
        record { first = first; rest = points; begins = begins; walk = (dep, a.walk); distinct = once'; long = long' },
      )
    where
      again : (a : Alongside x fits keep valid X closed stand (Change (Place owner path)) more)
          → Own x X (Change (Place owner path)) (change b) → Among (Change (Place owner path)) a.points → ⊥
      again a q_own among =
          let r = a.own (Change (Place owner path)) among in
          let same = one_point x fits keep valid X closed stand (Change (Place owner path)) r.0 (change b) r.2 q_own in
          once.0 (rw same at r.1)

  -- by the bind, or by a live grab of it
  by_reader : (owner : ℕ) (path : List Edge) (left body : Formula) (b : NodeId) (p : GraphPoint) (more : List GraphPoint)
      → Reader x.meanings x.state X owner path → X (Place owner (Left ∷ path))
      → formula_at x.state owner path ≡ Some (Bind left body) → node_at x owner path ≡ Some b → IsOfBind x b p
      → length more ≡ 128 → IsGraphWalk D (change b ∷ more) → NoRepeats (change b ∷ more) → Tells p
  by_reader owner path left body b p more (inl is) left_is f_is at of long w once =
      let deep = stands_deep x.meanings x.state owner (rounds path) (stand (Place owner path) is) in
      behind (Place owner path) (Main (Place owner path)) owner path left body b p more is (of_bind refl at of)
      (rw (form_is x.state owner path (Bind left body) f_is tt) (main_first x.state (Place owner path)))
      (main_in x.meanings x.state owner path deep.0 (Bind left body) (Change (Place owner path)) f_is
      (scoped_in x.meanings x.state owner path deep.0 (Bind left body) _ (Change (Place owner path)) tt
      (deep.1 deep.0 (omega arith)) (inl refl)))
      left_is f_is at long w once
  by_reader owner path left body b p more (inr (top, k, v, is, body_is)) left_is f_is at of long w once =
      let g = fits.grabbed k owner v body_is in
      let node : node_at x owner [] ≡ Some (x.nodes owner) = rw g.is_bind refl in
      let there : node_at x owner [] ≡ Some b = rw top at at in
      let same : b ≡ x.nodes owner = (let s : Some b ≡ Some (x.nodes owner) = sym there ∙ node in cc) in
      behind (Named k) (Main (Place owner (Inside v ∷ []))) owner [] left body b p more is
      (of_grab refl body_is (rw same at of))
      (rw body_is (main_first x.state (Place owner (Inside v ∷ []))))
      (grab_depends x fits keep valid k owner v g.left g.body g.kept body_is g.is_bind g.no_name)
      (rw top at left_is) (rw top at f_is) there long w once

  -- ---- by how the point is covered

  main_no_change : (q : Point) (n : NodeId) → Own x X q (main n) → (owner : ℕ) (path : List Edge) → q ≡ Change (Place owner path) → ⊥
  main_no_change q n (own_name k is self q_is p_is) owner path e = cc
  main_no_change q n (own_place o r f m is f_is form at q_is p_is) owner path e = cc
  main_no_change q n (own_choice o r f m is f_is choice at q_is p_is) owner path e =
      let parts : MainPart ≡ ChangePart = ap (λ (p : GraphPoint). p.part) p_is in cc
  main_no_change q n (own_left o r l b m is f_is at q_is p_is) owner path e =
      let parts : MainPart ≡ ChangePart = ap (λ (p : GraphPoint). p.part) p_is in cc
  main_no_change q n (own_grab k b v is body_is q_is p_is) owner path e = cc

  main_tells : (i : Item) (n : NodeId) (p : GraphPoint) (rest : List GraphPoint) → X i → node_of x i ≡ Some n → p ≡ main n
      → length rest ≡ 129 → IsGraphWalk D (p ∷ rest) → NoRepeats (p ∷ rest) → Tells p
  main_tells i n p [] is node e long w once = absurd (omega (arith, long))
  main_tells i n p (Q ∷ rest) is node e long w once =
      let found = main_item i n Q is node (rw e at w.0) in
      own_tells found.0 p (Q ∷ rest) (rw e found.1) long w once
      (λ owner path q_is. absurd (main_no_change found.0 n found.1 owner path q_is))

  choice_tells : (owner : ℕ) (path : List Edge) (f : Formula) (n : NodeId) (p : GraphPoint) (rest : List GraphPoint)
      → X (Place owner path) → formula_at x.state owner path ≡ Some f → IsChoice (Some f) → node_at x owner path ≡ Some n
      → p ≡ change n → length rest ≡ 129 → IsGraphWalk D (p ∷ rest) → NoRepeats (p ∷ rest) → Tells p
  choice_tells owner path f n p rest is f_is choice at e long w once =
      own_tells (Change (Place owner path)) p rest (own_choice owner path f n is f_is choice at refl e) long w once
      (λ o r q_is. let item : Place owner path ≡ Place o r = cc in subst X item is)

  left_tells : (owner : ℕ) (path : List Edge) (left body : Formula) (b : NodeId) (p : GraphPoint) (rest : List GraphPoint)
      → Reader x.meanings x.state X owner path → X (Place owner (Left ∷ path))
      → formula_at x.state owner path ≡ Some (Bind left body) → node_at x owner path ≡ Some b → p ≡ change b
      → length rest ≡ 129 → IsGraphWalk D (p ∷ rest) → NoRepeats (p ∷ rest) → Tells p
  left_tells owner path left body b p rest (inl whole) is f_is at e long w once =
      own_tells (Change (Place owner path)) p rest (own_left owner path left body b is f_is at refl e) long w once
      (λ o r q_is. let item : Place owner path ≡ Place o r = cc in subst X item whole)
  left_tells owner path left body b p [] (inr grab) is f_is at e long w once = absurd (omega (arith, long))
  left_tells owner path left body b p (Q ∷ rest) (inr grab) is f_is at e long w once =
      let short = one_less Q rest in
      let shorter = but_last_once (Q ∷ rest) once.1 in
      by_reader owner path left body b p (but_last (Q ∷ rest)) (inr grab) is f_is at (inl e)
      (omega (arith, long, short)) (rw e at (but_last_walk D p (Q ∷ rest) w))
      ((λ among. once.0 (subst (λ (q : GraphPoint). Among q (Q ∷ rest)) (sym e) (but_last_among (change b) (Q ∷ rest) among))), shorter)

  pub variable_leads : (b c : NodeId) (r : Row) (v : _) (Q : GraphPoint) → x.graph.row c ≡ Some r → r.scope ≡ Some b
      → r.def ≡ graph.Const v → D (main c) Q → Q ≡ change b
  variable_leads b c r v Q row scope def (depend.gate {r = r'} {b = b'} row' scope' Q_is) =
      let rows : r ≡ r' = cc in
      let same : b ≡ b' = (let e = rw rows at scope in cc) in Q_is ∙ ap change (sym same)
  variable_leads b c r v Q row scope def (depend.ghost gone died Q_is) = absurd (cc)
  variable_leads b c r v Q row scope def (depend.fixed {r = r'} row' round among) =
      let rows : r' ≡ r = cc in absurd (rw (rows, def) at among)
  variable_leads b c r v Q row scope def (depend.right {r = r'} row' round part sub gives among Q_is) =
      let rows : r' ≡ r = cc in absurd (let e = rw (rows, def) at sub in cc)

  variable_tells : (owner : ℕ) (path : List Edge) (left body : Formula) (b c : NodeId) (r : Row) (v : _) (p : GraphPoint)
      (rest : List GraphPoint) → Reader x.meanings x.state X owner path → X (Place owner (Left ∷ path))
      → formula_at x.state owner path ≡ Some (Bind left body) → node_at x owner path ≡ Some b
      → x.graph.row c ≡ Some r → r.scope ≡ Some b → r.def ≡ graph.Const v → p ≡ main c
      → length rest ≡ 129 → IsGraphWalk D (p ∷ rest) → NoRepeats (p ∷ rest) → Tells p
  variable_tells owner path left body b c r v p [] reader is f_is at row scope def e long w once =
      absurd (omega (arith, long))
  variable_tells owner path left body b c r v p (Q ∷ rest) reader is f_is at row scope def e long w once =
      let Q_is = variable_leads b c r v Q row scope def (rw e at w.0) in
      let node : x.graph.row p.node ≡ Some r = rw e row in
      by_reader owner path left body b p rest reader is f_is at (inr (r, node, scope)) (omega (arith, long))
      (subst (λ (q : GraphPoint). IsGraphWalk D (q ∷ rest)) Q_is w.1)
      (subst (λ (q : GraphPoint). NoRepeats (q ∷ rest)) Q_is once.1)

  pub covered_tells : ((owner : ℕ) (path : List Edge) → X (Place owner (Left ∷ path)) → Reader x.meanings x.state X owner path)
      → (p : GraphPoint) (rest : List GraphPoint) (i : Item) → X i → Covers x i p → length rest ≡ 129
      → IsGraphWalk D (p ∷ rest) → NoRepeats (p ∷ rest) → Tells p
  covered_tells readers p rest i is (by_main {n = n} node e) long w once = main_tells i n p rest is node e long w once
  covered_tells readers p rest i is (by_choice {owner = owner} {path = path} {n = n} item at choice e) long w once =
      let place = rw item at is in
      let f = closed.there owner path place in
      choice_tells owner path f.0 n p rest place f.1 (rw f.1 at choice) at e long w once
  covered_tells readers p rest i is (by_left {owner = owner} {path = path} {b = b} item at e) long w once =
      let place = rw item at is in
      let f = closed.there owner (Left ∷ path) place in
      let above = part_above x.state owner path Left f.0 f.1 in
      let bind = left_bind above.0 f.0 above.2 in
      left_tells owner path bind.0 bind.1 b p rest (readers owner path place) place (above.1 ∙ ap (λ f. Some f) bind.2) at e
      long w once
  covered_tells readers p rest i is (by_variable {owner = owner} {path = path} {b = b} {c = c} {r = r} {v = v} item at row scope
      built for def e) long w once =
      let place = rw item at is in
      let f = closed.there owner (Left ∷ path) place in
      let above = part_above x.state owner path Left f.0 f.1 in
      let bind = left_bind above.0 f.0 above.2 in
      variable_tells owner path bind.0 bind.1 b c r v p rest (readers owner path place) place
      (above.1 ∙ ap (λ f. Some f) bind.2) at row scope def e long w once

-- ---- the law

pub deep_has_item : DeepHasItem
deep_has_item x fits keep valid before grabs stay grabs_stay p rest covered long w once =
    covered_tells x fits keep valid (λ i. Met x.meanings before x.state i)
    (met_closed x before grabs (valid_grabs x.meanings x.state valid) stay)
    (λ i is. met_stands x.meanings before x.state i is)
    (λ owner path is. left_has_reader x.meanings before x.state grabs_stay owner path is) p rest covered.0 covered.1 covered.2
    long w once
