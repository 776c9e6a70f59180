-- A point with all its links has those that it depends on.
use Rattle.std.proofs.Common.{◌≡◌, ◌⊎◌, inl, inr, List, [], ◌∷◌, ◌++◌, map, Option, None, Some, refl, ap}
use Rattle.inc_value.specs.declared.node.NodeId.{NodeId}
use Rattle.inc_value.specs.declared.node.Part.{Part}
use Rattle.inc_value.specs.declared.node.Part.TheVariants.{Change, Main}
use Rattle.inc_value.specs.declared.node.Point.{Point}
use Rattle.inc_value.specs.declared.outcome.Outcome.{Outcome}
use Rattle.inc_value.specs.Choice.{Among}
use Rattle.inc_terms.specs.Term.{Functions}
use Rattle.inc_terms.specs.Graph as graph
use Rattle.inc_terms.specs.Graph.{Graph, Row, Def}
use Rattle.inc_terms.specs.Evaluate.{Stands}
use Rattle.inc_terms.specs.Depend.{Depends, gate, ghost, fixed, right, main, change, subject_of, fixed_reads, right_of, rights_of}
use Rattle.inc_terms.specs.Local.{HasRun}
use Rattle.inc_terms.specs.Plan.{gate_of, targets, right_links, plan}
use Rattle.inc_terms.proofs.Evaluation.{one_outcome}

pub among_left : {A : Type 0} (a : A) (xs ys : List A) → Among a xs → Among a (xs ++ ys)
among_left a [] ys h = absurd h
among_left a (x ∷ xs) ys (inl e) = inl e
among_left a (x ∷ xs) ys (inr h) = inr (among_left a xs ys h)

pub among_right : {A : Type 0} (a : A) (xs ys : List A) → Among a ys → Among a (xs ++ ys)
among_right a [] ys h = h
among_right a (x ∷ xs) ys h = inr (among_right a xs ys h)

pub among_parts : {A : Type 0} (a : A) (xs ys : List A) → Among a (xs ++ ys) → Among a xs ⊎ Among a ys
among_parts a [] ys h = inr h
among_parts a (x ∷ xs) ys (inl e) = inl (inl e)
among_parts a (x ∷ xs) ys (inr h) = elim (among_parts a xs ys h) [ inl i ↦ inl (inr i) | inr i ↦ inr i ]

pub among_map : {A B : Type 0} (f : A → B) (a : A) (xs : List A) → Among a xs → Among (f a) (map f xs)
among_map f a [] h = absurd h
among_map f a (x ∷ xs) (inl e) = inl (ap f e)
among_map f a (x ∷ xs) (inr h) = inr (among_map f a xs h)

module _ (F : Functions) (G : Graph) (out : Point → Option Outcome) (died : NodeId → Option NodeId) (p q : Point)
    (r : Row) (row : G.row p.node ≡ Some r) (stands : Stands F G r.scope)
    (run : p.part ≡ Main → (s : NodeId) → subject_of r.def ≡ Some s → HasRun F G out p.node r.def s) where
  no_right : (def : Def) → subject_of def ≡ None → (o : Outcome) → right_of G p.node def o ≡ None
  no_right (graph.If t a b) e o = absurd (cc)
  no_right (graph.Join k) e o = absurd (cc)
  no_right (graph.Bind l f caps) e o = absurd (cc)
  no_right _ e o = refl

  by_right : (ms : List NodeId) → Among q (map main ms) → (x : NodeId) × Among x ms × (q ≡ main x)
  by_right [] h = absurd h
  by_right (x ∷ xs) (inl e) = (x, inl refl, e)
  by_right (x ∷ xs) (inr h) = let y = by_right xs h in (y.0, inr y.1, y.2)

  by_gate : (s : Option NodeId) → r.scope ≡ s → Among q (gate_of s) → Depends F G died p q
  by_gate None e h = absurd h
  by_gate (Some b) e (inl is) = gate row e is
  by_gate (Some b) e (inr h) = absurd h

  by_target : p.part ≡ Main → (s : Option NodeId) → subject_of r.def ≡ s → (o : Option Outcome) → out (change p.node) ≡ o
      → Among q (targets G p.node r.def o) → Depends F G died p q
  by_target part s sub None is h = absurd h
  by_target part None sub (Some o) is h = let x = rw (no_right r.def sub o) at h in absurd x
  by_target part (Some s) sub (Some o) is h =
      let x = by_right (rights_of G p.node r.def o) h in
      let ran = run part s sub in
      let same : ran.0 ≡ o = (let y = ran.1 in cc) in
      right row stands part sub (rw same at ran.2) x.1 x.2

  by_links : (part : Part) → p.part ≡ part → Among q (right_links G out p.node r.def part) → Depends F G died p q
  by_links Change is h = absurd h
  by_links Main is h = by_target is (subject_of r.def) refl (out (change p.node)) refl h

  pub plan_depends : Among q (plan G out p r) → Depends F G died p q
  plan_depends h = elim (among_parts q (gate_of r.scope) _ h) [
    | inl g ↦ by_gate r.scope refl g
    | inr k ↦ elim (among_parts q (fixed_reads G p.node r.def p.part) _ k) [
      | inl f ↦ fixed row stands f
      | inr t ↦ by_links p.part refl t
    ]
  ]

  pub depends_plan : Depends F G died p q → Among q (plan G out p r)
  depends_plan (gate {r = r'} {b} e s is) =
      let same : r' ≡ r = cc in
      let scope : r.scope ≡ Some b = rw (← same) s in
      among_left q (gate_of r.scope) _ (rw (scope, is) (inl refl))
  depends_plan (ghost e d is) = absurd (cc)
  depends_plan (fixed {r = r'} e st among) =
      let same : r' ≡ r = cc in
      among_right q (gate_of r.scope) _ (among_left q (fixed_reads G p.node r.def p.part) _ (rw (← same) among))
  depends_plan (right {r = r'} {s} {o} {m} e st part sub gives at is) =
      let same : r' ≡ r = cc in
      let sub' : subject_of r.def ≡ Some s = rw (← same) sub in
      let ran = run part s sub' in
      let os : o ≡ ran.0 = one_outcome F G _ o ran.0 gives ran.2 in
      let at' : Among m (rights_of G p.node r.def ran.0) = rw (← os, ← same) at in
      among_right q (gate_of r.scope) _
      (among_right q (fixed_reads G p.node r.def p.part) _ (rw (part, ran.1, is) (among_map main m (rights_of G p.node r.def ran.0) at')))
