-- Where need begins without an observer: at freezes that keep no value.
use Rattle.std.proofs.Common.{◌≡◌, inl, inr, ℕ, ◌+◌, ◌<◌, Bool, true, false, cond, List, [], ◌∷◌, map, Option, None, Some, nat_lt, ◌&&◌, refl, sym, ap, ◌∙◌, arith}
use Rattle.std.proofs.lemmas.Bool.{cases_lt, lt-ltb, ltb-true}
use Rattle.std.proofs.lemmas.Option.{none-some}
use Rattle.inc_value.specs.Choice.{Among}
use Rattle.inc_value.specs.declared.function.FnRef.{FnRef}
use Rattle.inc_value.specs.declared.node.NodeId.{NodeId}
use Rattle.inc_value.specs.declared.node.Part.{Part}
use Rattle.inc_value.specs.declared.node.Part.TheVariants.{Main, Change}
use Rattle.inc_value.specs.declared.node.Point.{Point}
use Rattle.inc_value.specs.declared.value.Value.{Value}
use Rattle.inc_terms.specs.Depend.{main}
use Rattle.inc_terms.specs.Graph as graph
use Rattle.inc_terms.specs.Graph.{Graph, Row, Def, Freeze}
use Rattle.inc_terms.specs.Need.{IsRoot, IsUnfrozen}
use Rattle.inc_terms.proofs.Plan.{among_map}
use Rattle.stabilize_round.specs.State.{count}
use Rattle.stabilize_round.proofs.Points.{among_count, count_among}
use Rattle.stabilizer.specs.Look.{freeze_roots, is_freeze, is_main, is_unfrozen}

-- what is a freeze by the test is one
freeze_of : (def : Def) → is_freeze def ≡ true → (kid : NodeId) × (f : FnRef) × (def ≡ Freeze kid f)
freeze_of (graph.Freeze kid f) e = (kid, f, refl)
freeze_of _ e = absurd (cc)

-- what keeps no value by the test keeps none
unfrozen_of : (x : Option Row) (v : Option Value) → is_unfrozen x v ≡ true → (r : Row) × (x ≡ Some r) × (is_freeze r.def ≡ true) × (v ≡ None)
unfrozen_of (Some r) None e = (r, refl, e, refl)
unfrozen_of (Some r) (Some v) e = absurd (cc)
unfrozen_of None v e = absurd (cc)

main_of : (part : Part) → is_main part ≡ true → part ≡ Main
main_of Main e = refl
main_of Change e = absurd (cc)

-- what is counted once holds
one_if : (a b c : Bool) → 0 < cond (a && b && c) 1 0 → (a ≡ true) × (b ≡ true) × (c ≡ true)
one_if true true true h = (refl, refl, refl)
one_if true true false h = absurd (omega (arith, h))
one_if true false c h = absurd (omega (arith, h))
one_if false b c h = absurd (omega (arith, h))

module _ (G : Graph) (since : ℕ) where
  -- a freeze that keeps no value is a root once
  pub unfrozen_root : (n : NodeId) → IsUnfrozen G n → n.gen_ < since → freeze_roots G since (main n) ≡ 1
  unfrozen_root n u given =
      let row = u.is_row in
      let def = u.is_freeze in
      let none = u.keeps_none in
      let before : nat_lt n.gen_ since ≡ true = lt-ltb n.gen_ since given in
      rw (before, row, none, def) refl

  -- what is a root so is one
  pub root_unfrozen : (p : Point) → 0 < freeze_roots G since p → IsUnfrozen G p.node × (p ≡ main p.node) × (p.node.gen_ < since)
  root_unfrozen p h =
      let all = one_if (is_main p.part) (nat_lt p.node.gen_ since) (is_unfrozen (G.row p.node) (G.frozen p.node)) h in
      let u = unfrozen_of (G.row p.node) (G.frozen p.node) all.2 in
      let f = freeze_of u.0.def u.2 in (
        record { row = u.0; kid = f.0; predicate = f.1; is_row = u.1; is_freeze = f.2; keeps_none = u.3 },
        (λ i. record { node = p.node; part = (main_of p.part all.0) i }),
        ltb-true p.node.gen_ since all.1,
      )

  -- a freeze that keeps a value is none
  pub frozen_root : (n : NodeId) (v : Value) → G.frozen n ≡ Some v → freeze_roots G since (main n) ≡ 0
  frozen_root n v e = elim (cases_lt 0 (freeze_roots G since (main n))) [
    | inl h ↦ absurd (none-some v (sym (root_unfrozen (main n) h).0.keeps_none ∙ e))
    | inr z ↦ omega (arith, z)
  ]

-- of a point whose row and value stay it stays
pub roots_stay : (G G' : Graph) (since : ℕ) (p : Point) → G'.row p.node ≡ G.row p.node → (p.part ≡ Main → G'.frozen p.node ≡ G.frozen p.node)
    → freeze_roots G' since p ≡ freeze_roots G since p
roots_stay G G' since p row frozen = by_part p.part refl
  where
    by_part : (part : Part) → p.part ≡ part → freeze_roots G' since p ≡ freeze_roots G since p
    by_part Change is = rw is refl
    by_part Main is =
        let v = frozen is in
        ap (λ (b : Bool). cond (is_main p.part && nat_lt p.node.gen_ since && b) 1 0)
        (ap (λ (x : Option Row). is_unfrozen x (G'.frozen p.node)) row ∙ ap (λ (x : Option Value). is_unfrozen (G.row p.node) x) v)

-- a main that is listed is of a node that is
pub among_main : (p : Point) (ns : List NodeId) → Among p (map main ns) → (n : NodeId) × Among n ns × (p ≡ main n)
among_main p [] a = absurd a
among_main p (n ∷ ns) (inl e) = (n, inl refl, e)
among_main p (n ∷ ns) (inr a) = let k = among_main p ns a in (k.0, inr k.1, k.2)

-- ---- roots are of observers and of freezes

module _ (G : Graph) (since : ℕ) (observed : List NodeId) (root : Point → ℕ)
    (are : (p : Point) → root p ≡ count p (map main observed) + freeze_roots G since p) where
  pub observed_root : (n : NodeId) → Among n observed → 0 < root (main n)
  observed_root n a = let c = among_count (main n) (map main observed) (among_map main n observed a) in omega (arith, are (main n), c)

  pub is_root : (n : NodeId) → IsRoot G observed n → ((r : Row) → G.row n ≡ Some r → n.gen_ < since) → 0 < root (main n)
  is_root n (inl a) given = observed_root n a
  is_root n (inr u) given = let one = unfrozen_root G since n u (given u.row u.is_row) in omega (arith, are (main n), one)

  pub root_is : (p : Point) → 0 < root p → (n : NodeId) × IsRoot G observed n × (p ≡ main n)
  root_is p h = elim (cases_lt 0 (freeze_roots G since p)) [
    | inl f ↦ let u = root_unfrozen G since p f in (p.node, inr u.0, u.1)
    | inr none ↦
        let a = among_main p observed (count_among p (map main observed) (omega (arith, are p, h, none))) in
        (a.0, inl a.1, a.2)
  ]
