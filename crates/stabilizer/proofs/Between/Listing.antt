-- The freezes that keep no value and were given since a count are listed, each once.
use Rattle.std.proofs.Common.{◌≡◌, ◌≢◌, inl, inr, ℕ, ◌+◌, ◌-◌, ◌<◌, ◌≤◌, Bool, true, false, cond, List, [], ◌∷◌, ◌++◌, map, Option, None, nat_lt, ◌&&◌, refl, sym, ap, subst, ◌∙◌, arith}
use Rattle.std.specs.Prelude.{is_some}
use Rattle.std.proofs.lemmas.Bool.{cases_lt, false_from_ne_true, lt-ltb, ltb-true}
use Rattle.std.proofs.lemmas.List.{map-append}
use Rattle.inc_value.specs.declared.node.NodeId.{NodeId}
use Rattle.inc_value.specs.declared.node.Part.{Part}
use Rattle.inc_value.specs.declared.node.Part.TheVariants.{Main, Change}
use Rattle.inc_value.specs.declared.node.Point.{Point}
use Rattle.inc_terms.specs.Depend.{main}
use Rattle.inc_terms.specs.Graph.{Graph, Row}
use Rattle.point_map.specs.Rows.{at}
use Rattle.point_map.proofs.Places.{point_cases}
use Rattle.node_arena.specs.Arena.{Arena, IsLive, row_at}
use Rattle.node_arena.specs.Sound.{IsFirstSince, IsSoundArena}
use Rattle.node_outcomes.specs.Row.{kept_in}
use Rattle.stabilize_round.specs.State.{count}
use Rattle.stabilize_round.proofs.Points.{count_append, one_same, one_other}
use Rattle.stabilizer.specs.Look.{freeze_roots, is_main, is_unfrozen}
use Rattle.stabilizer.proofs.Between.Alone.{main_is}
use Rattle.wiring.specs.Graph.{graph_at}
use Rattle.wiring.specs.declared.work.Work.{Work}
use Rattle.wiring.proofs.Linking.{some_or_none}

not_lt : (x y : ℕ) → y ≤ x → nat_lt x y ≡ false
not_lt x y le = false_from_ne_true (nat_lt x y) (λ t. let h = ltb-true x y t in absurd (omega (arith, h, le)))

never_one : (a b : Bool) → ◌≡◌ {A = ℕ} (cond (a && b && false) 1 0) 0
never_one true true = refl
never_one true false = refl
never_one false b = refl

-- by one count and by another, where the node was given before both, or after both, or isn't such a freeze
module _ (G : Graph) (since later : ℕ) (p : Point) where
  same_test : nat_lt p.node.gen_ since ≡ nat_lt p.node.gen_ later → freeze_roots G since p ≡ freeze_roots G later p
  same_test e = ap (λ (b : Bool). cond (is_main p.part && b && is_unfrozen (G.row p.node) (G.frozen p.node)) 1 0) e

  both_before : p.node.gen_ < since → p.node.gen_ < later → freeze_roots G since p ≡ freeze_roots G later p
  both_before a b = same_test (lt-ltb p.node.gen_ since a ∙ sym (lt-ltb p.node.gen_ later b))

  both_behind : since ≤ p.node.gen_ → later ≤ p.node.gen_ → freeze_roots G since p ≡ freeze_roots G later p
  both_behind a b = same_test (not_lt p.node.gen_ since a ∙ sym (not_lt p.node.gen_ later b))

no_root : (G : Graph) (since : ℕ) (p : Point) → is_unfrozen (G.row p.node) (G.frozen p.node) ≡ false → freeze_roots G since p ≡ 0
no_root G since p off = ap (λ (b : Bool). cond (is_main p.part && nat_lt p.node.gen_ since && b) 1 0) off ∙ never_one (is_main p.part) (nat_lt p.node.gen_ since)

dead_root : (G : Graph) (since : ℕ) (p : Point) → G.row p.node ≡ None → freeze_roots G since p ≡ 0
dead_root G since p gone = no_root G since p (ap (λ (x : Option Row). is_unfrozen x (G.frozen p.node)) gone)

change_root : (G : Graph) (since : ℕ) (p : Point) → p.part ≡ Change → freeze_roots G since p ≡ 0
change_root G since p is = rw is refl

late_root : (G : Graph) (since : ℕ) (n : NodeId) → since ≤ n.gen_ → freeze_roots G since (main n) ≡ 0
late_root G since n le = rw (not_lt n.gen_ since le) refl

test_root : (G : Graph) (since : ℕ) (n : NodeId) (b : Bool) → n.gen_ < since → is_unfrozen (G.row n) (G.frozen n) ≡ b → freeze_roots G since (main n) ≡ cond b 1 0
test_root G since n b before is = rw (lt-ltb n.gen_ since before, is) refl

-- those are listed that were given since the count and before the next
pub record AreListed (arena : Arena) (work : Work) (from next : ℕ) (done : List NodeId) : Type 0 where
  pub low : from ≤ next
  pub all : (p : Point) → count p (map main done) + freeze_roots (graph_at arena work) from p ≡ freeze_roots (graph_at arena work) next p

module _ (arena : Arena) (work : Work) (from next : ℕ) (done : List NodeId) (so : AreListed arena work from next done) (sound : IsSoundArena arena) where
  abbrev G : Graph
  G = graph_at arena work

  module _ (id : NodeId) (first : IsFirstSince arena next id) where
    of_main : (p : Point) → p ≢ main id → p.part ≡ Main → freeze_roots G next p ≡ freeze_roots G (id.gen_ + 1) p
    of_main p ne part = elim (cases_lt p.node.gen_ next) [
      | inl before ↦ both_before G next (id.gen_ + 1) p before (let s = first.since in omega (arith, before, s))
      | inr since ↦ elim (cases_lt p.node.gen_ (id.gen_ + 1)) [
        | inr behind ↦ both_behind G next (id.gen_ + 1) p since behind
        | inl within ↦ elim (some_or_none (row_at arena p.node)) [
          | inr gone ↦ dead_root G next p gone ∙ sym (dead_root G (id.gen_ + 1) p gone)
          | inl r ↦ absurd (
              let live : IsLive arena p.node = ap is_some r.1 in
              let least = first.first p.node live since in
              let same = sound.generations p.node id live first.live (omega (arith, least, within)) in
              ne (main_is p part ∙ ap main same))
        ]
      ]
    ]

    of_others : (p : Point) → p ≢ main id → freeze_roots G next p ≡ freeze_roots G (id.gen_ + 1) p
    of_others p ne = by_part p.part refl
      where
        by_part : (part : Part) → p.part ≡ part → freeze_roots G next p ≡ freeze_roots G (id.gen_ + 1) p
        by_part Main is = of_main p ne is
        by_part Change is = change_root G next p is ∙ sym (change_root G (id.gen_ + 1) p is)

    low_next : from ≤ id.gen_ + 1
    low_next = let l = so.low in let s = first.since in omega (arith, l, s)

    here : (b : Bool) → is_unfrozen (row_at arena id) (kept_in (at work.rows (main id))) ≡ b → freeze_roots G (id.gen_ + 1) (main id) ≡ cond b 1 0
    here b is = test_root G (id.gen_ + 1) id b (omega arith) is

    pub list_skips : is_unfrozen (row_at arena id) (kept_in (at work.rows (main id))) ≡ false → AreListed arena work from (id.gen_ + 1) done
    list_skips off = record {
      low = low_next;
      all = λ p. so.all p ∙ elim (point_cases p (main id)) [
        | inl is ↦ subst (λ (x : Point). freeze_roots G next x ≡ freeze_roots G (id.gen_ + 1) x) (sym is)
            (late_root G next id first.since ∙ sym (here false off))
        | inr ne ↦ of_others p ne
      ];
    }

    more : (p : Point) → count p (map main (done ++ id ∷ [])) ≡ count p (map main done) + count p (main id ∷ [])
    more p = ap (count p) (map-append main done (id ∷ [])) ∙ count_append p (map main done) (main id ∷ [])

    pub list_adds : is_unfrozen (row_at arena id) (kept_in (at work.rows (main id))) ≡ true → AreListed arena work from (id.gen_ + 1) (done ++ id ∷ [])
    list_adds on = record {
      low = low_next;
      all = λ p. elim (point_cases p (main id)) [
        | inl is ↦ subst (λ (x : Point). count x (map main (done ++ id ∷ [])) + freeze_roots G from x ≡ freeze_roots G (id.gen_ + 1) x) (sym is)
            (let m = more (main id) in
            let a = so.all (main id) in
            let z = late_root G next id first.since in
            let h = here true on in
            let o = one_same (main id) in
            omega (arith, m, a, z, h, o))
        | inr ne ↦
            let m = more p in
            let a = so.all p in
            let e = of_others p ne in
            let o = one_other p (main id) ne in
            omega (arith, m, a, e, o)
      ];
    }
