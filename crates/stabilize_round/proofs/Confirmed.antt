-- Once a round is strict each link is in Depends.
use Rattle.std.proofs.Common.{◌≡◌, ◌⊎◌, inl, inr, true, List, [], ◌∷◌, Option, None, Some, refl, sym, subst, arith}
use Rattle.inc_value.specs.declared.node.NodeId.{NodeId}
use Rattle.inc_value.specs.declared.node.Part.{Part}
use Rattle.inc_value.specs.declared.node.Part.TheVariants.{Change, Main}
use Rattle.inc_value.specs.declared.node.Point.{Point}
use Rattle.inc_value.specs.Choice.{Among}
use Rattle.inc_value.specs.Walk.{IsWalk}
use Rattle.inc_terms.proofs.Walk.{rising_walks_end}
use Rattle.stabilize_round.specs.StepLaws.{LinkedOr, ListedAreMet, ListedOnce}
use Rattle.stabilize_round.proofs.Entry.{entry_holds}
use Rattle.stabilize_round.proofs.Machine.{moves_keep}
use Rattle.stabilize_round.proofs.Linking.{met_more}
use Rattle.inc_terms.specs.Term.{Functions}
use Rattle.inc_terms.specs.Graph as graph
use Rattle.inc_terms.specs.Graph.{Graph, Row}
use Rattle.inc_terms.specs.Evaluate.{NodeGives, Stands, answer}
use Rattle.inc_terms.specs.Depend.{Depends, gate, ghost, fixed, main, change, fixed_reads}
use Rattle.inc_terms.specs.Local.{HasRun}
use Rattle.inc_terms.specs.Plan.{gate_of, right_links}
use Rattle.inc_terms.proofs.Unfolding.{scope_stands}
use Rattle.inc_terms.proofs.Plan.{among_right, among_parts, plan_depends}
use Rattle.stabilize_round.specs.State.{State, Start, Stage, Bare, Gated, Static, Full, Linked, planned, live_plan, ghost_plan}
use Rattle.stabilize_round.specs.Invariant.{Invariant, MetNow, from_root}
use Rattle.stabilize_round.proofs.Points.{count_among}
use Rattle.stabilize_round.proofs.Parts.{reaches_map}
use Rattle.stabilize_round.proofs.Low.{gate_among}

-- ---- what a point's plan names it depends on, once its gate is settled and, for its right side, its change

module _ (F : Functions) (z : Start) (s : State) (inv : Invariant F z s) where
  abbrev G : Graph
  G = s.graph

  module _ (p q : Point) (r : Row) (row : G.row p.node ≡ Some r) (gates : (b : NodeId) → r.scope ≡ Some b → s.settled (change b) ≡ true) where
    pub stands : (x : Option NodeId) → r.scope ≡ x → Stands F G x
    unfolding answer
    stands None e = (1, refl)
    stands (Some b) e =
        let done = inv.settled.done (change b) (gates b e) in
        let k = inv.scoped p.node r b row e in
        let c = done.exact k.0 k.4 in
        let run : HasRun F G s.out b (graph.Bind k.1 k.2 k.3) k.1 = rw k.5 at (c.1 k.1 (rw k.5 refl)) in
        let w = run.3 in
        let left : NodeGives F G k.1 w.0.outcome = rw w.2 run.2 in
        scope_stands F G b k.0 k.1 k.2 k.3 w.0 k.4 k.5 c.0 w.1 left

    -- the caller's duty at a link: gate, own change, kids and subject
    pub fixed_confirmed : Among q (fixed_reads G p.node r.def p.part) → Depends F G s.died p q
    fixed_confirmed a = fixed row (stands r.scope refl) a

    -- and the right side, in a step of its own change
    pub right_confirmed : s.settled (change p.node) ≡ true → Among q (right_links G s.out p.node r.def p.part) → Depends F G s.died p q
    right_confirmed own a =
        let done = inv.settled.done (change p.node) own in
        plan_depends F G s.out s.died p q r row (stands r.scope refl) (λ part k sub. (done.exact r row).1 k sub)
        (among_right q (gate_of r.scope) _ (among_right q (fixed_reads G p.node r.def p.part) _ a))

module _ (F : Functions) (z : Start) (s : State) (inv : Invariant F z s) (strict : s.retries ≡ 0) where
  planned_of : (p q : Point) → Linked s p q → Among q (planned s p)
  planned_of p q l = let e = inv.rows.links p q (inv.web.from p q l) in count_among q (planned s p) (omega arith)

  module _ (p q : Point) (r : Row) (row : s.graph.row p.node ≡ Some r) (need : s.needed p ≡ true) where
    by_gate : Among q (gate_of r.scope) → Depends F s.graph s.died p q
    by_gate a = let g = gate_among r.scope q a in gate row g.1 g.2

    gates : (s.stage p ≡ Static) ⊎ (s.stage p ≡ Full) → (b : NodeId) → r.scope ≡ Some b → s.settled (change b) ≡ true
    gates st b e = inv.strict.gates strict p r b row need e st

    by_right : s.stage p ≡ Full → (part : Part) → p.part ≡ part → Among q (right_links s.graph s.out p.node r.def part) → Depends F s.graph s.died p q
    by_right st Change is a = absurd a
    by_right st Main is a =
        let mine : main p.node ≡ p = λ i. record { node = p.node; part = (sym is) i } in
        let own = inv.strict.rights strict p.node r q row (subst (λ (y : Point). s.needed y ≡ true) (sym mine) need)
        (subst (λ (y : Point). s.stage y ≡ Full) (sym mine) st) a in
        right_confirmed F z s inv p q r row (gates (inr st)) own (rw is a)

    by_stage : (st : Stage) → s.stage p ≡ st → Among q (live_plan s.graph s.out p r st) → Depends F s.graph s.died p q
    by_stage Bare e a = absurd a
    by_stage Gated e a = by_gate a
    by_stage Static e a = elim (among_parts q (gate_of r.scope) _ a) [
      | inl g ↦ by_gate g
      | inr f ↦
          fixed_confirmed F z s inv p q r row (gates (inl e)) f
    ]
    by_stage Full e a = elim (among_parts q (gate_of r.scope) _ a) [
      | inl g ↦ by_gate g
      | inr k ↦ elim (among_parts q (fixed_reads s.graph p.node r.def p.part) _ k) [
        | inl f ↦
            fixed_confirmed F z s inv p q r row (gates (inr e)) f
        | inr t ↦ by_right e p.part refl t
      ]
    ]

  by_ghost : (p q : Point) → s.graph.row p.node ≡ None → (st : Stage) → Among q (ghost_plan (s.died p.node) st) → Depends F s.graph s.died p q
  by_ghost p q row Bare a = absurd a
  by_ghost p q row Gated a = let g = gate_among (s.died p.node) q a in ghost row g.1 g.2
  by_ghost p q row Static a = let g = gate_among (s.died p.node) q a in ghost row g.1 g.2
  by_ghost p q row Full a = let g = gate_among (s.died p.node) q a in ghost row g.1 g.2

  -- in a strict round each link is in Depends
  pub strict_depends : (p q : Point) → Linked s p q → Depends F s.graph s.died p q
  strict_depends p q l = by_row (s.graph.row p.node) refl
    where
      by_row : (x : Option Row) → s.graph.row p.node ≡ x → Depends F s.graph s.died p q
      by_row None row = by_ghost p q row (s.stage p) (rw row at (planned_of p q l))
      by_row (Some r) row = by_stage p q r row (inv.web.from p q l) (s.stage p) refl (rw row at (planned_of p q l))

  pub strict_met : (p : Point) → s.needed p ≡ true → MetNow F z s.graph s.died s.root p
  strict_met p need = let w = inv.web.reached p need in from_root w.1 (reaches_map (Linked s) (Depends F s.graph s.died) strict_depends w.0 p w.2)

-- ---- what refusals list

module _ (F : Functions) (z : Start) (s : State) (inv : Invariant F z s) (strict : s.retries ≡ 0) (p q : Point) (tried : Depends F s.graph s.died p q) where
  one_depends : (a b : Point) → LinkedOr s p q a b → Depends F s.graph s.died a b
  one_depends a b (inl l) = strict_depends F z s inv strict a b l
  one_depends a b (inr is) = subst (λ (y : Point). Depends F s.graph s.died y b) is.0 (subst (λ (y : Point). Depends F s.graph s.died p y) is.1 tried)

  listed_depends : (x : Point) (rest : List Point) → IsWalk (LinkedOr s p q) (x ∷ rest) → IsWalk (Depends F s.graph s.died) (x ∷ rest)
  listed_depends x [] w = tt
  listed_depends x (y ∷ rest) w = (one_depends x y w.0, listed_depends y rest w.1)

  listed_met : (x : Point) (rest : List Point) → MetNow F z s.graph s.died s.root x → IsWalk (LinkedOr s p q) (x ∷ rest)
      → (y : Point) → Among y (x ∷ rest) → MetNow F z s.graph s.died s.root y
  listed_met x rest met w y (inl is) = subst (λ (k : Point). MetNow F z s.graph s.died s.root k) (sym is) met
  listed_met x [] met w y (inr a) = absurd a
  listed_met x (k ∷ rest) met w y (inr a) = listed_met k rest (met_more F z s.graph s.died s.root x k met (one_depends x k w.0)) w.1 y a

pub listed_are_met : ListedAreMet
listed_are_met F z s t entry run strict p q tried x rest need walk =
    let inv = moves_keep F z s t run (entry_holds F z s entry) in (
      listed_depends F z t inv strict p q tried x rest walk,
      λ y a. listed_met F z t inv strict p q tried x rest (strict_met F z t inv strict x need) walk y a,
    )

pub listed_once : ListedOnce
listed_once F z s t entry run x rest walk =
    let web = (moves_keep F z s t run (entry_holds F z s entry)).web in
    let w = rising_walks_end t.links t.height x rest (λ a b l. web.rises a b l) walk in
    let low = web.low x in let short = w.0 in
    (w.1, omega arith)
