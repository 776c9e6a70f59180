-- A point of a dead node has its gate's link, if the node died in this round, and else none.
use Rattle.std.proofs.Common.{◌≡◌, inl, inr, ◌+◌, true, List, [], ◌∷◌, Option, None, Some, refl, sym, ap, ◌∙◌, arith}
use Rattle.std.proofs.lemmas.Option.{none-some}
use Rattle.inc_value.specs.declared.node.NodeId.{NodeId}
use Rattle.inc_value.specs.declared.node.Point.{Point}
use Rattle.inc_value.specs.Choice.{step, here, Reaches}
use Rattle.inc_terms.specs.Depend.{ghost, change}
use Rattle.inc_terms.specs.Graph.{Row}
use Rattle.point_map.specs.Rows.{at, Holds}
use Rattle.link_table.specs.Links.{Reads}
use Rattle.necessary_graph.specs.Part.{Needed}
use Rattle.node_arena.specs.Arena.{Arena, row_at}
use Rattle.stabilize_round.specs.Machine as move
use Rattle.stabilize_round.specs.State as machine
use Rattle.stabilize_round.specs.State.{State, count, planned, plan_at, ghost_plan}
use Rattle.stabilize_round.specs.Steps.{Wiring, Wired, plainly}
use Rattle.stabilize_round.specs.Wire.{raised, Raise, Finish}
use Rattle.stabilize_round.proofs.Points.{at_same, one_same}
use Rattle.node_outcomes.specs.Computing.{has_part}
use Rattle.node_outcomes.specs.Row.{is_full, stage_in}
use Rattle.node_outcomes.specs.Progress.{Progress}
use Rattle.wiring.specs.Graph.{died_at}
use Rattle.wiring.specs.Kept.{IsKept, IsGhostLink, IsDead}
use Rattle.wiring.specs.Stands.{MatchesState, hand, debts, owes, Counts}
use Rattle.wiring.specs.Wiring.{IsTarget, Wires, AreUnlinked}
use Rattle.wiring.specs.declared.work.Work.{Work}
use Rattle.wiring.proofs.Gating.{rowed_target, change_rowed}
use Rattle.wiring.proofs.Linking.{none_if}
use Rattle.wiring.proofs.Lifting.{Lifts, DueAfter, done_wires}
use Rattle.wiring.proofs.Raising.{rowless_stands, leaves_hand}
use Rattle.wiring.proofs.Staying.{row_of_state}
use Rattle.wiring.proofs.Owing.{owes_partly, owes_whoever}
use Rattle.wiring.proofs.Unlinked.{raised_unlinked}

-- a point of a dead node has no row
pub dead_rowless : (arena : Arena) (work : Work) (p : Point) → IsKept arena work → row_at arena p.node ≡ None → at work.rows p ≡ None
dead_rowless arena work p kept dead = none_if (at work.rows p) (kept.rows p ∙ ap (λ (x : Option Row). has_part x p.part) dead)

-- what is needed of a live node has a row
pub live_rowed : (arena : Arena) (work : Work) (p : Point) (r : Row) → IsKept arena work → Needed work.graph p → row_at arena p.node ≡ Some r
    → Holds work.rows p
live_rowed arena work p r kept need row = elim (kept.leaves p (kept.step.there p need)) [
  | inl rowed ↦ rowed
  | inr dead ↦ absurd (none-some r (sym dead.0 ∙ row))
]

-- the gate of a dead node may be linked to
pub ghost_target : (arena : Arena) (work : Work) (n b : NodeId) → IsKept arena work → died_at work n ≡ Some b → IsTarget arena work (change b)
ghost_target arena work n b kept died = by (row_at arena b) refl
  where
    of : IsDead arena n b
    of = kept.dead n b died

    by : (x : Option Row) → row_at arena b ≡ x → IsTarget arena work (change b)
    by None e = record { given = of.scope_given; there = inr e }
    by (Some r) e = rowed_target arena work (change b) kept (change_rowed arena work b r kept e (of.scope_two r e))

module _ (arena : Arena) (work : Work) (p : Point) (dead : row_at arena p.node ≡ None) (kept : IsKept arena work) where
  rowless : at work.rows p ≡ None
  rowless = dead_rowless arena work p kept dead

  -- it is owed nothing by itself
  pub dead_owes : owes work true p ≡ []
  dead_owes = owes_partly work true p (ap (λ (x : Option Progress). is_full (stage_in x)) rowless)

  module _ (s : State) (counts : Counts) (owed : List Point) (on : MatchesState arena work counts (Some (hand p owed)) s) where
    row_none : s.graph.row p.node ≡ None
    row_none = row_of_state on p.node ∙ dead

    no_row : (r : Row) → s.graph.row p.node ≡ Some r → ⊥
    no_row r e = none-some r (sym row_none ∙ e)

    planned_dead : (stage : machine.Stage) → plan_at s.graph s.out s.died p (s.graph.row p.node) stage ≡ ghost_plan (died_at work p.node) stage
    planned_dead stage = ap (λ (x : Option Row). plan_at s.graph s.out s.died p x stage) row_none
        ∙ ap (λ (x : Option NodeId). ghost_plan x stage) (on.died p.node)

  -- it leaves the worklist, unless it is to have a link
  dead_finishes : (s : State) (counts : Counts) → MatchesState arena work counts (Some (hand p [])) s → (s.stage p ≡ machine.Bare → ⊥) → Finish s p
  dead_finishes s counts on other = record {
    owed = on.owed p ∙ at_same p [] (debts work s.needed);
    bare = λ n e. other e;
    gated = λ r e. absurd (no_row s counts [] on r e);
    static = λ r e. absurd (no_row s counts [] on r e);
  }

  -- ---- it is a leaf

  pub leaf_wires : Needed work.graph p → died_at work p.node ≡ None → Wires arena work work (Some (hand p []))
  leaf_wires need leaf F z s counts inv on unlinked = by (s.stage p) refl
    where
      no_plan : (stage : machine.Stage) → plan_at s.graph s.out s.died p (s.graph.row p.node) stage ≡ []
      no_plan stage = planned_dead s counts [] on stage ∙ (ap (λ (x : Option NodeId). ghost_plan x stage) leaf ∙ of stage)
        where
          of : (stage : machine.Stage) → ghost_plan None stage ≡ []
          of machine.Bare = refl
          of machine.Gated = refl
          of machine.Static = refl
          of machine.Full = refl

      leaves : (t : State) → MatchesState arena work counts (Some (hand p [])) t → AreUnlinked (Some (hand p [])) t → (t.stage p ≡ machine.Bare → ⊥)
          → (u : State) × Reaches (Wiring F z) t u × MatchesState arena work counts None u × AreUnlinked None u
      leaves t on' unlinked' other = leaves_hand F z t arena work counts p on' unlinked' (owes_whoever work (t.needed p) p dead_owes) (dead_finishes t counts on' other)

      raises : s.stage p ≡ machine.Bare → Raise s p machine.Full []
      raises bare = record {
        todo = inv.rows.bare p ((on.needed p).1 need) bare;
        owed = on.owed p ∙ at_same p [] (debts work s.needed);
        plan = λ b. ap (count b) (no_plan machine.Full) ∙ sym (ap (λ (xs : List Point). count b xs + 0) (no_plan (s.stage p)));
        lower = λ e. let b = bare in cc;
        gates = λ full r b e. absurd (no_row s counts [] on r e);
        rights = λ full m r a e. absurd (no_row s counts [] on r e);
      }

      by : (x : machine.Stage) → s.stage p ≡ x
          → (t : State) × Wired F z s t × MatchesState arena work counts None t × AreUnlinked None t
      by machine.Bare e =
          let out = leaves (raised s p machine.Full []) (rowless_stands s arena work counts p machine.Full [] on rowless)
          (raised_unlinked s p machine.Full [] unlinked) (λ b. let f = at_same p machine.Full s.stage in cc) in
          (out.0, plainly (step (move.raise (raises e) refl, tt) out.1), out.2, out.3)
      by machine.Gated e = let out = leaves s on unlinked (λ b. cc) in (out.0, plainly out.1, out.2, out.3)
      by machine.Static e = let out = leaves s on unlinked (λ b. cc) in (out.0, plainly out.1, out.2, out.3)
      by machine.Full e = let out = leaves s on unlinked (λ b. cc) in (out.0, plainly out.1, out.2, out.3)

  -- ---- it is a ghost

  module _ (bind : NodeId) (died : died_at work p.node ≡ Some bind) where
    pub ghost_link : IsGhostLink work p (change bind)
    ghost_link = record { scope = bind; died = died; gate = refl }

    -- what its links are at each stage
    plans : (s : State) (counts : Counts) (owed : List Point) → MatchesState arena work counts (Some (hand p owed)) s → (stage : machine.Stage)
        → plan_at s.graph s.out s.died p (s.graph.row p.node) stage ≡ ghost_plan (Some bind) stage
    plans s counts owed on stage = planned_dead s counts owed on stage ∙ ap (λ (x : Option NodeId). ghost_plan x stage) died

    -- with its link it isn't Bare
    pub ghost_wires : Needed work.graph p → Reads work.graph.links p (change bind) → Wires arena work work (Some (hand p []))
    ghost_wires need reads = done_wires arena work p dead_owes (λ F z s counts inv on. dead_finishes s counts on (λ bare.
        let is = inv.rows.links p (change bind) ((on.needed p).1 need) in
        let plan : count (change bind) (planned s p) ≡ 0 =
        ap (λ (x : machine.Stage). count (change bind) (plan_at s.graph s.out s.died p (s.graph.row p.node) x)) bare
        ∙ ap (count (change bind)) (plans s counts [] on machine.Bare) in
        let link = on.links p (change bind) in
        omega (arith, is, plan, link, reads)))

    -- without it it is, and is to have it
    pub ghost_lifts : Needed work.graph p → (Reads work.graph.links p (change bind) → ⊥) → Lifts arena work work p (change bind ∷ [])
    ghost_lifts need off F z s counts inv on unlinked = (
      raised s p machine.Gated (change bind ∷ []),
      step (move.raise raises refl, tt) here,
      rowless_stands s arena work counts p machine.Gated (change bind ∷ []) on rowless,
      raised_unlinked s p machine.Gated (change bind ∷ []) unlinked,
    )
      where
        has_gate : (x : machine.Stage) → s.stage p ≡ x → ghost_plan (Some bind) x ≡ change bind ∷ [] → ⊥
        has_gate x e plan =
            let is = inv.rows.links p (change bind) ((on.needed p).1 need) in
            let planned_is : count (change bind) (planned s p) ≡ count (change bind) (change bind ∷ []) =
            ap (λ (y : machine.Stage). count (change bind) (plan_at s.graph s.out s.died p (s.graph.row p.node) y)) e
            ∙ ap (count (change bind)) (plans s counts [] on x ∙ plan) in
            let none : count (change bind) (s.owed p) ≡ 0 = ap (count (change bind)) (on.owed p ∙ at_same p [] (debts work s.needed)) in
            let once = one_same (change bind) in
            let link = on.links p (change bind) in
            off (omega (arith, is, planned_is, none, once, link))

        is_bare : s.stage p ≡ machine.Bare
        is_bare = by (s.stage p) refl
          where
            by : (x : machine.Stage) → s.stage p ≡ x → s.stage p ≡ machine.Bare
            by machine.Bare e = e
            by machine.Gated e = absurd (has_gate machine.Gated e refl)
            by machine.Static e = absurd (has_gate machine.Static e refl)
            by machine.Full e = absurd (has_gate machine.Full e refl)

        raises : Raise s p machine.Gated (change bind ∷ [])
        raises = record {
          todo = inv.rows.bare p ((on.needed p).1 need) is_bare;
          owed = on.owed p ∙ at_same p [] (debts work s.needed);
          plan = λ b.
              let all = ap (count b) (plans s counts [] on machine.Gated) in
              let before : count b (planned s p) ≡ 0 =
              ap (λ (x : machine.Stage). count b (plan_at s.graph s.out s.died p (s.graph.row p.node) x)) is_bare
              ∙ ap (count b) (plans s counts [] on machine.Bare) in
              omega (arith, all, before);
          lower = λ e. let b = is_bare in cc;
          gates = λ more r b e. absurd (no_row s counts [] on r e);
          rights = λ full m r a e. absurd (no_row s counts [] on r e);
        }

    pub ghost_due : DueAfter arena work work p (change bind)
    ghost_due F z s t counts before same inv on unlinked = record {
      holds = inv;
      stands = on;
      depends = ghost {b = bind} (row_none t counts (change bind ∷ []) on) (on.died p.node ∙ died) refl;
      confirmed = record {
        gate = λ r b e. absurd (no_row t counts (change bind ∷ []) on r e);
        right = λ r e. absurd (no_row t counts (change bind ∷ []) on r e);
      };
      gate = λ r b e. absurd (none-some r (sym dead ∙ e));
      unlinked = unlinked;
    }
