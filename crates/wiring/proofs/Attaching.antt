-- A main that waits is linked to its right side.
use Rattle.std.proofs.Common.{◌≡◌, inl, inr, ◌++◌, true, List, [], ◌∷◌, map, Option, None, Some, refl, sym, ap, subst, ◌∙◌, arith}
use Rattle.std.specs.Prelude.{IsSome}
use Rattle.std.proofs.lemmas.Option.{none-some, same_Some}
use Rattle.inc_value.specs.declared.node.NodeId.{NodeId}
use Rattle.inc_value.specs.declared.node.Part.TheVariants.{Main, Change}
use Rattle.inc_value.specs.declared.node.Point.{Point}
use Rattle.inc_value.specs.declared.outcome.Outcome.{Outcome}
use Rattle.inc_value.specs.Choice.{here, step, Among, Reaches, and_then}
use Rattle.inc_terms.specs.Depend.{main, change, subject_of, right_of, at_most_one, kids_of, fixed_reads}
use Rattle.inc_terms.specs.Graph.{Graph, Row}
use Rattle.inc_terms.specs.Plan.{gate_of, targets}
use Rattle.inc_terms.specs.Term.{Functions}
use Rattle.inc_terms.specs.Within.{Given}
use Rattle.inc_terms.proofs.Plan.{plan_depends, among_right}
use Rattle.point_map.specs.Rows.{Rows, at, Holds}
use Rattle.necessary_graph.specs.Part.{Needed}
use Rattle.node_arena.specs.Arena.{Arena, row_at}
use Rattle.stabilize_round.specs.Invariant.{Invariant, IsDone}
use Rattle.stabilize_round.specs.Machine as move
use Rattle.stabilize_round.specs.State as machine
use Rattle.stabilize_round.specs.State.{State, Start, count, planned, plan_at}
use Rattle.stabilize_round.specs.Steps.{Wiring, plainly}
use Rattle.stabilize_round.specs.Wire.{raised, Raise}
use Rattle.stabilize_round.proofs.Machine.{moves_keep}
use Rattle.stabilize_round.proofs.Points.{at_same, count_append}
use Rattle.expert_nodes.specs.Experts.{ExpertPlace, fresh_at}
use Rattle.node_outcomes.specs.Computing.{has_part}
use Rattle.wiring.specs.Kept.{IsKept}
use Rattle.node_outcomes.specs.Row.{IsRewritten, with_stage, settled_in, stage_in, outcome_in}
use Rattle.wiring.specs.Stands.{MatchesState, hand, debts, owes, Counts}
use Rattle.node_outcomes.specs.Choosing.{right_by, right_in}
use Rattle.wiring.specs.Turning.{IsWaiting}
use Rattle.wiring.specs.Wiring.{IsDue, IsTurnedIn, Attaches, AttachRefused, Connects, LosesNeed, ConnectRefused, AreUnlinked}
use Rattle.wiring.specs.declared.refused.Refused.{Refused}
use Rattle.node_outcomes.specs.Progress.{Progress}
use Rattle.node_outcomes.specs.declared.row.Stage.TheVariants as code
use Rattle.wiring.specs.declared.work.Work.{Work}
use Rattle.wiring.proofs.Lifting.{full_finishes}
use Rattle.wiring.proofs.Raising.{wired_before, wired_after, staged_now, up_stands, leaves_hand, hand_empty, own_alone}
use Rattle.wiring.proofs.Owing.{owes_none, owes_whoever, two_fresh}
use Rattle.wiring.proofs.Staying.{staged_row, row_of_state, stage_is, stage_was, out_is}
use Rattle.wiring.proofs.Unlinked.{raised_unlinked}
use Rattle.wiring.proofs.Holding.{right_at, targets_at}
use Rattle.wiring.specs.Graph.{graph_at}

-- nothing is to be done
pub stays_off : (arena : Arena) (work : Work) (n : NodeId) → owes work true (main n) ≡ [] → (Needed work.graph (main n) → (k : Progress) → at work.rows (main n) ≡ Some k → k.stage ≡ code.Static → ⊥)
    → Holds work.rows (main n) → Attaches arena work work n
stays_off arena work n none not rowed F z s counts t = (
  s,
  plainly here,
  hand_empty s arena work counts (main n) on (owes_whoever work (s.needed (main n)) (main n) none) (λ h. waits_not (main n) refl h),
  λ a h need. elim (t.unlinked a h need) [
    | inl b ↦ inl b
    | inr k ↦ elim k [ inl g ↦ inr (inl g) | inr m ↦ elim m [ inl e ↦ absurd (waits_not a e h) | inr owing ↦ inr (inr (inr owing)) ] ]
  ],
)
  where
    on : MatchesState arena work counts (Some (hand (main n) [])) s
    on = t.stands

    waits_not : (a : Point) → a ≡ main n → s.todo a ≡ true → ⊥
    waits_not a e h =
        let o = t.only (subst (λ (x : Point). s.todo x ≡ true) e h) in
        let k = staged_row (at work.rows (main n)) code.Static (stage_was on (main n) code.Static rowed o.1) in
        not ((on.needed (main n)).0 o.0) k.0 k.1 k.2

-- a needed main that waited for its node's change, which ran, has this stage now: all links
pub record WasRaised (arena : Arena) (n : NodeId) (r : Row) (old : Work) (rows : Rows Progress) : Type 0 where
  pub row : row_at arena n ≡ Some r
  pub two : IsSome (subject_of r.def)
  pub kept : IsKept arena old
  pub own : settled_in old.round (at old.rows (change n)) ≡ true
  pub waited : IsWaiting old n
  pub rewritten : IsRewritten old.rows rows (main n) (with_stage code.Full)

pub was_raised : (arena : Arena) (n : NodeId) (old : Work) (rows : Rows Progress) (p : Point) (r : Row) → p ≡ main n
    → ((x : Row) × (row_at arena n ≡ Some x) × IsSome (subject_of x.def)) → ◌≡◌ {A = Option Row} (Some r) (row_at arena n) → IsKept arena old
    → settled_in old.round (at old.rows (change n)) ≡ true → IsWaiting old n → IsRewritten old.rows rows p (with_stage code.Full)
    → WasRaised arena n r old rows
was_raised arena n old rows p r is given found kept own waited w = record {
  row = sym found;
  two = subst (λ (x : Row). IsSome (subject_of x.def)) (same_Some given.0 r (sym given.1 ∙ sym found)) given.2;
  kept = kept;
  own = own;
  waited = waited;
  rewritten = subst (λ (x : Point). IsRewritten old.rows rows x (with_stage code.Full)) is w;
}

module _ (arena : Arena) (n : NodeId) (r : Row) (old : Work) (rows : Rows Progress) (was : WasRaised arena n r old rows) where
  row : row_at arena n ≡ Some r
  row = was.row

  kept : IsKept arena old
  kept = was.kept

  w : IsRewritten old.rows rows (main n) (with_stage code.Full)
  w = was.rewritten

  -- its main has a row
  rowed : Holds old.rows (main n)
  rowed = kept.rows (main n) ∙ ap (λ (x : Option Row). has_part x Main) row

  abbrev mid : Work
  mid = record old { rows = rows }

  abbrev right : Option NodeId
  right = right_in old.rows old.roots n r.def

  abbrev owed : List Point
  owed = map main (at_most_one right)

  -- it is told by the row of the change, which stays
  pub right_is : right_in mid.rows mid.roots n r.def ≡ right
  right_is = ap (λ (x : Option Progress). right_by r.def n (outcome_in x) (at old.roots (change n)))
      (w.others (change n) (λ e. let x = ap (λ (y : Point). y.part) e in cc))

  -- a node of two points has no list
  two_none : fresh_at old.experts n ≡ []
  two_none = two_fresh arena old.experts kept.experts n r row was.two

  -- the target is given
  pub right_given : (m : NodeId) → right ≡ Some m → Given arena.given m
  right_given m e = by (at old.rows (change n)) refl
    where
      asked : and_then (outcome_in (at old.rows (change n))) (λ (o : Outcome). right_of (graph_at arena old) n r.def o) ≡ Some m
      asked = sym (right_at arena old n r row) ∙ e

      chosen : (k : Progress) → at old.rows (change n) ≡ Some k → (x : Option Outcome) → k.outcome ≡ x → and_then x (λ o. right_of (graph_at arena old) n r.def o) ≡ Some m
          → Given arena.given m
      chosen k at_row None out h = absurd (none-some m h)
      chosen k at_row (Some o) out h = (kept.rights n m r k o row at_row out h).0

      by : (x : Option Progress) → at old.rows (change n) ≡ x → Given arena.given m
      by None eq = absurd (none-some m (ap (λ (x : Option Progress). and_then (outcome_in x) (λ o. right_of (graph_at arena old) n r.def o)) (sym eq) ∙ asked))
      by (Some k) eq = chosen k eq k.outcome refl (ap (λ (x : Option Progress). and_then (outcome_in x) (λ o. right_of (graph_at arena old) n r.def o)) (sym eq) ∙ asked)

  module _ (F : Functions) (z : Start) (s : State) (counts : Counts) (t : IsTurnedIn F z s arena old counts n) where
    abbrev on : MatchesState arena old counts (Some (hand (main n) [])) s
    on = t.stands

    row_is : s.graph.row n ≡ Some r
    row_is = row_of_state on n ∙ row

    is_static : s.stage (main n) ≡ machine.Static
    is_static = stage_is on (main n) code.Static was.waited.stage

    is_needed : s.needed (main n) ≡ true
    is_needed = (on.needed (main n)).1 was.waited.needed

    own_rowed : Holds old.rows (change n)
    own_rowed = kept.rows (change n) ∙ (ap (λ (x : Option Row). has_part x Change) row ∙ was.two)

    pub targets_are_owed : targets s.graph n r.def (s.out (change n)) ≡ owed
    targets_are_owed =
        ap (targets s.graph n r.def) (out_is on (change n) own_rowed)
        ∙ (ap (λ (G : Graph). targets G n r.def (outcome_in (at old.rows (change n)))) on.graph ∙ targets_at arena old n r row)

    pub raise_is : Raise s (main n) machine.Full owed
    raise_is = record {
      todo = t.wakes is_needed is_static;
      owed = on.owed (main n) ∙ at_same (main n) [] (debts old s.needed);
      plan = λ b.
          let own = own_alone n (subject_of r.def) (kids_of s.graph n r.def) was.two in
          let all : count b (plan_at s.graph s.out s.died (main n) (s.graph.row n) machine.Full) ≡ count b (gate_of r.scope ++ ((change n ∷ []) ++ owed)) =
          ap (λ (x : Option Row). count b (plan_at s.graph s.out s.died (main n) x machine.Full)) row_is
          ∙ rw (own, targets_are_owed) refl in
          let before : count b (planned s (main n)) ≡ count b (gate_of r.scope ++ (change n ∷ [])) =
          ap (λ (x : machine.Stage). count b (plan_at s.graph s.out s.died (main n) (s.graph.row n) x)) is_static
          ∙ (ap (λ (x : Option Row). count b (plan_at s.graph s.out s.died (main n) x machine.Static)) row_is ∙ rw own refl) in
          let a = count_append b (gate_of r.scope) ((change n ∷ []) ++ owed) in
          let c = count_append b (change n ∷ []) owed in
          let d = count_append b (gate_of r.scope) (change n ∷ []) in
          omega (arith, all, before, a, c, d);
      lower = λ e. let b = is_static in cc;
      gates = λ stage r' b e scope. inr is_static;
      rights = λ e m r' q row' among. t.taken;
    }

    abbrev full : State
    full = raised s (main n) machine.Full owed

    pub full_moves : Reaches (Wiring F z) s full
    full_moves = step (move.raise raise_is refl, tt) here

    pub on_full : MatchesState arena mid counts (Some (hand (main n) owed)) full
    on_full = up_stands old rows (main n) code.Full w s arena counts owed on

    full_inv : Invariant F z full
    full_inv = moves_keep F z s full (step (move.raise raise_is refl) here) t.holds

    full_unlinked : AreUnlinked (Some (hand (main n) [])) full
    full_unlinked = raised_unlinked s (main n) machine.Full owed t.unlinked

    -- the right side is chosen
    chosen_now : (m : NodeId) → right ≡ Some m → Among (main m) (targets full.graph n r.def (full.out (change n)))
    chosen_now m e = subst (λ (xs : List Point). Among (main m) xs)
        (sym (targets_are_owed ∙ ap (λ (x : Option NodeId). map main (at_most_one x)) e)) (inl refl)

    -- the change ran
    own_done : IsDone F full.graph full.out full.died full.last (change n)
    own_done = full_inv.settled.done (change n) (on.settled (change n) ∙ was.own)

    not_change : (m b : NodeId) → main m ≡ change b → ⊥
    not_change m b e = let k = ap (λ (x : Point). x.part) e in cc

    pub right_due : (m : NodeId) → right ≡ Some m → IsDue F z full arena mid counts (main n) (main m) []
    right_due m e = record {
      holds = full_inv;
      stands = subst (λ (x : Option NodeId). MatchesState arena mid counts (Some (hand (main n) (map main (at_most_one x)))) full) e on_full;
      depends = plan_depends F full.graph full.out full.died (main n) (main m) r row_is (t.scope r row)
          (λ part k sub. (own_done.exact r row_is).1 k sub)
          (among_right (main m) (gate_of r.scope) _ (among_right (main m) (fixed_reads full.graph n r.def Main) _ (chosen_now m e)));
      confirmed = record {
        gate = λ r' b e' scope. inr (inr (r, row_is, refl, chosen_now m e, t.taken));
        right = λ r' e' m' among. t.taken;
      };
      gate = λ r' b e' scope owed_gate more. absurd (elim owed_gate [ inl is ↦ not_change m b (sym is) | inr none ↦ none ]);
      unlinked = full_unlinked;
    }

  pub full_in : stage_in (at rows (main n)) ≡ Some code.Full
  full_in = staged_now old rows (main n) code.Full w rowed

  -- there is no right side
  pub none_attached : right ≡ None → Attaches arena old mid n
  none_attached none F z s counts t =
      let on = subst (λ (x : Option NodeId). MatchesState arena mid counts (Some (hand (main n) (map main (at_most_one x)))) (full F z s counts t)) none
      (on_full F z s counts t) in
      let out = leaves_hand F z (full F z s counts t) arena mid counts (main n) on (full_unlinked F z s counts t)
      (owes_none mid ((full F z s counts t).needed (main n)) (main n) two_none) (full_finishes (full F z s counts t) arena mid counts (main n) on full_in) in
      (out.0, wired_after F z s (full F z s counts t) out.0 (plainly (full_moves F z s counts t)) out.1, out.2, out.3)

  module _ (m : NodeId) (is : right ≡ Some m) (new : Work) where
    pub right_refused : (e : Refused) → ConnectRefused arena mid new (main n) (main m) e → AttachRefused arena old new n e
    right_refused e refused F z s counts t =
        let a = refused F z (full F z s counts t) counts [] (right_due F z s counts t m is) in
        (a.0, Some (hand (main n) (main m ∷ [])), wired_before F z s (full F z s counts t) a.0 (full_moves F z s counts t) a.1, a.2, a.3)

    pub right_gone : LosesNeed arena mid new (main n) (main m) → Attaches arena old new n
    right_gone gone F z s counts t =
        let a = gone F z (full F z s counts t) counts [] (right_due F z s counts t m is) in
        (a.0, wired_before F z s (full F z s counts t) a.0 (full_moves F z s counts t) a.1, a.2, a.3)

    pub right_on : Connects arena mid new (main n) (main m) → at new.rows (main n) ≡ at rows (main n) → new.experts ≡ old.experts → Attaches arena old new n
    right_on connects same experts F z s counts t =
        let a = connects F z (full F z s counts t) counts [] (right_due F z s counts t m is) in
        let none = ap (λ (x : List ExpertPlace). fresh_at x n) experts ∙ two_none in
        let out = leaves_hand F z a.0 arena new counts (main n) a.2 a.3 (owes_none new ((a.0).needed (main n)) (main n) none) (full_finishes a.0 arena new counts (main n) a.2 (ap stage_in same ∙ full_in)) in
        (out.0, wired_after F z s a.0 out.0 (wired_before F z s (full F z s counts t) a.0 (full_moves F z s counts t) a.1) out.1, out.2, out.3)
