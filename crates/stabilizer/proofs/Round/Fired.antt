-- Which freezes are to keep a value where a round has settled all: those that fire by the machine.
use Rattle.std.proofs.Common.{◌≡◌, inl, inr, ◌<◌, true, false, Bool, List, [], ◌∷◌, Option, None, Some, refl, sym, ap, subst, ◌∙◌, arith}
use Rattle.std.specs.Prelude.{is_some}
use Rattle.std.proofs.lemmas.Option.{none-some}
use Rattle.inc_value.specs.Choice.{Among}
use Rattle.inc_value.specs.declared.function.FnRef.{FnRef}
use Rattle.inc_value.specs.declared.node.NodeId.{NodeId}
use Rattle.inc_value.specs.declared.node.Point.{Point}
use Rattle.inc_value.specs.declared.outcome.Outcome.{Outcome}
use Rattle.inc_value.specs.declared.value.Value.{Value}
use Rattle.inc_terms.specs.Depend.{main, change}
use Rattle.inc_terms.specs.Graph as graph
use Rattle.inc_terms.specs.Graph.{Graph, Row, Def, Freeze}
use Rattle.inc_terms.specs.Need.{IsUnfrozen}
use Rattle.inc_terms.specs.Plan.{plan, targets}
use Rattle.inc_terms.specs.Term.{Functions}
use Rattle.point_map.specs.Rows.{at}
use Rattle.node_arena.specs.Arena.{Arena, row_at}
use Rattle.node_outcomes.specs.Row.{fires_by, fires_in, kept_by, kept_in}
use Rattle.node_outcomes.specs.Progress.{Progress}
use Rattle.stabilize_round.specs.Calling.{cost_at}
use Rattle.stabilize_round.specs.Freezing.{fires, fires_at, found, found_in, row_fires}
use Rattle.stabilize_round.specs.Ended.{Ended}
use Rattle.stabilize_round.specs.Invariant.{Invariant}
use Rattle.stabilize_round.specs.Moves.{Quiet}
use Rattle.stabilize_round.specs.State.{Call, Full, Start, State, count, planned}
use Rattle.stabilize_round.proofs.Freezing.{firing}
use Rattle.stabilize_round.proofs.Low.{links_are}
use Rattle.stabilize_round.proofs.Points.{among_or_not, one_same}
use Rattle.wiring.specs.Graph.{graph_at}
use Rattle.wiring.specs.Kept.{IsKept, IsTop}
use Rattle.wiring.specs.Stands.{Counts, MatchesState}
use Rattle.wiring.specs.declared.work.Work.{Work}
use Rattle.stabilizer.specs.Freezing.{CanFreeze, HasToFreeze}
use Rattle.stabilizer.proofs.Round.Beginning.{main_there}
use Rattle.stabilizer.proofs.Round.Frozen.{to_keep}

-- what fires by its flag and its last call
fires_so : (x : Progress) (v : Value) → kept_by x.frozen x.last ≡ None → found x.last ≡ Some v → fires_by x.frozen x.last ≡ Some v
fires_so x v none is = by x.frozen none
  where
    by : (b : Bool) → kept_by b x.last ≡ None → fires_by b x.last ≡ Some v
    by false e = is
    by true e = absurd (none-some v (sym e ∙ is))

row_of : (x : Option Progress) → is_some x ≡ true → (k : Progress) × (x ≡ Some k)
row_of None e = absurd (cc)
row_of (Some k) e = (k, refl)

-- a freeze chooses nothing
no_target : (G : Graph) (n kid : NodeId) (f : FnRef) (x : Option Outcome) → targets G n (graph.Freeze kid f) x ≡ []
no_target G n kid f None = refl
no_target G n kid f (Some o) = refl

-- one that keeps no value reads its child alone
freeze_plan : (G : Graph) (out : Point → Option Outcome) (n kid : NodeId) (f : FnRef) (r : Row) → r.scope ≡ None → r.def ≡ Freeze kid f
    → G.frozen n ≡ None → plan G out (main n) r ≡ main kid ∷ []
freeze_plan G out n kid f r scope def none = rw (scope, def, none) (ap (λ (ps : List Point). main kid ∷ ps) (no_target G n kid f (out (change n))))

module _ (arena : Arena) (work : Work) (counts : Counts) (t : State) (kept : IsKept arena work) (stands : MatchesState arena work counts None t) where
  G : Graph
  G = graph_at arena work

  row_is : (n : NodeId) → t.graph.row n ≡ row_at arena n
  row_is n = ap (λ (H : Graph). H.row n) stands.graph

  frozen_is : (n : NodeId) → t.graph.frozen n ≡ kept_in (at work.rows (main n))
  frozen_is n = ap (λ (H : Graph). H.frozen n) stands.graph

  -- a freeze that fires is to keep that value
  pub firing_is : (n : NodeId) (v : Value) → fires_at t n ≡ Some v → (kid : NodeId) × (h : HasToFreeze arena work.rows n kid) × (h.value ≡ v)
  firing_is n v e =
      let k = firing (t.graph.row n) (t.graph.frozen n) (t.last n) v e in
      let row : row_at arena n ≡ Some k.row = sym (row_is n) ∙ k.is_row in
      let x = row_of (at work.rows (main n)) (main_there arena work kept n ∙ ap is_some row) in
      let none : kept_in (at work.rows (main n)) ≡ None = sym (frozen_is n) ∙ k.keeps_none in
      let last : x.0.last ≡ Some k.call = sym (stands.last n x.0 x.1) ∙ k.is_last in
      let true_of : found x.0.last ≡ Some v = ap found last
      ∙ (ap (λ (vs : List Value). found_in vs k.call.result) k.arguments ∙ ap (λ (w : Value). found_in (v ∷ []) w) k.result) in (
        k.kid,
        record {
          row = k.row;
          is_row = row;
          predicate = k.predicate;
          is_freeze = k.is_freeze;
          value = v;
          fires = ap fires_in x.1 ∙ fires_so x.0 v (sym (ap kept_in x.1) ∙ none) true_of;
        },
        refl,
      )

  -- it keeps none yet
  pub unfrozen : (n kid : NodeId) → HasToFreeze arena work.rows n kid → IsUnfrozen (graph_at arena work) n
  unfrozen n kid h = record {
    row = h.row;
    kid = kid;
    predicate = h.predicate;
    is_row = h.is_row;
    is_freeze = h.is_freeze;
    keeps_none = (to_keep (at work.rows (main n)) h.value h.fires).keeps_none;
  }

  -- what is to keep a value fires
  pub is_firing : (n kid : NodeId) (h : HasToFreeze arena work.rows n kid) → fires_at t n ≡ Some h.value
  is_firing n kid h =
      let k = to_keep (at work.rows (main n)) h.value h.fires in
      let row : t.graph.row n ≡ Some h.row = row_is n ∙ h.is_row in
      let none : t.graph.frozen n ≡ None = frozen_is n ∙ k.keeps_none in
      let last : t.last n ≡ k.row.last = stands.last n k.row k.is_row in
      ap (λ (x : Option Row). row_fires x (t.graph.frozen n) (t.last n)) row
      ∙ (ap (λ (x : Option Value). fires h.row.def x (t.last n)) none
      ∙ (ap (λ (d : Def). fires d None (t.last n)) h.is_freeze
      ∙ (ap found last ∙ k.last)))

  module _ (F : Functions) (z : Start) (inv : Invariant F z t) (quiet : Quiet t) (observed : List NodeId) (ended : Ended F z t observed) where
    -- its main is linked to its child alone, once
    pub fired_links : (n kid : NodeId) → HasToFreeze arena work.rows n kid → t.needed (main n) ≡ true
        → (b : Point) → t.links (main n) b ≡ count b (main kid ∷ [])
    fired_links n kid h need b =
        let u = unfrozen n kid h in
        let row : t.graph.row n ≡ Some h.row = row_is n ∙ h.is_row in
        let none : t.graph.frozen n ≡ None = ap (λ (H : Graph). H.frozen n) stands.graph ∙ u.keeps_none in
        let full : t.stage (main n) ≡ Full = ended.full (main n) h.row row need in
        let scope : h.row.scope ≡ None = kept.tops n h.row h.is_row (subst IsTop (sym h.is_freeze) tt) in
        let plan_is : planned t (main n) ≡ plan t.graph t.out (main n) h.row = rw (row, full) refl in
        links_are F z t inv quiet (main n) b need
        ∙ ap (λ (ps : List Point). count b ps) (plan_is ∙ freeze_plan t.graph t.out n kid h.predicate h.row scope h.is_freeze none)

    cost_is : (n kid : NodeId) → HasToFreeze arena work.rows n kid → cost_at t.graph n ≡ 1
    cost_is n kid h =
        let u = unfrozen n kid h in
        let row : t.graph.row n ≡ Some h.row = row_is n ∙ h.is_row in
        let def = h.is_freeze in
        let none : t.graph.frozen n ≡ None = ap (λ (H : Graph). H.frozen n) stands.graph ∙ u.keeps_none in
        rw (row, def, none) refl

    -- it ran in the round
    pub fired_ran : (n kid : NodeId) → HasToFreeze arena work.rows n kid → Among n t.ran
    fired_ran n kid h = elim (among_or_not n t.ran) [
      | inl a ↦ a
      | inr not ↦
          let row : t.graph.row n ≡ Some h.row = row_is n ∙ h.is_row in
          elim (ended.kept n h.row row not) [
            | inl last ↦ absurd (none-some h.value (sym (inv.accounts.unfired n h.row row)
                ∙ (ap (λ (c : Option Call). fires h.row.def (t.graph.frozen n) c) (sym last)
                ∙ (ap (λ (x : Option Row). row_fires x (t.graph.frozen n) (t.last n)) (sym row) ∙ is_firing n kid h))))
            | inr k ↦ absurd (let one = cost_is n kid h in omega (arith, one, k.1))
          ]
    ]

    pub can_freeze : ((n kid : NodeId) → HasToFreeze arena work.rows n kid → 0 < t.root (main n)) → ((n : NodeId) → Among n t.ran → Among n work.ran.items)
        → CanFreeze arena work.rows work.graph work.ran.items
    can_freeze rooted listed n kid h =
        let need = inv.web.rooted (main n) (rooted n kid h) in
        record {
          ran = listed n (fired_ran n kid h);
          root = omega (arith, stands.root (main n), rooted n kid h);
          reads = omega (arith, stands.links (main n) (main kid), fired_links n kid h need (main kid), one_same (main kid));
        }
