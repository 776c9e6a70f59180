-- What a refused round leaves: cutoffs stay, what is shown is what was or is right, and whose functions were called is met.
use Rattle.std.proofs.Common.{◌≡◌, inl, inr, ℕ, ◌<◌, List, true, false, Option, None, Some, refl, sym, ap, subst, ◌∙◌, arith}
use Rattle.std.specs.Prelude.{is_some}
use Rattle.inc_value.specs.declared.node.NodeId.{NodeId}
use Rattle.inc_value.specs.declared.node.Point.{Point}
use Rattle.inc_value.specs.declared.outcome.Outcome.{Outcome}
use Rattle.inc_terms.specs.Depend.{main}
use Rattle.inc_terms.specs.Evaluate.{NodeGives}
use Rattle.inc_terms.specs.Graph.{Graph, Row}
use Rattle.inc_terms.specs.Local.{shown_of, Sees}
use Rattle.inc_terms.specs.Need.{IsUnfrozen}
use Rattle.inc_terms.specs.Term.{Functions}
use Rattle.inc_terms.specs.Within.{Given}
use Rattle.inc_terms.proofs.Local.{main_sees}
use Rattle.necessity.specs.Need.{Roots, KeepsRoots}
use Rattle.node_arena.specs.Arena.{Arena, row_at}
use Rattle.node_outcomes.specs.Computing.{seen}
use Rattle.node_outcomes.specs.Meaning.{Meaning}
use Rattle.point_map.specs.Rows.{at}
use Rattle.stabilize_round.specs.Calling.{costs_of}
use Rattle.stabilize_round.specs.Calls.{WasDue}
use Rattle.stabilize_round.specs.Counts.{RoseAtMost}
use Rattle.stabilize_round.specs.Invariant.{Invariant}
use Rattle.stabilize_round.specs.Machine.{called_more}
use Rattle.stabilize_round.specs.State.{State}
use Rattle.stabilize_round.proofs.Calls.{refused_calls}
use Rattle.stabilize_round.proofs.Reasons.{reason_more, since_start}
use Rattle.stabilize_round.proofs.Runs.{refused_keeps}
use Rattle.wiring.specs.Kept.{IsKept}
use Rattle.wiring.specs.Stands.{PointInHand, MatchesState, Counts}
use Rattle.wiring.specs.declared.refused.Refused.{Refused}
use Rattle.wiring.specs.declared.work.Work.{Work}
use Rattle.stabilizer.specs.Left.{HasCalledMetIn, ShowsStillIn, WasDueIn}
use Rattle.stabilizer.specs.Look.{look_between, look_refused, cutoff_at}
use Rattle.stabilizer.specs.Kept.{graph_in}
use Rattle.stabilizer.specs.Round.{OnlyRoots, Pauses, IsLeftBy, left_by, died_by}
use Rattle.stabilizer.specs.declared.parts.Parts.{Parts}
use Rattle.stabilizer.proofs.Round.Beginning.{Begun, main_there}
use Rattle.stabilizer.proofs.Round.Ending.{cutoff_live, seen_case}
use Rattle.stabilizer.proofs.Round.Lawful.{AreListed, met_as}
use Rattle.stabilizer.proofs.Round.LeftBy.{frozen_stays, left_by_parts, left_same, unfrozen_stays}
use Rattle.stabilizer.proofs.Round.Paused.{IsPaused, paused_died}
use Rattle.stabilizer.proofs.Round.Remaining.{stopped_out}
use Rattle.stabilizer.proofs.Round.Stopped.{IsLeftOver, stops_leave_over}

-- what keeps roots adds none
pub only_still : (old mid new : Roots) (ps : List Point) → OnlyRoots old mid ps → KeepsRoots mid new → OnlyRoots old new ps
only_still old mid new ps only same p h = only p (subst (λ (n : ℕ). 0 < n) (same p) h)

-- what is seen of a node is what is shown of it
sees_shown : (arena : Arena) (work : Work) (counts : Counts) (left : Option PointInHand) (s : State) → IsKept arena work → MatchesState arena work counts left s
    → (n : NodeId) → seen work.rows (main n) ≡ shown_of (row_at arena n) (s.out (main n))
sees_shown arena work counts left s kept stands n =
    seen_case (at work.rows (main n)) (row_at arena n) (s.out (main n)) (main_there arena work kept n) (λ x e. stands.out (main n) x e)

module _ (M : Meaning) (old new : Parts) (before after : Counts) (e : Refused) (p : IsPaused M old new before after e) where
  abbrev F : Functions
  F = M.functions

  abbrev b : Begun M.functions old before
  b = p.begins.begun

  abbrev k : Pauses M.functions p.begins.begun.start p.begins.begun.state new after e
  k = p.pauses

  abbrev u : State
  u = p.pauses.state

  abbrev stands : MatchesState new.arena new.work after p.pauses.left p.pauses.state
  stands = p.pauses.stands

  -- the invariant holds there, the count of calls apart
  holds : (v : State) × Invariant F b.start v × (u ≡ called_more v u.calls)
  holds = refused_keeps F b.start b.state k.before k.state b.entry k.moves k.stops

  left_there : IsLeftOver F b.state u
  left_there = stops_leave_over F b.start b.state k.before k.state b.entry p.begins.round.given k.moves k.stops

  row_was : (n : NodeId) → b.state.graph.row n ≡ row_at old.arena n
  row_was n = ap (λ (G : Graph). G.row n) b.stands.graph

  row_now : (n : NodeId) → u.graph.row n ≡ row_at new.arena n
  row_now n = ap (λ (G : Graph). G.row n) stands.graph

  given_then : (n : NodeId) → Given old.arena.given n → Given b.state.given n
  given_then n g = omega (arith, b.stands.given, g)

  -- cutoffs stay
  pub paused_cutoffs : (n : NodeId) (r : Row) → row_at new.arena n ≡ Some r → cutoff_at new.work n ≡ cutoff_at old.work n
  paused_cutoffs n r row = cutoff_live (at new.work.rows (main n)) (cutoff_at old.work n) (main_there new.arena new.work p.kept.work n
      ∙ ap is_some row)
      (λ x is. sym (stands.cutoff n x is) ∙ (ap (λ (s : State). s.cutoff n) holds.2 ∙ (holds.1.accounts.cutoffs n ∙ b.cutoff n)))

  -- ---- what is shown

  abbrev Shows : NodeId → Type 0
  Shows n = (o : Outcome) × (seen new.work.rows (main n) ≡ Some o) × NodeGives F (graph_in new) n o

  -- what is seen of the node in the state is seen in the parts
  shows_now : (n : NodeId) → Sees F u.graph u.out n → Shows n
  shows_now n s = (
    s.0,
    sees_shown new.arena new.work after k.left u p.kept.work stands n ∙ (ap (λ (x : Option Row). shown_of x (u.out (main n))) (sym (row_now n))
        ∙ s.1),
    subst (λ (G : Graph). NodeGives F G n s.0) stands.graph s.2,
  )

  settled_sees : (n : NodeId) → u.settled (main n) ≡ true → Sees F u.graph u.out n
  settled_sees n settled =
      let v = holds.0 in
      let there : v.settled (main n) ≡ true = ap (λ (s : State). s.settled (main n)) (sym holds.2) ∙ settled in
      subst (λ (s : State). Sees F s.graph s.out n) (sym holds.2) (main_sees F v.graph v.out n (holds.1.settled.done (main n) there).exact)

  -- what is shown of a node stays, or is what it gives
  pub paused_shows : (n : NodeId) → Given old.arena.given n → ShowsStillIn M.functions (graph_in new) (died_by old new) (look_between old) (look_refused new) n
  paused_shows n given = by_row (row_at new.arena n) refl
    where
      by_row : (x : Option Row) → row_at new.arena n ≡ x → ShowsStillIn M.functions (graph_in new) (died_by old new) (look_between old) (look_refused new) n
      by_row None dead = inr (shows_now n (main_sees F u.graph u.out n (λ r is. absurd (let x = row_now n ∙ dead in cc))))
      by_row (Some r) live = elim (stopped_out F b.start b.state k.before u n r k.moves k.stops (row_now n ∙ live) (given_then n given)) [
        | inl settled ↦ inr (shows_now n (settled_sees n settled))
        | inr stays ↦ elim (left_there.left.rest.rows n (given_then n given)) [
          | inr gone ↦ absurd (let x = sym gone ∙ (row_now n ∙ live) in cc)
          | inl same ↦
              let rows : row_at new.arena n ≡ row_at old.arena n = sym (row_now n) ∙ (same ∙ row_was n) in
              inl (sees_shown new.arena new.work after k.left u p.kept.work stands n
              ∙ (ap (λ (x : Option Row). shown_of x (u.out (main n))) rows
              ∙ (ap (λ (o : Option Outcome). shown_of (row_at old.arena n) o) stays
              ∙ sym (sees_shown old.arena old.work before None b.state p.first.work b.stands n))))
        ]
      ]

  -- ---- what was called

  -- over the graph that is left
  pub paused_called : (observed : List NodeId) → AreListed new observed
      → HasCalledMetIn M.functions (graph_in new) (died_by old new) (look_between old) (look_refused new) observed before.calls after.calls
  paused_called observed all =
      let c = refused_calls F b.start b.state k.before u b.entry k.moves k.stops in
      record {
        nodes = c.0;
        once = c.1;
        due = λ n a. due_then n
            (subst (λ (D : NodeId → Option NodeId). WasDue F b.start (graph_in new) D u.root u.settled n) (paused_died M old new before after e p)
            (subst (λ (G : Graph). WasDue F b.start G u.died u.root u.settled n) stands.graph (c.3 n a)));
        count = subst (λ (x : ℕ). RoseAtMost before.calls (costs_of (graph_in new) c.0) x) (ap (λ (x : Counts). x.calls) stands.counts)
            (subst (λ (x : ℕ). RoseAtMost x (costs_of (graph_in new) c.0) u.calls) b.calls
            (subst (λ (G : Graph). RoseAtMost b.start.calls (costs_of G c.0) u.calls) stands.graph c.2));
      }
    where
      due_then : (n : NodeId) → WasDue F b.start (graph_in new) (died_by old new) u.root u.settled n
          → WasDueIn F (graph_in new) (died_by old new) (look_between old) (look_refused new) observed n
      due_then n d = record {
        row = d.row;
        kids = d.kids;
        values = d.values;
        is_row = d.is_row;
        takes = d.takes;
        gives = d.gives;
        reason = reason_more (λ q settled. sym (stands.settled q) ∙ settled) (since_start (b.last n) b.cutoff (b.stale n) d.reason);
        met = met_as F old new before after b k.left u stands observed all (main n) d.met;
      }

  -- ---- marks

  -- a node that wasn't settled is stale where it was
  pub paused_marks : (n : NodeId) → (look_refused new).settled (main n) ≡ false → (look_refused new).marked n ≡ (look_between old).marked n
  paused_marks n not =
      let v = holds.0 in
      let unsettled : v.settled (main n) ≡ false = ap (λ (s : State). s.settled (main n)) (sym holds.2) ∙ (stands.settled (main n) ∙ not) in
      sym (stands.stale n) ∙ (ap (λ (s : State). s.stale n) holds.2 ∙ (holds.1.accounts.marked n unsettled ∙ b.stale n))

  -- ---- what is left of the nodes

  -- freezes keep what they kept
  pub paused_frozen : (n : NodeId) → (graph_in new).frozen n ≡ (graph_in old).frozen n
  paused_frozen = frozen_stays F old new b.state u b.stands.graph b.stands.given stands.graph p.first.work p.kept.work left_there

  -- so the graph is the one that the round read
  pub paused_same : graph_in new ≡ left_by old new
  paused_same = left_same old new paused_frozen

  -- a freeze that keeps no value keeps none still
  pub paused_unfrozen : (n : NodeId) → IsUnfrozen (graph_in old) n → IsUnfrozen (graph_in new) n
  paused_unfrozen = unfrozen_stays F old new b.state u b.stands.graph b.stands.given stands.graph p.first.work p.kept.work left_there

  pub paused_left : IsLeftBy M.functions old new before after
  paused_left = left_by_parts F old new before after b.state u b.stands.graph b.stands.given b.stands.counts (stands.graph ∙ paused_same) stands.given stands.counts
      (λ n r row. p.first.work.sound.given n (ap is_some row)) left_there
