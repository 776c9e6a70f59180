-- Nodes that are taken back aren't needed.
use Rattle.std.proofs.Common.{◌≡◌, inl, inr, ℕ, zero, suc, ◌<◌, ◌≤◌, Bool, List, map, take, Option, None, Some, IfSome, refl, sym, ap, subst, ◌∙◌, arith}
use Rattle.inc_value.specs.declared.function.FnRef.{FnRef}
use Rattle.inc_value.specs.declared.node.NodeId.{NodeId}
use Rattle.inc_value.specs.declared.node.Point.{Point}
use Rattle.inc_value.specs.Choice.{Among}
use Rattle.inc_terms.specs.Depend.{main}
use Rattle.necessary_graph.specs.Part.{Needed}
use Rattle.necessity.specs.Need.{Roots, root_times}
use Rattle.point_map.specs.Rows.{at}
use Rattle.inc_terms.specs.Graph.{Row}
use Rattle.node_arena.specs.Arena.{Arena, row_at}
use Rattle.node_arena.specs.RightSide.{RightSide}
use Rattle.stabilize_round.specs.State.{count}
use Rattle.stabilize_round.proofs.Points.{among_count, node_or_other}
use Rattle.stabilizer.specs.Kept.{graph_in}
use Rattle.stabilizer.specs.Look.{freeze_roots}
use Rattle.stabilizer.specs.Round.{IsReady, AreRooted}
use Rattle.node_outcomes.specs.Meaning.{Meaning}
use Rattle.node_outcomes.specs.Row.{kept_in}
use Rattle.wiring.specs.Graph.{graph_at}
use Rattle.stabilizer.specs.Weights.{SidesFit}
use Rattle.stabilizer.specs.declared.parts.Parts.{Parts}
use Rattle.wiring.specs.declared.refused.Refused.{Refused}
use Rattle.wiring.specs.declared.work.Work.{Work}
use Rattle.wiring.specs.Kept.{IsKept}
use Rattle.graph.specs.Effects.{KeepsBeside, Adds, NoneScopedSince}
use Rattle.graph.proofs.Fitting.{fit_left}
use Rattle.graph.specs.Standing.{GraphView, IsNeeded}
use Rattle.observers.specs.Observers.{in_use}
use Rattle.graph.specs.Inside.{FitsInside}
use Rattle.observers.specs.declared.observer.Observer.{Observer}
use Rattle.graph.proofs.Freezes.{freezes_by, no_freeze_root, same_test}
use Rattle.graph.proofs.Sound.{sound_observed}
use Rattle.graph.proofs.Unobserving.{at_or_past, mains_among}
use Rattle.graph.proofs.Needing.{needed_root, needed_linked, needed_has}
use Rattle.necessary_graph.proofs.Reaching.{root_needed}

-- observed nodes are older than a count where all that is needed is
module _ (arena : Arena) (work : Work) (since : ℕ) (nodes : List NodeId) (count : ℕ) (roots : AreRooted arena work since nodes)
    (low : (p : Point) → Needed work.graph p → p.node.gen_ < count) where
  young_roots : (n : NodeId) → Among n nodes → n.gen_ < count
  young_roots n among =
      let r = roots (main n) in
      let c = among_count (main n) (map main nodes) (mains_among n nodes among) in
      low (main n) (root_needed work.graph (main n) (omega (arith, r, c)))

  -- nor does need begin at freezes from the count on
  late_freezes : (p : Point) → count ≤ p.node.gen_ → freeze_roots (graph_at arena work) since p ≡ 0
  late_freezes p late = go (freeze_roots (graph_at arena work) since p) refl
    where
      go : (k : ℕ) → freeze_roots (graph_at arena work) since p ≡ k → freeze_roots (graph_at arena work) since p ≡ 0
      go zero is = is
      go (suc k) is = absurd (
          let r = roots p in
          let h = low p (root_needed work.graph p (omega (arith, r, is))) in omega (arith, h, late))

-- ---- what is kept then

module _ (M : Meaning) (old new : Parts) (observers : List Observer) (rooted since : ℕ)
    (refused : Option Refused) (sound : FitsInside M old observers rooted since refused) (count : ℕ)
    (older : (n : NodeId) → n.gen_ < count → row_at new.arena n ≡ row_at old.arena n)
    (dropped : (n : NodeId) → count ≤ n.gen_ → row_at new.arena n ≡ None) where
  pub sound_back : refused ≡ None → (IsReady M old → IsReady M new)
      → new.work.graph.roots ≡ old.work.graph.roots → new.arena.given ≡ old.arena.given
      → ((n : NodeId) → n.gen_ < count → at new.work.rows (main n) ≡ at old.work.rows (main n))
      → ((p : Point) → Needed old.work.graph p → p.node.gen_ < count)
      → FitsInside M new observers rooted since refused
  sound_back still ready roots given rows low = sound_observed M old new observers rooted since refused sound still ready
      (λ p. ap (λ (r : Roots). root_times r p) roots) (λ can p. elim (at_or_past p.node.gen_ count) [
        | inl early ↦ freezes_by (graph_in old) (graph_in new) since p (λ before. same_test (row_at old.arena p.node) (row_at new.arena p.node)
            (kept_in (at old.work.rows (main p.node))) (kept_in (at new.work.rows (main p.node))) (older p.node early) (ap kept_in (rows p.node early)))
        | inr late ↦ no_freeze_root (graph_in new) since p (dropped p.node late)
            ∙ sym (late_freezes old.arena old.work since (in_use (take rooted observers)) count can.roots low p late)
      ]) (omega (arith, given))
      (λ can n among. rows n (young_roots old.arena old.work since (in_use (take rooted observers)) count can.roots low n among))

-- where none that was given since the count stands in a scope, those in scopes and their binds are older
pub scoped_before : (arena : Arena) (work : Work) (count : ℕ) → IsKept arena work → NoneScopedSince arena count
    → (n b : NodeId) (r : Row) → row_at arena n ≡ Some r → r.scope ≡ Some b → (n.gen_ < count) × (b.gen_ < count)
scoped_before arena work count kept none n b r row scope = elim (at_or_past n.gen_ count) [
  | inl h ↦ (h, (let a = kept.older n b r row scope in omega (arith, a, h)))
  | inr late ↦ absurd (let e = sym (none n r row late) ∙ scope in cc)
]

-- functions of those that are left fit
module _ (known : FnRef → Bool) (right : FnRef → RightSide) (old new : Arena) (count : ℕ)
    (older : (n : NodeId) → n.gen_ < count → row_at new n ≡ row_at old n) (dropped : (n : NodeId) → count ≤ n.gen_ → row_at new n ≡ None) where
  pub fit_back : new.given ≡ old.given → SidesFit known right old → SidesFit known right new
  fit_back given fit = fit_left known right old new (omega (arith, given))
      (λ n. elim (at_or_past n.gen_ count) [ inl h ↦ inl (older n h) | inr late ↦ inr (dropped n late) ]) fit

-- ---- who is needed, over calls that keep all beside the nodes

module _ {F : Type 0} {Of : NodeId → Type 0} (old new : GraphView F) (keeps : KeepsBeside Of old new) where
  -- none more is
  pub needed_still : (p : Point) → IsNeeded new p → IsNeeded old p
  needed_still = needed_has new (IsNeeded old) (λ p is. needed_root old p (let r = keeps.need.roots p in omega (arith, r, is)))
      (λ a b link need. needed_linked old a b need (let l = keeps.need.links a b in omega (arith, l, link)))

  -- what is needed stays below a count of ids
  pub below_still : (count : ℕ) → ((p : Point) → IsNeeded old p → p.node.gen_ < count) → (p : Point) → IsNeeded new p → p.node.gen_ < count
  below_still count below p need = below p (needed_still p need)

-- ---- who stands in scopes, where nodes are added outside them

module _ {F : Type 0} (old new : GraphView F) (count : ℕ) (none : NoneScopedSince old.nodes count) where
  -- still none that was given since the count
  pub unscoped_still : (id : NodeId) (row : Row) → Adds old new id row → row.scope ≡ None → NoneScopedSince new.nodes count
  unscoped_still id row adds outside n r is since = elim (node_or_other n id) [
    | inl e ↦
        subst (λ (x : Option Row). IfSome x (λ (q : Row). q.scope ≡ None)) (sym adds.changes.changed ∙ (ap (row_at new.nodes) (sym e) ∙ is)) outside
    | inr other ↦ none n r (sym (adds.changes.others n other) ∙ is) since
  ]
