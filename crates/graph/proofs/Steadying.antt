-- A steady graph's stabilize is a steady round of its parts.
use Rattle.std.proofs.Common.{◌≡◌, ◌⊎◌, inl, inr, ◌+◌, ◌++◌, ℕ, List, [], ◌∷◌, map, take, drop, length, Option, None, Some, refl, sym, ap, subst, ◌∙◌, arith}
use Rattle.std.specs.Prelude.{Err, option_and_then}
use Rattle.std.proofs.Math.ListN.{drop_of_length-le}
use Rattle.std.proofs.lemmas.List.{take_all}
use Rattle.inc_value.specs.Choice.{Among, here}
use Rattle.inc_value.specs.Counts.{raised}
use Rattle.inc_value.specs.declared.node.NodeId.{NodeId}
use Rattle.inc_value.specs.declared.node.Point.{Point}
use Rattle.inc_terms.specs.Depend.{main, change}
use Rattle.inc_terms.proofs.Plan.{among_map}
use Rattle.necessary_graph.specs.Part.{Needed}
use Rattle.node_arena.specs.Arena.{Arena}
use Rattle.node_outcomes.specs.Meaning.{Meaning}
use Rattle.node_outcomes.specs.Progress.{Progress}
use Rattle.observers.specs.Observers.{ObserversView, in_use}
use Rattle.observers.specs.declared.observer.Observer.{Observer}
use Rattle.point_map.specs.Rows.{at}
use Rattle.stabilize_round.specs.State.{Call, count}
use Rattle.stabilize_round.proofs.Points.{among_count}
use Rattle.stabilizer.specs.Look.{freeze_roots, last_of}
use Rattle.stabilizer.specs.Steady as round
use Rattle.stabilizer.specs.declared.parts.Parts.{Parts}
use Rattle.wiring.specs.Graph.{graph_at}
use Rattle.wiring.specs.declared.refused.Refused.{Refused}
use Rattle.wiring.specs.declared.refused.Refused.TheVariants.{Memory}
use Rattle.wiring.specs.declared.work.Work.{Work}
use Rattle.graph.specs.Inside.{AreNewRoots, CanStabilize}
use Rattle.graph.specs.Standing.{IsNeeded}
use Rattle.graph.specs.Steady.{FindsMemory, IsSteady}
use Rattle.graph.specs.Fault.{kept_of}
use Rattle.graph.specs.declared.fault.Kept.{Kept}
use Rattle.graph.specs.declared.fault.StabilizeFault.TheVariants as fault
use Rattle.graph.proofs.Seeing.{seen_as}

-- ---- nothing is new

-- what is listed no time isn't listed
none_listed : (ns : List NodeId) → ((p : Point) → count p (map main ns) ≡ 0) → ns ≡ []
none_listed [] none = refl
none_listed (n ∷ ns) none =
    let some = among_count (main n) (map main (n ∷ ns)) (among_map main n (n ∷ ns) (inl refl)) in
    let zero = none (main n) in
    absurd (omega (arith, some, zero))

none_behind : (os : List Observer) (rooted : ℕ) → rooted ≡ length os → in_use (drop rooted os) ≡ []
none_behind os rooted same = ap in_use (drop_of_length-le os (omega (arith, same)))

pub no_new_roots : (arena : Arena) (work : Work) (os : List Observer) (rooted since : ℕ) (roots : List NodeId)
    → AreNewRoots arena work os rooted since roots → rooted ≡ length os → since ≡ arena.given → roots ≡ []
no_new_roots arena work os rooted since roots new no_observer no_node =
    new.all ∙ (ap (λ (ns : List NodeId). ns ++ new.freezes) (none_behind os rooted no_observer)
    ∙ none_listed new.freezes (λ p. let all = new.fresh p in
    let same = ap (λ (k : ℕ). freeze_roots (graph_at arena work) k p) no_node in omega (arith, all, same)))

-- ---- the round

last_is : (x : Option Progress) (c : Call) → option_and_then (λ (k : Progress). k.last) x ≡ Some c → last_of x ≡ Some c
last_is None c e = e
last_is (Some k) c e = e

module _ {F : Type 0} (M : Meaning) (functions : F) (old : Parts) (observers : ObserversView) (rooted since : ℕ) (refused : Option Refused)
    (can : CanStabilize M old observers.made rooted since) (steady : IsSteady M.functions (seen_as functions old observers rooted since refused)) where
  need_is : (p : Point) → Needed old.work.graph p → IsNeeded (seen_as functions old observers rooted since refused) p
  need_is p need = record { root = need.root; is_root = need.is_root; leads = need.leads }

  -- observers in use look at roots
  all_rooted : (n : NodeId) → Among n (in_use observers.made) → Needed old.work.graph (main n)
  all_rooted n among =
      let all : take rooted observers.made ≡ observers.made = take_all rooted observers.made (omega (arith, steady.no_observer)) in
      let ns = in_use (take rooted observers.made) in
      let listed : Among n ns = subst (λ (os : List Observer). Among n (in_use os)) (sym all) among in
      let some = among_count (main n) (map main ns) (among_map main n ns listed) in
      let is = can.roots (main n) in
      record { root = main n; is_root = omega (arith, some, is); leads = here }

  pub steady_round : (roots : List NodeId) → AreNewRoots old.arena old.work observers.made rooted since roots
      → round.IsSteady M.functions old roots observers.made
  steady_round roots new = record {
    numbered = steady.numbered;
    unlinked = steady.no_link;
    unrooted = no_new_roots old.arena old.work observers.made rooted since roots new steady.no_observer steady.no_node;
    chosen = λ n m r row sub need.
        let c = steady.chosen n m r row sub (need_is (change n) need) in
        record { outcome = c.outcome; chose = c.chose; shows = c.shows; gives = c.gives };
    textless = λ n r row need. steady.textless n r row (need_is (main n) need);
    recalled = λ n c need last. steady.recalled n c (need_is (main n) need) (last_is (at old.work.rows (main n)) c last);
    observed = all_rooted;
    told = steady.told;
    few = λ n need. steady.few n (need_is (main n) need);
  }

-- ---- a refusal

pub finds_by : (refused : Refused) (cause : Kept) (old new : ℕ) → kept_of refused ≡ cause → (new ≡ old) ⊎ ((refused ≡ Memory) × (new ≡ raised old))
    → new ≡ raised old → FindsMemory {T = Unit {0}} (Err (fault.Refused cause)) old new
finds_by refused cause old new is (inl same) rose = (rose, λ less. absurd (let r = sym same ∙ rose in omega (arith, r, less)))
finds_by refused cause old new is (inr told) rose = (rose, λ less. ap fault.Refused (sym is ∙ ap kept_of told.0))
