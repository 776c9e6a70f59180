-- What a round leaves of the parts, told of the graph.
use Rattle.std.proofs.Common.{◌≡◌, inl, ℕ, false, List, length, Option, None, Some, refl, sym, ap, subst, ◌∙◌}
use Rattle.std.specs.Prelude.{slice_get}
use Rattle.inc_value.specs.declared.node.NodeId.{NodeId}
use Rattle.inc_value.specs.Choice.{here}
use Rattle.inc_terms.specs.Depend.{main}
use Rattle.inc_terms.specs.Graph.{Row}
use Rattle.inc_terms.specs.Term.{Functions}
use Rattle.inc_terms.specs.Within.{Given}
use Rattle.inc_terms.proofs.Within.{functions_within}
use Rattle.node_arena.specs.Arena.{row_at}
use Rattle.node_arena.proofs.Graph.{names_are_given}
use Rattle.node_outcomes.specs.Meaning.{Meaning}
use Rattle.stabilize_round.specs.Invariant.{ScopesRooted}
use Rattle.stabilize_round.specs.Laws.{GraphStays}
use Rattle.stabilize_round.specs.Runs.{BuildsFew}
use Rattle.stabilizer.specs.Kept.{graph_in}
use Rattle.stabilizer.specs.Left.{BuildsRightIn, IsUpToDateIn, HasCalledMetIn, IsLawfulIn, LeavesNodes, LeavesTried}
use Rattle.stabilizer.specs.Look.{Look, look_between, look_refused, cutoff_at}
use Rattle.stabilizer.specs.Round as round
use Rattle.stabilizer.specs.declared.parts.Parts.{Parts}
use Rattle.stabilizer.proofs.Step.Experts.{held_given}
use Rattle.wiring.specs.Graph.{held_at}
use Rattle.wiring.specs.Stands.{Counts}
use Rattle.wiring.specs.declared.refused.Refused.{Refused}
use Rattle.graph.specs.Fault.{kept_of}
use Rattle.graph.specs.Stabilizes.{Stabilizes, BuildsAnew, IsRefusedFor, HasCalledMet}
use Rattle.graph.specs.Standing.{look}
use Rattle.observers.specs.Observers.{ObserversView, in_use, looked_at, notices_of, told_by}
use Rattle.stabilizer.specs.Telling.{shows_of}
use Rattle.graph.specs.declared.fault.Kept.{Kept}
use Rattle.observers.specs.declared.observer.Observer.{Observer}
use Rattle.graph.proofs.Anew.{anew}
use Rattle.graph.proofs.Observing.{looked_among}
use Rattle.graph.proofs.Seeing.{seen_as}
use Rattle.graph.proofs.Telling.{looked_told}

-- of an unbroken graph it is what can be looked at of its parts between rounds
look_is : {F : Type 0} (functions : F) (parts : Parts) (observers : ObserversView) (rooted since : ℕ) (refused : Option Refused) → refused ≡ None
    → look_between parts ≡ look (seen_as functions parts observers rooted since refused)
look_is functions parts observers rooted since refused still =
    ap (λ (r : Option Refused). look (seen_as functions parts observers rooted since r)) (sym still)

module _ {F : Type 0} (M : Functions) (functions functions' : F) (old new : Parts) (observers : ObserversView) (rooted since : ℕ)
    (refused : Option Refused) (still : refused ≡ None) where
  -- what is said of the parts before is said of the graph
  before_is : (P : Look → Type 0) → P (look_between old) → P (look (seen_as functions old observers rooted since refused))
  before_is P h = subst P (look_is functions old observers rooted since refused still) h

  -- an accepted round
  pub accepted : (after : ObserversView) (count : ℕ) → count ≡ new.arena.given → after.made ≡ told_by (shows_of new) observers.made
      → after.notices ≡ notices_of (shows_of new) 0 observers.made → (all : ℕ) → all ≡ length after.made → GraphStays old.arena.given new.arena.given (graph_in old) (round.left_by old new)
      → round.BuildsAll M old new (in_use observers.made) → round.IsUpToDate M old new (in_use observers.made)
      → Stabilizes M (seen_as functions old observers rooted since refused) (seen_as functions' new after all count refused)
  accepted after count is_count told notices all are_all rest builds right = record {
    was = still;
    unbroken = still;
    stays = rest;
    builds = before_is (λ (b : Look). BuildsRightIn M (round.left_by old new) (round.died_by old new) b (in_use observers.made) None) builds;
    observers = told;
    notices = notices;
    rooted = are_all;
    since = is_count;
    shows = λ o n is.
        let was = sym (looked_told (shows_of new) observers.made o.0)
        ∙ (ap (λ (os : List Observer). looked_at (slice_get os o.0)) (sym told) ∙ is) in
        let s = right.sees n (n, inl (looked_among observers.made o.0 n was), here) in (s.0, s.1, s.2);
    right = subst (λ (a : Look). IsUpToDateIn M (round.left_by old new) (round.died_by old new) (graph_in new)
        (look (seen_as functions old observers rooted since refused)) a (in_use observers.made) new.ran.items)
        (look_is functions' new after all count refused still)
        (before_is (λ (b : Look). IsUpToDateIn M (round.left_by old new) (round.died_by old new) (graph_in new) b (look_between new)
        (in_use observers.made) new.ran.items) right);
  }

  -- a refused one
  module _ (met : Refused) where
    pub few_in : (calls after : ℕ) → round.HasCalledMet M old new (in_use observers.made) calls after
        → HasCalledMet M (seen_as functions old observers rooted since refused) (seen_as functions' new observers rooted since (Some met)) calls after
    few_in calls after h = before_is (λ (b : Look). HasCalledMetIn M (round.left_by old new) (round.died_by old new) b (look_refused new)
        (in_use observers.made) calls after) h

    pub refused_in : (cause : Kept) → kept_of met ≡ cause → GraphStays old.arena.given new.arena.given (graph_in old) (round.left_by old new)
        → new.ran.items ≡ old.ran.items → ((n : NodeId) → (graph_in new).frozen n ≡ (graph_in old).frozen n)
        → ((n : NodeId) → (look_refused new).settled (main n) ≡ false → (look_refused new).marked n ≡ (look_between old).marked n)
        → ((n : NodeId) (r : Row) → row_at new.arena n ≡ Some r → cutoff_at new.work n ≡ cutoff_at old.work n)
        → ((n : NodeId) → Given old.arena.given n → round.ShowsStill M old new n)
        → round.IsLawful M old new (in_use observers.made) met → LeavesTried (look_refused new) met
        → round.BuildsAllBut M old new (in_use observers.made) met
        → IsRefusedFor M (seen_as functions old observers rooted since refused) (seen_as functions' new observers rooted since (Some met)) cause
    refused_in cause is rest ran frozen marks cutoffs shows lawful tried builds = record {
      was = still;
      stays = rest;
      observers = refl;
      rooted = refl;
      since = refl;
      frozen = frozen;
      marks = marks;
      notices = refl;
      ran = ran;
      cutoff = cutoffs;
      shows = shows;
      met = met;
      broken = refl;
      is_cause = is;
      lawful = before_is (λ (b : Look). IsLawfulIn M (round.left_by old new) (round.died_by old new) b (in_use observers.made) met) lawful.0;
      tried = tried;
      unbuilt = builds.0;
      builds = before_is (λ (b : Look). BuildsRightIn M (round.left_by old new) (round.died_by old new) b (in_use observers.made) builds.0) builds.1;
      build = builds.2;
      full = lawful.1;
    }

-- the binds that an accepted round built are met, and none is built for what it was
pub builds_anew : {F : Type 0} (M : Meaning) (functions functions' : F) (old new : Parts) (observers : ObserversView) (rooted since : ℕ)
    (refused : Option Refused) → refused ≡ None → (after : ObserversView) (all count : ℕ) → round.IsReady M old → ScopesRooted (graph_in old)
    → GraphStays old.arena.given new.arena.given (graph_in old) (round.left_by old new) → (before then : Counts)
    → LeavesNodes M.functions old.arena.given new.arena.given (graph_in old) (round.left_by old new) before then
    → round.BuildsAll M.functions old new (in_use observers.made) → (x y : ℕ)
    → BuildsFew M.functions old.arena.given (graph_in old) (round.left_by old new) None x y
    → BuildsAnew M.functions (seen_as functions old observers rooted since refused) (seen_as functions' new after all count refused) x y
builds_anew M functions functions' old new observers rooted since refused still after all count ready inside rest before then left builds x y few =
    let names = (names_are_given old.arena (held_at old.arena old.work) M.known M.ids ready.kept.work.sound
    (held_given old.arena old.work ready.kept.work) ready.fit).1 in
    let are = before_is M.functions functions functions' old new observers rooted since refused still
    (λ (b : Look). BuildsRightIn M.functions (round.left_by old new) (round.died_by old new) b (in_use observers.made) None) builds in
    let by = anew M.functions M.known M.ids old.arena.given new.arena.given (graph_in old) (round.left_by old new)
    (functions_within M.functions M.known M.ids (Given old.arena.given) ready.laws) names ready.kept.work.scopes inside rest before then left
    (round.died_by old new) (look (seen_as functions old observers rooted since refused)) (in_use observers.made) refl refl are x y few in
    record {
      binds = few.binds;
      once = few.once;
      anew = λ b among. let h = by b among in record { was = few.built b among; met = h.0; rooted = h.1; other = h.2 };
      count = few.count;
    }
