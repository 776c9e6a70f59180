-- What a round says when it ends: it was accepted, or refused, and what it leaves either way.
use Rattle.std.specs.Prelude.{◌≡◌, ◌+◌, ◌++◌, ℕ, false, List, None, Some}
use Rattle.inc_value.specs.declared.node.NodeId.{NodeId}
use Rattle.inc_terms.specs.Depend.{main}
use Rattle.inc_terms.specs.Graph.{Row}
use Rattle.inc_terms.specs.Within.{Given}
use Rattle.node_arena.specs.Arena.{row_at}
use Rattle.node_arena.specs.declared.functions.Functions.{Ghosts}
use Rattle.node_outcomes.specs.Meaning.{functions_of, meaning_of}
use Rattle.stabilize_round.specs.Calling.{costs_of}
use Rattle.stabilize_round.specs.Counts.{RoseBy}
use Rattle.stabilizer.specs.Giving.{GivesLive, GivesFew, StopsFull}
use Rattle.stabilizer.specs.Kept.{graph_in, PartsKept, KeepsMeaning, StaysFlat, counts_by}
use Rattle.stabilizer.specs.Left.{LeavesTried}
use Rattle.stabilizer.specs.Look.{cutoff_at, look_between, look_refused}
use Rattle.stabilizer.specs.Round.{IsReady, BeginsAt, IsUpToDate, IsLawful, HasCalledMet, ShowsStill, left_by, IsLeftBy, BuiltFew, BuildsAll, BuildsAllBut}
use Rattle.stabilizer.specs.Weights.{SidesFit}
use Rattle.stabilizer.specs.declared.parts.Parts.{Parts}
use Rattle.wiring.specs.declared.refused.Refused.{Refused}

module _ {K More : Type 0} (keeper : Ghosts K More) (fs fs' : K) (old new : Parts) where
  -- it was accepted, with these roots more: what is needed is up to date, counts rose by what it called and built, ids were given to live
  -- nodes alone, and the next round may begin
  pub record RoundEnds (roots : List NodeId) : Type 0 where
    pub right : (since : ℕ) (nodes freezes observed : List NodeId) → BeginsAt old since roots nodes freezes observed
        → IsUpToDate (functions_of keeper fs) old new (nodes ++ observed)
    pub calls : RoseBy (keeper.calls fs) (costs_of (left_by old new) new.ran.items) (keeper.calls fs')
    pub ready : IsReady (meaning_of keeper fs') new
    pub gives : GivesLive old.arena.given 0 new.arena
    pub round : new.work.round ≡ old.work.round + 1
    pub builds : BuiltFew (functions_of keeper fs) old new None (counts_by keeper fs) (counts_by keeper fs')
    pub built : (since : ℕ) (nodes freezes observed : List NodeId) → BeginsAt old since roots nodes freezes observed
        → BuildsAll (functions_of keeper fs) old new (nodes ++ observed)

  -- it was refused, for a reason that is so: functions were called of points that it met, cutoffs stay, freezes keep what they kept, marks stay of what wasn't
  -- settled, what is shown is what was or is right, all binds but one could be built, and ids were given to live nodes, but for those that one build spent
  pub record RoundStops (roots : List NodeId) (e : Refused) : Type 0 where
    pub lawful : (since : ℕ) (nodes freezes observed : List NodeId) → BeginsAt old since roots nodes freezes observed
        → IsLawful (functions_of keeper fs) old new (nodes ++ observed) e
    pub tried : LeavesTried (look_refused new) e
    pub few : (since : ℕ) (nodes freezes observed : List NodeId) → BeginsAt old since roots nodes freezes observed
        → HasCalledMet (functions_of keeper fs) old new (nodes ++ observed) (keeper.calls fs) (keeper.calls fs')
    pub kept : PartsKept new
    pub cutoffs : (n : NodeId) (r : Row) → row_at new.arena n ≡ Some r → cutoff_at new.work n ≡ cutoff_at old.work n
    pub frozen : (n : NodeId) → (graph_in new).frozen n ≡ (graph_in old).frozen n
    pub marks : (n : NodeId) → (look_refused new).settled (main n) ≡ false → (look_refused new).marked n ≡ (look_between old).marked n
    pub shows : (n : NodeId) → Given old.arena.given n → ShowsStill (functions_of keeper fs) old new n
    pub unbuilt : (since : ℕ) (nodes freezes observed : List NodeId) → BeginsAt old since roots nodes freezes observed
        → BuildsAllBut (functions_of keeper fs) old new (nodes ++ observed) e
    pub ran : new.ran.items ≡ old.ran.items
    pub spends : GivesFew (keeper.right fs') old.arena.given new.arena
    pub full : StopsFull (keeper.right fs') new.arena (counts_by keeper fs) (counts_by keeper fs') e

  -- wherever it ends, functions still fit and mean what they meant, and no node changes where no live one is a bind
  pub record RoundLeaves : Type 0 where
    pub left : IsLeftBy (functions_of keeper fs) old new (counts_by keeper fs) (counts_by keeper fs')
    pub fit : SidesFit (keeper.known fs') (keeper.right fs') new.arena
    pub functions : KeepsMeaning keeper fs fs'
    pub flat : StaysFlat old.arena new.arena
