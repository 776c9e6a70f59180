-- What a step may begin with, and what stays in each step of a round.
use Rattle.std.specs.Prelude.{◌≡◌, [], None}
use Rattle.inc_value.specs.declared.node.NodeId.{NodeId}
use Rattle.inc_terms.specs.Depend.{change}
use Rattle.necessary_graph.specs.Part.{Needed}
use Rattle.necessity.specs.Need.{KeepsRoots}
use Rattle.node_arena.specs.declared.functions.Functions.{Ghosts}
use Rattle.point_map.specs.Rows.{at, Holds}
use Rattle.stabilizer.specs.Kept.{PartsKept, KeepsMeaning, StaysFlat}
use Rattle.stabilizer.specs.Weights.{SidesFit}
use Rattle.stabilizer.specs.declared.parts.Parts.{Parts}
use Rattle.wiring.specs.declared.work.Work.{Work}

-- the parts keep what they keep between any two calls, no point waits for its links, and functions are sound and fit
pub record MayStep {K More : Type 0} (keeper : Ghosts K More) (fs : K) (parts : Parts) : Type 0 where
  pub kept : PartsKept parts
  pub quiet : parts.work.todo.items ≡ []
  pub sound : keeper.is_sound fs
  pub fit : SidesFit (keeper.known fs) (keeper.right fs) parts.arena

-- a needed change was taken from the heap
pub record ChangeIsTaken (work : Work) (n : NodeId) : Type 0 where
  pub row : Holds work.rows (change n)
  pub needed : Needed work.graph (change n)
  pub gone : at work.graph.heap (change n) ≡ None

-- the parts keep what they keep between any two calls, functions still fit and mean what they meant, no node changes where no live one is a bind; the
-- roots that were put on stay, and so do the number of the round, and who was called in the last one
pub record RoundStays {K More : Type 0} (keeper : Ghosts K More) (fs fs' : K) (old new : Parts) : Type 0 where
  pub kept : PartsKept new
  pub fit : SidesFit (keeper.known fs') (keeper.right fs') new.arena
  pub functions : KeepsMeaning keeper fs fs'
  pub flat : StaysFlat old.arena new.arena
  pub roots : KeepsRoots old.work.graph.roots new.work.graph.roots
  pub round : new.work.round ≡ old.work.round
  pub ran : new.ran.items ≡ old.ran.items
