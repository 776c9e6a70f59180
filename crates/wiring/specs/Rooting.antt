-- A root comes on, and what is newly needed waits for its links.
use Rattle.std.specs.Prelude.{◌≡◌, None}
use Rattle.inc_value.specs.declared.node.Point.{Point}
use Rattle.inc_terms.specs.Term.{Functions}
use Rattle.necessity.specs.Need.{OneRootMore}
use Rattle.node_arena.specs.Arena.{Arena}
use Rattle.stabilize_round.specs.Machine.{Moves}
use Rattle.stabilize_round.specs.State.{State, Start}
use Rattle.wiring.specs.Kept.{IsKept}
use Rattle.wiring.specs.Stands.{MatchesState, Counts}
use Rattle.wiring.specs.Wiring.{AreUnlinked, IsTarget, SettlesNone}
use Rattle.wiring.specs.declared.work.Work.{Work}

-- whatever the functions mean, moves lead from each state that the work stood for, in which points of the worklist have no links yet, to such a state
-- that it stands for then, and settle none
abbrev pub Follows : Arena → Work → Work → Type 0
Follows arena old new =
    (F : Functions) (z : Start) (s : State) (counts : Counts) → MatchesState arena old counts None s → AreUnlinked None s
    → (t : State) × Moves F z s t × MatchesState arena new counts None t × AreUnlinked None t × SettlesNone s t

-- a root came on at the point, which is in the worklist if it is newly needed
pub record HasRootOn (arena : Arena) (old new : Work) (p : Point) : Type 0 where
  pub follows : Follows arena old new
  pub kept : IsKept arena new
  pub more : OneRootMore old.graph.roots new.graph.roots p
  pub round : new.round ≡ old.round

-- so it is with all nodes for which the work is kept, where a link may lead to the point
abbrev pub PutsRootOn : Work → Work → Point → Type 0
PutsRootOn old new p = (arena : Arena) → IsKept arena old → IsTarget arena old p → HasRootOn arena old new p
