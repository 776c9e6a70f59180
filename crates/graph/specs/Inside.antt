-- What every graph keeps, of its inside: the parts of a stabilizer, and observers.
use Rattle.std.specs.Prelude.{◌≡◌, ◌≤◌, ◌-◌, ◌^◌, ◌++◌, ℕ, true, List, take, drop, length, Option, None, IsSome}
use Rattle.inc_value.specs.declared.node.NodeId.{NodeId}
use Rattle.inc_value.specs.Choice.{Among}
use Rattle.inc_terms.specs.Within.{Given}
use Rattle.node_arena.specs.Arena.{Arena}
use Rattle.node_outcomes.specs.Meaning.{Meaning}
use Rattle.observers.specs.Observers.{in_use}
use Rattle.observers.specs.declared.observer.Observer.{Observer}
use Rattle.stabilize_round.specs.Invariant.{Rooted, ScopesRooted}
use Rattle.stabilizer.specs.Kept.{graph_in, PartsKept}
use Rattle.stabilizer.specs.Round.{IsReady, AreNewFreezes, AreRooted}
use Rattle.stabilizer.specs.Telling.{ShowAsSeen}
use Rattle.stabilizer.specs.declared.parts.Parts.{Parts}
use Rattle.wiring.specs.declared.refused.Refused.{Refused}
use Rattle.wiring.specs.declared.work.Work.{Work}

-- where need begins from the next round on: at nodes of observers in use that were made since the last one, and at freezes that keep no value and were
-- given since
pub record AreNewRoots (arena : Arena) (work : Work) (observers : List Observer) (rooted since : ℕ) (roots : List NodeId) : Type 0 where
  pub freezes : List NodeId
  pub all : roots ≡ in_use (drop rooted observers) ++ freezes
  pub fresh : AreNewFreezes arena work since freezes

-- an unbroken graph: a round of its functions may begin; need begins at the observers and freezes that were there at the last one; observers look at given
-- nodes; and where they show something, it is what is seen of their nodes
pub record CanStabilize (M : Meaning) (parts : Parts) (observers : List Observer) (rooted since : ℕ) : Type 0 where
  pub ready : IsReady M parts
  pub roots : AreRooted parts.arena parts.work since (in_use (take rooted observers))
  pub given : (n : NodeId) → Among n (in_use observers) → Given parts.arena.given n
  pub shown : ShowAsSeen parts observers

-- what every graph keeps: its parts fit together, and each bind that is built has a root that reads back as its function's term, or none for Invalid,
-- and then nobody stands in its scope; observers in use that were there at the last round show something, and later ones nothing; also where a stabilize
-- was refused
pub record FitsInside (M : Meaning) (parts : Parts) (observers : List Observer) (rooted since : ℕ) (refused : Option Refused) : Type 0 where
  pub few : length observers ≤ 2 ^ 32 - 1
  pub earlier : rooted ≤ length observers
  pub past : since ≤ parts.arena.given
  pub kept : PartsKept parts
  pub built : Rooted M.functions (graph_in parts)
  pub inside : ScopesRooted (graph_in parts)
  pub showing : (o : Observer) → Among o (take rooted observers) → o.in_use ≡ true → IsSome o.shown
  pub later : (o : Observer) → Among o (drop rooted observers) → o.shown ≡ None
  pub unbroken : refused ≡ None → CanStabilize M parts observers rooted since
