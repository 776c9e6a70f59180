-- What a refused link says.
use Rattle.std.specs.Prelude.{◌≡◌, ◌≤◌, ◌++◌, true, List, [], ◌∷◌, Option, Some, length}
use Rattle.inc_value.specs.declared.node.Point.{Point}
use Rattle.inc_terms.specs.Depend.{Depends}
use Rattle.inc_terms.specs.Term.{Functions}
use Rattle.link_table.specs.Links.{Reads}
use Rattle.height_order.specs.Chains.{ReadsWith, IsChain, IsPath, NoRepeats}
use Rattle.height_order.specs.declared.heights.LinkFault.{LinkFault}
use Rattle.height_order.specs.declared.heights.LinkFault.TheVariants as fault
use Rattle.stabilize_round.specs.State.{State}
use Rattle.stabilize_round.specs.Wire.{IsConfirmed}
use Rattle.wiring.specs.Stands.{PointInHand, hand}
use Rattle.wiring.specs.declared.refused.Refused.{Refused}
use Rattle.wiring.specs.declared.refused.Refused.TheVariants.{Height, Cycle, Full, Memory}
use Rattle.wiring.specs.declared.work.Work.{Work}

-- with the link from p to q the points are a chain that is too long, no two of them the same, and refusals are final
pub record IsTooLong (work : Work) (p q : Point) (points : List Point) : Type 0 where
  pub chain : IsChain (ReadsWith work.graph.links p q) points
  pub long : length points ≡ 130
  pub once : NoRepeats points
  pub strict : work.retries ≡ 0

-- with the link from p to q the points are a walk from q that ends at q, over one link at least, and refusals are final
pub record IsCircle (work : Work) (p q : Point) (points : List Point) : Type 0 where
  pub path : IsPath (ReadsWith work.graph.links p q) points q q
  pub front : List Point
  pub comes_back : points ≡ front ++ q ∷ []
  pub once : NoRepeats front
  pub long : 2 ≤ length points
  pub strict : work.retries ≡ 0

-- the refusal is a chain of these points
abbrev pub IsHeightOf : List Point → Refused → Type 0
IsHeightOf list (Height points) = points.items ≡ list
IsHeightOf list e = ⊥

-- the refusal is a walk over these points and back to q, unless there was no memory to say so
abbrev pub IsCycleOf : List Point → Point → Refused → Type 0
IsCycleOf list q (Cycle points) = points.items ≡ list ++ q ∷ []
IsCycleOf list q Memory = Unit {0}
IsCycleOf list q e = ⊥

-- the refusal says what the fault of a link to q says
abbrev pub IsWhy : Point → LinkFault → Refused → Type 0
IsWhy q fault.Memory e = e ≡ Memory
IsWhy q (fault.Over list) e = IsHeightOf list.items e
IsWhy q (fault.Path list) e = IsCycleOf list.items q e

-- what a fault of the link from p to q says
abbrev pub TellsFault : Work → Point → Point → LinkFault → Type 0
TellsFault work p q fault.Memory = Unit {0}
TellsFault work p q (fault.Over list) = IsChain (ReadsWith work.graph.links p q) list.items × (length list.items ≡ 130) × NoRepeats list.items
TellsFault work p q (fault.Path list) = IsPath (Reads work.graph.links) list.items q p × NoRepeats list.items

-- the link from p to q can't be put on: with it a chain has too many points, or p is reached from q
pub data IsBarred (work : Work) (p q : Point) : Type 0 where
  by_chain : (points : List Point) → IsChain (ReadsWith work.graph.links p q) points → length points ≡ 130 → NoRepeats points
      → IsBarred work p q
  by_path : (points : List Point) → IsPath (Reads work.graph.links) points q p → NoRepeats points → IsBarred work p q

-- what a refusal of the link from p to q says
abbrev pub RefusedBy : Work → Point → Point → Refused → Type 0
RefusedBy work p q (Height points) = IsTooLong work p q points.items
RefusedBy work p q (Cycle points) = IsCircle work p q points.items
RefusedBy work p q Full = ⊥
RefusedBy work p q Memory = Unit {0}

-- there was no memory, or the link was refused that the point in hand is owed first, which it depends on and may have now
pub data TellsWhy (F : Functions) (s : State) (work : Work) : Option PointInHand → Refused → Type 0 where
  no_memory : {held : Option PointInHand} → TellsWhy F s work held Memory
  by_link : {p q : Point} {rest : List Point} {e : Refused} → s.needed p ≡ true → Depends F s.graph s.died p q → IsConfirmed s p q
      → RefusedBy work p q e → TellsWhy F s work (Some (hand p (q ∷ rest))) e
