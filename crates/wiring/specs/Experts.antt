-- What becomes of experts where nodes are added, and where points get their links.
use Rattle.std.specs.Prelude.{◌≡◌, List, Some, is_some}
use Rattle.inc_value.specs.declared.node.NodeId.{NodeId}
use Rattle.inc_terms.specs.Graph.{Def, Expert}
use Rattle.expert_nodes.specs.Experts.{ExpertChanges, ExpertPlace, expert_at, is_stale_at, kids_at, unlinked}

-- with a new node that is so defined an expert is created, if it is one, and else none
abbrev pub ExpertIsAdded : Def → List ExpertPlace → List ExpertPlace → NodeId → Type 0
ExpertIsAdded (Expert f v ns) old new n = ExpertChanges old new n (Some unlinked)
ExpertIsAdded def old new n = new ≡ old

-- the same were created, and read what they read; what is fresh may have been taken up
pub record ReadSame (old new : List ExpertPlace) : Type 0 where
  pub there : (n : NodeId) → is_some (expert_at new n) ≡ is_some (expert_at old n)
  pub kids : (n : NodeId) → kids_at new n ≡ kids_at old n
  pub stale : (n : NodeId) → is_stale_at new n ≡ is_stale_at old n
