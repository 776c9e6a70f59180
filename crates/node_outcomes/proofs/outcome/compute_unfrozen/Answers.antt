use Rattle.std.proofs.Common.{inl, inr}
use Rattle.node_outcomes.proofs.outcome.compute_unfrozen.Goals as goal

pub returns-in-Err-compute_map-clause-wants : goal.returns-in-Err-compute_map-clause-wants
returns-in-Err-compute_map-clause-wants g c = elim c.in-Err-compute_map.ensures.wants [
  | inl h ↦ inl (h.0, inr h.1)
  | inr h ↦ inr h
]
