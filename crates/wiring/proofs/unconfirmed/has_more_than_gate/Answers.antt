use Rattle.wiring.proofs.Deciding.{by_first, by_second}
use Rattle.wiring.proofs.unconfirmed.has_more_than_gate.Goals as goal

pub returns-then-is_static : goal.returns-then-is_static
returns-then-is_static c = by_first c.is_static.result _ _ c.is_static.ensures c.if-is_static.true

pub returns-else-is_static : goal.returns-else-is_static
returns-else-is_static c = by_second c.is_static.result c.is_full.result _ _ c.is_static.ensures c.is_full.ensures c.if-is_static.false
