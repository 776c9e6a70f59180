use Rattle.wiring.proofs.Deciding.{by_first, by_second}
use Rattle.wiring.proofs.wire.lacks_links.Goals as goal

pub returns-then-is_bare : goal.returns-then-is_bare
returns-then-is_bare c = by_first c.is_bare.result _ _ c.is_bare.ensures c.if-is_bare.true

pub returns-else-is_bare : goal.returns-else-is_bare
returns-else-is_bare c = by_second c.is_bare.result c.is_gated.result _ _ c.is_bare.ensures c.is_gated.ensures c.if-is_bare.false
