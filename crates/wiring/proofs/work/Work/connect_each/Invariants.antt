use Rattle.std.proofs.Common.{map, drop}
use Rattle.inc_terms.specs.Depend.{main}
use Rattle.wiring.proofs.Handing.{IsHanded}
use Rattle.wiring.proofs.work.Work.connect_each.Given as goal

abbrev pub invariant-loop-kid : goal.invariant-loop-kid
invariant-loop-kid l = IsHanded l.arena l.fn.self l.self l.p (map main l.kids) (map main (drop l.kid-index l.kids))
