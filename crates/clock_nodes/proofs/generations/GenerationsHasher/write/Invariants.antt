use Rattle.std.proofs.Common.{◌≡◌, take, fold}
use Rattle.clock_nodes.specs.Generations.{with_byte}
use Rattle.clock_nodes.proofs.generations.GenerationsHasher.write.Given as goal

-- the bytes so far
abbrev pub invariant-loop-b : goal.invariant-loop-b
invariant-loop-b l = l.hash ≡ fold with_byte l.fn.self.0 (take l.b-index l.bytes)
