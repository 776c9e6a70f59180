use Rattle.std.proofs.Common.{◌≡◌, ◌+◌, drop}
use Rattle.generated_script.specs.Counting.{counted}
use Rattle.generated_script.proofs.tally.Tally.add.Given as goal

abbrev pub invariant-loop-byte : goal.invariant-loop-byte
invariant-loop-byte l = record {
  rest : counted l.self (drop l.byte-index l.printed) ≡ counted l.fn.self l.printed;
  bytes : l.self.bytes ≡ l.fn.self.bytes + l.byte-index;
}
