use Rattle.std.proofs.Common.{◌≡◌, ◌++◌, ◌∷◌, drop}
use Rattle.inc_value.specs.Value.{escaped}
use Rattle.inc_value.proofs.value.quoted.Given as goal

abbrev pub invariant-loop-byte : goal.invariant-loop-byte
invariant-loop-byte l = l.printed.items ++ escaped (drop l.byte-index l.bytes) ≡ 34 ∷ escaped l.bytes
