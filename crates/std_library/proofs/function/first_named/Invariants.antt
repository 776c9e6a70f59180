use Rattle.std.proofs.Common.{◌≡◌, drop}
use Rattle.std_library.specs.Functions as says
use Rattle.std_library.proofs.function.first_named.Given as goal

-- the first of all is the first of those left
abbrev pub invariant-loop-function : goal.invariant-loop-function
invariant-loop-function l = says.first_named (drop l.function-index l.functions) l.name ≡ says.first_named l.functions l.name
