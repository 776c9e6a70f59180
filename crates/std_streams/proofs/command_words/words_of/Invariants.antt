-- The words so far are those of the arguments so far.
use Rattle.std.proofs.Common.{◌≡◌, map, string_bytes}
use Rattle.std_streams.proofs.command_words.words_of.Given as goal

abbrev pub invariant-loop-arg : goal.invariant-loop-arg
invariant-loop-arg l = l.words.items ≡ map string_bytes l.yielded
