use Rattle.std.proofs.Common.{◌≡◌, ◌+◌, drop}
use Rattle.line_parser.specs.Reading.{count_of_word}
use Rattle.line_parser.proofs.parser.cursor.Cursor.eat_each.Given as goal

abbrev pub invariant-loop-count : goal.invariant-loop-count
invariant-loop-count l = record { so_far : count_of_word l.word l.self + l.count ≡ count_of_word l.word l.fn.self; rest : l.self ≡ drop l.count l.fn.self }
