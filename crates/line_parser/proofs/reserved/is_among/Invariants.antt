use Rattle.std.proofs.Common.{◌≡◌, drop, map}
use Rattle.std.specs.List.{list_any}
use Rattle.std.specs.Str.{bytes_eq}
use Rattle.line_parser.proofs.reserved.is_among.Given as goal

abbrev pub invariant-loop-reserved : goal.invariant-loop-reserved
invariant-loop-reserved l =
    list_any (bytes_eq l.word) (map (λ w. w.now) (drop l.reserved-index l.table)) ≡ list_any (bytes_eq l.word) (map (λ w. w.now) l.table)
