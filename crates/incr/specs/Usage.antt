-- The usage line.
use Rattle.std.specs.Prelude.{ℕ, List, codes}

-- what is written where the words ask for nothing
abbrev pub usage_line : List ℕ
usage_line = codes "usage: incr run | incr gen STEPS SEED\n"
