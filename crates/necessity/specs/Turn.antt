-- Which way points turn.
use Rattle.std.specs.Prelude.{Bool, true, false}
use Rattle.necessity.specs.declared.need.Turn.{Turn}
use Rattle.necessity.specs.declared.need.Turn.TheVariants.{Needed, Unneeded}

-- points turn needed
abbrev pub to_needed : Turn → Bool
to_needed Needed = true
to_needed Unneeded = false
