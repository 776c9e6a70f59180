-- The places of timers by key.
use Rattle.std.specs.Prelude.{ℕ, Option}
use Rattle.inc_value.specs.declared.node.Point.{Point}
use Rattle.inc_value.specs.declared.node.Part.TheVariants.{Main}
use Rattle.point_map.specs.Rows.{Rows, at}

-- the point at which a key is kept
abbrev pub key_point : ℕ → Point
key_point key = record { node = record { slot = key; gen_ = 0 }; part = Main }

-- the place of a key's timer, if it has one
abbrev pub place_of : Rows ℕ → ℕ → Option ℕ
place_of places key = at places (key_point key)
