-- What a contract sees of the links of buckets.
use Rattle.std.specs.Prelude.{ℕ, Option, option_map, option_and_then}
use Rattle.slab.specs.Slab.{Slab, get}
use Rattle.inc_value.specs.declared.node.Point.{Point}
use Rattle.point_map.specs.declared.buckets.Link.{Link}

module _ {R : Type 0} where
  -- the point of the link at a place
  abbrev pub point_in : Slab (Link R) → ℕ → Option Point
  point_in links place = option_map (λ l. l.point) (get links place)

  -- the place that the link at a place leads to
  abbrev pub next_in : Slab (Link R) → ℕ → Option ℕ
  next_in links place = option_and_then (λ l. l.next) (get links place)
