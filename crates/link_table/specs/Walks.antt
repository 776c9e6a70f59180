-- What is left of a walk over links.
use Rattle.std.specs.Prelude.{List}
use Rattle.inc_value.specs.declared.node.Point.{Point}
use Rattle.link_table.specs.declared.walks.Readers.{Readers}
use Rattle.link_table.specs.declared.walks.Kids.{Kids}
use Rattle.link_table.specs.Ends.{points}

-- the readers that are still to come
abbrev pub readers_left : Readers → List Point
readers_left walk = points walk.ends.now

-- the kids that are still to come
abbrev pub kids_left : Kids → List Point
kids_left walk = points walk.ends.now
