-- What is left of a walk over a list.
use Rattle.std.specs.Prelude.{List, map}
use Rattle.index_lists.specs.declared.walk.Walk.{Walk}
use Rattle.index_lists.specs.Links.{rows_from}
use Rattle.index_lists.specs.Lists.{links_at}

module _ {R : Type 0} where
  -- the rows that are still to come
  abbrev pub rows_left : Walk R → List R
  rows_left walk = map (λ e. e.1) (rows_from (links_at walk.links.now.slots) walk.most walk.at)
