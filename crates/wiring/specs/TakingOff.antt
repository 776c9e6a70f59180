-- What calls that take off links that weren't confirmed leave.
use Rattle.std.specs.Prelude.{◌≡◌, ◌⊎◌}
use Rattle.inc_value.specs.declared.node.NodeId.{NodeId}
use Rattle.inc_value.specs.declared.node.Point.{Point}
use Rattle.point_map.specs.Rows.{at}
use Rattle.node_arena.specs.Arena.{Arena}
use Rattle.wiring.specs.Kept.{IsKept}
use Rattle.wiring.specs.Wiring.{KeepsPlaces, OnlyLoses, IsSpared, IsBehindGate, IsPutBack, TakesOne, TakesOff}
use Rattle.wiring.specs.declared.work.Work.{Work}

-- links came off, and all else stays
pub record LosesLinks (arena : Arena) (old new : Work) : Type 0 where
  pub kept : IsKept arena new
  pub places : KeepsPlaces old new
  pub loses : OnlyLoses old.graph new.graph
  pub rest : new ≡ record old { graph = new.graph; rows = new.rows }

-- rows of what is spared are as they were, or it was put back
abbrev pub RowsSpared : Arena → Work → Work → Type 0
RowsSpared arena old new = (p : Point) → IsSpared arena old p → (at new.rows p ≡ at old.rows p) ⊎ IsPutBack arena old new p

-- links of some points came off, where they had to be
pub record TakesSome (arena : Arena) (old new : Work) : Type 0 where
  pub stays : LosesLinks arena old new
  pub taken : TakesOne arena old new
  pub rows : RowsSpared arena old new

-- a node's points have their gate's link alone, where that didn't run
pub record PutsNodeBack (arena : Arena) (old new : Work) (node : NodeId) : Type 0 where
  pub stays : LosesLinks arena old new
  pub taken : TakesOne arena old new
  pub behind : (p : Point) → p.node ≡ node → IsBehindGate arena new p
  pub fewer : (p : Point) → IsBehindGate arena old p → IsBehindGate arena new p
  pub rows : (p : Point) → (at new.rows p ≡ at old.rows p) ⊎ ((p.node ≡ node) × IsPutBack arena old new p)

-- some of what wasn't confirmed came off, or all, and fewer links may be tried again
pub record TakesMore (arena : Arena) (old new : Work) : Type 0 where
  pub taken : TakesOff arena old new
  pub kept : IsKept arena new
  pub places : KeepsPlaces old new
  pub rest : new ≡ record old { graph = new.graph; rows = new.rows; retries = new.retries }
  pub rows : RowsSpared arena old new
