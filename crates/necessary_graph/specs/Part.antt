-- What a contract sees of the necessary part of a graph.
use Rattle.std.specs.Prelude.{◌≡◌, ◌⊎◌, ◌↔◌, ℕ, Some}
use Rattle.inc_value.specs.declared.node.Point.{Point}
use Rattle.point_map.specs.Rows.{Rows, at, Holds}
use Rattle.link_table.specs.Links.{Links, Reads}
use Rattle.necessity.specs.Need.{Roots, Web, IsNeeded}
use Rattle.height_order.specs.Levels.{level, Rises, AllLow, Ends}
use Rattle.point_rows.specs.Standing.{Standing}

-- the points that are there with their heights, the roots, the links, and what is to be recomputed with its heights
pub record NecessaryPart : Type 0 where
  pub heights : Rows ℕ
  pub roots : Roots
  pub links : Links
  pub heap : Rows ℕ

-- what the rows of the points have
abbrev pub part_of : Standing → NecessaryPart
part_of rows = record { heights = rows.heights; roots = rows.roots; links = rows.links; heap = rows.heap }

-- the roots and links, which tell who is needed
abbrev pub web : NecessaryPart → Web
web g = record { roots = g.roots; links = g.links }

-- p is reached from a root
abbrev pub Needed : NecessaryPart → Point → Type 0
Needed g p = IsNeeded (web g) p

-- one point more is needed, if it wasn't, and none else
abbrev pub AlsoNeeded : NecessaryPart → NecessaryPart → Point → Type 0
AlsoNeeded old new p = (a : Point) → Needed new a ↔ (Needed old a ⊎ (a ≡ p))

-- what stands between any two calls
pub record IsInStep (g : NecessaryPart) : Type 0 where
  pub ends : Ends g.heights g.links
  pub rises : Rises (Reads g.links) (level g.heights)
  pub low : AllLow (level g.heights)
  pub readers : (p q : Point) → Reads g.links p q → Needed g p
  pub there : (p : Point) → Needed g p → Holds g.heights p
  pub heap : (p : Point) (h : ℕ) → at g.heap p ≡ Some h → (at g.heights p ≡ Some h) × Needed g p
