-- Heights of points, and how they stand to links.
use Rattle.std.specs.Prelude.{◌≡◌, ◌≢◌, ◌⊎◌, ℕ, ◌+◌, ◌<◌, ◌≤◌, List, ◌++◌, Option, None, Some, is_some, Contains}
use Rattle.inc_value.specs.declared.node.Point.{Point}
use Rattle.point_map.specs.Rows.{Rows, at, Holds}
use Rattle.link_table.specs.Links.{Links, Reads}
use Rattle.height_order.specs.Chains.{Reading, Leads, NoRepeats, NoneLonger, IsLongest}

-- points with their heights, and the links between them
pub record Web : Type 0 where
  pub heights : Rows ℕ
  pub links : Links

-- a height, 0 where there is none
abbrev pub or_zero : Option ℕ → ℕ
or_zero None = 0
or_zero (Some h) = h

-- the height of a point, 0 where it isn't there
abbrev pub level : Rows ℕ → Point → ℕ
level heights p = or_zero (at heights p)

-- each point stands higher than every point that it reads
abbrev pub Rises : Reading → (Point → ℕ) → Type 0
Rises R height = (p q : Point) → R p q → height q < height p

-- no point is above the greatest height
abbrev pub AllLow : (Point → ℕ) → Type 0
AllLow height = (p : Point) → height p ≤ 128

-- the points of each link are there
abbrev pub Ends : Rows ℕ → Links → Type 0
Ends heights links = (p q : Point) → Reads links p q → Holds heights p × Holds heights q

-- what stands between any two calls
pub record AreSoundHeights (heights : Rows ℕ) (links : Links) : Type 0 where
  pub ends : Ends heights links
  pub rises : Rises (Reads links) (level heights)
  pub low : AllLow (level heights)

-- the same points are there
abbrev pub KeepsPoints : Rows ℕ → Rows ℕ → Type 0
KeepsPoints old new = (p : Point) → is_some (at new p) ≡ is_some (at old p)

-- each height is that of its point's longest chain
abbrev pub IsExact : Rows ℕ → Links → Type 0
IsExact heights links = (p : Point) → Holds heights p → IsLongest (Reads links) p (level heights p)

-- p or q leads to x; each point leads to itself
abbrev pub IsBelow : Links → Point → Point → Point → Type 0
IsBelow links p q x = Leads (Reads links) p x ⊎ Leads (Reads links) q x

-- each point that p or q leads to has the height of its longest chain
abbrev pub IsExactBelow : Rows ℕ → Links → Point → Point → Type 0
IsExactBelow heights links p q = (x : Point) → IsBelow links p q x → IsLongest (Reads links) x (level heights x)

-- the list has each point whose height changed, once
pub record IsMoved (old new : Point → ℕ) (list : List Point) : Type 0 where
  pub once : NoRepeats list
  pub changed : (p : Point) → Contains list p → new p ≢ old p
  pub every : (p : Point) → new p ≢ old p → Contains list p

-- each point whose height changed was appended, once
pub record Tells (old new : Point → ℕ) (before after : List Point) : Type 0 where
  pub list : List Point
  pub appended : after ≡ before ++ list
  pub moved : IsMoved old new list

-- a height, or 257 where the point is free
abbrev pub bound_by : {R : Type 0} → ℕ → Option R → ℕ
bound_by h None = h
bound_by h (Some r) = 257

-- the greatest level that a point may have: its height, and 257 where it is free. Without a map all points are free.
abbrev pub bound : {R : Type 0} → Rows ℕ → Option (Rows R) → Point → ℕ
bound heights None p = 257
bound heights (Some free) p = bound_by (level heights p) (at free p)

-- no chain goes over more links than the bound of its first point
abbrev pub AreBounds : Links → (Point → ℕ) → Type 0
AreBounds links bounds = (p : Point) → NoneLonger (Reads links) p (bounds p)

-- p reads a point that has a level, and n is at most one more
pub record IsNext (links : Links) (levels : Rows ℕ) (p : Point) (n : ℕ) : Type 0 where
  pub kid : Point
  pub reads : Reads links p kid
  pub there : Holds levels kid
  pub near : n ≤ level levels kid + 1

-- this is so of each level above 0
abbrev pub HaveNext : Links → Rows ℕ → Type 0
HaveNext links levels = (p : Point) (n : ℕ) → at levels p ≡ Some n → 0 < n → IsNext links levels p n

-- Some points' levels: each is the length of its point's longest chain. What such a point reads has its own, or is bounded below that level.
pub record AreLevels (links : Links) (bounds : Point → ℕ) (levels : Rows ℕ) : Type 0 where
  pub longest : (p : Point) (n : ℕ) → at levels p ≡ Some n → IsLongest (Reads links) p n
  pub next : HaveNext links levels
  pub closed : (p q : Point) (n : ℕ) → at levels p ≡ Some n → Reads links p q → Holds levels q ⊎ (bounds q < n)

-- levels that were there stay, and p leads to each point that was added
pub record AddsBelow (links : Links) (old new : Rows ℕ) (p : Point) : Type 0 where
  pub kept : (x : Point) (n : ℕ) → at old x ≡ Some n → at new x ≡ Some n
  pub below : (x : Point) → Holds new x → Holds old x ⊎ Leads (Reads links) p x

-- the height that a level gives, or this one where there is none
abbrev pub level_or : ℕ → Option ℕ → ℕ
level_or h None = h
level_or h (Some n) = n

-- the height of a point once it is levelled
abbrev pub levelled : Rows ℕ → Rows ℕ → Point → ℕ
levelled heights levels p = level_or (level heights p) (at levels p)
