-- Which points are needed.
use Rattle.std.specs.Prelude.{◌≡◌, ◌≢◌, ◌+◌, ◌<◌, ℕ, List, unwrap_or}
use Rattle.inc_value.specs.declared.node.Point.{Point}
use Rattle.inc_value.specs.Choice.{Reaches}
use Rattle.point_map.specs.Rows.{Place, row_in}
use Rattle.link_table.specs.Links.{Links, Reads}

-- points, each with how often it is a root
pub record Roots : Type 0 where
  pub counts : List (Place ℕ)

-- how often p is a root
abbrev pub root_times : Roots → Point → ℕ
root_times roots p = unwrap_or (row_in roots.counts p) 0

-- each root is there as often as before
abbrev pub KeepsRoots : Roots → Roots → Type 0
KeepsRoots old new = (a : Point) → root_times new a ≡ root_times old a

-- the second has the point as a root once more
pub record OneRootMore (fewer more : Roots) (p : Point) : Type 0 where
  pub raised : root_times more p ≡ root_times fewer p + 1
  pub others : (a : Point) → a ≢ p → root_times more a ≡ root_times fewer a

-- roots and attached links, each as often as it was put on
pub record Web : Type 0 where
  pub roots : Roots
  pub links : Links

-- p is a root
abbrev pub IsRoot : Web → Point → Type 0
IsRoot w p = 0 < root_times w.roots p

-- p leads to q over attached links
abbrev pub Leads : Web → Point → Point → Type 0
Leads w p q = Reaches (Reads w.links) p q

-- p is reached from a root
pub record IsNeeded (w : Web) (p : Point) : Type 0 where
  pub root : Point
  pub is_root : IsRoot w root
  pub leads : Leads w root p
