-- What a contract sees of a table of links.
use Rattle.std.specs.Prelude.{◌≡◌, ◌≢◌, ◌+◌, ◌<◌, ℕ, Bool, ◌&&◌, List, count_by}
use Rattle.inc_value.specs.declared.node.Point.{Point}
use Rattle.point_map.specs.Rows.{same_point}
use Rattle.link_table.specs.declared.link.Link.{Link}

-- a bag of links; one that was made twice stands twice
pub record Links : Type 0 where
  pub all : List Link

-- the link by which p reads q
abbrev pub link : Point → Point → Link
link p q = record { reader = p; kid = q }

-- the link by which p reads q is this one
abbrev pub same_link : Point → Point → Link → Bool
same_link p q l = same_point l.reader p && same_point l.kid q

-- the point is this one
abbrev pub is_point : Point → Point → Bool
is_point p r = same_point r p

-- how often the point stands in the list
abbrev pub occurrences : List Point → Point → ℕ
occurrences points p = count_by (is_point p) points

-- how often p reads q
abbrev pub times : Links → Point → Point → ℕ
times l p q = count_by (same_link p q) l.all

-- p reads q
abbrev pub Reads : Links → Point → Point → Type 0
Reads l p q = 0 < times l p q

-- some point reads q
abbrev pub IsRead : Links → Point → Type 0
IsRead l q = (reader : Point) × Reads l reader q

-- each link is there as often as before
abbrev pub KeepsLinks : Links → Links → Type 0
KeepsLinks old new = (a b : Point) → times new a b ≡ times old a b

-- the second has one link more, by which p reads q
pub record OneLinkMore (fewer more : Links) (p q : Point) : Type 0 where
  pub raised : times more p q ≡ times fewer p q + 1
  pub others : (a b : Point) → link a b ≢ link p q → times more a b ≡ times fewer a b

-- the list has every point that p reads, once for each link
abbrev pub AreKids : Links → Point → List Point → Type 0
AreKids l p list = (k : Point) → occurrences list k ≡ times l p k

-- the list has every reader of q, once for each of its links
abbrev pub AreReaders : Links → Point → List Point → Type 0
AreReaders l q list = (r : Point) → occurrences list r ≡ times l r q
