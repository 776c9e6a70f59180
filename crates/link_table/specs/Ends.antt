-- The ends of links at each point, and how two sides know each other.
use Rattle.std.specs.Prelude.{◌≡◌, ◌≢◌, ℕ, List, [], ◌∷◌, ◌++◌, ◌+◌, ◌-◌, length, map, flat_map, Option, Some, None, option_map, slice_get, slice_set, swap_remove}
use Rattle.inc_value.specs.declared.node.Point.{Point}
use Rattle.smallvec.specs.SmallVec.{SmallVec}
use Rattle.point_map.specs.Rows.{Place, at, StandsOnce}
use Rattle.link_table.specs.declared.link.Link.{Link}
use Rattle.link_table.specs.declared.ends.End.{End}
use Rattle.link_table.specs.declared.ends.EndLists.{EndLists}
use Rattle.link_table.specs.Links.{link, occurrences}

-- the end of a link at whose other end the point stands, with its place there
abbrev pub end : Point → ℕ → End
end p i = record { point = p; back = i }

-- the points at the other ends
abbrev pub points : List End → List Point
points ends = map (λ e. e.point) ends

-- the end at the place is of a link with q
abbrev pub LeadsTo : List End → Point → ℕ → Type 0
LeadsTo ends q i = option_map (λ e. e.point) (slice_get ends i) ≡ Some q

-- how many of the ends are of links with q
abbrev pub ends_with : List End → Point → ℕ
ends_with ends q = occurrences (points ends) q

-- the ends of a row, none where there is no row
abbrev pub row_ends : Option (SmallVec End) → List End
row_ends None = []
row_ends (Some row) = row.items

-- the ends at a point
abbrev pub ends_at : EndLists → Point → List End
ends_at l p = row_ends (at l.rows p)

-- the end at a place of a point, if one is there
abbrev pub end_at : EndLists → Point → ℕ → Option End
end_at l p i = slice_get (ends_at l p) i

-- no row is empty
abbrev pub HasNoEmptyRow : EndLists → Type 0
HasNoEmptyRow l = (x : Point) → ends_at l x ≡ [] → at l.rows x ≡ None

-- every point keeps its ends
abbrev pub KeepsEnds : EndLists → EndLists → Type 0
KeepsEnds old new = (x : Point) → ends_at new x ≡ ends_at old x

-- the second has one end more, behind those of p
pub record OneEndMore (fewer more : EndLists) (p : Point) (e : End) : Type 0 where
  pub last : ends_at more p ≡ ends_at fewer p ++ e ∷ []
  pub others : (x : Point) → x ≢ p → ends_at more x ≡ ends_at fewer x

-- p has one end more that is of a link with q, in whatever order
pub record OneEndMoreWith (fewer more : EndLists) (p q : Point) : Type 0 where
  pub raised : ends_with (ends_at more p) q ≡ ends_with (ends_at fewer p) q + 1
  pub others : (a b : Point) → link a b ≢ link p q → ends_with (ends_at more a) b ≡ ends_with (ends_at fewer a) b

-- one end of p is another now
pub record EndIsSet (old new : EndLists) (p : Point) (i : ℕ) (e : End) : Type 0 where
  pub changed : ends_at new p ≡ slice_set (ends_at old p) i e
  pub others : (x : Point) → x ≢ p → ends_at new x ≡ ends_at old x

-- the end at a place of p is off, and the last one stands there, unless it was the last itself
pub record EndIsTaken (old new : EndLists) (p : Point) (i : ℕ) (e : End) : Type 0 where
  pub was : end_at old p i ≡ Some e
  pub changed : ends_at new p ≡ swap_remove (ends_at old p) i e
  pub others : (x : Point) → x ≢ p → ends_at new x ≡ ends_at old x

-- whatever end stood at the place of p, it is off
abbrev pub PlaceIsTaken : EndLists → EndLists → Point → ℕ → Type 0
PlaceIsTaken old new p i = (e : End) → end_at old p i ≡ Some e → EndIsTaken old new p i e

-- whatever end stood at the place of the list, it is off
abbrev pub ItemIsTaken : List End → List End → ℕ → Type 0
ItemIsTaken old new i = (e : End) → slice_get old i ≡ Some e → new ≡ swap_remove old i e

-- the last end of p leads to its end on the other side, unless it is the one at the place
abbrev pub LastIsKnown : EndLists → EndLists → Point → ℕ → Type 0
LastIsKnown side other p i = (e : End) → i ≢ length (ends_at side p) - 1 → end_at side p (length (ends_at side p) - 1) ≡ Some e
    → end_at other e.point e.back ≡ Some (end p (length (ends_at side p) - 1))

-- the other side is told that an end stands at this place of p now, if one does
abbrev pub IsTold : Option End → EndLists → EndLists → Point → ℕ → Type 0
IsTold None old new p i = KeepsEnds old new
IsTold (Some moved) old new p i = EndIsSet old new moved.point moved.back (end p i)

-- every point has as many ends as before, as often with each other point
pub record KeepsPoints (old new : EndLists) : Type 0 where
  pub lengths : (x : Point) → length (ends_at new x) ≡ length (ends_at old x)
  pub counts : (x y : Point) → ends_with (ends_at new x) y ≡ ends_with (ends_at old x) y

-- each link has an end on both sides, and each end tells the place of the other
pub record IsTwoWay (kids readers : EndLists) : Type 0 where
  pub there : (p q : Point) (i b : ℕ) → end_at kids p i ≡ Some (end q b) → end_at readers q b ≡ Some (end p i)
  pub back : (p q : Point) (i b : ℕ) → end_at readers q b ≡ Some (end p i) → end_at kids p i ≡ Some (end q b)
  pub counted : (p q : Point) → ends_with (ends_at readers q) p ≡ ends_with (ends_at kids p) q

-- the two sides know each other, and no row is empty
pub record AreSound (kids readers : EndLists) : Type 0 where
  pub two_way : IsTwoWay kids readers
  pub tight : HasNoEmptyRow kids
  pub tight_readers : HasNoEmptyRow readers

-- no point has its kids in two rows, and the two sides are sound
pub record IsLinked (kids readers : EndLists) : Type 0 where
  pub once : StandsOnce kids.rows.places
  pub sound : AreSound kids readers

-- the links from the point of a row to its kids
abbrev pub links_from : Place (SmallVec End) → List Link
links_from None = []
links_from (Some e) = map (λ k. link e.0 k.point) e.1.items

-- the links from every point to its kids
abbrev pub links_of : EndLists → List Link
links_of kids = flat_map links_from kids.rows.places
