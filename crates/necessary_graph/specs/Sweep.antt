-- What is left once points are no longer needed.
use Rattle.std.specs.Prelude.{◌≡◌, ◌≢◌, ◌⊎◌, ◌+◌, ◌<◌, ◌≤◌, ◌↔◌, ℕ, Bool, true, false, None, Some}
use Rattle.inc_value.specs.declared.node.Point.{Point}
use Rattle.inc_value.specs.Choice.{Reaches}
use Rattle.point_map.specs.Rows.{Rows, at, Changes}
use Rattle.link_table.specs.Links.{Links, times, Reads, IsRead, OneLinkMore}
use Rattle.necessity.specs.Need.{Roots, root_times, KeepsRoots, OneRootMore}
use Rattle.necessary_graph.specs.Part.{NecessaryPart, Needed}

-- what is reached from a root keeps all, and what isn't loses its links and leaves the heap
pub record Sweep (before after : NecessaryPart) : Type 0 where
  pub roots : KeepsRoots before.roots after.roots
  pub reached : (p : Point) → Needed after p ↔ Needed before p
  pub kept : (p q : Point) → Needed before p → times after.links p q ≡ times before.links p q
  pub gone : (p q : Point) → Reads after.links p q → Needed before p
  pub fewer : (p q : Point) → times after.links p q ≤ times before.links p q
  pub heap_kept : (p : Point) → Needed before p → at after.heap p ≡ at before.heap p
  pub heap : (p : Point) (h : ℕ) → at after.heap p ≡ Some h → (at before.heap p ≡ Some h) × Needed before p

-- a leaf that was needed isn't any more, and is gone
pub record IsDropped (leaf : Point → Bool) (old new : NecessaryPart) (p : Point) : Type 0 where
  pub is_leaf : leaf p ≡ true
  pub was : Needed old p
  pub unneeded : Needed new p → ⊥
  pub gone : at new.heights p ≡ None

-- each leaf that was needed is needed still or gone, and all but such a leaf keep their heights
pub record DropsLeaves (leaf : Point → Bool) (old new : NecessaryPart) : Type 0 where
  pub heights : (p : Point) → (at new.heights p ≡ at old.heights p) ⊎ IsDropped leaf old new p
  pub leaves : (p : Point) → leaf p ≡ true → Needed old p → Needed new p ⊎ (at new.heights p ≡ None)

-- a link comes off once, and then what is no longer reached loses all, and is dropped where it is a leaf
pub record IsUnlinked (leaf : Point → Bool) (old new : NecessaryPart) (p q : Point) : Type 0 where
  pub links : Links
  pub off : OneLinkMore links old.links p q
  pub sweep : Sweep (record old { links = links }) new
  pub drops : DropsLeaves leaf old new

-- of the links of p those to one point are left, and all others are as they were
pub record IsReducedTo (old new : Links) (p kept : Point) : Type 0 where
  pub gone : (b : Point) → b ≢ kept → times new p b ≡ 0
  pub here : times new p kept ≡ times old p kept
  pub others : (a b : Point) → a ≢ p → times new a b ≡ times old a b

-- the links of p but those to one point come off, and then what is no longer reached loses all, and is dropped where it is a leaf
pub record IsReduced (leaf : Point → Bool) (old new : NecessaryPart) (p kept : Point) : Type 0 where
  pub links : Links
  pub off : IsReducedTo old.links links p kept
  pub sweep : Sweep (record old { links = links }) new
  pub drops : DropsLeaves leaf old new

-- a root comes off once, and then what is no longer reached loses all, and is dropped where it is a leaf
pub record IsUnrooted (leaf : Point → Bool) (old new : NecessaryPart) (p : Point) : Type 0 where
  pub roots : Roots
  pub off : OneRootMore roots old.roots p
  pub sweep : Sweep (record old { roots = roots }) new
  pub drops : DropsLeaves leaf old new

-- the point is a root, or some point reads it
abbrev pub IsHeld : Links → Roots → Point → Type 0
IsHeld links roots p = (0 < root_times roots p) ⊎ IsRead links p

-- the point has no links of its own, and isn't in the heap; a leaf is gone, unless it is read
pub record IsBare (leaf : Point → Bool) (g : NecessaryPart) (p : Point) : Type 0 where
  pub reads_none : (q : Point) → times g.links p q ≡ 0
  pub out : at g.heap p ≡ None
  pub left : leaf p ≡ true → IsRead g.links p ⊎ (at g.heights p ≡ None)

-- a root or read still, or without links and out of the heap
abbrev pub IsDealtWith : (Point → Bool) → NecessaryPart → Point → Type 0
IsDealtWith leaf g p = IsHeld g.links g.roots p ⊎ IsBare leaf g p

-- no roots, no links but such as were there, and all that a needed point reads
pub record IsThinned (old new : NecessaryPart) : Type 0 where
  pub roots : KeepsRoots old.roots new.roots
  pub fewer : (p q : Point) → times new.links p q ≤ times old.links p q
  pub kept : (p q : Point) → Needed old p → times new.links p q ≡ times old.links p q

-- an unneeded leaf to which the first leads is gone
pub record IsShed (leaf : Point → Bool) (first : Point) (old new : NecessaryPart) (p : Point) : Type 0 where
  pub is_leaf : leaf p ≡ true
  pub unneeded : Needed old p → ⊥
  pub leads : Reaches (Reads old.links) first p
  pub gone : at new.heights p ≡ None

-- the first loses what it has, and so does what it read, unless it is a root or is read still
pub record IsSwept (leaf : Point → Bool) (first : Point) (old new : NecessaryPart) : Type 0 where
  pub thinned : IsThinned old new
  pub heights : (p : Point) → (at new.heights p ≡ at old.heights p) ⊎ IsShed leaf first old new p
  pub followed : (p q : Point) → times new.links p q < times old.links p q → IsHeld new.links new.roots q ⊎ IsBare leaf new q
  pub heap_kept : (p : Point) → Needed old p → at new.heap p ≡ at old.heap p
  pub heap_fewer : (p : Point) (h : ℕ) → at new.heap p ≡ Some h → at old.heap p ≡ Some h

-- the point was a leaf that nobody reads, and is dropped; so many points are left
pub record IsGone (leaf : Point → Bool) (links : Links) (p : Point) (old new : Rows ℕ) (points left : ℕ) : Type 0 where
  pub is_leaf : leaf p ≡ true
  pub unread : (reader : Point) → times links reader p ≡ 0
  pub dropped : Changes old new p None
  pub fewer : points ≡ left + 1

-- the point is no leaf, or read, and all is as it was
pub record IsLeft (leaf : Point → Bool) (links : Links) (p : Point) (old new : Rows ℕ) (points left : ℕ) : Type 0 where
  pub why : (leaf p ≡ false) ⊎ IsRead links p
  pub heights : new ≡ old
  pub same : left ≡ points
