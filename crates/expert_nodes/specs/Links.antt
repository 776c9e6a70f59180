-- How the links of one expert are kept.
use Rattle.std.specs.Prelude.{◌≡◌, ◌⊎◌, ◌<◌, ◌≤◌, ◌+◌, ℕ, Bool, true, false, List, [], ◌∷◌, ◌++◌, length, map, Option, Some, None, if◌then◌else◌}
use Rattle.inc_value.specs.Choice.{Among, Every}
use Rattle.inc_value.specs.declared.node.NodeId.{NodeId}
use Rattle.inc_value.specs.declared.node.Point.{Point}
use Rattle.inc_value.specs.declared.node.Part.TheVariants.{Main}
use Rattle.index_lists.specs.Lists.{Lists, NoRepeats, list_at, places}
use Rattle.point_map.specs.Rows.{Rows, at, same_point}
use Rattle.expert_nodes.specs.Experts.{point_of, without_first}
use Rattle.expert_nodes.specs.declared.links.Link.{Link}

-- the places of one node's links, and how many more have room
pub record Queue : Type 0 where
  pub items : List ℕ
  pub spare : ℕ

-- ---- links as places of nodes

-- the linked nodes, in order
abbrev pub kids_of : List (ℕ × NodeId) → List NodeId
kids_of es = map (λ e. e.1) es

-- the places of a node's links, in order
abbrev pub places_of : NodeId → List (ℕ × NodeId) → List ℕ
places_of n [] = []
places_of n (e ∷ es) = if same_point (point_of e.1) (point_of n) then e.0 ∷ places_of n es else places_of n es

-- links without the word on whether they are fresh
abbrev pub bare : List (ℕ × Link) → List (ℕ × NodeId)
bare es = map (λ e. (e.0, e.1.node)) es

-- the first list has the links that were taken up, the second one the fresh ones
abbrev pub taken_of : Lists Link → List (ℕ × NodeId)
taken_of links = bare (list_at links 0)

abbrev pub fresh_of : Lists Link → List (ℕ × NodeId)
fresh_of links = bare (list_at links 1)

abbrev pub all_of : Lists Link → List (ℕ × NodeId)
all_of links = taken_of links ++ fresh_of links

-- there are two lists, or none
abbrev pub IsPair : Lists Link → Type 0
IsPair links = (length links.lists ≡ 0) ⊎ (length links.lists ≡ 2)

-- each of the links is fresh, or none is
abbrev pub AreFresh : Bool → List (ℕ × Link) → Type 0
AreFresh fresh es = Every (λ (e : ℕ × Link). e.1.fresh ≡ fresh) es

-- the links stand in two lists, if these are made, and each knows in which one
pub record AreMarked (links : Lists Link) : Type 0 where
  pub two : IsPair links
  pub taken : AreFresh false (list_at links 0)
  pub fresh : AreFresh true (list_at links 1)

-- ---- an index of links

-- the point at which the index has a node: slot and generation have changed places
abbrev pub key_of : NodeId → Point
key_of n = record { node = record { slot = n.gen_; gen_ = n.slot }; part = Main }

abbrev pub items_in : Option Queue → List ℕ
items_in None = []
items_in (Some q) = q.items

-- the places that the index has of a node
abbrev pub queue_at : Rows Queue → NodeId → List ℕ
queue_at index n = items_in (at index (key_of n))

-- the index has room for one more place of a node
pub record HasRoom (index : Rows Queue) (n : NodeId) : Type 0 where
  pub queue : Queue
  pub there : at index (key_of n) ≡ Some queue
  pub room : 0 < queue.spare

-- the index has a row without places at a point
pub record IsEmptyAt (index : Rows Queue) (key : Point) : Type 0 where
  pub queue : Queue
  pub there : at index key ≡ Some queue
  pub empty : queue.items ≡ []

-- no two links stand at one place, and the index has the places of each node's links
pub record IsIndexed (links : Lists Link) (index : Rows Queue) : Type 0 where
  pub marked : AreMarked links
  pub once : NoRepeats (places (all_of links))
  pub queues : (n : NodeId) → queue_at index n ≡ places_of n (all_of links)

-- what is kept of an expert's links: with the index, how many are fresh, room to lay the nodes out, and these laid out where they are tidy
pub record AreKept (links : Lists Link) (index : Rows Queue) (fresh capacity : ℕ) (tidy : Bool) (kids : List NodeId) : Type 0 where
  pub indexed : IsIndexed links index
  pub count : fresh ≡ length (fresh_of links)
  pub room : length (all_of links) ≤ capacity
  pub laid : tidy ≡ true → kids ≡ kids_of (taken_of links) ++ kids_of (fresh_of links)

-- ---- what a call makes of links

-- the first link of a node is off, which had been taken up
pub record IsTakenOff (old new : Lists Link) (n : NodeId) : Type 0 where
  pub there : Among n (kids_of (taken_of old))
  pub taken : kids_of (taken_of new) ≡ without_first n (kids_of (taken_of old))
  pub fresh : fresh_of new ≡ fresh_of old
  pub fewer : length (taken_of new) ≤ length (taken_of old)

-- the first link of a node is off, which was fresh
pub record IsFreshOff (old new : Lists Link) (n : NodeId) : Type 0 where
  pub untaken : Among n (kids_of (taken_of old)) → ⊥
  pub there : Among n (kids_of (fresh_of old))
  pub taken : taken_of new ≡ taken_of old
  pub fresh : kids_of (fresh_of new) ≡ without_first n (kids_of (fresh_of old))
  pub fewer : length (fresh_of new) + 1 ≡ length (fresh_of old)

abbrev pub IsOff : Lists Link → Lists Link → NodeId → Bool → Type 0
IsOff old new n true = IsTakenOff old new n
IsOff old new n false = IsFreshOff old new n
