-- What a contract sees of experts.
use Rattle.std.specs.Prelude.{◌≡◌, ◌≢◌, Bool, true, false, List, [], ◌∷◌, ◌++◌, Option, Some, None, IsSome, is_some, if◌then◌else◌}
use Rattle.inc_value.specs.declared.node.NodeId.{NodeId}
use Rattle.inc_value.specs.declared.node.Point.{Point}
use Rattle.inc_value.specs.declared.node.Part.TheVariants.{Main}
use Rattle.point_map.specs.Rows.{Place, row_in, same_point}

-- an expert: the nodes that it reads, in order, those first that were taken up, and behind them the fresh ones; whether they all are
-- tidy, and so can be read as one list; and whether the expert is stale
pub record Expert : Type 0 where
  pub taken : List NodeId
  pub fresh : List NodeId
  pub tidy : Bool
  pub stale : Bool

-- an expert that was created, or nothing
abbrev pub ExpertPlace : Type 0
ExpertPlace = Place Expert

-- the point at which an expert is kept
abbrev pub point_of : NodeId → Point
point_of id = record { node = id; part = Main }

-- what is seen of an expert, if it was created
abbrev pub expert_at : List ExpertPlace → NodeId → Option Expert
expert_at experts id = row_in experts (point_of id)

-- the expert was created
abbrev pub IsCreated : List ExpertPlace → NodeId → Type 0
IsCreated experts id = IsSome (expert_at experts id)

-- an expert without links, which isn't stale
abbrev pub unlinked : Expert
unlinked = record { taken = []; fresh = []; tidy = true; stale = false }

-- an expert, if it was created, and else one without links
abbrev pub expert_in : Option Expert → Expert
expert_in None = unlinked
expert_in (Some e) = e

abbrev pub expert_of : List ExpertPlace → NodeId → Expert
expert_of experts id = expert_in (expert_at experts id)

-- all nodes that an expert reads, in order
abbrev pub kids_of_expert : Expert → List NodeId
kids_of_expert e = e.taken ++ e.fresh

abbrev pub kids_at : List ExpertPlace → NodeId → List NodeId
kids_at experts id = kids_of_expert (expert_of experts id)

-- those that were taken up
abbrev pub taken_at : List ExpertPlace → NodeId → List NodeId
taken_at experts id = (expert_of experts id).taken

-- those that were linked since
abbrev pub fresh_at : List ExpertPlace → NodeId → List NodeId
fresh_at experts id = (expert_of experts id).fresh

-- whether they can be read as one list
abbrev pub is_tidy_at : List ExpertPlace → NodeId → Bool
is_tidy_at experts id = (expert_of experts id).tidy

-- whether an expert is stale
abbrev pub is_stale_at : List ExpertPlace → NodeId → Bool
is_stale_at experts id = (expert_of experts id).stale

-- ---- what a call makes of an expert

-- a list without the first place of a node
abbrev pub without_first : NodeId → List NodeId → List NodeId
without_first n [] = []
without_first n (kid ∷ kids) = if same_point (point_of kid) (point_of n) then kids else kid ∷ without_first n kids

abbrev pub with_link : NodeId → Expert → Expert
with_link kid e = record { taken = e.taken; fresh = e.fresh ++ kid ∷ []; tidy = false; stale = e.stale }

-- without the first link of a node, which was taken up or is fresh
abbrev pub without_link : NodeId → Bool → Expert → Expert
without_link kid true e = record { taken = without_first kid e.taken; fresh = e.fresh; tidy = false; stale = e.stale }
without_link kid false e = record { taken = e.taken; fresh = without_first kid e.fresh; tidy = false; stale = e.stale }

abbrev pub tidied : Expert → Expert
tidied e = record { taken = e.taken; fresh = e.fresh; tidy = true; stale = e.stale }

abbrev pub taken_up : Expert → Expert
taken_up e = record { taken = kids_of_expert e; fresh = []; tidy = true; stale = e.stale }

abbrev pub marked : Bool → Expert → Expert
marked stale e = record { taken = e.taken; fresh = e.fresh; tidy = e.tidy; stale = stale }

-- this is seen of one expert, and of each other what was seen
pub record ExpertChanges (old new : List ExpertPlace) (id : NodeId) (e : Option Expert) : Type 0 where
  pub changed : expert_at new id ≡ e
  pub others : (other : NodeId) → other ≢ id → expert_at new other ≡ expert_at old other

-- of each expert is seen what was seen
abbrev pub KeepsExperts : List ExpertPlace → List ExpertPlace → Type 0
KeepsExperts old new = (id : NodeId) → expert_at new id ≡ expert_at old id

-- ---- what a round makes of experts

-- of each expert the same links are seen
pub record SameLinks (old new : List ExpertPlace) : Type 0 where
  pub there : (id : NodeId) → is_some (expert_at new id) ≡ is_some (expert_at old id)
  pub taken : (id : NodeId) → taken_at new id ≡ taken_at old id
  pub fresh : (id : NodeId) → fresh_at new id ≡ fresh_at old id

-- and those are stale that were
pub record SameExperts (old new : List ExpertPlace) : Type 0 where
  pub links : SameLinks old new
  pub stale : (id : NodeId) → is_stale_at new id ≡ is_stale_at old id

-- one isn't stale any more, and each other is where it was
pub record Unmarks (old new : List ExpertPlace) (id : NodeId) : Type 0 where
  pub links : SameLinks old new
  pub off : is_stale_at new id ≡ false
  pub others : (other : NodeId) → other ≢ id → is_stale_at new other ≡ is_stale_at old other
