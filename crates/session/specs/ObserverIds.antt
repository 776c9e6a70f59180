-- What a contract sees of the observers of names in use, and where each of them stands.
use Rattle.std.specs.Prelude.{◌≡◌, ℕ, List, Some, slice_get}
use Rattle.inc_value.specs.declared.node.ObsId.{ObsId}
use Rattle.inc_value.specs.declared.node.Part.TheVariants.{Main}
use Rattle.inc_value.specs.declared.node.Point.{Point}
use Rattle.point_map.specs.Rows.{Rows, at}

-- the observers in order, and how many more can be added without memory
pub record IdsView : Type 0 where
  pub items : List ObsId
  pub spare : ℕ

-- it is none of them
abbrev pub IsAbsent : List ObsId → ObsId → Type 0
IsAbsent ids o = (i : ℕ) → slice_get ids i ≡ Some o → ⊥

-- the point at which the position of an observer is kept
abbrev pub key_of : ObsId → Point
key_of o = record { node = record { slot = o.0; gen_ = o.0 }; part = Main }

-- the position of each is kept, and of no other
pub record ArePlaced (ids : List ObsId) (positions : Rows ℕ) : Type 0 where
  pub placed : (i : ℕ) (o : ObsId) → slice_get ids i ≡ Some o → at positions (key_of o) ≡ Some i
  pub only : (i : ℕ) (o : ObsId) → at positions (key_of o) ≡ Some i → slice_get ids i ≡ Some o
