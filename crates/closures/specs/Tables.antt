-- Functions by kind and number, as tables of what they mean.
use Rattle.std.specs.Prelude.{◌≡◌, ℕ, pos, Bool, false, List, Option, Some, None, slice_get}
use Rattle.inc_value.specs.Sig.{Signature, IsMapSig}
use Rattle.inc_value.specs.declared.function.FnKind.{FnKind}
use Rattle.inc_value.specs.declared.function.FnKind.TheVariants as kind
use Rattle.inc_value.specs.declared.function.FnRef.{FnRef}
use Rattle.inc_value.specs.declared.value.Value.{Value}
use Rattle.inc_value.specs.declared.value.Value.TheVariants.{Int}
use Rattle.node_arena.specs.Meanings.{IsLawfulMap}
use Rattle.node_arena.specs.RightSide.{RightSide, no_side, IsLawful, AreUsable, NewFunction}
use Rattle.closures.specs.Signature.{same_signature}

-- a map: its types, and what it gives
pub record MapMeaning : Type 0 where
  pub sig : Signature
  pub value : List Value → Value

-- a function of right sides: its types, and what it makes
pub record SideMeaning : Type 0 where
  pub sig : Signature
  pub side : RightSide

-- a map of these types and values
abbrev pub map_of : Signature → (List Value → Value) → MapMeaning
map_of sig value = record { sig = sig; value = value }

-- a function of right sides of these types
abbrev pub side_of : Signature → RightSide → SideMeaning
side_of sig side = record { sig = sig; side = side }

-- by its kind, one or the other
abbrev pub by_kind : {A : Type 0} → FnKind → A → A → A
by_kind kind.Map a b = a
by_kind kind.Rhs a b = b

-- there is a map, and it has the types
abbrev pub has_map : Option MapMeaning → Signature → Bool
has_map None s = false
has_map (Some m) s = same_signature m.sig s

-- there is a function of right sides, and it has the types
abbrev pub has_side : Option SideMeaning → Signature → Bool
has_side None s = false
has_side (Some m) s = same_signature m.sig s

-- a function that stands at its number in the table of its kind, with its types
abbrev pub is_known : List MapMeaning → List SideMeaning → FnRef → Bool
is_known maps sides f =
    by_kind f.id.kind (has_map (slice_get maps f.id.number) f.sig) (has_side (slice_get sides f.id.number) f.sig)

-- some value
abbrev pub any_value : Value
any_value = Int (pos 0)

-- what a map gives; where there is none, some value
abbrev pub value_or : Option MapMeaning → List Value → Value
value_or None args = any_value
value_or (Some m) args = m.value args

-- what a function of right sides makes; where there is none, nothing
abbrev pub side_or : Option SideMeaning → RightSide
side_or None = no_side
side_or (Some m) = m.side

-- what the map of the number gives
abbrev pub value_in : List MapMeaning → FnRef → List Value → Value
value_in maps f args = by_kind f.id.kind (value_or (slice_get maps f.id.number) args) any_value

-- what the function of the number makes
abbrev pub side_in : List SideMeaning → FnRef → RightSide
side_in sides f = by_kind f.id.kind no_side (side_or (slice_get sides f.id.number))

-- each map is one and keeps its promise, and so does each function of right sides; what it calls is known
pub record AreSound (maps : List MapMeaning) (sides : List SideMeaning) : Type 0 where
  pub is_map : (i : ℕ) (m : MapMeaning) → slice_get maps i ≡ Some m → IsMapSig m.sig
  pub lawful_map : (i : ℕ) (m : MapMeaning) → slice_get maps i ≡ Some m → IsLawfulMap m.sig m.value
  pub lawful_side : (i : ℕ) (m : SideMeaning) → slice_get sides i ≡ Some m → IsLawful m.sig m.side
  pub usable : (i : ℕ) (m : SideMeaning) → slice_get sides i ≡ Some m
      → AreUsable (is_known maps sides) (side_in sides) m.side

-- a map that is to be kept
abbrev pub map_brought : MapMeaning → NewFunction
map_brought m = record { kind = kind.Map; sig = m.sig; value = m.value; side = no_side }

-- a function of right sides that is to be kept
abbrev pub side_brought : SideMeaning → NewFunction
side_brought m = record { kind = kind.Rhs; sig = m.sig; value = λ args. any_value; side = m.side }
