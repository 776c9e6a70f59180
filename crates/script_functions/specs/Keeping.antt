-- Functions of right sides by number, as a table of what they make, beside maps that are known.
use Rattle.std.specs.Prelude.{◌≡◌, ◌≤◌, ◌++◌, ℕ, pos, Bool, false, ◌&&◌, List, length, Option, Some, None, map, slice_get}
use Rattle.inc_value.specs.Sig.{Signature}
use Rattle.inc_value.specs.Ty.{same_ty, same_types}
use Rattle.inc_value.specs.declared.function.FnKind.{FnKind}
use Rattle.inc_value.specs.declared.function.FnKind.TheVariants as kind
use Rattle.inc_value.specs.declared.function.FnRef.{FnRef}
use Rattle.inc_value.specs.declared.value.Value.TheVariants.{Int}
use Rattle.node_arena.specs.RightSide.{RightSide, no_side, IsLawful, AreUsable, NewFunction}
use Rattle.script_functions.specs.Bodies.{Body, side_of}

-- a function of right sides: its types, and what it makes
pub record Maker : Type 0 where
  pub sig : Signature
  pub side : RightSide

-- a body, as one
abbrev pub maker_of : Body → Maker
maker_of b = record { sig = b.draft.sig; side = side_of b }

-- bodies in order
abbrev pub makers : List Body → List Maker
makers bodies = map maker_of bodies

-- the same types taken, one for one, and the same one given
abbrev pub same_signature : Signature → Signature → Bool
same_signature s t = same_types s.takes t.takes && same_ty s.gives t.gives

-- by its kind, one or the other
abbrev pub by_kind : {A : Type 0} → FnKind → A → A → A
by_kind kind.Map a b = a
by_kind kind.Rhs a b = b

-- there is one, and it has the types
abbrev pub has_types : Option Maker → Signature → Bool
has_types None s = false
has_types (Some m) s = same_signature m.sig s

-- a map is known by itself, and a function of right sides where it stands at its number, with its types
abbrev pub is_known : (FnRef → Bool) → List Maker → FnRef → Bool
is_known maps sides f = by_kind f.id.kind (maps f) (has_types (slice_get sides f.id.number) f.sig)

-- what it makes; where there is none, nothing
abbrev pub side_made : Option Maker → RightSide
side_made None = no_side
side_made (Some m) = m.side

-- what the function of the number makes; a map makes nothing
abbrev pub side_in : List Maker → FnRef → RightSide
side_in sides f = by_kind f.id.kind no_side (side_made (slice_get sides f.id.number))

-- each keeps its promise, and what it calls is known
pub record AreSound (maps : FnRef → Bool) (sides : List Maker) : Type 0 where
  pub lawful : (i : ℕ) (m : Maker) → slice_get sides i ≡ Some m → IsLawful m.sig m.side
  pub usable : (i : ℕ) (m : Maker) → slice_get sides i ≡ Some m → AreUsable (is_known maps sides) (side_in sides) m.side

-- one that is to be kept
abbrev pub brought : Maker → NewFunction
brought m = record { kind = kind.Rhs; sig = m.sig; value = λ args. Int (pos 0); side = m.side }

-- bodies were kept beside the others, no more than so many
pub record KeepsBodies (old new : List Body) (most : ℕ) : Type 0 where
  pub more : List Body
  pub behind : new ≡ old ++ more
  pub few : length more ≤ most
