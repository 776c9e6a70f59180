-- Signatures as lists of types.
use Rattle.std.specs.Prelude.{◌-◌, ◌≤◌, ◌++◌, List, length, replicate, All}
use Rattle.inc_value.specs.Ty.{IsBase}
use Rattle.inc_value.specs.declared.ty.Ty.{Ty}
use Rattle.inc_value.specs.declared.ty.Ty.TheVariants.{Int}

-- the types that a function takes, and the one that it gives
pub record Signature : Type 0 where
  pub takes : List Ty
  pub gives : Ty

-- filled up with Int to the length of a stored signature
abbrev pub padded : List Ty → List Ty
padded tys = tys ++ replicate (64 - length tys) Int

-- what a map may have: at most nine types taken, each of them and the given one a base type
abbrev pub IsMapSig : Signature → Type 0
IsMapSig s = (length s.takes ≤ 9) × All IsBase s.takes × IsBase s.gives
