-- What maps of integers take and give. Integers have 64 bits.
use Rattle.std.specs.Prelude.{ℤ, List, [], ◌∷◌, pos, FitsSigned}
use Rattle.std.specs.Int.{w64}
use Rattle.inc_value.specs.Sig.{Signature}
use Rattle.inc_value.specs.declared.ty.Ty.TheVariants as ty
use Rattle.inc_value.specs.declared.value.Value.{Value}
use Rattle.inc_value.specs.declared.value.Value.TheVariants.{Int}

-- an integer of an integer
abbrev pub int_to_int : Signature
int_to_int = record { takes = ty.Int ∷ []; gives = ty.Int }

-- an integer of two
abbrev pub ints_to_int : Signature
ints_to_int = record { takes = ty.Int ∷ ty.Int ∷ []; gives = ty.Int }

-- what a function gives of one integer, and 0 of anything else
abbrev pub mapped : (ℤ → ℤ) → List Value → Value
mapped f (Int a ∷ []) = Int (f a)
mapped f _ = Int (pos 0)

-- what one gives of two integers, and 0 of anything else
abbrev pub mapped2 : (ℤ → ℤ → ℤ) → List Value → Value
mapped2 f (Int a ∷ Int b ∷ []) = Int (f a b)
mapped2 f _ = Int (pos 0)

-- of integers of 64 bits it gives one
abbrev pub StaysInRange : (ℤ → ℤ) → Type 0
StaysInRange f = (a : ℤ) → FitsSigned w64 a → FitsSigned w64 (f a)

abbrev pub StaysInRange2 : (ℤ → ℤ → ℤ) → Type 0
StaysInRange2 f = (a b : ℤ) → FitsSigned w64 a → FitsSigned w64 b → FitsSigned w64 (f a b)
