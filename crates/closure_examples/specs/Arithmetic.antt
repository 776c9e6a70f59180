-- What the maps of the tests take and give. Integers have 64 bits.
use Rattle.std.specs.Prelude.{List, [], ◌∷◌, pos}
use Rattle.std.specs.Int.{w64, int_wrapping_add, int_wrapping_neg}
use Rattle.inc_value.specs.Sig.{Signature}
use Rattle.inc_value.specs.declared.ty.Ty.TheVariants as ty
use Rattle.inc_value.specs.declared.value.Value.{Value}
use Rattle.inc_value.specs.declared.value.Value.TheVariants.{Int}

-- an integer of an integer
abbrev pub int_to_int : Signature
int_to_int = record { takes = ty.Int ∷ []; gives = ty.Int }

-- an integer of two
abbrev pub ints_to_int : Signature
ints_to_int = record { takes = ty.Int ∷ ty.Int ∷ []; gives = ty.Int }

-- the negation of one integer, and 0 of anything else
abbrev pub negation_of : List Value → Value
negation_of (Int a ∷ []) = Int (int_wrapping_neg w64 a)
negation_of _ = Int (pos 0)

-- the sum of two integers, and 0 of anything else
abbrev pub sum_of : List Value → Value
sum_of (Int a ∷ Int b ∷ []) = Int (int_wrapping_add w64 a b)
sum_of _ = Int (pos 0)
