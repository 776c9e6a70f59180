-- The map that is called in a box.
use Rattle.std.specs.Prelude.{List, [], ◌∷◌, pos}
use Rattle.std.specs.Int.{w64, int_wrapping_neg}
use Rattle.inc_value.specs.Sig.{Signature}
use Rattle.inc_value.specs.declared.ty.Ty.TheVariants as ty
use Rattle.inc_value.specs.declared.value.Value.{Value}
use Rattle.inc_value.specs.declared.value.Value.TheVariants.{Int}

-- an integer of an integer
abbrev pub int_to_int : Signature
int_to_int = record { takes = ty.Int ∷ []; gives = ty.Int }

-- the negation of one integer, and 0 of anything else
abbrev pub negation_of : List Value → Value
negation_of (Int a ∷ []) = Int (int_wrapping_neg w64 a)
negation_of _ = Int (pos 0)
