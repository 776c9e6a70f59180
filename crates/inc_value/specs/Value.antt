-- Values: their types, and how they are printed.
use Rattle.std.specs.Prelude.{◌≡◌, ℕ, List, [], ◌∷◌, ◌++◌, codes, map, if◌then◌else◌, ◌==◌, ◌||◌, FitsSigned}
use Rattle.std.specs.Fmt.{signed_decimal}
use Rattle.std.specs.Int.{w64}
use Rattle.inc_value.specs.Text.{IsText}
use Rattle.inc_value.specs.declared.ty.Ty.{Ty}
use Rattle.inc_value.specs.declared.ty.Ty.TheVariants as ty
use Rattle.inc_value.specs.declared.value.Value.{Value}
use Rattle.inc_value.specs.declared.value.Value.TheVariants.{Int, Bool, Text, Node}

-- the type of a value
abbrev pub type_of : Value → Ty
type_of (Int z) = ty.Int
type_of (Bool b) = ty.Bool
type_of (Text bytes) = ty.Text
type_of (Node id base) = ty.Node base

-- the values have the types, one for one
abbrev pub HaveTypes : List Value → List Ty → Type 0
HaveTypes vs tys = map type_of vs ≡ tys

-- a value that a program can hold: an Int of 64 bits, a Text that is a text, any Bool and any Node
abbrev pub IsProper : Value → Type 0
IsProper (Int z) = FitsSigned w64 z
IsProper (Bool b) = Unit {0}
IsProper (Text bytes) = IsText bytes
IsProper (Node id base) = Unit {0}

-- a byte inside a printed text: `"` and `\` have a `\` before them
abbrev pub escaped_byte : ℕ → List ℕ
escaped_byte b = if (b == 34) || (b == 92) then 92 ∷ b ∷ [] else b ∷ []

-- the bytes of a printed text between its quotes
abbrev pub escaped : List ℕ → List ℕ
escaped [] = []
escaped (b ∷ bytes) = escaped_byte b ++ escaped bytes

-- a value as it is printed, where a Node has the name
abbrev pub printed_value : List ℕ → Value → List ℕ
printed_value name (Int z) = signed_decimal z
printed_value name (Bool b) = if b then codes "true" else codes "false"
printed_value name (Text bytes) = codes "\"" ++ escaped bytes ++ codes "\""
printed_value name (Node id base) = codes "&" ++ name
