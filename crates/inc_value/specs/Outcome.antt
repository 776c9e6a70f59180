-- Outcomes, and how they are printed.
use Rattle.std.specs.Prelude.{ℕ, ◌≢◌, List, codes}
use Rattle.inc_value.specs.Value.{printed_value, type_of}
use Rattle.inc_value.specs.declared.ty.Ty.TheVariants.{Text}
use Rattle.inc_value.specs.declared.outcome.Outcome.{Outcome}
use Rattle.inc_value.specs.declared.outcome.Outcome.TheVariants.{Val, Invalid}

-- an outcome as it is printed, where a Node has the name
abbrev pub printed_outcome : List ℕ → Outcome → List ℕ
printed_outcome name (Val v) = printed_value name v
printed_outcome name Invalid = codes "invalid"

-- holds no Text
abbrev pub IsNoText : Outcome → Type 0
IsNoText (Val v) = type_of v ≢ Text
IsNoText Invalid = Unit {0}
