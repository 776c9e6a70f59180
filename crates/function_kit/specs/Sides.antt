-- What the functions of right sides make.
use Rattle.std.specs.Prelude.{◌≡◌, ◌≤◌, ◌-◌, ℕ, min, replicate, List, [], ◌∷◌, length, pos}
use Rattle.inc_value.specs.Choice.{Every}
use Rattle.inc_value.specs.Sig.{Signature}
use Rattle.inc_value.specs.declared.ty.Ty.{Ty}
use Rattle.inc_value.specs.declared.ty.Ty.TheVariants as ty
use Rattle.inc_value.specs.declared.value.Value.{Value}
use Rattle.inc_value.specs.declared.value.Value.TheVariants.{Int}
use Rattle.inc_terms.specs.Term.{Const, Cap}
use Rattle.node_arena.specs.RightSide.{RightSide}

-- of a left value of the type, one of that type; nothing is captured
abbrev pub holding : Ty → Signature
holding t = record { takes = t ∷ []; gives = t }

-- of each left value, a constant of it
abbrev pub held_side : RightSide
held_side = record { term = λ v. Const v; uses = []; ids = []; size = 1 }

-- ---- one of the captures

-- the types but the first
abbrev pub others : List Ty → List Ty
others [] = []
others (t ∷ types) = types

-- an integer is taken first, and then captures of the type that is given, one at least
abbrev pub IsPicked : Signature → Type 0
IsPicked s = (1 ≤ length (others s.takes)) × (s.takes ≡ ty.Int ∷ replicate (length (others s.takes)) s.gives)

-- the same, type by type
abbrev pub ArePicked : List Ty → Ty → Type 0
ArePicked (ty.Int ∷ first ∷ rest) t = (first ≡ t) × Every (λ u. u ≡ t) rest
ArePicked types t = ⊥

-- the number of the capture that a left value chooses, of so many
abbrev pub place_of : ℕ → Value → ℕ
place_of count (Int (pos n)) = min n (count - 1)
place_of count v = 0

-- of each left value, the capture that it chooses
abbrev pub picking_side : Signature → RightSide
picking_side s = record { term = λ v. Cap (place_of (length (others s.takes)) v); uses = []; ids = []; size = 0 }
