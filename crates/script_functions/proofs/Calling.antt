-- The functions that lines call, among those of a body.
use Rattle.std.proofs.Common.{◌≡◌, ◌++◌, List, [], ◌∷◌, inl, refl}
use Rattle.inc_value.specs.Choice.{Among}
use Rattle.inc_value.specs.declared.function.FnKind.{FnKind}
use Rattle.node_arena.specs.Building.{Use, IsListed}
use Rattle.script_functions.proofs.Lists.{among_left, among_right}

-- each of the first list stands in the other
abbrev pub AllIn : List Use → List Use → Type 0
AllIn mine uses = (u : Use) → Among u mine → Among u uses

pub first_in : (mine rest uses : List Use) → AllIn (mine ++ rest) uses → AllIn mine uses
first_in mine rest uses all u among = all u (among_left u mine rest among)

pub later_in : (mine rest uses : List Use) → AllIn (mine ++ rest) uses → AllIn rest uses
later_in mine rest uses all u among = all u (among_right u mine rest among)

-- the one function that a line calls
pub called : (uses : List Use) (k : FnKind) (u : Use) → AllIn (u ∷ []) uses → u.function.id.kind ≡ k → IsListed uses k u.function
called uses k u mine is = record { listed = u; among = mine u (inl refl); function = refl; kind = is }
