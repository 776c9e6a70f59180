-- Equal outcomes, as a test.
use Rattle.std.specs.Prelude as std
use Rattle.std.specs.Prelude.{ℕ, List, [], ◌∷◌, true, false, ◌==◌, ◌&&◌}
use Rattle.std.specs.Ordering.{int_eq}
use Rattle.inc_value.specs.Ty.{same_base}
use Rattle.inc_value.specs.declared.node.NodeId.{NodeId}
use Rattle.inc_value.specs.declared.outcome.Outcome.{Outcome}
use Rattle.inc_value.specs.declared.outcome.Outcome.TheVariants.{Val, Invalid}
use Rattle.inc_value.specs.declared.value.Value.{Value}
use Rattle.inc_value.specs.declared.value.Value.TheVariants.{Int, Bool, Text, Node}

-- the same bytes
abbrev pub same_bytes : List ℕ → List ℕ → std.Bool
same_bytes [] [] = true
same_bytes (a ∷ as_) (b ∷ bs) = (a == b) && same_bytes as_ bs
same_bytes a b = false

-- the same truth value
abbrev pub same_bool : std.Bool → std.Bool → std.Bool
same_bool true true = true
same_bool false false = true
same_bool a b = false

-- the same slot and the same generation
abbrev pub same_node : NodeId → NodeId → std.Bool
same_node a b = (a.slot == b.slot) && (a.gen_ == b.gen_)

-- the same value, of the same type
abbrev pub same_value : Value → Value → std.Bool
same_value (Int a) (Int b) = int_eq a b
same_value (Bool a) (Bool b) = same_bool a b
same_value (Text a) (Text b) = same_bytes a b
same_value (Node a x) (Node b y) = same_node a b && same_base x y
same_value a b = false

-- the same outcome
unfoldable pub same_outcome : Outcome → Outcome → std.Bool
same_outcome (Val a) (Val b) = same_value a b
same_outcome Invalid Invalid = true
same_outcome a b = false
