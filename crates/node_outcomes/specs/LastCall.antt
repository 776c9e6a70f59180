-- What is kept of a node's last call.
use Rattle.std.specs.Prelude.{◌≡◌, ◌≤◌, ℕ, List, Option, None, Some}
use Rattle.inc_value.specs.declared.value.Value.{Value}
use Rattle.stabilize_round.specs.State.{Call}
use Rattle.node_outcomes.specs.declared.last_call.Kept.{Kept}
use Rattle.node_outcomes.specs.declared.last_call.Kept.TheVariants.{Map, Fold}
use Rattle.node_outcomes.specs.declared.last_call.Spare.{Spare}
use Rattle.node_outcomes.specs.declared.last_call.Spare.TheVariants.{Few, Many}

-- the last call, if there was one, and on how many values the next can be made without memory for their lists
pub record Last : Type 0 where
  pub call : Option Call
  pub room : ℕ

-- the last call, if there was one, and no room
abbrev pub bare : Option Call → Last
bare c = record { call = c; room = 0 }

-- the values on which the function was called last
abbrev pub values_in : Kept → Option (List Value)
values_in (Map k) = k.values
values_in (Fold k) = k.values

-- how many there is room for
abbrev pub room_in : Kept → ℕ
room_in (Map k) = k.room
room_in (Fold k) = k.room

-- how many values the next call can have
abbrev pub room_of : Spare → ℕ
room_of (Few n) = n
room_of (Many many) = many.value.room

-- both lists have the room, where it is for more than two
abbrev pub HasRoom : Kept → Spare → Type 0
HasRoom kept (Few n) = n ≤ 2
HasRoom kept (Many many) = (many.value.room ≤ room_in kept) × (many.value.room ≤ many.value.list.capacity)

-- the call, if its values are kept and what it gave
abbrev pub call_of : Option (List Value) → Option Value → Option Call
call_of (Some xs) (Some v) = Some (record { arguments = xs; result = v })
call_of values given = None

-- the function gave the value when it was last called, on these values; or it was last called on others, or never
abbrev pub IsGivenOn : List Value → Option Call → Option Value → Type 0
IsGivenOn values last (Some v) = last ≡ Some (record { arguments = values; result = v })
IsGivenOn values last None = (c : Call) → last ≡ Some c → c.arguments ≡ values → ⊥
