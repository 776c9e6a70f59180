-- What an arena holds: the live nodes, by id, how many ids it gave, and the time by which its nodes are read.
use Rattle.std.specs.Prelude.{◌≡◌, ◌≢◌, ◌≤◌, ◌⊎◌, ◌==◌, ◌-◌, ◌^◌, ℕ, ℤ, List, Option, Some, None, IsSome, slice_index_or, count_by, is_some, if◌then◌else◌}
use Rattle.inc_value.specs.declared.node.NodeId.{NodeId}
use Rattle.inc_value.specs.Choice.{and_then}
use Rattle.inc_terms.specs.Code.{def_of}
use Rattle.inc_value.specs.declared.value.Value.{Value}
use Rattle.inc_terms.specs.Graph.{Row, Def, Var}
use Rattle.inc_terms.specs.Within.{Given}
use Rattle.inc_terms.specs.Within.{DefWithin}
use Rattle.node_arena.specs.declared.arena.Row as code
use Rattle.node_arena.specs.declared.arena.Entry.{Entry}

-- the entry in each slot, how many ids were given, and the time
pub record Arena : Type 0 where
  pub slots : List (Option Entry)
  pub given : ℕ
  pub time : ℤ

-- the row that the code's one stands for
abbrev pub row_of : code.Row → Row
row_of r = record { def = def_of r.def; ty = r.ty; scope = r.scope }

-- the row of a live node
abbrev pub row_at : Arena → NodeId → Option Row
row_at a n = and_then (slice_index_or a.slots n.slot None) (λ (e : Entry). if e.gen_ == n.gen_ then Some (row_of e.row) else None)

-- a node that is live
abbrev pub IsLive : Arena → NodeId → Type 0
IsLive a n = IsSome (row_at a n)

-- how many nodes are live
abbrev pub live : Arena → ℕ
live a = count_by is_some a.slots

-- one id has this row, or none, every other id keeps its row, and the time stands
pub record Changes (old new : Arena) (id : NodeId) (row : Option Row) : Type 0 where
  pub changed : row_at new id ≡ row
  pub others : (other : NodeId) → other ≢ id → row_at new other ≡ row_at old other
  pub time : new.time ≡ old.time

-- no further node can be added: 1,048,576 are live, or every id was given
abbrev pub IsFull : Arena → Type 0
IsFull a = (1048576 ≤ live a) ⊎ (a.given ≡ 2 ^ 64 - 1)

-- each node that the definition names was given
abbrev pub NamesGiven : ℕ → Def → Type 0
NamesGiven count def = DefWithin (Given count) (λ kind f. Unit {0}) def

-- a live variable
pub record IsVariable (a : Arena) (n : NodeId) : Type 0 where
  pub row : Row
  pub value : Value
  pub there : row_at a n ≡ Some row
  pub variable : row.def ≡ Var value

-- the row of a variable with another value
abbrev pub with_value : Row → Value → Row
with_value r v = record { def = Var v; ty = r.ty; scope = r.scope }

-- the variable has another value, and every other id keeps its row
pub record IsSet (old new : Arena) (n : NodeId) (v : Value) : Type 0 where
  pub row : Row
  pub there : row_at old n ≡ Some row
  pub changes : Changes old new n (Some (with_value row v))
