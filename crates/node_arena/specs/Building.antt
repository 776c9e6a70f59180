-- What a builder holds, and what its calls add.
use Rattle.std.specs.Prelude.{◌≡◌, ◌≤◌, ◌⊎◌, ◌+◌, ℕ, List, Some, Result, IsErrOf, OnOk, sum_by}
use Rattle.inc_value.specs.declared.function.FnKind.{FnKind}
use Rattle.inc_value.specs.declared.function.FnRef.{FnRef}
use Rattle.inc_value.specs.declared.node.NodeId.{NodeId}
use Rattle.inc_value.specs.declared.ty.Ty.{Ty}
use Rattle.inc_value.specs.Choice.{Among}
use Rattle.inc_terms.specs.Graph as graph
use Rattle.inc_terms.specs.Graph.{Row, Def}
use Rattle.inc_terms.specs.Within.{Given, DefWithin}
use Rattle.node_arena.specs.declared.arena.AddFault.{AddFault}
use Rattle.node_arena.specs.declared.arena.AddFault.TheVariants as fault
use Rattle.node_arena.specs.Arena.{Arena, row_at, live, IsFull, NamesGiven, Changes}
use Rattle.node_arena.specs.Sound.{IsSoundArena}
use Rattle.node_arena.specs.Typing.{Makes, IsAddable}

-- the nodes, and the bind in whose scope new ones stand
pub record Building : Type 0 where
  pub arena : Arena
  pub scope : NodeId

-- the nodes of an arena, where new ones stand in the scope of the bind
abbrev pub building_in : NodeId → Arena → Building
building_in bind a = record { arena = a; scope = bind }

-- ---- one node

-- what the answer to such a node tells: an id, that it could be added; a fault, that it is the first that stands in the way.
-- Want of memory tells nothing
pub record Answers (a : Arena) (def : Def) (t : Ty) (answer : Result NodeId AddFault) : Type 0 where
  pub unknown : IsErrOf answer fault.Unknown → ¬ NamesGiven a.given def
  pub wrong_type : IsErrOf answer fault.WrongType → NamesGiven a.given def × ¬ Makes a def t
  pub full : IsErrOf answer fault.Full → NamesGiven a.given def × Makes a def t × IsFull a
  pub addable : OnOk answer (IsAddable a def t)

-- the first fault that stands in the way of such a node is told, whatever memory there is
pub record TellsFault (a : Arena) (def : Def) (t : Ty) (answer : Result NodeId AddFault) : Type 0 where
  pub unknown : ¬ NamesGiven a.given def → IsErrOf answer fault.Unknown
  pub wrong_type : NamesGiven a.given def → ¬ Makes a def t → IsErrOf answer fault.WrongType
  pub full : NamesGiven a.given def → Makes a def t → IsFull a → IsErrOf answer fault.Full

-- the id, which is the next, has such a row in the scope, and every id that was given keeps its row, or has none as before;
-- the nodes are as every arena keeps them
pub record Adds (old new : Building) (id : NodeId) (def : Def) (t : Ty) : Type 0 where
  pub number : id.gen_ ≡ old.arena.given
  pub changes : Changes old.arena new.arena id (Some (record { def = def; ty = t; scope = Some old.scope }))
  pub keeps : (n : NodeId) → Given old.arena.given n → row_at new.arena n ≡ row_at old.arena n
  pub live : live new.arena ≡ live old.arena + 1
  pub given : new.arena.given ≡ old.arena.given + 1
  pub scope : new.scope ≡ old.scope
  pub sound : IsSoundArena new.arena

-- ---- what is built for one right side

-- a function that nodes of a right side may call, and how many nodes a right side of it takes at most, with those of the
-- scopes within
pub record Use : Type 0 where
  pub function : FnRef
  pub most : ℕ

-- the function is listed, and of the kind that stands there
pub record IsListed (uses : List Use) (k : FnKind) (f : FnRef) : Type 0 where
  pub listed : Use
  pub among : Among listed uses
  pub function : listed.function ≡ f
  pub kind : f.id.kind ≡ k

-- the definition calls listed functions alone
abbrev pub CallsListed : List Use → Def → Type 0
CallsListed uses def = DefWithin (λ n. Unit {0}) (IsListed uses) def

-- a node of a scope may count as so many: as one at least, and a bind as one more than the number beside its function; a freeze and an expert stand in
-- no scope
abbrev pub Weighs : List Use → Def → ℕ → Type 0
Weighs uses (graph.Bind l f captures) w = (u : Use) × Among u uses × (u.function ≡ f) × (u.most + 1 ≤ w)
Weighs uses (graph.Freeze kid f) w = ⊥
Weighs uses (graph.Expert f v kids) w = ⊥
Weighs uses def w = 1 ≤ w

-- a node, and what it counts as
pub record Weighed : Type 0 where
  pub node : NodeId
  pub weight : ℕ

-- a node of the scope that calls listed functions alone, and counts among the nodes
pub record IsBuilt (uses : List Use) (bind : NodeId) (nodes : List Weighed) (n : NodeId) (r : Row) : Type 0 where
  pub scope : r.scope ≡ Some bind
  pub calls : CallsListed uses r.def
  pub weighed : Weighed
  pub among : Among weighed nodes
  pub node : weighed.node ≡ n
  pub weight : Weighs uses r.def weighed.weight

-- every id that was given keeps its row, or has none as before; each further node stands in the scope and calls listed
-- functions alone. So many ids more were given as nodes more are live, and these count as no more than the number
pub record Grows (uses : List Use) (old new : Building) (most : ℕ) : Type 0 where
  pub keeps : (n : NodeId) → Given old.arena.given n → row_at new.arena n ≡ row_at old.arena n
  pub later : old.arena.given ≤ new.arena.given
  pub scope : new.scope ≡ old.scope
  pub nodes : List Weighed
  pub built : (n : NodeId) (r : Row) → row_at new.arena n ≡ Some r → (row_at old.arena n ≡ Some r) ⊎ IsBuilt uses old.scope nodes n r
  pub total : sum_by (λ (x : Weighed). x.weight) nodes ≤ most
  pub live : live new.arena + old.arena.given ≡ live old.arena + new.arena.given
  pub few : new.arena.given ≤ old.arena.given + most
  pub time : new.arena.time ≡ old.arena.time
