-- The nodes of an arena as a graph.
use Rattle.std.specs.Prelude.{◌≡◌, ◌≤◌, ℕ, Bool, List, [], Option, None, Some, IfSome}
use Rattle.inc_value.specs.declared.function.FnRef.{FnRef}
use Rattle.inc_value.specs.declared.node.NodeId.{NodeId}
use Rattle.inc_value.specs.declared.value.Value.{Value}
use Rattle.inc_value.specs.Choice.{Every}
use Rattle.inc_terms.specs.Graph.{Graph, Row, Built, Def}
use Rattle.inc_terms.specs.Rebuild.{Keeping, Names}
use Rattle.inc_terms.specs.Within.{DefWithin, ValueWithin, Given, Fit}
use Rattle.node_arena.specs.Arena.{Arena, row_at, Changes}
use Rattle.node_arena.specs.Meanings.{KeepsKnown}
use Rattle.node_arena.specs.Sound.{IsSoundArena}

-- what a graph holds beside its nodes: what each bind is built for, the values that freezes keep, and the lists of experts
pub record Holdings : Type 0 where
  pub built : NodeId → Option Built
  pub frozen : NodeId → Option Value
  pub lists : NodeId → List NodeId

-- what is held names given nodes alone, of so many
pub record HoldsGiven (count : ℕ) (held : Holdings) : Type 0 where
  pub frozen : (n : NodeId) (v : Value) → held.frozen n ≡ Some v → ValueWithin (Given count) v
  pub lists : (n : NodeId) → Every (Given count) (held.lists n)

-- nothing: no bind is built, no freeze keeps a value, and no expert has a list. What a node of a right side reads back as is told by the nodes alone
abbrev pub nothing_held : Holdings
nothing_held = record { built = λ n. None; frozen = λ n. None; lists = λ n. [] }

-- the graph of the nodes, with what is held beside them
abbrev pub graph_of : Arena → Holdings → Graph
graph_of a held = record { row = row_at a; built = held.built; now = a.time; frozen = held.frozen; lists = held.lists }

-- each function of the definition is known and of the kind that stands there, and of so many ids each that it lists was given
abbrev pub CallsFit : ℕ → (FnRef → Bool) → (FnRef → List NodeId) → Def → Type 0
CallsFit count known ids def = DefWithin (λ n. Unit {0}) (Fit count known ids) def

-- so is each function of a live node
abbrev pub AllCallFit : (FnRef → Bool) → (FnRef → List NodeId) → Arena → Type 0
AllCallFit known ids a = (n : NodeId) (r : Row) → row_at a n ≡ Some r → CallsFit a.given known ids r.def

-- functions still fit after a node was added whose functions do, or dropped, and when more functions are known
abbrev pub StillFit : Type 0
StillFit =
    (known known' : FnRef → Bool) (ids : FnRef → List NodeId) (old new : Arena) (id : NodeId) (row : Option Row)
    → KeepsKnown known known' → Changes old new id row → old.given ≤ new.given
    → IfSome row (λ (r : Row). CallsFit new.given known' ids r.def) → AllCallFit known ids old → AllCallFit known' ids new

-- a sound arena whose live nodes call known functions, which list given nodes alone, keeps enough that its graph names given nodes and such functions alone,
-- where what is held names given nodes, whatever binds are built for
abbrev pub NamesAreGiven : Type 0
NamesAreGiven =
    (a : Arena) (held : Holdings) (known : FnRef → Bool) (ids : FnRef → List NodeId) → IsSoundArena a → HoldsGiven a.given held
    → AllCallFit known ids a
    → Keeping (Given a.given) (Fit a.given known ids) (graph_of a held) × Names (Given a.given) (Fit a.given known ids) (graph_of a held)
