-- Functions of nodes fit on, whatever is done between rounds.
use Rattle.std.proofs.Common.{◌≡◌, ◌≤◌, ◌+◌, arith, Some, None}
use Rattle.inc_value.specs.declared.node.NodeId.{NodeId}
use Rattle.inc_value.specs.declared.value.Value.{Value}
use Rattle.inc_terms.specs.Graph.{Row}
use Rattle.node_arena.specs.Arena.{Arena, IsSet, Changes, with_value}
use Rattle.node_arena.specs.Graph.{AllCallFit, CallsFit}
use Rattle.node_arena.proofs.Graph.{still_fit, calls_later}
use Rattle.node_outcomes.specs.Meaning.{Meaning}
use Rattle.node_arena.proofs.Growing.{value_any}

module _ (M : Meaning) (before arena : Arena) (id : NodeId) (fit : AllCallFit M.known M.ids before) where
  -- a variable calls nothing
  pub set_fit : (v : Value) → IsSet before arena id v → arena.given ≡ before.given → AllCallFit M.known M.ids arena
  set_fit v set given =
      still_fit M.known M.known M.ids before arena id (Some (with_value set.row v)) (λ f h. h) set.changes (omega (arith, given)) (value_any v) fit

  -- a node was added whose functions fit
  pub added_fit : (row : Row) → Changes before arena id (Some row) → arena.given ≡ before.given + 1
      → CallsFit before.given M.known M.ids row.def → AllCallFit M.known M.ids arena
  added_fit row changes given calls =
      let later : before.given ≤ arena.given = omega (arith, given) in
      still_fit M.known M.known M.ids before arena id (Some row) (λ f h. h) changes later
      (calls_later before.given arena.given M.known M.ids later row.def calls) fit

  -- one was dropped
  pub dropped_fit : Changes before arena id None → arena.given ≡ before.given → AllCallFit M.known M.ids arena
  dropped_fit changes given = still_fit M.known M.known M.ids before arena id None (λ f h. h) changes (omega (arith, given)) tt fit
