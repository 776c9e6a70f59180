-- The node that is set, and the value that it is given.
use Rattle.std.proofs.Common.{◌≡◌, ◌<◌, ℕ, length, slice_get, Some, sym, subst, ◌∙◌, arith}
use Rattle.formula_lang.specs.Fits.{AssignmentFits}
use Rattle.script_model.specs.Leaves.{EveryReference}
use Rattle.formula_elab.specs.Opened.{node_at}
use Rattle.formula_elab.proofs.Writes.{value_same}
use Rattle.inc_value.specs.declared.node.NodeId.{NodeId}
use Rattle.inc_value.specs.declared.value.Value.{Value as GraphValue}
use Rattle.node_arena.specs.Sound.{IsSoundArena as IsSoundArena}
use Rattle.script_model.specs.Values.{Value, Int, Bool, Text, Reference}
use Rattle.script_graph.specs.Kept.{Kept, arena_of, node_in}
use Rattle.script_graph.specs.Sound.{IsSoundSession}
use Rattle.script_graph.proofs.Declared.{TakesValue, assigned_takes, same_default}
use Rattle.transfer.specs.Both.{graph_value}
use Rattle.session.proofs.Observed.{target_node}

module _ (k : Kept) (sound : IsSoundSession k) (target : ℕ) (v : Value) (fits : AssignmentFits k.names target v) where
  -- what a value that fits refers to is declared
  pub refers_within : EveryReference (λ (n : ℕ). n < length k.nodes) v
  refers_within = by_value v fits
    where
      by_value : (v : Value) → AssignmentFits k.names target v → EveryReference (λ (n : ℕ). n < length k.nodes) v
      by_value (Int z) fits = tt
      by_value (Bool b) fits = tt
      by_value (Text bytes) fits = tt
      by_value (Reference n b) fits = let low = fits.refers.earlier in let same = sound.one_node_each in omega (arith, low, same)

  -- so the graph's value of it is the same, whatever stands past the end of the nodes
  pub value_is : graph_value (node_in k.nodes) v ≡ graph_value (node_at k.nodes) v
  value_is = value_same (node_in k.nodes) (node_at k.nodes) v (by_value v refers_within)
    where
      by_value : (v : Value) → EveryReference (λ (n : ℕ). n < length k.nodes) v → EveryReference (λ (n : ℕ). node_in k.nodes n ≡ node_at k.nodes n) v
      by_value (Int z) within = tt
      by_value (Bool b) within = tt
      by_value (Text bytes) within = tt
      by_value (Reference n b) within = sym (same_default k.nodes n within)

  -- the node that is read at a target's place is a variable that takes what is assigned
  pub node_takes : IsSoundArena (arena_of k) → (w : GraphValue) → w ≡ graph_value (node_at k.nodes) v
      → (node : NodeId) → slice_get k.nodes target ≡ Some node → TakesValue (arena_of k) node w
  node_takes arena w is_value node is =
      subst (λ (x : GraphValue). TakesValue (arena_of k) node x) (sym (is_value ∙ sym value_is))
      (subst (λ (n : NodeId). TakesValue (arena_of k) n (graph_value (node_in k.nodes) v)) (sym (target_node k.nodes target node is))
      (assigned_takes (arena_of k) k.names k.nodes arena sound.one_node_each sound.has_nodes target v fits))
