-- The declaration whose own node a node is stands at the node's first position.
use Rattle.std.proofs.Common.{◌≡◌, ◌<◌, ℕ, zero, suc, arith, List, [], ◌∷◌, length, slice_get, Option, None, Some, refl, ap, sym, ◌∙◌}
use Rattle.std.proofs.lemmas.Option.{slice_get_within}
use Rattle.std.specs.Prelude.{IfNone, IfSome}
use Rattle.formula_lang.specs.NamesView.{AreEarlier}
use Rattle.inc_value.specs.declared.node.NodeId.{NodeId}
use Rattle.indexed_nodes.specs.Indexed.{IsFirst, IsNowhere}
use Rattle.script_graph.specs.Kept.{Kept, no_node, node_in}
use Rattle.script_graph.specs.Sound.{IsSoundSession}
use Rattle.script_model.specs.Check.{Declared, Names}
use Rattle.session.proofs.Observed.{target_node}
use Rattle.session.proofs.Passing.{index_get}
use Rattle.session.specs.Replies.{HaveTargets, IsOwnNode}

-- what is kept has a node for each declaration's target
pub have_targets : (k : Kept) → IsSoundSession k → HaveTargets k.names.declared k.nodes
have_targets k sound n d is = (sound.has_nodes n d is).target

-- ---- positions

declared_at : (ds : List Declared) (i : ℕ) → i < length ds → (d : Declared) × (slice_get ds i ≡ Some d)
declared_at [] i low = absurd (omega (arith, low))
declared_at (d ∷ ds) zero low = (d, refl)
declared_at (d ∷ ds) (suc i) low = declared_at ds i (omega (arith, low))

node_at : (nodes : List NodeId) (i : ℕ) (n : NodeId) → i < length nodes → node_in nodes i ≡ n → slice_get nodes i ≡ Some n
node_at nodes i n low is = index_get nodes i no_node low ∙ ap (λ (m : NodeId). Some m) is

module _ (names : Names) (nodes : List NodeId) (n : NodeId) (one_each : length nodes ≡ length names.declared) where
  -- the declaration that one stands for is no later and has its node: so the first with a node stands for itself
  own_at : HaveTargets names.declared nodes → AreEarlier names.declared → (i : ℕ) → IsFirst nodes n i → IsOwnNode names nodes n i
  own_at targets order i first =
      let low = slice_get_within nodes i n first.there in
      let d = declared_at names.declared i (omega (arith, low, one_each)) in
      let t = targets i d.0 d.1 in
      let early = order i d.0 d.1 in
      let here : node_in nodes i ≡ n = sym (target_node nodes i n first.there) in
      let within = slice_get_within names.declared d.0.target t.target t.is_target in
      let least = first.earliest d.0.target (node_at nodes d.0.target n (omega (arith, within, one_each)) (t.node ∙ here)) in
      record { declared = d.0; is_declared = d.1; own = omega (arith, early, least); is_node = here }

  pub first_own : HaveTargets names.declared nodes → AreEarlier names.declared → (found : Option ℕ) → IfSome found (IsFirst nodes n)
      → IfSome found (IsOwnNode names nodes n)
  first_own targets order None first = tt
  first_own targets order (Some i) first = own_at targets order i first

  pub first_within : (found : Option ℕ) → IfSome found (IsFirst nodes n) → IfSome found (λ i. i < length names.declared)
  first_within None first = tt
  first_within (Some i) first = let low = slice_get_within nodes i n first.there in omega (arith, low, one_each)

  -- a node that is nowhere is no declaration's
  pub none_own : (found : Option ℕ) → IfNone found (IsNowhere nodes n) → IfNone found ((i : ℕ) → IsOwnNode names nodes n i → ⊥)
  none_own None none = λ i own.
      let low = slice_get_within names.declared i own.declared own.is_declared in
      none i (node_at nodes i n (omega (arith, low, one_each)) own.is_node)
  none_own (Some i) none = tt
