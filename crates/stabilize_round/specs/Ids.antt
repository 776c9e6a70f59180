-- Of which ids the nodes are that a round speaks of.
use Rattle.std.specs.Prelude.{◌≡◌, ◌≤◌, ◌<◌, ℕ, true, false, Bool, List, None}
use Rattle.inc_value.specs.declared.function.FnRef.{FnRef}
use Rattle.inc_value.specs.declared.node.NodeId.{NodeId}
use Rattle.inc_value.specs.declared.node.Point.{Point}
use Rattle.map_nodes.specs.declared.cutoff.Cutoff.TheVariants.{Equal}
use Rattle.inc_terms.specs.Term.{Functions}
use Rattle.inc_terms.specs.Within.{FunctionLaws, Given, Fit}
use Rattle.inc_terms.specs.Rebuild.{Names}
use Rattle.inc_terms.specs.Need.{Keeps}
use Rattle.stabilize_round.specs.State.{State, Start}

-- a round that began so knows these functions, each with the nodes that it may name; and of an id that wasn't given when so many were, it holds
-- nothing: no point was held, no function was called, its cutoff is Equal, and no mark is on
pub record IsStartOf (known : FnRef → Bool) (ids : FnRef → List NodeId) (count : ℕ) (z : Start) : Type 0 where
  pub knows : z.known ≡ known
  pub names : z.ids ≡ ids
  pub held : (p : Point) → z.held p ≡ true → Given count p.node
  pub last : (n : NodeId) → count ≤ n.gen_ → z.last n ≡ None
  pub cutoff : (n : NodeId) → count ≤ n.gen_ → z.cutoff n ≡ Equal
  pub stale : (n : NodeId) → count ≤ n.gen_ → z.stale n ≡ false

-- the functions keep their promise, and all that a round speaks of was given: live nodes and what they name, what the graph keeps beside them, needed
-- points and roots, and what the round began with; of an id that wasn't given no function was called, its cutoff is Equal, and it isn't marked
pub record AllGiven (F : Functions) (z : Start) (s : State) : Type 0 where
  pub laws : FunctionLaws F z.known z.ids
  pub names : Names (Given s.given) (Fit s.given z.known z.ids) s.graph
  pub keeps : Keeps (Given s.given) s.graph s.died
  pub needed : (p : Point) → s.needed p ≡ true → Given s.given p.node
  pub rooted : (p : Point) → 0 < s.root p → Given s.given p.node
  pub last : (n : NodeId) → s.given ≤ n.gen_ → s.last n ≡ None
  pub cutoff : (n : NodeId) → s.given ≤ n.gen_ → s.cutoff n ≡ Equal
  pub stale : (n : NodeId) → s.given ≤ n.gen_ → s.stale n ≡ false
  pub start : IsStartOf z.known z.ids s.given z
