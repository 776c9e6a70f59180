-- Who is needed of a graph.
use Rattle.std.proofs.Common.{◌<◌}
use Rattle.inc_value.specs.declared.node.Point.{Point}
use Rattle.inc_value.specs.Choice.{Reaches, here, step}
use Rattle.inc_terms.proofs.Local.{reach_more}
use Rattle.graph.specs.Standing.{GraphView, look, IsNeeded, times_rooted}
use Rattle.stabilizer.specs.Look.{IsLinked}

-- where need begins
pub needed_root : {F : Type 0} (s : GraphView F) (p : Point) → 0 < times_rooted s p → IsNeeded s p
needed_root s p is = record { root = p; is_root = is; leads = here }

-- and from there on over links
pub needed_linked : {F : Type 0} (s : GraphView F) (a b : Point) → IsNeeded s a → IsLinked (look s) a b → IsNeeded s b
needed_linked s a b need link = record {
  root = need.root;
  is_root = need.is_root;
  leads = reach_more (IsLinked (look s)) need.root a b need.leads link;
}

reached_has : {F : Type 0} (s : GraphView F) (P : Point → Type 0) → ((a b : Point) → IsLinked (look s) a b → P a → P b) → (a c : Point)
    → Reaches (IsLinked (look s)) a c → P a → P c
reached_has s P on a c here h = h
reached_has s P on a c (step {b = b} link rest) h = reached_has s P on b c rest (on a b link h)

-- what roots have, and links hand on, all that is needed has
pub needed_has : {F : Type 0} (s : GraphView F) (P : Point → Type 0) → ((p : Point) → 0 < times_rooted s p → P p)
    → ((a b : Point) → IsLinked (look s) a b → P a → P b) → (p : Point) → IsNeeded s p → P p
needed_has s P root on p need = reached_has s P on need.root p need.leads (root need.root need.is_root)
