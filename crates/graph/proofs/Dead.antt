-- What is kept of a node that isn't live.
use Rattle.std.proofs.Common.{◌≡◌, true, false, Option, None, Some, is_some, refl, sym, ap, ◌∙◌}
use Rattle.inc_value.specs.declared.node.NodeId.{NodeId}
use Rattle.inc_value.specs.declared.node.Part.TheVariants.{Main}
use Rattle.inc_terms.specs.Depend.{main}
use Rattle.inc_terms.specs.Graph.{Row}
use Rattle.map_nodes.specs.declared.cutoff.Cutoff.TheVariants.{Equal}
use Rattle.node_arena.specs.Arena.{Arena, row_at}
use Rattle.node_outcomes.specs.Computing.{has_part}
use Rattle.node_outcomes.specs.Row.{cutoff_in}
use Rattle.node_outcomes.specs.Progress.{Progress}
use Rattle.point_map.specs.Rows.{at}
use Rattle.stabilizer.specs.Look.{cutoff_at}
use Rattle.wiring.specs.Kept.{IsKept}
use Rattle.wiring.specs.declared.work.Work.{Work}

-- it has no row, and so cutoff Equal
pub dead_equal : (arena : Arena) (work : Work) → IsKept arena work → (n : NodeId) → row_at arena n ≡ None → cutoff_at work n ≡ Equal
dead_equal arena work kept n dead = by_row (at work.rows (main n)) refl
  where
    by_row : (x : Option Progress) → at work.rows (main n) ≡ x → cutoff_at work n ≡ Equal
    by_row None is = ap cutoff_in is
    by_row (Some k) is = absurd (
        let e : true ≡ false = sym (ap is_some is) ∙ (kept.rows (main n) ∙ ap (λ (x : Option Row). has_part x Main) dead) in cc)
