use Rattle.std.proofs.Common.{◌≡◌, Some, true}
use Rattle.point_map.specs.Rows.{at}
use Rattle.node_outcomes.specs.Row.{with_frozen}
use Rattle.node_outcomes.specs.contracts.row.Progress.{the_view}
use Rattle.node_outcomes.proofs.Rewriting.{rewritten}
use Rattle.node_outcomes.proofs.row.freeze.Goals as goal

pub returns : goal.returns
returns c =
    let was = rw c.unwrap-row.ensures at c.get_mut.ensures.value in
    let view = c.row.view_is in
    let there : at c.args.rows.now c.args.p ≡ Some (the_view c.row.inside) = cc (was, view) in
    let written = rw c.unwrap-row.ensures at (c.get_mut.follows.holds (the_view (record { stage = c.row.inside.stage; settled = c.row.inside.settled; outcome = c.row.inside.outcome; last = c.row.inside.last; cutoff = c.row.inside.cutoff; frozen = true }))) in
    rewritten _ _ c.args.p (with_frozen) (the_view c.row.inside) there written
