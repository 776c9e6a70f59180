use Rattle.std.proofs.Common.{◌≡◌, ◌∙◌, Some, subst}
use Rattle.point_map.specs.Rows.{at, Changes}
use Rattle.node_outcomes.specs.LastCall.{Last}
use Rattle.node_outcomes.specs.Row.{with_none}
use Rattle.node_outcomes.specs.contracts.row.Progress.{the_view}
use Rattle.node_outcomes.proofs.Rewriting.{rewritten}
use Rattle.node_outcomes.proofs.row.lend_call.Goals as goal

pub returns-clause-row : goal.returns-clause-row
returns-clause-row c =
    let was = rw c.unwrap-row.ensures at c.get_mut.ensures.value in
    let view = c.row.view_is in
    let there : at c.args.rows.now c.args.p ≡ Some (the_view c.row.inside) = cc (was, view) in
    let new = c.get_mut.follows.lender (the_view (record {
      stage = c.row.inside.stage;
      settled = c.row.inside.settled;
      outcome = c.row.inside.outcome;
      last = c.replace.new.dest;
      cutoff = c.row.inside.cutoff;
      frozen = c.row.inside.frozen;
    })) in
    let written = rw c.unwrap-row.ensures at (c.get_mut.follows.holds (the_view (record { stage = c.row.inside.stage; settled = c.row.inside.settled; outcome = c.row.inside.outcome; last = c.replace.new.dest; cutoff = c.row.inside.cutoff; frozen = c.row.inside.frozen }))) in
    let none = c.replace.ensures.after ∙ c.none.ensures in
    rewritten _ _ c.args.p with_none (the_view c.row.inside) there (subst (λ (l : Last). Changes c.args.rows.now new c.args.p (Some (the_view (record {
      stage = c.row.inside.stage;
      settled = c.row.inside.settled;
      outcome = c.row.inside.outcome;
      last = l;
      cutoff = c.row.inside.cutoff;
      frozen = c.row.inside.frozen;
    })))) none written)
