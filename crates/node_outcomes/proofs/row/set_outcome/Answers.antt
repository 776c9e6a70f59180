use Rattle.std.proofs.Common.{◌≡◌, ◌∙◌, Some, subst, sym}
use Rattle.std.proofs.lemmas.Option.{same_Some}
use Rattle.map_nodes.specs.Cutoff.{IsStopped}
use Rattle.point_map.specs.Rows.{at}
use Rattle.node_outcomes.specs.Progress.{Progress}
use Rattle.node_outcomes.specs.Row.{with_outcome}
use Rattle.node_outcomes.specs.contracts.row.Progress.{the_view}
use Rattle.node_outcomes.proofs.Rewriting.{rewritten}
use Rattle.node_outcomes.proofs.row.set_outcome.Goals as goal

pub returns-clause-rewritten : goal.returns-clause-rewritten
returns-clause-rewritten c =
    let was = rw c.unwrap-row.ensures at c.get_mut.ensures.value in
    let view = c.row.view_is in
    let there : at c.args.rows.now c.args.p ≡ Some (the_view c.row.inside) = cc (was, view) in
    let written = rw c.unwrap-row.ensures at (c.get_mut.follows.holds (the_view (record {
      stage = c.row.inside.stage;
      settled = c.args.round;
      outcome = Some c.args.outcome;
      last = c.row.inside.last;
      cutoff = c.row.inside.cutoff;
      frozen = c.row.inside.frozen;
    }))) in
    rewritten _ _ c.args.p (with_outcome c.args.outcome c.args.round) (the_view c.row.inside) there written

pub returns-clause-stopped : goal.returns-clause-stopped
returns-clause-stopped c =
    let was = rw c.unwrap-row.ensures at c.get_mut.ensures.value in (
      λ t. (c.unwrap-row.result.now, sym was, c.is_stopped-stopped.ensures.0 t),
      λ h. c.is_stopped-stopped.ensures.1 (subst (λ (k : Progress). IsStopped k.cutoff k.outcome c.args.outcome) (same_Some h.0 c.unwrap-row.result.now (sym h.1 ∙ sym was)) h.2),
    )
