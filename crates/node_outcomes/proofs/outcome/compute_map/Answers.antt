use Rattle.std.proofs.Common.{false}
use Rattle.node_outcomes.specs.Computing.{noted}
use Rattle.node_outcomes.specs.Meaning.{functions_of}
use Rattle.inc_value.specs.declared.outcome.Outcome.TheVariants.{Invalid}
use Rattle.node_outcomes.proofs.Computing.{known_computes}
use Rattle.node_outcomes.proofs.outcome.compute_map.Goals.{in-Invalid, in-Values, in-Other}
use Rattle.node_outcomes.proofs.outcome.compute_map.Goals as goal

pub returns-clause-computed : goal.returns-clause-computed
returns-clause-computed g c =
    let F = functions_of g.F.Functions c.args.functions.now in
    let f = c.args.f.now in
    elim c.match-look.branch [
      | in-Invalid w ↦ rw (w.rows-is, w.ran-is, w.functions-is, w.computed-is)
          (known_computes (F.value f) f.sig.gives false c.args.round (noted c.args.rows.now c.args.ran.now.items (g.F.Functions.calls c.args.functions.now))
          c.args.node c.args.kids.now 1 c.requires.there Invalid (rw w.in-Invalid.is at c.look.ensures))
      | in-Values w ↦ rw (w.rows-is, w.ran-is, w.functions-is, w.computed-is) w.map_few-computed.ensures.computed
      | in-Other w ↦ rw (w.rows-is, w.ran-is, w.functions-is, w.computed-is) w.map_any-computed.ensures.computed
    ]
