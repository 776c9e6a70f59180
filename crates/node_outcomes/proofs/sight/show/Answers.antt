use Rattle.std.proofs.Common.{sym}
use Rattle.std.proofs.lemmas.Slice.Zip.{AllZip-long}
use Rattle.node_outcomes.specs.Computing.{ShowsValue}
use Rattle.node_outcomes.proofs.sight.show.Goals as goal

pub returns-then-nodes-values : goal.returns-then-nodes-values
returns-then-nodes-values c = (
  λ h. absurd cc,
  λ all. absurd (c.if-nodes-values.true (sym (AllZip-long (ShowsValue c.args.rows.now) c.args.nodes.now c.args.values.now all))),
)
