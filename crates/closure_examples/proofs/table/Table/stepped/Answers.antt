use Rattle.std.proofs.Common.{map}
use Rattle.inc_terms.specs.Steps.{step_of}
use Rattle.closure_examples.specs.Sides.{table_uses}
use Rattle.closure_examples.proofs.Making.{stepped_added}
use Rattle.closure_examples.proofs.table.Table.stepped.Goals as goal

pub returns-in-Ok : goal.returns-in-Ok
returns-in-Ok c =
    let s = c.args.self.now in
    let uses = table_uses s.neg s.add s.of_left in
    rw c.added.ensures (stepped_added uses c.args.builder.now c.steps.new.self _ (map step_of c.in-Ok.steps.items) c.in-Ok.ensures
    c.steps.result c.steps.ensures.answer c.steps.ensures.added c.steps.ensures.err)
