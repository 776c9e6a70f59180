use Rattle.std.proofs.Common.{ap, arith, sum_by}
use Rattle.script_functions.specs.Bodies.{size_of as draft_size}
use Rattle.formula_elab.specs.Bodies.{open_size, size_of, OpenBody}
use Rattle.formula_elab.proofs.body.OpenBody.filled.Goals as goal

pub add_lines-requires-clause-few : goal.add_lines-requires-clause-few
add_lines-requires-clause-few c = omega (
  arith,
  ap draft_size c.new-draft.ensures,
  ap (sum_by open_size) c.deref-2.ensures.value,
  ap (λ (o : OpenBody). size_of o.page) c.self.view_is,
  c.size.ensures,
  c.size.type_inv,
)
