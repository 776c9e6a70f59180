use Rattle.std.proofs.Common.{sym}
use Rattle.node_arena.specs.Arena.{row_of}
use Rattle.stabilizer.proofs.parts.Parts.detach.Goals as goal

pub returns-in-Some-clause-detached : goal.returns-in-Some-clause-detached
returns-in-Some-clause-detached c = record {
  row = row_of c.in-Some.row.now;
  is_row = sym c.in-Some.ensures;
  detached = c.detach.ensures.detached;
  step = c.detach.ensures.step;
  rest = c.detach.ensures.rest;
}
