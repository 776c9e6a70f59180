use Rattle.link_table.specs.Walks.{readers_left}
use Rattle.wiring.proofs.Gathering.{IsGathering}
use Rattle.wiring.proofs.wire.gather_gated.Given as goal

abbrev pub invariant-loop-reader : goal.invariant-loop-reader
invariant-loop-reader l = IsGathering l.graph.links l.rows l.fn.gate l.fn.todo.items l.todo.items (readers_left l.reader-iterator)
