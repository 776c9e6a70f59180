use Rattle.std.proofs.Common.{ℕ, drop}
use Rattle.point_rows.specs.Standing.{readers_in}
use Rattle.necessary_graph.specs.Readers.{HasHeights}
use Rattle.necessary_graph.specs.Room.{HasRoom}
use Rattle.necessary_graph.proofs.Rests.{HeapAlone}
use Rattle.necessary_graph.proofs.Telling.{IsTelling}
use Rattle.necessary_graph.proofs.readers.put_readers.Given as goal

abbrev pub invariant-loop-i : goal.invariant-loop-i
invariant-loop-i g l =
    let old = l.fn.rows in record {
      telling : IsTelling old.heights old.links l.fn.q (g.S.Skip.skipped l.skip) old.heap l.rows.heap (drop l.i (readers_in old l.fn.q));
      rest : HeapAlone old l.rows;
      heights : HasHeights old.heights l.rows.heap;
      room : (points : ℕ) → HasRoom old.heights old.heap points → HasRoom old.heights l.rows.heap points;
    }
