use Rattle.std.proofs.Common.{◌≡◌, ◌≤◌, ◌+◌}
use Rattle.std.specs.Prelude.{vec_len, vec_capacity}
use Rattle.height_order.specs.Climbs.{lifted}
use Rattle.height_order.proofs.Moving.{Writes}
use Rattle.height_order.proofs.lifts.write_lifts.Given as goal

abbrev pub invariant-loop-i : goal.invariant-loop-i
invariant-loop-i g l =
    let web = g.T.HeightTable.web in record {
      writes : Writes l.lifts (lifted (web l.fn.table).heights l.lifts) (web l.fn.table).heights l.fn.moved.items (web l.table).heights l.moved.items l.i;
      links : (web l.table).links ≡ (web l.fn.table).links;
      rest : g.T.HeightTable.rest l.table ≡ g.T.HeightTable.rest l.fn.table;
      room : vec_len l.moved + l.places ≤ vec_capacity l.moved + l.i;
    }
