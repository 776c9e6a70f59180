use Rattle.std.proofs.Common.{ap}
use Rattle.point_rows.proofs.Cells.{holds_row}
use Rattle.point_rows.proofs.Turned.{sound_kept}
use Rattle.point_rows.proofs.rows.PointRows.put.Goals as goal

pub put_in-requires-clause-there : goal.put_in-requires-clause-there
put_in-requires-clause-there c =
    holds_row c.self.inside.rows c.self.invariant.sound.once c.args.p (rw (← ap (λ w. w.heights) c.self.view_is) at c.requires.there)

pub invariant_of-self : goal.invariant_of-self
invariant_of-self c = record {
  sound = sound_kept c.self.inside.rows c.put_in.new.rows c.self.invariant.sound c.put_in.ensures.once c.put_in.ensures.rest;
  heap = c.put_in.ensures.heap;
}
