use Rattle.point_rows.proofs.Turned.{sound_kept}
use Rattle.point_rows.proofs.rows.PointRows.pop_least.Goals as goal

pub invariant_of-self : goal.invariant_of-self
invariant_of-self c = record {
  sound = sound_kept c.self.inside.rows c.take_least.new.rows c.self.invariant.sound c.take_least.ensures.once c.take_least.ensures.rest;
  heap = c.take_least.ensures.heap;
}

pub invariant_of-self-2 : goal.invariant_of-self-2
invariant_of-self-2 c = record {
  sound = sound_kept c.self.inside.rows c.take_least.new.rows c.self.invariant.sound c.take_least.ensures.once c.take_least.ensures.rest;
  heap = c.take_least.ensures.heap;
}
