use Rattle.necessity.proofs.Reaching.{needed_exactly}
use Rattle.necessity.proofs.needs.Needs.is_needed.Goals as goal

pub returns : goal.returns
returns c =
    let exactly = needed_exactly c.self.inside.links c.self.inside.rows c.self.invariant.at_rest c.self.invariant.acyclic c.args.p in
    rw (c.is_above_zero.ensures, c.need_of.ensures, ← c.self.view_is) exactly
