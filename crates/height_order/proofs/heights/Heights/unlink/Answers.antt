use Rattle.height_order.proofs.Sounding.{sound_less}
use Rattle.height_order.proofs.heights.Heights.unlink.Goals as goal

pub invariant_of-self : goal.invariant_of-self
invariant_of-self c =
    sound_less c.remove.new.self c.self.inside.tables.links c.args.p c.args.q c.remove.ensures.removed c.self.inside.tables.heights c.self.invariant
