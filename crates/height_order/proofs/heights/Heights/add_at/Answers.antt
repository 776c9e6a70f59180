use Rattle.std.proofs.Common.{sym, subst, ◌≡◌}
use Rattle.std.specs.Prelude.{None}
use Rattle.point_map.specs.Rows.{at}
use Rattle.height_order.proofs.Sounding.{sound_added_at}
use Rattle.height_order.proofs.heights.Heights.add_at.Goals as goal

pub invariant_of-self : goal.invariant_of-self
invariant_of-self c =
    sound_added_at c.add_at.result c.self.inside.tables.heights c.add_at.new.heights c.args.p c.args.height c.self.inside.tables.links c.add_at.ensures.added c.add_at.ensures.err
    c.requires.low (subst (λ w. at w.heights c.args.p ≡ None) (sym c.self.view_is) c.requires.absent) c.self.invariant
