use Rattle.std.proofs.Common.{sym, subst, ◌≡◌}
use Rattle.inc_value.specs.declared.node.Point.{Point}
use Rattle.link_table.specs.Links.{times}
use Rattle.height_order.proofs.Sounding.{sound_dropped}
use Rattle.height_order.proofs.heights.Heights.drop_point.Goals as goal

pub invariant_of-self : goal.invariant_of-self
invariant_of-self c =
    sound_dropped c.self.inside.tables.heights c.remove.new.self c.args.p c.self.inside.tables.links c.remove.ensures.changes
    (subst (λ w. (q : Point) → times w.links c.args.p q ≡ 0) (sym c.self.view_is) c.requires.reads_none)
    (subst (λ w. (q : Point) → times w.links q c.args.p ≡ 0) (sym c.self.view_is) c.requires.unread) c.self.invariant
