use Rattle.std.proofs.Common.{◌∙◌, ap}
use Rattle.link_table.specs.Ends.{ends_with}
use Rattle.point_rows.proofs.Cells.{times_is}
use Rattle.point_rows.proofs.Counted.{link_more}
use Rattle.point_rows.proofs.Turned.{if_some, if_none, standing_same}
use Rattle.point_rows.proofs.rows.PointRows.pop_kid.Goals as goal

pub returns-clause-removed : goal.returns-clause-removed
returns-clause-removed c =
    rw (← c.self.view_is) (if_some c.pop_ends.result _ _
    (λ q h. link_more c.pop_ends.new.rows c.self.inside.rows c.pop_ends.ensures.sound.once c.self.invariant.sound.once c.args.p q h)
    c.pop_ends.ensures.removed)

pub returns-clause-none : goal.returns-clause-none
returns-clause-none c =
    rw (← c.self.view_is) (if_none c.pop_ends.result
    (λ h q. times_is c.self.inside.rows c.self.invariant.sound.once c.args.p q ∙ ap (λ l. ends_with l q) h) c.pop_ends.ensures.none)

pub returns-clause-unchanged : goal.returns-clause-unchanged
returns-clause-unchanged c =
    if_none c.pop_ends.result
    (λ v. standing_same c.self.inside.heap.buckets c.self.inside.rows c.pop_ends.new.rows v ∙ c.self.view_is) c.pop_ends.ensures.unchanged
