use Rattle.std.proofs.Common.{◌∙◌, ap}
use Rattle.link_table.specs.Ends.{ends_with}
use Rattle.link_table.proofs.Counts.{link_more, times_of_ends}
use Rattle.link_table.proofs.table.LinkTable.pop_kid.Goals as goal

pub returns-in_default-clause-none : goal.returns-in_default-clause-none
returns-in_default-clause-none c q = rw (← ap (λ w. w.all) c.self.view_is) (
    times_of_ends c.self.inside.kids c.self.invariant.once c.args.p q ∙ ap (λ l. ends_with l q) c.in_default.ensures.none)

pub returns-clause-removed : goal.returns-clause-removed
returns-clause-removed c = rw (← c.self.view_is) (link_more c.pop_ends.new.kids c.self.inside.kids c.places-places.ensures.once c.self.invariant.once
    c.args.p c.in-Some.kid c.in-Some.ensures.removed)
