use Rattle.std.proofs.Common.{ap}
use Rattle.link_table.proofs.Beside.{reads_one}
use Rattle.link_table.proofs.Counts.{link_more}
use Rattle.link_table.proofs.table.LinkTable.pop_kid_beside.Goals as goal

pub returns-in_default-clause-none : goal.returns-in_default-clause-none
returns-in_default-clause-none c q = rw (← ap (λ w. w.all) c.self.view_is) (
    reads_one c.self.inside.kids c.self.invariant.once c.args.p c.args.kept c.of.result.now c.of.ensures c.in_default.ensures.none q)

pub returns-clause-removed : goal.returns-clause-removed
returns-clause-removed c = rw (← c.self.view_is) (link_more c.remove_ends.new.kids c.self.inside.kids c.places-places.ensures.once
    c.self.invariant.once c.args.p c.in-Some.last.point c.remove_ends.ensures.removed)
