use Rattle.std.proofs.Common.{ap, sym}
use Rattle.link_table.proofs.Counts.{times_of_ends}
use Rattle.link_table.proofs.table.LinkTable.kids.Goals as goal

pub returns : goal.returns
returns c k = rw (c.of.ensures, ← ap (λ w. w.all) c.self.view_is) (sym (times_of_ends c.self.inside.kids c.self.invariant.once c.args.p k))
