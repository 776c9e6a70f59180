use Rattle.std.proofs.Common.{ap, sym}
use Rattle.link_table.proofs.Counts.{times_of_readers}
use Rattle.link_table.proofs.table.LinkTable.readers.Goals as goal

pub returns : goal.returns
returns c r =
    rw (c.of.ensures, ← ap (λ w. w.all) c.self.view_is) (sym (times_of_readers c.self.inside.kids c.self.inside.readers c.self.invariant r c.args.q))
