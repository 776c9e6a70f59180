use Rattle.std.proofs.Common.{ap}
use Rattle.link_table.proofs.Counts.{row_is_read}
use Rattle.link_table.proofs.table.LinkTable.is_read.Goals as goal

pub returns : goal.returns
returns c =
    let read = row_is_read c.self.inside.kids c.self.inside.readers c.self.invariant c.args.q in
    rw (c.holds.ensures, ← ap (λ w. w.all) c.self.view_is) read
