use Rattle.std.proofs.lemmas.Result.{on_ok_weaker, on_err_weaker}
use Rattle.link_table.proofs.Counts.{link_more, links_kept}
use Rattle.link_table.proofs.table.LinkTable.add.Goals as goal

pub returns-clause-added : goal.returns-clause-added
returns-clause-added c =
    rw (← c.self.view_is) (on_ok_weaker c.add_ends-done.result
    (λ more. link_more c.self.inside.kids c.add_ends-done.new.kids c.self.invariant.once c.places-places.ensures.once c.args.p c.args.q more)
    c.add_ends-done.ensures.added)

pub returns-clause-err : goal.returns-clause-err
returns-clause-err c =
    rw (← c.self.view_is) (on_err_weaker c.add_ends-done.result
    (λ kept. links_kept c.self.inside.kids c.add_ends-done.new.kids c.self.invariant.once c.places-places.ensures.once kept)
    c.add_ends-done.ensures.err)
