use Rattle.std.proofs.Common.{ap}
use Rattle.std.proofs.lemmas.Result.{on_ok_weaker, on_err_weaker}
use Rattle.point_rows.proofs.Cells.{holds_row}
use Rattle.point_rows.proofs.Counted.{link_more, links_kept}
use Rattle.point_rows.proofs.rows.PointRows.add_link.Goals as goal

pub add_ends-requires-clause-reader : goal.add_ends-requires-clause-reader
add_ends-requires-clause-reader c =
    holds_row c.self.inside.rows c.self.invariant.sound.once c.args.p (rw (← ap (λ w. w.heights) c.self.view_is) at c.requires.reader)

pub add_ends-requires-clause-kid : goal.add_ends-requires-clause-kid
add_ends-requires-clause-kid c =
    holds_row c.self.inside.rows c.self.invariant.sound.once c.args.q (rw (← ap (λ w. w.heights) c.self.view_is) at c.requires.kid)

pub returns-clause-added : goal.returns-clause-added
returns-clause-added c =
    rw (← c.self.view_is) (on_ok_weaker c.add_ends.result
    (λ more. link_more c.self.inside.rows c.add_ends.new.rows c.self.invariant.sound.once c.add_ends.ensures.sound.once c.args.p c.args.q more)
    c.add_ends.ensures.added)

pub returns-clause-err : goal.returns-clause-err
returns-clause-err c =
    rw (← c.self.view_is) (on_err_weaker c.add_ends.result
    (λ kept. links_kept c.self.inside.rows c.add_ends.new.rows c.self.invariant.sound.once c.add_ends.ensures.sound.once kept)
    c.add_ends.ensures.err)
