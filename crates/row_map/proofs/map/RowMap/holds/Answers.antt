use Rattle.std.proofs.Common.{◌∙◌, is_some, refl, ap}
use Rattle.point_map.specs.Rows.{at}
use Rattle.row_map.specs.Numbers.{rows_of}
use Rattle.row_map.proofs.Numbers.{held, once}
use Rattle.row_map.proofs.map.RowMap.holds.Goals as goal

pub returns-clause-value : goal.returns-clause-value
returns-clause-value g c =
    let i = c.self.inside in
    let p = c.args.p in
    c.holds.ensures ∙ (held i.numbers (rows_of i.rows.slots) c.self.invariant p (at i.numbers p) refl ∙ ap (λ m. is_some (at m p)) c.self.view_is)

pub returns-clause-once : goal.returns-clause-once
returns-clause-once g c = let i = c.self.inside in rw (← c.self.view_is) (once i.numbers (rows_of i.rows.slots) c.self.invariant)
