use Rattle.std.proofs.Common.{◌∙◌, ap, sym, inl, inr, arith}
use Rattle.std.specs.Prelude.{option_and_then, unwrap_or}
use Rattle.link_table.specs.Ends.{row_ends}
use Rattle.point_rows.specs.declared.row.Side.TheVariants.{Readers}
use Rattle.point_rows.specs.Cells.{roots_in, side_in}
use Rattle.point_rows.proofs.Cells.{ends_is, roots_is}
use Rattle.point_rows.proofs.Counted.{read_when, read_none}
use Rattle.point_rows.proofs.Ending.{ends_here}
use Rattle.point_rows.proofs.Turned.{roots_here, lt_true}
use Rattle.point_rows.proofs.rows.PointRows.is_held.Goals as goal

pub returns-then-row-gt0 : goal.returns-then-row-gt0
returns-then-row-gt0 c =
    let roots = roots_here c.self.inside.rows c.self.invariant.sound.once c.args.p c.in-Some.row.now c.in-Some.ensures.value in
    let some = c.if-row-gt0.true in
    rw (← c.self.view_is) ((λ t. inl (omega (arith, roots, some)), λ held. lt_true c.in-Some.row.now.roots (omega (arith, some))))

pub returns-else-row-gt0 : goal.returns-else-row-gt0
returns-else-row-gt0 c =
    let m = c.self.inside.rows in let s = c.self.invariant.sound in
    let roots = roots_here m s.once c.args.p c.in-Some.row.now c.in-Some.ensures.value in
    let none = c.if-row-gt0.false in
    let read = read_when m s c.args.p c.in-Some.row.now.readers.items c.is_empty.result
    (sym (ends_here m c.args.p c.in-Some.row.now Readers s.once c.in-Some.ensures.value)) c.is_empty.ensures in
    rw (← c.self.view_is) ((
      λ t. inr (read.0 t),
      λ held. elim held [ inl root ↦ absurd (omega (arith, root, roots, none)) | inr is_read ↦ read.1 is_read ],
    ))

pub returns-in-None : goal.returns-in-None
returns-in-None c =
    let m = c.self.inside.rows in let s = c.self.invariant.sound in
    let roots = roots_is m s.once c.args.p ∙ ap (λ o. unwrap_or (option_and_then roots_in o) 0) (sym c.in-None.ensures.value) in
    let ends = ends_is m s.once c.args.p Readers ∙ ap (λ o. row_ends (option_and_then (side_in Readers) o)) (sym c.in-None.ensures.value) in
    rw (← c.self.view_is) ((
      λ t. absurd (let e = t in cc),
      λ held. elim held [ inl root ↦ absurd (omega (arith, root, roots)) | inr is_read ↦ absurd (read_none m s c.args.p ends is_read) ],
    ))
