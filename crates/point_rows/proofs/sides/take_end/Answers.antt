use Rattle.std.proofs.Common.{◌≡◌, ◌∙◌, ℕ, refl, ap, sym, subst}
use Rattle.std.specs.Prelude.{Option, Some}
use Rattle.inc_value.specs.declared.node.Point.{Point}
use Rattle.link_table.specs.declared.ends.End.{End}
use Rattle.link_table.specs.declared.ends.EndLists.{EndLists}
use Rattle.link_table.specs.Ends.{end, end_at, EndIsSet, IsTold}
use Rattle.point_rows.specs.declared.row.Side.{Side}
use Rattle.point_rows.specs.declared.row.Side.TheVariants.{Kids, Readers}
use Rattle.point_rows.specs.Cells.{beyond}
use Rattle.point_rows.proofs.sides.take_end.Goals as goal

-- the other side of the other side is this one
back_again : (s : Side) → beyond (beyond s) ≡ s
back_again Kids = refl
back_again Readers = refl

told_by : (o : Option End) (old new : EndLists) (p : Point) (i : ℕ) (moved : End) → o ≡ Some moved
    → EndIsSet old new moved.point moved.back (end p i) → IsTold o old new p i
told_by o old new p i moved h set = subst (λ (e : Option End). IsTold e old new p i) (sym h) set

pub returns-in-Some-clause-taken : goal.returns-in-Some-clause-taken
returns-in-Some-clause-taken c e was =
    let kept = rw (c.beyond.ensures, back_again c.args.side) at c.set.ensures.beyond in rw kept (c.take.ensures.taken e was)

pub returns-in-Some-clause-told : goal.returns-in-Some-clause-told
returns-in-Some-clause-told c =
    let kept = rw (c.beyond.ensures, back_again c.args.side) at c.set.ensures.beyond in
    let set = rw (c.beyond.ensures, c.take.ensures.beyond) at c.set.ensures.set in
    told_by _ _ _ c.args.p c.args.i c.in-Some.moved
    (ap (λ l. end_at l c.args.p c.args.i) kept ∙ sym c.take.ensures.moved ∙ c.in-Some.is) set
