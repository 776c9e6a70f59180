use Rattle.std.proofs.Common.{◌≤◌, sym, subst, arith, vec_len}
use Rattle.std.specs.Prelude.{is_ok}
use Rattle.observers.specs.Keeping.{IsMarked}
use Rattle.observers.proofs.Marks.{marks_resized, resized_few}
use Rattle.observers.proofs.due.Due.widen.Goals as goal

pub invariant_of-self-2 : goal.invariant_of-self-2
invariant_of-self-2 c =
    let places = c.self.inside.places.items in
    let marked = c.self.inside.marked in
    let new = c.resize.new.self in
    let wider : vec_len marked ≤ c.args.width = (let a = c.if-width-len.false in let e = c.len.ensures in omega (arith, a, e)) in (
      subst (λ p. IsMarked p new.items) (sym c.reserve.ensures.items)
          (marks_resized (is_ok c.resize.result) places marked.items new.items c.args.width (vec_len marked) marked.ok.0 wider c.resize.ensures.items c.self.invariant.0),
      (let a = resized_few (is_ok c.resize.result) (vec_len new) c.args.width (vec_len marked) c.resize.ensures.len wider in
          let b = c.in_ok-reserve.ensures.ok in omega (arith, a, b, new.ok.0)),
    )
