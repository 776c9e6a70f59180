use Rattle.std.proofs.Common.{◌<◌, ◌∷◌, [], ap, sym, subst, refl, inl, arith, length, slice_set, true}
use Rattle.inc_value.specs.Choice.{Among}
use Rattle.observers.specs.Keeping.{IsMarked}
use Rattle.observers.proofs.Lists.{among_left, among_right, set_length}
use Rattle.observers.proofs.Marks.{marks, marked_there, room_for}
use Rattle.observers.proofs.due.Due.put.Goals as goal
use Rattle.observers.proofs.due.Due.put.Goals.{else-i-len-via-then-i-len+else-not-index, else-i-len-via-else-i-len}

pub push_reserved-requires : goal.push_reserved-requires
push_reserved-requires c =
    let places = c.self.inside.places in
    let marked = c.self.inside.marked in
    let lt : c.args.place < length marked.items = (let a = c.if-i-len.true in let e = c.len.ensures in omega (arith, a, e, marked.ok.0)) in
    let room = room_for places.items marked.items c.args.place c.index.result.now c.self.invariant.0 lt c.index.ensures c.if-not-index.true in
    (let d = c.self.invariant.1 in omega (arith, room, d, places.ok.0))

pub invariant_of-self : goal.invariant_of-self
invariant_of-self c =
    let places = c.self.inside.places in
    let marked = c.self.inside.marked in
    let lt : c.args.place < length marked.items = (let a = c.if-i-len.true in let e = c.len.ensures in omega (arith, a, e, marked.ok.0)) in (
      subst (λ p. IsMarked p (slice_set marked.items c.args.place true)) (sym c.push_reserved.ensures.items)
          (marks places.items marked.items c.args.place c.index.result.now c.self.invariant.0 lt c.index.ensures c.if-not-index.true),
      (let a = set_length marked.items c.args.place true in let d = c.self.invariant.1 in let e = c.push_reserved.ensures.capacity in omega (arith, a, d, e)),
    )

pub returns-then-not-index-clause-there : goal.returns-then-not-index-clause-there
returns-then-not-index-clause-there c lt =
    subst (Among c.args.place) (sym c.push_reserved.ensures.items) (among_right c.args.place c.self.inside.places.items (c.args.place ∷ []) (inl refl))

pub returns-then-not-index-clause-stay : goal.returns-then-not-index-clause-stay
returns-then-not-index-clause-stay c i a =
    subst (Among i) (sym c.push_reserved.ensures.items)
    (among_left i c.self.inside.places.items (c.args.place ∷ []) (subst (λ s. Among i s.places) (sym c.self.view_is) a))

pub returns-else-i-len-clause-there : goal.returns-else-i-len-clause-there
returns-else-i-len-clause-there c lt =
    let places = c.self.inside.places in
    let marked = c.self.inside.marked in
    let width = ap (λ s. s.width) c.self.view_is in
    let within : c.args.place < length marked.items = omega (arith, lt, width) in
    elim c.else-i-len.branch [
      | else-i-len-via-then-i-len+else-not-index w ↦ subst (λ s. Among c.args.place s.places) c.self.view_is
          (marked_there places.items marked.items c.args.place w.index.result.now c.self.invariant.0 within w.index.ensures w.if-not-index.false)
      | else-i-len-via-else-i-len w ↦ absurd (let a = w.if-i-len.false in let e = c.len.ensures in omega (arith, a, e, within, marked.ok.0))
    ]
