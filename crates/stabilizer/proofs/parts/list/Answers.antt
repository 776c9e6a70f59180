use Rattle.std.proofs.Common.{◌∷◌, [], ◌-◌, inl, inr, refl, length}
use Rattle.inc_terms.proofs.Plan.{among_left, among_right, among_parts}
use Rattle.stabilizer.proofs.Between.Linking.{among_get}
use Rattle.stabilizer.proofs.parts.list.Goals as goal

pub returns-then-is_last-clause-listed : goal.returns-then-is_last-clause-listed
returns-then-is_last-clause-listed c = let items = c.args.points.now.items in
    among_get items (length items - 1) c.args.p (c.is_last.ensures c.if-is_last.true)

pub returns-clause-listed : goal.returns-clause-listed
returns-clause-listed c = let items = c.args.points.now.items in
    rw c.push_reserved.ensures.items (among_right c.args.p items (c.args.p ∷ []) (inl refl))

pub returns-clause-still : goal.returns-clause-still
returns-clause-still c q a = rw c.push_reserved.ensures.items (among_left q c.args.points.now.items (c.args.p ∷ []) a)

pub returns-clause-only : goal.returns-clause-only
returns-clause-only c q a = let items = c.args.points.now.items in
    elim (among_parts q items (c.args.p ∷ []) (rw c.push_reserved.ensures.items at a)) [
      | inl had ↦ inl had
      | inr now ↦ elim now [ inl is ↦ inr is | inr none ↦ absurd none ]
    ]
