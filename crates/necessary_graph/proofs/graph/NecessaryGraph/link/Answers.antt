use Rattle.std.proofs.Common.{◌≡◌, ℕ, ap, refl, arith}
use Rattle.std.specs.Result.{IsErrAnd}
use Rattle.point_map.specs.Rows.{Rows}
use Rattle.necessity.specs.Need.{Roots, KeepsRoots}
use Rattle.necessity.proofs.Sound.{on_err}
use Rattle.necessary_graph.specs.Part.{NecessaryPart, Needed, part_of}
use Rattle.necessary_graph.specs.Sweep.{IsHeld}
use Rattle.necessary_graph.proofs.Linking.{IsFollowed, link_needs, linked_in_step, kept_in_step, newly_unless, exit_is, path_unless_over}
use Rattle.necessary_graph.proofs.Raising.{still_or_moved}
use Rattle.necessary_graph.proofs.Room.{room_kept}
use Rattle.necessary_graph.proofs.Standing.{held_exactly}
use Rattle.necessary_graph.proofs.graph.NecessaryGraph.link.Goals as goal

pub make_link-linked-requires : goal.make_link-linked-requires
make_link-linked-requires c =
    let inv = c.self.invariant.0 in
    let needed = rw (← c.self.view_is) at c.requires.needed in record {
      sound = record { ends = inv.ends; rises = inv.rises; low = inv.low };
      reader = inv.there c.args.p needed;
      kid = rw (← c.self.view_is) at c.requires.kid;
    }

pub raise_moved-requires-clause-due : goal.raise_moved-requires-clause-due
raise_moved-requires-clause-due c =
    let rows = c.self.inside.rows in
    let lk = c.make_link-linked in
    let heap : lk.new.table.heap ≡ rows.heap = ap (λ (x : Roots × Rows ℕ). x.1) lk.ensures.rest in
    rw (heap, c.deref.ensures.value) (still_or_moved rows.heights lk.new.table.heights rows.heap _ (λ a h e. (c.self.invariant.0.heap a h e).0)
    (rw c.clear.ensures.items at lk.ensures.answer.moved))

pub invariant_of-self : goal.invariant_of-self
invariant_of-self c =
    let rows = c.self.inside.rows in
    let lk = c.make_link-linked in
    let table = lk.new.table in
    let heap : table.heap ≡ rows.heap = ap (λ (x : Roots × Rows ℕ). x.1) lk.ensures.rest in
    let roots : table.roots ≡ rows.roots = ap (λ (x : Roots × Rows ℕ). x.0) lk.ensures.rest in
    let answer = lk.ensures.answer in
    let e = rw heap at c.raise_moved.ensures in
    let old : NecessaryPart = part_of rows in
    let new : NecessaryPart = record (part_of table) { heap = c.raise_moved.new.rows.heap } in
    let f : IsFollowed old new =
    record { points = answer.points; rises = answer.rises; low = answer.low; heap = e.points; heights = e.heights } in
    let kept : KeepsRoots old.roots new.roots = λ a. rw roots refl in
    rw c.raise_moved.ensures.rest (
      kept_in_step old new c.self.invariant.0 f kept c.in_err-linked.ensures.answer.err,
      room_kept rows.heights table.heights rows.heap new.heap c.self.inside.points c.self.invariant.1 answer.points e.points e.count
          (omega (arith, e.spare)),
    )

pub returns-in_err-linked-clause-err : goal.returns-in_err-linked-clause-err
returns-in_err-linked-clause-err c =
    rw (c.raise_moved.ensures.rest, ← c.self.view_is) (on_err c.from_residual.result c.in_err-linked.ensures.answer.err)

pub returns-in_err-linked-clause-path : goal.returns-in_err-linked-clause-path
returns-in_err-linked-clause-path c =
    let is : IsErrAnd c.from_residual.result (λ x. x ≡ c.in_err-linked.field-0.0) = c.from_residual.ensures.1 in
    rw (← c.self.view_is) (exit_is c.from_residual.result c.in_err-linked.field-0.0 _ is c.in_err-linked.ensures.answer.path)

pub returns-in_err-linked-clause-over : goal.returns-in_err-linked-clause-over
returns-in_err-linked-clause-over c =
    let is : IsErrAnd c.from_residual.result (λ x. x ≡ c.in_err-linked.field-0.0) = c.from_residual.ensures.1 in
    rw (← c.self.view_is) (exit_is c.from_residual.result c.in_err-linked.field-0.0 _ is c.in_err-linked.ensures.answer.over)

pub returns-in_err-linked-clause-over_no_path : goal.returns-in_err-linked-clause-over_no_path
returns-in_err-linked-clause-over_no_path c =
    let is : IsErrAnd c.from_residual.result (λ x. x ≡ c.in_err-linked.field-0.0) = c.from_residual.ensures.1 in
    rw (← c.self.view_is) (exit_is c.from_residual.result c.in_err-linked.field-0.0 _ is c.in_err-linked.ensures.answer.over_no_path)

pub returns-in_err-linked-clause-over_levelled : goal.returns-in_err-linked-clause-over_levelled
returns-in_err-linked-clause-over_levelled c =
    let is : IsErrAnd c.from_residual.result (λ x. x ≡ c.in_err-linked.field-0.0) = c.from_residual.ensures.1 in
    rw c.raise_moved.ensures.rest (exit_is c.from_residual.result c.in_err-linked.field-0.0 _ is c.in_err-linked.ensures.answer.over_levelled)

pub returns-clause-no_path : goal.returns-clause-no_path
returns-clause-no_path c = rw (← c.self.view_is) c.in_ok-linked.ensures.answer.no_path

pub returns-clause-no_over : goal.returns-clause-no_over
returns-clause-no_over c = rw (← c.self.view_is) c.in_ok-linked.ensures.answer.no_over

pub returns-in_err-linked-clause-path_kept : goal.returns-in_err-linked-clause-path_kept
returns-in_err-linked-clause-path_kept c =
    let is : IsErrAnd c.from_residual.result (λ x. x ≡ c.in_err-linked.field-0.0) = c.from_residual.ensures.1 in
    rw (c.raise_moved.ensures.rest, ← c.self.view_is)
    (exit_is c.from_residual.result c.in_err-linked.field-0.0 _ is (path_unless_over _ c.in_err-linked.field-0.0 c.in_err-linked.ensures.answer.kept))

pub invariant_of-self-2 : goal.invariant_of-self-2
invariant_of-self-2 c =
    let rows = c.self.inside.rows in
    let lk = c.make_link-linked in
    let table = lk.new.table in
    let heap : table.heap ≡ rows.heap = ap (λ (x : Roots × Rows ℕ). x.1) lk.ensures.rest in
    let roots : table.roots ≡ rows.roots = ap (λ (x : Roots × Rows ℕ). x.0) lk.ensures.rest in
    let answer = lk.ensures.answer in
    let e = rw heap at c.raise_moved.ensures in
    let old : NecessaryPart = part_of rows in
    let new : NecessaryPart = record (part_of table) { heap = c.raise_moved.new.rows.heap } in
    let f : IsFollowed old new =
    record { points = answer.points; rises = answer.rises; low = answer.low; heap = e.points; heights = e.heights } in
    let kept : KeepsRoots old.roots new.roots = λ a. rw roots refl in
    let needed = rw (← c.self.view_is) at c.requires.needed in
    let there = rw (← c.self.view_is) at c.requires.kid in
    rw c.raise_moved.ensures.rest (
      linked_in_step old new c.self.invariant.0 f c.args.p c.args.q needed there kept c.in_ok-linked.ensures.answer.linked,
      room_kept rows.heights table.heights rows.heap new.heap c.self.inside.points c.self.invariant.1 answer.points e.points e.count
          (omega (arith, e.spare)),
    )

pub returns-clause-newly : goal.returns-clause-newly
returns-clause-newly c =
    let old : NecessaryPart = part_of c.self.inside.rows in
    let held = held_exactly old c.self.invariant.0 c.args.q in
    rw (← c.self.view_is) (newly_unless c.is_held-newly.result (IsHeld old.links old.roots c.args.q) (Needed old c.args.q) c.is_held-newly.ensures held)

pub returns-clause-needed : goal.returns-clause-needed
returns-clause-needed c =
    let rows = c.self.inside.rows in
    let lk = c.make_link-linked in
    let table = lk.new.table in
    let roots : table.roots ≡ rows.roots = ap (λ (x : Roots × Rows ℕ). x.0) lk.ensures.rest in
    let old : NecessaryPart = part_of rows in
    let new : NecessaryPart = record (part_of table) { heap = c.raise_moved.new.rows.heap } in
    let kept : KeepsRoots old.roots new.roots = λ a. rw roots refl in
    let needed = rw (← c.self.view_is) at c.requires.needed in
    rw (c.raise_moved.ensures.rest, ← c.self.view_is)
    (link_needs old new c.args.p c.args.q c.self.invariant.0 needed kept c.in_ok-linked.ensures.answer.linked)

pub returns-in_err-linked-clause-in_step : goal.returns-in_err-linked-clause-in_step
returns-in_err-linked-clause-in_step c = (invariant_of-self c).0

pub returns-clause-in_step : goal.returns-clause-in_step
returns-clause-in_step c = (invariant_of-self-2 c).0
