use Rattle.std.proofs.Common.{◌≡◌, ◌+◌, arith, refl, ap}
use Rattle.std.specs.Prelude.{is_some}
use Rattle.point_rows.specs.Standing.{Standing}
use Rattle.necessary_graph.specs.Part.{part_of}
use Rattle.necessary_graph.proofs.Rests.{added_rest}
use Rattle.necessary_graph.proofs.Room.{room_added, room_kept, one_more}
use Rattle.necessary_graph.proofs.Standing.{same_in_step, added_in_step}
use Rattle.necessary_graph.proofs.graph.NecessaryGraph.add.Goals as goal

pub add-requires : goal.add-requires
add-requires c = rw c.reserve.ensures.rest (record { absent = rw (← c.self.view_is) at c.requires.absent })

pub invariant_of-self-in_err-add : goal.invariant_of-self-in_err-add
invariant_of-self-in_err-add c =
    let rows = c.self.inside.rows in
    let inv = c.self.invariant in
    let e = c.reserve.ensures in
    rw (c.in_err-add.ensures.err, e.rest) (
      same_in_step (part_of rows) inv.0 rows.heights c.reserve.new.self.heap (λ a. refl) e.points,
      room_kept rows.heights rows.heights rows.heap c.reserve.new.self.heap c.self.inside.points inv.1 (λ a. refl) (λ a. ap is_some (e.points a))
          e.count e.spare,
    )

pub invariant_of-self-2 : goal.invariant_of-self-2
invariant_of-self-2 c =
    let i = c.self.inside in
    let rows = i.rows in
    let inv = c.self.invariant in
    let absent = rw (← c.self.view_is) at c.requires.absent in
    let e = c.reserve.ensures in
    let heights = c.add.new.self.heights in
    let heap = c.reserve.new.self.heap in
    let before : c.reserve.new.self.heights ≡ rows.heights = ap (λ (s : Standing). s.heights) e.rest in
    let added = rw before at c.in_ok-add.ensures.added in
    let more : c.in_ok-points.points ≡ i.points + 1 = one_more _ _ _ _ c.checked_add.ensures c.in_ok-points.ensures.ok_part in
    rw (added_rest rows c.reserve.new.self c.add.new.self e.rest c.add.ensures.rest, more) (
      added_in_step (part_of rows) inv.0 heights heap c.args.p c.args.height c.requires.low absent added e.points,
      room_added rows.heights heights rows.heap heap i.points c.args.p c.args.height inv.1 absent added e.points e.count
          (omega (arith, more, c.heap_len.ensures, e.count, c.in_ok-reserve.ensures.room)),
    )

pub returns-in_err-add-clause-in_step : goal.returns-in_err-add-clause-in_step
returns-in_err-add-clause-in_step c = (invariant_of-self-in_err-add c).0

pub returns-clause-in_step : goal.returns-clause-in_step
returns-clause-in_step c = (invariant_of-self-2 c).0
