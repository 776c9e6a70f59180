use Rattle.std.proofs.Common.{arith, ◌≡◌, List, ap, subst, length, to_z, of_z, w64}
use Rattle.std.specs.Prelude.{int_le}
use Rattle.std.proofs.lemmas.Int.{ints}
use Rattle.std.proofs.lemmas.Result.{on_ok_weaker}
use Rattle.timing_wheel.specs.Alarms.{Alarm, due_by, keys_of, OneLeaves}
use Rattle.clock_nodes.proofs.Alarms.{few_sifted}
use Rattle.clock_nodes.proofs.settle.make_room.Goals as goal

pub returns-then-is_quiet-clause-room : goal.returns-then-is_quiet-clause-room
returns-then-is_quiet-clause-room c =
    let alarms = c.args.wheel.now.alarms in
    let to : to_z w64 (of_z w64 c.args.to) ≡ c.args.to = omega (arith, ints, c.ranges.to) in
    let none = ap (λ (l : List Alarm). length (keys_of l)) (c.is_quiet.ensures.quiet c.if-is_quiet.true) in
    let same = ap (λ t. length (keys_of (due_by t alarms))) to in
    omega (arith, none, same)

pub returns-clause-room : goal.returns-clause-room
returns-clause-room c =
    let few = few_sifted (λ (b : Alarm). int_le b.deadline c.args.to) c.args.wheel.now.alarms in
    let many = c.len.ensures in
    on_ok_weaker c.reserve.result (λ room. omega (arith, few, many, room)) c.reserve.ensures.ok

pub returns-clause-memory : goal.returns-clause-memory
returns-clause-memory c = λ _.
    let to : to_z w64 (of_z w64 c.args.to) ≡ c.args.to = omega (arith, ints, c.ranges.to) in
    subst (OneLeaves c.args.wheel.now) to (c.is_quiet.ensures.leaves c.if-is_quiet.false)
