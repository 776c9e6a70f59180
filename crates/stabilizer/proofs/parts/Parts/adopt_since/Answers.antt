use Rattle.std.proofs.Common.{◌≤◌, sym, subst, arith, Vec, Global}
use Rattle.std.specs.Prelude.{vec_capacity}
use Rattle.inc_value.specs.declared.node.NodeId.{NodeId}
use Rattle.necessity.proofs.Sound.{on_err}
use Rattle.node_arena.specs.Arena.{live}
use Rattle.stabilizer.proofs.Building.Adopting.{adopts_none, next_apart, next_plain, next_no_expert, next_given, next_low, adopts_more, adopts_same}
use Rattle.stabilizer.proofs.parts.Parts.adopt_since.Goals as goal

-- ---- before the first

pub returns-in_default-clause-some : goal.returns-in_default-clause-some
returns-in_default-clause-some c =
    let m = c.make_room_to_list in (
      c.args.count,
      adopts_none c.args.self.now m.new.called m.new.listed c.args.bind c.args.count c.requires.ready m.ensures.called.0 m.ensures.called.1 m.ensures.listed.0
          m.ensures.listed.1,
    )

pub loop-node-init : goal.loop-node-init
loop-node-init c =
    let m = c.make_room_to_list in record {
      low = omega arith;
      high = c.requires.ready.later;
      so = adopts_none c.args.self.now m.new.called m.new.listed c.args.bind c.args.count c.requires.ready m.ensures.called.0 m.ensures.called.1
          m.ensures.listed.0 m.ensures.listed.1;
      called = let room = c.in-Ok.ensures.room.0 in omega (arith, room);
      listed = let room = c.in-Ok.ensures.room.1 in omega (arith, room);
    }

-- ---- one more

pub adopt-requires-clause-apart : goal.adopt-requires-clause-apart
adopt-requires-clause-apart c = next_apart c.args.self.now c.loop-node.self c.args.bind c.in-Some.node c.args.count c.loop-node.next c.requires.ready
    c.loop-node.invariant.so c.loop-node.invariant.low c.in-Some.ensures.some

pub adopt-requires-clause-plain : goal.adopt-requires-clause-plain
adopt-requires-clause-plain c = next_plain c.args.self.now c.loop-node.self c.args.bind c.in-Some.node c.args.count c.loop-node.next c.requires.ready
    c.loop-node.invariant.so c.loop-node.invariant.low c.in-Some.ensures.some

pub adopt-requires-clause-no_expert : goal.adopt-requires-clause-no_expert
adopt-requires-clause-no_expert c = next_no_expert c.args.self.now c.loop-node.self c.args.bind c.in-Some.node c.args.count c.loop-node.next
    c.requires.ready c.loop-node.invariant.so c.loop-node.invariant.low c.in-Some.ensures.some

pub returns-in_err-adopt-clause-some : goal.returns-in_err-adopt-clause-some
returns-in_err-adopt-clause-some c =
    let a = c.in_err-adopt.ensures in
    on_err c.from_residual.result (
      c.loop-node.next,
      adopts_same c.args.self.now c.loop-node.self c.args.bind c.in-Some.node c.args.count c.loop-node.next c.requires.ready c.loop-node.invariant.so
          c.loop-node.invariant.low c.in-Some.ensures.some c.adopt.new.self a.rest a.arena a.timed a.dying a.ran a.err_rows a.err_points a.err_scopes,
    )

pub loop-node-preserved : goal.loop-node-preserved
loop-node-preserved c =
    let a = c.in_ok-adopt.ensures in record {
      low = next_low c.args.self.now c.loop-node.self c.args.bind c.in-Some.node c.args.count c.loop-node.next c.requires.ready c.loop-node.invariant.so
          c.loop-node.invariant.low c.in-Some.ensures.some;
      high = next_given c.args.self.now c.loop-node.self c.args.bind c.in-Some.node c.args.count c.loop-node.next c.requires.ready c.loop-node.invariant.so
          c.loop-node.invariant.low c.in-Some.ensures.some;
      so = adopts_more c.args.self.now c.loop-node.self c.args.bind c.in-Some.node c.args.count c.loop-node.next c.requires.ready c.loop-node.invariant.so
          c.loop-node.invariant.low c.in-Some.ensures.some c.adopt.new.self a.rest a.arena a.timed a.dying a.ran a.points a.enters;
      called = subst (λ (l : Vec NodeId Global). live c.args.self.now.arena ≤ vec_capacity l) (sym a.rest.round.ran) c.loop-node.invariant.called;
      listed = subst (λ (l : Vec NodeId Global). live c.args.self.now.arena ≤ vec_capacity l) (sym a.ran) c.loop-node.invariant.listed;
    }
