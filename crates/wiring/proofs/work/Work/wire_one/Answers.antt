use Rattle.std.proofs.Common.{◌∙◌, [], refl, sym}
use Rattle.node_arena.specs.Arena.{row_of}
use Rattle.wiring.proofs.Answering.{taken_answers, gate_refused, gate_left, gate_passed}
use Rattle.wiring.proofs.Deciding.{not_both}
use Rattle.wiring.proofs.Ghosts.{dead_owes, live_rowed}
use Rattle.wiring.proofs.Owing.{owes_unless}
use Rattle.wiring.proofs.work.Work.wire_one.Goals as goal

-- ---- a point of a dead node

pub wire_ghost-requires-clause-dead : goal.wire_ghost-requires-clause-dead
wire_ghost-requires-clause-dead c = sym c.in_default.ensures

pub returns-in_default : goal.returns-in_default
returns-in_default c = taken_answers c.wire_ghost.result c.args.arena.now c.args.self.now c.wire_ghost.new.self c.args.p []
    (dead_owes c.args.arena.now c.args.self.now c.args.p (sym c.in_default.ensures) c.requires.kept) c.wire_ghost.ensures

-- ---- a point of a live node

pub wire_gate-requires-clause-row : goal.wire_gate-requires-clause-row
wire_gate-requires-clause-row c = (row_of c.in-Some.row.now, sym c.in-Some.ensures, refl)

pub wire_gate-requires-clause-there : goal.wire_gate-requires-clause-there
wire_gate-requires-clause-there c =
    live_rowed c.args.arena.now c.args.self.now c.args.p (row_of c.in-Some.row.now) c.requires.kept c.requires.needed (sym c.in-Some.ensures)

-- ---- one that has all its links

pub wire_fresh-requires-clause-full : goal.wire_fresh-requires-clause-full
wire_fresh-requires-clause-full c = c.is_full.ensures.0 c.if-is_full.true

-- ---- one that hasn't

pub wire_gate-requires-clause-partly : goal.wire_gate-requires-clause-partly
wire_gate-requires-clause-partly c full = not_both c.is_full.result c.if-is_full.false (c.is_full.ensures.1 full)

pub returns-in-Err : goal.returns-in-Err
returns-in-Err c =
    gate_refused _ c.in-Err.refused c.args.arena.now c.args.self.now c.wire_gate.new.self c.args.p
    (owes_unless c.args.self.now c.args.p c.is_full.result c.is_full.ensures c.if-is_full.false) refl c.in-Err.ensures

pub returns-in-Ok-false : goal.returns-in-Ok-false
returns-in-Ok-false c =
    gate_left _ _ c.args.arena.now c.args.self.now c.wire_gate.new.self c.args.p c.in-Ok-false.field-0-test c.in-Ok-false.ensures

pub wire_rest-requires : goal.wire_rest-requires
wire_rest-requires c =
    let pass = c.in-Ok-true.ensures.passes c.in-Ok-true.field-0-test in record {
      needed = pass.needed;
      row = (row_of c.in-Some.row.now, sym c.in-Some.ensures, refl);
      there = c.in-Ok-true.ensures.places.rows c.args.p
          ∙ live_rowed c.args.arena.now c.args.self.now c.args.p (row_of c.in-Some.row.now) c.requires.kept c.requires.needed (sym c.in-Some.ensures);
      lacking = pass.lacking;
      ran = pass.ran;
      kept = c.in-Ok-true.ensures.kept;
    }

pub returns-in-Ok-true : goal.returns-in-Ok-true
returns-in-Ok-true c =
    gate_passed c.wire_rest.result _ c.args.arena.now c.args.self.now c.wire_gate.new.self c.wire_rest.new.self c.args.p
    (owes_unless c.args.self.now c.args.p c.is_full.result c.is_full.ensures c.if-is_full.false) c.in-Ok-true.field-0-test
    c.in-Ok-true.ensures c.wire_rest.ensures
