use Rattle.wiring.proofs.Deciding.{not_both}
use Rattle.wiring.proofs.Leaving.{todo_kept, wiring_first, wiring_skip, wiring_one, wiring_refused, wiring_last, looks_empty, one_less, was_listed}
use Rattle.std.proofs.Common.{◌∙◌, append-nil}
use Rattle.wiring.proofs.work.Work.wire.Goals as goal

pub loop-p-init : goal.loop-p-init
loop-p-init c = wiring_first c.args.arena.now c.args.self.now c.requires.kept

pub wire_one-requires-clause-kept : goal.wire_one-requires-clause-kept
wire_one-requires-clause-kept c = todo_kept c.args.arena.now c.loop-p.self c.pop.new.self c.loop-p.invariant.kept

pub returns-in-Err-clause-refused : goal.returns-in-Err-clause-refused
returns-in-Err-clause-refused c =
    wiring_refused c.args.arena.now c.args.self.now c.loop-p.self c.pop.new.self c.in-Some.p c.loop-p.invariant
    c.in-Some.ensures.items c.wire_one.new.self c.in-Err.refused (c.is_needed.ensures.0 c.if-is_needed.true) c.in-Err.ensures.refused

pub returns-in-Err-clause-listed : goal.returns-in-Err-clause-listed
returns-in-Err-clause-listed c =
    was_listed c.args.arena.now c.args.self.now c.loop-p.self c.pop.new.self c.in-Some.p c.loop-p.invariant
    c.in-Some.ensures.items

pub loop-p-smaller-in-Ok : goal.loop-p-smaller-in-Ok
loop-p-smaller-in-Ok c =
    one_less c.args.arena.now c.args.self.now c.loop-p.self c.pop.new.self c.in-Some.p c.loop-p.invariant
    c.in-Some.ensures.items c.wire_one.new.self c.in-Ok.ensures.pushed

pub loop-p-preserved-in-Ok : goal.loop-p-preserved-in-Ok
loop-p-preserved-in-Ok c =
    wiring_one c.args.arena.now c.args.self.now c.loop-p.self c.pop.new.self c.in-Some.p c.loop-p.invariant
    c.in-Some.ensures.items c.wire_one.new.self (c.is_needed.ensures.0 c.if-is_needed.true) c.in-Ok.ensures.wired c.wire_one.ensures.places
    c.wire_one.ensures.kept

pub loop-p-preserved : goal.loop-p-preserved
loop-p-preserved c =
    wiring_skip c.args.arena.now c.args.self.now c.loop-p.self c.pop.new.self c.in-Some.p c.loop-p.invariant
    c.in-Some.ensures.items (λ need. not_both c.is_needed.result c.if-is_needed.false (c.is_needed.ensures.1 need))

pub returns-clause-wired : goal.returns-clause-wired
returns-clause-wired c =
    wiring_last c.args.arena.now c.args.self.now c.loop-p.self (record c.loop-p.self { todo = c.pop.new.self }) c.loop-p.invariant
    (looks_empty c.loop-p.self c.pop.new.self (c.in_default.ensures.items ∙ append-nil c.pop.new.self.items))

pub returns-clause-kept : goal.returns-clause-kept
returns-clause-kept c = todo_kept c.args.arena.now c.loop-p.self c.pop.new.self c.loop-p.invariant.kept

pub wire_one-requires-clause-needed : goal.wire_one-requires-clause-needed
wire_one-requires-clause-needed c = c.is_needed.ensures.0 c.if-is_needed.true
