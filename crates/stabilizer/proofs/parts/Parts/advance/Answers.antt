use Rattle.std.proofs.Common.{◌≡◌, ◌∙◌, arith, sym, subst, to_z, of_z, w64}
use Rattle.std.proofs.lemmas.Int.{ints}
use Rattle.timed_nodes.specs.Timed.{KeepsClock, IsMovedTo}
use Rattle.stabilizer.specs.declared.parts.Parts.{Parts}
use Rattle.stabilizer.proofs.Between.Advancing.{advanced_stays, timed_stays}
use Rattle.stabilizer.proofs.parts.Parts.advance.Goals as goal

-- ---- it was refused

pub returns-in-Err-clause-stays : goal.returns-in-Err-clause-stays
returns-in-Err-clause-stays c = timed_stays c.args.self.now c.take_in.new.self c.requires.kept c.take_in.ensures.kept

pub returns-in-Err-move_to-clause-stays : goal.returns-in-Err-move_to-clause-stays
returns-in-Err-move_to-clause-stays c =
    timed_stays c.args.self.now c.move_to.new.self c.requires.kept
    (subst (KeepsClock c.args.self.now.arena) (sym c.in-Err-move_to.ensures.err) c.take_in.ensures.kept)

-- ---- the time moved

pub returns-in-Ok-move_to-clause-stays : goal.returns-in-Ok-move_to-clause-stays
returns-in-Ok-move_to-clause-stays c =
    let m = c.move_to-in-Ok-move_to.ensures in
    let s = c.schedule_stale.ensures in
    let f = c.in-Ok-move_to.ensures in
    let to = to_z w64 (of_z w64 c.args.to) in
    let moved : IsMovedTo c.args.self.now.arena c.move_to-in-Ok-move_to.new.self to
    = record { time = m.time; rows = m.rows; live = m.live; given = m.given } in
    advanced_stays c.args.self.now c.schedule_stale.new.self c.take_in.new.self c.move_to.new.self c.move_to-in-Ok-move_to.new.self to c.requires.kept
    c.take_in.ensures.kept c.in-Ok.ensures.all f.stale f.time c.move_to.ensures.watched c.move_to.ensures.taken moved m.sound s.marked s.none s.step s.rest

pub returns-in-Ok-move_to-clause-moved : goal.returns-in-Ok-move_to-clause-moved
returns-in-Ok-move_to-clause-moved c =
    let m = c.move_to-in-Ok-move_to.ensures in
    let same : to_z w64 (of_z w64 c.args.to) ≡ c.args.to = omega (arith, ints, c.ranges.to) in
    let moved : IsMovedTo c.args.self.now.arena c.move_to-in-Ok-move_to.new.self c.args.to
    = record { time = m.time ∙ same; rows = m.rows; live = m.live; given = m.given } in
    subst (λ (p : Parts). IsMovedTo c.args.self.now.arena p.arena c.args.to) (sym c.schedule_stale.ensures.rest) moved
