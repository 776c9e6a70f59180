use Rattle.std.proofs.Common.{sym, ◌∙◌}
use Rattle.wiring.proofs.Linking.{none_if}
use Rattle.wiring.proofs.Room.{looks_still, looks_opened}
use Rattle.wiring.proofs.work.Work.make_room.Goals as goal

pub returns-in-Ok-add-clause-looks : goal.returns-in-Ok-add-clause-looks
returns-in-Ok-add-clause-looks c =
    let a = c.add.ensures in
    looks_opened c.args.self.now c.reserve.new.self c.add.new.self c.reserve.ensures.items a.links a.roots a.heap c.args.p
    (none_if _ (sym c.is_there.ensures ∙ c.if-is_there.false)) c.in-Ok-add.ensures.added

pub returns-in-Err-clause-looks : goal.returns-in-Err-clause-looks
returns-in-Err-clause-looks c =
    let a = c.add.ensures in
    looks_still c.args.self.now c.reserve.new.self c.add.new.self c.reserve.ensures.items a.links a.roots a.heap c.in-Err.ensures.err
