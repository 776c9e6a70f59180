use Rattle.std.proofs.Common.{refl, sym, subst, arith}
use Rattle.height_order.specs.Levels.{AreSoundHeights}
use Rattle.height_order.proofs.Sounding.{sound_same, sound_higher}
use Rattle.height_order.proofs.Answering.{memory_told, made_still}
use Rattle.height_order.proofs.linking.make_link.Goals as goal

pub returns-in-Ok-clause-sound : goal.returns-in-Ok-clause-sound
returns-in-Ok-clause-sound g c =
    let old = g.T.HeightTable.web c.args.table.now in
    let new = g.T.HeightTable.web c.add_link.new.self in
    subst (λ h. AreSoundHeights h new.links) (sym c.add_link.ensures.heights)
    (sound_higher old.heights old.links new.links c.args.new.reader c.args.new.kid c.in-Ok.ensures.added c.requires.sound c.requires.reader c.requires.kid
    (let a = c.level_of.ensures in let b = c.level_of-2.ensures in let t = c.if-level_of.true in omega (arith, a, b, t)))

pub returns-in-Ok-clause-answer : goal.returns-in-Ok-clause-answer
returns-in-Ok-clause-answer g c =
    made_still (g.T.HeightTable.web c.args.table.now) c.args.new.reader c.args.new.kid c.args.moved.now.items (g.T.HeightTable.web c.add_link.new.self) tt
    c.in-Ok.ensures.added (returns-in-Ok-clause-sound g c) c.add_link.ensures.heights

pub returns-in-Err-clause-sound : goal.returns-in-Err-clause-sound
returns-in-Err-clause-sound g c =
    let old = g.T.HeightTable.web c.args.table.now in
    let new = g.T.HeightTable.web c.add_link.new.self in
    subst (λ h. AreSoundHeights h new.links) (sym c.add_link.ensures.heights) (sound_same old.links new.links old.heights c.in-Err.ensures.err c.requires.sound)

pub returns-in-Err-clause-answer : goal.returns-in-Err-clause-answer
returns-in-Err-clause-answer g c =
    memory_told (g.T.HeightTable.web c.args.table.now) c.args.new.reader c.args.new.kid c.args.moved.now.items (g.T.HeightTable.web c.add_link.new.self)
    c.args.moved.now.items c.in-Err.ensures.err c.add_link.ensures.heights refl (returns-in-Err-clause-sound g c)
