use Rattle.std.proofs.Common.{◌≡◌, refl, sym, subst, arith}
use Rattle.inc_value.specs.declared.node.Point.{Point}
use Rattle.point_map.specs.Rows.{Holds}
use Rattle.link_table.specs.Links.{OneLinkMore}
use Rattle.height_order.specs.Levels.{level, AreSoundHeights, KeepsPoints, Tells}
use Rattle.height_order.specs.Climbs.{lifted}
use Rattle.height_order.proofs.Sounding.{sound_same, sound_lifted, lifted_near}
use Rattle.height_order.proofs.Answering.{memory_told, made_told}
use Rattle.height_order.proofs.linking.link_climbed.Goals as goal

pub returns-in-Err-clause-answer : goal.returns-in-Err-clause-answer
returns-in-Err-clause-answer g c =
    let old = g.T.HeightTable.web c.args.table.now in
    memory_told old c.args.new.reader c.args.new.kid c.args.moved.now.items old c.reserve.new.self.items (λ a b. refl) refl c.reserve.ensures.items c.requires.sound

pub write_lifts-requires-clause-there : goal.write_lifts-requires-clause-there
write_lifts-requires-clause-there g c =
    subst (λ h. (x : Point) → Holds c.args.lifts.now x → Holds h x) (sym c.add_link.ensures.heights) c.requires.climbed.there

pub write_lifts-requires-clause-room : goal.write_lifts-requires-clause-room
write_lifts-requires-clause-room g c = c.in-Ok.ensures.ok

pub returns-in-Ok-add_link-clause-sound : goal.returns-in-Ok-add_link-clause-sound
returns-in-Ok-add_link-clause-sound g c =
    let old = g.T.HeightTable.web c.args.table.now in
    let more = g.T.HeightTable.web c.add_link.new.self in
    let new = g.T.HeightTable.web c.write_lifts.new.table in
    let same = c.add_link.ensures.heights in
    subst (AreSoundHeights new.heights) (sym c.write_lifts.ensures.links)
    (sound_lifted old.heights new.heights old.links c.args.new.reader c.args.new.kid c.args.lifts.now
    c.requires.sound c.requires.climbed (c.any_too_high.ensures.low c.if-any_too_high.false)
    (subst (λ h. (x : Point) → level new.heights x ≡ lifted h c.args.lifts.now x) same c.write_lifts.ensures.written) more.links c.in-Ok-add_link.ensures.added
    (subst (λ h. KeepsPoints h new.heights) same c.write_lifts.ensures.points) c.requires.reader c.requires.kid)

pub returns-in-Ok-add_link-clause-answer : goal.returns-in-Ok-add_link-clause-answer
returns-in-Ok-add_link-clause-answer g c =
    let old = g.T.HeightTable.web c.args.table.now in
    let new = g.T.HeightTable.web c.write_lifts.new.table in
    let p = c.args.new.reader in
    let q = c.args.new.kid in
    let same = c.add_link.ensures.heights in
    let after = c.write_lifts.new.moved.items in
    made_told old p q c.args.moved.now.items new after tt
    (subst (λ l. OneLinkMore old.links l p q) (sym c.write_lifts.ensures.links) c.in-Ok-add_link.ensures.added) (returns-in-Ok-add_link-clause-sound g c)
    (λ higher. absurd (let n = c.requires.not_higher in omega (arith, higher, n)))
    (lifted_near old.heights new.heights old.links p q c.args.lifts.now c.requires.sound c.requires.climbed (c.any_too_high.ensures.low c.if-any_too_high.false)
    (subst (λ h. (x : Point) → level new.heights x ≡ lifted h c.args.lifts.now x) same c.write_lifts.ensures.written))
    (subst (λ h. KeepsPoints h new.heights) same c.write_lifts.ensures.points)
    (subst (λ h. Tells (level h) (level new.heights) c.args.moved.now.items after) same
    (subst (λ b. Tells (level (g.T.HeightTable.web c.add_link.new.self).heights) (level new.heights) b after) c.reserve.ensures.items c.write_lifts.ensures.moved))

pub returns-in-Err-add_link-clause-sound : goal.returns-in-Err-add_link-clause-sound
returns-in-Err-add_link-clause-sound g c =
    let old = g.T.HeightTable.web c.args.table.now in
    let new = g.T.HeightTable.web c.add_link.new.self in
    subst (λ h. AreSoundHeights h new.links) (sym c.add_link.ensures.heights) (sound_same old.links new.links old.heights c.in-Err-add_link.ensures.err c.requires.sound)

pub returns-in-Err-add_link-clause-answer : goal.returns-in-Err-add_link-clause-answer
returns-in-Err-add_link-clause-answer g c =
    memory_told (g.T.HeightTable.web c.args.table.now) c.args.new.reader c.args.new.kid c.args.moved.now.items (g.T.HeightTable.web c.add_link.new.self)
    c.reserve.new.self.items c.in-Err-add_link.ensures.err c.add_link.ensures.heights c.reserve.ensures.items (returns-in-Err-add_link-clause-sound g c)
