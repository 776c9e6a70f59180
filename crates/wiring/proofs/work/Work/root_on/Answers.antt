use Rattle.wiring.proofs.Deciding.{same_need}
use Rattle.wiring.proofs.Trying.{levelled_room, levelled_link}
use Rattle.wiring.proofs.Rooting.{puts_root_on}
use Rattle.std.proofs.Common.{inr, refl, ap}
use Rattle.std.specs.Prelude.{is_some}
use Rattle.point_map.specs.Rows.{Rows, at}
use Rattle.wiring.proofs.work.Work.root_on.Goals as goal

pub returns-in-Err-clause-levelled : goal.returns-in-Err-clause-levelled
returns-in-Err-clause-levelled c =
    let m = c.make_room.ensures in levelled_room c.args.self.now c.make_room.new.self m.looks c.in-Err.ensures.err m.step

pub close-requires-clause-unneeded : goal.close-requires-clause-unneeded
close-requires-clause-unneeded c t n =
    let m = c.make_room in
    c.in-Ok.ensures.unneeded t ((m.ensures.looks.needed c.args.p).0
    ((same_need m.new.self.graph c.root_on.new.self c.in-Err-root_on.ensures.err c.root_on.ensures.links c.args.p).0 n))

pub returns-in-Ok-root_on-clause-rooted : goal.returns-in-Ok-root_on-clause-rooted
returns-in-Ok-root_on-clause-rooted c =
    let m = c.make_room in
    let l = c.root_on in
    let ok = c.in-Ok-root_on in
    let k = c.wake in
    puts_root_on c.args.self.now m.new.self k.new.self l.new.self c.args.p ok.newly m.ensures.looks ok.ensures.needed ok.ensures.rooted
    l.ensures.links l.ensures.heights l.ensures.heap ok.ensures.newly k.ensures.woken k.ensures.unchanged m.ensures.step m.ensures.others k.ensures.step

pub returns-in-Err-root_on-clause-levelled : goal.returns-in-Err-root_on-clause-levelled
returns-in-Err-root_on-clause-levelled c =
    let m = c.make_room in
    let l = c.root_on in
    let d = c.close in
    levelled_link c.args.self.now m.new.self d.new.self l.new.self c.args.p c.in-Ok.opened m.ensures.looks c.in-Ok.ensures.there c.in-Ok.ensures.opened
    m.ensures.others l.ensures.links c.in-Err-root_on.ensures.err (λ a. ap (λ (h : Rows _). is_some (at h a)) l.ensures.heights)
    (λ a. ap (λ (h : Rows _). is_some (at h a)) l.ensures.heap) d.ensures.closed d.ensures.kept d.ensures.links d.ensures.roots d.ensures.heap
    d.ensures.rest d.ensures.step

pub wake-requires-clause-needed : goal.wake-requires-clause-needed
wake-requires-clause-needed c = (c.in-Ok-root_on.ensures.needed c.args.p).1 (inr refl)
