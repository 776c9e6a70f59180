use Rattle.std.proofs.Common.{inr, refl, ◌∙◌}
use Rattle.height_order.specs.Levels.{level}
use Rattle.wiring.proofs.Telling.{tells}
use Rattle.wiring.proofs.Deciding.{same_need}
use Rattle.wiring.proofs.Trying.{levelled_room, levelled_link, closed_links, levelled_answers, put_on_answers}
use Rattle.wiring.proofs.work.Work.try_link.Goals as goal

pub returns-in-Err : goal.returns-in-Err
returns-in-Err c =
    let m = c.make_room.ensures in
    levelled_answers _ c.args.arena.now c.args.self.now c.make_room.new.self c.args.p c.args.q
    (levelled_room c.args.self.now c.make_room.new.self m.looks c.in-Err.ensures.err m.step) c.requires.kept tt

pub close-requires-clause-unneeded : goal.close-requires-clause-unneeded
close-requires-clause-unneeded c t n =
    let m = c.make_room in
    c.in-Ok.ensures.unneeded t ((m.ensures.looks.needed c.args.q).0
    ((same_need m.new.self.graph c.link.new.self c.link.ensures.roots c.in-Err-link.ensures.err c.args.q).0 n))

pub returns-in-Ok-link : goal.returns-in-Ok-link
returns-in-Ok-link c =
    let m = c.make_room in
    let k = c.link.ensures in
    let l = c.in-Ok-link.ensures in
    put_on_answers c.args.self.now m.new.self c.wake.new.self c.link.new.self c.args.p c.args.q c.in-Ok-link.newly m.ensures.looks m.ensures.others
    k.points (record { needed = l.needed; points = k.heap; step = k.in_step }) l.linked k.roots l.newly c.requires.reader c.wake.ensures.woken
    c.wake.ensures.unchanged c.wake.ensures.step _ c.args.arena.now c.requires.kept c.requires.target c.requires.needed

pub returns-in-Err-link : goal.returns-in-Err-link
returns-in-Err-link c =
    let old = c.args.self.now in
    let m = c.make_room in
    let l = c.link in
    let d = c.close in
    let e = c.in-Err-link.ensures in
    let links = closed_links old m.new.self d.new.self l.new.self c.args.q c.in-Ok.opened m.ensures.looks c.in-Ok.ensures.there c.in-Ok.ensures.opened
    m.ensures.others e.err l.ensures.roots l.ensures.points l.ensures.heap d.ensures.closed d.ensures.kept d.ensures.links d.ensures.roots d.ensures.heap
    d.ensures.rest in
    levelled_answers _ c.args.arena.now old d.new.self c.args.p c.args.q
    (levelled_link old m.new.self d.new.self l.new.self c.args.q c.in-Ok.opened m.ensures.looks c.in-Ok.ensures.there c.in-Ok.ensures.opened
    m.ensures.others e.err l.ensures.roots l.ensures.points l.ensures.heap d.ensures.closed d.ensures.kept d.ensures.links d.ensures.roots
    d.ensures.heap d.ensures.rest d.ensures.step) c.requires.kept
    (tells d.new.self m.new.self.graph.links (level m.new.self.graph.heights) m.ensures.step.rises c.args.p c.args.q links c.in-Err-link.fault e.path
    e.path_once e.over e.over_length e.over_no_path)

pub link-requires-clause-needed : goal.link-requires-clause-needed
link-requires-clause-needed c = (c.make_room.ensures.looks.needed c.args.p).1 c.requires.needed

pub wake-requires-clause-needed : goal.wake-requires-clause-needed
wake-requires-clause-needed c = (c.in-Ok-link.ensures.needed c.args.q).1 (inr refl)

pub close-requires-clause-there : goal.close-requires-clause-there
close-requires-clause-there c = c.link.ensures.points c.args.q ∙ c.in-Ok.ensures.there
