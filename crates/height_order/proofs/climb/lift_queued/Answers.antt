use Rattle.std.proofs.Common.{◌+◌, [], sym, subst, arith, refl}
use Rattle.point_map.specs.Rows.{at}
use Rattle.height_order.specs.Climbs.{IsClimbing}
use Rattle.height_order.specs.Levels.{level}
use Rattle.height_order.proofs.Climbing.{climbing_none, climbing_first, climbing_popped, popped_done, climbing_between}
use Rattle.height_order.proofs.Ending.{climbing_ends}
use Rattle.height_order.proofs.Pending.{pop_keeps, pending_less}
use Rattle.height_order.proofs.Points.{some_there}
use Rattle.height_order.proofs.climb.lift_queued.Goals.{then-level_of-height+in_ok-lift, else-level_of-height}
use Rattle.height_order.proofs.climb.lift_queued.Goals as goal

pub loop-x-init : goal.loop-x-init
loop-x-init g c =
    let web = g.T.HeightTable.web c.args.table.now in
    let heights = web.heights in
    let p = c.args.new.reader in
    let q = c.args.new.kid in
    let a = c.level_of-height.ensures in
    let b = c.level_of.ensures in
    elim c.if-level_of-height.branch [
      | then-level_of-height+in_ok-lift w ↦
          let t = w.if-level_of-height.true in (
            level heights p,
            subst (λ m. IsClimbing heights web.links p q m c.if-level_of-height.queue (level heights p) p []) (sym w.lifts-is)
                (subst (λ k. IsClimbing heights web.links p q w.lift.new.lifts k (level heights p) p []) (sym w.queue-is)
                (climbing_first heights web.links p q c.requires.sound c.args.lifts.now w.lift.new.lifts c.args.queue.now w.lift.new.queue c.requires.none
                c.requires.empty (record { height = c.level_of-height.result + 1; kid = q }) refl (omega (arith, a)) (omega (arith, a, b, t)) c.requires.reader
                c.requires.other w.in_ok-lift.ensures)),
          )
      | else-level_of-height w ↦
          let t = w.if-level_of-height.false in (
            0,
            subst (λ m. IsClimbing heights web.links p q m c.if-level_of-height.queue 0 p []) (sym w.lifts-is)
                (subst (λ k. IsClimbing heights web.links p q c.args.lifts.now k 0 p []) (sym w.queue-is)
                (climbing_none heights web.links p q c.requires.sound c.args.lifts.now c.args.queue.now c.requires.none c.requires.empty
                (omega (arith, a, b, t)))),
          )
    ]

pub lift_readers-requires-clause-climbing : goal.lift_readers-requires-clause-climbing
lift_readers-requires-clause-climbing g c left are =
    let web = g.T.HeightTable.web c.args.table.now in
    let so = c.loop-x.invariant in
    climbing_popped web.heights web.links c.args.new.reader c.args.new.kid c.requires.sound c.loop-x.lifts c.loop-x.queue c.pop_least.new.self so.0 so.1
    c.in-Some.x c.in-Some._height c.in-Some.ensures.was c.in-Some.ensures.least c.in-Some.ensures.changes left are

pub returns-then-branch-clause-met : goal.returns-then-branch-clause-met
returns-then-branch-clause-met g c =
    let web = g.T.HeightTable.web c.args.table.now in
    let so = c.loop-x.invariant in
    let popped = popped_done web.heights web.links c.args.new.reader c.args.new.kid c.requires.sound c.loop-x.lifts c.loop-x.queue c.pop_least.new.self so.0 so.1
    c.in-Some.x c.in-Some._height c.in-Some.ensures.was c.in-Some.ensures.least c.in-Some.ensures.changes in
    (c.in_ok-lift_readers.ensures.met c.if-branch.true, (c.in_ok-lift_readers.ensures.kept c.in-Some.x popped).lifted)

pub loop-x-smaller : goal.loop-x-smaller
loop-x-smaller g c =
    let web = g.T.HeightTable.web c.args.table.now in
    let so = c.loop-x.invariant in
    let x = c.in-Some.x in
    let popped = popped_done web.heights web.links c.args.new.reader c.args.new.kid c.requires.sound c.loop-x.lifts c.loop-x.queue c.pop_least.new.self so.0 so.1
    x c.in-Some._height c.in-Some.ensures.was c.in-Some.ensures.least c.in-Some.ensures.changes in
    let kept = c.in_ok-lift_readers.ensures.kept in
    let less = pending_less c.loop-x.lifts c.lift_readers.new.lifts c.loop-x.queue c.lift_readers.new.queue
    (λ y d. kept y (pop_keeps c.loop-x.lifts c.loop-x.queue c.pop_least.new.self x c.in-Some.ensures.changes y d)) web.heights x
    (so.1.there x (so.1.queued x c.in-Some._height c.in-Some.ensures.was).1) (some_there (at c.loop-x.queue x) c.in-Some._height c.in-Some.ensures.was) (kept x popped) in
    less

pub loop-x-preserved : goal.loop-x-preserved
loop-x-preserved g c =
    let web = g.T.HeightTable.web c.args.table.now in (
      level web.heights c.in-Some.x,
      climbing_between web.heights web.links c.args.new.reader c.args.new.kid c.requires.sound c.lift_readers.new.lifts
          c.lift_readers.new.queue (level web.heights c.in-Some.x) c.in-Some.x (c.in_ok-lift_readers.ensures.climbing c.if-branch.false),
    )

pub returns-clause-climbed : goal.returns-clause-climbed
returns-clause-climbed g c =
    let web = g.T.HeightTable.web c.args.table.now in
    let so = c.loop-x.invariant in
    climbing_ends web.heights web.links c.args.new.reader c.args.new.kid c.requires.sound c.loop-x.lifts c.loop-x.queue so.0 c.args.new.reader so.1
    c.in_default.ensures.none
