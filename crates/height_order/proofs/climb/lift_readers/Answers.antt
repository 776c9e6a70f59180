use Rattle.std.proofs.Common.{◌≡◌, ◌≢◌, ap, sym, subst, rules, arith}
use Rattle.std.proofs.lemmas.Grind.{common_steps}
use Rattle.height_order.proofs.Points.{sameb_self}
use Rattle.inc_value.specs.declared.node.Point.{Point}
use Rattle.link_table.specs.Links.{Reads}
use Rattle.link_table.specs.Walks.{readers_left}
use Rattle.height_order.specs.Levels.{level}
use Rattle.height_order.specs.Climbs.{IsClimbing}
use Rattle.height_order.proofs.Covering.{Occurs, occurs_first, occurs_later, among_readers}
use Rattle.height_order.proofs.Climbing.{climbing_next, not_queued}
use Rattle.height_order.proofs.climb.lift_readers.Goals as goal

pub loop-reader-init : goal.loop-reader-init
loop-reader-init g c =
    let web = g.T.HeightTable.web c.args.table.now in
    let left = readers_left c.readers-reader-items.result in
    let same = ap readers_left (sym c.into_iter-reader-iterator.ensures.into_iter_gives) in
    let x = c.args.x in
    record {
      climbing = subst (IsClimbing web.heights web.links c.args.new.reader c.args.new.kid c.args.lifts.now c.args.queue.now (level web.heights x) x)
          same (c.requires.climbing left c.readers-reader-items.ensures);
      among = subst (λ rs. (r : Point) → Occurs rs r → Reads web.links r x) same (among_readers web.links x left c.readers-reader-items.ensures);
      kept = λ y d. d;
    }

pub returns-then-eq-clause-met : goal.returns-then-eq-clause-met
returns-then-eq-clause-met g c _ =
    let web = g.T.HeightTable.web c.args.table.now in
    let x = c.args.x in
    let among = subst (λ rs. (r : Point) → Occurs rs r → Reads web.links r x) c.in-Some.ensures.steps c.loop-reader.invariant.among in
    let same : c.in-Some.reader ≡ c.args.new.kid = search rules in
    subst (λ r. Reads web.links r x) same (among c.in-Some.reader (occurs_first c.in-Some.reader (readers_left c.next.new.self)))

pub returns-then-eq-clause-asked : goal.returns-then-eq-clause-asked
returns-then-eq-clause-asked g c = c.loop-reader.invariant.climbing.asked

pub returns-then-eq-clause-kept : goal.returns-then-eq-clause-kept
returns-then-eq-clause-kept g c = c.loop-reader.invariant.kept

pub lift_above-requires-clause-low : goal.lift_above-requires-clause-low
lift_above-requires-clause-low g c = c.requires.sound.low c.in-Some.reader

pub lift_above-requires-clause-fresh : goal.lift_above-requires-clause-fresh
lift_above-requires-clause-fresh g c =
    let web = g.T.HeightTable.web c.args.table.now in
    not_queued web.heights web.links c.args.new.reader c.args.new.kid c.loop-reader.lifts c.loop-reader.queue
    (level web.heights c.args.x) c.args.x (readers_left c.loop-reader.reader-iterator) c.loop-reader.invariant.climbing c.in-Some.reader

pub loop-reader-preserved : goal.loop-reader-preserved
loop-reader-preserved g c =
    let web = g.T.HeightTable.web c.args.table.now in
    let x = c.args.x in
    let reader = c.in-Some.reader in
    let rest = readers_left c.next.new.self in
    let so = c.loop-reader.invariant in
    let among = subst (λ rs. (r : Point) → Occurs rs r → Reads web.links r x) c.in-Some.ensures.steps so.among in
    let climbing = subst (IsClimbing web.heights web.links c.args.new.reader c.args.new.kid c.loop-reader.lifts c.loop-reader.queue (level web.heights x) x)
    c.in-Some.ensures.steps so.climbing in
    let other : reader ≢ c.args.new.kid = (λ e. let n = rw e at c.if-eq.ensures in
    let k = sameb_self c.args.new.kid.part in absurd (grind (arith, common_steps, n, k))) in
    let next = climbing_next web.heights web.links c.args.new.reader c.args.new.kid c.requires.sound c.loop-reader.lifts c.loop-reader.queue x reader rest climbing
    c.lift_above.new.lifts c.lift_above.new.queue (so.kept x c.requires.done) (among reader (occurs_first reader rest)) other c.in_ok-lift_above.ensures in
    record {
      climbing = next.0;
      among = λ r h. among r (occurs_later reader r rest h);
      kept = λ y d. next.1 y (so.kept y d);
    }

pub returns-clause-climbing : goal.returns-clause-climbing
returns-clause-climbing g c _ =
    let web = g.T.HeightTable.web c.args.table.now in
    subst (IsClimbing web.heights web.links c.args.new.reader c.args.new.kid c.loop-reader.lifts c.loop-reader.queue
    (level web.heights c.args.x) c.args.x) c.in-None.ensures.steps.0 c.loop-reader.invariant.climbing

pub returns-clause-asked : goal.returns-clause-asked
returns-clause-asked g c = c.loop-reader.invariant.climbing.asked

pub returns-clause-kept : goal.returns-clause-kept
returns-clause-kept g c = c.loop-reader.invariant.kept
