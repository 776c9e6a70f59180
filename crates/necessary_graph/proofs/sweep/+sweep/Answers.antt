use Rattle.std.proofs.Common.{◌<◌, refl, arith}
use Rattle.height_order.specs.Levels.{level}
use Rattle.necessary_graph.specs.Part.{NecessaryPart, part_of}
use Rattle.necessary_graph.proofs.Bags.{off_shorter}
use Rattle.necessary_graph.proofs.Descending.{under_way_first, off_ends, off_rises, kid_there, kid_lower, under_way_off, under_way_then}
use Rattle.necessary_graph.proofs.Descending.{end_swept, end_bare, end_ends, end_room, end_unrooted}
use Rattle.necessary_graph.proofs.Reaching.{needed_held}
use Rattle.necessary_graph.proofs.Rests.{link_off}
use Rattle.necessary_graph.proofs.Room.{room_counts}
use Rattle.necessary_graph.proofs.sweep.+sweep.Goals as goal

pub loop-kid-init : goal.loop-kid-init
loop-kid-init g t c =
    let out = c.take_out.ensures in record {
      under_way = rw out.rest (under_way_first (g.L.Leaves.is_leaf c.args.leaves.now) c.args.p (part_of c.args.rows.now) c.requires.unneeded
          c.take_out.new.rows.heap out.out c.requires.ends);
      room = rw out.rest (out.room c.args.points.now c.args.rows.now.heights c.requires.room);
    }

pub sweep-requires : goal.sweep-requires
sweep-requires g t c lifetimes alive =
    let leaf = g.L.Leaves.is_leaf c.args.leaves.now in
    let s0 : NecessaryPart = part_of c.args.rows.now in
    let s : NecessaryPart = part_of c.loop-kid.rows in
    let u : NecessaryPart = part_of c.pop_kid.new.self in
    let inv = c.loop-kid.invariant in
    let off = link_off c.loop-kid.rows c.pop_kid.new.self c.args.p c.in-Some.kid c.pop_kid.ensures.rest c.in-Some.ensures.removed in
    let lower = kid_lower leaf c.args.p s0 c.requires.unneeded s inv.under_way u c.in-Some.kid off c.requires.rises in
    let less : level c.pop_kid.new.self.heights c.in-Some.kid < t = let d = c.decreases in omega (arith, d, lower) in (
      less,
      (
        alive,
        (
          off_ends leaf c.args.p s0 c.requires.unneeded s inv.under_way u c.in-Some.kid off,
          (
            off_rises leaf c.args.p s0 c.requires.unneeded s inv.under_way u c.in-Some.kid off c.requires.rises,
            (
              kid_there leaf c.args.p s0 c.requires.unneeded s inv.under_way u c.in-Some.kid off,
              (λ n. absurd (let e = c.if-not-is_held.ensures.1 (needed_held u c.in-Some.kid n) in cc), rw c.pop_kid.ensures.rest inv.room),
            ),
          ),
        ),
      ),
    )

pub loop-kid-smaller : goal.loop-kid-smaller
loop-kid-smaller g t c =
    let left = c.pop_kid.new.self.links in
    off_shorter c.loop-kid.rows.links left left c.args.p c.in-Some.kid c.in-Some.ensures.removed (λ a b. omega arith)

pub loop-kid-smaller-then-not-is_held : goal.loop-kid-smaller-then-not-is_held
loop-kid-smaller-then-not-is_held g t c = off_shorter c.loop-kid.rows.links c.pop_kid.new.self.links c.sweep.new.rows.links c.args.p c.in-Some.kid
    c.in-Some.ensures.removed c.sweep.ensures.swept.thinned.fewer

pub loop-kid-preserved : goal.loop-kid-preserved
loop-kid-preserved g t c =
    let s0 : NecessaryPart = part_of c.args.rows.now in
    let inv = c.loop-kid.invariant in
    let off = link_off c.loop-kid.rows c.pop_kid.new.self c.args.p c.in-Some.kid c.pop_kid.ensures.rest c.in-Some.ensures.removed in record {
      under_way = under_way_off (g.L.Leaves.is_leaf c.args.leaves.now) c.args.p s0 c.requires.unneeded (part_of c.loop-kid.rows) inv.under_way
          (part_of c.pop_kid.new.self) c.in-Some.kid off (c.if-not-is_held.ensures.0 refl);
      room = rw c.pop_kid.ensures.rest inv.room;
    }

pub loop-kid-preserved-then-not-is_held : goal.loop-kid-preserved-then-not-is_held
loop-kid-preserved-then-not-is_held g t c =
    let s0 : NecessaryPart = part_of c.args.rows.now in
    let inv = c.loop-kid.invariant in
    let off = link_off c.loop-kid.rows c.pop_kid.new.self c.args.p c.in-Some.kid c.pop_kid.ensures.rest c.in-Some.ensures.removed in record {
      under_way = under_way_then (g.L.Leaves.is_leaf c.args.leaves.now) c.args.p s0 c.requires.unneeded (part_of c.loop-kid.rows) inv.under_way
          (part_of c.pop_kid.new.self) c.in-Some.kid off (part_of c.sweep.new.rows) c.requires.rises c.sweep.ensures.swept c.sweep.ensures.bare
          c.sweep.ensures.ends;
      room = c.sweep.ensures.room;
    }

pub drop_leaf-requires : goal.drop_leaf-requires
drop_leaf-requires g t c =
    let inv = c.loop-kid.invariant in
    let way = inv.under_way in
    let rows = c.loop-kid.rows in
    let there = rw (← way.there) at c.requires.there in rw c.in_default.ensures.unchanged (record {
      there = there;
      unrooted = end_unrooted (g.L.Leaves.is_leaf c.args.leaves.now) c.args.p (part_of c.args.rows.now) c.requires.unneeded (part_of rows) way;
      reads_none = c.in_default.ensures.none;
      out = way.out;
      room = room_counts rows.heights rows.heap c.loop-kid.points c.args.p inv.room there way.out;
    })

pub returns : goal.returns
returns g t c =
    let leaf = g.L.Leaves.is_leaf c.args.leaves.now in
    let s0 : NecessaryPart = part_of c.args.rows.now in
    let s : NecessaryPart = part_of c.loop-kid.rows in
    let heights = c.drop_leaf.new.rows.heights in
    let left = c.drop_leaf.new.points in
    let inv = c.loop-kid.invariant in
    let way = inv.under_way in
    let none = c.in_default.ensures.none in
    let same = c.in_default.ensures.unchanged in
    let leaf_left = rw same at c.drop_leaf.ensures.leaf in
    let rest = rw same at c.drop_leaf.ensures.rest in
    let there = rw (← way.there) at c.requires.there in rw rest (record {
      swept = end_swept leaf c.args.p s0 c.requires.unneeded s way heights c.loop-kid.points left none leaf_left;
      bare = end_bare leaf c.args.p s0 c.requires.unneeded s way heights c.loop-kid.points left none leaf_left;
      ends = end_ends leaf c.args.p s0 c.requires.unneeded s way heights c.loop-kid.points left none leaf_left;
      room = end_room leaf c.args.p s0 c.requires.unneeded s way heights c.loop-kid.points left none there inv.room leaf_left;
    })
