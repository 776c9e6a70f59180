use Rattle.std.proofs.Common.{◌∙◌, arith}
use Rattle.point_map.proofs.Moving.{moving_absent, moving_step, moving_rows, moving_count, below_step, below_all}
use Rattle.point_map.proofs.map.move_points.Goals as goal

pub put-requires-clause-absent : goal.put-requires-clause-absent
put-requires-clause-absent g c =
    moving_absent c.args.from c.loop-place.from c.loop-place.to c.args.to.now.spare c.in-Some._place _ c.loop-place.invariant.0 c.in-Some.ensures.was

pub loop-place-preserved : goal.loop-place-preserved
loop-place-preserved g c =
    let off = c.in-Some.ensures in
    let on = c.put.ensures in (
      moving_step c.args.from c.loop-place.from c.pop.new.self c.loop-place.to c.put.new.buckets c.args.to.now.spare c.in-Some._place _
          c.loop-place.invariant.0 off.was off.changes off.width off.count on.by_slot on.changes on.count on.spare,
      below_step c.loop-place.from c.pop.new.self c.in-Some._place c.loop-bucket.bucket c.loop-place.invariant.1 off.changes,
      off.width ∙ c.loop-place.invariant.2,
    )

pub returns-clause-rows : goal.returns-clause-rows
returns-clause-rows g c = λ p.
    let out = c.loop-bucket-test.false in
    moving_rows c.args.from c.loop-bucket.from c.loop-bucket.to c.args.to.now.spare c.loop-bucket.invariant.0
    (below_all c.loop-bucket.from c.loop-bucket.bucket c.loop-bucket.invariant.1
    (omega (arith, out, c.width-bucket-end.ensures, c.loop-bucket.invariant.2))) p

pub returns-clause-count : goal.returns-clause-count
returns-clause-count g c =
    let out = c.loop-bucket-test.false in
    moving_count c.args.from c.loop-bucket.from c.loop-bucket.to c.args.to.now.spare c.loop-bucket.invariant.0
    (below_all c.loop-bucket.from c.loop-bucket.bucket c.loop-bucket.invariant.1
    (omega (arith, out, c.width-bucket-end.ensures, c.loop-bucket.invariant.2)))

pub returns-clause-spare : goal.returns-clause-spare
returns-clause-spare g c =
    let out = c.loop-bucket-test.false in
    let all = moving_count c.args.from c.loop-bucket.from c.loop-bucket.to c.args.to.now.spare c.loop-bucket.invariant.0
    (below_all c.loop-bucket.from c.loop-bucket.bucket c.loop-bucket.invariant.1
    (omega (arith, out, c.width-bucket-end.ensures, c.loop-bucket.invariant.2))) in
    let room = c.loop-bucket.invariant.0.spare in omega (arith, all, room)
