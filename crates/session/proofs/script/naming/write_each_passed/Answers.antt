use Rattle.std.proofs.Common.{◌-◌, arith}
use Rattle.session.proofs.Passing.{all_told, index_get, one_told, other_told}
use Rattle.session.proofs.script.naming.write_each_passed.Goals as goal
use Rattle.session.proofs.script.naming.write_each_passed.Goals.{in-Some+in_ok-write_name-in-Some, in-None}
use Rattle.session.specs.Replies.{name_in}

pub loop-place-preserved : goal.loop-place-preserved
loop-place-preserved g c =
    let l = c.loop-place in
    let points = c.args.points.now in
    let before = c.loop-place-test.true in
    let from = l.invariant.from in
    elim c.match-passed.branch [
      | in-Some+in_ok-write_name-in-Some w ↦
          rw (w.line-is, w.first-is, w.in_ok-write_name-in-Some.ensures.ok, w.either_of-first.ensures)
          (one_told c.args.graph.now c.args.names.now.declared c.args.nodes.now.items (name_in c.args.names.now) points c.args.line.now.items l.place _ _
          (index_get points (l.place - 1) _ (omega (arith, from, before))) (index_get points l.place _ (omega (arith, before)))
          l.line.items l.first l.invariant w.in-Some.position w.in-Some.ensures.some)
      | in-None w ↦
          rw (w.line-is, w.first-is)
          (other_told c.args.graph.now c.args.names.now.declared c.args.nodes.now.items (name_in c.args.names.now) points c.args.line.now.items l.place _ _
          (index_get points (l.place - 1) _ (omega (arith, from, before))) (index_get points l.place _ (omega (arith, before)))
          l.line.items l.first l.invariant w.in-None.ensures.none)
    ]

pub returns : goal.returns
returns g c =
    let l = c.loop-place in
    let past = c.loop-place-test.false in
    all_told c.args.graph.now c.args.names.now.declared c.args.nodes.now.items (name_in c.args.names.now) c.args.points.now c.args.line.now.items l.place
    l.line.items l.first (omega (arith, past)) l.invariant
