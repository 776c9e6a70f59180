use Rattle.std.proofs.Common.{◌≡◌, ◌<◌, ap, Some, sym, subst, ◌∙◌, arith}
use Rattle.std.specs.Prelude.{is_some}
use Rattle.inc_value.specs.Choice.{Among}
use Rattle.inc_value.specs.declared.node.NodeId.{NodeId}
use Rattle.inc_terms.specs.Graph.{Row}
use Rattle.node_arena.specs.Arena.{row_at}
use Rattle.stabilizer.specs.Between.{IsTakenBack}
use Rattle.wiring.specs.declared.work.Work.{Work}
use Rattle.stabilizer.proofs.Between.Dropping.{dropped_more, apart_since, walk_goes_on, walk_ends, walk_leaves_none, next_fits, taken_back}
use Rattle.stabilizer.proofs.parts.Parts.back_to.Goals as goal

pub loop-id-preserved : goal.loop-id-preserved
loop-id-preserved c =
    let d = c.drop_node.ensures in
    let low = c.loop-id.invariant.walked.low in let next = c.in-Some.ensures.some.since in record {
      so_far = dropped_more c.args.self.now c.loop-id.self c.drop_node.new.self c.args.count c.in-Some.id c.loop-id.invariant.so_far
          (omega (arith, low, next)) d.dropped d.given d.rows d.links d.roots d.heap d.right_sides d.experts d.kept d.ready;
      ran = d.ran ∙ c.loop-id.invariant.ran;
      walked = walk_goes_on c.loop-id.self.arena c.args.count c.loop-id.next c.loop-id.invariant.walked c.drop_node.new.self.arena c.in-Some.id
          c.loop-id.invariant.so_far.kept.work.sound c.in-Some.ensures.some d.dropped;
    }

pub overflow_add-next : goal.overflow_add-next
overflow_add-next c =
    let fits = next_fits c.loop-id.self.arena c.in-Some.id c.loop-id.invariant.so_far.kept.work.sound c.in-Some.ensures.some.live in
    omega (arith, fits)

pub drop_node-requires-clause-unscoped : goal.drop_node-requires-clause-unscoped
drop_node-requires-clause-unscoped c n b r e scope =
    let low = c.loop-id.invariant.walked.low in let next = c.in-Some.ensures.some.since in
    apart_since c.args.self.now c.loop-id.self c.args.count c.in-Some.id c.loop-id.invariant.so_far (omega (arith, low, next)) n b r e scope

pub loop-id-smaller : goal.loop-id-smaller
loop-id-smaller c = let l = c.drop_node.ensures.lives in omega (arith, l)

pub returns : goal.returns
returns c =
    let old = c.args.self.now in
    let left = c.loop-id.self in
    let f = c.forget_since.ensures in
    let i = c.loop-id.invariant in
    let before : (n : NodeId) (r : Row) → row_at left.arena n ≡ Some r → n.gen_ < c.args.count =
    λ n r e. walk_ends left.arena c.args.count c.loop-id.next i.walked c.in_default.ensures.none n (ap is_some e) in
    let pairs = λ (n : NodeId) (r : Row) (e : row_at left.arena n ≡ Some r) (among : Among n left.work.pairs.nodes). f.kept n (before n r e) among in
    let scoped = λ (n : NodeId) (r : Row) (e : row_at left.arena n ≡ Some r) (among : Among n left.work.scoped.nodes).
    f.kept_scoped n (before n r e) among in
    subst (λ (w : Work). IsTakenBack old (record left { work = w }) c.args.count) (sym f.rest)
    (taken_back old left c.args.count i.so_far i.ran c.forget_since.new.self.pairs c.forget_since.new.self.scoped
    (walk_leaves_none left.arena c.args.count c.loop-id.next i.walked c.in_default.ensures.none) f.forgotten f.forgotten_scoped pairs scoped)
