use Rattle.std.proofs.Common.{◌∙◌, length, ap, subst, refl, arith}
use Rattle.link_table.specs.Walks.{kids_left}
use Rattle.necessity.specs.Turn.{to_needed}
use Rattle.necessity.specs.Counting.{IsUnderWay}
use Rattle.necessity.proofs.Turning.{taken_up, behind_taken}
use Rattle.necessity.proofs.Steps.{recount_steps, behind_as_before, one_waits_more, roots_as_before, due_there, due_fits, due_counted}
use Rattle.necessity.proofs.Idle.{row_again}
use Rattle.necessity.proofs.cascade.recount_kids.Goals as goal

pub loop-k-init : goal.loop-k-init
loop-k-init c = rw c.into_iter-k-iterator.ensures.into_iter_gives (
    let t = to_needed c.args.turn in
    let l = c.args.links.now in
    let m = c.args.rows.now in
    let w = c.args.waiting.now.items in
    let due = kids_left c.kids-k-items.result in
    let taken = behind_taken t l m w due c.args.p c.requires.under_way c.kids-k-items.ensures in
    record {
      under_way = taken_up t l m w due c.args.p c.requires.under_way c.kids-k-items.ensures;
      room = omega (arith, taken);
      roots = λ k. refl;
      rows = λ k held. held;
      capacity = refl;
    })

pub recount-requires : goal.recount-requires
recount-requires c =
    let t = to_needed c.args.turn in
    let l = c.args.links.now in
    let m = c.loop-k.rows in
    let w = c.loop-k.waiting.items in
    let left = kids_left c.next.new.self in
    let k = c.in-Some.k in
    let under_way = subst (λ due. IsUnderWay t l m w due) c.in-Some.ensures.steps c.loop-k.invariant.under_way in
    let long = ap length c.in-Some.ensures.steps in
    record {
      there = due_there t l m w left k under_way;
      fits = due_fits t l m w left k under_way c.requires.fits;
      counted = due_counted t l m w left k under_way;
      room = omega (arith, long, c.loop-k.invariant.room, c.loop-k.invariant.capacity, c.requires.room, c.loop-k.waiting.ok);
    }

pub loop-k-preserved : goal.loop-k-preserved
loop-k-preserved c =
    let t = to_needed c.args.turn in
    let l = c.args.links.now in
    let m = c.loop-k.rows in
    let m2 = c.recount.new.rows in
    let w = c.loop-k.waiting.items in
    let w2 = c.recount.new.waiting.items in
    let left = kids_left c.next.new.self in
    let k = c.in-Some.k in
    let row = c.recount.ensures.row in
    let waits = c.recount.ensures.waiting in
    let under_way = subst (λ due. IsUnderWay t l m w due) c.in-Some.ensures.steps c.loop-k.invariant.under_way in
    let long = ap length c.in-Some.ensures.steps in
    let after = behind_as_before t l m m2 w w2 left k under_way row waits in
    let more = one_waits_more t l m m2 w w2 left k under_way row waits in
    record {
      under_way = recount_steps t l m m2 w w2 left k under_way row waits;
      room = omega (arith, long, after, more, c.loop-k.invariant.room);
      roots = λ x. roots_as_before t l m m2 w w2 left k under_way row waits x ∙ c.loop-k.invariant.roots x;
      rows = λ x held. c.loop-k.invariant.rows x (row_again m m2 k _ row (due_there t l m w left k under_way) x held);
      capacity = c.recount.ensures.capacity ∙ c.loop-k.invariant.capacity;
    }

pub returns : goal.returns
returns c =
    let none = c.in-None.ensures.steps in
    let long = ap length none.0 in
    record {
      under_way = subst (λ due. IsUnderWay (to_needed c.args.turn) c.args.links.now c.loop-k.rows c.loop-k.waiting.items due)
          none.0 c.loop-k.invariant.under_way;
      roots = c.loop-k.invariant.roots;
      rows = c.loop-k.invariant.rows;
      behind = omega (arith, long, c.loop-k.invariant.room);
      capacity = c.loop-k.invariant.capacity;
    }
