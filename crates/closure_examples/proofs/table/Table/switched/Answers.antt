use Rattle.std.proofs.Common.{arith, refl}
use Rattle.node_arena.proofs.Growing.{grown_none, grown_more, in_added, in_still, given_added, given_still}
use Rattle.closure_examples.specs.Sides.{table_uses}
use Rattle.closure_examples.proofs.Making.{one_added, stopped}
use Rattle.closure_examples.proofs.table.Table.switched.Goals as goal

pub returns : goal.returns
returns c =
    let s = c.args.self.now in
    let uses = table_uses s.neg s.add s.of_left in
    let b0 = c.args.builder.now in
    let b1 = c.at.new.self in
    let b2 = c.constant.new.self in
    let b3 = c.constant-2.new.self in
    let b4 = c.if_.new.self in
    let later = c.in-Ok.id in
    let one = c.in-Ok-constant.id in
    let zero = c.in-Ok-constant-2.id in
    let a1 = c.in-Ok.ensures.added in
    let a2 = c.in-Ok-constant.ensures.added in
    let a3 = c.in-Ok-constant-2.ensures.added in
    let g1 = grown_more uses b0 b0 b1 0 (grown_none uses b0) later _ _ a1 tt 1 (omega arith) in
    let g2 = grown_more uses b0 b1 b2 1 g1 one _ _ a2 tt 1 (omega arith) in
    let g3 = grown_more uses b0 b2 b3 2 g2 zero _ _ a3 tt 1 (omega arith) in
    let later_given = given_added b0 b1 later _ _ a1 in
    let later_given_2 = given_still b1 b2 one _ _ a2 later later_given in
    let later_given_3 = given_still b2 b3 zero _ _ a3 later later_given_2 in
    let later_in_2 = in_still b1 b2 one _ _ a2 later _ later_given (in_added b0 b1 later _ _ a1) in
    let later_in_3 = in_still b2 b3 zero _ _ a3 later _ later_given_2 later_in_2 in
    let one_given = given_added b1 b2 one _ _ a2 in
    let one_given_3 = given_still b2 b3 zero _ _ a3 one one_given in
    let one_in_3 = in_still b2 b3 zero _ _ a3 one _ one_given (in_added b1 b2 one _ _ a2) in
    rw c.added.ensures (one_added uses 4 b0 b3 b4 3 g3 _ _ _ _ refl 1 (tt, tt, tt) (omega arith) (omega arith)
    (λ id adds grows. (
      later,
      one,
      zero,
      in_added b3 b4 id _ _ adds,
      in_still b3 b4 id _ _ adds later _ later_given_3 later_in_3,
      in_still b3 b4 id _ _ adds one _ one_given_3 one_in_3,
      in_still b3 b4 id _ _ adds zero _ (given_added b2 b3 zero _ _ a3) (in_added b2 b3 zero _ _ a3),
    ))
    c.if_.result c.if_.ensures.answer c.if_.ensures.added c.if_.ensures.err)

pub returns-in-Err-constant : goal.returns-in-Err-constant
returns-in-Err-constant c =
    let s = c.args.self.now in
    let uses = table_uses s.neg s.add s.of_left in
    let b0 = c.args.builder.now in
    let b1 = c.at.new.self in
    let g1 = grown_more uses b0 b0 b1 0 (grown_none uses b0) c.in-Ok.id _ _ c.in-Ok.ensures.added tt 1 (omega arith) in
    stopped uses 4 b0 b1 1 g1 _ _ (omega arith) c.constant.new.self _ _ c.in-Err-constant.fault c.from_add-in-Err-constant.result
    c.in-Err-constant.ensures.answer c.in-Err-constant.ensures.err c.from_add-in-Err-constant.ensures

pub returns-in-Err-constant-2 : goal.returns-in-Err-constant-2
returns-in-Err-constant-2 c =
    let s = c.args.self.now in
    let uses = table_uses s.neg s.add s.of_left in
    let b0 = c.args.builder.now in
    let b1 = c.at.new.self in
    let b2 = c.constant.new.self in
    let g1 = grown_more uses b0 b0 b1 0 (grown_none uses b0) c.in-Ok.id _ _ c.in-Ok.ensures.added tt 1 (omega arith) in
    let g2 = grown_more uses b0 b1 b2 1 g1 c.in-Ok-constant.id _ _ c.in-Ok-constant.ensures.added tt 1 (omega arith) in
    stopped uses 4 b0 b2 2 g2 _ _ (omega arith) c.constant-2.new.self _ _ c.in-Err-constant-2.fault c.from_add-in-Err-constant-2.result
    c.in-Err-constant-2.ensures.answer c.in-Err-constant-2.ensures.err c.from_add-in-Err-constant-2.ensures
