use Rattle.link_table.proofs.Places.{end_when, none_when}
use Rattle.link_table.proofs.sides.place_of.Goals as goal

pub returns-then-eq-clause-some : goal.returns-then-eq-clause-some
returns-then-eq-clause-some c = end_when c.args.ends.now c.args.q c.loop-i.i _ c.loop-i-test.true c.eq.result c.eq.ensures c.if-eq.true

pub loop-i-preserved : goal.loop-i-preserved
loop-i-preserved c = none_when c.args.ends.now c.args.q c.loop-i.i _ c.loop-i-test.true c.eq.result c.eq.ensures c.if-eq.false c.loop-i.invariant
