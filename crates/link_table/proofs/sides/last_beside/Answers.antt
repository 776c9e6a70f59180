use Rattle.std.proofs.Common.{◌-◌, ◌<◌, length, arith}
use Rattle.std.proofs.lemmas.Option.{slice_get-get_or}
use Rattle.link_table.proofs.Beside.{none_behind, one_back, all_lead, leads_when, differs_when}
use Rattle.link_table.proofs.sides.last_beside.Goals as goal

pub loop-i-init : goal.loop-i-init
loop-i-init c = (omega arith, none_behind c.args.ends.now c.args.kept)

pub returns-then-ne-clause-there : goal.returns-then-ne-clause-there
returns-then-ne-clause-there c = slice_get-get_or c.args.ends.now (c.loop-i.i - 1) _ (omega (arith, c.loop-i.invariant.0, c.loop-i-test.true))

pub returns-then-ne-clause-other : goal.returns-then-ne-clause-other
returns-then-ne-clause-other c = differs_when _ c.args.kept c.ne.result c.ne.ensures c.if-ne.true

pub loop-i-preserved : goal.loop-i-preserved
loop-i-preserved c =
    let place = c.loop-i.i - 1 in
    let within : place < length c.args.ends.now = omega (arith, c.loop-i.invariant.0, c.loop-i-test.true) in
    let leads = leads_when c.args.ends.now c.args.kept place _ within c.ne.result c.ne.ensures c.if-ne.false in (
      omega (arith, c.loop-i.invariant.0),
      one_back c.args.ends.now c.args.kept c.loop-i.i place (omega (arith, c.loop-i-test.true)) c.loop-i.invariant.1 leads,
    )

pub returns-clause-none : goal.returns-clause-none
returns-clause-none c = all_lead c.args.ends.now c.args.kept c.loop-i.i (omega (arith, c.loop-i-test.false)) c.loop-i.invariant.1
