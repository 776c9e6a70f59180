use Rattle.std.proofs.Common.{arith, subst}
use Rattle.script_functions.specs.Bodies.{IsAdded}
use Rattle.script_functions.specs.declared.line.Line.{Line}
use Rattle.formula_elab.proofs.Adding.{added_more, all_added, next_fits, next_small, next_there}
use Rattle.formula_elab.proofs.body.add_lines.Goals as goal

pub add_line-requires : goal.add_line-requires
add_line-requires c =
    let l = c.loop-line in
    let x = c.line-item in
    let made = c.args.made.now in
    let lines = c.args.lines.now in
    let old = c.args.draft.now in
    rw c.in_ok-line.ensures record {
      there = next_there made lines l.line-index old l.draft x.result (omega (arith, c.loop-line-test.true)) x.is l.invariant;
      typable = next_fits made lines l.line-index old l.draft x.result (omega (arith, c.loop-line-test.true)) x.is l.invariant;
      few = next_small made lines l.line-index old l.draft x.result (omega (arith, c.loop-line-test.true)) x.is l.invariant;
    }

pub loop-line-preserved : goal.loop-line-preserved
loop-line-preserved c =
    let l = c.loop-line in
    let x = c.line-item in
    added_more c.args.made.now c.args.lines.now l.line-index c.args.draft.now l.draft x.result (omega (arith, c.loop-line-test.true)) x.is l.invariant
    c.add_line.new.draft
    (subst (λ (line : Line). IsAdded l.draft c.add_line.new.draft line) c.in_ok-line.ensures c.in_ok-add_line.ensures.added)

pub returns-clause-added : goal.returns-clause-added
returns-clause-added c =
    let l = c.loop-line in
    all_added c.args.made.now c.args.lines.now l.line-index c.args.draft.now l.draft c.loop-line-test.false l.invariant
