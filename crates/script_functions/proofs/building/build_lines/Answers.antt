use Rattle.std.proofs.Common.{arith}
use Rattle.script_functions.proofs.Stepping.{all_built, grows_so_far, left_ready, line_zero, one_more_at, ready_at}
use Rattle.script_functions.proofs.building.build_lines.Goals as goal

pub add_left-requires : goal.add_left-requires
add_left-requires c =
    let a = c.args in
    record { ready = left_ready a.body.now a.builder.now a.left.now a.captures.now c.requires.ready }

pub loop-row-init : goal.loop-row-init
loop-row-init c =
    let a = c.args in
    let typed = rw c.draft-draft.ensures.value at c.lines-lines.ensures.typed in
    let noted = rw c.new-made.ensures.items at c.in_ok-add_left.ensures.noted in
    rw (c.lines-lines.ensures.value, c.draft-draft.ensures.value) (
    line_zero a.body.now a.builder.now a.left.now a.captures.now c.requires.ready
    c.add_left.new.builder c.add_left.new.made.items typed noted
    )

pub add_next-requires : goal.add_next-requires
add_next-requires c =
    let a = c.args in
    let l = c.loop-row in
    record {
      ready = rw (c.listed.ensures, c.draft-draft.ensures.value) (
          ready_at a.body.now a.builder.now a.left.now a.captures.now c.requires.ready
          c.lines-lines.result.now l.row-index c.row-item.result (omega arith) c.row-item.is l.builder l.made.items l.invariant
          );
    }

pub loop-row-preserved : goal.loop-row-preserved
loop-row-preserved c =
    let a = c.args in
    let l = c.loop-row in
    one_more_at a.body.now a.builder.now a.left.now a.captures.now c.requires.ready
    c.lines-lines.result.now l.row-index c.row-item.result (omega arith) c.row-item.is l.builder l.made.items l.invariant
    c.add_next.new.builder c.add_next.new.made.items l.invariant.sound
    (rw (c.listed.ensures, c.draft-draft.ensures.value) at c.in_ok-add_next.ensures.noted)

pub returns-in_err-add_next-clause-grows : goal.returns-in_err-add_next-clause-grows
returns-in_err-add_next-clause-grows c =
    let a = c.args in
    rw c.in_err-add_next.ensures.err (
    grows_so_far a.body.now a.builder.now a.left.now a.captures.now c.requires.ready _ _ _ c.loop-row.invariant
    )

pub returns-clause-grows : goal.returns-clause-grows
returns-clause-grows c =
    let a = c.args in
    grows_so_far a.body.now a.builder.now a.left.now a.captures.now c.requires.ready _ _ _ c.loop-row.invariant

pub returns-clause-built : goal.returns-clause-built
returns-clause-built c =
    let a = c.args in
    let l = c.loop-row in
    all_built a.body.now a.builder.now a.left.now a.captures.now c.requires.ready
    l.builder l.made.items c.lines-lines.result.now l.row-index (omega arith) l.invariant
