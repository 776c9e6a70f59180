use Rattle.std.proofs.Common.{◌≡◌, ◌≢◌, ◌+◌, Some, None, ◌∷◌, [], get_or, length, length-append, sym, arith}
use Rattle.node_outcomes.specs.Computing.{value_shown}
use Rattle.inc_value.specs.Value.{type_of}
use Rattle.inc_value.specs.declared.ty.Ty.TheVariants.{Text}
use Rattle.inc_value.specs.declared.value.Value.{Value}
use Rattle.node_outcomes.proofs.Computing.{filter_some, filter_none, shown_by_each}
use Rattle.node_outcomes.proofs.sight.fill_shown.Goals.{in-Some+in_ok-copy, in_default}
use Rattle.node_outcomes.proofs.sight.fill_shown.Goals as goal

pub loop-node-preserved : goal.loop-node-preserved
loop-node-preserved c =
    let rows = c.args.rows.now in let nodes = c.args.nodes.now in let i = c.loop-node.node-index in
    let within = c.loop-node-test.true in
    elim c.match-value_shown.branch [
      | in-Some+in_ok-copy w ↦
          let shown : value_shown rows (get_or nodes i (record { slot = 0; gen_ = 0 })) ≡ Some w.in-Some.value.now =
          sym (rw w.in-Some.is at c.value_shown.ensures) in
          let more = filter_some rows nodes i (record { slot = 0; gen_ = 0 }) w.in-Some.value.now within shown in
          let pushed = w.push_reserved.ensures.items in let copied = w.in_ok-copy.ensures.ok in
          let one : length w.push_reserved.new.self.items ≡ length c.loop-node.values.items + 1 =
          rw pushed (length-append c.loop-node.values.items (w.in_ok-copy.field-0 ∷ [])) in (
            cc (more, pushed, copied, w.values-is, c.loop-node.invariant.0),
            rw w.values-is (omega (arith, c.loop-node.invariant.1, one)),
            rw (w.values-is, w.push_reserved.ensures.capacity) c.loop-node.invariant.2,
            rw (w.values-is, w.push_reserved.ensures.capacity) c.loop-node.invariant.3,
          )
      | in_default w ↦
          let shown : value_shown rows (get_or nodes i (record { slot = 0; gen_ = 0 })) ≡ None = sym (rw w.in_default.is at c.value_shown.ensures) in
          let same = filter_none rows nodes i (record { slot = 0; gen_ = 0 }) within shown in
          (cc (same, w.values-is, c.loop-node.invariant.0), rw w.values-is (omega (arith, c.loop-node.invariant.1)), rw w.values-is c.loop-node.invariant.2, rw w.values-is c.loop-node.invariant.3)
    ]

pub returns-in_err-copy-clause-scalar : goal.returns-in_err-copy-clause-scalar
returns-in_err-copy-clause-scalar c room none =
    let rows = c.args.rows.now in let nodes = c.args.nodes.now in let i = c.loop-node.node-index in
    let shown : value_shown rows (get_or nodes i (record { slot = 0; gen_ = 0 })) ≡ Some c.in-Some.value.now =
    sym (rw c.in-Some.is at c.value_shown.ensures) in
    let scalar = shown_by_each rows (λ (v : Value). type_of v ≢ Text) nodes i (record { slot = 0; gen_ = 0 }) c.in-Some.value.now c.loop-node-test.true
    shown none in
    let made = rw c.in_err-copy.was at (c.copy.ensures.scalar scalar) in
    absurd cc

pub returns-in_err-copy-clause-two : goal.returns-in_err-copy-clause-two
returns-in_err-copy-clause-two c room none =
    let rows = c.args.rows.now in let nodes = c.args.nodes.now in let i = c.loop-node.node-index in
    let shown : value_shown rows (get_or nodes i (record { slot = 0; gen_ = 0 })) ≡ Some c.in-Some.value.now =
    sym (rw c.in-Some.is at c.value_shown.ensures) in
    let scalar = shown_by_each rows (λ (v : Value). type_of v ≢ Text) nodes i (record { slot = 0; gen_ = 0 }) c.in-Some.value.now c.loop-node-test.true
    shown none in
    let made = rw c.in_err-copy.was at (c.copy.ensures.scalar scalar) in
    absurd cc
