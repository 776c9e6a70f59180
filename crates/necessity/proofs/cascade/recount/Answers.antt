use Rattle.std.proofs.Common.{refl, sym}
use Rattle.necessity.proofs.Turning.{row_need}
use Rattle.necessity.proofs.cascade.recount.Goals as goal

pub returns-then-turns-clause-row : goal.returns-then-turns-clause-row
returns-then-turns-clause-row c =
    let written = rw c.unwrap-need.ensures at (c.get_mut.follows.holds c.recount-turns.new.self) in
    let was = row_need c.args.rows.now c.args.p c.unwrap-need.result.now (sym (rw c.unwrap-need.ensures at c.get_mut.ensures.value)) in
    rw (was, ← c.recount-turns.ensures.need) written.changes

pub returns-then-turns-clause-waiting : goal.returns-then-turns-clause-waiting
returns-then-turns-clause-waiting c =
    let written = rw c.unwrap-need.ensures at (c.get_mut.follows.holds c.recount-turns.new.self) in
    let was = row_need c.args.rows.now c.args.p c.unwrap-need.result.now (sym (rw c.unwrap-need.ensures at c.get_mut.ensures.value)) in
    let is = row_need (c.get_mut.follows.lender c.recount-turns.new.self) c.args.p c.recount-turns.new.self written.changes.changed in
    rw (was, is, ← c.recount-turns.ensures.turns, c.if-turns.true) c.push_reserved.ensures.items

pub returns-else-turns-clause-row : goal.returns-else-turns-clause-row
returns-else-turns-clause-row c =
    let written = rw c.unwrap-need.ensures at (c.get_mut.follows.holds c.recount-turns.new.self) in
    let was = row_need c.args.rows.now c.args.p c.unwrap-need.result.now (sym (rw c.unwrap-need.ensures at c.get_mut.ensures.value)) in
    rw (was, ← c.recount-turns.ensures.need) written.changes

pub returns-else-turns-clause-waiting : goal.returns-else-turns-clause-waiting
returns-else-turns-clause-waiting c =
    let written = rw c.unwrap-need.ensures at (c.get_mut.follows.holds c.recount-turns.new.self) in
    let was = row_need c.args.rows.now c.args.p c.unwrap-need.result.now (sym (rw c.unwrap-need.ensures at c.get_mut.ensures.value)) in
    let is = row_need (c.get_mut.follows.lender c.recount-turns.new.self) c.args.p c.recount-turns.new.self written.changes.changed in
    rw (was, is, ← c.recount-turns.ensures.turns, c.if-turns.false) refl
