use Rattle.std.proofs.Common.{◌∙◌, length, ap, sym, arith}
use Rattle.std.specs.Prelude.{slice_get}
use Rattle.std.proofs.lemmas.Option.{slice_get_within}
use Rattle.link_table.specs.Ends.{row_ends}
use Rattle.link_table.proofs.Lists.{empty_when, some_when}
use Rattle.link_table.proofs.Written.{open_written, closed_written, place_is_taken, gone_tight, tight_written, is_held}
use Rattle.link_table.proofs.ends.EndLists.take.Goals as goal

pub remove-requires : goal.remove-requires
remove-requires c =
    let row = c.take_from.new.row in let written = rw c.unwrap-row.ensures at (c.get_mut.follows.holds row) in
    record { there = is_held (c.get_mut.follows.lender row) c.args.p row written.changes.changed }

pub returns-in-Some-clause-taken : goal.returns-in-Some-clause-taken
returns-in-Some-clause-taken c =
    let row = c.take_from.new.row in let written = rw c.unwrap-row.ensures at (c.get_mut.follows.holds row) in
    place_is_taken c.args.self.now _ c.args.p c.args.i c.unwrap-row.result.now row.items (rw c.unwrap-row.ensures at c.get_mut.ensures.value)
    (open_written c.args.self.now _ c.args.p row written.changes) c.take_from.ensures.taken

pub returns-in-Some-clause-moved : goal.returns-in-Some-clause-moved
returns-in-Some-clause-moved c =
    let row = c.take_from.new.row in let written = rw c.unwrap-row.ensures at (c.get_mut.follows.holds row) in
    let now = open_written c.args.self.now _ c.args.p row written.changes in
    sym c.in-Some.is ∙ c.take_from.ensures.moved ∙ sym (ap (λ l. slice_get l c.args.i) now.here)

pub returns-in-Some-clause-tight : goal.returns-in-Some-clause-tight
returns-in-Some-clause-tight c tight =
    let row = c.take_from.new.row in let written = rw c.unwrap-row.ensures at (c.get_mut.follows.holds row) in
    let within = slice_get_within row.items c.args.i c.in-Some.moved (sym c.take_from.ensures.moved ∙ c.in-Some.is) in
    tight_written c.args.self.now _ c.args.p row written.changes (omega (arith, within)) tight

pub returns-then-was_only-clause-taken : goal.returns-then-was_only-clause-taken
returns-then-was_only-clause-taken c =
    let row = c.take_from.new.row in let written = rw c.unwrap-row.ensures at (c.get_mut.follows.holds row) in
    let none = empty_when row.items c.is_empty-was_only.result c.is_empty-was_only.ensures c.if-was_only.true in
    place_is_taken c.args.self.now _ c.args.p c.args.i c.unwrap-row.result.now row.items (rw c.unwrap-row.ensures at c.get_mut.ensures.value)
    (closed_written c.args.self.now _ (c.get_mut.follows.lender row) c.args.p row written.changes c.remove.ensures.changes none)
    c.take_from.ensures.taken

pub returns-then-was_only-clause-moved : goal.returns-then-was_only-clause-moved
returns-then-was_only-clause-moved c = sym (ap (λ o. slice_get (row_ends o) c.args.i) c.remove.ensures.changes.changed)

pub returns-then-was_only-clause-tight : goal.returns-then-was_only-clause-tight
returns-then-was_only-clause-tight c tight =
    let row = c.take_from.new.row in let written = rw c.unwrap-row.ensures at (c.get_mut.follows.holds row) in
    gone_tight c.args.self.now _ (c.get_mut.follows.lender row) c.args.p _ written.changes c.remove.ensures.changes tight

pub returns-else-was_only-clause-taken : goal.returns-else-was_only-clause-taken
returns-else-was_only-clause-taken c =
    let row = c.take_from.new.row in let written = rw c.unwrap-row.ensures at (c.get_mut.follows.holds row) in
    place_is_taken c.args.self.now _ c.args.p c.args.i c.unwrap-row.result.now row.items (rw c.unwrap-row.ensures at c.get_mut.ensures.value)
    (open_written c.args.self.now _ c.args.p row written.changes) c.take_from.ensures.taken

pub returns-else-was_only-clause-moved : goal.returns-else-was_only-clause-moved
returns-else-was_only-clause-moved c =
    let row = c.take_from.new.row in let written = rw c.unwrap-row.ensures at (c.get_mut.follows.holds row) in
    let now = open_written c.args.self.now _ c.args.p row written.changes in
    c.in_default.ensures.moved ∙ sym (ap (λ l. slice_get l c.args.i) now.here)

pub returns-else-was_only-clause-tight : goal.returns-else-was_only-clause-tight
returns-else-was_only-clause-tight c tight =
    let row = c.take_from.new.row in let written = rw c.unwrap-row.ensures at (c.get_mut.follows.holds row) in
    tight_written c.args.self.now _ c.args.p row written.changes
    (some_when (length row.items) c.is_empty-was_only.result c.is_empty-was_only.ensures c.if-was_only.false) tight
