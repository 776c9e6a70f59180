use Rattle.std.proofs.Common.{◌∙◌, length}
use Rattle.link_table.proofs.Lists.{empty_when, some_when}
use Rattle.link_table.proofs.Written.{ends_of_row, open_written, closed_written, last_is_taken, gone_tight, tight_written, is_held}
use Rattle.link_table.proofs.ends.EndLists.take_last.Goals as goal

pub remove-requires : goal.remove-requires
remove-requires c =
    let written = rw c.in-Some.is at (c.get_mut.follows.holds c.pop.new.self) in
    record { there = is_held (c.get_mut.follows.lender c.pop.new.self) c.args.p c.pop.new.self written.changes.changed }

pub returns-then-was_only-clause-taken : goal.returns-then-was_only-clause-taken
returns-then-was_only-clause-taken c =
    let written = rw c.in-Some.is at (c.get_mut.follows.holds c.pop.new.self) in
    let items = rw c.unwrap-end.ensures at c.pop.ensures.items in
    let none = empty_when c.pop.new.self.items c.is_empty-was_only.result c.is_empty-was_only.ensures c.if-was_only.true in
    last_is_taken c.args.self.now _ c.args.p c.unwrap-end.result c.pop.new.self.items
    (ends_of_row c.args.self.now c.args.p c.in-Some.row.now c.in-Some.ensures.value ∙ items)
    (closed_written c.args.self.now _ (c.get_mut.follows.lender c.pop.new.self) c.args.p c.pop.new.self written.changes c.remove.ensures.changes none)

pub returns-then-was_only-clause-tight : goal.returns-then-was_only-clause-tight
returns-then-was_only-clause-tight c =
    let written = rw c.in-Some.is at (c.get_mut.follows.holds c.pop.new.self) in
    gone_tight c.args.self.now _ (c.get_mut.follows.lender c.pop.new.self) c.args.p _ written.changes c.remove.ensures.changes c.requires.tight

pub returns-else-was_only-clause-taken : goal.returns-else-was_only-clause-taken
returns-else-was_only-clause-taken c =
    let written = rw c.in-Some.is at (c.get_mut.follows.holds c.pop.new.self) in
    let items = rw c.unwrap-end.ensures at c.pop.ensures.items in
    last_is_taken c.args.self.now _ c.args.p c.unwrap-end.result c.pop.new.self.items
    (ends_of_row c.args.self.now c.args.p c.in-Some.row.now c.in-Some.ensures.value ∙ items)
    (open_written c.args.self.now _ c.args.p c.pop.new.self written.changes)

pub returns-else-was_only-clause-tight : goal.returns-else-was_only-clause-tight
returns-else-was_only-clause-tight c =
    let written = rw c.in-Some.is at (c.get_mut.follows.holds c.pop.new.self) in
    tight_written c.args.self.now _ c.args.p c.pop.new.self written.changes
    (some_when (length c.pop.new.self.items) c.is_empty-was_only.result c.is_empty-was_only.ensures c.if-was_only.false) c.requires.tight
