use Rattle.std.proofs.Common.{refl}
use Rattle.std.specs.Prelude.{slice_set}
use Rattle.smallvec.specs.SmallVec.{with_items}
use Rattle.link_table.proofs.Written.{end_is_set, set_row_some, tight_written}
use Rattle.link_table.proofs.ends.EndLists.set.Goals as goal

pub returns-clause-set : goal.returns-clause-set
returns-clause-set c =
    let there = rw c.unwrap-row.ensures at c.get_mut.ensures.value in
    let row = with_items c.unwrap-row.result.now (slice_set c.deref_mut.result.now c.args.i c.args.end) in
    let written = rw c.unwrap-row.ensures at (c.get_mut.follows.holds row) in
    end_is_set c.args.self.now _ c.args.p c.args.i c.args.end c.unwrap-row.result.now row there written.changes (rw c.deref_mut.ensures.value refl)

pub returns-clause-tight : goal.returns-clause-tight
returns-clause-tight c =
    let there = rw c.unwrap-row.ensures at c.get_mut.ensures.value in
    let row = with_items c.unwrap-row.result.now (slice_set c.deref_mut.result.now c.args.i c.args.end) in
    let written = rw c.unwrap-row.ensures at (c.get_mut.follows.holds row) in
    let some = set_row_some c.args.self.now c.args.p c.args.i c.args.end c.unwrap-row.result.now row there (rw c.deref_mut.ensures.value refl) c.requires.there in
    tight_written c.args.self.now _ c.args.p row written.changes some
