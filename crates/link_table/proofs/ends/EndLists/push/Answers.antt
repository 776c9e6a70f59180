use Rattle.std.proofs.Common.{sym, arith}
use Rattle.link_table.proofs.Written.{one_end_more, ends_unwritten, tight_written, tight_kept}
use Rattle.link_table.proofs.Lists.{on_err}
use Rattle.link_table.proofs.ends.EndLists.push.Goals as goal

pub returns-in_ok-push-in-Some-clause-more : goal.returns-in_ok-push-in-Some-clause-more
returns-in_ok-push-in-Some-clause-more c =
    let written = rw c.in-Some.is at (c.get_mut.follows.holds c.push.new.self) in
    one_end_more c.args.self.now _ c.args.p c.args.end c.in-Some.row.now c.push.new.self c.in-Some.ensures.value written.changes
    c.in_ok-push-in-Some.ensures.ok

pub returns-in_err-push-in-Some-clause-err : goal.returns-in_err-push-in-Some-clause-err
returns-in_err-push-in-Some-clause-err c =
    let written = rw c.in-Some.is at (c.get_mut.follows.holds c.push.new.self) in
    on_err c.from_residual.result (ends_unwritten c.args.self.now _ c.args.p c.in-Some.row.now c.push.new.self c.in-Some.ensures.value written.changes
    c.in_err-push-in-Some.ensures.err)

pub returns-in_ok-push-in-Some-clause-tight : goal.returns-in_ok-push-in-Some-clause-tight
returns-in_ok-push-in-Some-clause-tight c =
    let written = rw c.in-Some.is at (c.get_mut.follows.holds c.push.new.self) in
    let len = c.in_ok-push-in-Some.ensures.len in
    tight_written c.args.self.now _ c.args.p c.push.new.self written.changes (omega (arith, len))

pub returns-in_err-push-in-Some-clause-tight : goal.returns-in_err-push-in-Some-clause-tight
returns-in_err-push-in-Some-clause-tight c =
    let written = rw c.in-Some.is at (c.get_mut.follows.holds c.push.new.self) in
    tight_kept c.args.self.now _ c.args.p c.in-Some.row.now c.push.new.self c.in-Some.ensures.value written.changes c.in_err-push-in-Some.ensures.err

pub push_first-requires : goal.push_first-requires
push_first-requires c = let none = rw c.in-None.is at c.get_mut.ensures.value in record { absent = rw c.get_mut.follows.holds-at-none (sym none) }

pub returns-in-None-clause-more : goal.returns-in-None-clause-more
returns-in-None-clause-more c = rw c.get_mut.follows.holds-at-none at c.push_first.ensures.more

pub returns-in-None-clause-err : goal.returns-in-None-clause-err
returns-in-None-clause-err c = rw c.get_mut.follows.holds-at-none at c.push_first.ensures.err

pub returns-in-None-clause-tight : goal.returns-in-None-clause-tight
returns-in-None-clause-tight c = rw c.get_mut.follows.holds-at-none at c.push_first.ensures.tight
