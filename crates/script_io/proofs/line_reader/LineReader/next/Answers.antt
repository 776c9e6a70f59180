use Rattle.std.proofs.Common.{arith, ◌∙◌}
use Rattle.script_io.proofs.Taking.{Taking-more, Takes-newline, Takes-last, Takes-part, Taking-still, no_text, front_short, AreOfferedWhole-trans}
use Rattle.script_io.proofs.line_reader.LineReader.next.Goals as goal

pub loop-self-preserved : goal.loop-self-preserved
loop-self-preserved g c =
    let e = c.in-Ok.ensures in
    record {
      taking = Taking-more _ _ _ _ _ _ _ _ _ _ _ _ c.args.limit c.in-Ok.byte c.loop-self.invariant.taking e.gives.0 e.gives.1 e.within c.in-Ok.byte-test.1 c.push_within.ensures.items e.unread e.from_held;
      within = e.within;
      unfailed = e.unfailed (λ h. cc) ∙ c.loop-self.invariant.unfailed;
      offered = AreOfferedWhole-trans _ _ _ c.loop-self.invariant.offered e.offered;
      room = omega (arith, c.push_within.ensures.capacity);
      unended = c.loop-self.invariant.unended;
    }

pub returns-in-Ok-eq10-clause-takes : goal.returns-in-Ok-eq10-clause-takes
returns-in-Ok-eq10-clause-takes g c =
    let gives = (rw c.in-Ok-eq10.field-0-test at c.in-Ok-eq10.ensures.gives) in
    let from = (rw c.in-Ok-eq10.field-0-test at c.in-Ok-eq10.ensures.from_held) in
    Takes-newline _ _ _ _ _ _ _ _ _ _ _ _ _ _ _ c.loop-self.invariant.taking gives.0 gives.1 c.in-Ok-eq10.ensures.unread from c.whole.ensures.line c.whole.ensures.too_long

pub returns-in-Ok-eq10-clause-unread : goal.returns-in-Ok-eq10-clause-unread
returns-in-Ok-eq10-clause-unread g c = Taking-still _ _ _ _ _ _ _ _ _ _ c.loop-self.invariant.taking c.in-Ok-eq10.ensures.unread

pub returns-in-Ok-eq10-clause-offered : goal.returns-in-Ok-eq10-clause-offered
returns-in-Ok-eq10-clause-offered g c = AreOfferedWhole-trans _ _ _ c.loop-self.invariant.offered c.in-Ok-eq10.ensures.offered

pub returns-then-length-gt0-clause-takes : goal.returns-then-length-gt0-clause-takes
returns-then-length-gt0-clause-takes g c =
    let e = c.in-Err-End.ensures in
    let gives = (rw c.in-Err-End.field-0-is at e.gives) in
    Takes-last _ _ _ _ _ _ _ _ _ _ _ _ _ _ _ c.loop-self.invariant.taking gives.0 gives.1 gives.2.1 c.if-length-gt0.true e.unread e.from_held c.whole-then-length-gt0.ensures.line c.whole-then-length-gt0.ensures.too_long

pub returns-then-length-gt0-clause-unread : goal.returns-then-length-gt0-clause-unread
returns-then-length-gt0-clause-unread g c = Taking-still _ _ _ _ _ _ _ _ _ _ c.loop-self.invariant.taking c.in-Err-End.ensures.unread

pub returns-then-length-gt0-clause-offered : goal.returns-then-length-gt0-clause-offered
returns-then-length-gt0-clause-offered g c = AreOfferedWhole-trans _ _ _ c.loop-self.invariant.offered c.in-Err-End.ensures.offered

pub returns-in-Err-End-clause-takes : goal.returns-in-Err-End-clause-takes
returns-in-Err-End-clause-takes g c =
    let e = c.in-Err-End.ensures in
    let gives = (rw c.in-Err-End.field-0-is at e.gives) in
    let t = c.loop-self.invariant.taking in
    Takes-part _ _ _ _ _ _ _ _ _ _ _ _ _ _ _ c.loop-self.invariant.taking gives.0 gives.1 (record { none = no_text _ _ t.long c.if-length-gt0.false; held = gives.2.0; at_end = gives.2.1 }) e.unread e.from_held

pub returns-in-Err-End-clause-unread : goal.returns-in-Err-End-clause-unread
returns-in-Err-End-clause-unread g c = Taking-still _ _ _ _ _ _ _ _ _ _ c.loop-self.invariant.taking c.in-Err-End.ensures.unread

pub returns-in-Err-End-clause-offered : goal.returns-in-Err-End-clause-offered
returns-in-Err-End-clause-offered g c = AreOfferedWhole-trans _ _ _ c.loop-self.invariant.offered c.in-Err-End.ensures.offered

pub returns-in-Err-Limit-clause-takes : goal.returns-in-Err-Limit-clause-takes
returns-in-Err-Limit-clause-takes g c =
    let e = c.in-Err-Limit.ensures in
    let gives = (rw c.in-Err-Limit.field-0-is at e.gives) in
    let t = c.loop-self.invariant.taking in
    Takes-part _ _ _ _ _ _ _ _ _ _ _ _ _ _ _ c.loop-self.invariant.taking gives.0 gives.1 (record { clear = t.clear; reached = gives.2.0; more = gives.2.1 }) e.unread e.from_held

pub returns-in-Err-Limit-clause-unread : goal.returns-in-Err-Limit-clause-unread
returns-in-Err-Limit-clause-unread g c = Taking-still _ _ _ _ _ _ _ _ _ _ c.loop-self.invariant.taking c.in-Err-Limit.ensures.unread

pub returns-in-Err-Limit-clause-offered : goal.returns-in-Err-Limit-clause-offered
returns-in-Err-Limit-clause-offered g c = AreOfferedWhole-trans _ _ _ c.loop-self.invariant.offered c.in-Err-Limit.ensures.offered

pub returns-in-Err-ReadFault-clause-takes : goal.returns-in-Err-ReadFault-clause-takes
returns-in-Err-ReadFault-clause-takes g c =
    let e = c.in-Err-ReadFault.ensures in
    let gives = (rw c.in-Err-ReadFault.field-0-is at e.gives) in
    let t = c.loop-self.invariant.taking in
    Takes-part _ _ _ _ _ _ _ _ _ _ _ _ _ _ _ c.loop-self.invariant.taking gives.0 gives.1 (record { clear = t.clear; held = gives.2 }) e.unread e.from_held

pub returns-in-Err-ReadFault-clause-unread : goal.returns-in-Err-ReadFault-clause-unread
returns-in-Err-ReadFault-clause-unread g c = Taking-still _ _ _ _ _ _ _ _ _ _ c.loop-self.invariant.taking c.in-Err-ReadFault.ensures.unread

pub returns-in-Err-ReadFault-clause-offered : goal.returns-in-Err-ReadFault-clause-offered
returns-in-Err-ReadFault-clause-offered g c = AreOfferedWhole-trans _ _ _ c.loop-self.invariant.offered c.in-Err-ReadFault.ensures.offered

pub push_within-requires-clause-short : goal.push_within-requires-clause-short
push_within-requires-clause-short g c = front_short _ _ c.loop-self.invariant.taking.front
