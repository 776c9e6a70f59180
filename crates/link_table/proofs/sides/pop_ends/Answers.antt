use Rattle.std.proofs.Common.{None, length}
use Rattle.link_table.specs.Ends.{ends_at}
use Rattle.link_table.proofs.Removal.{popped_half, other_within, other_known, removed_two_way, removed_with}
use Rattle.link_table.proofs.sides.pop_ends.Goals as goal

pub take_end-requires : goal.take_end-requires
take_end-requires c =
    let kids = c.take_last.new.self in let end = c.in-Some.end in let place = length (ends_at kids c.args.p) in
    let half = popped_half c.args.kids.now kids c.args.readers.now c.args.p end c.requires.sound.two_way c.in-Some.ensures.taken in
    record {
      there = other_within c.args.kids.now c.args.readers.now kids c.args.readers.now c.args.p place end None half;
      known = other_known c.args.kids.now c.args.readers.now kids c.args.readers.now c.args.p place end None half;
    }

pub returns-clause-sound : goal.returns-clause-sound
returns-clause-sound c =
    let kids = c.take_last.new.self in let end = c.in-Some.end in let place = length (ends_at kids c.args.p) in
    let half = popped_half c.args.kids.now kids c.args.readers.now c.args.p end c.requires.sound.two_way c.in-Some.ensures.taken in
    record {
      two_way =
          removed_two_way c.args.kids.now c.args.readers.now kids c.args.readers.now c.args.p place end None half c.take_end.new.other c.take_end.new.side
          c.take_end.ensures.taken c.take_end.ensures.told;
      tight = c.take_end.ensures.other_tight c.take_last.ensures.tight;
      tight_readers = c.take_end.ensures.tight c.requires.sound.tight_readers;
    }

pub returns-clause-removed : goal.returns-clause-removed
returns-clause-removed c =
    let kids = c.take_last.new.self in let end = c.in-Some.end in let place = length (ends_at kids c.args.p) in
    let half = popped_half c.args.kids.now kids c.args.readers.now c.args.p end c.requires.sound.two_way c.in-Some.ensures.taken in
    removed_with c.args.kids.now c.args.readers.now kids c.args.readers.now c.args.p place end None half c.take_end.new.other c.take_end.new.side
    c.take_end.ensures.taken c.take_end.ensures.told
