use Rattle.std.proofs.Common.{refl}
use Rattle.std.proofs.lemmas.Option.{slice_get_within}
use Rattle.link_table.specs.Ends.{ends_at, end_at}
use Rattle.link_table.proofs.Removal.{IsHalf, last_known, other_within, other_known, removed_two_way, removed_with}
use Rattle.link_table.proofs.sides.remove_ends.Goals as goal

pub take_end-requires : goal.take_end-requires
take_end-requires c = record {
  there = slice_get_within (ends_at c.args.kids.now c.args.p) c.args.i c.args.end c.requires.there;
  known = last_known c.args.kids.now c.args.readers.now c.args.p c.args.i c.requires.sound.two_way;
}

pub take_end-requires-2 : goal.take_end-requires-2
take_end-requires-2 c =
    let kids = c.take_end.new.side in let readers = c.take_end.new.other in
    let half : IsHalf c.args.kids.now c.args.readers.now kids readers c.args.p c.args.i c.args.end (end_at kids c.args.p c.args.i)
    = record { two_way = c.requires.sound.two_way; taken = c.take_end.ensures.taken c.args.end c.requires.there; now = refl; told = c.take_end.ensures.told } in
    record {
      there = other_within c.args.kids.now c.args.readers.now kids readers c.args.p c.args.i c.args.end (end_at kids c.args.p c.args.i) half;
      known = other_known c.args.kids.now c.args.readers.now kids readers c.args.p c.args.i c.args.end (end_at kids c.args.p c.args.i) half;
    }

pub returns : goal.returns
returns c =
    let kids = c.take_end.new.side in let readers = c.take_end.new.other in
    let half : IsHalf c.args.kids.now c.args.readers.now kids readers c.args.p c.args.i c.args.end (end_at kids c.args.p c.args.i)
    = record { two_way = c.requires.sound.two_way; taken = c.take_end.ensures.taken c.args.end c.requires.there; now = refl; told = c.take_end.ensures.told } in
    record {
      sound = record {
        two_way =
            removed_two_way c.args.kids.now c.args.readers.now kids readers c.args.p c.args.i c.args.end (end_at kids c.args.p c.args.i) half
            c.take_end-2.new.other c.take_end-2.new.side c.take_end-2.ensures.taken c.take_end-2.ensures.told;
        tight = c.take_end-2.ensures.other_tight (c.take_end.ensures.tight c.requires.sound.tight);
        tight_readers = c.take_end-2.ensures.tight (c.take_end.ensures.other_tight c.requires.sound.tight_readers);
      };
      removed =
          removed_with c.args.kids.now c.args.readers.now kids readers c.args.p c.args.i c.args.end (end_at kids c.args.p c.args.i) half
          c.take_end-2.new.other c.take_end-2.new.side c.take_end-2.ensures.taken c.take_end-2.ensures.told;
    }
