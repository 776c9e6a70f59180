use Rattle.std.proofs.Common.{length, refl, ap}
use Rattle.link_table.proofs.Places.{put_with}
use Rattle.link_table.proofs.Put.{two_way_more, two_way_kept}
use Rattle.link_table.proofs.Taking.{put_and_popped}
use Rattle.link_table.proofs.sides.add_ends.Goals as goal

pub returns-in_err-push-clause-sound : goal.returns-in_err-push-clause-sound
returns-in_err-push-clause-sound c = record {
  two_way =
      two_way_kept c.args.kids.now c.args.readers.now c.push.new.self c.args.readers.now c.in_err-push.ensures.err (λ x. refl) c.requires.sound.two_way;
  tight = c.push.ensures.tight c.requires.sound.tight;
  tight_readers = c.requires.sound.tight_readers;
}

pub returns-in-Err-clause-sound : goal.returns-in-Err-clause-sound
returns-in-Err-clause-sound c =
    let kept = put_and_popped c.args.kids.now c.push.new.self c.take_last.new.self c.args.p _ c.in_ok-push.ensures.more c.take_last.result
    c.take_last.ensures.taken c.take_last.ensures.none in
    record {
      two_way =
          two_way_kept c.args.kids.now c.args.readers.now c.take_last.new.self c.push-2.new.self kept c.in-Err.ensures.err c.requires.sound.two_way;
      tight = c.take_last.ensures.tight;
      tight_readers = c.push-2.ensures.tight c.requires.sound.tight_readers;
    }

pub returns-in-Err-clause-err : goal.returns-in-Err-clause-err
returns-in-Err-clause-err c =
    put_and_popped c.args.kids.now c.push.new.self c.take_last.new.self c.args.p _ c.in_ok-push.ensures.more c.take_last.result
    c.take_last.ensures.taken c.take_last.ensures.none

pub returns-clause-sound : goal.returns-clause-sound
returns-clause-sound c = record {
  two_way =
      two_way_more c.args.kids.now c.push.new.self c.args.readers.now c.push-2.new.self c.args.p c.args.q (length c.of-i.result.now)
      (length c.of-back.result.now) (record {
        this = c.in_ok-push.ensures.more;
        that = c.in_default.ensures.more;
        this_last = ap length c.of-i.ensures;
        that_last = ap length c.of-back.ensures;
      }) c.requires.sound.two_way;
  tight = c.push.ensures.tight c.requires.sound.tight;
  tight_readers = c.push-2.ensures.tight c.requires.sound.tight_readers;
}

pub returns-clause-added : goal.returns-clause-added
returns-clause-added c = put_with c.args.kids.now c.push.new.self c.args.p _ c.in_ok-push.ensures.more
