use Rattle.std.proofs.Common.{◌≡◌, ◌∙◌, [], length, ap, subst}
use Rattle.std.specs.Prelude.{IfSome, IfNone}
use Rattle.link_table.specs.Ends.{ends_at, EndIsTaken}
use Rattle.link_table.proofs.Put.{two_way_more, two_way_kept}
use Rattle.link_table.proofs.Taking.{put_and_popped}
use Rattle.point_rows.specs.declared.row.Side.TheVariants.{Kids, Readers}
use Rattle.point_rows.specs.Cells.{side_of}
use Rattle.point_rows.proofs.sides.add_ends.Goals as goal

pub returns-in-Err-clause-sound : goal.returns-in-Err-clause-sound
returns-in-Err-clause-sound c =
    let r0 = c.args.rows.now in let r1 = c.push_end.new.rows in let r2 = c.push_end-2.new.rows in let r3 = c.take_last.new.rows in
    let kids : side_of Kids r3 ≡ side_of Kids r0 = c.take_last.ensures.beyond ∙ c.in-Err.ensures.err ∙ c.push_end.ensures.beyond in
    let mid : side_of Readers r2 ≡ side_of Readers r1 = c.push_end-2.ensures.beyond in
    let readers = put_and_popped (side_of Readers r0) (side_of Readers r1) (side_of Readers r3) c.args.q _
    c.in_ok-back.ensures.more c.take_last.result
    (subst (λ l. IfSome c.take_last.result (λ f. EndIsTaken l (side_of Readers r3) c.args.q (length (ends_at (side_of Readers r3) c.args.q)) f)) mid
    c.take_last.ensures.taken)
    (subst (λ l. IfNone c.take_last.result (ends_at l c.args.q ≡ [])) mid c.take_last.ensures.none) in
    record {
      once = c.take_last.ensures.once;
      two_way =
          two_way_kept (side_of Kids r0) (side_of Readers r0) (side_of Kids r3) (side_of Readers r3) (λ x. ap (λ l. ends_at l x) kids) readers
          c.requires.sound.two_way;
    }

pub returns-clause-sound : goal.returns-clause-sound
returns-clause-sound c =
    let r0 = c.args.rows.now in let r1 = c.push_end.new.rows in let r2 = c.push_end-2.new.rows in
    let kids : side_of Kids r1 ≡ side_of Kids r0 = c.push_end.ensures.beyond in
    let readers : side_of Readers r2 ≡ side_of Readers r1 = c.push_end-2.ensures.beyond in
    record {
      once = c.push_end-2.ensures.once;
      two_way =
          two_way_more (side_of Kids r0) (side_of Kids r2) (side_of Readers r0) (side_of Readers r2) c.args.p c.args.q
          (length c.ends_of-i.result.now) c.in_ok-back.back (record {
            this = rw kids at c.in_default.ensures.more;
            that = rw readers c.in_ok-back.ensures.more;
            this_last = ap length c.ends_of-i.ensures;
            that_last = c.in_ok-back.ensures.place;
          }) c.requires.sound.two_way;
    }
