use Rattle.std.proofs.Common.{◌≡◌, ◌+◌, ◌≤◌, ◌∙◌, [], ◌∷◌, true, false, length, ap, sym, subst, arith}
use Rattle.necessity.specs.Turn.{to_needed}
use Rattle.necessity.specs.Counting.{is_above_zero, needed_in, due_where, behind, IsUnderWay}
use Rattle.necessity.proofs.Turning.{settled}
use Rattle.necessity.proofs.Steps.{recount_steps, behind_as_before, one_waits_more}
use Rattle.necessity.proofs.cascade.recount_link.Goals as goal

pub settle-requires : goal.settle-requires
settle-requires c =
    let t = to_needed c.args.turn in
    let l = c.args.links.now in
    let m = c.args.rows.now in
    let m2 = c.recount.new.rows in
    let w = c.args.waiting.now.items in
    let w2 = c.recount.new.waiting.items in
    let k = c.args.link.kid in
    let row = c.recount.ensures.row in
    let waits = c.recount.ensures.waiting in
    let cap = c.args.waiting.now.cap in
    let on : needed_in m c.args.link.reader ≡ true =
    ap is_above_zero (sym c.need_of.ensures) ∙ sym c.is_above_zero.ensures ∙ c.if-is_above_zero.true in
    let due = subst (λ b. IsUnderWay t l m [] (due_where b k)) on c.requires.under_way in
    let under_way = subst (λ ws. IsUnderWay t l m ws (k ∷ [])) (sym c.requires.none_wait) due in
    let some = subst (λ b. length (due_where b k) + behind t l m [] ≤ cap) on c.requires.room in
    let room = subst (λ ws. 1 + behind t l m ws ≤ cap) (sym c.requires.none_wait) some in
    let after = behind_as_before t l m m2 w w2 [] k under_way row waits in
    let more = one_waits_more t l m m2 w w2 [] k under_way row waits in
    let none = ap length c.requires.none_wait in
    record {
      under_way = recount_steps t l m m2 w w2 [] k under_way row waits;
      fits = c.requires.fits;
      room = omega (arith, after, more, none, room, c.recount.ensures.capacity);
    }

pub returns-else-is_above_zero-clause-at_rest : goal.returns-else-is_above_zero-clause-at_rest
returns-else-is_above_zero-clause-at_rest c =
    let t = to_needed c.args.turn in
    let l = c.args.links.now in
    let m = c.args.rows.now in
    let off : needed_in m c.args.link.reader ≡ false =
    ap is_above_zero (sym c.need_of.ensures) ∙ sym c.is_above_zero.ensures ∙ c.if-is_above_zero.false in
    settled t l m (subst (λ b. IsUnderWay t l m [] (due_where b c.args.link.kid)) off c.requires.under_way)
