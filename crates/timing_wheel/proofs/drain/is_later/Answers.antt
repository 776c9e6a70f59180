use Rattle.std.proofs.Common.{◌∙◌, IsSome, refl, sym, subst, inl, inr}
use Rattle.std.proofs.lemmas.Bool.{eq-eqb}
use Rattle.index_lists.specs.Lists.{Has, list_at}
use Rattle.timing_wheel.proofs.Rows.{first_place, first_has, filled_place, filled_has}
use Rattle.timing_wheel.proofs.Queue.{lt_false, eqb_same}
use Rattle.timing_wheel.proofs.drain.is_later.Goals as goal

pub unwrap-place-requires : goal.unwrap-place-requires
unwrap-place-requires c =
    let f = c.requires.filled in
    subst IsSome (sym (c.first.ensures ∙ first_place _ f.first f.rest f.is)) refl

pub row-timer-requires : goal.row-timer-requires
row-timer-requires c =
    let f = c.requires.filled in
    record {
      list = c.args.at;
      row = f.first.1;
      has = subst (λ p. Has (list_at c.args.lists.now c.args.at) p f.first.1)
          (sym (filled_place c.args.lists.now c.args.at c.unwrap-place.result f (sym c.first.ensures ∙ c.unwrap-place.ensures)))
          (filled_has c.args.lists.now c.args.at f);
    }

pub returns-then-tick-timer : goal.returns-then-tick-timer
returns-then-tick-timer c =
    let has = first_has c.args.lists.now c.args.at c.unwrap-place.result c.row-timer.result.now c.requires.filled
    (sym c.first.ensures ∙ c.unwrap-place.ensures) c.row-timer.ensures in
    record {
      place = c.unwrap-place.result;
      first = c.row-timer.result.now;
      has = has;
      later = λ same. (c.if-tick-timer.true, sym c.slot_of.ensures.slot ∙ eqb_same c.slot_of.result c.args.at same);
      near = λ other. inr (λ e. let f = sym (eq-eqb c.slot_of.result c.args.at (c.slot_of.ensures.slot ∙ e)) ∙ other in cc);
    }

pub returns-else-tick-timer : goal.returns-else-tick-timer
returns-else-tick-timer c =
    let has = first_has c.args.lists.now c.args.at c.unwrap-place.result c.row-timer.result.now c.requires.filled
    (sym c.first.ensures ∙ c.unwrap-place.ensures) c.row-timer.ensures in
    record {
      place = c.unwrap-place.result;
      first = c.row-timer.result.now;
      has = has;
      later = λ bad. absurd (let t = c.if-tick-timer.false in let f = sym (lt_false c.args.tick c.row-timer.result.now.deadline t) ∙ bad in cc);
      near = λ _. inl c.if-tick-timer.false;
    }
