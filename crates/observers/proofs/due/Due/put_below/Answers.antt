use Rattle.std.proofs.Common.{◌∙◌, inl, inr, sym, subst, arith}
use Rattle.std.proofs.lemmas.Bool.{cases_eq}
use Rattle.inc_value.specs.Choice.{Among}
use Rattle.observers.proofs.due.Due.put_below.Goals as goal

pub loop-place-preserved : goal.loop-place-preserved
loop-place-preserved c =
    let inv = c.loop-place.invariant in
    let put = c.put.ensures in
    let width = put.width in
    record {
      there = λ i lt le. elim (cases_eq i c.loop-place.place) [
        | inl same ↦ subst (λ j. Among j c.put.new.self.places) (sym same) (put.there (omega (arith, same, le, width)))
        | inr other ↦ put.stay i (inv.there i (omega (arith, lt, other)) (omega (arith, le, width)))
      ];
      stay = λ i a. put.stay i (inv.stay i a);
      width = put.width ∙ inv.width;
    }

pub returns-clause-there : goal.returns-clause-there
returns-clause-there c i lt le =
    let inv = c.loop-place.invariant in
    let width = inv.width in
    let all = c.loop-place-test.false in
    inv.there i (omega (arith, lt, all)) (omega (arith, le, width))
