use Rattle.std.proofs.Common.{◌∙◌, inl, inr, sym, subst, arith}
use Rattle.inc_value.specs.Choice.{Among}
use Rattle.observers.proofs.Lists.{drop_next, none_left}
use Rattle.observers.proofs.looking.put_all.Goals as goal

pub loop-place-preserved : goal.loop-place-preserved
loop-place-preserved c =
    let inv = c.loop-place.invariant in
    let put = c.put.ensures in
    let width = put.width in
    record {
      there = λ i a lt. elim (inv.there i a (omega (arith, lt, width))) [
        | inl due ↦ inl (put.stay i due)
        | inr left ↦ elim (subst (Among i) (drop_next c.args.places.now c.loop-place.place-index 0 c.loop-place-test.true) left) [
          | inl same ↦ inl (subst (λ j. Among j c.put.new.self.places) (sym same) (put.there (omega (arith, lt, width, same))))
          | inr rest ↦ inr rest
        ]
      ];
      stay = λ i a. put.stay i (inv.stay i a);
      width = put.width ∙ inv.width;
    }

pub returns-clause-there : goal.returns-clause-there
returns-clause-there c i a lt =
    let inv = c.loop-place.invariant in
    elim (inv.there i a (let width = inv.width in omega (arith, lt, width))) [
      | inl due ↦ due
      | inr left ↦ absurd (none_left i c.args.places.now c.loop-place.place-index c.loop-place-test.false left)
    ]
