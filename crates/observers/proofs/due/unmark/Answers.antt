use Rattle.std.proofs.Common.{◌∙◌, subst, arith, false}
use Rattle.observers.specs.Keeping.{IsMarked}
use Rattle.observers.proofs.Lists.{set_length}
use Rattle.observers.proofs.Marks.{unmarks, unmarks_beyond}
use Rattle.observers.proofs.due.unmark.Goals as goal

pub loop-place-preserved-then-i-len : goal.loop-place-preserved-then-i-len
loop-place-preserved-then-i-len c =
    let inv = c.loop-place.invariant in
    let marked = c.loop-place.marked.items in
    let place = c.in-Some.place in
    record {
      marked = unmarks c.pop.new.self.items marked place (subst (λ l. IsMarked l marked) c.in-Some.ensures.items inv.marked);
      width = set_length marked place false ∙ inv.width;
      capacity = c.pop.ensures.capacity ∙ inv.capacity;
    }

pub loop-place-preserved : goal.loop-place-preserved
loop-place-preserved c =
    let inv = c.loop-place.invariant in
    let marked = c.loop-place.marked in
    let place = c.in-Some.place in
    record {
      marked = unmarks_beyond c.pop.new.self.items marked.items place (subst (λ l. IsMarked l marked.items) c.in-Some.ensures.items inv.marked)
          (let a = c.if-i-len.false in let e = c.len.ensures in omega (arith, a, e, marked.ok.0));
      width = inv.width;
      capacity = c.pop.ensures.capacity ∙ inv.capacity;
    }
