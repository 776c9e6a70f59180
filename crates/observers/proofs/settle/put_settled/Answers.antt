use Rattle.std.proofs.Common.{◌∙◌, sym, ap}
use Rattle.observers.specs.Keeping.{put_all}
use Rattle.observers.proofs.Climbing.{put_last}
use Rattle.observers.proofs.settle.put_settled.Goals as goal

pub loop-one-preserved : goal.loop-one-preserved
loop-one-preserved c =
    let inv = c.loop-one.invariant in
    record {
      made = ap (put_all c.pop.new.self.items) c.put_one.ensures
          ∙ sym (put_last c.pop.new.self.items c.in-Some.one c.loop-one.made.items)
          ∙ ap (λ l. put_all l c.loop-one.made.items) (sym c.in-Some.ensures.items)
          ∙ inv.made;
      capacity = c.pop.ensures.capacity ∙ inv.capacity;
    }
