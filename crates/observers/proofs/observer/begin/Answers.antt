use Rattle.observers.proofs.Keeping.{begun_at}
use Rattle.observers.proofs.observer.begin.Goals as goal

pub returns : goal.returns
returns c = begun_at c.args.made.now.items c.args.place c.index_mut.result.now c.requires.open c.index_mut.ensures.value
