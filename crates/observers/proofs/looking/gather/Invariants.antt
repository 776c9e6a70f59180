use Rattle.std.proofs.Common.{◌≡◌, ◌⊎◌, ℕ, Some, true, drop}
use Rattle.std.specs.Prelude.{slice_get}
use Rattle.inc_value.specs.Choice.{Among}
use Rattle.observers.specs.declared.observer.Observer.{Observer}
use Rattle.observers.specs.Keeping.{LooksAll, StayDue}
use Rattle.observers.proofs.looking.gather.Given as goal

abbrev pub invariant-loop-node : goal.invariant-loop-node
invariant-loop-node l = record {
  looks : LooksAll l.made l.looking;
  covers : (i : ℕ) (o : Observer) → slice_get l.made i ≡ Some o → o.in_use ≡ true → Among o.node l.news
      → Among i l.due.places ⊎ Among o.node (drop l.node-index l.news);
  stay : StayDue l.initial.due.places l.due.places;
  width : l.due.width ≡ l.initial.due.width;
}
