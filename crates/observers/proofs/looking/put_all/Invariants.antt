use Rattle.std.proofs.Common.{◌≡◌, ◌⊎◌, ℕ, ◌<◌, drop}
use Rattle.inc_value.specs.Choice.{Among}
use Rattle.observers.specs.Keeping.{StayDue}
use Rattle.observers.proofs.looking.put_all.Given as goal

abbrev pub invariant-loop-place : goal.invariant-loop-place
invariant-loop-place l = record {
  there : (i : ℕ) → Among i l.places → i < l.due.width → Among i l.due.places ⊎ Among i (drop l.place-index l.places);
  stay : StayDue l.initial.due.places l.due.places;
  width : l.due.width ≡ l.initial.due.width;
}
