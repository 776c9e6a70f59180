use Rattle.std.proofs.Common.{◌≡◌, ◌<◌, ℕ}
use Rattle.inc_value.specs.Choice.{Among}
use Rattle.observers.specs.Keeping.{StayDue}
use Rattle.observers.proofs.due.Due.put_below.Given as goal

abbrev pub invariant-loop-place : goal.invariant-loop-place
invariant-loop-place l = record {
  there : (i : ℕ) → i < l.place → i < l.self.width → Among i l.self.places;
  stay : StayDue l.initial.self.places l.self.places;
  width : l.self.width ≡ l.initial.self.width;
}
