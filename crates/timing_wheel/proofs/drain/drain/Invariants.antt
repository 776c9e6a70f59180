use Rattle.std.proofs.Common.{◌≡◌, ◌≤◌, ◌+◌, ◌++◌, length, vec_len, vec_capacity}
use Rattle.timing_wheel.specs.Places.{place_of}
use Rattle.index_lists.specs.Lists.{count, list_at}
use Rattle.timing_wheel.specs.Levels.{NoneBelow, IsDrained, KeepsLater, fired}
use Rattle.timing_wheel.proofs.drain.drain.Given as goal

abbrev pub invariant-loop-lower : goal.invariant-loop-lower
invariant-loop-lower l = record {
  drained : IsDrained l.tick l.at (place_of l.places) l.lists;
  room : count l.lists + vec_len l.due ≤ vec_capacity l.due;
  later : KeepsLater l.tick l.at l.fn.lists l.lists;
  fired : l.due.items ++ fired l.tick l.at l.lists ≡ l.fn.due.items ++ fired l.tick l.at l.fn.lists;
  below : NoneBelow l.lists l.least;
  within : l.least ≤ l.at;
  spare : l.lists.spare + vec_len l.fn.due ≡ l.fn.lists.spare + vec_len l.due;
  places : l.fn.lists.spare ≤ l.fn.places.spare → l.lists.spare ≤ l.places.spare;
  width : length l.lists.lists ≡ length l.fn.lists.lists;
}

abbrev pub decreases-loop-lower : goal.decreases-loop-lower
decreases-loop-lower l = length (list_at l.lists l.at)
