use Rattle.std.proofs.Common.{◌≡◌, ◌++◌, ◌≤◌, ◌-◌, ◌+◌, length, vec_len, vec_capacity}
use Rattle.timing_wheel.specs.Places.{place_of}
use Rattle.index_lists.specs.Lists.{count}
use Rattle.timing_wheel.specs.Timers.{by_deadline, due_by, due_after, keys_of}
use Rattle.timing_wheel.specs.Levels.{timers_of, NoneBelow, InPlace, IsKeyed, AreMade}
use Rattle.timing_wheel.proofs.levels.Levels.advance.Given as goal

abbrev pub invariant-loop-self : goal.invariant-loop-self
invariant-loop-self l = record {
  inplace : InPlace l.self-inside.time l.self-inside.lists;
  keyed : IsKeyed (place_of l.self-inside.places) l.self-inside.lists;
  below : NoneBelow l.self-inside.lists l.self-inside.least;
  within : l.self-inside.least ≤ length l.self-inside.lists.lists;
  forward : l.self-inside.time ≤ l.to;
  due : l.due.items ++ keys_of (due_by l.to (by_deadline (timers_of l.self-inside.lists.lists))) ≡ l.fn.due.items ++ keys_of (due_by l.to l.fn.self.timers);
  rest : due_after l.to (by_deadline (timers_of l.self-inside.lists.lists)) ≡ due_after l.to l.fn.self.timers;
  made : AreMade l.self-inside.lists;
  spare : l.self-inside.lists.spare + vec_len l.fn.due ≡ l.fn.self.spare + vec_len l.due;
  places : l.self-inside.lists.spare ≤ l.self-inside.places.spare;
  room : count l.self-inside.lists + vec_len l.due ≤ vec_capacity l.due;
}

abbrev pub decreases-loop-self : goal.decreases-loop-self
decreases-loop-self l = l.to - l.self-inside.time
