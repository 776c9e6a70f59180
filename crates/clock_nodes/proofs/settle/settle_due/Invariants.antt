use Rattle.std.proofs.Common.{◌≡◌, ◌≤◌, ◌+◌, vec_len, vec_capacity}
use Rattle.clock_nodes.specs.Keeping.{IsAwake, TellsDue}
use Rattle.clock_nodes.proofs.settle.settle_due.Given as goal

-- how many are due
abbrev pub decreases-loop : goal.decreases-loop
decreases-loop l = vec_len l.due

-- what was told so far, and room for the others
abbrev pub invariant-loop : goal.invariant-loop
invariant-loop l = record {
  awake : IsAwake l.rows.entries l.wheel l.due.items;
  time : l.wheel.time ≡ l.fn.wheel.time;
  spare : vec_len l.due ≤ l.wheel.spare;
  room : vec_len l.stale + vec_len l.due ≤ vec_capacity l.stale;
  told : TellsDue l.rows.entries l.before l.fn.wheel.time l.fn.due.items l.due.items l.fn.stale.items l.stale.items;
}
