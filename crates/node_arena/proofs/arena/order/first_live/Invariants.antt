use Rattle.std.proofs.Common.{◌≡◌, None}
use Rattle.std.specs.List.{AllWithin}
use Rattle.node_arena.specs.Arena.{row_at}
use Rattle.node_arena.proofs.arena.order.first_live.Given as goal

-- the ids before the place are dead
abbrev pub invariant-loop-place : goal.invariant-loop-place
invariant-loop-place l = AllWithin (λ n. row_at l.arena n ≡ None) l.order l.start l.place
