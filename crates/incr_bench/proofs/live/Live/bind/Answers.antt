use Rattle.std.proofs.Common.{List, subst}
use Rattle.inc_value.specs.Choice.{Among}
use Rattle.node_arena.specs.Listing.{Listed}
use Rattle.incr_bench.proofs.live.Live.bind.Goals as goal

pub bind-made-requires-clause-fit : goal.bind-made-requires-clause-fit
bind-made-requires-clause-fit g c = λ x among. absurd (subst (λ (xs : List Listed). Among x xs) c.requires.lists_none among)
