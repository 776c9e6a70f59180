use Rattle.std.proofs.lemmas.Bool.Decides.{same_from_decides}
use Rattle.std.proofs.Common.{is_some}
use Rattle.node_arena.specs.Arena.{row_at}
use Rattle.node_lists.proofs.listed.is_live.Goals as goal

pub returns : goal.returns
returns c = same_from_decides _ (is_some (row_at c.args.arena.now c.args.node)) c.is_live.ensures ((λ h. h), (λ h. h))
