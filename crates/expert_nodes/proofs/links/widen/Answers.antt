use Rattle.std.proofs.Common.{◌∙◌, [], ap, inr, length}
use Rattle.std.specs.Prelude.{slice_index_or}
use Rattle.expert_nodes.proofs.Halves.{first_wide, pair_wide, second_wide}
use Rattle.expert_nodes.proofs.links.widen.Goals as goal

pub returns-clause-two : goal.returns-clause-two
returns-clause-two c = inr (ap length c.reserve.ensures.lists ∙ ap length c.in_ok-widen.ensures.lists ∙ pair_wide c.args.links.now.lists c.requires.two)

pub returns-clause-taken : goal.returns-clause-taken
returns-clause-taken c =
    ap (λ ls. slice_index_or ls 0 []) (c.reserve.ensures.lists ∙ c.in_ok-widen.ensures.lists) ∙ first_wide c.args.links.now.lists

pub returns-clause-fresh : goal.returns-clause-fresh
returns-clause-fresh c =
    ap (λ ls. slice_index_or ls 1 []) (c.reserve.ensures.lists ∙ c.in_ok-widen.ensures.lists) ∙ second_wide c.args.links.now.lists
