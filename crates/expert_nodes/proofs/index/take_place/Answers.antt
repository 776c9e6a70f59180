use Rattle.std.proofs.Common.{◌∙◌, ◌∷◌, ap, sym}
use Rattle.expert_nodes.proofs.Seeing.{if_none_to, if_some_to}
use Rattle.expert_nodes.proofs.index.take_place.Goals as goal

pub returns-clause-taken : goal.returns-clause-taken
returns-clause-taken c =
    if_some_to c.pop_place-place.result (λ place popped. popped ∙ ap (λ l. place ∷ l) (sym (c.forget_empty.ensures c.args.node))) c.pop_place-place.ensures.taken

pub returns-clause-unchanged : goal.returns-clause-unchanged
returns-clause-unchanged c = if_none_to c.pop_place-place.result (λ none. c.forget_empty.ensures c.args.node ∙ none) c.pop_place-place.ensures.unchanged

pub returns-clause-others : goal.returns-clause-others
returns-clause-others c = λ n d. c.forget_empty.ensures n ∙ c.pop_place-place.ensures.others n d
