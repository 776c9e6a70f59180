use Rattle.std.proofs.Common.{◌∙◌, ◌∷◌, Some, ap, sym}
use Rattle.expert_nodes.proofs.Indexing.{none_is, other_queues, own_queue, queue_is}
use Rattle.expert_nodes.proofs.Seeing.{if_none_to, if_some_to}
use Rattle.expert_nodes.proofs.index.pop_place.Goals as goal

pub returns-in-Some-clause-taken : goal.returns-in-Some-clause-taken
returns-in-Some-clause-taken c =
    let written = rw c.in-Some.is at (c.get_mut.follows.holds c.pop.new.self) in
    if_some_to c.pop.result (λ place popped.
    queue_is c.args.index.now c.args.node c.key_of.result c.in-Some.queue.now c.key_of.ensures c.in-Some.ensures.value ∙ popped
    ∙ ap (λ l. place ∷ l) (sym (own_queue c.args.index.now _ c.args.node c.key_of.result (Some c.pop.new.self) c.key_of.ensures written.changes))) c.pop.ensures.popped

pub returns-in-Some-clause-none : goal.returns-in-Some-clause-none
returns-in-Some-clause-none c =
    if_none_to c.pop.result (λ none.
    queue_is c.args.index.now c.args.node c.key_of.result c.in-Some.queue.now c.key_of.ensures c.in-Some.ensures.value ∙ none) c.pop.ensures.none

pub returns-in-Some-clause-unchanged : goal.returns-in-Some-clause-unchanged
returns-in-Some-clause-unchanged c =
    let written = rw c.in-Some.is at (c.get_mut.follows.holds c.pop.new.self) in
    if_none_to c.pop.result (λ none.
    own_queue c.args.index.now _ c.args.node c.key_of.result (Some c.pop.new.self) c.key_of.ensures written.changes ∙ none) c.pop.ensures.unchanged

pub returns-in-Some-clause-others : goal.returns-in-Some-clause-others
returns-in-Some-clause-others c =
    let written = rw c.in-Some.is at (c.get_mut.follows.holds c.pop.new.self) in
    other_queues c.args.index.now _ c.args.node c.key_of.result (Some c.pop.new.self) c.key_of.ensures written.changes

pub returns-in-None-clause-none : goal.returns-in-None-clause-none
returns-in-None-clause-none c =
    let none = rw c.in-None.is at c.get_mut.ensures.value in
    none_is c.args.index.now c.args.node c.key_of.result c.key_of.ensures none

pub returns-in-None-clause-unchanged : goal.returns-in-None-clause-unchanged
returns-in-None-clause-unchanged c =
    let none = rw c.in-None.is at c.get_mut.ensures.value in
    rw c.get_mut.follows.holds-at-none (none_is c.args.index.now c.args.node c.key_of.result c.key_of.ensures none)
