use Rattle.std.proofs.Common.{◌∙◌, ◌++◌, ◌∷◌, [], ◌<◌, Some, ap, refl, subst, sym}
use Rattle.std.proofs.lemmas.Option.{same_Some}
use Rattle.point_map.specs.Rows.{at}
use Rattle.expert_nodes.specs.Links.{Queue}
use Rattle.expert_nodes.proofs.Indexing.{other_queues, own_queue, queue_is}
use Rattle.expert_nodes.proofs.Seeing.{some_mut}
use Rattle.expert_nodes.proofs.index.put_place.Goals as goal

pub unwrap-queue-requires : goal.unwrap-queue-requires
unwrap-queue-requires c = some_mut c.get_mut.result (Some c.requires.room.queue)
    (c.get_mut.ensures.value ∙ ap (at c.args.index.now) c.key_of.ensures ∙ c.requires.room.there) refl

pub push-requires : goal.push-requires
push-requires c =
    let was = rw c.unwrap-queue.ensures at c.get_mut.ensures.value in
    let same = same_Some c.unwrap-queue.result.now c.requires.room.queue (was ∙ ap (at c.args.index.now) c.key_of.ensures ∙ c.requires.room.there) in
    record { room = subst (λ (q : Queue). 0 < q.spare) (sym same) c.requires.room.room }

pub returns-clause-own : goal.returns-clause-own
returns-clause-own c =
    let was = rw c.unwrap-queue.ensures at c.get_mut.ensures.value in
    let written = rw c.unwrap-queue.ensures at (c.get_mut.follows.holds c.push.new.self) in
    own_queue c.args.index.now _ c.args.node c.key_of.result (Some c.push.new.self) c.key_of.ensures written.changes ∙ c.push.ensures
    ∙ ap (λ l. l ++ c.args.place ∷ []) (sym (queue_is c.args.index.now c.args.node c.key_of.result c.unwrap-queue.result.now c.key_of.ensures was))

pub returns-clause-others : goal.returns-clause-others
returns-clause-others c =
    let written = rw c.unwrap-queue.ensures at (c.get_mut.follows.holds c.push.new.self) in
    other_queues c.args.index.now _ c.args.node c.key_of.result (Some c.push.new.self) c.key_of.ensures written.changes
