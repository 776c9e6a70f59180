use Rattle.std.proofs.Common.{◌∙◌, None, ap, sym}
use Rattle.std.specs.Prelude.{is_some}
use Rattle.expert_nodes.specs.Links.{items_in}
use Rattle.expert_nodes.proofs.Indexing.{same_queues}
use Rattle.expert_nodes.proofs.index.forget_empty.Goals as goal

pub remove-requires : goal.remove-requires
remove-requires c = record { there = ap is_some (c.is_empty.ensures c.if-is_empty.true).there }

pub returns-then-is_empty : goal.returns-then-is_empty
returns-then-is_empty c =
    let empty = c.is_empty.ensures c.if-is_empty.true in
    same_queues c.args.index.now c.remove.new.self c.args.node c.key_of-key.result None c.key_of-key.ensures c.remove.ensures.changes
    (sym empty.empty ∙ sym (ap items_in empty.there))
