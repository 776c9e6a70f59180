use Rattle.expert_nodes.proofs.Halves.{is_off}
use Rattle.expert_nodes.proofs.Indexing.{indexed_off, none_linked, stands_in, there_first}
use Rattle.expert_nodes.proofs.links.take_link.Goals as goal

pub remove-link-requires : goal.remove-link-requires
remove-link-requires c = there_first c.args.links.now c.args.index.now c.in-Some.place c.args.node _ c.requires.indexed c.in-Some.ensures.taken

pub returns-clause-indexed : goal.returns-clause-indexed
returns-clause-indexed c =
    indexed_off c.args.links.now c.remove-link.new.self c.args.index.now c.take_place.new.index c.in-Some.place c.args.node c.requires.indexed
    c.in-Some.ensures.taken c.take_place.ensures.others c.remove-link.ensures.lists

pub returns-clause-off : goal.returns-clause-off
returns-clause-off c =
    is_off c.args.links.now c.remove-link.new.self c.in-Some.place c.requires.indexed.marked c.remove-link.ensures.lists c.args.node c.remove-link.result
    c.remove-link.ensures.row (stands_in c.args.links.now c.args.index.now c.in-Some.place c.args.node _ c.requires.indexed c.in-Some.ensures.taken)

pub returns-in_default-clause-absent : goal.returns-in_default-clause-absent
returns-in_default-clause-absent c = none_linked c.args.links.now c.args.index.now c.args.node c.requires.indexed c.in_default.ensures.none
