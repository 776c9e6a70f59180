use Rattle.expert_nodes.proofs.Halves.{count_put, kids_put, taken_put}
use Rattle.expert_nodes.proofs.Indexing.{indexed_put}
use Rattle.expert_nodes.proofs.links.put_link.Goals as goal

pub returns-clause-indexed : goal.returns-clause-indexed
returns-clause-indexed c =
    indexed_put c.args.links.now c.push_back-place.new.self c.args.index.now c.put_place.new.index c.push_back-place.result c.args.node c.requires.indexed
    c.requires.wide c.push_back-place.ensures.vacant c.push_back-place.ensures.lists c.put_place.ensures.own c.put_place.ensures.others

pub returns-clause-taken : goal.returns-clause-taken
returns-clause-taken c =
    taken_put c.args.links.now c.push_back-place.new.self c.push_back-place.result c.args.node c.requires.indexed.marked c.requires.wide c.push_back-place.ensures.lists

pub returns-clause-fresh : goal.returns-clause-fresh
returns-clause-fresh c =
    kids_put c.args.links.now c.push_back-place.new.self c.push_back-place.result c.args.node c.requires.indexed.marked c.requires.wide c.push_back-place.ensures.lists

pub returns-clause-count : goal.returns-clause-count
returns-clause-count c =
    count_put c.args.links.now c.push_back-place.new.self c.push_back-place.result c.args.node c.requires.indexed.marked c.requires.wide c.push_back-place.ensures.lists
