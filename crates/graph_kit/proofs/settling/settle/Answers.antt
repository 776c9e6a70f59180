use Rattle.node_outcomes.specs.Meaning.{functions_of}
use Rattle.graph_kit.proofs.Seeing.{settled_looks, settled_maps, settled_rows}
use Rattle.graph_kit.proofs.settling.settle.Goals as goal

pub returns-clause-maps : goal.returns-clause-maps
returns-clause-maps g c =
    settled_maps (functions_of g.F.Functions c.args.graph.now.functions) c.args.graph.now c.stabilize.new.self c.stabilize.result
    c.stabilize.ensures.brought

pub returns-clause-rows : goal.returns-clause-rows
returns-clause-rows g c =
    settled_rows (functions_of g.F.Functions c.args.graph.now.functions) c.args.graph.now c.stabilize.new.self c.stabilize.result
    c.keeps_sound.ensures.sound.nodes c.stabilize.ensures.brought

pub returns-clause-observers : goal.returns-clause-observers
returns-clause-observers g c =
    settled_looks (functions_of g.F.Functions c.args.graph.now.functions) c.args.graph.now c.stabilize.new.self c.stabilize.result
    c.stabilize.ensures.brought

pub returns-clause-values : goal.returns-clause-values
returns-clause-values g c = c.stabilize.ensures.functions.same.values
