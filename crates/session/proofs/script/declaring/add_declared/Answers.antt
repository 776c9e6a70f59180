use Rattle.session.proofs.script.declaring.add_declared.Goals as goal

pub make_declared-requires-clause-has_nodes : goal.make_declared-requires-clause-has_nodes
make_declared-requires-clause-has_nodes g c = rw c.as_slice.ensures c.requires.has_nodes
