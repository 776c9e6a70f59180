use Rattle.session.proofs.Passing.{AreTold}
use Rattle.session.proofs.script.naming.write_each_passed.Given as goal
use Rattle.session.specs.Replies.{name_in}

abbrev pub invariant-loop-place : goal.invariant-loop-place
invariant-loop-place g l = AreTold l.graph l.names.declared l.nodes.items (name_in l.names) l.points l.fn.line.items l.place l.line.items l.first
