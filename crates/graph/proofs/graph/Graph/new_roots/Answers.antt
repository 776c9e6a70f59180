use Rattle.std.proofs.Common.{List, ap, ◌∙◌, ◌++◌}
use Rattle.inc_value.specs.declared.node.NodeId.{NodeId}
use Rattle.graph.proofs.graph.Graph.new_roots.Goals as goal

pub in_use-requires : goal.in_use-requires
in_use-requires g c = record { within = c.self.invariant.0.earlier }

pub returns-in-Ok : goal.returns-in-Ok
returns-in-Ok g c =
    let found = c.in-Ok.ensures.listed in
    record {
      roots = rw (← c.self.view_is) (record {
        freezes = found.0;
        all = found.1 ∙ ap (λ (nodes : List NodeId). nodes ++ found.0) c.in_ok-roots.ensures.used;
        fresh = found.2;
      });
      some = tt;
    }
