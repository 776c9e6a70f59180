use Rattle.std.proofs.Common.{refl}
use Rattle.node_arena.specs.Arena.{Arena}
use Rattle.node_arena.proofs.Rows.{shrunk}
use Rattle.node_arena.proofs.Sound.{kept_dropped}
use Rattle.node_arena.proofs.arena.Arena.drop_node.Goals as goal

pub invariant_of-self : goal.invariant_of-self
invariant_of-self c =
    let a : Arena = record { slots = c.self.inside.nodes.slots; given = c.self.inside.given; time = c.self.inside.time } in
    let a' : Arena = record { slots = c.remove.new.self.slots; given = c.self.inside.given; time = c.self.inside.time } in
    let updates = c.remove.ensures.updates in
    kept_dropped a a' c.self.inside.order.items c.self.invariant (shrunk a a' c.args.id.slot updates.others updates.changed) refl refl c.remove.ensures.len

pub returns-clause-sound : goal.returns-clause-sound
returns-clause-sound c = (invariant_of-self c).sound
