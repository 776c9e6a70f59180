use Rattle.std.proofs.Common.{arith, ◌≡◌, ◌≤ℤ◌, subst, sym, to_z, of_z, w64}
use Rattle.std.proofs.lemmas.Int.{ints}
use Rattle.node_arena.specs.Arena.{Arena}
use Rattle.node_arena.proofs.Sound.{kept_moved}
use Rattle.node_arena.proofs.arena.Arena.move_to.Goals as goal

pub invariant_of-self : goal.invariant_of-self
invariant_of-self c =
    let a : Arena = record { slots = c.self.inside.nodes.slots; given = c.self.inside.given; time = c.self.inside.time } in
    let same : to_z w64 (of_z w64 c.args.time) ≡ c.args.time = omega (arith, ints, c.ranges.time) in
    let forward = subst (λ (x : Arena). x.time ≤ℤ c.args.time) (sym c.self.view_is) c.requires.forward in
    kept_moved a (to_z w64 (of_z w64 c.args.time)) c.self.inside.order.items (subst (λ t. c.self.inside.time ≤ℤ t) (sym same) forward) c.self.invariant

pub returns-clause-sound : goal.returns-clause-sound
returns-clause-sound c = (invariant_of-self c).sound
