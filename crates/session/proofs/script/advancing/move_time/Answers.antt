use Rattle.std.proofs.Common.{◌≡◌, ◌≤ℤ◌, ℤ, sym, subst, arith, to_z, of_z, w64}
use Rattle.std.proofs.lemmas.Int.{ints}
use Rattle.session.proofs.Advanced.{advance_wanting}
use Rattle.session.proofs.script.advancing.move_time.Goals as goal

pub no_memory-requires : goal.no_memory-requires
no_memory-requires g c =
    let e = c.advance.ensures in
    let same : to_z w64 (of_z w64 c.args.to) ≡ c.args.to = omega (arith, ints, c.ranges.to) in
    let later = subst (λ (t : ℤ). c.args.graph.now.nodes.time ≤ℤ t) (sym same) c.requires.later in
    advance_wanting c.args.graph.now c.requires.unbroken (to_z w64 (of_z w64 c.args.to)) later c.advance.result c.in-Err.fault c.in-Err.is e.fault e.broken
    e.back
