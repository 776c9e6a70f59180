use Rattle.std.proofs.Common.{◌-◌, ◌<◌, arith, length, refl, sym}
use Rattle.std.proofs.lemmas.Option.{slice_get_read}
use Rattle.script_graph.proofs.Ending.{swap_length}
use Rattle.session.proofs.Placing.{moved_has_position, placed_moved, placed_without}
use Rattle.session.proofs.observer_ids.ObserverIds.swap_remove.Goals as goal

pub replace-requires : goal.replace-requires
replace-requires c =
    let ids = c.self.inside.ids.items in
    let o = c.swap_remove-observer.result in
    let within = rw (← c.self.view_is) at c.requires in
    let at_o = slice_get_read ids (length ids) c.args.position o refl within c.swap_remove-observer.ensures.value in
    let taken = rw c.key_of.ensures at c.remove.ensures.changes in
    let less = c.if-position-len.true in
    let many = c.len.ensures in
    let fewer = c.swap_remove-observer.ensures.len in
    let ok = c.self.inside.ids.ok in
    let low : c.args.position < length ids - 1 = omega (arith, less, many, fewer, ok) in
    let left = swap_length ids c.args.position o in
    let moved = rw c.swap_remove-observer.ensures.items at c.index-moved.ensures in
    let at_moved = slice_get_read _ (length ids - 1) c.args.position c.index-moved.result.now (sym left) low moved in
    record {
      there = rw c.key_of-then-position-len.ensures (moved_has_position ids c.self.inside.positions c.remove.new.self c.args.position o c.self.invariant
          at_o taken low c.index-moved.result.now at_moved);
    }

pub invariant_of-self : goal.invariant_of-self
invariant_of-self c =
    let ids = c.self.inside.ids.items in
    let o = c.swap_remove-observer.result in
    let within = rw (← c.self.view_is) at c.requires in
    let at_o = slice_get_read ids (length ids) c.args.position o refl within c.swap_remove-observer.ensures.value in
    let taken = rw c.key_of.ensures at c.remove.ensures.changes in
    let less = c.if-position-len.true in
    let many = c.len.ensures in
    let fewer = c.swap_remove-observer.ensures.len in
    let ok = c.self.inside.ids.ok in
    let low : c.args.position < length ids - 1 = omega (arith, less, many, fewer, ok) in
    let left = swap_length ids c.args.position o in
    let moved = rw c.swap_remove-observer.ensures.items at c.index-moved.ensures in
    let at_moved = slice_get_read _ (length ids - 1) c.args.position c.index-moved.result.now (sym left) low moved in
    let put = rw c.key_of-then-position-len.ensures at c.replace.ensures.changes in
    rw c.swap_remove-observer.ensures.items (placed_moved ids c.self.inside.positions c.remove.new.self c.args.position o c.self.invariant at_o taken
    low c.index-moved.result.now at_moved c.replace.new.self put)

pub invariant_of-self-else-position-len : goal.invariant_of-self-else-position-len
invariant_of-self-else-position-len c =
    let ids = c.self.inside.ids.items in
    let o = c.swap_remove-observer.result in
    let within = rw (← c.self.view_is) at c.requires in
    let at_o = slice_get_read ids (length ids) c.args.position o refl within c.swap_remove-observer.ensures.value in
    let taken = rw c.key_of.ensures at c.remove.ensures.changes in
    let past = c.if-position-len.false in
    let many = c.len.ensures in
    let fewer = c.swap_remove-observer.ensures.len in
    let ok = c.self.inside.ids.ok in
    rw c.swap_remove-observer.ensures.items (placed_without ids c.self.inside.positions c.remove.new.self c.args.position o c.self.invariant at_o taken
    (λ low. omega (arith, low, past, many, fewer, ok)))

pub returns-then-position-len-clause-value : goal.returns-then-position-len-clause-value
returns-then-position-len-clause-value c =
    let ids = c.self.inside.ids.items in
    let within = rw (← c.self.view_is) at c.requires in
    rw (← c.self.view_is) (slice_get_read ids (length ids) c.args.position c.swap_remove-observer.result refl within c.swap_remove-observer.ensures.value)

pub returns-else-position-len-clause-value : goal.returns-else-position-len-clause-value
returns-else-position-len-clause-value c =
    let ids = c.self.inside.ids.items in
    let within = rw (← c.self.view_is) at c.requires in
    rw (← c.self.view_is) (slice_get_read ids (length ids) c.args.position c.swap_remove-observer.result refl within c.swap_remove-observer.ensures.value)
