use Rattle.std.proofs.Common.{arith, ◌+◌, ◌-◌, ◌<◌, ◌^◌, IfSome, refl, sym, subst, ◌∙◌}
use Rattle.node_arena.specs.declared.arena.Entry.{Entry}
use Rattle.inc_terms.specs.Code.{def_of}
use Rattle.inc_terms.specs.Clock.{IsTimed}
use Rattle.inc_terms.specs.Within.{Given}
use Rattle.node_arena.specs.Arena.{Arena, row_of, live, NamesGiven}
use Rattle.node_arena.specs.Typing.{Makes}
use Rattle.node_arena.specs.Sound.{IsKept}
use Rattle.node_arena.proofs.Rows.{grown, grown_changes}
use Rattle.node_arena.proofs.Sound.{kept_reordered, kept_added}
use Rattle.node_arena.proofs.arena.Arena.insert.Goals as goal

pub invariant_of-self : goal.invariant_of-self
invariant_of-self c =
    let a : Arena = record { slots = c.self.inside.nodes.slots; given = c.self.inside.given; time = c.self.inside.time } in
    kept_reordered a c.self.inside.order.items c.make_room.new.order.items c.self.invariant (c.make_room.ensures.order a refl)

pub invariant_of-self-in_err-slot : goal.invariant_of-self-in_err-slot
invariant_of-self-in_err-slot c =
    let a : Arena = record { slots = c.self.inside.nodes.slots; given = c.self.inside.given; time = c.self.inside.time } in
    let kept : IsKept a c.make_room.new.order.items
    = kept_reordered a c.self.inside.order.items c.make_room.new.order.items c.self.invariant (c.make_room.ensures.order a refl) in
    rw c.in_err-slot.ensures.err kept

pub invariant_of-self-2 : goal.invariant_of-self-2
invariant_of-self-2 c =
    let a : Arena = record { slots = c.self.inside.nodes.slots; given = c.self.inside.given; time = c.self.inside.time } in
    let a' : Arena = record { slots = c.insert.new.self.slots; given = c.self.inside.given + 1; time = c.self.inside.time } in
    let kept : IsKept a c.make_room.new.order.items
    = kept_reordered a c.self.inside.order.items c.make_room.new.order.items c.self.invariant (c.make_room.ensures.order a refl) in
    let key = c.in_ok-slot.slot in
    let updates = c.in_ok-slot.ensures.updates in
    let entry : Entry = record { gen_ = c.self.inside.given; row = c.args.row } in
    let still = sym c.self.view_is in
    rw c.push_reserved.ensures.items (kept_added a a' c.make_room.new.order.items kept (record { slot = key; gen_ = c.self.inside.given }) (row_of c.args.row)
    (grown a a' key updates.others entry c.in_ok-slot.ensures.was_vacant updates.changed)
    refl
    (let e = c.in_ok-slot.ensures.key in let e' = c.vacant_key-next.ensures.value in let below = c.if-next-ge-MAX_LIVE.false in omega (arith, e, e', below))
    (subst (λ (x : Arena). NamesGiven x.given (def_of c.args.row.def)) still c.requires.fits.names)
    (subst (λ (x : Arena). Makes x (def_of c.args.row.def) c.args.row.ty) still c.requires.fits.types)
    (subst (λ (x : Arena). IfSome c.args.row.scope (Given x.given)) still c.requires.scope)
    (subst (λ (x : Arena). IsTimed x.time (def_of c.args.row.def)) still c.requires.timed)
    refl
    refl
    (subst (λ (x : Arena). x.given < 2 ^ 64 - 1) still c.requires.fits.count)
    (subst (λ (x : Arena). live x < 1048576) still c.requires.fits.few)
    c.in_ok-slot.ensures.len)

pub returns-clause-added : goal.returns-clause-added
returns-clause-added c =
    let a : Arena = record { slots = c.self.inside.nodes.slots; given = c.self.inside.given; time = c.self.inside.time } in
    let a' : Arena = record { slots = c.insert.new.self.slots; given = c.self.inside.given + 1; time = c.self.inside.time } in
    let updates = c.in_ok-slot.ensures.updates in
    let entry : Entry = record { gen_ = c.self.inside.given; row = c.args.row } in
    rw (← c.self.view_is) (grown_changes a a' c.in_ok-slot.slot updates.others entry c.in_ok-slot.ensures.was_vacant updates.changed c.args.id
    (c.if-id-next.false ∙ (c.vacant_key-next.ensures.value ∙ sym c.in_ok-slot.ensures.key)) c.if-id-self.false refl)

pub returns-clause-sound : goal.returns-clause-sound
returns-clause-sound c = (invariant_of-self-2 c).sound
