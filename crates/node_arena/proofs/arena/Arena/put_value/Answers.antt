use Rattle.std.proofs.Common.{◌≡◌, Some, IsSome, refl, sym, subst, slice_set}
use Rattle.slab.specs.Slab.{get}
use Rattle.slab.proofs.SlabLemmas.{Updates-with_value}
use Rattle.inc_terms.specs.Within.{Given, ValueWithin}
use Rattle.inc_terms.specs.declared.def.Def.TheVariants.{Var}
use Rattle.node_arena.specs.Arena.{Arena, IsVariable, IsSet}
use Rattle.node_arena.specs.Typing.{FitsNode}
use Rattle.node_arena.specs.declared.arena.Entry.{Entry}
use Rattle.node_arena.proofs.Setting.{is_kept, is_set}
use Rattle.node_arena.proofs.arena.Arena.put_value.Goals as goal

pub invariant_of-self : goal.invariant_of-self
invariant_of-self c =
    let a : Arena = record { slots = c.self.inside.nodes.slots; given = c.self.inside.given; time = c.self.inside.time } in
    let e : Entry = c.unwrap-entry.result.now in
    let e' : Entry = record { gen_ = e.gen_; row = record { def = Var c.args.value; ty = e.row.ty; scope = e.row.scope } } in
    let there : get c.self.inside.nodes c.args.id.slot ≡ Some e = sym (rw c.unwrap-entry.ensures at c.get_mut.ensures.value) in
    let updates = Updates-with_value c.self.inside.nodes c.args.id.slot e' (subst IsSome (sym there) refl) in
    let still = sym c.self.view_is in
    is_kept a c.args.id e e' c.args.value refl refl there (subst (λ (x : Arena). IsVariable x c.args.id) still c.requires.variable) updates.changed updates.others
    c.self.inside.order.items c.self.invariant
    (subst (λ (x : Arena). ValueWithin (Given x.given) c.args.value) still c.requires.given)
    (subst (λ (x : Arena). FitsNode x c.args.id c.args.value) still c.requires.fits)

pub returns-clause-set : goal.returns-clause-set
returns-clause-set c =
    let a : Arena = record { slots = c.self.inside.nodes.slots; given = c.self.inside.given; time = c.self.inside.time } in
    let e : Entry = c.unwrap-entry.result.now in
    let e' : Entry = record { gen_ = e.gen_; row = record { def = Var c.args.value; ty = e.row.ty; scope = e.row.scope } } in
    let there : get c.self.inside.nodes c.args.id.slot ≡ Some e = sym (rw c.unwrap-entry.ensures at c.get_mut.ensures.value) in
    let updates = Updates-with_value c.self.inside.nodes c.args.id.slot e' (subst IsSome (sym there) refl) in
    let still = sym c.self.view_is in
    let set = is_set a c.args.id e e' c.args.value refl refl there (subst (λ (x : Arena). IsVariable x c.args.id) still c.requires.variable) updates.changed updates.others in
    let a' : Arena = record { slots = slice_set a.slots c.args.id.slot (Some e'); given = a.given; time = a.time } in
    subst (λ (x : Arena). IsSet x a' c.args.id c.args.value) c.self.view_is set

pub returns-clause-sound : goal.returns-clause-sound
returns-clause-sound c = (invariant_of-self c).sound
