use Rattle.std.proofs.Common.{refl, sym, ap, ◌∙◌}
use Rattle.stabilizer.specs.declared.parts.Parts.{Parts}
use Rattle.stabilizer.proofs.Killing.Died.{drained, listing_first, listing_last, listing_behind, parts_absent, parts_more, parts_room, parts_scoped}
use Rattle.stabilizer.proofs.parts.Parts.list_dying.Goals as goal

pub loop-node-init : goal.loop-node-init
loop-node-init c = let old = c.args.self.now in
    record { listing = listing_first old.arena old.work old.dying.items c.requires.once c.requires.room; rest = refl }

pub add-requires-clause-absent : goal.add-requires-clause-absent
add-requires-clause-absent c =
    parts_absent c.args.self.now c.loop-node.self c.loop-node.invariant c.pop.new.self c.in-Some.node c.in-Some.ensures.items c.requires.absent

pub add-requires-clause-spare : goal.add-requires-clause-spare
add-requires-clause-spare c =
    parts_room c.args.self.now c.loop-node.self c.loop-node.invariant c.pop.new.self c.in-Some.node c.in-Some.ensures.items

pub loop-node-preserved-in-Some-scope_of : goal.loop-node-preserved-in-Some-scope_of
loop-node-preserved-in-Some-scope_of c =
    parts_more c.args.self.now c.loop-node.self c.loop-node.invariant c.pop.new.self c.in-Some.node c.in-Some.ensures.items c.add.new.self
    c.in-Some-scope_of.scope c.in-Some-scope_of.ensures c.add.ensures.nodes c.add.ensures.scope c.add.ensures.spare

pub loop-node-preserved : goal.loop-node-preserved
loop-node-preserved c =
    absurd (parts_scoped c.args.self.now c.loop-node.self c.loop-node.invariant c.pop.new.self c.in-Some.node c.in-Some.ensures.items c.requires.scopes
    c.in_default-scope_of.ensures)

pub returns : goal.returns
returns c =
    let old = c.args.self.now in
    let now = c.loop-node.self in
    let so = c.loop-node.invariant in
    let popped = c.pop.new.self in
    let last = drained now.dying.items popped.items c.in_default.ensures.items (sym popped.ok.0 ∙ c.in_default.ensures.cases.1) in
    record {
      listed = listing_last old.arena old.work now.work old.dying.items now.dying.items so.listing last.0;
      behind = listing_behind old.arena old.work now.work old.dying.items now.dying.items so.listing last.0;
      none = last.1;
      rest = ap (λ (p : Parts). record p { dying = popped }) so.rest;
    }
