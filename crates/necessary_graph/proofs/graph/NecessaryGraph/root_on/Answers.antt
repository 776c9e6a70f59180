use Rattle.std.proofs.Common.{refl}
use Rattle.link_table.specs.Links.{KeepsLinks}
use Rattle.necessary_graph.specs.Part.{NecessaryPart, Needed, part_of}
use Rattle.necessary_graph.specs.Sweep.{IsHeld}
use Rattle.necessary_graph.proofs.Standing.{held_exactly}
use Rattle.necessary_graph.proofs.Linking.{rooted_in_step, kept_in_step, stays, root_needs, newly_unless}
use Rattle.necessary_graph.proofs.graph.NecessaryGraph.root_on.Goals as goal

pub add_root-requires : goal.add_root-requires
add_root-requires c = record { there = rw (← c.self.view_is) at c.requires.there }

pub invariant_of-self : goal.invariant_of-self
invariant_of-self c =
    let rows = c.self.inside.rows in
    let old : NecessaryPart = part_of rows in
    let new : NecessaryPart = record old { roots = c.add_root.new.self.roots } in
    let inv = c.self.invariant in
    rw c.add_root.ensures.rest (
      kept_in_step old new inv.0 (stays old new inv.0 (λ a b. refl) refl refl) c.in_err-add_root.ensures.err (λ a b. refl),
      inv.1,
    )

pub invariant_of-self-2 : goal.invariant_of-self-2
invariant_of-self-2 c =
    let rows = c.self.inside.rows in
    let old : NecessaryPart = part_of rows in
    let new : NecessaryPart = record old { roots = c.add_root.new.self.roots } in
    let inv = c.self.invariant in
    let there = rw (← c.self.view_is) at c.requires.there in
    rw c.add_root.ensures.rest (
      rooted_in_step old new c.args.p inv.0 c.in_ok-add_root.ensures.more (λ a b. refl) refl refl there,
      inv.1,
    )

pub returns-clause-newly : goal.returns-clause-newly
returns-clause-newly c =
    let old : NecessaryPart = part_of c.self.inside.rows in
    let held = held_exactly old c.self.invariant.0 c.args.p in
    rw (← c.self.view_is) (newly_unless c.is_held-newly.result (IsHeld old.links old.roots c.args.p) (Needed old c.args.p) c.is_held-newly.ensures held)

pub returns-clause-needed : goal.returns-clause-needed
returns-clause-needed c =
    let old : NecessaryPart = part_of c.self.inside.rows in
    let new : NecessaryPart = part_of c.add_root.new.self in
    let same : KeepsLinks old.links new.links = λ a b. rw c.add_root.ensures.rest refl in
    rw (← c.self.view_is) (root_needs old new c.args.p c.self.invariant.0 c.in_ok-add_root.ensures.more same)

pub returns-in_err-add_root-clause-in_step : goal.returns-in_err-add_root-clause-in_step
returns-in_err-add_root-clause-in_step c = (invariant_of-self c).0

pub returns-clause-in_step : goal.returns-clause-in_step
returns-clause-in_step c = (invariant_of-self-2 c).0
