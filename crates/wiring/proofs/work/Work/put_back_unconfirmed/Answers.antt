use Rattle.std.proofs.Common.{◌≡◌, true, false, sym, subst, ◌∙◌}
use Rattle.inc_value.specs.declared.node.Point.{Point}
use Rattle.inc_terms.specs.Depend.{change}
use Rattle.node_arena.specs.Arena.{row_of}
use Rattle.point_map.specs.Rows.{at}
use Rattle.node_outcomes.specs.Row.{settled_in}
use Rattle.wiring.proofs.NodeBack.{none_put_back, dead_behind, alone_behind, ran_behind, gate_behind, node_falls, falls_behind, back_unconfirmed}
use Rattle.wiring.proofs.work.Work.put_back_unconfirmed.Goals as goal

-- the node is dead
pub returns-in_default : goal.returns-in_default
returns-in_default c = none_put_back c.args.arena.now c.args.self.now c.args.node c.requires.kept
    (dead_behind c.args.arena.now c.args.self.now c.args.node (sym c.in_default.ensures))

-- it stands in no scope
pub returns-in_default-scope : goal.returns-in_default-scope
returns-in_default-scope c = none_put_back c.args.arena.now c.args.self.now c.args.node c.requires.kept
    (alone_behind c.args.arena.now c.args.self.now c.args.node (row_of c.in-Some.row.now) (sym c.in-Some.ensures) c.in_default-scope.is)

-- its gate ran
pub returns-else-not-was_settled : goal.returns-else-not-was_settled
returns-else-not-was_settled c = none_put_back c.args.arena.now c.args.self.now c.args.node c.requires.kept
    (ran_behind c.args.arena.now c.args.self.now c.args.node (row_of c.in-Some.row.now) c.in-Some-scope.bind (sym c.in-Some.ensures) c.in-Some-scope.is
    (subst (λ (x : Point). settled_in c.args.self.now.round (at c.args.self.now.rows x) ≡ true) c.change.ensures
    (sym c.was_settled.ensures ∙ c.if-not-was_settled.false)))

-- it is put back
pub put_back_node-requires-clause-row : goal.put_back_node-requires-clause-row
put_back_node-requires-clause-row c = (row_of c.in-Some.row.now, sym c.in-Some.ensures, c.in-Some-scope.is)

pub returns-then-not-was_settled : goal.returns-then-not-was_settled
returns-then-not-was_settled c =
    let arena = c.args.arena.now in
    let old = c.args.self.now in
    let new = c.put_back_node.new.self in
    let back = c.put_back_node.ensures in
    let unsettled : settled_in old.round (at old.rows (change c.in-Some-scope.bind)) ≡ false = subst (λ (x : Point). settled_in old.round (at old.rows x) ≡ false) c.change.ensures
    (sym c.was_settled.ensures ∙ c.if-not-was_settled.true) in
    record {
      stays = back.stays;
      taken = back.taken unsettled;
      behind = gate_behind arena new c.args.node back.behind;
      fewer = falls_behind arena old new (node_falls arena old new c.args.node c.in-Some-scope.bind back.rows) back.stays.places.round back.stays.loses;
      rows = back_unconfirmed arena old new c.args.node c.in-Some-scope.bind unsettled back.rows;
    }
