use Rattle.std.proofs.Common.{sym, ap}
use Rattle.std.specs.Prelude.{is_some}
use Rattle.node_arena.specs.Arena.{row_at, row_of}
use Rattle.wiring.proofs.Deciding.{not_both}
use Rattle.wiring.proofs.Placing.{came_and_went}
use Rattle.stabilizer.proofs.Building.Adopting.{gets_points, gets_rest, back_rest}
use Rattle.stabilizer.proofs.parts.Parts.adopt.Goals as goal

-- ---- the node is live

pub returns-in_default : goal.returns-in_default
returns-in_default c = absurd (not_both (is_some (row_at c.args.self.now.arena c.args.node)) (ap is_some (sym c.in_default.ensures)) c.requires.live)

-- ---- its points are made

pub returns-in-Ok-clause-points : goal.returns-in-Ok-clause-points
returns-in-Ok-clause-points c =
    let a = c.in_ok-add_scoped.ensures in
    gets_points c.args.self.now.arena c.args.self.now.work c.add_scoped.new.self c.args.node (row_of c.in-Some.row.now) (sym c.in-Some.ensures)
    a.rows a.added.0 a.added.1 a.pairs a.scoped a.others_scoped a.stays.links a.stays.roots a.stays.heap a.stays.step a.stays.todo
    a.stays.round a.experts c.requires.plain

pub returns-in-Ok-clause-rest : goal.returns-in-Ok-clause-rest
returns-in-Ok-clause-rest c =
    let a = c.in_ok-add_scoped.ensures in
    gets_rest c.args.self.now.arena c.args.self.now.work c.add_scoped.new.self c.args.node (row_of c.in-Some.row.now) (sym c.in-Some.ensures)
    a.rows a.added.0 a.added.1 a.pairs a.scoped a.others_scoped a.stays.links a.stays.roots a.stays.heap a.stays.step a.stays.todo
    a.stays.round a.experts c.requires.plain

-- ---- there was no memory for its place in the scope

pub returns-in-Err-clause-rest : goal.returns-in-Err-clause-rest
returns-in-Err-clause-rest c =
    let a = c.in_ok-add_scoped.ensures in
    let d = c.drop_node.ensures in
    back_rest c.args.self.now.arena c.args.self.now.work c.add_scoped.new.self c.args.node (row_of c.in-Some.row.now) (sym c.in-Some.ensures)
    a.rows a.added.0 a.added.1 a.pairs a.scoped a.others_scoped a.stays.links a.stays.roots a.stays.heap a.stays.step a.stays.todo
    a.stays.round a.experts c.requires.plain
    c.requires.step c.requires.no_row c.requires.no_point c.drop_node.new.self d.rows d.dropped d.stays.links d.stays.roots d.heap
    d.stays.step d.rest d.stays.todo d.stays.round d.no_expert c.requires.no_expert

pub returns-in-Err-clause-err_rows : goal.returns-in-Err-clause-err_rows
returns-in-Err-clause-err_rows c q =
    came_and_went c.args.self.now.work.rows c.add_scoped.new.self.rows c.drop_node.new.self.rows c.args.node _ c.requires.no_row
    c.in_ok-add_scoped.ensures.rows c.drop_node.ensures.rows q

pub returns-in-Err-clause-err_points : goal.returns-in-Err-clause-err_points
returns-in-Err-clause-err_points c q =
    came_and_went c.args.self.now.work.graph.heights c.add_scoped.new.self.graph.heights c.drop_node.new.self.graph.heights c.args.node _
    c.requires.no_point c.in_ok-add_scoped.ensures.added.1 c.drop_node.ensures.dropped q
