use Rattle.std.proofs.Common.{ap}
use Rattle.point_rows.specs.Standing.{Standing}
use Rattle.necessary_graph.proofs.Rests.{room_out}
use Rattle.necessary_graph.proofs.sweep.take_out.Goals as goal

pub returns-clause-room : goal.returns-clause-room
returns-clause-room c points heights r =
    let e = c.take_out.ensures in
    room_out heights c.args.rows.now.heap c.take_out.new.self.heap points c.args.p r e.changes e.room e.fewer
    (λ none. ap (λ (w : Standing). w.heap) (e.unchanged none))
