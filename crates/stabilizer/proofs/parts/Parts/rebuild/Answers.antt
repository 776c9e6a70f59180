use Rattle.stabilizer.specs.Rebuilding.{IsSettledOn}
use Rattle.stabilizer.proofs.Building.Ends.{settled_on, settled_stays}
use Rattle.stabilizer.proofs.parts.Parts.rebuild.Goals as goal

pub returns-in-Ok : goal.returns-in-Ok
returns-in-Ok g c =
    let mid = c.renew.new.self in
    let last = c.settle_built.new.self in
    let s = c.settle_built.ensures in
    let on : IsSettledOn mid.work last c.args.node c.args.given =
    record { rows = s.row; graph = s.graph; heap = s.heap; step = s.step; rest = s.rest } in
    let ready = c.in-Ok.ensures.ready in
    record {
      built = ready.builds last on;
      refused = tt;
      gives = ready.gives;
      settled = settled_on mid.work last c.args.node c.args.given on c.renew.ensures.stays.there;
      kept = ready.kept last on;
      stays = settled_stays g.F.Functions c.args.functions.now c.renew.new.functions c.args.self.now mid last c.args.node c.args.given on
          c.renew.ensures.stays;
    }
