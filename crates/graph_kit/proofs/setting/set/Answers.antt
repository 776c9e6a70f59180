use Rattle.graph_kit.proofs.Assigning.{others_stay}
use Rattle.graph_kit.proofs.setting.set.Goals as goal

pub returns : goal.returns
returns g c =
    let s = c.set_var.ensures in
    record {
      set = s.set;
      others = others_stay c.args.graph.now c.set_var.new.self c.args.node c.args.value c.set_var.result s.set s.broken s.unknown s.not_var;
      broken = s.broken;
      unknown = s.unknown;
      not_var = s.not_var;
      wrong_type = s.wrong_type;
      setting = s.setting;
      err = s.err;
    }
