use Rattle.std.proofs.Common.{refl, sym, ap, subst, ◌∙◌}
use Rattle.scopes.specs.Scopes.{Scopes}
use Rattle.stabilizer.specs.Building.{HaveLeft}
use Rattle.stabilizer.specs.declared.parts.Parts.{Parts}
use Rattle.stabilizer.proofs.Building.Disowning.{leaving_begins, leaving_main, leaving_change, leaving_no_change, leaving_unneeded, leaving_more, have_left}
use Rattle.stabilizer.proofs.parts.Parts.drop_entered.Goals as goal

pub loop-node-init : goal.loop-node-init
loop-node-init c = record {
  so = leaving_begins c.args.self.now (record c.args.self.now { scopes = c.kill.new.self }) c.args.bind c.requires.ready c.kill.ensures.dying
      c.kill.ensures.standing refl refl refl refl refl;
}

pub drop_node-requires : goal.drop_node-requires
drop_node-requires c =
    let old = c.args.self.now in
    let now = c.loop-node.self in
    let so = c.loop-node.invariant.so in
    let was = c.in-Some.ensures.was in record {
      main = leaving_main old now c.args.bind c.in-Some.node c.requires.ready so was;
      change = leaving_change old now c.args.bind c.in-Some.node c.requires.ready so was;
      unneeded = leaving_unneeded old now c.args.bind c.in-Some.node c.requires.ready so was;
      no_change = leaving_no_change old now c.args.bind c.in-Some.node c.requires.ready so was;
    }

pub loop-node-preserved : goal.loop-node-preserved
loop-node-preserved c =
    let now = c.loop-node.self in
    let new : Parts = record now { scopes = c.next_killed.new.self; work = c.drop_node.new.self } in
    let d = c.drop_node.ensures in record {
      so = leaving_more c.args.self.now now c.args.bind c.in-Some.node c.requires.ready c.loop-node.invariant.so c.in-Some.ensures.was new
          c.in-Some.ensures.gives c.in-Some.ensures.standing d.rows d.dropped d.stays.links d.stays.roots d.heap d.stays.step d.rest
          d.stays.todo d.stays.round d.no_expert refl refl refl refl;
    }

pub returns : goal.returns
returns c =
    let old = c.args.self.now in
    let now = c.loop-node.self in
    let n = c.in_default.ensures in record {
      left = subst (λ (x : Scopes). HaveLeft old (record now { scopes = x }) c.args.bind) (sym n.unchanged)
          (have_left old now c.args.bind c.loop-node.invariant.so n.none (ap (λ (x : Scopes). x.killed) (sym n.unchanged) ∙ n.all_given));
    }
