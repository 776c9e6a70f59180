use Rattle.std.proofs.Common.{◌≡◌, ◌-◌, ◌++◌, List, [], ◌∷◌, Some, refl, slice_get, ap, subst, ◌∙◌, drop, arith}
use Rattle.inc_value.specs.declared.node.NodeId.{NodeId}
use Rattle.node_lists.specs.Deaths.{Deaths}
use Rattle.stabilizer.specs.declared.parts.Parts.{Parts}
use Rattle.timed_nodes.proofs.Watching.{clock_dropped}
use Rattle.stabilizer.proofs.Killing.ForgettingAll.{upto, upto_all, upto_last, forgetting_first, next_main, next_change, next_died, next_live, forgetting_more}
use Rattle.stabilizer.proofs.parts.Parts.forget_dead.Goals.{After-at-node}
use Rattle.stabilizer.proofs.parts.Parts.forget_dead.Goals as goal

pub loop-place-init : goal.loop-place-init
loop-place-init c =
    let old = c.args.self.now in
    let nodes = old.work.deaths.nodes in
    let all = ap (λ (k : _). upto c.args.before k nodes) c.len-place.ensures.len ∙ upto_all c.args.before nodes in
    let len = c.len-place.ensures.len in
    record {
      forgetting = forgetting_first old.arena old.work (drop c.args.before nodes) (upto c.args.before c.len-place.result nodes) all c.requires.forget;
      within = omega (arith, len);
      clock = λ kept. kept;
      rest = refl;
    }

module _ (c : After-at-node) where
  abbrev nodes : List NodeId
  nodes = c.args.self.now.work.deaths.nodes

  same : c.loop-place.self.work.deaths ≡ c.args.self.now.work.deaths
  same = c.loop-place.invariant.forgetting.forgotten.deaths

  there : slice_get nodes (c.loop-place.place - 1) ≡ Some c.at-node.result
  there = subst (λ (d : Deaths). slice_get d.nodes (c.loop-place.place - 1) ≡ Some c.at-node.result) same c.at-node.ensures

  last : upto c.args.before c.loop-place.place nodes ≡ upto c.args.before (c.loop-place.place - 1) nodes ++ c.at-node.result ∷ []
  last = let past = c.loop-place-test.true in upto_last c.args.before c.loop-place.place nodes c.at-node.result (omega (arith, past)) there

pub forget-requires-clause-main : goal.forget-requires-clause-main
forget-requires-clause-main c =
    let old = c.args.self.now in
    let now = c.loop-place.self in
    next_main old.arena now.arena old.work now.work _ _ _ c.at-node.result c.requires.forget c.loop-place.invariant.forgetting
    (last (goal.at.forget-requires-clause-main c).After-at-node)

pub forget-requires-clause-change : goal.forget-requires-clause-change
forget-requires-clause-change c =
    let old = c.args.self.now in
    let now = c.loop-place.self in
    next_change old.arena now.arena old.work now.work _ _ _ c.at-node.result c.requires.forget c.loop-place.invariant.forgetting
    (last (goal.at.forget-requires-clause-change c).After-at-node)

pub forget-requires-clause-died : goal.forget-requires-clause-died
forget-requires-clause-died c =
    let old = c.args.self.now in
    let now = c.loop-place.self in
    next_died old.arena now.arena old.work now.work _ _ _ c.at-node.result c.requires.forget c.loop-place.invariant.forgetting
    (last (goal.at.forget-requires-clause-died c).After-at-node)

pub drop_node-requires : goal.drop_node-requires
drop_node-requires c =
    let old = c.args.self.now in
    let now = c.loop-place.self in
    next_live old.arena now.arena old.work now.work _ _ _ c.at-node.result c.requires.forget c.loop-place.invariant.forgetting
    (last (goal.at.drop_node-requires c).After-at-node)

pub loop-place-preserved : goal.loop-place-preserved
loop-place-preserved c =
    let old = c.args.self.now in
    let now = c.loop-place.self in
    let inv = c.loop-place.invariant in
    let within = inv.within in
    let drop = c.drop_node.ensures in record {
      forgetting = forgetting_more old.arena now.arena old.work now.work _ _ _ c.at-node.result c.requires.forget
          inv.forgetting (last (goal.at.loop-place-preserved c).After-at-node) c.drop_node.new.self c.forget.new.self c.forget.ensures.forgotten
          c.forget.ensures.absent drop.dropped drop.given drop.sound c.forget.ensures.step;
      within = omega (arith, within);
      clock = λ kept. clock_dropped now.arena c.drop_node.new.self now.timed c.forget-in-loop-place.new.self c.at-node.result (inv.clock kept)
          c.forget-in-loop-place.ensures drop.dropped drop.given;
      rest = ap (λ (p : Parts). record p { arena = c.drop_node.new.self; timed = c.forget-in-loop-place.new.self; work = c.forget.new.self }) inv.rest;
    }
