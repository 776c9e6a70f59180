use Rattle.std.proofs.Common.{◌≢◌, ◌≡◌, ◌∙◌, length, map, ap, subst, arith}
use Rattle.std.proofs.lemmas.List.{take_all}
use Rattle.inc_value.specs.declared.node.NodeId.{NodeId}
use Rattle.inc_value.specs.declared.node.Point.{Point}
use Rattle.necessity.specs.Need.{OneRootMore, root_times}
use Rattle.necessity.proofs.Sound.{on_err}
use Rattle.inc_terms.specs.Depend.{main}
use Rattle.stabilizer.specs.Round.{RootsMore}
use Rattle.wiring.specs.Wiring.{RootRefused}
use Rattle.stabilizer.proofs.Step.Making.{none_put, one_put, put_refused, roots_tried, roots_only}
use Rattle.stabilizer.proofs.stabilizer.put_roots.Goals as goal
use Rattle.necessary_graph.proofs.Linking.{exit_is}

abbrev other : NodeId
other = record { slot = 0; gen_ = 0 }

pub loop-node-init : goal.loop-node-init
loop-node-init c = none_put c.args.arena.now c.args.work.now c.requires.kept c.requires.quiet

pub loop-node-preserved : goal.loop-node-preserved
loop-node-preserved c =
    one_put c.args.arena.now c.args.work.now c.loop-node.work c.put_root.new.self c.args.roots.now c.loop-node.node-index other c.loop-node-test.true
    c.loop-node.invariant
    (subst (λ (p : Point). OneRootMore c.loop-node.work.graph.roots c.put_root.new.self.graph.roots p) c.main.ensures
    c.in_ok-put_root.ensures.rooted)
    c.in_ok-put_root.ensures.wired c.in_ok-put_root.ensures.empty c.put_root.ensures.round c.put_root.ensures.kept

pub returns-in_err-put_root-clause-refused : goal.returns-in_err-put_root-clause-refused
returns-in_err-put_root-clause-refused c =
    exit_is c.from_residual.result c.in_err-put_root.field-0.0 (RootRefused c.args.arena.now c.args.work.now c.put_root.new.self)
    c.from_residual.ensures.1
    (put_refused c.args.arena.now c.args.work.now c.loop-node.work c.put_root.new.self c.in_err-put_root.field-0.0 c.loop-node.invariant.wired
    c.in_err-put_root.ensures.refused)

pub returns-in_err-put_root-clause-roots : goal.returns-in_err-put_root-clause-roots
returns-in_err-put_root-clause-roots c =
    roots_tried c.args.work.now.graph.roots c.loop-node.work.graph.roots c.put_root.new.self.graph.roots c.args.roots.now
    c.loop-node.node-index other
    c.loop-node-test.true c.loop-node.invariant.more
    (subst (λ (p : Point). (a : Point) → a ≢ p → root_times c.put_root.new.self.graph.roots a ≡ root_times c.loop-node.work.graph.roots a)
    c.main.ensures
    c.put_root.ensures.others)

pub returns-in_err-put_root-clause-some : goal.returns-in_err-put_root-clause-some
returns-in_err-put_root-clause-some c =
    let index = c.loop-node-test.true in
    on_err c.from_residual.result (λ none. let k : length c.args.roots.now ≡ 0 = ap length none in omega (arith, k, index))

pub returns-clause-roots : goal.returns-clause-roots
returns-clause-roots c =
    roots_only c.args.work.now.graph.roots c.loop-node.work.graph.roots (map main c.args.roots.now)
    (subst (λ ns. RootsMore c.args.work.now.graph.roots c.loop-node.work.graph.roots (map main ns))
    (take_all c.loop-node.node-index c.args.roots.now c.loop-node-test.false) c.loop-node.invariant.more)

pub returns-clause-still : goal.returns-clause-still
returns-clause-still c none = c.loop-node.invariant.still (take_all c.loop-node.node-index c.args.roots.now c.loop-node-test.false ∙ none)
