use Rattle.std.proofs.Common.{[], ◌∷◌, ◌++◌, ◌+◌, sym, ap, subst, ◌∙◌, vec_len, vec_capacity}
use Rattle.stabilizer.specs.declared.parts.Parts.{Parts}
use Rattle.stabilizer.proofs.Killing.Invalidating.{IsInvalidating, invalidating_first, invalidating_more, given_scoped, invalidated}
use Rattle.stabilizer.proofs.parts.Parts.invalidate.Goals as goal

pub loop-node-init : goal.loop-node-init
loop-node-init c = invalidating_first c.args.self.now c.args.bind c.kill.new.self c.requires.kept c.requires.room c.kill.ensures.dying
    c.kill.ensures.standing c.kill.ensures.count

pub put_to_gate-requires-clause-scoped : goal.put_to_gate-requires-clause-scoped
put_to_gate-requires-clause-scoped c =
    given_scoped c.args.self.now c.loop-node.self c.args.bind c.in-Some.node c.loop-node.invariant c.in-Some.ensures.was

pub loop-node-preserved : goal.loop-node-preserved
loop-node-preserved c =
    let k = c.in-Some.ensures in
    let r = c.put_to_gate.ensures.rest in
    subst (λ (x : Parts). IsInvalidating c.args.self.now (record x { dying = c.push_reserved.new.self }) c.args.bind) (sym r)
    (invalidating_more c.args.self.now c.loop-node.self c.args.bind c.in-Some.node c.next_killed.new.self c.put_to_gate.new.self.work
    c.push_reserved.new.self c.loop-node.invariant k.was k.gives k.standing k.count c.put_to_gate.ensures.put
    (c.push_reserved.ensures.items ∙ ap (λ (x : Parts). x.dying.items ++ c.in-Some.node ∷ []) r)
    (c.push_reserved.ensures.len ∙ ap (λ (x : Parts). vec_len x.dying + 1) r)
    (c.push_reserved.ensures.capacity ∙ ap (λ (x : Parts). vec_capacity x.dying) r))

pub returns : goal.returns
returns c =
    let k = c.in_default.ensures in
    invalidated c.args.self.now c.loop-node.self c.args.bind c.next_killed.new.self c.requires.kept c.loop-node.invariant k.unchanged k.none k.all_given
