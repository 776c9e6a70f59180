use Rattle.std.proofs.Common.{◌<◌, ◌≤◌, Err, List, length, refl, subst, ◌∙◌}
use Rattle.inc_value.specs.declared.node.NodeId.{NodeId}
use Rattle.wiring.proofs.Handing.{kid_target, listed_first, listed_gone, listed_kids, listed_last, listed_on, listed_refused}
use Rattle.wiring.proofs.work.Work.connect_listed.Goals as goal

pub loop-place-init : goal.loop-place-init
loop-place-init c = listed_first c.args.arena.now c.args.self.now c.args.p c.requires.main c.requires.created c.requires.kept c.args.from c.take_up.new.self
    c.take_up.ensures c.requires.needed

-- ---- the node at the place

pub connect-requires-clause-target : goal.connect-requires-clause-target
connect-requires-clause-target c =
    let q = c.requires in
    let so = c.loop-place.invariant in
    let all = c.kids.ensures ∙ listed_kids c.args.arena.now c.args.self.now c.args.p q.main q.created q.kept c.loop-place.self c.args.from c.loop-place.place so in
    kid_target c.args.arena.now c.args.self.now c.args.p q.main q.created q.kept c.loop-place.self c.args.from c.loop-place.place so c.main.result
    c.kids-in-loop-place.result.now _ c.kids-in-loop-place.ensures c.main.ensures
    (subst (λ (xs : List NodeId). c.loop-place.place < length xs) all c.loop-place-test.true)

pub returns-in-Ok-false : goal.returns-in-Ok-false
returns-in-Ok-false c =
    let q = c.requires in
    let so = c.loop-place.invariant in
    let all = c.kids.ensures ∙ listed_kids c.args.arena.now c.args.self.now c.args.p q.main q.created q.kept c.loop-place.self c.args.from c.loop-place.place so in
    listed_gone c.args.arena.now c.args.self.now c.args.p q.main q.created q.kept c.loop-place.self c.args.from c.loop-place.place so c.main.result
    c.kids-in-loop-place.result.now _ c.kids-in-loop-place.ensures c.main.ensures
    (subst (λ (xs : List NodeId). c.loop-place.place < length xs) all c.loop-place-test.true) c.connect.new.self _ c.in-Ok-false.field-0
    c.in-Ok-false.ensures c.in-Ok-false.field-0-test

pub returns-in-Err : goal.returns-in-Err
returns-in-Err c =
    let q = c.requires in
    let so = c.loop-place.invariant in
    let all = c.kids.ensures ∙ listed_kids c.args.arena.now c.args.self.now c.args.p q.main q.created q.kept c.loop-place.self c.args.from c.loop-place.place so in
    listed_refused c.args.arena.now c.args.self.now c.args.p q.main q.created q.kept c.loop-place.self c.args.from c.loop-place.place so c.main.result
    c.kids-in-loop-place.result.now _ c.kids-in-loop-place.ensures c.main.ensures
    (subst (λ (xs : List NodeId). c.loop-place.place < length xs) all c.loop-place-test.true) c.connect.new.self (Err c.in-Err.refused)
    c.in-Err.refused refl c.in-Err.ensures

pub loop-place-preserved : goal.loop-place-preserved
loop-place-preserved c =
    let q = c.requires in
    let so = c.loop-place.invariant in
    let all = c.kids.ensures ∙ listed_kids c.args.arena.now c.args.self.now c.args.p q.main q.created q.kept c.loop-place.self c.args.from c.loop-place.place so in
    listed_on c.args.arena.now c.args.self.now c.args.p q.main q.created q.kept c.loop-place.self c.args.from c.loop-place.place so c.main.result
    c.kids-in-loop-place.result.now _ c.kids-in-loop-place.ensures c.main.ensures
    (subst (λ (xs : List NodeId). c.loop-place.place < length xs) all c.loop-place-test.true) c.connect.new.self c.in-Ok-true.field-0
    c.in-Ok-true.ensures c.in-Ok-true.field-0-test

-- ---- all are linked

pub returns : goal.returns
returns c =
    let q = c.requires in
    let so = c.loop-place.invariant in
    let all = c.kids.ensures ∙ listed_kids c.args.arena.now c.args.self.now c.args.p q.main q.created q.kept c.loop-place.self c.args.from c.loop-place.place so in
    listed_last c.args.arena.now c.args.self.now c.args.p q.main q.created q.kept c.loop-place.self c.args.from c.loop-place.place so _ q.full
    (subst (λ (xs : List NodeId). length xs ≤ c.loop-place.place) all c.loop-place-test.false)
