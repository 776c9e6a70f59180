use Rattle.std.proofs.Common.{◌≡◌, inl, inr, length, Some, refl, sym, ap, subst, ◌∙◌, arith, ℕ}
use Rattle.std.specs.List.{slice_get}
use Rattle.wiring.specs.declared.work.Work.{Work}
use Rattle.wiring.proofs.TakingAll.{AreTaken, none_taken, more_behind, more_confirmed, all_more}
use Rattle.wiring.proofs.work.Work.take_off_unconfirmed.Goals as goal

pub loop-place-init : goal.loop-place-init
loop-place-init c = none_taken c.args.arena.now c.args.self.now c.requires.kept

pub at-node-requires : goal.at-node-requires
at-node-requires c =
    let same : length c.loop-place.self.scoped.nodes ≡ length c.args.self.now.scoped.nodes = ap (λ (w : Work). length w.scoped.nodes) c.loop-place.invariant.some.stays.rest in
    let l = c.len-place-end.ensures in
    let x = c.loop-place-test.true in
    omega (arith, same, l, x)

pub loop-place-preserved : goal.loop-place-preserved
loop-place-preserved c =
    let so = c.loop-place.invariant in
    let t = c.put_back_unconfirmed.ensures in
    let there : slice_get c.args.self.now.scoped.nodes c.loop-place.place ≡ Some c.at-node.result =
    sym (ap (λ (w : Work). slice_get w.scoped.nodes c.loop-place.place) so.some.stays.rest) ∙ c.at-node.ensures in
    more_behind c.args.arena.now c.args.self.now c.loop-place.self c.put_back_unconfirmed.new.self c.loop-place.place 0 so
    (record { stays = t.stays; taken = t.taken; rows = λ p s. elim (t.rows p) [ inl e ↦ inl e | inr b ↦ inr b.1 ] }) c.at-node.result there t.behind
    t.fewer refl

pub loop-index-init : goal.loop-index-init
loop-index-init c =
    let so = c.loop-place.invariant in
    let all : c.loop-place.place ≡ length c.args.self.now.scoped.nodes =
    let l = c.len-place-end.ensures in let x = c.loop-place-test.false in let y = c.loop-place.auto.place-end in omega (arith, l, x, y) in
    subst (λ (k : ℕ). AreTaken c.args.arena.now c.args.self.now c.loop-place.self k 0) all so

pub at-pair-requires : goal.at-pair-requires
at-pair-requires c =
    let same : length c.loop-index.self.pairs.nodes ≡ length c.args.self.now.pairs.nodes = ap (λ (w : Work). length w.pairs.nodes) c.loop-index.invariant.some.stays.rest in
    let first : length c.loop-place.self.pairs.nodes ≡ length c.args.self.now.pairs.nodes = ap (λ (w : Work). length w.pairs.nodes) c.loop-place.invariant.some.stays.rest in
    let l = c.len-index-end.ensures in
    let x = c.loop-index-test.true in
    omega (arith, same, first, l, x)

pub loop-index-preserved : goal.loop-index-preserved
loop-index-preserved c =
    let so = c.loop-index.invariant in
    let t = c.take_off.ensures in
    let there : slice_get c.args.self.now.pairs.nodes c.loop-index.index ≡ Some c.at-pair.result =
    sym (ap (λ (w : Work). slice_get w.pairs.nodes c.loop-index.index) so.some.stays.rest) ∙ c.at-pair.ensures in
    more_confirmed c.args.arena.now c.args.self.now c.loop-index.self c.take_off.new.self (length c.args.self.now.scoped.nodes) c.loop-index.index so
    (record { stays = t.stays; taken = t.taken; rows = λ p s. inl (t.spared p s) }) c.at-pair.result there t.confirmed t.fewer t.behind

pub returns-clause-taken : goal.returns-clause-taken
returns-clause-taken c =
    let so = c.loop-index.invariant in
    let first : length c.loop-place.self.pairs.nodes ≡ length c.args.self.now.pairs.nodes = ap (λ (w : Work). length w.pairs.nodes) c.loop-place.invariant.some.stays.rest in
    let all : c.loop-index.index ≡ length c.args.self.now.pairs.nodes =
    let l = c.len-index-end.ensures in let x = c.loop-index-test.false in let y = c.loop-index.auto.index-end in omega (arith, first, l, x, y) in
    all_more c.args.arena.now c.args.self.now c.loop-index.self (length c.args.self.now.scoped.nodes) c.loop-index.index so refl all c.requires.kept

pub returns-clause-loses : goal.returns-clause-loses
returns-clause-loses c = c.loop-index.invariant.some.stays.loses
