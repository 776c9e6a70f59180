use Rattle.std.proofs.Common.{◌≡◌, ◌∙◌, ◌<◌, ◌≤◌, [], ap, subst, inl, inr, arith}
use Rattle.std.specs.Prelude.{Result, Ok, Err, OnOk, OnErr}
use Rattle.inc_value.specs.Choice.{Among}
use Rattle.inc_value.specs.declared.node.NodeId.{NodeId}
use Rattle.scopes.specs.Scopes.{Scopes, StandsIn, Enters}
use Rattle.base_tests.proofs.nested_scopes.enter.Goals as goal

module _ {E : Type 0} (old new : Scopes) (node scope : NodeId) where
  none_killed : (r : Result (Unit {0}) E) → OnOk r (Enters old new node scope) → OnErr r (new ≡ old) → old.killed ≡ []
      → new.killed ≡ []
  none_killed (Ok x) entered same none = entered.killed ∙ none
  none_killed (Err e) entered same none = ap (λ s. s.killed) same ∙ none

  stand_up_to : (r : Result (Unit {0}) E) → OnOk r (Enters old new node scope) → OnErr r (new ≡ old)
      → ((n s : NodeId) → StandsIn old n s → n.slot < node.slot) → (n s : NodeId) → StandsIn new n s → n.slot ≤ node.slot
  stand_up_to (Ok x) entered same below n s h =
      elim ((entered.here n s).0 h) [
        | inl mine ↦ (let e = ap (λ m. m.slot) mine.0 in omega (arith, e))
        | inr other ↦ (let lower = below n s other in omega (arith, lower))
      ]
  stand_up_to (Err e) entered same below n s h =
      let lower = below n s (subst (λ v. StandsIn v n s) same h) in omega (arith, lower)

pub enter-requires : goal.enter-requires
enter-requires c = record {
  apart = record {
    out = λ s h. (let lower = c.requires.below c.node-2.result s h in omega (arith, lower, c.node-2.ensures));
    live = λ a. subst (λ l. Among c.node-2.result l) c.requires.killed a;
  };
}

pub returns-clause-killed : goal.returns-clause-killed
returns-clause-killed c =
    none_killed c.args.scopes.now c.enter.new.self c.node-2.result c.node.result c.enter.result c.enter.ensures.enters
    c.enter.ensures.err c.requires.killed

pub returns-clause-up_to : goal.returns-clause-up_to
returns-clause-up_to c = λ n s h.
    let old = c.args.scopes.now in
    let node = c.node-2.result in
    let below : (m t : NodeId) → StandsIn old m t → m.slot < node.slot =
    λ m t i. (let lower = c.requires.below m t i in omega (arith, lower, c.node-2.ensures)) in
    let up_to = stand_up_to old c.enter.new.self node c.node.result c.enter.result c.enter.ensures.enters
    c.enter.ensures.err below n s h in
    omega (arith, up_to, c.node-2.ensures)
