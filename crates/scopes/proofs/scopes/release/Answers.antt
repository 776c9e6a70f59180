use Rattle.std.proofs.Common.{◌≡◌, ◌≢◌, ◌∙◌, ◌+◌, suc, Some, None, sym, ap, subst, arith}
use Rattle.slab.specs.Slab.{get}
use Rattle.point_map.specs.Rows.{at}
use Rattle.inc_value.specs.declared.node.NodeId.{NodeId}
use Rattle.scopes.specs.Scopes.{own_in, point_of, Moved}
use Rattle.scopes.proofs.Sound.{released_sound, released}
use Rattle.scopes.proofs.scopes.release.Goals as goal

pub returns-clause-sound : goal.returns-clause-sound
returns-clause-sound c =
    let v = c.args.lists.now in
    let w = c.move_all.new.lists in
    let scope = c.args.scope in
    let k = c.remove-number.result in
    let was = c.args.numbers.now in
    let now = c.remove-number.new.self in
    let point = c.point_of-point.ensures in
    let is : own_in was scope ≡ Some k = ap (at was) (sym point) ∙ c.remove-number.ensures.value in
    let next : k + 1 ≡ suc k = omega arith in
    let moved = subst (Moved v w) next c.move_all.ensures.moved in
    let off : own_in now scope ≡ None = ap (at now) (sym point) ∙ c.remove-number.ensures.changes.changed in
    let others : (s : NodeId) → s ≢ scope → own_in now s ≡ own_in was s =
    λ s d. c.remove-number.ensures.changes.others (point_of s) (λ e. d (ap (λ p. p.node) (e ∙ point))) in
    released_sound v w (own_in was) (own_in now) (get c.args.names.now) (get c.try_remove-name.new.self) scope k
    c.requires.sound is moved off others c.try_remove-name.ensures.updates.others c.try_remove-name.ensures.updates.changed

pub returns-clause-releases : goal.returns-clause-releases
returns-clause-releases c =
    let v = c.args.lists.now in
    let w = c.move_all.new.lists in
    let scope = c.args.scope in
    let k = c.remove-number.result in
    let was = c.args.numbers.now in
    let now = c.remove-number.new.self in
    let point = c.point_of-point.ensures in
    let is : own_in was scope ≡ Some k = ap (at was) (sym point) ∙ c.remove-number.ensures.value in
    let next : k + 1 ≡ suc k = omega arith in
    let moved = subst (Moved v w) next c.move_all.ensures.moved in
    let off : own_in now scope ≡ None = ap (at now) (sym point) ∙ c.remove-number.ensures.changes.changed in
    let others : (s : NodeId) → s ≢ scope → own_in now s ≡ own_in was s =
    λ s d. c.remove-number.ensures.changes.others (point_of s) (λ e. d (ap (λ p. p.node) (e ∙ point))) in
    released v w (own_in was) (own_in now) (get c.args.names.now) (get c.try_remove-name.new.self) scope k
    c.requires.sound is moved off others c.try_remove-name.ensures.updates.others c.try_remove-name.ensures.updates.changed
