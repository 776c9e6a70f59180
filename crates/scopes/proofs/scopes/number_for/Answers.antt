use Rattle.std.proofs.Common.{◌≡◌, ◌∙◌, [], ◌+◌, ◌-◌, ℕ, List, Option, Some, None, sym, ap, arith, length, replicate}
use Rattle.slab.specs.Slab.{get}
use Rattle.point_map.specs.Rows.{at}
use Rattle.scopes.specs.declared.member.Member.{Member}
use Rattle.scopes.specs.Scopes.{own_in, point_of}
use Rattle.scopes.proofs.Sound.{wide_keeps, numbered_sound}
use Rattle.std.specs.Prelude.{option_copied}
use Rattle.std.proofs.lemmas.List.{length-append, length-replicate}
use Rattle.std.specs.Prelude.{SomeIff, ok_or, Result, Ok, Err}
use Rattle.scopes.proofs.scopes.number_for.Goals as goal

-- a sum that fits
sum_is : {E : Type 0} (P : Type 0) (e : E) (o : Option ℕ) (width n : ℕ) → SomeIff o P n
    → ◌≡◌ {A = Result ℕ E} (Ok width) (ok_or o e) → width ≡ n
sum_is P e None width n some h = absurd (let x = h in cc)
sum_is P e (Some m) width n some h = ap (λ r. elim r [ Ok x ↦ x | Err x ↦ width ]) h ∙ some.1

pub returns-clause-sound : goal.returns-clause-sound
returns-clause-sound c =
    let v = c.args.lists.now in
    let w = c.widen.new.self in
    let scope = c.args.scope in
    let k = c.vacant_key-number.result in
    let was = c.args.numbers.now in
    let now = c.insert.new.self in
    let names = c.insert_reserved-same.new.self in
    let more = c.in_ok-width.width - length v.lists in
    let grown = c.in_ok-widen.ensures.lists in
    let keeps = wide_keeps v w more grown in
    let long : length w.lists ≡ length v.lists + more =
    ap length grown ∙ length-append v.lists (replicate {A = List (ℕ × Member)} more [])
    ∙ ap (λ n. length v.lists + n) (length-replicate {A = List (ℕ × Member)} more []) in
    let point = c.point_of-2.ensures in
    let none : own_in was scope ≡ None =
    ap (at was) (sym c.point_of.ensures) ∙ sym c.get.ensures ∙ ap option_copied c.in_default.is in
    let vacant : get c.args.names.now k ≡ None =
    ap (λ s. get s k) (sym c.reserve-2.ensures.rest_kept) ∙ c.vacant_key-number.ensures.vacant in
    let key : c.insert_reserved-same.result ≡ k =
    c.insert_reserved-same.ensures.key ∙ sym c.vacant_key-number.ensures.value in
    let is : own_in now scope ≡ Some k = ap (at now) (sym point) ∙ c.insert.ensures.changes.changed in
    let name : get names k ≡ Some scope = ap (get names) (sym key) ∙ c.insert_reserved-same.ensures.updates.changed in
    let sum = sum_is _ _ c.checked_add.result c.in_ok-width.width (k + 2) c.checked_add.ensures c.in_ok-width.ensures.value in
    numbered_sound v w (own_in was) (own_in now) (get c.args.names.now) (get names) keeps.lists (omega (arith, long))
    c.requires.sound scope k none vacant is name
    (λ s d. c.insert.ensures.changes.others (point_of s) (λ e. d (ap (λ p. p.node) (e ∙ point)))
    ∙ c.reserve.ensures.rows (point_of s))
    (λ j d. c.insert_reserved-same.ensures.updates.others j (λ e. d (e ∙ key))
    ∙ ap (λ s. get s j) c.reserve-2.ensures.rest_kept)
    (omega (arith, sum, long))

pub returns-clause-rows : goal.returns-clause-rows
returns-clause-rows c =
    let v = c.args.lists.now in
    wide_keeps v c.widen.new.self (c.in_ok-width.width - length v.lists) c.in_ok-widen.ensures.lists
