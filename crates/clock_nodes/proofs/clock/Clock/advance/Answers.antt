use Rattle.std.proofs.Common.{arith, rules, ◌≡◌, ◌∙◌, ◌≤◌, ◌+◌, ◌≤ℤ◌, ℕ, ℤ, pos, List, [], ◌++◌, length, refl, sym, ap, subst, FitsSigned, to_z, of_z, w64}
use Rattle.std.proofs.lemmas.Int.{ints}
use Rattle.inc_value.specs.declared.node.NodeId.{NodeId}
use Rattle.inc_terms.specs.Clock.{IsTimed}
use Rattle.timing_wheel.specs.Alarms.{due_by, keys_of}
use Rattle.clock_nodes.specs.Clock.{Clock, ListsStale, MayYetTurn}
use Rattle.clock_nodes.specs.Kinds.{watch_def}
use Rattle.clock_nodes.specs.Keeping.{IsAwake, TellsDue}
use Rattle.clock_nodes.proofs.Alarms.{among_or_not}
use Rattle.clock_nodes.proofs.Awake.{moved, value_same}
use Rattle.clock_nodes.proofs.Stale.{lists_stale, may_yet_turn}
use Rattle.clock_nodes.proofs.clock.Clock.advance.Goals as goal

pub invariant_of-self-in-Err-advance : goal.invariant_of-self-in-Err-advance
invariant_of-self-in-Err-advance c =
    (subst (λ v. IsAwake c.self.inside.rows.entries v []) (sym c.in-Err-advance.ensures.err) c.self.invariant.0, c.in-Err-advance.ensures.err_due ∙ c.self.invariant.1)

pub settle_due-requires-clause-awake : goal.settle_due-requires-clause-awake
settle_due-requires-clause-awake c =
    let to = to_z w64 (of_z w64 c.args.to) in
    let w = c.self.inside.wheel in
    let fits : FitsSigned w64 c.time-before.result = search rules in
    let forward : w.time ≤ℤ to = (let no_less = c.if-to-before.false in let e = c.time-before.ensures in let same : to_z w64 (of_z w64 c.time-before.result) ≡ w.time = omega (arith, ints, fits, e) in let f = rw same at no_less in grind (arith, ints)) in
    let range : to ≤ℤ pos 9223372036854775807 = omega (arith, ints, c.ranges.to) in
    let e = c.in-Ok-advance.ensures in
    let due : c.advance.new.due.items ≡ keys_of (due_by to w.alarms) = e.due ∙ ap (λ (l : List ℕ). l ++ keys_of (due_by to w.alarms)) c.self.invariant.1 in
    subst (λ (l : List ℕ). IsAwake c.self.inside.rows.entries c.advance.new.self l) (sym due)
    (moved c.self.inside.rows.entries w c.advance.new.self to c.self.invariant.0 forward e.time e.rest range)

pub settle_due-requires-clause-timed : goal.settle_due-requires-clause-timed
settle_due-requires-clause-timed c = λ key x is.
    let fits : FitsSigned w64 c.time-before.result = search rules in
    let same : to_z w64 (of_z w64 c.time-before.result) ≡ c.self.inside.wheel.time = (let e = c.time-before.ensures in omega (arith, ints, fits, e)) in
    subst (λ t. IsTimed t (watch_def x)) (sym same) (c.self.invariant.0.watches key x is).timed

pub settle_due-requires-clause-room : goal.settle_due-requires-clause-room
settle_due-requires-clause-room c =
    let to = to_z w64 (of_z w64 c.args.to) in
    let w = c.self.inside.wheel in
    let end : to ≡ c.args.to = omega (arith, ints, c.ranges.to) in
    let due : c.advance.new.due.items ≡ keys_of (due_by to w.alarms)
    = c.in-Ok-advance.ensures.due ∙ ap (λ (l : List ℕ). l ++ keys_of (due_by to w.alarms)) c.self.invariant.1 in
    let same = ap length due in
    let there = ap (λ t. length (keys_of (due_by t w.alarms))) end in
    let room = c.in-Ok.ensures.room in
    omega (arith, same, there, room)

pub returns-in-Ok-advance-clause-stale : goal.returns-in-Ok-advance-clause-stale
returns-in-Ok-advance-clause-stale c =
    let to = to_z w64 (of_z w64 c.args.to) in
    let w = c.self.inside.wheel in
    let rows = c.self.inside.rows.entries in
    let awake = c.self.invariant.0 in
    let e = c.in-Ok-advance.ensures in
    let fits : FitsSigned w64 c.time-before.result = search rules in
    let same : to_z w64 (of_z w64 c.time-before.result) ≡ w.time = (let t = c.time-before.ensures in omega (arith, ints, fits, t)) in
    let forward : w.time ≤ℤ to = (let no_less = c.if-to-before.false in let f = rw same at no_less in grind (arith, ints)) in
    let range : to ≤ℤ pos 9223372036854775807 = omega (arith, ints, c.ranges.to) in
    let due : c.advance.new.due.items ≡ keys_of (due_by to w.alarms) = e.due ∙ ap (λ (l : List ℕ). l ++ keys_of (due_by to w.alarms)) c.self.invariant.1 in
    let old = c.args.stale.now.items in
    let new = c.settle_due.new.stale.items in
    let told : TellsDue rows w.time to (keys_of (due_by to w.alarms)) [] old new
    = subst (λ (l : List NodeId). TellsDue rows w.time to (keys_of (due_by to w.alarms)) [] l new) c.in-Ok.ensures.items
    (subst (λ (l : List ℕ). TellsDue rows w.time to l [] c.make_room.new.list.items new) due
    (subst (λ t. TellsDue rows w.time t c.advance.new.due.items [] c.make_room.new.list.items new) e.time
    (subst (λ t. TellsDue rows t c.advance.new.self.time c.advance.new.due.items [] c.make_room.new.list.items new) same c.settle_due.ensures.told))) in
    let clock : Clock = record { time = w.time; rows = rows } in
    let lists : ListsStale clock w.time to old new
    = lists_stale clock w.time to (keys_of (due_by to w.alarms)) old new told
    (λ k x is off. value_same rows w c.advance.new.self to awake forward e.time e.rest range k x is off)
    (λ k. among_or_not k (keys_of (due_by to w.alarms))) in
    let end : to ≡ c.args.to = omega (arith, ints, c.ranges.to) in
    subst (λ (z : Clock). ListsStale z z.time c.args.to old new) c.self.view_is (subst (λ t. ListsStale clock w.time t old new) end lists)

pub returns-in-Err-clause-memory : goal.returns-in-Err-clause-memory
returns-in-Err-clause-memory c = λ _.
    let w = c.self.inside.wheel in
    let clock : Clock = record { time = w.time; rows = c.self.inside.rows.entries } in
    subst MayYetTurn c.self.view_is
    (may_yet_turn clock w (to_z w64 (of_z w64 c.args.to)) c.self.invariant.0 refl (c.in-Err.ensures.memory refl))

pub returns-in-Err-advance-clause-memory : goal.returns-in-Err-advance-clause-memory
returns-in-Err-advance-clause-memory c = λ _.
    let w = c.self.inside.wheel in
    let clock : Clock = record { time = w.time; rows = c.self.inside.rows.entries } in
    subst MayYetTurn c.self.view_is
    (may_yet_turn clock w (to_z w64 (of_z w64 c.args.to)) c.self.invariant.0 refl (c.in-Err-advance.ensures.memory refl))
