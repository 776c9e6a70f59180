use Rattle.std.proofs.Common.{ℕ, arith, rules, ◌≡◌, ◌∙◌, ◌++◌, ◌∷◌, [], Some, IsSome, Option, None, Bor, Vec, Global, option_copied, IsTrue, ◌≢◌, inl, inr, sym, ap, refl, subst, FitsSigned, to_z, of_z, w64}
use Rattle.std.proofs.lemmas.Int.{ints}
use Rattle.inc_value.specs.declared.node.NodeId.{NodeId}
use Rattle.inc_terms.specs.Clock.{IsNextChange, clock_value}
use Rattle.clock_nodes.specs.Clock.{row_at}
use Rattle.clock_nodes.specs.Kinds.{watch_def}
use Rattle.clock_nodes.specs.Keeping.{IsAwake}
use Rattle.clock_nodes.specs.declared.watch.Watch.{Watch}
use Rattle.clock_nodes.proofs.Alarms.{among_last, pending_among}
use Rattle.clock_nodes.proofs.Awake.{armed}
use Rattle.clock_nodes.proofs.settle.settle_last.Goals as goal
use Rattle.clock_nodes.proofs.settle.settle_last.Goals.{then-is_changed, else-is_changed}

some_copied : {T : Type 0} (o : Option (Bor T)) → IsSome (option_copied o) → IsSome o
some_copied None h = h
some_copied (Some b) h = refl

pub unwrap-watch-requires : goal.unwrap-watch-requires
unwrap-watch-requires c =
    let key = c.in-Some.key in
    let awake : IsAwake c.args.rows.now.entries c.args.wheel.now (c.pop.new.self.items ++ key ∷ []) = subst (IsAwake c.args.rows.now.entries c.args.wheel.now) c.in-Some.ensures.items c.requires.awake in
    some_copied c.get.result (subst IsSome (sym c.get.ensures.value) (awake.due_kept key (among_last key c.pop.new.self.items)))

pub arm-armed-requires-clause-fresh : goal.arm-armed-requires-clause-fresh
arm-armed-requires-clause-fresh c = λ pending.
    let key = c.in-Some.key in
    let awake : IsAwake c.args.rows.now.entries c.args.wheel.now (c.pop.new.self.items ++ key ∷ []) = subst (IsAwake c.args.rows.now.entries c.args.wheel.now) c.in-Some.ensures.items c.requires.awake in
    awake.due_off key (among_last key c.pop.new.self.items) (pending_among c.args.wheel.now.alarms key pending)

pub returns-clause-awake : goal.returns-clause-awake
returns-clause-awake c =
    let key = c.in-Some.key in
    let watch : Watch = c.unwrap-watch.result.now in
    let awake : IsAwake c.args.rows.now.entries c.args.wheel.now (c.pop.new.self.items ++ key ∷ []) = subst (IsAwake c.args.rows.now.entries c.args.wheel.now) c.in-Some.ensures.items c.requires.awake in
    let there : row_at c.args.rows.now.entries key ≡ Some watch = sym (rw c.unwrap-watch.ensures at c.get.ensures.value) in
    let fits : FitsSigned w64 c.time-time.result = search rules in
    let time : to_z w64 (of_z w64 c.time-time.result) ≡ c.args.wheel.now.time = (let e = c.time-time.ensures in omega (arith, ints, fits, e)) in
    let quiet : IsNextChange c.args.wheel.now.time (watch_def watch) c.next_change.result
    = subst (λ t. IsNextChange t (watch_def watch) c.next_change.result) time c.next_change.ensures in
    armed c.args.rows.now.entries c.args.wheel.now c.arm-armed.new.wheel key c.pop.new.self.items watch c.next_change.result awake there quiet
    c.arm-armed.ensures.time (rw c.unwrap.ensures at c.arm-armed.ensures.set) c.arm-armed.ensures.none

pub returns-clause-told : goal.returns-clause-told
returns-clause-told c = λ yes_is.
    let key = c.in-Some.key in
    let watch : Watch = c.unwrap-watch.result.now in
    let there : row_at c.args.rows.now.entries key ≡ Some watch = sym (rw c.unwrap-watch.ensures at c.get.ensures.value) in
    let fits : FitsSigned w64 c.time-time.result = search rules in
    let time : to_z w64 (of_z w64 c.time-time.result) ≡ c.args.wheel.now.time = (let e = c.time-time.ensures in omega (arith, ints, fits, e)) in
    let before : to_z w64 (of_z w64 c.args.before) ≡ c.args.before = omega (arith, ints, c.ranges.before) in
    let d = watch_def watch in
    let told : (IsTrue c.is_changed.result → clock_value c.args.wheel.now.time d ≢ clock_value c.args.before d)
    × (clock_value c.args.wheel.now.time d ≢ clock_value c.args.before d → IsTrue c.is_changed.result)
    = subst (λ t. (IsTrue c.is_changed.result → clock_value t d ≢ clock_value c.args.before d) × (clock_value t d ≢ clock_value c.args.before d → IsTrue c.is_changed.result)) time
    (subst (λ b. (IsTrue c.is_changed.result → clock_value (to_z w64 (of_z w64 c.time-time.result)) d ≢ clock_value b d)
    × (clock_value (to_z w64 (of_z w64 c.time-time.result)) d ≢ clock_value b d → IsTrue c.is_changed.result)) before c.is_changed.ensures) in (
      key,
      c.in-Some.ensures.items,
      elim c.if-is_changed.branch [
        | then-is_changed w ↦ record {
          watch = watch;
          is = there;
          told = inr (
            ap (λ (v : Vec NodeId Global). v.items) w.stale-is ∙ w.push_reserved.ensures.items
                ∙ ap (λ (s : ℕ). c.args.stale.now.items ++ record { slot = s; gen_ = key } ∷ []) w.slot.ensures,
            told.0 w.if-is_changed.true,
          );
        }
        | else-is_changed w ↦ record {
          watch = watch;
          is = there;
          told = inl (ap (λ (v : Vec NodeId Global). v.items) w.stale-is, λ differs. let e = told.1 differs in let f = w.if-is_changed.false in cc);
        }
      ],
    )
