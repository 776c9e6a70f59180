use Rattle.std.proofs.Common.{arith, rules, ◌≡◌, ◌∙◌, ◌∷◌, [], Option, Some, None, IsSome, true, sym, subst, FitsSigned, to_z, of_z, w64}
use Rattle.std.proofs.lemmas.Int.{ints}
use Rattle.inc_terms.specs.Clock.{IsNextChange, IsTimed, reads_clock}
use Rattle.inc_terms.specs.Code.{def_of}
use Rattle.inc_terms.specs.Graph.{Def}
use Rattle.clock_nodes.specs.Clock.{Clock, row_at, IsFree}
use Rattle.clock_nodes.specs.Kinds.{watch_def}
use Rattle.clock_nodes.specs.Keeping.{IsAwake, IsWatch}
use Rattle.clock_nodes.specs.declared.watch.Watch.{Watch}
use Rattle.clock_nodes.proofs.Alarms.{pending_among}
use Rattle.clock_nodes.proofs.Awake.{changes_row, same_rows, entered, armed}
use Rattle.clock_nodes.proofs.Stale.{free_row}
use Rattle.clock_nodes.proofs.clock.Clock.watch_node.Goals as goal

none_some : {A : Type 0} (o : Option A) → o ≡ None → IsSome o → ⊥
none_some None e h = let f = h in cc
none_some (Some a) e h = let f = e in cc

pub invariant_of-self-in_err-watch : goal.invariant_of-self-in_err-watch
invariant_of-self-in_err-watch c =
    (same_rows c.self.inside.rows.entries c.reserve.new.self.entries c.self.inside.wheel [] c.reserve.ensures.entries.2 c.self.invariant.0, c.self.invariant.1)

pub arm-requires-clause-fresh : goal.arm-requires-clause-fresh
arm-requires-clause-fresh c = λ pending.
    let clock : Clock = record { time = c.self.inside.wheel.time; rows = c.self.inside.rows.entries } in
    let awake = c.self.invariant.0 in
    let none = free_row clock c.args.id (subst (λ (z : Clock). IsFree z c.args.id) (sym c.self.view_is) c.requires.free) in
    let some = awake.kept c.args.id.gen_ (pending_among c.self.inside.wheel.alarms c.args.id.gen_ pending) in
    none_some (row_at c.self.inside.rows.entries c.args.id.gen_) none some

pub invariant_of-self-in-Ok : goal.invariant_of-self-in-Ok
invariant_of-self-in-Ok c =
    let clock : Clock = record { time = c.self.inside.wheel.time; rows = c.self.inside.rows.entries } in
    let w = c.self.inside.wheel in
    let key = c.args.id.gen_ in
    let awake = c.self.invariant.0 in
    let reserved : IsAwake c.reserve.new.self.entries w [] = same_rows c.self.inside.rows.entries c.reserve.new.self.entries w [] c.reserve.ensures.entries.2 awake in
    let absent : row_at c.reserve.new.self.entries key ≡ None = c.reserve.ensures.entries.2 key
    ∙ free_row clock c.args.id (subst (λ (z : Clock). IsFree z c.args.id) (sym c.self.view_is) c.requires.free) in
    let watch : Watch = c.in_ok-watch.watch in
    let changes = changes_row c.reserve.new.self.entries c.keep.new.rows.entries key (Some watch) c.keep.ensures in
    let d = c.in_ok-watch.ensures.def in
    let is_watch : IsWatch w.time watch = record {
      reads = subst (λ (x : Def). reads_clock x ≡ true) (sym d) c.requires.reads;
      timed = subst (λ (x : Def). IsTimed w.time x) (sym d) (subst (λ (z : Clock). IsTimed z.time (def_of c.args.def.now)) (sym c.self.view_is) c.requires.timed);
    } in
    let fits : FitsSigned w64 c.time.result = search rules in
    let same : to_z w64 (of_z w64 c.time.result) ≡ w.time = (let e = c.time.ensures in omega (arith, ints, fits, e)) in
    let quiet : IsNextChange w.time (watch_def watch) c.next_change-next.result
    = subst (λ t. IsNextChange t (watch_def watch) c.next_change-next.result) same c.next_change-next.ensures in
    let due : IsAwake c.keep.new.rows.entries w (key ∷ []) = entered c.reserve.new.self.entries c.keep.new.rows.entries w key watch reserved absent changes is_watch in (
      armed c.keep.new.rows.entries w c.arm.new.wheel key [] watch c.next_change-next.result due changes.changed quiet c.arm.ensures.time c.in-Ok.ensures.set c.arm.ensures.none,
      c.self.invariant.1,
    )

pub invariant_of-self-in-Err : goal.invariant_of-self-in-Err
invariant_of-self-in-Err c = (
  subst (λ v. IsAwake c.reserve.new.self.entries v []) (sym c.in-Err.ensures.err)
      (same_rows c.self.inside.rows.entries c.reserve.new.self.entries c.self.inside.wheel [] c.reserve.ensures.entries.2 c.self.invariant.0),
  c.self.invariant.1,
)
