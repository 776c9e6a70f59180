use Rattle.std.proofs.Common.{inl, inr, refl, arith, ◌≡◌, ◌+◌, ◌<◌, ◌≤◌, ℕ, List, Option, Some, sym, ap, subst, ◌∙◌, Vec, Global}
use Rattle.std.specs.Option.{SomeIff}
use Rattle.std.specs.Prelude.{vec_capacity}
use Rattle.inc_value.specs.declared.node.NodeId.{NodeId}
use Rattle.inc_value.specs.declared.node.Point.{Point}
use Rattle.inc_value.specs.declared.outcome.Outcome.{Outcome}
use Rattle.necessity.specs.Need.{KeepsRoots, Roots}
use Rattle.node_arena.specs.Arena.{live}
use Rattle.node_outcomes.specs.Meaning.{meaning_of}
use Rattle.wiring.specs.declared.refused.Refused.TheVariants.{Memory}
use Rattle.stabilizer.specs.Ended.{RoundEnds, RoundLeaves, RoundStops}
use Rattle.stabilizer.specs.Freezing.{CanFreeze, FreezesKeep}
use Rattle.stabilizer.specs.Kept.{counts_by}
use Rattle.stabilizer.specs.Lacking.{HasBegun, RoundLacks, SettleOrTellLacks, in_step, in_telling, of_lists, of_number, of_roots, of_step, of_telling}
use Rattle.stabilizer.specs.Round.{OnlyRoots, RootsMore}
use Rattle.inc_terms.specs.Depend.{main}
use Rattle.node_outcomes.specs.Computing.{seen}
use Rattle.node_outcomes.specs.Progress.{Progress}
use Rattle.observers.specs.Observers.{notices_of, told_by}
use Rattle.point_map.specs.Rows.{Rows}
use Rattle.stabilizer.specs.Telling.{shown_or}
use Rattle.stabilizer.specs.declared.parts.Parts.{Parts}
use Rattle.stabilizer.proofs.Round.Ended.{paused_stops, paused_leaves, round_ends, round_leaves}
use Rattle.stabilizer.proofs.Step.Giving.{none_few}
use Rattle.stabilizer.proofs.Round.Leftover.{only_still}
use Rattle.stabilizer.proofs.Step.MeaningKept.{nothing_meant, wants_stay, wants_handed}
use Rattle.stabilizer.proofs.Round.Over.{HasEnded, freezes_may, shows_same}
use Rattle.stabilizer.proofs.Round.Paused.{none_paused, roots_paused, roots_full, steps_paused, wires_full, wires_paused}
use Rattle.stabilizer.proofs.Round.Released.{released_of}
use Rattle.stabilizer.proofs.Round.Whole.{in_round, opened}
use Rattle.stabilizer.proofs.stabilizer.Stabilizer.run.Given.{Over}
use Rattle.stabilizer.proofs.Room.{round_roomy}
use Rattle.stabilizer.proofs.stabilizer.Stabilizer.run.Goals.{After-end_round, After-settle_and_tell}
use Rattle.stabilizer.proofs.stabilizer.Stabilizer.run.Goals as goal
use Rattle.necessary_graph.proofs.Linking.{exit_is}
use Rattle.necessity.proofs.Sound.{on_err}

-- ---- what is called

pub put_roots-requires-clause-quiet : goal.put_roots-requires-clause-quiet
put_roots-requires-clause-quiet g c = c.in_ok-wire.ensures.empty

pub settle_and_tell-requires-clause-may : goal.settle_and_tell-requires-clause-may
settle_and_tell-requires-clause-may g c = record {
  kept = record {
    work = c.put_roots.ensures.kept;
    scopes = c.requires.ready.kept.scopes;
    dying = c.requires.ready.kept.dying;
    clock = c.requires.ready.kept.clock;
    listing = c.requires.ready.kept.listing;
  };
  quiet = c.in_ok-put_roots.ensures.quiet;
  sound = c.requires.sound;
  fit = c.requires.fit;
}

pub settle_and_tell-requires-clause-in_round : goal.settle_and_tell-requires-clause-in_round
settle_and_tell-requires-clause-in_round g c =
    in_round (meaning_of g.F.Functions c.args.functions.now) c.args.parts.now c.wire.new.self c.put_roots.new.work
    (counts_by g.F.Functions c.args.functions.now) c.requires.ready c.in_ok-wire.ensures.wired c.in_ok-put_roots.ensures.wired

pub settle_and_tell-requires-clause-opened : goal.settle_and_tell-requires-clause-opened
settle_and_tell-requires-clause-opened g c =
    opened (meaning_of g.F.Functions c.args.functions.now) c.args.parts.now c.wire.new.self c.put_roots.new.work
    (counts_by g.F.Functions c.args.functions.now) c.requires.ready c.in_ok-wire.ensures.wired c.in_ok-put_roots.ensures.wired
    c.args.observers.now.made c.requires.looks c.requires.shown

-- ---- no further round has a number

pub returns-in_default : goal.returns-in_default
returns-in_default g c =
    let K = g.F.Functions in
    let fs = c.args.functions.now in
    let old = c.args.parts.now in
    let paused = none_paused (meaning_of K fs) old (counts_by K fs) c.requires.ready in
    record {
      ended = tt;
      refused = paused_stops K fs fs old old Memory paused c.args.roots.now (λ p h. inl h) refl
          (none_few (K.right fs) old.arena.given old.arena (omega arith)) tt;
      leaves = paused_leaves K fs fs old old Memory paused c.requires.fit (nothing_meant K fs c.requires.sound) (λ none. refl);
      told = tt;
      notices = tt;
      observers = refl;
      quiet = tt;
      wants = inl refl;
      lacks = of_number (let last = c.in_default.ensures in omega (arith, last));
      steady = λ steady. let last = c.in_default.ensures in let number = steady.numbered in absurd (omega (arith, last, number));
    }

-- ---- a link that was owed was refused

pub returns-in_err-wire-clause-refused : goal.returns-in_err-wire-clause-refused
returns-in_err-wire-clause-refused g c =
    let K = g.F.Functions in
    let fs = c.args.functions.now in
    let M = meaning_of K fs in
    let counts = counts_by K fs in
    let old = c.args.parts.now in
    let wired = c.wire.new.self in
    let new : Parts = record old { work = wired } in
    let e = c.in_err-wire.field-0.0 in
    exit_is c.from_residual.result e (RoundStops K fs fs old new c.args.roots.now) c.from_residual.ensures.1
    (paused_stops K fs fs old new e (wires_paused M old counts c.requires.ready wired e c.in_err-wire.ensures.refused c.wire.ensures.kept)
    c.args.roots.now (λ p h. inl (subst (λ (k : ℕ). 0 < k) (c.wire.ensures.places.roots p) h)) refl
    (none_few (K.right fs) old.arena.given old.arena (omega arith))
    (wires_full M old counts c.requires.ready wired e c.in_err-wire.ensures.refused (K.right fs)))

pub returns-in_err-wire-clause-leaves : goal.returns-in_err-wire-clause-leaves
returns-in_err-wire-clause-leaves g c =
    let K = g.F.Functions in
    let fs = c.args.functions.now in
    let old = c.args.parts.now in
    let wired = c.wire.new.self in
    let e = c.in_err-wire.field-0.0 in
    paused_leaves K fs fs old (record old { work = wired }) e
    (wires_paused (meaning_of K fs) old (counts_by K fs) c.requires.ready wired e c.in_err-wire.ensures.refused c.wire.ensures.kept)
    c.requires.fit (nothing_meant K fs c.requires.sound) (λ none. refl)

pub returns-in_err-wire-clause-wants : goal.returns-in_err-wire-clause-wants
returns-in_err-wire-clause-wants g c = wants_stay c.from_residual.result _ _ refl

pub returns-in_err-wire-clause-lacks : goal.returns-in_err-wire-clause-lacks
returns-in_err-wire-clause-lacks g c = on_err c.from_residual.result (of_lists c.in_err-wire.ensures.listed)

pub returns-in_err-wire-clause-steady : goal.returns-in_err-wire-clause-steady
returns-in_err-wire-clause-steady g c = on_err c.from_residual.result (λ steady. absurd (c.in_err-wire.ensures.listed steady.unlinked))

-- ---- a root was refused

only_more : (old wired new : Roots) (points : List Point) → KeepsRoots old wired → OnlyRoots wired new points → OnlyRoots old new points
only_more old wired new points same only p h = elim (only p h) [ inl was ↦ inl (subst (λ (k : ℕ). 0 < k) (same p) was) | inr now ↦ inr now ]

pub returns-in_err-put_roots-clause-refused : goal.returns-in_err-put_roots-clause-refused
returns-in_err-put_roots-clause-refused g c =
    let K = g.F.Functions in
    let fs = c.args.functions.now in
    let M = meaning_of K fs in
    let counts = counts_by K fs in
    let old = c.args.parts.now in
    let wired = c.wire.new.self in
    let rooted = c.put_roots.new.work in
    let new : Parts = record old { work = rooted } in
    let e = c.in_err-put_roots.field-0.0 in
    exit_is c.from_residual-in_err-put_roots.result e (RoundStops K fs fs old new c.args.roots.now) c.from_residual-in_err-put_roots.ensures.1
    (paused_stops K fs fs old new e (roots_paused M old counts c.requires.ready wired c.in_ok-wire.ensures.wired rooted e
    c.in_err-put_roots.ensures.refused c.put_roots.ensures.kept) c.args.roots.now
    (only_more old.work.graph.roots wired.graph.roots rooted.graph.roots _ c.wire.ensures.places.roots c.put_roots.ensures.roots) refl
    (none_few (K.right fs) old.arena.given old.arena (omega arith))
    (roots_full M old counts c.requires.ready wired c.in_ok-wire.ensures.wired rooted e c.in_err-put_roots.ensures.refused (K.right fs)))

pub returns-in_err-put_roots-clause-leaves : goal.returns-in_err-put_roots-clause-leaves
returns-in_err-put_roots-clause-leaves g c =
    let K = g.F.Functions in
    let fs = c.args.functions.now in
    let old = c.args.parts.now in
    let rooted = c.put_roots.new.work in
    let e = c.in_err-put_roots.field-0.0 in
    paused_leaves K fs fs old (record old { work = rooted }) e
    (roots_paused (meaning_of K fs) old (counts_by K fs) c.requires.ready c.wire.new.self c.in_ok-wire.ensures.wired rooted e
    c.in_err-put_roots.ensures.refused c.put_roots.ensures.kept)
    c.requires.fit (nothing_meant K fs c.requires.sound) (λ none. refl)

pub returns-in_err-put_roots-clause-wants : goal.returns-in_err-put_roots-clause-wants
returns-in_err-put_roots-clause-wants g c = wants_stay c.from_residual-in_err-put_roots.result _ _ refl

pub returns-in_err-put_roots-clause-lacks : goal.returns-in_err-put_roots-clause-lacks
returns-in_err-put_roots-clause-lacks g c = on_err c.from_residual-in_err-put_roots.result (of_roots c.in_err-put_roots.ensures.some)

pub returns-in_err-put_roots-clause-steady : goal.returns-in_err-put_roots-clause-steady
returns-in_err-put_roots-clause-steady g c = on_err c.from_residual-in_err-put_roots.result (λ steady. absurd (c.in_err-put_roots.ensures.some steady.unrooted))

-- ---- a step was refused

-- what it lacked
settling_lacks : (g : Over) (c : After-settle_and_tell g) → SettleOrTellLacks (meaning_of g.F.Functions c.args.functions.now)
    (record c.args.parts.now { work = c.put_roots.new.work }) c.args.observers.now.made (counts_by g.F.Functions c.args.functions.now)
    (g.F.Functions.wants c.args.functions.now) (g.F.Functions.wants c.settle_and_tell.new.functions)
    → RoundLacks (meaning_of g.F.Functions c.args.functions.now) c.args.parts.now c.args.roots.now c.args.observers.now.made
    (counts_by g.F.Functions c.args.functions.now) (g.F.Functions.wants c.args.functions.now) (g.F.Functions.wants c.settle_and_tell.new.functions)
settling_lacks g c lacks =
    let begun : HasBegun c.args.parts.now c.args.roots.now c.wire.new.self c.put_roots.new.work = record {
      wires = c.in_ok-wire.ensures.wired;
      puts = c.in_ok-put_roots.ensures.wired;
      idle = c.wire.ensures.idle;
      still = c.in_ok-put_roots.ensures.still;
    } in
    elim lacks [ in_step lacks ↦ of_step begun lacks | in_telling lacks ↦ of_telling begun lacks ]

pub returns-in_err-settle_and_tell-clause-lacks : goal.returns-in_err-settle_and_tell-clause-lacks
returns-in_err-settle_and_tell-clause-lacks g c = on_err c.from_residual-in_err-settle_and_tell.result
    (settling_lacks g (goal.at.returns-in_err-settle_and_tell-clause-lacks g c).After-settle_and_tell c.in_err-settle_and_tell.ensures.lacks)

pub returns-in_err-settle_and_tell-clause-steady : goal.returns-in_err-settle_and_tell-clause-steady
returns-in_err-settle_and_tell-clause-steady g c = on_err c.from_residual-in_err-settle_and_tell.result (λ steady.
    round_roomy (meaning_of g.F.Functions c.args.functions.now) c.args.parts.now c.args.roots.now c.args.observers.now.made c.requires.ready steady
    (counts_by g.F.Functions c.args.functions.now) _ _
    (settling_lacks g (goal.at.returns-in_err-settle_and_tell-clause-steady g c).After-settle_and_tell c.in_err-settle_and_tell.ensures.lacks))

pub returns-in_err-settle_and_tell-clause-refused : goal.returns-in_err-settle_and_tell-clause-refused
returns-in_err-settle_and_tell-clause-refused g c =
    let K = g.F.Functions in
    let fs = c.args.functions.now in
    let fs' = c.settle_and_tell.new.functions in
    let old = c.args.parts.now in
    let wired = c.wire.new.self in
    let rooted = c.put_roots.new.work in
    let new = c.settle_and_tell.new.parts in
    let e = c.in_err-settle_and_tell.field-0.0 in
    let s = c.settle_and_tell.ensures.stays in
    exit_is c.from_residual-in_err-settle_and_tell.result e (RoundStops K fs fs' old new c.args.roots.now) c.from_residual-in_err-settle_and_tell.ensures.1
    (paused_stops K fs fs' old new e (steps_paused (meaning_of K fs) old (counts_by K fs) c.requires.ready wired c.in_ok-wire.ensures.wired rooted new
    (counts_by K fs') e c.in_ok-put_roots.ensures.wired c.in_err-settle_and_tell.ensures.refused s.kept) c.args.roots.now
    (only_still old.work.graph.roots rooted.graph.roots new.work.graph.roots _
    (only_more old.work.graph.roots wired.graph.roots rooted.graph.roots _ c.wire.ensures.places.roots c.put_roots.ensures.roots) s.roots) s.ran
    c.in_err-settle_and_tell.ensures.spends c.in_err-settle_and_tell.ensures.full)

pub returns-in_err-settle_and_tell-clause-leaves : goal.returns-in_err-settle_and_tell-clause-leaves
returns-in_err-settle_and_tell-clause-leaves g c =
    let K = g.F.Functions in
    let fs = c.args.functions.now in
    let fs' = c.settle_and_tell.new.functions in
    let new = c.settle_and_tell.new.parts in
    let e = c.in_err-settle_and_tell.field-0.0 in
    let s = c.settle_and_tell.ensures.stays in
    paused_leaves K fs fs' c.args.parts.now new e (steps_paused (meaning_of K fs) c.args.parts.now (counts_by K fs) c.requires.ready c.wire.new.self
    c.in_ok-wire.ensures.wired c.put_roots.new.work
    new (counts_by K fs') e c.in_ok-put_roots.ensures.wired c.in_err-settle_and_tell.ensures.refused s.kept) s.fit s.functions s.flat

pub returns-in_err-settle_and_tell-clause-wants : goal.returns-in_err-settle_and_tell-clause-wants
returns-in_err-settle_and_tell-clause-wants g c =
    wants_handed c.from_residual-in_err-settle_and_tell.result c.in_err-settle_and_tell.field-0.0 _ _ c.from_residual-in_err-settle_and_tell.ensures.1
    c.in_err-settle_and_tell.ensures.wants

-- ---- freezes keep their values

more_then : (old wired new : Roots) (points : List Point) → KeepsRoots old wired → RootsMore wired new points → RootsMore old new points
more_then old wired new points same more p = let a = same p in let b = more p in omega (arith, a, b)

pub freeze_fired-requires-clause-can : goal.freeze_fired-requires-clause-can
freeze_fired-requires-clause-can g c =
    let K = g.F.Functions in
    let fs = c.args.functions.now in
    let fs' = c.settle_and_tell.new.functions in
    let old = c.args.parts.now in
    let wired = c.wire.new.self in
    let rooted = c.put_roots.new.work in
    let settled = c.settle_and_tell.new.parts in
    let s = c.in_ok-settle_and_tell.ensures in
    subst (λ (ns : List NodeId). CanFreeze settled.arena settled.work.rows settled.work.graph ns) (sym (ap (λ v. v.items) c.swap.ensures.x_after))
    (freezes_may (meaning_of K fs) old wired rooted (counts_by K fs) c.requires.ready c.in_ok-wire.ensures.wired c.in_ok-put_roots.ensures.wired settled
    (counts_by K fs') s.settled s.stays.kept s.quiet s.empty c.args.roots.now s.stays.roots
    (more_then old.work.graph.roots wired.graph.roots rooted.graph.roots _ c.wire.ensures.places.roots c.in_ok-put_roots.ensures.rooted)
    c.requires.begins)

-- ---- the round ended

next_is : (result : Option ℕ) (P : Type 0) (v next : ℕ) → SomeIff result P v → result ≡ Some next → next ≡ v
next_is result P v next h e = (subst (λ (r : Option ℕ). SomeIff r P v) e h).1

module _ (g : Over) (c : After-end_round g) where
  next_round : c.end_round.new.self.round ≡ c.args.parts.now.work.round + 1
  next_round = c.end_round.ensures.round
      ∙ next_is c.checked_add.result _ (c.args.parts.now.work.round + 1) c.in-Some.next c.checked_add.ensures c.in-Some.is

  abbrev settled : Parts
  settled = c.settle_and_tell.new.parts

  abbrev frozen : Parts
  frozen = c.freeze_fired.new.self

  -- the work beside what freezes changed
  beside : {A : Type 0} (f : Parts → A) → f frozen ≡ f (record settled {
    ran = c.swap.new.x;
    work = record settled.work { ran = c.swap.new.y; rows = frozen.work.rows; graph = frozen.work.graph };
  })
  beside f = ap f c.freeze_fired.ensures.rest

  keep : FreezesKeep settled.arena settled.work.rows c.end_round.new.self.rows settled.work.graph frozen.work.graph
  keep = subst (λ (rows : Rows Progress). FreezesKeep settled.arena settled.work.rows rows settled.work.graph frozen.work.graph)
      (sym c.end_round.ensures.rows) c.freeze_fired.ensures.keep

  ended : HasEnded settled.arena settled.work frozen.work.graph c.end_round.new.self
  ended =
      let e = c.end_round.ensures in
      record {
        keep = keep;
        released = released_of frozen.work (record settled.work { rows = c.end_round.new.self.rows; graph = frozen.work.graph }) c.end_round.new.self
            (sym e.rows) refl (beside (λ (p : Parts). p.work.deaths)) e.released;
        step = e.step;
        ran = e.ran;
        retries = e.retries;
        round = next_round ∙ ap (λ (k : ℕ). k + 1) (sym (c.settle_and_tell.ensures.stays.round ∙ (c.put_roots.ensures.round ∙ c.wire.ensures.places.round)));
        roots = e.right_sides ∙ beside (λ (p : Parts). p.work.roots);
        experts = e.experts ∙ beside (λ (p : Parts). p.work.experts);
        pairs = e.pairs ∙ beside (λ (p : Parts). p.work.pairs);
        scoped = e.scoped ∙ beside (λ (p : Parts). p.work.scoped);
        todo = e.todo ∙ beside (λ (p : Parts). p.work.todo);
      }

  -- there is room in both lists: they were swapped
  called : live settled.arena ≤ vec_capacity c.end_round.new.self.ran
  called =
      let room = c.settle_and_tell.ensures.stays.kept.listing in
      let same : vec_capacity c.end_round.new.self.ran ≡ vec_capacity settled.ran
      = c.end_round.ensures.room ∙ (beside (λ (p : Parts). vec_capacity p.work.ran) ∙ ap (λ (l : Vec NodeId Global). vec_capacity l) c.swap.ensures.y_after) in
      omega (arith, room, same)

  listed : live settled.arena ≤ vec_capacity c.swap.new.x
  listed =
      let room = c.settle_and_tell.ensures.stays.kept.work.rooms.ran in
      let same : vec_capacity c.swap.new.x ≡ vec_capacity settled.work.ran = ap (λ (l : Vec NodeId Global). vec_capacity l) c.swap.ensures.x_after in
      omega (arith, room, same)

  abbrev last : Parts
  last = record settled { work = c.end_round.new.self; ran = c.swap.new.x }

  is_last : record frozen { work = c.end_round.new.self } ≡ last
  is_last = ap (λ (p : Parts). record p { work = c.end_round.new.self }) c.freeze_fired.ensures.rest

  shows : ◌≡◌ {A = NodeId → Outcome} (λ n. shown_or (seen c.end_round.new.self.rows (main n))) (λ n. shown_or (seen settled.work.rows (main n)))
  shows = shows_same settled.arena settled.work.rows c.end_round.new.self.rows settled.work.graph frozen.work.graph keep

pub returns : goal.returns
returns g c =
    let K = g.F.Functions in
    let fs = c.args.functions.now in
    let fs' = c.settle_and_tell.new.functions in
    let old = c.args.parts.now in
    let wired = c.wire.new.self in
    let rooted = c.put_roots.new.work in
    let p = c.in_ok-put_roots.ensures in
    let s = c.in_ok-settle_and_tell.ensures in
    let more = more_then old.work.graph.roots wired.graph.roots rooted.graph.roots _ c.wire.ensures.places.roots p.rooted in
    record {
      ended = subst (λ (x : Parts). RoundEnds K fs fs' old x c.args.roots.now) (sym (is_last g c))
          (round_ends K fs fs' old wired rooted c.requires.ready c.in_ok-wire.ensures.wired p.wired (settled g c) s.settled s.stays s.quiet s.empty
          c.args.roots.now more (last g c) (frozen g c).work.graph (ended g c) c.requires.begins s.gives (ap (λ v. v.items) c.swap.ensures.x_after)
          (next_round g c) (called g c) (listed g c));
      refused = tt;
      leaves = subst (λ (x : Parts). RoundLeaves K fs fs' old x) (sym (is_last g c))
          (round_leaves K fs fs' old wired rooted c.requires.ready c.in_ok-wire.ensures.wired p.wired (settled g c) s.settled s.stays s.quiet s.empty
          c.args.roots.now more (last g c) (frozen g c).work.graph (ended g c));
      told = s.told ∙ ap (λ (f : NodeId → Outcome). told_by f c.args.observers.now.made) (sym (shows g c));
      notices = s.notices ∙ ap (λ (f : NodeId → Outcome). notices_of f 0 c.args.observers.now.made) (sym (shows g c));
      observers = tt;
      quiet = ap (λ (v : Vec Point Global). v.items) (ended g c).todo ∙ s.quiet;
      wants = s.wants;
      lacks = tt;
      steady = tt;
    }
