-- What every graph keeps, where observers are made, ended and watched.
use Rattle.std.proofs.Common.{◌≡◌, inl, inr, ◌⊎◌, ℕ, zero, suc, ◌-◌, ◌^◌, ◌<◌, ◌≤◌, true, false, List, [], ◌∷◌, ◌++◌, length, take, map, Option, None, Some, Ok, Err, refl, sym, ap, subst, ◌∙◌, arith, length-append}
use Rattle.std.specs.Prelude.{slice_get, slice_set, IsSome, Result, OnOk, OnErr, IsErrOf, ◌↔◌}
use Rattle.std.proofs.lemmas.List.{take-append-le}
use Rattle.std.proofs.lemmas.Option.{none-some}
use Rattle.inc_value.specs.declared.node.NodeId.{NodeId}
use Rattle.inc_value.specs.declared.node.Point.{Point}
use Rattle.inc_value.specs.declared.outcome.Outcome.{Outcome}
use Rattle.inc_value.specs.Choice.{Among}
use Rattle.inc_terms.specs.Depend.{main}
use Rattle.inc_terms.specs.Within.{Given}
use Rattle.point_map.specs.Rows.{Rows}
use Rattle.necessity.specs.Need.{Roots, root_times, OneRootMore}
use Rattle.stabilize_round.proofs.Points.{among_count, same_or_other}
use Rattle.node_outcomes.specs.Computing.{seen}
use Rattle.node_arena.specs.Arena.{Arena}
use Rattle.node_outcomes.specs.Meaning.{Meaning}
use Rattle.stabilizer.specs.Round.{IsReady, AreRooted}
use Rattle.node_outcomes.specs.Progress.{Progress}
use Rattle.stabilizer.specs.declared.parts.Parts.{Parts}
use Rattle.wiring.specs.declared.refused.Refused.{Refused}
use Rattle.observers.specs.Observers.{ObserversView, in_use, looked_at, new_observer, ended, watched}
use Rattle.observers.specs.declared.observers.ObserveFault.{ObserveFault}
use Rattle.observers.specs.declared.observers.ObserveFault.TheVariants as observe
use Rattle.observers.specs.declared.observers.UseFault.{UseFault}
use Rattle.inc_value.specs.declared.node.ObsId.{ObsId}
use Rattle.graph.specs.Inside.{FitsInside}
use Rattle.observers.specs.declared.observer.Observer.{Observer}
use Rattle.graph.proofs.Sound.{ready_built}
use Rattle.observers.proofs.Keeping.{watched_length}
use Rattle.graph.proofs.Observing.{IsLeftOut, left_out, left_is_among, front_set, front_stays, front_same, in_use_append, made_front}
use Rattle.graph.proofs.Observing.{set_among, set_front, set_back, watched_among, watched_front, watched_back, in_use_watched}
use Rattle.inc_terms.proofs.Plan.{among_parts}

module _ (M : Meaning) (parts : Parts) (observers : List Observer) (rooted since : ℕ)
    (refused : Option Refused) (sound : FitsInside M parts observers rooted since refused) (node : NodeId) where
  -- an observer more
  pub sound_observed : (length observers < 2 ^ 32 - 1) → Given parts.arena.given node
      → FitsInside M parts (observers ++ new_observer node ∷ []) rooted since refused
  sound_observed few given = record {
    few = let l = length-append observers (new_observer node ∷ []) in omega (arith, l, few);
    earlier = let l = length-append observers (new_observer node ∷ []) in omega (arith, l, sound.earlier);
    past = sound.past;
    kept = sound.kept;
    built = sound.built;
    inside = sound.inside;
    showing = λ o among used. sound.showing o
        (subst (Among o) (take-append-le rooted observers (new_observer node ∷ []) sound.earlier) among) used;
    later = λ o among. elim (made_front observers rooted node o sound.earlier among) [
      | inl old ↦ sound.later o old
      | inr new ↦ ap (λ (q : Observer). q.shown) new
    ];
    unbroken = λ whole. let can = sound.unbroken whole in
        let front : take rooted (observers ++ new_observer node ∷ []) ≡ take rooted observers = take-append-le rooted observers (new_observer node ∷ []) sound.earlier in
        record {
          ready = can.ready;
          roots = subst (λ (os : List Observer). AreRooted parts.arena parts.work since (in_use os)) (sym front) can.roots;
          given = λ n among. elim (among_parts n (in_use observers) (node ∷ []) (subst (Among n) (in_use_append observers (new_observer node ∷ [])) among)) [
            | inl k ↦ can.given n k
            | inr k ↦ elim k [ inl e ↦ subst (Given parts.arena.given) (sym e) given | inr none ↦ absurd none ]
          ];
          shown = λ o x among used shown. elim (among_parts o observers (new_observer node ∷ []) among) [
            | inl old ↦ can.shown o x old used shown
            | inr (inl new) ↦ absurd (none-some x (sym (ap (λ (q : Observer). q.shown) new) ∙ shown))
            | inr (inr none) ↦ absurd none
          ];
        };
  }

module _ (M : Meaning) (parts : Parts) (observers : List Observer) (rooted since : ℕ)
    (refused : Option Refused) (sound : FitsInside M parts observers rooted since refused) where
  -- an observer is watched
  pub sound_watched : (place : ℕ) → FitsInside M parts (watched place observers) rooted since refused
  sound_watched place = record {
    few = let l = watched_length observers place in omega (arith, l, sound.few);
    earlier = let l = watched_length observers place in omega (arith, l, sound.earlier);
    past = sound.past;
    kept = sound.kept;
    built = sound.built;
    inside = sound.inside;
    showing = λ o among used.
        let w = watched_among (take rooted observers) place o (subst (Among o) (watched_front observers place rooted) among) in
        subst (λ (x : Option Outcome). IsSome x) (sym w.shown) (sound.showing w.one w.among (sym w.used ∙ used));
    later = λ o among. let w = watched_back observers place rooted o among in w.shown ∙ sound.later w.one w.among;
    unbroken = λ whole. let can = sound.unbroken whole in record {
      ready = can.ready;
      roots = subst (AreRooted parts.arena parts.work since)
          (sym (ap in_use (watched_front observers place rooted) ∙ in_use_watched (take rooted observers) place)) can.roots;
      given = λ n among. can.given n (subst (Among n) (in_use_watched observers place) among);
      shown = λ o x among used shown.
          let w = watched_among observers place o among in
          subst (λ (n : NodeId). seen parts.work.rows (main n) ≡ Some x) (sym w.node)
          (can.shown w.one x w.among (sym w.used ∙ used) (sym w.shown ∙ shown));
    };
  }

set_length : {A : Type 0} (xs : List A) (i : ℕ) (y : A) → length (slice_set xs i y) ≡ length xs
set_length [] i y = refl
set_length (x ∷ xs) zero y = refl
set_length (x ∷ xs) (suc i) y = ap suc (set_length xs i y)

-- the front of the observers, with one ended in it
front_out : (observers : List Observer) (rooted place : ℕ) (node : NodeId) → place < rooted → looked_at (slice_get observers place) ≡ Some node
    → IsLeftOut node (in_use (take rooted observers)) (in_use (take rooted (slice_set observers place (ended node))))
front_out observers rooted place node below is = subst (λ (os : List Observer). IsLeftOut node (in_use (take rooted observers)) (in_use os))
    (sym (front_set observers rooted place (ended node) below))
    (left_out (take rooted observers) place node (ap looked_at (front_same observers rooted place below) ∙ is))

pub mains_among : (n : NodeId) (ns : List NodeId) → Among n ns → Among (main n) (map main ns)
mains_among n [] h = absurd h
mains_among n (m ∷ ns) (inl e) = inl (ap main e)
mains_among n (m ∷ ns) (inr h) = inr (mains_among n ns h)

-- a root of an observer that was there at the last round
pub is_root : (parts : Parts) (observers : List Observer) (rooted since : ℕ) (node : NodeId)
    → AreRooted parts.arena parts.work since (in_use (take rooted observers))
    → Among node (in_use (take rooted observers)) → 0 < root_times parts.work.graph.roots (main node)
is_root parts observers rooted since node roots among =
    let r = roots (main node) in
    let c = among_count (main node) (map main (in_use (take rooted observers))) (mains_among node (in_use (take rooted observers)) among) in
    omega (arith, r, c)

module _ (M : Meaning) (old new : Parts) (observers : List Observer) (rooted place since : ℕ)
    (refused : Option Refused) (sound : FitsInside M old observers rooted since refused) (node : NodeId)
    (is : looked_at (slice_get observers place) ≡ Some node) where
  -- an observer fewer that wasn't there at the last round
  pub sound_unmade : rooted ≤ place → FitsInside M old (slice_set observers place (ended node)) rooted since refused
  sound_unmade later = record {
    few = let l = set_length observers place (ended node) in omega (arith, l, sound.few);
    earlier = let l = set_length observers place (ended node) in omega (arith, l, sound.earlier);
    past = sound.past;
    kept = sound.kept;
    built = sound.built;
    inside = sound.inside;
    showing = λ o among used. elim (set_front observers rooted place (ended node) o among) [
      | inl is ↦ absurd (let off : true ≡ false = sym used ∙ ap (λ (q : Observer). q.in_use) is in cc)
      | inr old ↦ sound.showing o old used
    ];
    later = λ o among. elim (set_back observers rooted place (ended node) o among) [
      | inl is ↦ ap (λ (q : Observer). q.shown) is
      | inr old ↦ sound.later o old
    ];
    unbroken = λ whole. let can = sound.unbroken whole in
        let front : take rooted (slice_set observers place (ended node)) ≡ take rooted observers = front_stays observers rooted place (ended node) later in
        record {
          ready = can.ready;
          roots = subst (λ (os : List Observer). AreRooted old.arena old.work since (in_use os)) (sym front) can.roots;
          given = λ n among. can.given n (left_is_among node n (in_use observers) (in_use (slice_set observers place (ended node)))
              (left_out observers place node is) among);
          shown = λ o x among used shown. elim (set_among observers place (ended node) o among) [
            | inl is ↦ absurd (let off : true ≡ false = sym used ∙ ap (λ (q : Observer). q.in_use) is in cc)
            | inr old ↦ can.shown o x old used shown
          ];
        };
  }

  -- one fewer that was, whose root came off
  pub sound_ended : refused ≡ None → place < rooted → (IsReady M old → IsReady M new)
      → ((count : ℕ) (before after : List NodeId) → AreRooted old.arena old.work count (before ++ node ∷ after)
      → AreRooted new.arena new.work count (before ++ after))
      → new.arena ≡ old.arena → new.work.rows ≡ old.work.rows
      → FitsInside M new (slice_set observers place (ended node)) rooted since refused
  sound_ended still below ready roots arena rows = record {
    few = let l = set_length observers place (ended node) in omega (arith, l, sound.few);
    earlier = let l = set_length observers place (ended node) in omega (arith, l, sound.earlier);
    past = subst (λ (a : Arena). since ≤ a.given) (sym arena) sound.past;
    kept = (ready (sound.unbroken still).ready).kept;
    built = ready_built M new (ready (sound.unbroken still).ready);
    inside = (ready (sound.unbroken still).ready).inside;
    showing = λ o among used. elim (set_front observers rooted place (ended node) o among) [
      | inl is ↦ absurd (let off : true ≡ false = sym used ∙ ap (λ (q : Observer). q.in_use) is in cc)
      | inr old ↦ sound.showing o old used
    ];
    later = λ o among. elim (set_back observers rooted place (ended node) o among) [
      | inl is ↦ ap (λ (q : Observer). q.shown) is
      | inr old ↦ sound.later o old
    ];
    unbroken = λ whole. let can = sound.unbroken whole in
        let out = front_out observers rooted place node below is in
        record {
          ready = ready can.ready;
          roots = subst (AreRooted new.arena new.work since) (sym out.now)
              (roots since out.front out.back (subst (AreRooted old.arena old.work since) out.was can.roots));
          given = λ n among. subst (λ (a : Arena). Given a.given n) (sym arena)
              (can.given n (left_is_among node n (in_use observers) (in_use (slice_set observers place (ended node)))
              (left_out observers place node is) among));
          shown = λ o x among used shown. elim (set_among observers place (ended node) o among) [
            | inl is ↦ absurd (let off : true ≡ false = sym used ∙ ap (λ (q : Observer). q.in_use) is in cc)
            | inr old ↦ subst (λ (m : Rows Progress). seen m (main o.node) ≡ Some x) (sym rows) (can.shown o x old used shown)
          ];
        };
  }

-- ---- what calls answer

pub at_or_past : (n count : ℕ) → (n < count) ⊎ (count ≤ n)
at_or_past n zero = inr (omega arith)
at_or_past zero (suc count) = inl (omega arith)
at_or_past (suc n) (suc count) = elim (at_or_past n count) [ inl h ↦ inl (omega (arith, h)) | inr h ↦ inr (omega (arith, h)) ]

module _ (M : Meaning) (parts : Parts) (rooted since : ℕ) (refused : Option Refused) (old new : ObserversView)
    (sound : FitsInside M parts old.made rooted since refused) where
  pub observe_answer : (node : NodeId) → Given parts.arena.given node → (r : Result ObsId ObserveFault)
      → OnOk r (new.made ≡ old.made ++ new_observer node ∷ []) → IsErrOf r observe.TooMany ↔ (2 ^ 32 - 1 ≤ length old.made) → OnErr r (new ≡ old)
      → FitsInside M parts new.made rooted since refused
  observe_answer node given (Ok o) made many err = subst (λ (os : List Observer). FitsInside M parts os rooted since refused) (sym made)
      (sound_observed M parts old.made rooted since refused sound node
      (elim (at_or_past (length old.made) (2 ^ 32 - 1)) [ inl few ↦ few | inr past ↦ absurd (let e = many.1 past in cc) ]) given)
  observe_answer node given (Err e) made many err = subst (λ (v : ObserversView). FitsInside M parts v.made rooted since refused) (sym err) sound

  pub watch_answer : (place : ℕ) → (r : Result (Unit {0}) UseFault) → OnOk r (new.made ≡ watched place old.made) → OnErr r (new ≡ old)
      → FitsInside M parts new.made rooted since refused
  watch_answer place (Ok u) made err = subst (λ (os : List Observer). FitsInside M parts os rooted since refused) (sym made)
      (sound_watched M parts old.made rooted since refused sound place)
  watch_answer place (Err e) made err = subst (λ (v : ObserversView). FitsInside M parts v.made rooted since refused) (sym err) sound

-- a root fewer
pub roots_fewer : (old new : Roots) (p : Point) → OneRootMore new old p → (a : Point) → root_times new a ≤ root_times old a
roots_fewer old new p less a = elim (same_or_other p a) [
  | inl e ↦ subst (λ (x : Point). root_times new x ≤ root_times old x) e (let r = less.raised in omega (arith, r))
  | inr ne ↦ let o = less.others a (λ k. ne (sym k)) in omega (arith, o)
]
