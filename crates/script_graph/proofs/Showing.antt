-- Observers after a stabilize that was accepted, and what is told of them.
use Rattle.std.proofs.Common.{◌≡◌, ℕ, zero, suc, ◌+◌, List, [], ◌∷◌, ◌++◌, map, length, Option, None, Some, option_map, refl, ap, sym, subst, ◌∙◌, arith, slice_get}
use Rattle.std.specs.List.{AllZip}
use Rattle.inc_value.specs.declared.node.ObsId.{ObsId}
use Rattle.inc_value.specs.declared.outcome.Outcome.{Outcome as GraphOutcome}
use Rattle.inc_terms.specs.Same as engine
use Rattle.graph.specs.Standing.{GraphView, shows_now}
use Rattle.observers.specs.Observers as graph
use Rattle.observers.specs.Observers.{after, looked_at, notice_of, tells, told_by, told_of}
use Rattle.observers.specs.declared.notice.Told.{Told as Telling}
use Rattle.observers.specs.declared.observer.Observer.{Observer as Looking}
use Rattle.script_model.specs.Evaluate.{NameGives}
use Rattle.script_model.specs.Formula.{State, Body, Observer, Meanings, Told, body_at}
use Rattle.script_model.specs.Settle.{Notice, ShowAll, showing, notices_of}
use Rattle.script_model.specs.Values.{Outcome, same_outcome}
use Rattle.script_graph.specs.Kept.{Kept, node_in}
use Rattle.script_graph.specs.Represents.{graph_observer, graph_watch, there_in, IsObserver, Watches}
use Rattle.script_graph.specs.Stabilizing.{IsNotice}
use Rattle.script_graph.specs.Today.{IsDeclaredTarget, RefersTo}
use Rattle.script_graph.proofs.Referring.{outcome_refers_more}
use Rattle.script_graph.proofs.Told.{told_at, told_length, told_looked, none_told, after_is, last_told, zip_more, one_told}
use Rattle.transfer.specs.Both.{graph_outcome}

module _ (F : Meanings) (s : State) (k : Kept) (g : GraphView (Unit {0})) where
  -- what an observer shows then: what its target gives, which refers to what is declared, and the graph shows it; what was told of it last does, too, and
  -- is another outcome in the graph where it is another one in the script
  pub record ShowsThen (x : Observer) (p : Outcome) : Type 0 where
    pub gives : NameGives F s x.target p
    pub refers : RefersTo (IsDeclaredTarget s) p
    pub shown : shows_now g (node_in k.nodes x.target) ≡ graph_outcome (node_in k.nodes) p
    pub told : (was : Outcome) → x.watch ≡ Told was → RefersTo (IsDeclaredTarget s) was
    pub apart : (was : Outcome) → x.watch ≡ Told was
        → engine.same_outcome (graph_outcome (node_in k.nodes) was) (graph_outcome (node_in k.nodes) p) ≡ same_outcome was p

  -- so for each observer in use
  abbrev pub AllShow : List (Option Observer) → Type 0
  AllShow [] = Unit {0}
  AllShow (None ∷ made) = AllShow made
  AllShow (Some x ∷ made) = ((p : Outcome) × ShowsThen x p) × AllShow made

  pub all_show : (made : List (Option Observer)) → ((j : ℕ) (x : Observer) → slice_get made j ≡ Some (Some x) → (p : Outcome) × ShowsThen x p)
      → AllShow made
  all_show [] each = tt
  all_show (None ∷ made) each = all_show made (λ j x e. each (suc j) x e)
  all_show (Some x ∷ made) each = (each 0 x refl, all_show made (λ j y e. each (suc j) y e))

  -- the observers then
  abbrev pub made_then : (made : List (Option Observer)) → AllShow made → List (Option Observer)
  made_then [] all = []
  made_then (None ∷ made) all = None ∷ made_then made all
  made_then (Some x ∷ made) all = Some (showing x all.0.0) ∷ made_then made all.1

  -- what is told of them
  abbrev pub notices_then : (made : List (Option Observer)) → AllShow made → List Notice
  notices_then [] all = []
  notices_then (None ∷ made) all = notices_then made all
  notices_then (Some x ∷ made) all = notices_of x.name x.watch all.0.0 ++ notices_then made all.1

  pub length_then : (made : List (Option Observer)) (all : AllShow made) → length (made_then made all) ≡ length made
  length_then [] all = refl
  length_then (None ∷ made) all = ap suc (length_then made all)
  length_then (Some x ∷ made) all = ap suc (length_then made all.1)

  pub ended_then : (made : List (Option Observer)) (all : AllShow made) (j : ℕ) → slice_get (made_then made all) j ≡ Some None
      → slice_get made j ≡ Some None
  ended_then [] all j e = e
  ended_then (None ∷ made) all zero e = e
  ended_then (None ∷ made) all (suc j) e = ended_then made all j e
  ended_then (Some x ∷ made) all zero e = absurd (cc)
  ended_then (Some x ∷ made) all (suc j) e = ended_then made all.1 j e

  -- each was one before
  pub was_then : (made : List (Option Observer)) (all : AllShow made) (j : ℕ) (y : Observer) → slice_get (made_then made all) j ≡ Some (Some y)
      → (x : Observer) × (p : Outcome) × (slice_get made j ≡ Some (Some x)) × (y ≡ showing x p) × ShowsThen x p
  was_then [] all j y e = absurd (cc)
  was_then (None ∷ made) all zero y e = absurd (cc)
  was_then (None ∷ made) all (suc j) y e = was_then made all j y e
  was_then (Some x ∷ made) all zero y e = (x, all.0.0, refl, (cc), all.0.1)
  was_then (Some x ∷ made) all (suc j) y e = was_then made all.1 j y e

  -- and is one then
  pub still_then : (made : List (Option Observer)) (all : AllShow made) (j : ℕ) (x : Observer) → slice_get made j ≡ Some (Some x)
      → (p : Outcome) × (slice_get (made_then made all) j ≡ Some (Some (showing x p)))
  still_then [] all j x e = absurd (cc)
  still_then (None ∷ made) all zero x e = absurd (cc)
  still_then (None ∷ made) all (suc j) x e = still_then made all j x e
  still_then (Some y ∷ made) all zero x e = let same : y ≡ x = cc in (all.0.0, ap (λ (z : Observer). Some (Some (showing z all.0.0))) same)
  still_then (Some y ∷ made) all (suc j) x e = still_then made all.1 j x e

  -- each shows what its target gives, and tells it
  pub shows_then : (made : List (Option Observer)) (all : AllShow made)
      → ShowAll F s (there_in made) (there_in (made_then made all)) (notices_then made all)
  shows_then [] all = refl
  shows_then (None ∷ made) all = shows_then made all
  shows_then (Some x ∷ made) all = (all.0.0, notices_then made all.1, all.0.1.gives, refl, refl, shows_then made all.1)

  -- the names stay
  pub names_then : (made : List (Option Observer)) (all : AllShow made)
      → map (λ (o : Observer). o.name) (there_in (made_then made all)) ≡ map (λ (o : Observer). o.name) (there_in made)
  names_then [] all = refl
  names_then (None ∷ made) all = names_then made all
  names_then (Some x ∷ made) all = ap (λ (ns : List (List ℕ)). x.name ∷ ns) (names_then made all.1)

  -- ---- what is told

  module _ (then : State) (declared : (t : ℕ) → IsDeclaredTarget s t → IsDeclaredTarget then t) (whole : List (Option Observer)) where
    abbrev AreTold : ℕ → List Looking → List Notice → Type 0
    AreTold i os notices = AllZip (IsNotice then k.nodes whole) (graph.notices_of (shows_now g) i os) notices

    more : (p : Outcome) → RefersTo (IsDeclaredTarget s) p → RefersTo (IsDeclaredTarget then) p
    more p refers = outcome_refers_more (IsDeclaredTarget s) (IsDeclaredTarget then) declared p refers

    -- what the graph tells of those from the i-th on is what the script tells
    all_told : (i : ℕ) (made : List (Option Observer)) (all : AllShow made) (os : List Looking) → length made ≡ length os
        → ((j : ℕ) → slice_get made j ≡ Some None → looked_at (slice_get os j) ≡ None)
        → ((j : ℕ) (x : Observer) → slice_get made j ≡ Some (Some x) → slice_get os j ≡ Some (graph_observer (node_in k.nodes) x))
        → ((j : ℕ) (y : Observer) → slice_get (made_then made all) j ≡ Some (Some y) → slice_get whole (i + j) ≡ Some (Some y))
        → AreTold i os (notices_then made all)
    all_told i [] all [] same ended is at = tt
    all_told i [] all (o ∷ os) same ended is at = absurd (omega (arith, same))
    all_told i (x ∷ made) all [] same ended is at = absurd (omega (arith, same))
    all_told i (None ∷ made) all (o ∷ os) same ended is at =
        subst (λ (t : Option Telling). AllZip (IsNotice then k.nodes whole) (notice_of i t ++ graph.notices_of (shows_now g) (i + 1) os) (notices_then made all))
        (sym (none_told (shows_now g) o (ended 0 refl)))
        (all_told (i + 1) made all os (omega (arith, same)) (λ j e. ended (suc j) e) (λ j x e. is (suc j) x e)
        (λ j y e. let next : i + suc j ≡ (i + 1) + j = omega arith in ap (slice_get whole) (sym next) ∙ at (suc j) y e))
    all_told i (Some x ∷ made) all (o ∷ os) same ended is at =
        let p = all.0.0 in
        let shows = all.0.1 in
        let first : o ≡ graph_observer (node_in k.nodes) x = let e = is 0 x refl in cc in
        let told : told_of (shows_now g o.node) o ≡ tells (graph_watch (node_in k.nodes) x.watch) (graph_outcome (node_in k.nodes) p) =
        ap (λ (z : Looking). told_of (shows_now g z.node) z) first
        ∙ ap (λ (now : GraphOutcome). tells (graph_watch (node_in k.nodes) x.watch) now) shows.shown in
        let here : i + 0 ≡ i = omega arith in
        subst (λ (t : Option Telling). AllZip (IsNotice then k.nodes whole) (notice_of i t ++ graph.notices_of (shows_now g) (i + 1) os)
        (notices_of x.name x.watch p ++ notices_then made all.1)) (sym told)
        (zip_more (IsNotice then k.nodes whole) (notice_of i (tells (graph_watch (node_in k.nodes) x.watch) (graph_outcome (node_in k.nodes) p)))
        (graph.notices_of (shows_now g) (i + 1) os) (notices_of x.name x.watch p) (notices_then made all.1)
        (one_told then k.nodes whole i x p (ap (slice_get whole) (sym here) ∙ at 0 (showing x p) refl) (more p shows.refers) x.watch shows.apart
        (λ was e. more was (shows.told was e)))
        (all_told (i + 1) made all.1 os (omega (arith, same)) (λ j e. ended (suc j) e) (λ j y e. is (suc j) y e)
        (λ j y e. let next : i + suc j ≡ (i + 1) + j = omega arith in ap (slice_get whole) (sym next) ∙ at (suc j) y e)))

  module _ (w : Watches s k) (all : AllShow w.made) (then : State) (count : ℕ) (are : then.observers ≡ there_in (made_then w.made all))
      (stays : (n : ℕ) (b : Body) → body_at s n ≡ Some b → (d : Body) × (body_at then n ≡ Some d))
      (declared : (t : ℕ) → IsDeclaredTarget s t → IsDeclaredTarget then t)
      (same : g.observers ≡ told_by (shows_now g) k.graph.observers) where
    abbrev new : Kept
    new = record k { accepted = count; graph = g }

    pub slot_then : (o : ObsId) → slice_get g.observers o.0 ≡ option_map (λ (x : Looking). after (shows_now g x.node) x) (slice_get k.graph.observers o.0)
    slot_then o = ap (λ (os : List Looking). slice_get os o.0) same ∙ told_at (shows_now g) k.graph.observers o.0

    pub is_then : (o : ObsId) (x : Observer) (p : Outcome) → slice_get w.made o.0 ≡ Some (Some x) → ShowsThen x p
        → slice_get g.observers o.0 ≡ Some (graph_observer (node_in k.nodes) (showing x p))
    is_then o x p at shows =
        slot_then o
        ∙ (ap (option_map (λ (y : Looking). after (shows_now g y.node) y)) (w.observing o x at).is
        ∙ ap (λ (y : Looking). Some y) (ap (λ (now : GraphOutcome). after now (graph_observer (node_in k.nodes) x)) shows.shown
        ∙ after_is (node_in k.nodes) x p))

    pub looks_then : (o : ObsId) (x : Observer) (p : Outcome) → slice_get w.made o.0 ≡ Some (Some x) → ShowsThen x p → IsObserver then new o (showing x p)
    looks_then o x p at shows = record {
      is = is_then o x p at shows;
      target = let b = (w.observing o x at).target in stays x.target b.0 b.1;
      refers = λ q is. let one : p ≡ q = (let e : Some p ≡ Some q = is in cc) in
          subst (RefersTo (IsDeclaredTarget then)) one (outcome_refers_more (IsDeclaredTarget s) (IsDeclaredTarget then) declared p shows.refers);
      told = λ q is. subst (RefersTo (IsDeclaredTarget then)) (last_told x.watch p q is)
          (outcome_refers_more (IsDeclaredTarget s) (IsDeclaredTarget then) declared p shows.refers);
    }

    -- the observers are watched then
    abbrev pub watches_then : Watches then new
    watches_then = record {
      made = made_then w.made all;
      one_each = length_then w.made all ∙ (w.one_each ∙ sym (ap length same ∙ told_length (shows_now g) k.graph.observers));
      in_order = are;
      ended = λ o e. ap looked_at (slot_then o) ∙ (told_looked (shows_now g) (slice_get k.graph.observers o.0) ∙ w.ended o (ended_then w.made all o.0 e));
      observing = λ o y e.
          let r = was_then w.made all o.0 y e in
          subst (IsObserver then new o) (sym r.3) (looks_then o r.0 r.1 r.2 r.4);
      named = λ i o name at is.
          let r = w.named i o name at is in
          let a = still_then w.made all o.0 r.0 r.1 in
          (showing r.0 a.0, a.1, r.2);
      apart = λ o q y z e f names.
          let r = was_then w.made all o.0 y e in
          let t = was_then w.made all q.0 z f in
          w.apart o q r.0 t.0 r.2 t.2
          (sym (ap (λ (x : Observer). x.name) r.3) ∙ (names ∙ ap (λ (x : Observer). x.name) t.3));
    }

    -- what the graph tells is what the script tells
    pub told_then : AllZip (IsNotice then k.nodes (made_then w.made all)) (graph.notices_of (shows_now g) 0 k.graph.observers) (notices_then w.made all)
    told_then = all_told then declared (made_then w.made all) 0 w.made all k.graph.observers w.one_each (λ j e. w.ended (record { 0 = j }) e)
        (λ j x e. (w.observing (record { 0 = j }) x e).is) (λ j y e. let here : 0 + j ≡ j = omega arith in ap (slice_get (made_then w.made all)) here ∙ e)
