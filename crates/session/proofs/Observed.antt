-- What is kept once an observer is made, what the observer of a name shows, and faults that don't come.
use Rattle.std.proofs.Common.{◌≡◌, ◌⊎◌, inl, inr, ◌↔◌, ℕ, zero, suc, ◌+◌, ◌-◌, ◌<◌, ◌≤◌, ◌^◌, Bool, true, false, cond, not, nat_lt, ◌||◌, List, [], ◌∷◌, ◌++◌, length, take, Option, None, Some, IsSome, IsFalse, IsTrue, Result, Ok, Err, IfErr, IsErrOf, refl, ap, sym, subst, ◌∙◌, arith, position, swap_remove, slice_get, slice_index_or, slice_set}
use Rattle.std.proofs.Math.Seq.{get_or-append_seam, set-append_seam, take-append_seam}
use Rattle.std.proofs.lemmas.Bool.{lt-ltb}
use Rattle.std.proofs.lemmas.Slice.Eq.{bytes_eq-Decides}
use Rattle.std.specs.List.{list_any, position_or_len}
use Rattle.std.specs.Option.{option_map_or}
use Rattle.std.specs.Str.{bytes_eq}
use Rattle.indexmap.specs.IndexMap.{swap_remove_by}
use Rattle.formula_lang.specs.Fits.{ObserverFits}
use Rattle.graph.specs.Effects.{Observes, IsObserveFault, IsObserverFault}
use Rattle.graph.specs.Standing.{GraphView, IsUnbroken, IsBroken}
use Rattle.observers.specs.Observers.{new_observer, node_at, looked_at, shown_at}
use Rattle.graph.specs.declared.fault.GraphFault.{GraphFault}
use Rattle.graph.specs.declared.fault.GraphFault.TheVariants as fault
use Rattle.graph.specs.declared.fault.Kept.{Kept as Cause}
use Rattle.observers.specs.declared.observer.Observer.{Observer as Looking}
use Rattle.inc_terms.specs.Within.{Given}
use Rattle.inc_value.specs.Choice.{Among, NoRepeats}
use Rattle.inc_value.specs.declared.node.NodeId.{NodeId}
use Rattle.inc_value.specs.declared.node.ObsId.{ObsId}
use Rattle.inc_value.specs.declared.outcome.Outcome as engine
use Rattle.node_arena.specs.Arena.{Arena}
use Rattle.node_arena.specs.Sound.{IsSoundArena as IsSoundArena}
use Rattle.script_model.specs.Check.{Names, Declared, Kind, Grab, Observe, is_among}
use Rattle.script_model.specs.Formula.{Meanings}
use Rattle.script_model.specs.Step.{Moment, moved}
use Rattle.script_graph.specs.Kept.{Kept, arena_of, node_in, without_functions}
use Rattle.script_graph.specs.Sound.{AreFew, HasNode, HaveNodes, IsSoundSession}
use Rattle.script_graph.specs.Shown.{ShowsIt, ShowsNothing}
use Rattle.script_graph.specs.State.{MatchesMoment}
use Rattle.script_graph.proofs.Observing.{get_end, get_within, observing_stands, shows_it, shows_nothing, with_observer}
use Rattle.script_graph.proofs.Ending.{among_at}
use Rattle.session.specs.ObserverIds.{IsAbsent}

-- ---- a name that is put in use and taken out again

place_behind : (test : List ℕ → Bool) (names : List (List ℕ)) (name : List ℕ) → list_any test names ≡ false → test name ≡ true
    → position_or_len test (names ++ name ∷ []) ≡ length names
place_behind test [] name none is = rw is refl
place_behind test (x ∷ names) name none is = go (test x) none (λ e. place_behind test names name e is)
  where
    go : (b : Bool) → (b || list_any test names) ≡ false
        → (list_any test names ≡ false → position_or_len test (names ++ name ∷ []) ≡ length names)
        → cond (not b) (1 + position_or_len test (names ++ name ∷ [])) 0 ≡ suc (length names)
    go true e later = absurd (cc)
    go false e later = let rest = later e in omega (arith, rest)

length_more : {A : Type 0} (xs : List A) (y : A) → length (xs ++ y ∷ []) ≡ length xs + 1
length_more [] y = refl
length_more (x ∷ xs) y = let rest = length_more xs y in omega (arith, rest)

swap_last : (names : List (List ℕ)) (name d : List ℕ) → swap_remove (names ++ name ∷ []) (length names) d ≡ names
swap_last names name d =
    ap (λ (n : ℕ). take n (slice_set (names ++ name ∷ []) (length names) (slice_index_or (names ++ name ∷ []) n d))) length_is
    ∙ ap (λ (y : List ℕ). take (length names) (slice_set (names ++ name ∷ []) (length names) y)) (get_or-append_seam names name [] d)
    ∙ ap (take (length names)) (set-append_seam names name [] name)
    ∙ take-append_seam names (name ∷ [])
  where
    length_is : length (names ++ name ∷ []) - 1 ≡ length names
    length_is = let e = length_more names name in omega (arith, e)

pub by_position : (test : List ℕ → Bool) (names : List (List ℕ)) (i : ℕ) → position test names ≡ Some i
    → (d : List ℕ) × (swap_remove_by test names ≡ swap_remove names i d)
by_position test [] i e = absurd (cc)
by_position test (x ∷ names) i e = (x, ap (λ (o : Option ℕ). option_map_or (λ (j : ℕ). swap_remove (x ∷ names) j x) o (x ∷ names)) e)

same_bytes : (name : List ℕ) → bytes_eq name name ≡ true
same_bytes name = (bytes_eq-Decides name name).1 refl

-- a fresh name behind the others, taken out, leaves the others as they were
pub put_back : (names : List (List ℕ)) (name : List ℕ) → IsFalse (is_among names name)
    → swap_remove_by (bytes_eq name) (names ++ name ∷ []) ≡ names
put_back names name fresh =
    let found = by_position (bytes_eq name) (names ++ name ∷ []) (length names) at in
    found.1 ∙ swap_last names name found.0
  where
    less : length names < length (names ++ name ∷ [])
    less = let e = length_more names name in omega (arith, e)

    at : position (bytes_eq name) (names ++ name ∷ []) ≡ Some (length names)
    at =
        ap (λ (n : ℕ). cond (nat_lt n (length (names ++ name ∷ []))) (Some n) None)
        (place_behind (bytes_eq name) names name fresh (same_bytes name))
        ∙ ap (λ (b : Bool). cond b (Some (length names)) None) (lt-ltb (length names) (length (names ++ name ∷ [])) less)

or_true : (b c : Bool) → c ≡ true → (b || c) ≡ true
or_true true c e = refl
or_true false c e = e

-- the name that was put in use is in use
pub last_among : (names : List (List ℕ)) (name : List ℕ) → IsTrue (is_among (names ++ name ∷ []) name)
last_among [] name = rw (same_bytes name) refl
last_among (x ∷ names) name = or_true (bytes_eq name x) (is_among (names ++ name ∷ []) name) (last_among names name)

-- without memory for the observer all is as it was
pub as_before : (k : Kept) (sound : IsSoundSession k) (name : List ℕ) (between after : Names) (os : List ObsId) (g : GraphView (Unit {0}))
    → IsFalse (is_among k.names.observers name) → between ≡ record k.names { observers = k.names.observers ++ name ∷ [] }
    → after ≡ record between { observers = swap_remove_by (bytes_eq name) between.observers } → os ≡ k.observers → g ≡ k.graph
    → record k { names = after; observers = os; graph = g } ≡ k
as_before k sound name between after os g fresh between_is after_is os_is g_is =
    let names_back : after ≡ k.names = after_is ∙ ap (λ (n : Names). record n { observers = swap_remove_by (bytes_eq name) n.observers }) between_is
    ∙ ap (λ (l : List (List ℕ)). record k.names { observers = l }) (put_back k.names.observers name fresh) in
    rw (names_back, os_is, g_is) refl

-- and it fits together still
pub as_before_sound : (k : Kept) (sound : IsSoundSession k) (name : List ℕ) (between after : Names) (os : List ObsId) (g : GraphView (Unit {0}))
    → IsFalse (is_among k.names.observers name) → between ≡ record k.names { observers = k.names.observers ++ name ∷ [] }
    → after ≡ record between { observers = swap_remove_by (bytes_eq name) between.observers } → os ≡ k.observers → g ≡ k.graph
    → IsSoundSession (record k { names = after; observers = os; graph = g })
as_before_sound k sound name between after os g fresh between_is after_is os_is g_is =
    subst IsSoundSession (sym (as_before k sound name between after os g fresh between_is after_is os_is g_is)) sound

-- ---- lists by places

among_push : {A : Type 0} (xs : List A) (y x : A) → Among x (xs ++ y ∷ []) → Among x xs ⊎ (x ≡ y)
among_push [] y x (inl e) = inr e
among_push [] y x (inr none) = absurd none
among_push (z ∷ xs) y x (inl e) = inl (inl e)
among_push (z ∷ xs) y x (inr a) = go (among_push xs y x a)
  where
    go : Among x xs ⊎ (x ≡ y) → Among x (z ∷ xs) ⊎ (x ≡ y)
    go (inl b) = inl (inr b)
    go (inr e) = inr e

apart_push : {A : Type 0} (xs : List A) (y : A) → NoRepeats xs → (Among y xs → ⊥) → NoRepeats (xs ++ y ∷ [])
apart_push [] y apart new = (λ a. a, tt)
apart_push (x ∷ xs) y apart new = (λ a. go (among_push xs y x a), apart_push xs y apart.1 (λ a. new (inr a)))
  where
    go : Among x xs ⊎ (x ≡ y) → ⊥
    go (inl a) = apart.0 a
    go (inr e) = new (inl (sym e))

looks_within : (os : List Looking) (i : ℕ) → IsSome (looked_at (slice_get os i)) → i < length os
looks_within [] i h = absurd (cc)
looks_within (o ∷ os) zero h = omega arith
looks_within (o ∷ os) (suc i) h = let rest = looks_within os i h in omega (arith, rest)

-- a number that is given next is that of none
pub later_absent : (k : Kept) → IsSoundSession k → (p : ObsId) → p.0 ≡ length k.graph.observers → IsAbsent k.observers p
later_absent k sound p at i is =
    let less = looks_within k.graph.observers p.0 (sound.looking p (among_at k.observers i p is)) in absurd (omega (arith, less, at))

-- ---- a target's node

-- the node at a declaration's place was given
target_given : (k : Kept) → IsSoundSession k → IsSoundArena (arena_of k) → (target : ℕ) → target < length k.names.declared
    → Given (arena_of k).given (node_in k.nodes target)
target_given k sound arena target less = given_of declared.0 declared.1
  where
    declared : (d : Declared) × (slice_get k.names.declared target ≡ Some d)
    declared = there k.names.declared target less
      where
        there : (ds : List Declared) (i : ℕ) → i < length ds → (d : Declared) × (slice_get ds i ≡ Some d)
        there [] i within = absurd (omega (arith, within))
        there (d ∷ ds) zero within = (d, refl)
        there (d ∷ ds) (suc i) within = there ds i (omega (arith, within))

    is_grab : (k : Kind) → (k ≡ Grab) ⊎ (k ≡ Grab → ⊥)
    is_grab Grab = inl refl
    is_grab other = inr (λ is. absurd (cc))

    -- of one that stands for itself: a live node was given, and so was a grab's
    of_itself : (n : ℕ) (d : Declared) → HasNode (arena_of k) k.names.declared k.nodes n d → d.target ≡ n → Given (arena_of k).given (node_in k.nodes n)
    of_itself n d has itself = go (is_grab d.kind)
      where
        go : (d.kind ≡ Grab) ⊎ (d.kind ≡ Grab → ⊥) → Given (arena_of k).given (node_in k.nodes n)
        go (inl grab) = (has.grab itself grab).0
        go (inr no_grab) = arena.given (node_in k.nodes n) (rw (has.live itself no_grab).is_row refl)

    given_of : (d : Declared) → slice_get k.names.declared target ≡ Some d → Given (arena_of k).given (node_in k.nodes target)
    given_of d is =
        let t = (sound.has_nodes target d is).target in
        subst (Given (arena_of k).given) t.node (of_itself d.target t.target (sound.has_nodes d.target t.target t.is_target) t.itself)

-- the node that stands at a target's place
pub target_node : (nodes : List NodeId) (target : ℕ) (node : NodeId) → slice_get nodes target ≡ Some node → node ≡ node_in nodes target
target_node [] target node is = absurd (cc)
target_node (n ∷ nodes) zero node is = cc
target_node (n ∷ nodes) (suc target) node is = target_node nodes target node is

-- it was given
pub given_node : (k : Kept) → IsSoundSession k → IsSoundArena (arena_of k) → (target : ℕ) → target < length k.names.declared → (node : NodeId)
    → slice_get k.nodes target ≡ Some node → Given (arena_of k).given node
given_node k sound arena target less node is =
    subst (Given (arena_of k).given) (sym (target_node k.nodes target node is)) (target_given k sound arena target less)

-- a graph that is observed, but for its functions
pub observes_so : {F : Type 0} (old new : GraphView F) (o : ObsId) (node other : NodeId) → Observes old new o node → node ≡ other
    → Observes (without_functions old) (without_functions new) o other
observes_so old new o node other h same = record {
  id = h.id;
  rest = ap without_functions h.rest
      ∙ ap (λ (n : NodeId). record (without_functions old) { observers = old.observers ++ new_observer n ∷ [] }) same;
}

-- ---- what is kept with a new observer

module _ (k : Kept) (name : List ℕ) (target : ℕ) (o : ObsId) (g : GraphView (Unit {0})) (sound : IsSoundSession k)
    (observes : Observes k.graph g o (node_in k.nodes target)) where
  observers_more : g.observers ≡ k.graph.observers ++ new_observer (node_in k.nodes target) ∷ []
  observers_more = ap (λ (h : GraphView (Unit {0})). h.observers) observes.rest

  arena_same : g.nodes ≡ arena_of k
  arena_same = ap (λ (h : GraphView (Unit {0})). h.nodes) observes.rest

  looks_old : (p : ObsId) → Among p k.observers → IsSome (node_at g.observers p)
  looks_old p among =
      let looks = sound.looking p among in
      subst (λ (n : Option NodeId). IsSome n) (sym (same (looks_within k.graph.observers p.0 looks))) looks
    where
      same : p.0 < length k.graph.observers → node_at g.observers p ≡ node_at k.graph.observers p
      same less = rw observers_more (ap looked_at (get_within k.graph.observers (new_observer (node_in k.nodes target) ∷ []) p.0 less))

  looks_new : (p : ObsId) → p.0 ≡ length k.graph.observers → IsSome (node_at g.observers p)
  looks_new p at =
      rw (observers_more, at, get_end k.graph.observers (new_observer (node_in k.nodes target))) refl

  new_id : Among o k.observers → ⊥
  new_id among = let less = looks_within k.graph.observers o.0 (sound.looking o among) in let id = observes.id in absurd (omega (arith, less, id))

  sound_observed : IsSoundSession (with_observer k name o g)
  sound_observed = record {
    one_node_each = sound.one_node_each;
    has_nodes = subst (λ (a : Arena). HaveNodes a k.names.declared k.nodes) (sym arena_same) sound.has_nodes;
    few = subst (λ (a : Arena). AreFew k.bodies a k.room) (sym arena_same) sound.few;
    one_observer_each = length_more k.observers o ∙ ap (λ (n : ℕ). n + 1) sound.one_observer_each ∙ sym (length_more k.names.observers name);
    looking = λ p among. looks p (among_push k.observers o p among);
    apart = apart_push k.observers o sound.apart new_id;
    unbroken = λ e. ap (λ (h : GraphView (Unit {0})). h.refused) observes.rest ∙ sound.unbroken e;
    clock = ap (λ (a : Arena). a.time) arena_same ∙ sound.clock;
  }
    where
      looks : (p : ObsId) → Among p k.observers ⊎ (p ≡ o) → IsSome (node_at g.observers p)
      looks p (inl among) = looks_old p among
      looks p (inr e) = looks_new p (ap (λ (q : ObsId). q.0) e ∙ observes.id)

  module _ (names : Names) (os : List ObsId) (names_are : names ≡ record k.names { observers = k.names.observers ++ name ∷ [] })
      (os_are : os ≡ k.observers ++ o ∷ []) where
    -- what is kept fits together
    pub observed_sound : IsSoundSession (record k { names = names; observers = os; graph = g })
    observed_sound = rw (names_are, os_are) sound_observed

    -- and it matches the moment with an observer more
    pub observed_stands : k.broken ≡ None → ObserverFits k.names name target → k.graph.rooted ≤ length k.graph.observers
        → (F : Meanings) (m : Moment) → MatchesMoment F k m → MatchesMoment F (record k { names = names; observers = os; graph = g }) (moved m (Observe name target))
    observed_stands unbroken fits rooted F m stands =
        rw (names_are, os_are) (observing_stands F k m name target o g stands (stands.broken ∙ unbroken) fits.fresh fits.earlier sound.one_observer_each
        rooted observes)

-- ---- faults that don't come

module _ {F : Type 0} (s : GraphView F) (unbroken : IsUnbroken s) where
  -- it isn't broken
  pub not_broken : (cause : Cause) → IsBroken s cause → ⊥
  not_broken cause broken = let is = broken.1 in let none = unbroken in absurd (cc)

  -- a given node isn't observed for want of memory alone, while there are few observers
  only_memory : (r : Result ObsId GraphFault) (e : GraphFault) (node : NodeId) → r ≡ Err e → IfErr r IsObserveFault
      → ((cause : Cause) → IsErrOf r (fault.Broken cause) ↔ IsBroken s cause)
      → (IsErrOf r fault.Unknown ↔ (IsUnbroken s × ¬ Given s.nodes.given node))
      → (IsErrOf r fault.TooMany ↔ (IsUnbroken s × (Given s.nodes.given node × (2 ^ 32 - 1 ≤ length s.observers))))
      → Given s.nodes.given node → length s.observers < 2 ^ 32 - 1 → e ≡ fault.Memory
  only_memory r e node is observing broken unknown too_many given few = go (subst (λ (q : Result ObsId GraphFault). IfErr q IsObserveFault) is observing)
    where
      by : {x : GraphFault} → e ≡ x → IsErrOf r x
      by {x} same = is ∙ ap (λ (y : GraphFault). Err y) same

      go : IsObserveFault e → e ≡ fault.Memory
      go (inl b) = absurd (not_broken b.0 ((broken b.0).0 (by b.1)))
      go (inr (inl u)) = absurd ((unknown.0 (by u)).1 given)
      go (inr (inr (inl t))) = let many = (too_many.0 (by t)).1.1 in absurd (omega (arith, many, few))
      go (inr (inr (inr m))) = m

  -- so where it isn't observed, memory was wanting
  pub memory_wanting : (r : Result ObsId GraphFault) (node : NodeId) → IfErr r IsObserveFault
      → ((cause : Cause) → IsErrOf r (fault.Broken cause) ↔ IsBroken s cause)
      → (IsErrOf r fault.Unknown ↔ (IsUnbroken s × ¬ Given s.nodes.given node))
      → (IsErrOf r fault.TooMany ↔ (IsUnbroken s × (Given s.nodes.given node × (2 ^ 32 - 1 ≤ length s.observers))))
      → Given s.nodes.given node → length s.observers < 2 ^ 32 - 1 → IfErr r (λ e. e ≡ fault.Memory)
  memory_wanting (Ok o) node observing broken unknown too_many given few = tt
  memory_wanting (Err e) node observing broken unknown too_many given few =
      only_memory (Err e) e node refl observing broken unknown too_many given few

  -- an observer in use isn't asked in vain, but that it shows nothing yet
  pub only_later : {T : Type 0} (r : Result T GraphFault) (e : GraphFault) (o : ObsId) → r ≡ Err e → IfErr r IsObserverFault
      → ((cause : Cause) → IsErrOf r (fault.Broken cause) ↔ IsBroken s cause)
      → (IsErrOf r fault.Unknown ↔ (IsUnbroken s × (node_at s.observers o ≡ None)))
      → (IsErrOf r fault.NotStabilized ↔ (IsUnbroken s × IsSome (node_at s.observers o) × (shown_at s.observers o ≡ None)))
      → IsSome (node_at s.observers o) → shown_at s.observers o ≡ None
  only_later {T} r e o is telling broken unknown not_shown looks = go (subst (λ (q : Result T GraphFault). IfErr q IsObserverFault) is telling)
    where
      by : {x : GraphFault} → e ≡ x → IsErrOf r x
      by {x} same = is ∙ ap (λ (y : GraphFault). Err y) same

      go : IsObserverFault e → shown_at s.observers o ≡ None
      go (inl b) = absurd (not_broken b.0 ((broken b.0).0 (by b.1)))
      go (inr (inl u)) = let none = (unknown.0 (by u)).1 in let h = subst (λ (n : Option NodeId). IsSome n) none looks in absurd (cc)
      go (inr (inr n)) = (not_shown.0 (by n)).2

-- ---- what the observer of a name shows

module _ (k : Kept) (sound : IsSoundSession k) (name : List ℕ) (i : ℕ) (o : ObsId) (at_id : slice_get k.observers i ≡ Some o)
    (at_name : slice_get k.names.observers i ≡ Some name) where
  looks : IsSome (node_at k.graph.observers o)
  looks = sound.looking o (among_at k.observers i o at_id)

  -- what the graph tells
  pub told_shows : (out : engine.Outcome) → shown_at k.graph.observers o ≡ Some out
      → (F : Meanings) (m : Moment) → MatchesMoment F k m → ShowsIt (node_in k.nodes) m.present name out
  told_shows out told F m stands = shows_it F k m stands i o name at_id at_name out told

  -- nothing, where it refuses to tell
  pub untold_shows : k.broken ≡ None → {T : Type 0} (r : Result T GraphFault) (e : GraphFault) → r ≡ Err e → IfErr r IsObserverFault
      → ((cause : Cause) → IsErrOf r (fault.Broken cause) ↔ IsBroken k.graph cause)
      → (IsErrOf r fault.Unknown ↔ (IsUnbroken k.graph × (node_at k.graph.observers o ≡ None)))
      → (IsErrOf r fault.NotStabilized ↔ (IsUnbroken k.graph × IsSome (node_at k.graph.observers o) × (shown_at k.graph.observers o ≡ None)))
      → (F : Meanings) (m : Moment) → MatchesMoment F k m → ShowsNothing m.present name
  untold_shows unbroken r e is telling broken unknown not_shown F m stands =
      shows_nothing F k m stands i o name at_id at_name
      (only_later k.graph (sound.unbroken unbroken) r e o is telling broken unknown not_shown looks)
