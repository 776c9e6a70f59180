-- An observer that is watched from now on.
use Rattle.std.proofs.Common.{◌≡◌, inl, inr, ℕ, zero, suc, Bool, true, false, cond, List, [], ◌∷◌, map, length, Option, None, Some, IsSome, option_map, refl, ap, sym, subst, ◌∙◌, arith, slice_get}
use Rattle.std.proofs.lemmas.Slice.Eq.{bytes_eq-Decides}
use Rattle.std.specs.Str.{bytes_eq}
use Rattle.graph.specs.Effects.{Watches as Watching}
use Rattle.graph.specs.Standing.{GraphView, graph, called_last, cutoff_of, is_marked, times_linked}
use Rattle.inc_terms.specs.Need.{IsUnfrozen}
use Rattle.inc_value.specs.Choice.{Among}
use Rattle.inc_value.specs.declared.node.NodeId.{NodeId}
use Rattle.inc_value.specs.declared.node.ObsId.{ObsId}
use Rattle.node_arena.specs.Arena.{Arena, row_at}
use Rattle.observers.specs.Observers as observers
use Rattle.observers.specs.Observers.{begun, looked_at, node_at, watch_from}
use Rattle.observers.specs.declared.observer.Observer.{Observer as Looking}
use Rattle.script_model.specs.Check.{Watch as WatchIt, is_among}
use Rattle.script_model.specs.Formula.{State, Observer, Watch, Meanings, Unwatched, Fresh, Told, body_at}
use Rattle.script_model.specs.Need.{Named, roots}
use Rattle.script_model.specs.Step.{Moment, moved, watched, with_watch}
use Rattle.script_model.specs.Values.{Outcome}
use Rattle.script_graph.specs.Kept.{Kept, node_in}
use Rattle.script_graph.specs.Represents.{graph_observer, graph_watch, there_in, IsObserver, Watches}
use Rattle.script_graph.specs.Settled.{ScopesBuilt, ShownWereRoots, StillDeclares}
use Rattle.script_graph.specs.Sound.{AreFew, HaveNodes, IsSoundSession}
use Rattle.script_graph.specs.State.{MatchesMoment}
use Rattle.script_graph.proofs.Carrying.{LeavesBeside, LeavesMarks, leaves_marks, settled_so}
use Rattle.script_graph.proofs.Held.{rooted_still}
use Rattle.script_graph.proofs.Same.{represents_so}

-- ---- lists in which one begins to be watched

watched_here : (os : List Looking) (i : ℕ) → slice_get (observers.watched i os) i ≡ option_map begun (slice_get os i)
watched_here [] i = refl
watched_here (o ∷ os) zero = refl
watched_here (o ∷ os) (suc i) = watched_here os i

watched_other : (os : List Looking) (i j : ℕ) → (j ≡ i → ⊥) → slice_get (observers.watched i os) j ≡ slice_get os j
watched_other [] i j ne = refl
watched_other (o ∷ os) zero zero ne = absurd (ne refl)
watched_other (o ∷ os) zero (suc j) ne = refl
watched_other (o ∷ os) (suc i) zero ne = refl
watched_other (o ∷ os) (suc i) (suc j) ne = watched_other os i j (λ e. ne (ap suc e))

pub watched_length : (os : List Looking) (i : ℕ) → length (observers.watched i os) ≡ length os
watched_length [] i = refl
watched_length (o ∷ os) zero = refl
watched_length (o ∷ os) (suc i) = ap suc (watched_length os i)

-- who looks at what stays
watched_looked : (os : List Looking) (i j : ℕ) → looked_at (slice_get (observers.watched i os) j) ≡ looked_at (slice_get os j)
watched_looked [] i j = refl
watched_looked (o ∷ os) zero zero = refl
watched_looked (o ∷ os) zero (suc j) = refl
watched_looked (o ∷ os) (suc i) zero = refl
watched_looked (o ∷ os) (suc i) (suc j) = watched_looked os i j

there_map : {A : Type 0} (f : A → A) (made : List (Option A)) → there_in (map (option_map f) made) ≡ map f (there_in made)
there_map f [] = refl
there_map f (None ∷ made) = there_map f made
there_map f (Some x ∷ made) = ap (λ (xs : List _). f x ∷ xs) (there_map f made)

length_map : {A B : Type 0} (f : A → B) (xs : List A) → length (map f xs) ≡ length xs
length_map f [] = refl
length_map f (x ∷ xs) = ap suc (length_map f xs)

get_map : {A B : Type 0} (f : A → B) (xs : List A) (j : ℕ) → slice_get (map f xs) j ≡ option_map f (slice_get xs j)
get_map f [] j = refl
get_map f (x ∷ xs) zero = refl
get_map f (x ∷ xs) (suc j) = get_map f xs j

-- ---- of a script

-- an observer that is watched from now on is so in the graph
begun_is : (nodes : ℕ → NodeId) (x : Observer) → begun (graph_observer nodes x) ≡ graph_observer nodes (record x { watch = watched x.watch })
begun_is nodes x =
    λ i. record { node = nodes x.target; in_use = true; shown = (graph_observer nodes x).shown; watch = from x.watch i }
  where
    from : (w : Watch) → watch_from (graph_watch nodes w) ≡ graph_watch nodes (watched w)
    from Unwatched = refl
    from Fresh = refl
    from (Told p) = refl

was_told : (w : Watch) (p : Outcome) → watched w ≡ Told p → w ≡ Told p
was_told Unwatched p e = absurd (cc)
was_told Fresh p e = e
was_told (Told q) p e = e

-- of an observer but how it is watched nothing changes
pub record IsAsBefore (x y : Observer) : Type 0 where
  pub name : y.name ≡ x.name
  pub target : y.target ≡ x.target
  pub shown : y.shown ≡ x.shown

as_before : (name : List ℕ) (x : Observer) → IsAsBefore x (with_watch name x)
as_before name x = go (bytes_eq name x.name)
  where
    go : (b : Bool) → IsAsBefore x (cond b (record x { watch = watched x.watch }) x)
    go true = record { name = refl; target = refl; shown = refl }
    go false = record { name = refl; target = refl; shown = refl }

told_before : (name : List ℕ) (x : Observer) (p : Outcome) → (with_watch name x).watch ≡ Told p → x.watch ≡ Told p
told_before name x p = go (bytes_eq name x.name)
  where
    go : (b : Bool) → (cond b (record x { watch = watched x.watch }) x).watch ≡ Told p → x.watch ≡ Told p
    go true e = was_told x.watch p e
    go false e = e

names_stay : (name : List ℕ) (os : List Observer) → map (λ (o : Observer). o.name) (map (with_watch name) os) ≡ map (λ (o : Observer). o.name) os
names_stay name [] = refl
names_stay name (x ∷ os) = λ i. (as_before name x).name i ∷ names_stay name os i

among_before : (f : Observer → Observer) (x : Observer) (os : List Observer) → Among x (map f os) → (y : Observer) × Among y os × (x ≡ f y)
among_before f x [] among = absurd among
among_before f x (y ∷ os) (inl e) = (y, inl refl, e)
among_before f x (y ∷ os) (inr among) = let r = among_before f x os among in (r.0, inr r.1, r.2)

-- ---- watching one

module _ (k : Kept) (o : ObsId) (g : GraphView (Unit {0})) (watches : Watching k.graph g o) where
  abbrev new : Kept
  new = record k { graph = g }

  observers_are : g.observers ≡ observers.watched o.0 k.graph.observers
  observers_are = ap (λ (h : GraphView (Unit {0})). h.observers) watches.rest

  nodes_same : g.nodes ≡ k.graph.nodes
  nodes_same = ap (λ (h : GraphView (Unit {0})). h.nodes) watches.rest

  looks_same : (p : ObsId) → node_at g.observers p ≡ node_at k.graph.observers p
  looks_same p = ap (λ (os : List Looking). node_at os p) observers_are ∙ watched_looked k.graph.observers o.0 p.0

  -- what is kept fits together still
  pub watching_sound : IsSoundSession k → IsSoundSession new
  watching_sound sound = record {
    one_node_each = sound.one_node_each;
    has_nodes = subst (λ (a : Arena). HaveNodes a k.names.declared k.nodes) (sym nodes_same) sound.has_nodes;
    few = subst (λ (a : Arena). AreFew k.bodies a k.room) (sym nodes_same) sound.few;
    one_observer_each = sound.one_observer_each;
    looking = λ p among. subst (λ (n : Option NodeId). IsSome n) (sym (looks_same p)) (sound.looking p among);
    apart = sound.apart;
    unbroken = λ e. ap (λ (h : GraphView (Unit {0})). h.refused) watches.rest ∙ sound.unbroken e;
    clock = ap (λ (a : Arena). a.time) nodes_same ∙ sound.clock;
  }

  module _ (name : List ℕ) (i : ℕ) (at_id : slice_get k.observers i ≡ Some o) (at_name : slice_get k.names.observers i ≡ Some name)
      (F : Meanings) (m : Moment) (stands : MatchesMoment F k m) where
    abbrev s : State
    s = m.present

    abbrev then : State
    then = record s { observers = map (with_watch name) s.observers }

    w : Watches s k
    w = stands.watches

    -- the one that is watched now
    the_one : (x : Observer) × (slice_get w.made o.0 ≡ Some (Some x)) × (x.name ≡ name)
    the_one = w.named i o name at_id at_name

    slot_here : slice_get g.observers o.0 ≡ option_map begun (slice_get k.graph.observers o.0)
    slot_here = ap (λ (os : List Looking). slice_get os o.0) observers_are ∙ watched_here k.graph.observers o.0

    slot_other : (p : ObsId) → (p.0 ≡ o.0 → ⊥) → slice_get g.observers p.0 ≡ slice_get k.graph.observers p.0
    slot_other p ne = ap (λ (os : List Looking). slice_get os p.0) observers_are ∙ watched_other k.graph.observers o.0 p.0 ne

    is_now : (p : ObsId) (x : Observer) → slice_get w.made p.0 ≡ Some (Some x) → (b : Bool) → bytes_eq name x.name ≡ b
        → slice_get g.observers p.0 ≡ Some (graph_observer (node_in k.nodes) (cond b (record x { watch = watched x.watch }) x))
    is_now p x at true is =
        let same : p ≡ o = w.apart p o x the_one.0 at the_one.1 (sym ((bytes_eq-Decides name x.name).0 is) ∙ sym the_one.2) in
        ap (λ (q : ObsId). slice_get g.observers q.0) same ∙ (slot_here
        ∙ (ap (λ (q : ObsId). option_map begun (slice_get k.graph.observers q.0)) (sym same)
        ∙ (ap (option_map begun) (w.observing p x at).is ∙ ap (λ (y : Looking). Some y) (begun_is (node_in k.nodes) x))))
    is_now p x at false is = slot_other p other ∙ (w.observing p x at).is
      where
        other : p.0 ≡ o.0 → ⊥
        other e =
            let here : slice_get w.made o.0 ≡ Some (Some x) = ap (slice_get w.made) (sym e) ∙ at in
            let one : x ≡ the_one.0 = let f = sym here ∙ the_one.1 in cc in
            let named : bytes_eq name x.name ≡ true =
            (bytes_eq-Decides name x.name).1 (sym the_one.2 ∙ ap (λ (y : Observer). y.name) (sym one)) in
            let clash : true ≡ false = sym named ∙ is in cc

    observer_now : (p : ObsId) (x : Observer) → slice_get w.made p.0 ≡ Some (Some x) → IsObserver then new p (with_watch name x)
    observer_now p x at =
        let h = w.observing p x at in
        let b = as_before name x in
        record {
          is = is_now p x at (bytes_eq name x.name) refl;
          target = (h.target.0, ap (body_at s) b.target ∙ h.target.1);
          refers = λ q is. h.refers q (sym b.shown ∙ is);
          told = λ q is. h.told q (told_before name x q is);
        }

    made_now : (p : ObsId) (r : Option Observer) → slice_get (map (option_map (with_watch name)) w.made) p.0 ≡ Some r
        → (x : Option Observer) × (slice_get w.made p.0 ≡ Some x) × (r ≡ option_map (with_watch name) x)
    made_now p r at = go (slice_get w.made p.0) refl (sym (get_map (option_map (with_watch name)) w.made p.0) ∙ at)
      where
        go : (x : Option (Option Observer)) → slice_get w.made p.0 ≡ x → option_map (option_map (with_watch name)) (slice_get w.made p.0) ≡ Some r
            → (z : Option Observer) × (slice_get w.made p.0 ≡ Some z) × (r ≡ option_map (with_watch name) z)
        go None is e = absurd (let f = sym (ap (option_map (option_map (with_watch name))) is) ∙ e in cc)
        go (Some z) is e =
            let f : Some (option_map (with_watch name) z) ≡ Some r = sym (ap (option_map (option_map (with_watch name))) is) ∙ e in (z, is, sym (cc))

    -- one that is there now was so
    was_there : (p : ObsId) (y : Observer) → slice_get (map (option_map (with_watch name)) w.made) p.0 ≡ Some (Some y)
        → (x : Observer) × (slice_get w.made p.0 ≡ Some (Some x)) × (y ≡ with_watch name x)
    was_there p y at = let r = made_now p (Some y) at in go r.0 r.1 r.2
      where
        go : (z : Option Observer) → slice_get w.made p.0 ≡ Some z → Some y ≡ option_map (with_watch name) z
            → (x : Observer) × (slice_get w.made p.0 ≡ Some (Some x)) × (y ≡ with_watch name x)
        go None is e = absurd (cc)
        go (Some x) is e = (x, is, cc)

    was_ended : (p : ObsId) → slice_get (map (option_map (with_watch name)) w.made) p.0 ≡ Some None → slice_get w.made p.0 ≡ Some None
    was_ended p at = let r = made_now p None at in go r.0 r.1 r.2
      where
        go : (z : Option Observer) → slice_get w.made p.0 ≡ Some z → None ≡ option_map (with_watch name) z → slice_get w.made p.0 ≡ Some None
        go None is e = is
        go (Some x) is e = absurd (cc)

    watching : Watches then new
    watching = record {
      made = map (option_map (with_watch name)) w.made;
      one_each = length_map (option_map (with_watch name)) w.made
          ∙ (w.one_each ∙ sym (ap length observers_are ∙ watched_length k.graph.observers o.0));
      in_order = ap (map (with_watch name)) w.in_order ∙ sym (there_map (with_watch name) w.made);
      ended = λ p at. looks_same p ∙ w.ended p (was_ended p at);
      observing = λ p y at. let r = was_there p y at in subst (IsObserver then new p) (sym r.2) (observer_now p r.0 r.1);
      named = λ j p n at is.
          let r = w.named j p n at is in (
            with_watch name r.0,
            get_map (option_map (with_watch name)) w.made p.0 ∙ ap (option_map (option_map (with_watch name))) r.1,
            (as_before name r.0).name ∙ r.2,
          );
      apart = λ p q y z at also same.
          let r = was_there p y at in
          let t = was_there q z also in
          w.apart p q r.0 t.0 r.1 t.1 (sym (ap (λ (x : Observer). x.name) r.2 ∙ (as_before name r.0).name)
          ∙ (same ∙ (ap (λ (x : Observer). x.name) t.2 ∙ (as_before name t.0).name)));
    }

    leaves : LeavesBeside k new
    leaves = record {
      rooted = λ p n at. rooted_still g k.graph p (sym (ap (λ (h : GraphView (Unit {0})). h.rooted) watches.rest)) (sym (looks_same p)) n at;
      since = ap (λ (h : GraphView (Unit {0})). h.since) watches.rest;
      unfrozen = λ n given. subst (λ (h : GraphView (Unit {0})). IsUnfrozen (graph h) n → IsUnfrozen (graph k.graph) n) (sym watches.rest) (λ u. u);
      fewer = λ p q. let same = ap (λ (h : GraphView (Unit {0})). times_linked h p q) watches.rest in omega (arith, same);
      given = let same = ap (λ (a : Arena). a.given) nodes_same in omega (arith, same);
      last = λ n given. ap (λ (h : GraphView (Unit {0})). called_last h n) watches.rest;
      no_more_cutoffs = λ n equal. ap (λ (h : GraphView (Unit {0})). cutoff_of h n) watches.rest ∙ equal;
    }

    built_same : (b : NodeId) → (graph g).built b ≡ (graph k.graph).built b
    built_same b = ap (λ (h : GraphView (Unit {0})). (graph h).built b) watches.rest

    marks_still : LeavesMarks s then k new
    marks_still = leaves_marks s then k new (λ n. refl) (λ n given. ap (λ (h : GraphView (Unit {0})). is_marked h n) watches.rest)

    still : StillDeclares s k.nodes (graph k.graph) then new
    still = record {
      formulas = λ owner path f is. is;
      bodies = λ n b has is. is;
      targets = λ n e is. (e, is, refl);
      names = λ n e is. refl;
      rows = λ n r u is def. ap (λ (a : Arena). row_at a n) nodes_same ∙ is;
      freezes = λ n r kid f is def. ap (λ (a : Arena). row_at a n) nodes_same ∙ is;
      lives = λ n r is. (r, ap (λ (a : Arena). row_at a n) nodes_same ∙ is);
      built = λ b r is. built_same b;
    }

    scopes_still : ScopesBuilt (graph k.graph) → ScopesBuilt (graph g)
    scopes_still = subst (λ (h : GraphView (Unit {0})). ScopesBuilt (graph k.graph) → ScopesBuilt (graph h)) (sym watches.rest) (λ built. built)

    roots_still : ShownWereRoots m.settled s → ShownWereRoots m.settled then
    roots_still were x among is =
        let r = among_before (with_watch name) x s.observers among in
        let b = as_before name r.0 in
        let shows : IsSome r.0.shown = subst (λ (p : Option Outcome). IsSome p) (ap (λ (y : Observer). y.shown) r.2 ∙ b.shown) is in
        subst (λ (t : ℕ). Among (Named t) (roots m.settled)) (sym (ap (λ (y : Observer). y.target) r.2 ∙ b.target)) (were r.0 r.1 shows)

    -- and it matches the moment in which it is watched
    pub watching_stands : MatchesMoment F new (moved m (WatchIt name))
    watching_stands = record {
      names = record {
        declared = stands.names.declared;
        now = stands.names.now;
        in_use = λ q. stands.names.in_use q ∙ ap (λ (ns : List (List ℕ)). is_among ns q) (sym (names_stay name s.observers));
      };
      accepted = stands.accepted;
      broken = stands.broken;
      represents = λ whole.
          represents_so F s (map (with_watch name) s.observers) s.accepted k new refl refl refl nodes_same built_same
          (λ n. ap (λ (h : GraphView (Unit {0})). (graph h).frozen n) watches.rest) (λ n. ap (λ (h : GraphView (Unit {0})). (graph h).lists n) watches.rest)
          (stands.represents whole);
      watches = watching;
      settled = λ whole.
          settled_so F m.settled s then k new leaves marks_still still (λ n b v was. was) scopes_still roots_still (stands.settled whole);
    }
