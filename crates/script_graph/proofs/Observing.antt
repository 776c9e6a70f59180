-- An observer that is made, and what one shows.
use Rattle.std.proofs.Common.{◌≡◌, ◌⊎◌, inl, inr, ℕ, zero, suc, ◌+◌, ◌<◌, ◌≤◌, Bool, true, false, cond, ◌||◌, List, [], ◌∷◌, ◌++◌, map, length, Option, None, Some, option_map, IsSome, refl, ap, sym, subst, ◌∙◌, arith, slice_get}
use Rattle.std.proofs.lemmas.Slice.Eq.{bytes_eq-Decides}
use Rattle.std.specs.List.{list_any}
use Rattle.std.specs.Prelude.{IsFalse}
use Rattle.std.specs.Str.{bytes_eq}
use Rattle.graph.specs.Effects.{Observes}
use Rattle.graph.specs.Standing.{GraphView, graph, called_last, cutoff_of, is_marked, times_linked}
use Rattle.inc_terms.specs.Need.{IsUnfrozen}
use Rattle.observers.specs.Observers.{node_at, looked_at, shown_at, shown_in, new_observer as made_observer}
use Rattle.inc_value.specs.Choice.{Among}
use Rattle.inc_value.specs.declared.node.NodeId.{NodeId}
use Rattle.inc_value.specs.declared.node.ObsId.{ObsId}
use Rattle.node_arena.specs.Arena.{Arena, row_at}
use Rattle.inc_value.specs.declared.outcome.Outcome as engine
use Rattle.script_model.specs.Check.{Observe, declared_of, is_among, names_of}
use Rattle.script_model.specs.Formula.{State, Entry, Body, Observer, Meanings, body_at}
use Rattle.script_model.specs.Values.{Outcome}
use Rattle.script_model.specs.Step.{Moment, moved, find_observer, new_observer, shown_by}
use Rattle.script_graph.specs.Kept.{Kept, node_in}
use Rattle.script_graph.specs.Represents.{there_in, AreNames, IsObserver, Watches}
use Rattle.script_graph.specs.Settled.{ScopesBuilt, StillDeclares}
use Rattle.script_graph.specs.Shown.{ShowsIt}
use Rattle.script_graph.specs.State.{MatchesMoment}
use Rattle.script_graph.proofs.Carrying.{LeavesBeside, LeavesMarks, leaves_marks, settled_on}
use Rattle.script_graph.proofs.Held.{rooted_looks, rooted_still}
use Rattle.script_graph.proofs.Same.{represents_so}
use Rattle.transfer.specs.Both.{graph_outcome}

-- ---- lists with one more

pub get_within : {A : Type 0} (xs ys : List A) (j : ℕ) → j < length xs → slice_get (xs ++ ys) j ≡ slice_get xs j
get_within [] ys j less = absurd (omega (arith, less))
get_within (x ∷ xs) ys zero less = refl
get_within (x ∷ xs) ys (suc j) less = get_within xs ys j (omega (arith, less))

pub get_end : {A : Type 0} (xs : List A) (y : A) → slice_get (xs ++ y ∷ []) (length xs) ≡ Some y
get_end [] y = refl
get_end (x ∷ xs) y = get_end xs y

pub get_some : {A : Type 0} (xs : List A) (j : ℕ) (z : A) → slice_get xs j ≡ Some z → j < length xs
get_some [] j z e = absurd (cc)
get_some (x ∷ xs) zero z e = omega arith
get_some (x ∷ xs) (suc j) z e = let rest = get_some xs j z e in omega (arith, rest)

pub get_push : {A : Type 0} (xs : List A) (y : A) (j : ℕ) (z : A) → slice_get (xs ++ y ∷ []) j ≡ Some z
    → (slice_get xs j ≡ Some z) ⊎ ((j ≡ length xs) × (z ≡ y))
get_push [] y zero z e = inr (refl, (cc))
get_push [] y (suc j) z e = absurd (cc)
get_push (x ∷ xs) y zero z e = inl e
get_push (x ∷ xs) y (suc j) z e = go (get_push xs y j z e)
  where
    go : (slice_get xs j ≡ Some z) ⊎ ((j ≡ length xs) × (z ≡ y)) → (slice_get xs j ≡ Some z) ⊎ ((suc j ≡ suc (length xs)) × (z ≡ y))
    go (inl old) = inl old
    go (inr last) = inr (ap suc last.0, last.1)

there_push : {A : Type 0} (xs : List (Option A)) (x : A) → there_in (xs ++ Some x ∷ []) ≡ there_in xs ++ x ∷ []
there_push [] x = refl
there_push (None ∷ xs) x = there_push xs x
there_push (Some y ∷ xs) x = ap (λ (l : List _). y ∷ l) (there_push xs x)

among_last : {A : Type 0} (x y : A) (xs : List A) → Among x (xs ++ y ∷ []) → Among x xs ⊎ (x ≡ y)
among_last x y [] (inl e) = inr e
among_last x y [] (inr none) = absurd none
among_last x y (z ∷ xs) (inl e) = inl (inl e)
among_last x y (z ∷ xs) (inr among) = elim (among_last x y xs among) [ inl old ↦ inl (inr old) | inr e ↦ inr e ]

length_push : {A : Type 0} (xs : List A) (y : A) → length (xs ++ y ∷ []) ≡ length xs + 1
length_push [] y = refl
length_push (x ∷ xs) y = let rest = length_push xs y in omega (arith, rest)

length_map : {A B : Type 0} (f : A → B) (xs : List A) → length (map f xs) ≡ length xs
length_map f [] = refl
length_map f (x ∷ xs) = ap suc (length_map f xs)

map_push : {A B : Type 0} (f : A → B) (xs : List A) (y : A) → map f (xs ++ y ∷ []) ≡ map f xs ++ f y ∷ []
map_push f [] y = refl
map_push f (x ∷ xs) y = ap (λ (l : List _). f x ∷ l) (map_push f xs y)

any_push : (q : List ℕ) (xs : List (List ℕ)) (y : List ℕ) → list_any (bytes_eq q) (xs ++ y ∷ []) ≡ (list_any (bytes_eq q) xs || bytes_eq q y)
any_push q [] y = or_false (bytes_eq q y)
  where
    or_false : (b : Bool) → (b || false) ≡ (false || b)
    or_false true = refl
    or_false false = refl
any_push q (x ∷ xs) y = ap (λ (b : Bool). bytes_eq q x || b) (any_push q xs y) ∙ assoc (bytes_eq q x) (list_any (bytes_eq q) xs) (bytes_eq q y)
  where
    assoc : (a b c : Bool) → (a || (b || c)) ≡ ((a || b) || c)
    assoc true b c = refl
    assoc false b c = refl

-- the name of one that is there is among theirs
pub there_is_among : (made : List (Option Observer)) (j : ℕ) (x : Observer) → slice_get made j ≡ Some (Some x)
    → is_among (map (λ (o : Observer). o.name) (there_in made)) x.name ≡ true
there_is_among [] j x e = absurd (cc)
there_is_among (None ∷ made) zero x e = absurd (cc)
there_is_among (None ∷ made) (suc j) x e = there_is_among made j x e
there_is_among (Some y ∷ made) zero x e =
    let same : y ≡ x = cc in
    rw ((bytes_eq-Decides x.name y.name).1 (ap (λ (o : Observer). o.name) (sym same))) refl
there_is_among (Some y ∷ made) (suc j) x e = rw (there_is_among made j x e) (or_true (bytes_eq x.name y.name))
  where
    or_true : (b : Bool) → (b || true) ≡ true
    or_true true = refl
    or_true false = refl

-- an observer is found by its name, where no other has it
pub there_is_found : (made : List (Option Observer)) (j : ℕ) (x : Observer) → slice_get made j ≡ Some (Some x)
    → ((i : ℕ) (y : Observer) → slice_get made i ≡ Some (Some y) → y.name ≡ x.name → i ≡ j) → find_observer (there_in made) x.name ≡ Some x
there_is_found [] j x e alone = absurd (cc)
there_is_found (None ∷ made) zero x e alone = absurd (cc)
there_is_found (None ∷ made) (suc j) x e alone =
    there_is_found made j x e (λ i y at same. let k = alone (suc i) y at same in omega (arith, k))
there_is_found (Some y ∷ made) zero x e alone =
    let same : y ≡ x = cc in
    rw ((bytes_eq-Decides x.name y.name).1 (ap (λ (o : Observer). o.name) (sym same)), same) refl
there_is_found (Some y ∷ made) (suc j) x e alone =
    go (bytes_eq x.name y.name) refl (there_is_found made j x e (λ i z at same. let k = alone (suc i) z at same in omega (arith, k)))
  where
    go : (b : Bool) → bytes_eq x.name y.name ≡ b → find_observer (there_in made) x.name ≡ Some x
        → cond b (Some y) (find_observer (there_in made) x.name) ≡ Some x
    go true is rest = let k = alone 0 y refl (sym ((bytes_eq-Decides x.name y.name).0 is)) in absurd (omega (arith, k))
    go false is rest = rest

-- ---- making one

body_there : (s : State) (es : List Entry) (n : ℕ) → n < length es → (e : Entry) × (slice_get es n ≡ Some e)
body_there s [] n less = absurd (omega (arith, less))
body_there s (e ∷ es) zero less = (e, refl)
body_there s (e ∷ es) (suc n) less = body_there s es n (omega (arith, less))

-- the names with a new observer's, and its id behind the others
abbrev pub with_observer : Kept → List ℕ → ObsId → GraphView (Unit {0}) → Kept
with_observer k name o g = record k {
  names = record k.names { observers = k.names.observers ++ name ∷ [] };
  observers = k.observers ++ o ∷ [];
  graph = g;
}

module _ (F : Meanings) (k : Kept) (m : Moment) (name : List ℕ) (target : ℕ) (o : ObsId) (g : GraphView (Unit {0})) (stands : MatchesMoment F k m)
    (unbroken : m.broken ≡ None) (fresh_name : IsFalse (is_among k.names.observers name)) (earlier : target < length k.names.declared)
    (named_each : length k.observers ≡ length k.names.observers)
    (rooted : k.graph.rooted ≤ length k.graph.observers) (observes : Observes k.graph g o (node_in k.nodes target)) where
  abbrev new : Kept
  new = with_observer k name o g

  abbrev s : State
  s = m.present

  abbrev x : Observer
  x = new_observer name target

  abbrev then : State
  then = record s { observers = s.observers ++ x ∷ [] }

  w : Watches s k
  w = stands.watches

  nodes_same : g.nodes ≡ k.graph.nodes
  nodes_same = ap (λ (h : GraphView (Unit {0})). h.nodes) observes.rest

  observers_more : g.observers ≡ k.graph.observers ++ made_observer (node_in k.nodes target) ∷ []
  observers_more = ap (λ (h : GraphView (Unit {0})). h.observers) observes.rest

  rooted_same : g.rooted ≡ k.graph.rooted
  rooted_same = ap (λ (h : GraphView (Unit {0})). h.rooted) observes.rest

  -- the new name isn't in use
  fresh : (j : ℕ) (y : Observer) → slice_get w.made j ≡ Some (Some y) → y.name ≡ name → ⊥
  fresh j y at same =
      let among : is_among (names_of s).observers name ≡ true =
      ap (λ (os : List Observer). is_among (map (λ (z : Observer). z.name) os) name) w.in_order
      ∙ subst (λ (n : List ℕ). is_among (map (λ (z : Observer). z.name) (there_in w.made)) n ≡ true) same (there_is_among w.made j y at) in
      not_both (is_among (names_of s).observers name) among (sym (stands.names.in_use name) ∙ fresh_name)
    where
      not_both : (b : Bool) → b ≡ true → b ≡ false → ⊥
      not_both true is never = absurd (cc)
      not_both false is never = absurd (cc)

  slot_old : (p : ObsId) → p.0 < length k.graph.observers → slice_get g.observers p.0 ≡ slice_get k.graph.observers p.0
  slot_old p less = rw observers_more (get_within k.graph.observers _ p.0 less)

  looks_old : (p : ObsId) → p.0 < length k.graph.observers → node_at g.observers p ≡ node_at k.graph.observers p
  looks_old p less = ap looked_at (slot_old p less)

  old_observer : (p : ObsId) (y : Observer) → slice_get w.made p.0 ≡ Some (Some y) → IsObserver then new p y
  old_observer p y at =
      let h = w.observing p y at in
      let less : p.0 < length k.graph.observers = let c = get_some w.made p.0 (Some y) at in let e = w.one_each in omega (arith, c, e) in
      record { is = slot_old p less ∙ h.is; target = h.target; refers = h.refers; told = h.told }

  new_slot : (p : ObsId) → p.0 ≡ length w.made → slice_get g.observers p.0 ≡ Some (made_observer (node_in k.nodes target))
  new_slot p e = rw (observers_more, e, w.one_each) (get_end k.graph.observers (made_observer (node_in k.nodes target)))

  target_there : (b : Body) × (body_at s target ≡ Some b)
  target_there =
      let less : target < length s.entries = let e = earlier in let d = ap length stands.names.declared in let c = length_map declared_of s.entries in
      omega (arith, e, d, c) in
      let found = body_there s s.entries target less in
      (found.0.body, rw found.1 refl)

  new_observer_is : (p : ObsId) → p.0 ≡ length w.made → IsObserver then new p x
  new_observer_is p e = record {
    is = new_slot p e;
    target = target_there;
    refers = λ q is. absurd (cc);
    told = λ q is. absurd (cc);
  }

  watching : Watches then new
  watching = record {
    made = w.made ++ Some x ∷ [];
    one_each = length_push w.made (Some x) ∙ ap (λ (n : ℕ). n + 1) w.one_each
        ∙ sym (ap length observers_more ∙ length_push k.graph.observers _);
    in_order = ap (λ (os : List Observer). os ++ x ∷ []) w.in_order ∙ sym (there_push w.made x);
    ended = λ p at. was_ended p (get_push w.made (Some x) p.0 None at);
    observing = λ p y at. is_observer p y (get_push w.made (Some x) p.0 (Some y) at);
    named = λ i p n at_id at_name. is_named i p n (get_push k.observers o i p at_id) (get_push k.names.observers name i n at_name);
    apart = λ p q y z at_p at_q same. are_one p q y z (get_push w.made (Some x) p.0 (Some y) at_p) (get_push w.made (Some x) q.0 (Some z) at_q) same;
  }
    where
      was_ended : (p : ObsId) → (slice_get w.made p.0 ≡ Some None) ⊎ ((p.0 ≡ length w.made) × (None ≡ Some x)) → node_at g.observers p ≡ None
      was_ended p (inl old) =
          let less : p.0 < length k.graph.observers = let c = get_some w.made p.0 None old in let e = w.one_each in omega (arith, c, e) in
          looks_old p less ∙ w.ended p old
      was_ended p (inr last) = absurd (let e = last.1 in cc)

      is_observer : (p : ObsId) (y : Observer) → (slice_get w.made p.0 ≡ Some (Some y)) ⊎ ((p.0 ≡ length w.made) × (Some y ≡ Some x)) → IsObserver then new p y
      is_observer p y (inl old) = old_observer p y old
      is_observer p y (inr fresh_one) =
          let same : x ≡ y = let e = fresh_one.1 in cc in subst (λ (z : Observer). IsObserver then new p z) same (new_observer_is p fresh_one.0)

      is_named : (i : ℕ) (p : ObsId) (n : List ℕ) → (slice_get k.observers i ≡ Some p) ⊎ ((i ≡ length k.observers) × (p ≡ o))
          → (slice_get k.names.observers i ≡ Some n) ⊎ ((i ≡ length k.names.observers) × (n ≡ name))
          → (y : Observer) × (slice_get (w.made ++ Some x ∷ []) p.0 ≡ Some (Some y)) × (y.name ≡ n)
      is_named i p n (inl id) (inl old) =
          let h = w.named i p n id old in (h.0, get_within w.made (Some x ∷ []) p.0 (get_some w.made p.0 (Some h.0) h.1) ∙ h.1, h.2)
      is_named i p n (inl id) (inr end) = absurd (let c = get_some k.observers i p id in let e = end.0 in let l = named_each in omega (arith, c, e, l))
      is_named i p n (inr end) (inl old) = absurd (let c = get_some k.names.observers i n old in let e = end.0 in let l = named_each in omega (arith, c, e, l))
      is_named i p n (inr end) (inr last) =
          let at : p.0 ≡ length w.made = ap (λ (q : ObsId). q.0) end.1 ∙ observes.id ∙ sym w.one_each in
          (x, ap (slice_get (w.made ++ Some x ∷ [])) at ∙ get_end w.made (Some x), sym last.1)

      are_one : (p q : ObsId) (y z : Observer) → (slice_get w.made p.0 ≡ Some (Some y)) ⊎ ((p.0 ≡ length w.made) × (Some y ≡ Some x))
          → (slice_get w.made q.0 ≡ Some (Some z)) ⊎ ((q.0 ≡ length w.made) × (Some z ≡ Some x)) → y.name ≡ z.name → p ≡ q
      are_one p q y z (inl a) (inl b) same = w.apart p q y z a b same
      are_one p q y z (inl a) (inr b) same =
          absurd (fresh p.0 y a (same ∙ (let e : z ≡ x = let f = b.1 in cc in ap (λ (t : Observer). t.name) e)))
      are_one p q y z (inr a) (inl b) same =
          absurd (fresh q.0 z b (sym same ∙ (let e : y ≡ x = let f = a.1 in cc in ap (λ (t : Observer). t.name) e)))
      are_one p q y z (inr a) (inr b) same = let e : p.0 ≡ q.0 = a.0 ∙ sym b.0 in λ i. record { 0 = e i }

  names : AreNames new.names then
  names = record {
    declared = stands.names.declared;
    now = stands.names.now;
    in_use = λ q. any_push q k.names.observers name ∙ ap (λ (b : Bool). b || bytes_eq q name) (stands.names.in_use q)
        ∙ sym (ap (list_any (bytes_eq q)) (map_push (λ (z : Observer). z.name) s.observers x) ∙ any_push q (map (λ (z : Observer). z.name) s.observers) name);
  }

  leaves : LeavesBeside k new
  leaves = record {
    rooted = λ p n at.
        let is = rooted_looks g p n at in
        let low : p.0 < length k.graph.observers = (let less = is.0 in let r = rooted in let same = rooted_same in omega (arith, less, r, same)) in
        rooted_still g k.graph p (sym rooted_same) (sym (looks_old p low)) n at;
    since = ap (λ (h : GraphView (Unit {0})). h.since) observes.rest;
    unfrozen = λ n given. subst (λ (h : GraphView (Unit {0})). IsUnfrozen (graph h) n → IsUnfrozen (graph k.graph) n) (sym observes.rest) (λ u. u);
    fewer = λ p q. let same = ap (λ (h : GraphView (Unit {0})). times_linked h p q) observes.rest in omega (arith, same);
    given = let same = ap (λ (a : Arena). a.given) nodes_same in omega (arith, same);
    last = λ n given. ap (λ (h : GraphView (Unit {0})). called_last h n) observes.rest;
    no_more_cutoffs = λ n equal. ap (λ (h : GraphView (Unit {0})). cutoff_of h n) observes.rest ∙ equal;
  }

  built_same : (b : NodeId) → (graph g).built b ≡ (graph k.graph).built b
  built_same b = ap (λ (h : GraphView (Unit {0})). (graph h).built b) observes.rest

  marks_still : LeavesMarks s then k new
  marks_still = leaves_marks s then k new (λ n. refl) (λ n given. ap (λ (h : GraphView (Unit {0})). is_marked h n) observes.rest)

  still : StillDeclares s k.nodes (graph k.graph) then new
  still = record {
    formulas = λ owner path f is. is;
    bodies = λ n b has is. is;
    targets = λ n e is. (e, is, refl);
    names = λ n e is. refl;
    rows = λ n r u is def. ap (λ (a : Arena). row_at a n) nodes_same ∙ is;
    freezes = λ n r kid f is def. ap (λ (a : Arena). row_at a n) nodes_same ∙ is;
    lives = λ n r is. (r, ap (λ (a : Arena). row_at a n) nodes_same ∙ is);
    built = λ b r is. built_same b;
  }

  scopes_still : ScopesBuilt (graph k.graph) → ScopesBuilt (graph g)
  scopes_still = subst (λ (h : GraphView (Unit {0})). ScopesBuilt (graph k.graph) → ScopesBuilt (graph h)) (sym observes.rest) (λ built. built)

  shown_was : (y : Observer) → Among y then.observers → IsSome y.shown → Among y s.observers
  shown_was y among is = elim (among_last y x s.observers among) [
    | inl old ↦ old
    | inr e ↦ absurd (let none = subst (λ (z : Observer). IsSome z.shown) e is in cc)
  ]

  -- what is kept with a new observer matches the moment with one
  pub observing_stands : MatchesMoment F new (moved m (Observe name target))
  observing_stands = record {
    names = names;
    accepted = stands.accepted;
    broken = stands.broken;
    represents = λ whole.
        represents_so F s (s.observers ++ x ∷ []) s.accepted k new refl refl refl nodes_same built_same
        (λ n. ap (λ (h : GraphView (Unit {0})). (graph h).frozen n) observes.rest) (λ n. ap (λ (h : GraphView (Unit {0})). (graph h).lists n) observes.rest)
        (stands.represents whole);
    watches = watching;
    settled = λ whole.
        settled_on F m.settled s then k new leaves marks_still still (λ n b v was. was) scopes_still shown_was (stands.settled whole);
  }

-- ---- what one shows

module _ (F : Meanings) (k : Kept) (m : Moment) (stands : MatchesMoment F k m) (i : ℕ) (o : ObsId) (name : List ℕ)
    (at_id : slice_get k.observers i ≡ Some o) (at_name : slice_get k.names.observers i ≡ Some name) where
  seen_by : Watches m.present k
  seen_by = stands.watches

  found : (y : Observer) × IsObserver m.present k o y × (find_observer m.present.observers name ≡ Some y)
  found =
      let h = seen_by.named i o name at_id at_name in (
        h.0,
        seen_by.observing o h.0 h.1,
        ap (λ (os : List Observer). find_observer os name) seen_by.in_order
            ∙ subst (λ (n : List ℕ). find_observer (there_in seen_by.made) n ≡ Some h.0) h.2
            (there_is_found seen_by.made o.0 h.0 h.1 (λ j z at same. ap (λ (q : ObsId). q.0) (seen_by.apart (record { 0 = j }) o z h.0 at h.1 same))),
      )

  -- what the graph shows of it
  pub shows_it : (out : engine.Outcome) → shown_at k.graph.observers o ≡ Some out → ShowsIt (node_in k.nodes) m.present name out
  shows_it out shows = let f = found in by_shown f.0 f.1 f.2 f.0.shown refl (sym (ap shown_in f.1.is) ∙ shows)
    where
      by_shown : (y : Observer) → IsObserver m.present k o y → find_observer m.present.observers name ≡ Some y → (p : Option Outcome) → y.shown ≡ p
          → option_map (graph_outcome (node_in k.nodes)) y.shown ≡ Some out → ShowsIt (node_in k.nodes) m.present name out
      by_shown y h at None is e = absurd (let none = sym (ap (option_map (graph_outcome (node_in k.nodes))) is) ∙ e in cc)
      by_shown y h at (Some p) is e =
          let same : Some (graph_outcome (node_in k.nodes) p) ≡ Some out = sym (ap (option_map (graph_outcome (node_in k.nodes))) is) ∙ e in
          record { outcome = p; is_shown = rw at is; refers = h.refers p is; same = cc }

  -- nothing where it shows nothing yet
  pub shows_nothing : shown_at k.graph.observers o ≡ None → shown_by m.present name ≡ None
  shows_nothing none = let f = found in by_shown f.0 f.2 f.0.shown refl (sym (ap shown_in f.1.is) ∙ none)
    where
      by_shown : (y : Observer) → find_observer m.present.observers name ≡ Some y → (p : Option Outcome) → y.shown ≡ p
          → option_map (graph_outcome (node_in k.nodes)) y.shown ≡ None → shown_by m.present name ≡ None
      by_shown y at None is e = rw at is
      by_shown y at (Some p) is e = absurd (let some = sym (ap (option_map (graph_outcome (node_in k.nodes))) is) ∙ e in cc)
