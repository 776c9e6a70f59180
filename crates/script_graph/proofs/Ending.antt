-- An observer that is ended.
use Rattle.std.proofs.Common.{◌≡◌, ◌⊎◌, inl, inr, ℕ, zero, suc, ◌-◌, ◌<◌, ◌≤◌, Bool, true, false, cond, not, ◌||◌, List, [], ◌∷◌, map, filter, length, take, Option, None, Some, IsSome, refl, ap, sym, subst, ◌∙◌, arith, slice_get, slice_set, slice_index_or, swap_remove}
use Rattle.std.proofs.lemmas.Slice.Eq.{bytes_eq-Decides}
use Rattle.std.specs.Str.{bytes_eq}
use Rattle.graph.specs.Effects.{Ends}
use Rattle.graph.specs.Standing.{GraphView, graph}
use Rattle.observers.specs.Observers.{node_at, looked_at, ended}
use Rattle.inc_value.specs.Choice.{Among, NoRepeats}
use Rattle.inc_value.specs.declared.node.NodeId.{NodeId}
use Rattle.inc_value.specs.declared.node.ObsId.{ObsId}
use Rattle.inc_terms.specs.Graph.{Built as BuiltFor}
use Rattle.inc_terms.specs.Within.{Given}
use Rattle.node_arena.specs.Arena.{Arena, row_at}
use Rattle.script_model.specs.Check.{Unobserve, is_among, names_of}
use Rattle.script_model.specs.Formula.{State, Observer, Meanings}
use Rattle.script_model.specs.Step.{Moment, moved}
use Rattle.script_graph.specs.Kept.{Kept, arena_of}
use Rattle.script_graph.specs.Represents.{rooted_at, there_in, Watches}
use Rattle.script_graph.specs.Settled.{ScopesBuilt, StillDeclares}
use Rattle.script_graph.specs.Sound.{AreFew, HaveNodes, IsSoundSession}
use Rattle.script_graph.specs.State.{MatchesMoment}
use Rattle.script_graph.proofs.Carrying.{LeavesBeside, leaves_marks, settled_on, unfrozen_were}
use Rattle.script_graph.proofs.Held.{rooted_looks, rooted_still}
use Rattle.script_graph.proofs.Observing.{get_some, there_is_among}
use Rattle.script_graph.proofs.Same.{represents_so}

-- ---- lists with one element written, and cut

take_get : {A : Type 0} (xs : List A) (n j : ℕ) → j < n → slice_get (take n xs) j ≡ slice_get xs j
take_get xs zero j less = absurd (omega (arith, less))
take_get [] (suc n) j less = refl
take_get (x ∷ xs) (suc n) zero less = refl
take_get (x ∷ xs) (suc n) (suc j) less = take_get xs n j (omega (arith, less))

take_within : {A : Type 0} (xs : List A) (n j : ℕ) (x : A) → slice_get (take n xs) j ≡ Some x → j < n
take_within xs zero j x e = absurd (cc)
take_within [] (suc n) j x e = absurd (cc)
take_within (y ∷ xs) (suc n) zero x e = omega arith
take_within (y ∷ xs) (suc n) (suc j) x e = let rest = take_within xs n j x e in omega (arith, rest)

take_length : {A : Type 0} (xs : List A) (n : ℕ) → n ≤ length xs → length (take n xs) ≡ n
take_length xs zero less = refl
take_length [] (suc n) less = absurd (omega (arith, less))
take_length (x ∷ xs) (suc n) less = let rest = take_length xs n (omega (arith, less)) in omega (arith, rest)

set_other : {A : Type 0} (xs : List A) (i j : ℕ) (y : A) → (j ≡ i → ⊥) → slice_get (slice_set xs i y) j ≡ slice_get xs j
set_other [] i j y ne = refl
set_other (x ∷ xs) zero zero y ne = absurd (ne refl)
set_other (x ∷ xs) zero (suc j) y ne = refl
set_other (x ∷ xs) (suc i) zero y ne = refl
set_other (x ∷ xs) (suc i) (suc j) y ne = set_other xs i j y (λ e. ne (ap suc e))

set_same : {A : Type 0} (xs : List A) (i : ℕ) (y : A) → i < length xs → slice_get (slice_set xs i y) i ≡ Some y
set_same [] i y less = absurd (omega (arith, less))
set_same (x ∷ xs) zero y less = refl
set_same (x ∷ xs) (suc i) y less = set_same xs i y (omega (arith, less))

set_length : {A : Type 0} (xs : List A) (i : ℕ) (y : A) → length (slice_set xs i y) ≡ length xs
set_length [] i y = refl
set_length (x ∷ xs) zero y = refl
set_length (x ∷ xs) (suc i) y = ap suc (set_length xs i y)

pub get_at : {A : Type 0} (xs : List A) (i : ℕ) (d : A) → i < length xs → slice_get xs i ≡ Some (slice_index_or xs i d)
get_at [] i d less = absurd (omega (arith, less))
get_at (x ∷ xs) zero d less = refl
get_at (x ∷ xs) (suc i) d less = get_at xs i d (omega (arith, less))

pub among_at : {A : Type 0} (xs : List A) (i : ℕ) (x : A) → slice_get xs i ≡ Some x → Among x xs
among_at [] i x e = absurd (cc)
among_at (y ∷ xs) zero x e = inl (cc)
among_at (y ∷ xs) (suc i) x e = inr (among_at xs i x e)

place_of : {A : Type 0} (xs : List A) (x : A) → Among x xs → (i : ℕ) × (slice_get xs i ≡ Some x)
place_of [] x among = absurd among
place_of (y ∷ xs) x (inl e) = (0, ap (λ (z : _). Some z) (sym e))
place_of (y ∷ xs) x (inr among) = let rest = place_of xs x among in (suc rest.0, rest.1)

-- no element stands at two places
abbrev StandsOnce : {A : Type 0} → List A → Type 0
StandsOnce {A} xs = (i j : ℕ) (x : A) → slice_get xs i ≡ Some x → slice_get xs j ≡ Some x → i ≡ j

apart_once : {A : Type 0} (xs : List A) → NoRepeats xs → StandsOnce xs
apart_once [] apart i j x at also = absurd (cc)
apart_once (y ∷ xs) apart zero zero x at also = refl
apart_once (y ∷ xs) apart zero (suc j) x at also =
    let same : y ≡ x = cc in absurd (apart.0 (subst (λ z. Among z xs) (sym same) (among_at xs j x also)))
apart_once (y ∷ xs) apart (suc i) zero x at also =
    let same : y ≡ x = cc in absurd (apart.0 (subst (λ z. Among z xs) (sym same) (among_at xs i x at)))
apart_once (y ∷ xs) apart (suc i) (suc j) x at also = ap suc (apart_once xs apart.1 i j x at also)

once_apart : {A : Type 0} (xs : List A) → StandsOnce xs → NoRepeats xs
once_apart [] once = tt
once_apart (y ∷ xs) once = (
  λ among. let at = place_of xs y among in let e = once 0 (suc at.0) y refl at.1 in absurd (omega (arith, e)),
  once_apart xs (λ i j x at also. let e = once (suc i) (suc j) x at also in omega (arith, e)),
)

among_filter : {A : Type 0} (x : A) (p : A → Bool) (xs : List A) → Among x (filter p xs) → Among x xs
among_filter x p [] among = among
among_filter {A} x p (y ∷ ys) among = go (p y) (among_filter x p ys) among
  where
    go : (b : Bool) → (Among x (filter p ys) → Among x ys) → Among x (cond b (y ∷ filter p ys) (filter p ys)) → Among x (y ∷ ys)
    go true later (inl e) = inl e
    go true later (inr rest) = inr (later rest)
    go false later rest = inr (later rest)

-- ---- the last in the place of one

pub same_or : (j i : ℕ) → (j ≡ i) ⊎ (j ≡ i → ⊥)
same_or zero zero = inl refl
same_or zero (suc i) = inr (λ e. absurd (omega (arith, e)))
same_or (suc j) zero = inr (λ e. absurd (omega (arith, e)))
same_or (suc j) (suc i) = go (same_or j i)
  where
    go : (j ≡ i) ⊎ (j ≡ i → ⊥) → (suc j ≡ suc i) ⊎ (suc j ≡ suc i → ⊥)
    go (inl e) = inl (ap suc e)
    go (inr ne) = inr (λ e. ne (omega (arith, e)))

abbrev pick : {j i : ℕ} → (j ≡ i) ⊎ (j ≡ i → ⊥) → ℕ → ℕ
pick {j} (inl e) last = last
pick {j} (inr ne) last = j

-- where the element at j came from, once the last stands in the place i
abbrev source : ℕ → ℕ → ℕ → ℕ
source last i j = pick (same_or j i) last

source_other : (last i j : ℕ) → j < last → source last i j ≡ i → ⊥
source_other last i j less = go (same_or j i)
  where
    go : (c : (j ≡ i) ⊎ (j ≡ i → ⊥)) → pick c last ≡ i → ⊥
    go (inl e) is = absurd (omega (arith, e, is, less))
    go (inr ne) is = ne is

source_apart : (last i j l : ℕ) → j < last → l < last → source last i j ≡ source last i l → j ≡ l
source_apart last i j l less also = go (same_or j i) (same_or l i)
  where
    go : (c : (j ≡ i) ⊎ (j ≡ i → ⊥)) (b : (l ≡ i) ⊎ (l ≡ i → ⊥)) → pick c last ≡ pick b last → j ≡ l
    go (inl e) (inl f) is = e ∙ sym f
    go (inl e) (inr f) is = absurd (omega (arith, is, also))
    go (inr e) (inl f) is = absurd (omega (arith, is, less))
    go (inr e) (inr f) is = is

source_onto : (last i h : ℕ) → i ≤ last → h ≤ last → (h ≡ i → ⊥) → (j : ℕ) × (j < last) × (source last i j ≡ h)
source_onto last i h less also other = go (same_or h last)
  where
    at_i : (c : (i ≡ i) ⊎ (i ≡ i → ⊥)) → h ≡ last → pick c last ≡ h
    at_i (inl e) is = sym is
    at_i (inr ne) is = absurd (ne refl)

    at_h : (c : (h ≡ i) ⊎ (h ≡ i → ⊥)) → pick c last ≡ h
    at_h (inl e) = absurd (other e)
    at_h (inr ne) = refl

    below : (a b : ℕ) → a ≤ b → (a ≡ b → ⊥) → a < b
    below zero zero le ne = absurd (ne refl)
    below zero (suc b) le ne = omega arith
    below (suc a) zero le ne = absurd (omega (arith, le))
    below (suc a) (suc b) le ne = let rest = below a b (omega (arith, le)) (λ e. ne (ap suc e)) in omega (arith, rest)

    go : (h ≡ last) ⊎ (h ≡ last → ⊥) → (j : ℕ) × (j < last) × (source last i j ≡ h)
    go (inl e) = (i, below i last less (λ f. other (e ∙ sym f)), at_i (same_or i i) e)
    go (inr ne) = (h, below h last also ne, at_h (same_or h i))

swap_source : {A : Type 0} (xs : List A) (n i j : ℕ) (d : A) → length xs ≡ n → j < n - 1
    → slice_get (swap_remove xs i d) j ≡ slice_get xs (source (n - 1) i j)
swap_source xs n i j d size less = go (same_or j i)
  where
    near : j < length xs - 1
    near = omega (arith, size, less)

    cut : (y : _) → slice_get (take (length xs - 1) (slice_set xs i y)) j ≡ slice_get (slice_set xs i y) j
    cut y = take_get (slice_set xs i y) (length xs - 1) j near

    go : (c : (j ≡ i) ⊎ (j ≡ i → ⊥)) → slice_get (swap_remove xs i d) j ≡ slice_get xs (pick c (n - 1))
    go (inl e) =
        cut (slice_index_or xs (length xs - 1) d)
        ∙ ap (slice_get (slice_set xs i (slice_index_or xs (length xs - 1) d))) e
        ∙ set_same xs i (slice_index_or xs (length xs - 1) d) (omega (arith, near, e))
        ∙ sym (get_at xs (length xs - 1) d (omega (arith, near)))
        ∙ ap (λ (l : ℕ). slice_get xs (l - 1)) size
    go (inr ne) = cut (slice_index_or xs (length xs - 1) d) ∙ set_other xs i j (slice_index_or xs (length xs - 1) d) ne

pub swap_within : {A : Type 0} (xs : List A) (n i j : ℕ) (d x : A) → length xs ≡ n → slice_get (swap_remove xs i d) j ≡ Some x → j < n - 1
swap_within xs n i j d x size at =
    let less = take_within (slice_set xs i (slice_index_or xs (length xs - 1) d)) (length xs - 1) j x at in omega (arith, less, size)

-- the last comes to stand in the place, and others stay
pub swap_here : {A : Type 0} (xs : List A) (i : ℕ) (d : A) → i < length xs - 1 → slice_get (swap_remove xs i d) i ≡ slice_get xs (length xs - 1)
swap_here xs i d less = swap_source xs (length xs) i i d refl less ∙ go (same_or i i)
  where
    go : (c : (i ≡ i) ⊎ (i ≡ i → ⊥)) → slice_get xs (pick c (length xs - 1)) ≡ slice_get xs (length xs - 1)
    go (inl e) = refl
    go (inr ne) = absurd (ne refl)

pub swap_other : {A : Type 0} (xs : List A) (i j : ℕ) (d : A) → j < length xs - 1 → (j ≡ i → ⊥) → slice_get (swap_remove xs i d) j ≡ slice_get xs j
swap_other xs i j d less ne = swap_source xs (length xs) i j d refl less ∙ go (same_or j i)
  where
    go : (c : (j ≡ i) ⊎ (j ≡ i → ⊥)) → slice_get xs (pick c (length xs - 1)) ≡ slice_get xs j
    go (inl e) = absurd (ne e)
    go (inr other) = refl

pub swap_length : {A : Type 0} (xs : List A) (i : ℕ) (d : A) → length (swap_remove xs i d) ≡ length xs - 1
swap_length xs i d =
    take_length (slice_set xs i (slice_index_or xs (length xs - 1) d)) (length xs - 1)
    (let same = set_length xs i (slice_index_or xs (length xs - 1) d) in omega (arith, same))

-- ---- the observers of a script without one

abbrev is_other : List ℕ → Observer → Bool
is_other name x = not (bytes_eq name x.name)

differs : (name other : List ℕ) → (other ≡ name → ⊥) → bytes_eq name other ≡ false
differs name other ne = go (bytes_eq name other) refl
  where
    go : (b : Bool) → bytes_eq name other ≡ b → b ≡ false
    go true is = absurd (ne (sym ((bytes_eq-Decides name other).0 is)))
    go false is = refl

all_stay : (name : List ℕ) (made : List (Option Observer)) → ((j : ℕ) (y : Observer) → slice_get made j ≡ Some (Some y) → y.name ≡ name → ⊥)
    → filter (is_other name) (there_in made) ≡ there_in made
all_stay name [] none = refl
all_stay name (None ∷ made) none = all_stay name made (λ j y at. none (suc j) y at)
all_stay name (Some y ∷ made) none =
    rw (differs name y.name (λ e. none 0 y refl e)) (ap (λ (l : List Observer). y ∷ l) (all_stay name made (λ j z at. none (suc j) z at)))

one_leaves : (name : List ℕ) (made : List (Option Observer)) (j : ℕ) (x : Observer) → slice_get made j ≡ Some (Some x) → x.name ≡ name
    → ((l : ℕ) (y : Observer) → slice_get made l ≡ Some (Some y) → y.name ≡ name → l ≡ j)
    → filter (is_other name) (there_in made) ≡ there_in (slice_set made j None)
one_leaves name [] j x at named alone = absurd (cc)
one_leaves name (None ∷ made) zero x at named alone = absurd (cc)
one_leaves name (None ∷ made) (suc j) x at named alone =
    one_leaves name made j x at named (λ l y there same. let e = alone (suc l) y there same in omega (arith, e))
one_leaves name (Some y ∷ made) zero x at named alone =
    let same : y ≡ x = cc in
    let is : bytes_eq name y.name ≡ true = (bytes_eq-Decides name y.name).1 (sym named ∙ ap (λ (o : Observer). o.name) (sym same)) in
    rw is (all_stay name made (λ l z there e. let k = alone (suc l) z there e in absurd (omega (arith, k))))
one_leaves name (Some y ∷ made) (suc j) x at named alone =
    rw (differs name y.name (λ e. let k = alone 0 y refl e in absurd (omega (arith, k))))
    (ap (λ (l : List Observer). y ∷ l) (one_leaves name made j x at named (λ l z there same. let e = alone (suc l) z there same in omega (arith, e))))

pub among_place : (names : List (List ℕ)) (q : List ℕ) → is_among names q ≡ true → (i : ℕ) × (slice_get names i ≡ Some q)
among_place [] q is = absurd (cc)
among_place (n ∷ names) q is = go (bytes_eq q n) refl is (λ e. among_place names q e)
  where
    go : (b : Bool) → bytes_eq q n ≡ b → (b || is_among names q) ≡ true → (is_among names q ≡ true → (i : ℕ) × (slice_get names i ≡ Some q))
        → (i : ℕ) × (slice_get (n ∷ names) i ≡ Some q)
    go true same e later = (0, ap (λ (x : List ℕ). Some x) (sym ((bytes_eq-Decides q n).0 same)))
    go false same e later = let rest = later e in (suc rest.0, rest.1)

place_among : (names : List (List ℕ)) (i : ℕ) (q : List ℕ) → slice_get names i ≡ Some q → is_among names q ≡ true
place_among [] i q at = absurd (cc)
place_among (n ∷ names) zero q at = let same : n ≡ q = cc in rw ((bytes_eq-Decides q n).1 (sym same)) refl
place_among (n ∷ names) (suc i) q at = rw (place_among names i q at) (or_true (bytes_eq q n))
  where
    or_true : (b : Bool) → (b || true) ≡ true
    or_true true = refl
    or_true false = refl

-- one that is there has the name
abbrev Found : List (Option Observer) → List ℕ → Type 0
Found l q = (j : ℕ) × (x : Observer) × (slice_get l j ≡ Some (Some x)) × (x.name ≡ q)

there_place : (made : List (Option Observer)) (q : List ℕ) → is_among (map (λ (o : Observer). o.name) (there_in made)) q ≡ true
    → (j : ℕ) × (y : Observer) × (slice_get made j ≡ Some (Some y)) × (y.name ≡ q)
there_place [] q is = absurd (cc)
there_place (None ∷ made) q is = let rest = there_place made q is in (suc rest.0, rest.1, rest.2, rest.3)
there_place (Some y ∷ made) q is = go (bytes_eq q y.name) refl is (λ e. there_place made q e)
  where
    go : (b : Bool) → bytes_eq q y.name ≡ b → (b || is_among (map (λ (o : Observer). o.name) (there_in made)) q) ≡ true
        → (is_among (map (λ (o : Observer). o.name) (there_in made)) q ≡ true → Found made q) → Found (Some y ∷ made) q
    go true same e later = (0, y, refl, sym ((bytes_eq-Decides q y.name).0 same))
    go false same e later = let rest = later e in (suc rest.0, rest.1, rest.2, rest.3)

same_truth : (a b : Bool) → (a ≡ true → b ≡ true) → (b ≡ true → a ≡ true) → a ≡ b
same_truth true b to from = sym (to refl)
same_truth false true to from = from refl
same_truth false false to from = refl

-- ---- ending one

-- what is kept without an observer: the last name and id stand in its place
abbrev pub without_observer : Kept → ℕ → List ℕ → ObsId → GraphView (Unit {0}) → Kept
without_observer k i name o g = record k {
  names = record k.names { observers = swap_remove k.names.observers i name };
  observers = swap_remove k.observers i o;
  graph = g;
}

module _ (k : Kept) (name d : List ℕ) (i : ℕ) (o : ObsId) (g : GraphView (Unit {0})) (sound : IsSoundSession k)
    (at_id : slice_get k.observers i ≡ Some o) (at_name : slice_get k.names.observers i ≡ Some name) (ends : Ends k.graph g o) where
  abbrev new : Kept
  new = without_observer k i d o g

  abbrev last : ℕ
  last = length k.observers - 1

  id_at : (j : ℕ) (p : ObsId) → slice_get new.observers j ≡ Some p → (j < last) × (slice_get k.observers (source last i j) ≡ Some p)
  id_at j p at =
      let less = swap_within k.observers (length k.observers) i j o p refl at in
      (less, sym (swap_source k.observers (length k.observers) i j o refl less) ∙ at)

  name_at : (j : ℕ) (n : List ℕ) → slice_get new.names.observers j ≡ Some n → (j < last) × (slice_get k.names.observers (source last i j) ≡ Some n)
  name_at j n at =
      let less = swap_within k.names.observers (length k.observers) i j d n (sym sound.one_observer_each) at in
      (less, sym (swap_source k.names.observers (length k.observers) i j d (sym sound.one_observer_each) less) ∙ at)

  other_id : (j : ℕ) (p : ObsId) → slice_get new.observers j ≡ Some p → p.0 ≡ o.0 → ⊥
  other_id j p at same =
      let old = id_at j p at in
      let is : p ≡ o = λ i. record { 0 = same i } in
      source_other last i j old.0
      (apart_once k.observers sound.apart (source last i j) i o (subst (λ (q : ObsId). slice_get k.observers (source last i j) ≡ Some q) is old.1) at_id)

  slot_old : (p : ObsId) → (p.0 ≡ o.0 → ⊥) → slice_get g.observers p.0 ≡ slice_get k.graph.observers p.0
  slot_old p ne = rw ends.observers (set_other k.graph.observers o.0 p.0 (ended ends.node) ne)

  looks_old : (p : ObsId) → (p.0 ≡ o.0 → ⊥) → node_at g.observers p ≡ node_at k.graph.observers p
  looks_old p ne = ap looked_at (slot_old p ne)

  looking_left : (p : ObsId) → Among p new.observers → IsSome (node_at g.observers p)
  looking_left p among =
      let at = place_of new.observers p among in
      let old = id_at at.0 p at.1 in
      subst (λ (n : Option NodeId). IsSome n) (sym (looks_old p (other_id at.0 p at.1)))
      (sound.looking p (among_at k.observers (source last i at.0) p old.1))

  -- what is kept fits together still
  pub ending_sound : IsSoundSession new
  ending_sound = record {
    one_node_each = sound.one_node_each;
    has_nodes = subst (λ (a : Arena). HaveNodes a k.names.declared k.nodes) (sym ends.nodes) sound.has_nodes;
    few = subst (λ (a : Arena). AreFew k.bodies a k.room) (sym ends.nodes) sound.few;
    one_observer_each = swap_length k.observers i o ∙ ap (λ (n : ℕ). n - 1) sound.one_observer_each ∙ sym (swap_length k.names.observers i d);
    looking = looking_left;
    apart = once_apart new.observers (λ j l p at also.
        let old = id_at j p at in let old' = id_at l p also in
        source_apart last i j l old.0 old'.0 (apart_once k.observers sound.apart (source last i j) (source last i l) p old.1 old'.1));
    unbroken = λ e. ends.top.refused ∙ sound.unbroken e;
    clock = ap (λ (a : Arena). a.time) ends.nodes ∙ sound.clock;
  }

  module _ (F : Meanings) (m : Moment) (stands : MatchesMoment F k m) (unbroken : m.broken ≡ None) where
    abbrev s : State
    s = m.present

    abbrev then : State
    then = record s { observers = filter (is_other name) s.observers }

    w : Watches s k
    w = stands.watches

    ended_one : (x : Observer) × (slice_get w.made o.0 ≡ Some (Some x)) × (x.name ≡ name)
    ended_one = w.named i o name at_id at_name

    abbrev left : List (Option Observer)
    left = slice_set w.made o.0 None

    left_other : (j : ℕ) → (j ≡ o.0 → ⊥) → slice_get left j ≡ slice_get w.made j
    left_other j ne = set_other w.made o.0 j None ne

    left_same : slice_get left o.0 ≡ Some None
    left_same = set_same w.made o.0 None (get_some w.made o.0 (Some ended_one.0) ended_one.1)

    -- one that is left is another
    was_made : (j : ℕ) (y : Observer) → slice_get left j ≡ Some (Some y) → (j ≡ o.0 → ⊥) × (slice_get w.made j ≡ Some (Some y))
    was_made j y at = go (same_or j o.0)
      where
        go : (j ≡ o.0) ⊎ (j ≡ o.0 → ⊥) → (j ≡ o.0 → ⊥) × (slice_get w.made j ≡ Some (Some y))
        go (inl e) = let none : slice_get left j ≡ Some None = ap (slice_get left) e ∙ left_same in absurd (cc)
        go (inr ne) = (ne, sym (left_other j ne) ∙ at)

    alone : (j : ℕ) (y : Observer) → slice_get w.made j ≡ Some (Some y) → y.name ≡ name → j ≡ o.0
    alone j y at same = ap (λ (q : ObsId). q.0) (w.apart (record { 0 = j }) o y ended_one.0 at ended_one.1 (same ∙ sym ended_one.2))

    looks_ended : (p : ObsId) → p.0 ≡ o.0 → node_at g.observers p ≡ None
    looks_ended p e =
        let less : o.0 < length k.graph.observers = let c = get_some w.made o.0 (Some ended_one.0) ended_one.1 in let l = w.one_each in omega (arith, c, l) in
        rw (ends.observers, e) (ap looked_at (set_same k.graph.observers o.0 (ended ends.node) less))

    watching : Watches then new
    watching = record {
      made = left;
      one_each = set_length w.made o.0 None ∙ w.one_each
          ∙ sym (ap length ends.observers ∙ set_length k.graph.observers o.0 (ended ends.node));
      in_order = ap (filter (is_other name)) w.in_order ∙ one_leaves name w.made o.0 ended_one.0 ended_one.1 ended_one.2 alone;
      ended = λ p at. was_ended p at (same_or p.0 o.0);
      observing = λ p y at. let old = was_made p.0 y at in let h = w.observing p y old.1 in
          record { is = slot_old p old.0 ∙ h.is; target = h.target; refers = h.refers; told = h.told };
      named = λ j p n at_p at_n. let a = id_at j p at_p in let b = name_at j n at_n in let h = w.named (source last i j) p n a.1 b.1 in
          (h.0, left_other p.0 (other_id j p at_p) ∙ h.1, h.2);
      apart = λ p q y z at_p at_q same. w.apart p q y z (was_made p.0 y at_p).1 (was_made q.0 z at_q).1 same;
    }
      where
        was_ended : (p : ObsId) → slice_get left p.0 ≡ Some None → (p.0 ≡ o.0) ⊎ (p.0 ≡ o.0 → ⊥) → node_at g.observers p ≡ None
        was_ended p at (inl e) = looks_ended p e
        was_ended p at (inr ne) = looks_old p ne ∙ w.ended p (sym (left_other p.0 ne) ∙ at)

    names_left : (q : List ℕ) → is_among new.names.observers q ≡ is_among (map (λ (x : Observer). x.name) then.observers) q
    unfolding watching
    names_left q = same_truth (is_among new.names.observers q) (is_among (map (λ (x : Observer). x.name) then.observers) q) to from
      where
        to : is_among new.names.observers q ≡ true → is_among (map (λ (x : Observer). x.name) then.observers) q ≡ true
        to is =
            let j = among_place new.names.observers q is in
            let less = (name_at j.0 q j.1).0 in
            let p = slice_index_or new.observers j.0 o in
            let at_p : slice_get new.observers j.0 ≡ Some p = get_at new.observers j.0 o (let l = swap_length k.observers i o in omega (arith, less, l)) in
            let h = watching.named j.0 p q at_p j.1 in
            ap (λ (os : List Observer). is_among (map (λ (x : Observer). x.name) os) q) watching.in_order
            ∙ subst (λ (n : List ℕ). is_among (map (λ (x : Observer). x.name) (there_in left)) n ≡ true) h.2 (there_is_among left p.0 h.0 h.1)

        from : is_among (map (λ (x : Observer). x.name) then.observers) q ≡ true → is_among new.names.observers q ≡ true
        from is =
            let y = there_place left q (ap (λ (os : List Observer). is_among (map (λ (x : Observer). x.name) os) q) (sym watching.in_order) ∙ is) in
            let old = was_made y.0 y.1 y.2 in
            let there : is_among (names_of s).observers q ≡ true =
            ap (λ (os : List Observer). is_among (map (λ (x : Observer). x.name) os) q) w.in_order
            ∙ subst (λ (n : List ℕ). is_among (map (λ (x : Observer). x.name) (there_in w.made)) n ≡ true) y.3 (there_is_among w.made y.0 y.1 old.1) in
            let h = among_place k.names.observers q (stands.names.in_use q ∙ there) in
            let other : h.0 ≡ i → ⊥ = λ e. let same : Some q ≡ Some name = sym h.1 ∙ ap (slice_get k.names.observers) e ∙ at_name in
            let is_name : q ≡ name = cc in old.0 (alone y.0 y.1 old.1 (y.3 ∙ is_name)) in
            let i_less = get_some k.names.observers i name at_name in
            let h_less = get_some k.names.observers h.0 q h.1 in
            let each = sound.one_observer_each in
            let j = source_onto last i h.0 (omega (arith, i_less, each)) (omega (arith, h_less, each)) other in
            place_among new.names.observers j.0 q (swap_source k.names.observers (length k.observers) i j.0 d (sym each) j.1
            ∙ ap (slice_get k.names.observers) j.2 ∙ h.1)

    leaves : LeavesBeside k new
    leaves = record {
      rooted = λ p n at. rooted_left p n at (same_or p.0 o.0);
      since = ends.top.since;
      unfrozen = unfrozen_were (Given (arena_of k).given) (graph k.graph) (graph g)
          (λ n r kid f given row def. ap (λ (a : Arena). row_at a n) (sym ends.nodes) ∙ row) (λ n given. ends.of_nodes.frozen n tt);
      fewer = ends.fewer_links;
      given = let same = ap (λ (a : Arena). a.given) ends.nodes in omega (arith, same);
      last = λ n given. ends.of_nodes.last n tt;
      no_more_cutoffs = λ n equal. ends.cutoff n ∙ equal;
    }
      where
        rooted_left : (p : ObsId) (n : NodeId) → rooted_at g p ≡ Some n → (p.0 ≡ o.0) ⊎ (p.0 ≡ o.0 → ⊥) → rooted_at k.graph p ≡ Some n
        rooted_left p n at (inl e) = absurd (let none = sym (looks_ended p e) ∙ (rooted_looks g p n at).1 in cc)
        rooted_left p n at (inr ne) = rooted_still g k.graph p (sym ends.top.rooted) (sym (looks_old p ne)) n at

    still : StillDeclares s k.nodes (graph k.graph) then new
    still = record {
      formulas = λ owner path f is. is;
      bodies = λ n b has is. is;
      targets = λ n e is. (e, is, refl);
      names = λ n e is. refl;
      rows = λ n r u is def. ap (λ (a : Arena). row_at a n) ends.nodes ∙ is;
      freezes = λ n r kid f is def. ap (λ (a : Arena). row_at a n) ends.nodes ∙ is;
      lives = λ n r is. (r, ap (λ (a : Arena). row_at a n) ends.nodes ∙ is);
      built = λ b r is. ends.of_nodes.built b tt;
    }

    scopes_still : ScopesBuilt (graph k.graph) → ScopesBuilt (graph g)
    scopes_still built n r b is scope =
        subst (λ (w : Option BuiltFor). IsSome w) (sym (ends.of_nodes.built b tt)) (built n r b (ap (λ (a : Arena). row_at a n) (sym ends.nodes) ∙ is) scope)

    -- and it matches the moment without the observer
    pub ending_stands : MatchesMoment F new (moved m (Unobserve name))
    ending_stands = record {
      names = record { declared = stands.names.declared; now = stands.names.now; in_use = names_left };
      accepted = stands.accepted;
      broken = stands.broken;
      represents = λ whole.
          represents_so F s (filter (is_other name) s.observers) s.accepted k new refl refl refl ends.nodes (λ n. ends.of_nodes.built n tt)
          (λ n. ends.of_nodes.frozen n tt) (λ n. ends.of_nodes.lists n tt) (stands.represents whole);
      watches = watching;
      settled = λ whole.
          settled_on F m.settled s then k new leaves (leaves_marks s then k new (λ n. refl) (λ n given. ends.of_nodes.marks n tt)) still
          (λ n b v was. was) scopes_still
          (λ x among is. among_filter x (is_other name) s.observers among) (stands.settled whole);
    }
