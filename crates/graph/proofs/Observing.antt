-- The nodes of the observers that are in use, and who stands among the observers once one is made, ended or watched.
use Rattle.std.proofs.Common.{◌≡◌, inl, inr, ℕ, zero, suc, ◌⊎◌, ◌<◌, ◌≤◌, Bool, true, false, cond, List, [], ◌∷◌, ◌++◌, length, map, take, drop, Option, None, Some, refl, sym, ap, subst, ◌∙◌, arith}
use Rattle.std.specs.Prelude.{slice_get, slice_set, slice_index_or, IsSome, All}
use Rattle.std.proofs.lemmas.Option.{none-some}
use Rattle.std.proofs.lemmas.List.{map-append, take-append-drop, drop-append-le}
use Rattle.inc_value.specs.declared.node.NodeId.{NodeId}
use Rattle.inc_value.specs.declared.node.Point.{Point}
use Rattle.inc_value.specs.Choice.{Among}
use Rattle.inc_terms.specs.Depend.{main}
use Rattle.stabilize_round.specs.State.{count}
use Rattle.stabilize_round.proofs.Points.{count_append}
use Rattle.inc_value.specs.declared.outcome.Outcome.{Outcome}
use Rattle.observers.specs.Observers.{in_use, looked_at, shown_in, new_observer, ended, watched}
use Rattle.observers.specs.declared.observer.Observer.{Observer}
use Rattle.inc_terms.proofs.Plan.{among_left, among_right, among_parts}

-- ---- membership

-- what stands at a place is among the list
pub index_among : {A : Type 0} (xs : List A) (k : ℕ) (d : A) → k < length xs → Among (slice_index_or xs k d) xs
index_among [] k d h = absurd (omega (arith, h))
index_among (x ∷ xs) zero d h = inl refl
index_among (x ∷ xs) (suc k) d h = inr (index_among xs k d (omega (arith, h)))

-- what all that is among a list has
pub all_of : {A : Type 0} (P : A → Type 0) (xs : List A) → ((x : A) → Among x xs → P x) → All P xs
all_of P xs h k d below = h (slice_index_or xs k d) (index_among xs k d below)

pub among_swapped : {A : Type 0} (x : A) (xs ys : List A) → Among x (xs ++ ys) → Among x (ys ++ xs)
among_swapped x xs ys h = elim (among_parts x xs ys h) [ inl k ↦ among_right x ys xs k | inr k ↦ among_left x ys xs k ]

-- a list put together the other way counts the same
pub count_swapped : (p : Point) (xs ys : List NodeId) → count p (map main (xs ++ ys)) ≡ count p (map main (ys ++ xs))
count_swapped p xs ys =
    let a = ap (count p) (map-append main xs ys) in
    let b = ap (count p) (map-append main ys xs) in
    let c = count_append p (map main xs) (map main ys) in
    let d = count_append p (map main ys) (map main xs) in
    omega (arith, a, b, c, d)

-- ---- observers in use

joined_append : (b : Bool) (n : NodeId) (ns ms : List NodeId) → cond b (n ∷ ns) ns ++ ms ≡ cond b (n ∷ (ns ++ ms)) (ns ++ ms)
joined_append true n ns ms = refl
joined_append false n ns ms = refl

pub in_use_append : (xs ys : List Observer) → in_use (xs ++ ys) ≡ in_use xs ++ in_use ys
in_use_append [] ys = refl
in_use_append (x ∷ xs) ys = ap (λ (ns : List NodeId). cond x.in_use (x.node ∷ ns) ns) (in_use_append xs ys)
    ∙ sym (joined_append x.in_use x.node (in_use xs) (in_use ys))

more_among : (b : Bool) (m n : NodeId) (ns : List NodeId) → Among n ns → Among n (cond b (m ∷ ns) ns)
more_among true m n ns h = inr h
more_among false m n ns h = h

-- a node that an observer in use looks at
pub looked_among : (os : List Observer) (i : ℕ) (n : NodeId) → looked_at (slice_get os i) ≡ Some n → Among n (in_use os)
looked_among [] i n e = absurd (none-some n e)
looked_among (o ∷ os) zero n e = first o.in_use e
  where
    first : (b : Bool) → cond b (Some o.node) None ≡ Some n → Among n (cond b (o.node ∷ in_use os) (in_use os))
    first true e = inl (let s = e in cc)
    first false e = absurd (none-some n e)
looked_among (o ∷ os) (suc i) n e = more_among o.in_use o.node n (in_use os) (looked_among os i n e)

-- the front of the list has what stands there
pub front_same : {A : Type 0} (xs : List A) (r i : ℕ) → i < r → slice_get (take r xs) i ≡ slice_get xs i
front_same [] zero i h = refl
front_same [] (suc r) i h = refl
front_same (x ∷ xs) zero i h = absurd (omega (arith, h))
front_same (x ∷ xs) (suc r) zero h = refl
front_same (x ∷ xs) (suc r) (suc i) h = front_same xs r i (omega (arith, h))

pub front_among : (os : List Observer) (r i : ℕ) (n : NodeId) → i < r → looked_at (slice_get os i) ≡ Some n → Among n (in_use (take r os))
front_among os r i n h e = looked_among (take r os) i n (ap looked_at (front_same os r i h) ∙ e)

either : (b : Bool) (m n : NodeId) (ns ms : List NodeId) → (Among n ns → Among n ms) → Among n (cond b (m ∷ ns) ns) → Among n (cond b (m ∷ ms) ms)
either true m n ns ms f (inl e) = inl e
either true m n ns ms f (inr k) = inr (f k)
either false m n ns ms f k = f k

pub front_is_among : (os : List Observer) (r : ℕ) (n : NodeId) → Among n (in_use (take r os)) → Among n (in_use os)
front_is_among [] zero n h = h
front_is_among [] (suc r) n h = h
front_is_among (o ∷ os) zero n h = absurd h
front_is_among (o ∷ os) (suc r) n h = either o.in_use o.node n (in_use (take r os)) (in_use os) (front_is_among os r n) h

-- ---- an observer is ended

-- the nodes in use round one that isn't any more
pub record IsLeftOut (node : NodeId) (before after : List NodeId) : Type 0 where
  pub front : List NodeId
  pub back : List NodeId
  pub was : before ≡ front ++ node ∷ back
  pub now : after ≡ front ++ back

first_out : (o : Observer) (node : NodeId) (ns : List NodeId) (b : Bool) → cond b (Some o.node) None ≡ Some node
    → IsLeftOut node (cond b (o.node ∷ ns) ns) ns
first_out o node ns true e = record { front = []; back = ns; was = let s = e in cc; now = refl }
first_out o node ns false e = absurd (none-some node e)

later_out : (b : Bool) (m node : NodeId) (before after : List NodeId) → IsLeftOut node before after
    → IsLeftOut node (cond b (m ∷ before) before) (cond b (m ∷ after) after)
later_out true m node before after h = record {
  front = m ∷ h.front;
  back = h.back;
  was = ap (λ (ns : List NodeId). m ∷ ns) h.was;
  now = ap (λ (ns : List NodeId). m ∷ ns) h.now;
}
later_out false m node before after h = h

pub left_out : (os : List Observer) (i : ℕ) (node : NodeId) → looked_at (slice_get os i) ≡ Some node
    → IsLeftOut node (in_use os) (in_use (slice_set os i (ended node)))
left_out [] i node e = absurd (none-some node e)
left_out (o ∷ os) zero node e = first_out o node (in_use os) o.in_use e
left_out (o ∷ os) (suc i) node e = later_out o.in_use o.node node (in_use os) (in_use (slice_set os i (ended node))) (left_out os i node e)

-- so in the front of the list, where it stood there; and else the front stays
pub front_set : {A : Type 0} (xs : List A) (r i : ℕ) (y : A) → i < r → take r (slice_set xs i y) ≡ slice_set (take r xs) i y
front_set [] zero i y h = refl
front_set [] (suc r) i y h = refl
front_set (x ∷ xs) zero i y h = absurd (omega (arith, h))
front_set (x ∷ xs) (suc r) zero y h = refl
front_set (x ∷ xs) (suc r) (suc i) y h = ap (λ (ys : List _). x ∷ ys) (front_set xs r i y (omega (arith, h)))

pub front_stays : {A : Type 0} (xs : List A) (r i : ℕ) (y : A) → r ≤ i → take r (slice_set xs i y) ≡ take r xs
front_stays [] zero i y h = refl
front_stays [] (suc r) i y h = refl
front_stays (x ∷ xs) zero i y h = refl
front_stays (x ∷ xs) (suc r) zero y h = absurd (omega (arith, h))
front_stays (x ∷ xs) (suc r) (suc i) y h = ap (λ (ys : List _). x ∷ ys) (front_stays xs r i y (omega (arith, h)))

pub left_is_among : (node n : NodeId) (before after : List NodeId) → IsLeftOut node before after → Among n after → Among n before
left_is_among node n before after h among = subst (Among n) (sym h.was) (elim (among_parts n h.front h.back (subst (Among n) h.now among)) [
  | inl k ↦ among_left n h.front (node ∷ h.back) k
  | inr k ↦ among_right n h.front (node ∷ h.back) (inr k)
])

-- ---- the observers from a place on

-- the nodes in use of the front and of the rest
pub in_use_split : (os : List Observer) (r : ℕ) → in_use (take r os) ++ in_use (drop r os) ≡ in_use os
in_use_split os r = sym (in_use_append (take r os) (drop r os)) ∙ ap in_use (take-append-drop r os)

-- what stands in the front, or in the rest, is among all
pub front_in : {A : Type 0} (xs : List A) (r : ℕ) (x : A) → Among x (take r xs) → Among x xs
front_in xs r x h = subst (Among x) (take-append-drop r xs) (among_left x (take r xs) (drop r xs) h)

-- ---- who is in use

user_first : (b : Bool) (m n : NodeId) (ns : List NodeId) → b ≡ true → n ≡ m → Among n (cond b (m ∷ ns) ns)
user_first true m n ns is e = inl e
user_first false m n ns is e = absurd (cc)

-- the node of an observer in use is among the nodes of those in use
pub user_among : (os : List Observer) (o : Observer) → Among o os → o.in_use ≡ true → Among o.node (in_use os)
user_among [] o h used = absurd h
user_among (p ∷ os) o (inl e) used = user_first p.in_use p.node o.node (in_use os) (ap (λ (q : Observer). q.in_use) (sym e) ∙ used)
    (ap (λ (q : Observer). q.node) e)
user_among (p ∷ os) o (inr h) used = more_among p.in_use p.node o.node (in_use os) (user_among os o h used)

-- an observer in use looks at the node
pub record IsUser (os : List Observer) (n : NodeId) : Type 0 where
  pub user : Observer
  pub among : Among user os
  pub used : user.in_use ≡ true
  pub looks : user.node ≡ n

later_user : (o : Observer) (os : List Observer) (n : NodeId) → IsUser os n → IsUser (o ∷ os) n
later_user o os n u = record { user = u.user; among = inr u.among; used = u.used; looks = u.looks }

first_user : (o : Observer) (os : List Observer) (n : NodeId) (b : Bool) → o.in_use ≡ b → Among n (cond b (o.node ∷ in_use os) (in_use os))
    → (Among n (in_use os) → IsUser os n) → IsUser (o ∷ os) n
first_user o os n true is (inl e) rest = record { user = o; among = inl refl; used = is; looks = sym e }
first_user o os n true is (inr h) rest = later_user o os n (rest h)
first_user o os n false is h rest = later_user o os n (rest h)

pub user_of : (os : List Observer) (n : NodeId) → Among n (in_use os) → IsUser os n
user_of [] n h = absurd h
user_of (o ∷ os) n h = first_user o os n o.in_use refl h (user_of os n)

-- where later observers show nothing, one that shows something is among the earlier ones
pub early_among : (os : List Observer) (r : ℕ) → ((o : Observer) → Among o (drop r os) → o.shown ≡ None) → (o : Observer) (x : Outcome)
    → Among o os → o.shown ≡ Some x → Among o (take r os)
early_among os r later o x among shown =
    elim (among_parts o (take r os) (drop r os) (subst (Among o) (sym (take-append-drop r os)) among)) [
      | inl front ↦ front
      | inr back ↦ absurd (none-some x (sym (later o back) ∙ shown))
    ]

-- ---- who stands there once one was made

pub made_front : (os : List Observer) (r : ℕ) (n : NodeId) (o : Observer) → r ≤ length os → Among o (drop r (os ++ new_observer n ∷ []))
    → Among o (drop r os) ⊎ (o ≡ new_observer n)
made_front os r n o within h =
    elim (among_parts o (drop r os) (new_observer n ∷ []) (subst (Among o) (drop-append-le r os (new_observer n ∷ []) within) h)) [
      | inl old ↦ inl old
      | inr (inl e) ↦ inr e
      | inr (inr none) ↦ absurd none
    ]

-- ---- who stands there once one was put

pub set_among : {A : Type 0} (xs : List A) (i : ℕ) (y x : A) → Among x (slice_set xs i y) → (x ≡ y) ⊎ Among x xs
set_among [] i y x h = absurd h
set_among (z ∷ xs) zero y x (inl e) = inl e
set_among (z ∷ xs) zero y x (inr h) = inr (inr h)
set_among (z ∷ xs) (suc i) y x (inl e) = inr (inl e)
set_among (z ∷ xs) (suc i) y x (inr h) = elim (set_among xs i y x h) [ inl e ↦ inl e | inr k ↦ inr (inr k) ]

pub set_front : {A : Type 0} (xs : List A) (r i : ℕ) (y x : A) → Among x (take r (slice_set xs i y)) → (x ≡ y) ⊎ Among x (take r xs)
set_front [] zero i y x h = absurd h
set_front [] (suc r) i y x h = absurd h
set_front (z ∷ xs) zero i y x h = absurd h
set_front (z ∷ xs) (suc r) zero y x (inl e) = inl e
set_front (z ∷ xs) (suc r) zero y x (inr h) = inr (inr h)
set_front (z ∷ xs) (suc r) (suc i) y x (inl e) = inr (inl e)
set_front (z ∷ xs) (suc r) (suc i) y x (inr h) = elim (set_front xs r i y x h) [ inl e ↦ inl e | inr k ↦ inr (inr k) ]

pub set_back : {A : Type 0} (xs : List A) (r i : ℕ) (y x : A) → Among x (drop r (slice_set xs i y)) → (x ≡ y) ⊎ Among x (drop r xs)
set_back xs zero i y x h = set_among xs i y x h
set_back [] (suc r) i y x h = absurd h
set_back (z ∷ xs) (suc r) zero y x h = inr h
set_back (z ∷ xs) (suc r) (suc i) y x h = set_back xs r i y x h

-- ---- who stands there once one is watched

-- an observer as one among these, but for how it is watched
pub record IsOneOf (os : List Observer) (o : Observer) : Type 0 where
  pub one : Observer
  pub among : Among one os
  pub node : o.node ≡ one.node
  pub used : o.in_use ≡ one.in_use
  pub shown : o.shown ≡ one.shown

pub watched_among : (os : List Observer) (k : ℕ) (o : Observer) → Among o (watched k os) → IsOneOf os o
watched_among [] k o h = absurd h
watched_among (p ∷ os) zero o (inl e) = record {
  one = p;
  among = inl refl;
  node = ap (λ (q : Observer). q.node) e;
  used = ap (λ (q : Observer). q.in_use) e;
  shown = ap (λ (q : Observer). q.shown) e;
}
watched_among (p ∷ os) zero o (inr h) = record { one = o; among = inr h; node = refl; used = refl; shown = refl }
watched_among (p ∷ os) (suc k) o (inl e) = record { one = o; among = inl e; node = refl; used = refl; shown = refl }
watched_among (p ∷ os) (suc k) o (inr h) =
    let w = watched_among os k o h in record { one = w.one; among = inr w.among; node = w.node; used = w.used; shown = w.shown }

pub watched_front : (os : List Observer) (k r : ℕ) → take r (watched k os) ≡ watched k (take r os)
watched_front [] k zero = refl
watched_front [] k (suc r) = refl
watched_front (p ∷ os) zero zero = refl
watched_front (p ∷ os) (suc k) zero = refl
watched_front (p ∷ os) zero (suc r) = refl
watched_front (p ∷ os) (suc k) (suc r) = ap (λ (ps : List Observer). p ∷ ps) (watched_front os k r)

pub watched_back : (os : List Observer) (k r : ℕ) (o : Observer) → Among o (drop r (watched k os)) → IsOneOf (drop r os) o
watched_back os k zero o h = watched_among os k o h
watched_back [] k (suc r) o h = absurd h
watched_back (p ∷ os) zero (suc r) o h = record { one = o; among = h; node = refl; used = refl; shown = refl }
watched_back (p ∷ os) (suc k) (suc r) o h = watched_back os k r o h

pub in_use_watched : (os : List Observer) (k : ℕ) → in_use (watched k os) ≡ in_use os
in_use_watched [] k = refl
in_use_watched (p ∷ os) zero = refl
in_use_watched (p ∷ os) (suc k) = ap (λ (ns : List NodeId). cond p.in_use (p.node ∷ ns) ns) (in_use_watched os k)

-- ---- who shows something

-- the observer of this number is in use and shows this
pub record IsShowing (os : List Observer) (i : ℕ) (x : Outcome) : Type 0 where
  pub one : Observer
  pub among : Among one os
  pub used : one.in_use ≡ true
  pub shown : one.shown ≡ Some x
  pub looks : looked_at (slice_get os i) ≡ Some one.node

first_showing : (o : Observer) (os : List Observer) (x : Outcome) (b : Bool) → o.in_use ≡ b → cond b o.shown None ≡ Some x → IsShowing (o ∷ os) zero x
first_showing o os x true is e = record { one = o; among = inl refl; used = is; shown = e; looks = ap (λ (b : Bool). cond b (Some o.node) None) is }
first_showing o os x false is e = absurd (none-some x e)

pub showing_of : (os : List Observer) (i : ℕ) (x : Outcome) → shown_in (slice_get os i) ≡ Some x → IsShowing os i x
showing_of [] i x e = absurd (none-some x e)
showing_of (o ∷ os) zero x e = first_showing o os x o.in_use refl e
showing_of (o ∷ os) (suc i) x e =
    let s = showing_of os i x e in record { one = s.one; among = inr s.among; used = s.used; shown = s.shown; looks = s.looks }

used_some : (b : Bool) (n : NodeId) → IsSome (cond b (Some n) None) → b ≡ true
used_some true n some = refl
used_some false n some = absurd (cc)

shown_some : (b : Bool) (x : Option Outcome) → b ≡ true → IsSome x → cond b x None ≡ None → ⊥
shown_some true None is some none = absurd (cc)
shown_some true (Some x) is some none = absurd (cc)
shown_some false x is some none = absurd (cc)

-- one in use that shows nothing is a later one
pub unshown_late : (os : List Observer) (r i : ℕ) → ((o : Observer) → Among o (take r os) → o.in_use ≡ true → IsSome o.shown)
    → IsSome (looked_at (slice_get os i)) → shown_in (slice_get os i) ≡ None → r ≤ i
unshown_late [] r i showing used none = absurd (cc)
unshown_late (o ∷ os) zero i showing used none = omega arith
unshown_late (o ∷ os) (suc r) zero showing used none =
    let is = used_some o.in_use o.node used in absurd (shown_some o.in_use o.shown is (showing o (inl refl) is) none)
unshown_late (o ∷ os) (suc r) (suc i) showing used none =
    let h = unshown_late os r i (λ p among. showing p (inr among)) used none in omega (arith, h)

-- and a later one shows nothing
none_shown : (b : Bool) (x : Option Outcome) → x ≡ None → cond b x None ≡ None
none_shown true x e = e
none_shown false x e = refl

all_unshown : (os : List Observer) (i : ℕ) → ((o : Observer) → Among o os → o.shown ≡ None) → shown_in (slice_get os i) ≡ None
all_unshown [] i h = refl
all_unshown (o ∷ os) zero h = none_shown o.in_use o.shown (h o (inl refl))
all_unshown (o ∷ os) (suc i) h = all_unshown os i (λ p among. h p (inr among))

pub late_unshown : (os : List Observer) (r i : ℕ) → ((o : Observer) → Among o (drop r os) → o.shown ≡ None) → r ≤ i → shown_in (slice_get os i) ≡ None
late_unshown [] r i later within = refl
late_unshown (o ∷ os) zero i later within = all_unshown (o ∷ os) i later
late_unshown (o ∷ os) (suc r) zero later within = absurd (omega (arith, within))
late_unshown (o ∷ os) (suc r) (suc i) later within = late_unshown os r i later (omega (arith, within))
