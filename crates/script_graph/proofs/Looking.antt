-- The observers of a script and those of its graph.
use Rattle.std.proofs.Common.{◌≡◌, ◌⊎◌, inl, inr, ℕ, zero, suc, ◌+◌, Bool, true, false, cond, List, [], ◌∷◌, ◌++◌, map, length, Option, None, Some, refl, ap, sym, subst, ◌∙◌, arith, slice_get}
use Rattle.inc_value.specs.Choice.{Among, and_then}
use Rattle.inc_value.specs.declared.function.FnRef.{FnRef}
use Rattle.inc_value.specs.declared.node.NodeId.{NodeId}
use Rattle.observers.specs.Observers.{in_use, looked_at}
use Rattle.observers.specs.declared.observer.Observer.{Observer as Looking}
use Rattle.inc_terms.proofs.Plan.{among_left, among_map, among_right}
use Rattle.script_model.specs.Formula.{State, Entry, Body, Formula, Observer, Freeze, body_at}
use Rattle.script_model.specs.Need.{Item, Named, own_root, own_roots, roots}
use Rattle.script_graph.specs.Represents.{there_in}
use Rattle.transfer.proofs.Typed.{body_entry}

-- ---- in order

off : (b : Bool) (n : NodeId) → cond b (Some n) None ≡ None → b ≡ false
off true n e = absurd (cc)
off false n e = refl

on : (b : Bool) (n m : NodeId) → cond b (Some n) None ≡ Some m → (b ≡ true) × (n ≡ m)
on true n m e = (refl, (cc))
on false n m e = absurd (cc)

-- where at each place an observer was ended or looks at its target's node, those in use look at the nodes of the targets, in order
pub looked_all : (nodes : ℕ → NodeId) (made : List (Option Observer)) (os : List Looking) → length made ≡ length os
    → ((j : ℕ) → slice_get made j ≡ Some None → looked_at (slice_get os j) ≡ None)
    → ((j : ℕ) (x : Observer) → slice_get made j ≡ Some (Some x) → looked_at (slice_get os j) ≡ Some (nodes x.target))
    → in_use os ≡ map (λ (x : Observer). nodes x.target) (there_in made)
looked_all nodes [] [] same ended looks = refl
looked_all nodes [] (o ∷ os) same ended looks = absurd (omega (arith, same))
looked_all nodes (x ∷ made) [] same ended looks = absurd (omega (arith, same))
looked_all nodes (None ∷ made) (o ∷ os) same ended looks =
    let rest = looked_all nodes made os (omega (arith, same)) (λ j e. ended (suc j) e) (λ j x e. looks (suc j) x e) in
    ap (λ (b : Bool). cond b (o.node ∷ in_use os) (in_use os)) (off o.in_use o.node (ended 0 refl)) ∙ rest
looked_all nodes (Some x ∷ made) (o ∷ os) same ended looks =
    let rest = looked_all nodes made os (omega (arith, same)) (λ j e. ended (suc j) e) (λ j y e. looks (suc j) y e) in
    let first = on o.in_use o.node (nodes x.target) (looks 0 x refl) in
    ap (λ (b : Bool). cond b (o.node ∷ in_use os) (in_use os)) first.0
    ∙ (ap (λ (n : NodeId). n ∷ in_use os) first.1 ∙ ap (λ (ns : List NodeId). nodes x.target ∷ ns) rest)

-- ---- roots

pub same_name : (a b : ℕ) → Named a ≡ Named b → a ≡ b
same_name a b e = cc

either_list : (x : Item) (xs ys : List Item) → Among x (xs ++ ys) → Among x xs ⊎ Among x ys
either_list x [] ys among = inr among
either_list x (y ∷ xs) ys (inl e) = inl (inl e)
either_list x (y ∷ xs) ys (inr among) = elim (either_list x xs ys among) [ inl first ↦ inl (inr first) | inr second ↦ inr second ]

-- where need begins among declarations is at a freeze that keeps no value
own_root_is : (s : State) (n t : ℕ) (b : Body) → Among (Named t) (own_root s n b)
    → (t ≡ n) × (child : Formula) × (predicate : FnRef) × (b ≡ Freeze child predicate None)
own_root_is s n t (Freeze child predicate None) (inl e) = (same_name t n e, child, predicate, refl)
own_root_is s n t (Freeze child predicate None) (inr none) = absurd none
own_root_is s n t (Freeze child predicate (Some v)) none = absurd none
own_root_is s n t b none = absurd none

own_roots_are : (s : State) (n t : ℕ) (es : List Entry) → Among (Named t) (own_roots s n es)
    → (j : ℕ) × (e : Entry) × (child : Formula) × (predicate : FnRef) × (slice_get es j ≡ Some e) × (t ≡ n + j) × (e.body ≡ Freeze child predicate None)
own_roots_are s n t [] none = absurd none
own_roots_are s n t (e ∷ es) among = elim (either_list (Named t) (own_root s n e.body) (own_roots s (suc n) es) among) [
  | inl here ↦ (let h = own_root_is s n t e.body here in (0, e, h.1, h.2, refl, (let same = h.0 in omega (arith, same)), h.3))
  | inr later ↦ (let h = own_roots_are s (suc n) t es later in (suc h.0, h.1, h.2, h.3, h.4, (let same = h.5 in omega (arith, same)), h.6))
]

own_root_there : (s : State) (n : ℕ) (es : List Entry) (j : ℕ) (e : Entry) (child : Formula) (predicate : FnRef) → slice_get es j ≡ Some e
    → e.body ≡ Freeze child predicate None → (m : ℕ) → m ≡ n + j → Among (Named m) (own_roots s n es)
own_root_there s n [] j e child predicate at is m same = absurd (cc)
own_root_there s n (d ∷ es) zero e child predicate at is m same =
    let one : d ≡ e = cc in
    let place : m ≡ n = omega (arith, same) in
    among_left (Named m) (own_root s n d.body) (own_roots s (suc n) es)
    (subst (λ (b : Body). Among (Named m) (own_root s n b)) (sym (ap (λ (x : Entry). x.body) one ∙ is)) (inl (ap (λ (i : ℕ). Named i) place)))
own_root_there s n (d ∷ es) (suc j) e child predicate at is m same =
    among_right (Named m) (own_root s n d.body) (own_roots s (suc n) es)
    (own_root_there s (suc n) es j e child predicate at is m (omega (arith, same)))

-- what stands in the image of a list
pub among_image : {A B : Type 0} (f : A → B) (b : B) (xs : List A) → Among b (map f xs) → (a : A) × Among a xs × (b ≡ f a)
among_image f b [] among = absurd among
among_image f b (x ∷ xs) (inl e) = (x, inl refl, e)
among_image f b (x ∷ xs) (inr among) = let r = among_image f b xs among in (r.0, inr r.1, r.2)

-- a root is what an observer looks at, or a freeze that keeps no value
pub data IsRootName (s : State) (t : ℕ) : Type 0 where
  of_observer : (x : Observer) → Among x s.observers → t ≡ x.target → IsRootName s t
  of_freeze : (child : Formula) (predicate : FnRef) → body_at s t ≡ Some (Freeze child predicate None) → IsRootName s t

pub root_name : (s : State) (t : ℕ) → Among (Named t) (roots s) → IsRootName s t
root_name s t among = elim (either_list (Named t) (map (λ (o : Observer). Named o.target) s.observers) (own_roots s 0 s.entries) among) [
  | inl looked ↦ (let x = among_image (λ (o : Observer). Named o.target) (Named t) s.observers looked in of_observer x.0 x.1 (same_name t x.0.target x.2))
  | inr own ↦ (
      let h = own_roots_are s 0 t s.entries own in
      let place : t ≡ h.0 = (let same = h.5 in omega (arith, same)) in
      of_freeze h.2 h.3 (ap (body_at s) place ∙ (ap (λ (o : Option Entry). and_then o (λ (e : Entry). Some e.body)) h.4 ∙ ap (λ (b : Body). Some b) h.6))
      )
]

-- each of these is a root
pub observer_root : (s : State) (x : Observer) → Among x s.observers → Among (Named x.target) (roots s)
observer_root s x among =
    among_left (Named x.target) (map (λ (o : Observer). Named o.target) s.observers) (own_roots s 0 s.entries)
    (among_map (λ (o : Observer). Named o.target) x s.observers among)

pub freeze_root : (s : State) (t : ℕ) (child : Formula) (predicate : FnRef) → body_at s t ≡ Some (Freeze child predicate None)
    → Among (Named t) (roots s)
freeze_root s t child predicate is =
    let e = body_entry s t (Freeze child predicate None) is in
    among_right (Named t) (map (λ (o : Observer). Named o.target) s.observers) (own_roots s 0 s.entries)
    (own_root_there s 0 s.entries t e.0 child predicate e.1 e.2 t (omega arith))

module _ (s : State) (nodes : ℕ → NodeId) (observed : List NodeId) (are : observed ≡ map (λ (x : Observer). nodes x.target) s.observers) where
  -- an observed node is that of a root
  pub root_of_observed : (n : NodeId) → Among n observed → (t : ℕ) × Among (Named t) (roots s) × (nodes t ≡ n)
  root_of_observed n among =
      let x = among_image (λ (x : Observer). nodes x.target) n s.observers (subst (Among n) are among) in
      (x.0.target, observer_root s x.0 x.1, sym x.2)

  -- and what an observer looks at is observed
  pub observed_of_root : (x : Observer) → Among x s.observers → Among (nodes x.target) observed
  observed_of_root x among = subst (Among (nodes x.target)) (sym are) (among_map (λ (o : Observer). nodes o.target) x s.observers among)
