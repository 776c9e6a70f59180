-- How many of the nodes in a list are live, and how many are counted dead.
use Rattle.std.proofs.Common.{◌≡◌, ◌∙◌, inl, inr, ℕ, suc, ◌+◌, ◌-◌, ◌*◌, ◌^◌, ◌<◌, ◌≤◌, ltb, Bool, true, false, cond, List, [], ◌∷◌, length, Some, IsSome, is_some, slice_get, refl, sym, ap, subst, arith}
use Rattle.std.specs.List.{filter, count_by}
use Rattle.std.proofs.lemmas.Bool.{cond_both, ltb-true, lt-ltb}
use Rattle.std.proofs.lemmas.Bool.Decides.{leb_tells}
use Rattle.std.proofs.lemmas.List.Sums.{sum_by-cons, count_by-le-length, length-filter}
use Rattle.inc_value.specs.Choice.{Among}
use Rattle.inc_value.specs.Counts.{raised}
use Rattle.inc_value.specs.declared.node.NodeId.{NodeId}
use Rattle.node_arena.specs.Arena.{Arena, IsLive, row_at}
use Rattle.node_lists.specs.Listed.{Listed, most_live, live_ones, given_before, live_count, CountsLive, IsTidied, Dies}

-- what passes the test stays
among_filter : {A : Type 0} (f : A → Bool) (x : A) (xs : List A) → f x ≡ true → Among x xs → Among x (filter f xs)
among_filter f x [] t h = absurd h
among_filter f x (y ∷ ys) t h =
    cond_both (f y) (y ∷ filter f ys) (filter f ys) (λ zs. Among x zs)
    (λ passes. elim h [ inl same ↦ inl same | inr i ↦ inr (among_filter f x ys t i) ])
    (λ fails. elim h [ inl same ↦ absurd (let k = ap f same in cc) | inr i ↦ among_filter f x ys t i ])

-- and nothing else
filter_among : {A : Type 0} (f : A → Bool) (x : A) (xs : List A) → Among x (filter f xs) → Among x xs × (f x ≡ true)
filter_among f x [] h = absurd h
filter_among f x (y ∷ ys) h =
    cond_both (f y) (y ∷ filter f ys) (filter f ys) (λ zs. Among x zs → Among x (y ∷ ys) × (f x ≡ true))
    (λ passes i. elim i [
      | inl same ↦ (inl same, ap f same ∙ passes)
      | inr j ↦ let r = filter_among f x ys j in (inr r.0, r.1)
    ])
    (λ fails i. let r = filter_among f x ys i in (inr r.0, r.1)) h

-- one that passes is counted
count_yes : {A : Type 0} (f : A → Bool) (x : A) (xs : List A) → f x ≡ true → count_by f (x ∷ xs) ≡ 1 + count_by f xs
count_yes f x xs e = sum_by-cons (λ y. cond (f y) 1 0) x xs ∙ ap (λ b. cond b 1 0 + count_by f xs) e

count_no : {A : Type 0} (f : A → Bool) (x : A) (xs : List A) → f x ≡ false → count_by f (x ∷ xs) ≡ 0 + count_by f xs
count_no f x xs e = sum_by-cons (λ y. cond (f y) 1 0) x xs ∙ ap (λ b. cond b 1 0 + count_by f xs) e

-- where what is so of an element was so, no more are
no_more : {A : Type 0} (f g : A → Bool) (xs : List A) → ((x : A) → Among x xs → g x ≡ true → f x ≡ true) → count_by g xs ≤ count_by f xs
no_more f g [] less = omega arith
no_more f g (x ∷ xs) less = by_two (g x) refl (f x) refl (no_more f g xs (λ y i. less y (inr i)))
  where
    by_two : (a : Bool) → g x ≡ a → (b : Bool) → f x ≡ b → count_by g xs ≤ count_by f xs → count_by g (x ∷ xs) ≤ count_by f (x ∷ xs)
    by_two true e true e' rest = let k = count_yes g x xs e in let k' = count_yes f x xs e' in omega (arith, k, k', rest)
    by_two false e true e' rest = let k = count_no g x xs e in let k' = count_yes f x xs e' in omega (arith, k, k', rest)
    by_two false e false e' rest = let k = count_no g x xs e in let k' = count_no f x xs e' in omega (arith, k, k', rest)
    by_two true e false e' rest = absurd (let k = less x (inl refl) e in cc)

-- and where one of them isn't so any more, fewer are
fewer_than : {A : Type 0} (f g : A → Bool) (p : A) (xs : List A) → ((x : A) → g x ≡ true → f x ≡ true) → f p ≡ true → g p ≡ false
    → Among p xs → count_by g xs + 1 ≤ count_by f xs
fewer_than f g p [] less was now i = absurd i
fewer_than f g p (x ∷ xs) less was now (inl e) =
    let rest = no_more f g xs (λ y i. less y) in
    let k = count_no g x xs (subst (λ y. g y ≡ false) e now) in
    let k' = count_yes f x xs (subst (λ y. f y ≡ true) e was) in
    omega (arith, k, k', rest)
fewer_than f g p (x ∷ xs) less was now (inr i) = by_two (g x) refl (f x) refl (fewer_than f g p xs less was now i)
  where
    by_two : (a : Bool) → g x ≡ a → (b : Bool) → f x ≡ b → count_by g xs + 1 ≤ count_by f xs → count_by g (x ∷ xs) + 1 ≤ count_by f (x ∷ xs)
    by_two true e true e' rest = let k = count_yes g x xs e in let k' = count_yes f x xs e' in omega (arith, k, k', rest)
    by_two false e true e' rest = let k = count_no g x xs e in let k' = count_yes f x xs e' in omega (arith, k, k', rest)
    by_two false e false e' rest = let k = count_no g x xs e in let k' = count_no f x xs e' in omega (arith, k, k', rest)
    by_two true e false e' rest = absurd (let k = less x e in cc)

-- of some of them no more pass
filtered_fewer : {A : Type 0} (f p : A → Bool) (xs : List A) → count_by f (filter p xs) ≤ count_by f xs
filtered_fewer f p [] = omega arith
filtered_fewer f p (x ∷ xs) =
    let rest = filtered_fewer f p xs in
    let one = sum_by-cons (λ y. cond (f y) 1 0) x xs in
    cond_both (p x) (x ∷ filter p xs) (filter p xs) (λ zs. count_by f zs ≤ count_by f (x ∷ xs))
    (λ _. let more = sum_by-cons (λ y. cond (f y) 1 0) x (filter p xs) in omega (arith, rest, one, more))
    (λ _. omega (arith, rest, one))

-- ---- nodes that are listed

-- where none is counted dead, no more are counted dead than there are dead ones
pub none_counted : (a : Arena) (l : Listed) → l.dead ≡ 0 → CountsLive a l
none_counted a l e = let few = count_by-le-length (λ n. is_some (row_at a n)) l.nodes in omega (arith, few, e)

-- a node of the list dies, so one fewer at least is live
pub one_died : (a b : Arena) (n : NodeId) (ns : List NodeId) → Dies a b n ns → live_count b ns + 1 ≤ live_count a ns
one_died a b n ns dies =
    fewer_than (λ m. is_some (row_at a m)) (λ m. is_some (row_at b m)) n ns less dies.lived (ap is_some dies.died.changed) dies.listed
  where
    less : (m : NodeId) → IsLive b m → IsLive a m
    less m h =
        subst IsSome (dies.died.others m (λ same. let x = subst IsSome dies.died.changed (subst (λ k. IsSome (row_at b k)) same h) in absurd (cc))) h

-- it is counted dead
pub forgotten_counts : (a b : Arena) (n : NodeId) (l l' : Listed) → l'.nodes ≡ l.nodes → l'.dead ≡ raised l.dead → Dies a b n l.nodes
    → CountsLive a l → CountsLive b l'
forgotten_counts a b n l l' same dead dies counts =
    let fewer = one_died a b n l.nodes dies in
    let n_items = ap (λ (ns : List NodeId). length ns) same in
    let n_live = ap (λ (ns : List NodeId). live_count b ns) same in
    omega (arith, dead, fewer, counts, n_items, n_live)

pub forgotten_live : (a b : Arena) (n : NodeId) (l l' : Listed) → l'.nodes ≡ l.nodes → l'.dead ≡ raised l.dead → length l.nodes < 2 ^ 63
    → Dies a b n l.nodes → CountsLive a l → most_live l' + 1 ≡ most_live l
forgotten_live a b n l l' same dead small dies counts =
    let fewer = one_died a b n l.nodes dies in
    let n_items = ap (λ (ns : List NodeId). length ns) same in
    let more : l'.dead ≡ l.dead + 1 = omega (arith, dead, fewer, counts, small) in
    omega (arith, more, fewer, counts, n_items)

-- where the live ones are left, and none is counted dead, no more aren't counted dead than before
live_left : (a : Arena) (l : Listed) → CountsLive a l → length (live_ones a l.nodes) ≤ most_live l
live_left a l counts = let e = length-filter (λ n. is_some (row_at a n)) l.nodes in omega (arith, e, counts)

-- the nodes of before a count
module _ (count : ℕ) (n : NodeId) (ns : List NodeId) where
  pub left_kept : n.gen_ < count → Among n ns → Among n (given_before count ns)
  left_kept before i = among_filter (λ (m : NodeId). ltb m.gen_ count) n ns (lt-ltb n.gen_ count before) i

  pub left_before : Among n (given_before count ns) → n.gen_ < count
  left_before i = ltb-true n.gen_ count (filter_among (λ (m : NodeId). ltb m.gen_ count) n ns i).1

  pub left_listed : Among n (given_before count ns) → Among n ns
  left_listed i = (filter_among (λ (m : NodeId). ltb m.gen_ count) n ns i).0

-- no more are live, and no more are left, where those that are gone are counted dead no longer
module _ (l new : Listed) (count : ℕ) (nodes : new.nodes ≡ given_before count l.nodes) where
  pub left_fewer : length new.nodes ≤ length l.nodes
  left_fewer =
      let e = length-filter (λ (m : NodeId). ltb m.gen_ count) l.nodes in
      let few = count_by-le-length (λ (m : NodeId). ltb m.gen_ count) l.nodes in
      let n_items = ap (λ (ns : List NodeId). length ns) nodes in
      omega (arith, e, few, n_items)

  left_live : (a : Arena) → live_count a new.nodes ≤ live_count a l.nodes
  left_live a = rw nodes (filtered_fewer (λ m. is_some (row_at a m)) (λ (m : NodeId). ltb m.gen_ count) l.nodes)

  module _ (dead : new.dead ≡ l.dead - (length l.nodes - length new.nodes)) where
    pub left_counts : (a : Arena) → CountsLive a l → CountsLive a new
    left_counts a counts =
        let few = left_fewer in
        let fewer = left_live a in
        let at_most = count_by-le-length (λ m. is_some (row_at a m)) new.nodes in
        omega (arith, few, fewer, at_most, counts, dead)

    pub left_most : most_live new ≤ most_live l
    left_most = let few = left_fewer in omega (arith, few, dead)

-- the dead are gone, or nothing changed
module _ (a : Arena) (old new : Listed) (tidied : IsTidied a old new) where
  pub tidied_kept : (n : NodeId) → IsLive a n → Among n old.nodes → Among n new.nodes
  tidied_kept n lives i = elim (leb_tells (2 * old.dead) (length old.nodes)) [
    | inl h ↦ subst (λ ns. Among n ns) (sym (tidied.few h.1).0) i
    | inr h ↦ subst (λ ns. Among n ns) (sym (tidied.many h.1).0) (among_filter (λ m. is_some (row_at a m)) n old.nodes lives i)
  ]

  pub tidied_fewer : (n : NodeId) → Among n new.nodes → Among n old.nodes
  tidied_fewer n i = elim (leb_tells (2 * old.dead) (length old.nodes)) [
    | inl h ↦ subst (λ ns. Among n ns) (tidied.few h.1).0 i
    | inr h ↦ (filter_among (λ m. is_some (row_at a m)) n old.nodes (subst (λ ns. Among n ns) (tidied.many h.1).0 i)).0
  ]

  pub tidied_counts : (b : Arena) → CountsLive b old → CountsLive b new
  tidied_counts b counts = elim (leb_tells (2 * old.dead) (length old.nodes)) [
    | inl h ↦
        let same = tidied.few h.1 in
        let n_items = ap (λ (ns : List NodeId). length ns) same.0 in
        let n_live = ap (λ (ns : List NodeId). live_count b ns) same.0 in
        let dead = same.1 in
        omega (arith, n_items, n_live, dead, counts)
    | inr h ↦ none_counted b new (tidied.many h.1).1
  ]

  pub tidied_live : CountsLive a old → most_live new ≤ most_live old
  tidied_live counts = elim (leb_tells (2 * old.dead) (length old.nodes)) [
    | inl h ↦
        let same = tidied.few h.1 in
        let n_items = ap (λ (ns : List NodeId). length ns) same.0 in
        let dead = same.1 in
        omega (arith, n_items, dead)
    | inr h ↦
        let left = live_left a old counts in
        let n_items = ap (λ (ns : List NodeId). length ns) (tidied.many h.1).0 in
        let dead = (tidied.many h.1).1 in
        omega (arith, n_items, dead, left)
  ]

-- a place of a node that is listed
pub place_of : (n : NodeId) (ns : List NodeId) → Among n ns → (place : ℕ) × (place < length ns) × (slice_get ns place ≡ Some n)
place_of n [] h = absurd h
place_of n (x ∷ xs) (inl e) = (0, (omega arith), ap Some (sym e))
place_of n (x ∷ xs) (inr h) = let r = place_of n xs h in (suc r.0, (let k = r.1 in omega (arith, k)), r.2)
