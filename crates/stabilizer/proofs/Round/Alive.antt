-- The ids of live nodes, each listed once.
use Rattle.std.proofs.Common.{◌≡◌, ◌⊎◌, inl, inr, ℕ, zero, suc, ◌+◌, ◌≤◌, ◌==◌, Bool, true, false, cond, List, [], ◌∷◌, length, Option, None, Some, is_some, count_by, slice_index_or, if◌then◌else◌, refl, sym, ap, subst, ◌∙◌, arith}
use Rattle.std.specs.Bool.{Decides}
use Rattle.std.proofs.lemmas.Bool.Decides.{Decides-eqb}
use Rattle.std.proofs.lemmas.List.Sums.{sum_by-cons}
use Rattle.std.proofs.lemmas.Option.{none-some}
use Rattle.inc_value.specs.Choice.{Among, NoRepeats, and_then}
use Rattle.inc_value.specs.declared.node.NodeId.{NodeId}
use Rattle.inc_terms.specs.Graph.{Row}
use Rattle.node_arena.specs.declared.arena.Entry.{Entry}
use Rattle.node_arena.specs.Arena.{Arena, IsLive, row_at, row_of, live}
use Rattle.stabilizer.proofs.Building.EveryPoint.{same_id}

-- the row of the generation in a slot
abbrev row_in : Option Entry → ℕ → Option Row
row_in o g = and_then o (λ (e : Entry). if e.gen_ == g then Some (row_of e.row) else None)

taken : (e : Entry) (g : ℕ) → ((e.gen_ ≡ g) × (row_in (Some e) g ≡ Some (row_of e.row))) ⊎ ((e.gen_ ≡ g → ⊥) × (row_in (Some e) g ≡ None))
taken e g = go (e.gen_ == g) (Decides-eqb e.gen_ g)
  where
    go : (b : Bool) → Decides b (e.gen_ ≡ g)
        → ((e.gen_ ≡ g) × ((if b then Some (row_of e.row) else None) ≡ Some (row_of e.row)))
        ⊎ ((e.gen_ ≡ g → ⊥) × ((if b then Some (row_of e.row) else None) ≡ None))
    go true d = inl (d.0 refl, refl)
    go false d = inr ((λ same. (let t = d.1 same in cc)), refl)

-- an entry's row is told by its generation
told : (e : Entry) (g : ℕ) → e.gen_ ≡ g → row_in (Some e) g ≡ Some (row_of e.row)
told e g same = elim (taken e g) [ inl h ↦ h.1 | inr none ↦ absurd (none.0 same) ]

generation_of : (e : Entry) (g : ℕ) (r : Row) → row_in (Some e) g ≡ Some r → e.gen_ ≡ g
generation_of e g r is = elim (taken e g) [ inl h ↦ h.0 | inr none ↦ absurd (none-some r (sym none.1 ∙ is)) ]

-- the ids of the entries in the slots from a number on
abbrev ids_from : ℕ → List (Option Entry) → List NodeId
ids_from k [] = []
ids_from k (None ∷ slots) = ids_from (suc k) slots
ids_from k (Some e ∷ slots) = record { slot = k; gen_ = e.gen_ } ∷ ids_from (suc k) slots

abbrev pub alive : Arena → List NodeId
alive a = ids_from 0 a.slots

pub counted : (o : Option Entry) (slots : List (Option Entry)) → count_by is_some (o ∷ slots) ≡ cond (is_some o) 1 0 + count_by is_some slots
counted o slots = sum_by-cons (λ (x : Option Entry). cond (is_some x) 1 0) o slots

so_many : (k : ℕ) (slots : List (Option Entry)) → length (ids_from k slots) ≡ count_by is_some slots
so_many k [] = refl
so_many k (None ∷ slots) = let c = counted None slots in let rest = so_many (suc k) slots in omega (arith, c, rest)
so_many k (Some e ∷ slots) = let c = counted (Some e) slots in let rest = so_many (suc k) slots in omega (arith, c, rest)

-- an id is of the entry in its slot
record IsOf (k : ℕ) (slots : List (Option Entry)) (n : NodeId) : Type 0 where
  place : ℕ
  entry : Entry
  there : slice_index_or slots place None ≡ Some entry
  slot : n.slot ≡ k + place
  generation : entry.gen_ ≡ n.gen_

is_of : (k : ℕ) (slots : List (Option Entry)) (n : NodeId) → Among n (ids_from k slots) → IsOf k slots n
is_of k [] n h = absurd h
is_of k (None ∷ slots) n h =
    let r = is_of (suc k) slots n h in let slot = r.slot in
    record { place = suc r.place; entry = r.entry; there = r.there; slot = omega (arith, slot); generation = r.generation }
is_of k (Some e ∷ slots) n (inl same) =
    let slot : n.slot ≡ k = ap (λ (m : NodeId). m.slot) same in
    record { place = 0; entry = e; there = refl; slot = omega (arith, slot); generation = sym (ap (λ (m : NodeId). m.gen_) same) }
is_of k (Some e ∷ slots) n (inr h) =
    let r = is_of (suc k) slots n h in let slot = r.slot in
    record { place = suc r.place; entry = r.entry; there = r.there; slot = omega (arith, slot); generation = r.generation }

listed : (k : ℕ) (slots : List (Option Entry)) (n : NodeId) (place : ℕ) (e : Entry) → slice_index_or slots place None ≡ Some e → n.slot ≡ k + place
    → e.gen_ ≡ n.gen_ → Among n (ids_from k slots)
listed k [] n place e there slot same = absurd (none-some e there)
listed k (None ∷ slots) n zero e there slot same = absurd (none-some e there)
listed k (None ∷ slots) n (suc i) e there slot same = listed (suc k) slots n i e there (omega (arith, slot)) same
listed k (Some d ∷ slots) n zero e there slot same =
    let entry : d ≡ e = (let t : Some d ≡ Some e = there in cc) in
    inl (same_id n k d.gen_ (omega (arith, slot)) (sym same ∙ ap (λ (x : Entry). x.gen_) (sym entry)))
listed k (Some d ∷ slots) n (suc i) e there slot same = inr (listed (suc k) slots n i e there (omega (arith, slot)) same)

once_from : (k : ℕ) (slots : List (Option Entry)) → NoRepeats (ids_from k slots)
once_from k [] = tt
once_from k (None ∷ slots) = once_from (suc k) slots
once_from k (Some e ∷ slots) =
    ((λ h. (let slot = (is_of (suc k) slots (record { slot = k; gen_ = e.gen_ }) h).slot in absurd (omega (arith, slot)))), once_from (suc k) slots)

-- as many are listed as are live
pub alive_count : (a : Arena) → length (alive a) ≡ live a
alive_count a = so_many 0 a.slots

pub alive_once : (a : Arena) → NoRepeats (alive a)
alive_once a = once_from 0 a.slots

-- each of them is live
pub alive_row : (a : Arena) (n : NodeId) → Among n (alive a) → (r : Row) × (row_at a n ≡ Some r)
alive_row a n h =
    let r = is_of 0 a.slots n h in
    let slot = r.slot in
    let place : n.slot ≡ r.place = omega (arith, slot) in (
      row_of r.entry.row,
      ap (λ (o : Option Entry). row_in o n.gen_) (ap (λ (s : ℕ). slice_index_or a.slots s None) place ∙ r.there)
          ∙ told r.entry n.gen_ r.generation,
    )

-- and all live nodes are
pub among_alive : (a : Arena) (n : NodeId) (r : Row) → row_at a n ≡ Some r → Among n (alive a)
among_alive a n r row = by (slice_index_or a.slots n.slot None) refl
  where
    by : (o : Option Entry) → slice_index_or a.slots n.slot None ≡ o → Among n (alive a)
    by None e = absurd (none-some r (sym (ap (λ (o : Option Entry). row_in o n.gen_) e) ∙ row))
    by (Some d) e = listed 0 a.slots n n.slot d e (omega arith)
        (generation_of d n.gen_ r (sym (ap (λ (o : Option Entry). row_in o n.gen_) e) ∙ row))

-- ---- as many as are live at most

-- a list without a place of an element
abbrev without : {A : Type 0} (n : A) (ns : List A) → Among n ns → List A
without n [] h = absurd h
without n (m ∷ ns) (inl same) = ns
without n (m ∷ ns) (inr h) = m ∷ without n ns h

one_fewer : {A : Type 0} (n : A) (ns : List A) (h : Among n ns) → length (without n ns h) + 1 ≡ length ns
one_fewer n [] h = absurd h
one_fewer n (m ∷ ns) (inl same) = omega arith
one_fewer n (m ∷ ns) (inr h) = let rest = one_fewer n ns h in omega (arith, rest)

still_among : {A : Type 0} (m n : A) (ns : List A) (h : Among n ns) → (m ≡ n → ⊥) → Among m ns → Among m (without n ns h)
still_among m n [] h other among = absurd h
still_among m n (k ∷ ns) (inl same) other (inl is) = absurd (other (is ∙ sym same))
still_among m n (k ∷ ns) (inl same) other (inr rest) = rest
still_among m n (k ∷ ns) (inr h) other (inl is) = inl is
still_among m n (k ∷ ns) (inr h) other (inr rest) = inr (still_among m n ns h other rest)

-- what is listed once and all of another list isn't more than that
pub at_most : {A : Type 0} (ms ns : List A) → NoRepeats ms → ((m : A) → Among m ms → Among m ns) → length ms ≤ length ns
at_most [] ns once all = omega arith
at_most (m ∷ ms) ns once all =
    let h = all m (inl refl) in
    let fewer = one_fewer m ns h in
    let rest = at_most ms (without m ns h) once.1 (λ k a. still_among k m ns h
    (λ same. once.0 (subst (λ x. Among x ms) same a)) (all k (inr a))) in
    omega (arith, fewer, rest)

some_row : (x : Option Row) → is_some x ≡ true → (r : Row) × (x ≡ Some r)
some_row None h = absurd (cc)
some_row (Some r) h = (r, refl)

-- where each live node lived before, as many lived at least
pub fewer_live : (old new : Arena) → ((n : NodeId) (r : Row) → row_at new n ≡ Some r → IsLive old n) → live new ≤ live old
fewer_live old new lived =
    let few = at_most (alive new) (alive old) (alive_once new) (λ n a.
    let r = alive_row new n a in
    let was = some_row (row_at old n) (lived n r.0 r.1) in
    among_alive old n was.0 was.1) in
    let now = alive_count new in
    let before = alive_count old in
    omega (arith, few, now, before)
