-- How many nodes are live, by the rows of ids.
use Rattle.std.proofs.Common.{◌≡◌, ℕ, zero, suc, ◌+◌, ◌≤◌, ◌==◌, Bool, true, cond, List, [], ◌∷◌, Option, None, Some, is_some, count_by, slice_index_or, if◌then◌else◌, refl, ap, sym, ◌∙◌, arith}
use Rattle.std.proofs.lemmas.Bool.Decides.{Decides-eqb}
use Rattle.inc_value.specs.Choice.{and_then}
use Rattle.inc_value.specs.declared.node.NodeId.{NodeId}
use Rattle.inc_terms.specs.Graph.{Row}
use Rattle.node_arena.specs.declared.arena.Entry.{Entry}
use Rattle.node_arena.specs.Arena.{Arena, row_at, row_of, live, Changes}
use Rattle.stabilizer.proofs.Round.Alive.{counted}

abbrev slot_in : List (Option Entry) → ℕ → Option Entry
slot_in slots i = slice_index_or slots i None

count_all : (xs ys : List (Option Entry)) → ((i : ℕ) → is_some (slot_in ys i) ≡ true → is_some (slot_in xs i) ≡ true)
    → count_by is_some ys ≤ count_by is_some xs
count_all [] [] h = omega arith
count_all (x ∷ xs) [] h = omega arith
count_all [] (None ∷ ys) h =
    let rest = count_all [] ys (λ i. h (suc i)) in let c = counted None ys in omega (arith, rest, c)
count_all [] (Some e ∷ ys) h = absurd (let none = h 0 refl in cc)
count_all (x ∷ xs) (None ∷ ys) h =
    let rest = count_all xs ys (λ i. h (suc i)) in
    let c = counted None ys in
    let d = counted x xs in omega (arith, rest, c, d)
count_all (None ∷ xs) (Some e ∷ ys) h = absurd (let none = h 0 refl in cc)
count_all (Some d ∷ xs) (Some e ∷ ys) h =
    let rest = count_all xs ys (λ i. h (suc i)) in
    let c = counted (Some e) ys in
    let b = counted (Some d) xs in omega (arith, rest, c, b)

at_most_one : (o : Option Entry) → cond (is_some o) 1 0 ≤ 1
at_most_one None = omega arith
at_most_one (Some e) = omega arith

count_more : (xs ys : List (Option Entry)) (key : ℕ) → ((i : ℕ) → (i ≡ key → ⊥) → is_some (slot_in ys i) ≡ true → is_some (slot_in xs i) ≡ true)
    → count_by is_some ys ≤ count_by is_some xs + 1
count_more xs [] key h = omega arith
count_more [] (y ∷ ys) zero h =
    let rest = count_all [] ys (λ i. h (suc i) (λ e. cc)) in
    let c = counted y ys in
    let one = at_most_one y in omega (arith, rest, c, one)
count_more (x ∷ xs) (y ∷ ys) zero h =
    let rest = count_all xs ys (λ i. h (suc i) (λ e. cc)) in
    let c = counted y ys in
    let d = counted x xs in
    let one = at_most_one y in omega (arith, rest, c, d, one)
count_more [] (None ∷ ys) (suc key) h =
    let rest = count_more [] ys key (λ i other. h (suc i) (λ e. other (cc))) in
    let c = counted None ys in omega (arith, rest, c)
count_more [] (Some e ∷ ys) (suc key) h = absurd (let none = h 0 (λ e. cc) refl in cc)
count_more (x ∷ xs) (None ∷ ys) (suc key) h =
    let rest = count_more xs ys key (λ i other. h (suc i) (λ e. other (cc))) in
    let c = counted None ys in
    let d = counted x xs in omega (arith, rest, c, d)
count_more (None ∷ xs) (Some e ∷ ys) (suc key) h = absurd (let none = h 0 (λ e. cc) refl in cc)
count_more (Some d ∷ xs) (Some e ∷ ys) (suc key) h =
    let rest = count_more xs ys key (λ i other. h (suc i) (λ e. other (cc))) in
    let c = counted (Some e) ys in
    let b = counted (Some d) xs in omega (arith, rest, c, b)

-- ---- by rows

abbrev id_in : ℕ → ℕ → NodeId
id_in slot gen = record { slot = slot; gen_ = gen }

-- an entry is that of a live node
told : (a : Arena) (i : ℕ) → is_some (slot_in a.slots i) ≡ true → (g : ℕ) × (r : Row) × (row_at a (id_in i g) ≡ Some r)
told a i is = go (slot_in a.slots i) refl is
  where
    go : (o : Option Entry) → slot_in a.slots i ≡ o → is_some o ≡ true → (g : ℕ) × (r : Row) × (row_at a (id_in i g) ≡ Some r)
    go None at is = absurd (cc)
    go (Some e) at is = (
      e.gen_,
      row_of e.row,
      ap (λ (o : Option Entry). and_then o (λ (d : Entry). if d.gen_ == e.gen_ then Some (row_of d.row) else None)) at
          ∙ ap (λ (b : Bool). if b then Some (row_of e.row) else None) ((Decides-eqb e.gen_ e.gen_).1 refl),
    )

-- and a live node has one
kept : (a : Arena) (i g : ℕ) (r : Row) → row_at a (id_in i g) ≡ Some r → is_some (slot_in a.slots i) ≡ true
kept a i g r is = go (slot_in a.slots i) refl
  where
    go : (o : Option Entry) → slot_in a.slots i ≡ o → is_some o ≡ true
    go None at =
        absurd (let none : row_at a (id_in i g) ≡ None =
        ap (λ (o : Option Entry). and_then o (λ (d : Entry). if d.gen_ == g then Some (row_of d.row) else None)) at in cc)
    go (Some e) at = refl

-- one node more is live at most
pub live_more : (a a' : Arena) (id : NodeId) (row : Option Row) → Changes a a' id row → live a' ≤ live a + 1
live_more a a' id row h = count_more a.slots a'.slots id.slot (λ i other is.
    let t = told a' i is in
    let q : row_at a (id_in i t.0) ≡ Some t.1 = sym (h.others (id_in i t.0) (λ same. other (ap (λ (n : NodeId). n.slot) same))) ∙ t.2 in
    kept a i t.0 t.1 q)
