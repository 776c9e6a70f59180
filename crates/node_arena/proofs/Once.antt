-- Ids that are kept once each: no more of live nodes than nodes live.
use Rattle.std.proofs.Common.{◌≡◌, ◌<◌, ◌≤◌, ◌+◌, ℕ, zero, suc, Bool, true, false, cond, eqb, ◌||◌, List, [], ◌∷◌, ◌++◌, length, map, Option, Some, None, refl, sym, subst, ◌∙◌, arith, is_some, IsSome, count_by, slice_index_or}
use Rattle.std.specs.List.{All, AllByRecursion, IsDistinct, filter}
use Rattle.std.specs.Set.{is_member}
use Rattle.std.proofs.lemmas.Bool.{cond_both, eqb-true, ne_eqb}
use Rattle.std.proofs.lemmas.Bool.Decides.{nat_tests}
use Rattle.std.proofs.lemmas.Cmp.{nat_eq_equiv}
use Rattle.std.proofs.lemmas.List.{length-map}
use Rattle.std.proofs.lemmas.List.Sums.{sum_by-cons}
use Rattle.std.proofs.lemmas.Map.Made.{length-le_from_is_member}
use Rattle.inc_value.specs.Choice.{Every}
use Rattle.inc_value.specs.declared.node.NodeId.{NodeId}
use Rattle.inc_terms.specs.Graph.{Row}
use Rattle.inc_terms.specs.Within.{Given}
use Rattle.node_arena.specs.declared.arena.Entry.{Entry}
use Rattle.node_arena.specs.Arena.{Arena, IsLive, live}
use Rattle.node_arena.specs.Sound.{Rises}
use Rattle.node_arena.proofs.Rows.{row_in, entry_of_row}

-- ---- ids that rise

every_filter : {X : Type 0} (P : X → Type 0) (p : X → Bool) (xs : List X) → Every P xs → Every P (filter p xs)
every_filter P p [] h = tt
every_filter P p (x ∷ xs) h =
    cond_both (p x) (x ∷ filter p xs) (filter p xs) (Every P) (λ passes. (h.0, every_filter P p xs h.1)) (λ fails. every_filter P p xs h.1)

pub passes_filter : {X : Type 0} (p : X → Bool) (xs : List X) → Every (λ x. p x ≡ true) (filter p xs)
passes_filter p [] = tt
passes_filter p (x ∷ xs) =
    cond_both (p x) (x ∷ filter p xs) (filter p xs) (Every (λ y. p y ≡ true)) (λ passes. (passes, passes_filter p xs)) (λ fails. passes_filter p xs)

pub rises_filter : (p : NodeId → Bool) (ns : List NodeId) → Rises ns → Rises (filter p ns)
rises_filter p [] h = tt
rises_filter p (n ∷ ns) h =
    cond_both (p n) (n ∷ filter p ns) (filter p ns) Rises
    (λ passes. (every_filter (λ (m : NodeId). n.gen_ < m.gen_) p ns h.0, rises_filter p ns h.1))
    (λ fails. rises_filter p ns h.1)

every_push : (P : NodeId → Type 0) (ns : List NodeId) (m : NodeId) → Every P ns → P m → Every P (ns ++ m ∷ [])
every_push P [] m h last = (last, tt)
every_push P (n ∷ ns) m h last = (h.0, every_push P ns m h.1 last)

pub rises_push : (ns : List NodeId) (m : NodeId) → Rises ns → Every (λ (n : NodeId). n.gen_ < m.gen_) ns → Rises (ns ++ m ∷ [])
rises_push [] m h below = (tt, tt)
rises_push (n ∷ ns) m h below = (every_push (λ (k : NodeId). n.gen_ < k.gen_) ns m h.0 below.0, rises_push ns m h.1 below.1)

-- ids that were given are below the next
pub all_below : (ns : List NodeId) (m : NodeId) → All (Given m.gen_) ns → Every (λ (n : NodeId). n.gen_ < m.gen_) ns
all_below [] m h = tt
all_below (n ∷ ns) m h = (h 0 n (omega arith), all_below ns m (λ i d lt. h (suc i) d (omega (arith, lt))))

-- ---- slots that are taken

-- the slots that have an entry, where the first has this number
taken_from : ℕ → List (Option Entry) → List ℕ
taken_from first [] = []
taken_from first (None ∷ rest) = taken_from (first + 1) rest
taken_from first (Some e ∷ rest) = first ∷ taken_from (first + 1) rest

taken_length : (first : ℕ) (slots : List (Option Entry)) → length (taken_from first slots) ≡ count_by is_some slots
unfolding taken_from
taken_length first [] = refl
taken_length first (None ∷ rest) = omega (arith, taken_length (first + 1) rest, sum_by-cons (λ o. cond (is_some o) 1 0) None rest)
taken_length first (Some e ∷ rest) = omega (arith, taken_length (first + 1) rest, sum_by-cons (λ o. cond (is_some o) 1 0) (Some e) rest)

or_later : (b c : Bool) → c ≡ true → (b || c) ≡ true
or_later true c h = refl
or_later false c h = h

is_taken : (first : ℕ) (slots : List (Option Entry)) (at : ℕ) → IsSome (slice_index_or slots at None)
    → is_member eqb (taken_from first slots) (first + at) ≡ true
unfolding taken_from
is_taken first [] at there = absurd (let h = there in cc)
is_taken first (None ∷ rest) zero there = absurd (let h = there in cc)
is_taken first (Some e ∷ rest) zero there = let same : eqb (first + 0) first ≡ true = grind (arith, nat_tests) in rw same refl
is_taken first (None ∷ rest) (suc at) there =
    let shift : first + suc at ≡ first + 1 + at = omega arith in
    subst (λ (k : ℕ). is_member eqb (taken_from (first + 1) rest) k ≡ true) (sym shift) (is_taken (first + 1) rest at there)
is_taken first (Some e ∷ rest) (suc at) there =
    let shift : first + suc at ≡ first + 1 + at = omega arith in
    or_later (eqb (first + suc at) first) (is_member eqb (taken_from (first + 1) rest) (first + suc at))
    (subst (λ (k : ℕ). is_member eqb (taken_from (first + 1) rest) k ≡ true) (sym shift) (is_taken (first + 1) rest at there))

in_rest : (b c : Bool) → b ≡ false → (b || c) ≡ true → c ≡ true
in_rest true c e h = absurd (let f = e in cc)
in_rest false c e h = h

-- ---- live ids

entry_there : (o : Option Entry) (g : ℕ) → IsSome (row_in o g) → IsSome o
entry_there None g there = absurd (let h = there in cc)
entry_there (Some e) g there = refl

generation_of : (o : Option Entry) (g h : ℕ) → IsSome (row_in o g) → IsSome (row_in o h) → g ≡ h
generation_of None g h there also = absurd (let h = there in cc)
generation_of (Some e) g h there also = by (row_in (Some e) g) (row_in (Some e) h) refl refl there also
  where
    by : (r s : Option Row) → row_in (Some e) g ≡ r → row_in (Some e) h ≡ s → IsSome r → IsSome s → g ≡ h
    by None s is is' some also = absurd (let f = some in cc)
    by (Some r) None is is' some also = absurd (let f = also in cc)
    by (Some r) (Some s) is is' some also = sym (entry_of_row e g r is).0 ∙ (entry_of_row e h s is').0

module _ (a : Arena) where
  apart : (n : NodeId) (ns : List NodeId) → IsLive a n → Every (λ (m : NodeId). n.gen_ < m.gen_) ns → Every (IsLive a) ns
      → AllByRecursion (λ y. eqb n.slot y ≡ false) (map (λ (m : NodeId). m.slot) ns)
  apart n [] live later alive = tt
  apart n (m ∷ ns) live later alive = (
    ne_eqb n.slot m.slot (λ e.
        let there : IsSome (row_in (slice_index_or a.slots n.slot None) m.gen_)
        = subst (λ (s : ℕ). IsSome (row_in (slice_index_or a.slots s None) m.gen_)) (sym e) alive.0 in
        let same = generation_of (slice_index_or a.slots n.slot None) n.gen_ m.gen_ live there in
        let below = later.0 in
        absurd (omega (arith, same, below))),
    apart n ns live later.1 alive.1,
  )

  distinct : (ns : List NodeId) → Rises ns → Every (IsLive a) ns → IsDistinct eqb (map (λ (m : NodeId). m.slot) ns)
  unfolding IsDistinct
  distinct [] rises alive = tt
  distinct (n ∷ ns) rises alive = (apart n ns alive.0 rises.0 alive.1, distinct ns rises.1 alive.1)

  member_taken : (ns : List NodeId) → Every (IsLive a) ns → (q : ℕ) → is_member eqb (map (λ (m : NodeId). m.slot) ns) q ≡ true
      → is_member eqb (taken_from 0 a.slots) q ≡ true
  member_taken [] alive q is = absurd (let h = is in cc)
  member_taken (n ∷ ns) alive q is = by (eqb q n.slot) refl (λ among. member_taken ns alive.1 q among)
    where
      by : (b : Bool) → eqb q n.slot ≡ b
          → (is_member eqb (map (λ (m : NodeId). m.slot) ns) q ≡ true → is_member eqb (taken_from 0 a.slots) q ≡ true)
          → is_member eqb (taken_from 0 a.slots) q ≡ true
      by true e rest =
          let first : 0 + n.slot ≡ n.slot = omega arith in
          subst (λ (s : ℕ). is_member eqb (taken_from 0 a.slots) s ≡ true) (first ∙ sym (eqb-true q n.slot e))
          (is_taken 0 a.slots n.slot (entry_there (slice_index_or a.slots n.slot None) n.gen_ alive.0))
      by false e rest = rest (in_rest (eqb q n.slot) (is_member eqb (map (λ (m : NodeId). m.slot) ns) q) e is)

  pub few_live : (ns : List NodeId) → Rises ns → Every (IsLive a) ns → length ns ≤ live a
  few_live ns rises alive =
      let slots = map (λ (m : NodeId). m.slot) ns in
      let few = length-le_from_is_member nat_eq_equiv slots (taken_from 0 a.slots) (distinct ns rises alive) (member_taken ns alive) in
      let same = length-map ns (λ (m : NodeId). m.slot) in
      let all = taken_length 0 a.slots in
      omega (arith, few, same, all)
