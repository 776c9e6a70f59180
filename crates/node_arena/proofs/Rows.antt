-- What an insert and a removal in the slab change of the rows.
use Rattle.std.proofs.Common.{◌≡◌, ◌≢◌, ℕ, zero, suc, Bool, true, false, ◌==◌, ◌⊎◌, inl, inr, List, [], ◌∷◌, Option, Some, None, refl, sym, ap, arith, ◌∙◌, is_some, count_by, slice_index_or, slice_set, if◌then◌else◌}
use Rattle.std.proofs.lemmas.Grind.{common_steps}
use Rattle.std.specs.Bool.{Decides}
use Rattle.std.proofs.lemmas.Bool.Decides.{Decides-eqb}
use Rattle.inc_value.specs.Choice.{and_then}
use Rattle.inc_value.specs.declared.node.NodeId.{NodeId}
use Rattle.inc_terms.specs.Graph.{Row}
use Rattle.node_arena.specs.declared.arena.Entry.{Entry}
use Rattle.node_arena.specs.Arena.{Arena, row_at, row_of, Changes}

pub decided : (r : Bool) (P : Type 0) → Decides r P → P ⊎ (P → ⊥)
decided true P d = inl (d.0 refl)
decided false P d = inr (λ p. absurd (let e = d.1 p in cc))

-- equal numbers or not
pub same_or_not : (a b : ℕ) → (a ≡ b) ⊎ (a ≢ b)
same_or_not a b = decided (a == b) (a ≡ b) (Decides-eqb a b)

-- the row of the generation in a slot
abbrev pub row_in : Option Entry → ℕ → Option Row
row_in o g = and_then o (λ (e : Entry). if e.gen_ == g then Some (row_of e.row) else None)

taken : (e : Entry) (g : ℕ) → ((e.gen_ ≡ g) × (row_in (Some e) g ≡ Some (row_of e.row))) ⊎ (row_in (Some e) g ≡ None)
taken e g = go (e.gen_ == g) (Decides-eqb e.gen_ g)
  where
    go : (b : Bool) → Decides b (e.gen_ ≡ g)
        → ((e.gen_ ≡ g) × ((if b then Some (row_of e.row) else None) ≡ Some (row_of e.row))) ⊎ ((if b then Some (row_of e.row) else None) ≡ None)
    go true d = inl (d.0 refl, refl)
    go false d = inr refl

not_both : (e : Entry) (g : ℕ) → e.gen_ ≡ g → row_in (Some e) g ≡ None → ⊥
not_both e g same h = let t = (Decides-eqb e.gen_ g).1 same in absurd (let h' = rw t at h in cc)

id_of : ℕ → ℕ → NodeId
id_of s g = record { slot = s; gen_ = g }

pub same_id : (n : NodeId) (s g : ℕ) → n.slot ≡ s → n.gen_ ≡ g → n ≡ record { slot = s; gen_ = g }
unfolding id_of
same_id n s g e e' = ap (λ (x : ℕ). id_of x n.gen_) e ∙ ap (λ (x : ℕ). id_of s x) e'

-- an entry's row is told by its generation
pub told : (e : Entry) (g : ℕ) → e.gen_ ≡ g → row_in (Some e) g ≡ Some (row_of e.row)
told e g same = elim (taken e g) [ inl h ↦ h.1 | inr none ↦ absurd (not_both e g same none) ]

-- the row of a live node is that of the entry in its slot
pub entry_of_row : (e : Entry) (g : ℕ) (r : Row) → row_in (Some e) g ≡ Some r → (e.gen_ ≡ g) × (row_of e.row ≡ r)
entry_of_row e g r is = elim (taken e g) [
  | inl h ↦ (h.0, let same = sym h.1 ∙ is in cc)
  | inr none ↦ absurd (let differs = sym none ∙ is in cc)
]

-- an entry in place of another keeps the count
pub count_replaced : (slots : List (Option Entry)) (i : ℕ) (e e' : Entry) → slice_index_or slots i None ≡ Some e
    → count_by is_some (slice_set slots i (Some e')) ≡ count_by is_some slots
count_replaced [] i e e' there = refl
count_replaced (x ∷ rest) zero e e' there = grind (arith, common_steps)
count_replaced (x ∷ rest) (suc i) e e' there = grind (arith, common_steps, count_replaced rest i e e' there)

module _ (a a' : Arena) (key : ℕ) (others : (other : ℕ) → other ≢ key → slice_index_or a'.slots other None ≡ slice_index_or a.slots other None) where
  elsewhere : (n : NodeId) → n.slot ≢ key → row_at a' n ≡ row_at a n
  elsewhere n h = ap (λ (o : Option Entry). row_in o n.gen_) (others n.slot h)

  -- the new id has the new row, and every other id what it had
  pub grown : (e : Entry) → slice_index_or a.slots key None ≡ None → slice_index_or a'.slots key None ≡ Some e
      → (n : NodeId) → ((n ≡ record { slot = key; gen_ = e.gen_ }) × (row_at a' n ≡ Some (row_of e.row))) ⊎ (row_at a' n ≡ row_at a n)
  grown e was is n = elim (same_or_not n.slot key) [
    | inl same ↦
        let now : row_at a' n ≡ row_in (Some e) n.gen_ = ap (λ (o : Option Entry). row_in o n.gen_) (ap (λ (s : ℕ). slice_index_or a'.slots s None) same ∙ is) in
        let before : row_at a n ≡ None = ap (λ (o : Option Entry). row_in o n.gen_) (ap (λ (s : ℕ). slice_index_or a.slots s None) same ∙ was) in
        elim (taken e n.gen_) [
          | inl h ↦ inl (same_id n key e.gen_ same (sym h.0), now ∙ h.1)
          | inr h ↦ inr (now ∙ h ∙ sym before)
        ]
    | inr other ↦ inr (elsewhere n other)
  ]

  -- one id has the new row, and every other id what it had
  pub grown_changes : (e : Entry) → slice_index_or a.slots key None ≡ None → slice_index_or a'.slots key None ≡ Some e
      → (id : NodeId) → id.slot ≡ key → id.gen_ ≡ e.gen_ → a'.time ≡ a.time → Changes a a' id (Some (row_of e.row))
  grown_changes e was is id slot gen time = record {
    changed = ap (λ (o : Option Entry). row_in o id.gen_) (ap (λ (s : ℕ). slice_index_or a'.slots s None) slot ∙ is) ∙ told e id.gen_ (sym gen);
    others = λ n ne. elim (grown e was is n) [ inl h ↦ absurd (ne (h.0 ∙ sym (same_id id key e.gen_ slot gen))) | inr h ↦ h ];
    time = time;
  }

  -- every id has what it had, or nothing
  pub shrunk : slice_index_or a'.slots key None ≡ None → (n : NodeId) → (row_at a' n ≡ row_at a n) ⊎ (row_at a' n ≡ None)
  shrunk is n = elim (same_or_not n.slot key) [
    | inl same ↦ inr (ap (λ (o : Option Entry). row_in o n.gen_) (ap (λ (s : ℕ). slice_index_or a'.slots s None) same ∙ is))
    | inr other ↦ inl (elsewhere n other)
  ]

  -- the id has another row, and every other id what it had
  pub replaced : (e e' : Entry) → e'.gen_ ≡ e.gen_ → slice_index_or a.slots key None ≡ Some e → slice_index_or a'.slots key None ≡ Some e'
      → (n : NodeId) → ((n ≡ record { slot = key; gen_ = e.gen_ }) × (row_at a' n ≡ Some (row_of e'.row))) ⊎ (row_at a' n ≡ row_at a n)
  replaced e e' gen was is n = elim (same_or_not n.slot key) [
    | inl same ↦
        let now : row_at a' n ≡ row_in (Some e') n.gen_ = ap (λ (o : Option Entry). row_in o n.gen_) (ap (λ (s : ℕ). slice_index_or a'.slots s None) same ∙ is) in
        let before : row_at a n ≡ row_in (Some e) n.gen_ = ap (λ (o : Option Entry). row_in o n.gen_) (ap (λ (s : ℕ). slice_index_or a.slots s None) same ∙ was) in
        elim (taken e' n.gen_) [
          | inl h ↦ inl (same_id n key e.gen_ same (sym h.0 ∙ gen), now ∙ h.1)
          | inr h ↦ elim (taken e n.gen_) [
            | inl h' ↦ absurd (not_both e' n.gen_ (gen ∙ h'.0) h)
            | inr h' ↦ inr (now ∙ h ∙ sym (before ∙ h'))
          ]
        ]
    | inr other ↦ inr (elsewhere n other)
  ]
