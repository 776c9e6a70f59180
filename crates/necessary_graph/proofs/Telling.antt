-- Readers of a point come into the heap.
use Rattle.std.proofs.Common.{◌≡◌, ◌⊎◌, inl, inr, ℕ, ◌+◌, Bool, true, false, Some, ◌∷◌, List, drop, refl, sym, ap, subst, ◌∙◌, arith}
use Rattle.std.specs.Prelude.{slice_get}
use Rattle.std.proofs.lemmas.Bool.{cases_lt}
use Rattle.std.proofs.lemmas.List.{drop_more}
use Rattle.std.proofs.lemmas.Option.{slice_get_within, get_or_from_slice_get}
use Rattle.inc_value.specs.declared.node.Point.{Point}
use Rattle.point_map.specs.Rows.{Rows, at, Changes}
use Rattle.point_map.proofs.Places.{point_cases}
use Rattle.link_table.specs.Links.{Links, Reads, AreReaders, times}
use Rattle.height_order.proofs.Covering.{Covers, covers_next, among_readers, occurs_first}
use Rattle.height_order.specs.Levels.{level}
use Rattle.necessary_graph.specs.Part.{NecessaryPart, Needed, IsInStep}
use Rattle.necessary_graph.specs.Readers.{HasHeights, HasReaders}
use Rattle.necessary_graph.proofs.Standing.{has_level, put_in_step, heap_in_step}

-- a point is passed over, or stands in the heap at its height
abbrev pub IsDone : (skipped : Point → Bool) (heights heap : Rows ℕ) → Point → Type 0
IsDone skipped heights heap p = (skipped p ≡ true) ⊎ (at heap p ≡ at heights p)

-- the readers that are left come next
pub record IsTelling (heights : Rows ℕ) (links : Links) (q : Point) (skipped : Point → Bool) (old now : Rows ℕ) (left : List Point) : Type 0 where
  pub covers : Covers (λ (p : Point). Reads links p q) (IsDone skipped heights now) left
  pub others : (p : Point) → (Reads links p q → skipped p ≡ false → ⊥) → at now p ≡ at old p

-- the reader at a place is the first of those from there on
pub left_at : (list : List Point) (i : ℕ) (r : Point) → slice_get list i ≡ Some r → drop i list ≡ r ∷ drop (i + 1) list
left_at list i r e = drop_more list i r (slice_get_within list i r e) ∙ ap (λ x. x ∷ drop (i + 1) list) (get_or_from_slice_get list i r r e)

module _ (heights : Rows ℕ) (links : Links) (q : Point) (skipped : Point → Bool) (old : Rows ℕ) where
  pub telling_first : (left : List Point) → AreReaders links q left → IsTelling heights links q skipped old old left
  telling_first left are = record {
    covers = record {
      among = among_readers links q left are;
      rest = λ p r. inl (let e = are p in omega (arith, e, r));
    };
    others = λ p _. refl;
  }

  module _ (now : Rows ℕ) (r : Point) (rest : List Point) (so : IsTelling heights links q skipped old now (r ∷ rest)) where
    -- the first of them is a reader
    pub reads_first : Reads links r q
    reads_first = so.covers.among r (occurs_first r rest)

    -- it is passed over
    pub telling_skip : skipped r ≡ true → IsTelling heights links q skipped old now rest
    telling_skip over = record {
      covers = covers_next (λ (p : Point). Reads links p q) (IsDone skipped heights now) (IsDone skipped heights now) r rest so.covers (λ x d. d) (inl over);
      others = so.others;
    }

    -- it is put in
    pub telling_put : (new : Rows ℕ) → skipped r ≡ false → Changes now new r (at heights r) → IsTelling heights links q skipped old new rest
    telling_put new kept c = record {
      covers = covers_next (λ (p : Point). Reads links p q) (IsDone skipped heights now) (IsDone skipped heights new) r rest so.covers
          stays (inr c.changed);
      others = λ p none. elim (point_cases p r) [
        | inl same ↦ absurd (none (subst (λ (x : Point). Reads links x q) (sym same) reads_first) (ap skipped same ∙ kept))
        | inr other ↦ c.others p other ∙ so.others p none
      ];
    }
      where
        stays : (x : Point) → IsDone skipped heights now x → IsDone skipped heights new x
        stays x (inl t) = inl t
        stays x (inr e) = elim (point_cases x r) [
          | inl same ↦ inr (ap (at new) same ∙ (c.changed ∙ ap (at heights) (sym same)))
          | inr other ↦ inr (c.others x other ∙ e)
        ]

-- ---- the whole graph

module _ (g : NecessaryPart) (step : IsInStep g) (heap : Rows ℕ) where
  -- a needed point was put in
  pub put_stands : (p : Point) → Needed g p → Changes g.heap heap p (at g.heights p) → IsInStep (record g { heap = heap })
  put_stands p needed c = put_in_step g step heap p (level g.heights p) needed refl
      (record { changed = c.changed ∙ has_level (at g.heights p) (step.there p needed); others = c.others })

  -- the readers of a point were put in
  pub readers_stand : (q : Point) (skipped : Point → Bool) → HasHeights g.heights heap → HasReaders g.heights g.links q skipped g.heap heap
      → IsInStep (record g { heap = heap })
  readers_stand q skipped has so = heap_in_step g step heap (λ a h e. (has a h e, needed a h e))
    where
      by_reads : (a : Point) (h : ℕ) → at heap a ≡ Some h → Reads g.links a q ⊎ (Reads g.links a q → ⊥) → Needed g a
      by_reads a h e (inl r) = step.readers a q r
      by_reads a h e (inr none) = (step.heap a h (sym (so.others a (λ r k. none r)) ∙ e)).1

      needed : (a : Point) (h : ℕ) → at heap a ≡ Some h → Needed g a
      needed a h e = by_reads a h e (elim (cases_lt 0 (times g.links a q)) [ inl r ↦ inl r | inr none ↦ inr (λ r. omega (arith, r, none)) ])
