-- What is reached from the roots is what the counts have as needed.
use Rattle.std.proofs.Common.{◌≡◌, ◌∙◌, ◌⊎◌, inl, inr, ℕ, zero, suc, ◌<◌, ◌≤◌, true, List, [], ◌∷◌, length, refl, sym, arith}
use Rattle.std.specs.Prelude.{Some, None, nat_lt, unwrap_or, option_map, map, Contains, remove, slice_index_or, ◌↔◌}
use Rattle.std.proofs.lemmas.Bool.Decides.{nat_tests}
use Rattle.std.proofs.lemmas.List.Sums.{sum_by-remove}
use Rattle.std.proofs.lemmas.Grind.{common_steps}
use Rattle.inc_value.specs.declared.node.Point.{Point}
use Rattle.inc_value.specs.Choice.{Reaches, here, step}
use Rattle.inc_value.specs.Walk.{IsOnCycle}
use Rattle.point_map.specs.Rows.{Rows, Place, row_in, same_point}
use Rattle.point_map.proofs.Places.{same_point_eq, same_point_self}
use Rattle.link_table.specs.declared.link.Link.{Link}
use Rattle.link_table.specs.Links.{Links, link, same_link, times, Reads, KeepsLinks, OneLinkMore}
use Rattle.necessity.specs.declared.need.Need.{Need}
use Rattle.necessity.specs.Need.{root_times, IsNeeded}
use Rattle.necessity.specs.Counting.{need_at, roots_of, needed_in, leads_from, IsAtRest}
use Rattle.necessity.proofs.Counts.{split, both, counted, found, length_sum, same_link_eq, same_link_self}
use Rattle.necessity.proofs.Starts.{reads_more, reads_split}

-- the roots are counted in the rows
pub roots_seen : (m : Rows Need) (p : Point) → root_times (roots_of m) p ≡ (need_at m p).roots
roots_seen m p = seen m.places p where
  seen : (places : List (Place Need)) (p : Point)
      → unwrap_or (row_in (map (option_map (λ e. (e.0, e.1.roots))) places) p) 0 ≡ (unwrap_or (row_in places p) (record { roots = 0; by = 0 })).roots
  seen [] p = refl
  seen (None ∷ rest) p = seen rest p
  seen (Some e ∷ rest) p = let h = seen rest p in grind (arith, common_steps)

-- one step more at the end
pub reaches_more : {A : Type 0} {R : A → A → Type 0} {a b c : A} → Reaches R a b → R b c → Reaches R a c
reaches_more here r = step r here
reaches_more (step first rest) r = step first (reaches_more rest r)

-- one walk after the other
reaches_all : {A : Type 0} {R : A → A → Type 0} {a b c : A} → Reaches R a b → Reaches R b c → Reaches R a c
reaches_all here r = r
reaches_all (step first rest) r = step first (reaches_all rest r)

-- what is among a list is at a place or among what is left without it
contains_remove : {X : Type 0} (xs : List X) (i : ℕ) (x : X) → i < length xs → Contains xs x → (Contains (remove xs i) x) ⊎ ((d : X) → slice_index_or xs i d ≡ x)
contains_remove [] i x below h = absurd (omega (arith, below))
contains_remove (z ∷ zs) zero x below (zero, b, e) = inr (λ d. e)
contains_remove (z ∷ zs) zero x below (suc k, b, e) = inl (k, omega (arith, b), e)
contains_remove (z ∷ zs) (suc i) x below (zero, b, e) = inl (zero, omega arith, e)
contains_remove (z ∷ zs) (suc i) x below (suc k, b, e) = elim (contains_remove zs i x (omega (arith, below)) (k, omega (arith, b), e))
    [ inl left ↦ inl (suc left.0, omega (arith, left.1), left.2) | inr is ↦ inr is ]

-- a link that is counted is among the links, and the other way round
link_found : (l : Links) (p q : Point) → Reads l p q → Contains l.all (link p q)
link_found l p q h = let f = found (same_link p q) l.all h in rw (same_link_eq p q f.0 f.2) at f.1

link_counted : (l : Links) (e : Link) → Contains l.all e → Reads l e.reader e.kid
link_counted l e h = counted (same_link e.reader e.kid) l.all e h (same_link_self e.reader e.kid)

module _ (l : Links) (m : Rows Need) (r : IsAtRest l m) where
  -- what a needed point reads is needed
  read_needed : (a b : Point) → needed_in m a ≡ true → Reads l a b → needed_in m b ≡ true
  read_needed a b n reads =
      let some = counted (leads_from (needed_in m) b) l.all (link a b) (link_found l a b reads) (rw (n, same_point_self b) refl) in
      let by = r.counts b in
      let above : 0 < (need_at m b).by = omega (arith, some, by) in
      grind (arith, nat_tests)

  reached_needed : {a b : Point} → Reaches (Reads l) a b → needed_in m a ≡ true → needed_in m b ≡ true
  reached_needed here n = n
  reached_needed (step {a} {b} reads rest) n = reached_needed rest (read_needed a b n reads)

  root_needed : (p : Point) → 0 < (need_at m p).roots → needed_in m p ≡ true
  root_needed p h = grind (arith, nat_tests)

  -- a needed point that is no root is read by a needed one
  reader_found : (p : Point) → needed_in m p ≡ true → (0 < (need_at m p).roots) ⊎ ((e : Link) × Contains l.all e × (e.kid ≡ p) × (needed_in m e.reader ≡ true))
  reader_found p n = elim (split (nat_lt 0 (need_at m p).roots)) [
    | inl root ↦ inl (grind (arith, nat_tests))
    | inr none ↦
        let by : 0 < (need_at m p).by = grind (arith, nat_tests) in
        let f = found (leads_from (needed_in m) p) l.all (omega (arith, by, r.counts p)) in
        let leads = both (needed_in m f.0.reader) (same_point f.0.kid p) f.2 in
        inr (f.0, f.1, same_point_eq f.0.kid p leads.1, leads.0)
  ]

  module _ (acyclic : (a : Point) → IsOnCycle (Reads l) a → ⊥) where
    -- up from a needed point over links that aren't yet met, to a root
    climb : (fuel : ℕ) (rest : List Link) (p : Point) → length rest ≤ fuel → needed_in m p ≡ true
        → ((x : Link) → Contains l.all x → Contains rest x ⊎ Reaches (Reads l) p x.reader)
        → (root : Point) × (0 < (need_at m root).roots) × Reaches (Reads l) root p
    climb zero rest p short n met = elim (reader_found p n) [
      | inl root ↦ (p, root, here)
      | inr (e, among, kid, needed) ↦
          let reads = rw kid at (link_counted l e among) in
          elim (met e among) [
            | inl left ↦ absurd (omega (arith, left.1, short))
            | inr back ↦ absurd (acyclic e.reader (p, reads, back))
          ]
    ]
    climb (suc fuel) rest p short n met = elim (reader_found p n) [
      | inl root ↦ (p, root, here)
      | inr (e, among, kid, needed) ↦
          let reads = rw kid at (link_counted l e among) in
          elim (met e among) [
            | inl left ↦
                let less = sum_by-remove (λ x. 1) rest left.0 e left.1 in
                let up = climb fuel (remove rest left.0) e.reader
                (omega (arith, less, short, length_sum rest, length_sum (remove rest left.0))) needed (λ x c. elim (met x c) [
                  | inl there ↦ elim (contains_remove rest left.0 x left.1 there) [
                    | inl still ↦ inl still
                    | inr is ↦ inr (rw (sym (is e) ∙ left.2) here)
                  ]
                  | inr above ↦ inr (step reads above)
                ]) in
                (up.0, up.1, reaches_more up.2 reads)
            | inr back ↦ absurd (acyclic e.reader (p, reads, back))
          ]
    ]

    -- the counts have exactly those as needed that are reached from a root
    pub needed_exactly : (p : Point) → (needed_in m p ≡ true) ↔ IsNeeded (record { roots = roots_of m; links = l }) p
    needed_exactly p = (
      (λ n. let up = climb (length l.all) l.all p (omega arith) n (λ x c. inl c) in
          record { root = up.0; is_root = rw (roots_seen m up.0) up.1; leads = up.2 }),
      (λ w. reached_needed w.leads (root_needed w.root (rw (roots_seen m w.root) at w.is_root))),
    )

-- walks where there is a link more
module _ (fewer more : Links) (p q : Point) (one : OneLinkMore fewer more p q) where
  reaches_fewer : {a b : Point} → Reaches (Reads fewer) a b → Reaches (Reads more) a b
  reaches_fewer here = here
  reaches_fewer (step {a} {b} reads rest) = step (reads_more fewer more p q one a b reads) (reaches_fewer rest)

  walk_split : {a b : Point} → Reaches (Reads more) a b → Reaches (Reads fewer) a b ⊎ (Reaches (Reads fewer) a p × Reaches (Reads fewer) q b)
  walk_split here = inl here
  walk_split (step {a} {b} reads rest) = elim (reads_split fewer more p q one a b reads) [
    | inl old ↦ elim (walk_split rest) [
      | inl left ↦ inl (step old left)
      | inr over ↦ inr (step old over.0, over.1)
    ]
    | inr new ↦ elim (walk_split rest) [
      | inl left ↦ inr (rw new.0 here, rw (sym new.1) left)
      | inr over ↦ inr (rw new.0 here, over.1)
    ]
  ]

  -- no link leads back, where none does and the new one's kid doesn't lead to its reader
  pub acyclic_more : ((a : Point) → IsOnCycle (Reads fewer) a → ⊥) → (Reaches (Reads fewer) q p → ⊥) → (a : Point) → IsOnCycle (Reads more) a → ⊥
  acyclic_more acyclic apart a (b, reads, back) = elim (reads_split fewer more p q one a b reads) [
    | inl old ↦ elim (walk_split back) [
      | inl left ↦ acyclic a (b, old, left)
      | inr over ↦ apart (reaches_all over.1 (step old over.0))
    ]
    | inr new ↦ elim (walk_split back) [
      | inl left ↦ apart (rw (sym new.0, sym new.1) left)
      | inr over ↦ apart (rw (sym new.1) over.0)
    ]
  ]

  pub acyclic_fewer : ((a : Point) → IsOnCycle (Reads more) a → ⊥) → (a : Point) → IsOnCycle (Reads fewer) a → ⊥
  acyclic_fewer acyclic a (b, reads, back) = acyclic a (b, reads_more fewer more p q one a b reads, reaches_fewer back)

module _ (old new : Links) (kept : KeepsLinks old new) where
  reaches_kept : {a b : Point} → Reaches (Reads new) a b → Reaches (Reads old) a b
  reaches_kept here = here
  reaches_kept (step {a} {b} reads rest) = step {b = b} (omega (arith, kept a b, reads)) (reaches_kept rest)

  pub acyclic_kept : ((a : Point) → IsOnCycle (Reads old) a → ⊥) → (a : Point) → IsOnCycle (Reads new) a → ⊥
  acyclic_kept acyclic a (b, reads, back) = acyclic a (b, omega (arith, kept a b, reads), reaches_kept back)

-- a point without kids leads to itself alone
pub leads_to_itself : (l : Links) (q p : Point) → ((x : Point) → times l q x ≡ 0) → Reaches (Reads l) q p → q ≡ p
leads_to_itself l q p none here = refl
leads_to_itself l q p none (step {b = x} r rest) = absurd (omega (arith, none x, r))
