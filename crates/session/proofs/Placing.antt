-- Positions of observers are kept, also with one more, and where the last comes to stand in the place of one.
use Rattle.std.proofs.Common.{◌≡◌, ◌≢◌, inl, inr, ◌-◌, ◌<◌, ℕ, arith, List, [], ◌∷◌, ◌++◌, length, slice_get, swap_remove, Option, None, Some, IsSome, refl, ap, sym, subst, ◌∙◌}
use Rattle.std.proofs.lemmas.Bool.{cases_lt}
use Rattle.std.proofs.lemmas.Option.{slice_get_within}
use Rattle.inc_value.specs.declared.node.ObsId.{ObsId}
use Rattle.inc_value.specs.declared.node.Point.{Point}
use Rattle.point_map.proofs.Places.{point_cases}
use Rattle.point_map.specs.Rows.{Rows, Changes, Holds, at}
use Rattle.script_graph.proofs.Ending.{same_or, swap_here, swap_other, swap_within}
use Rattle.script_graph.proofs.Observing.{get_end, get_push, get_some, get_within}
use Rattle.session.specs.ObserverIds.{ArePlaced, IsAbsent, key_of}

observer_of : Point → ObsId
observer_of p = record { 0 = p.node.slot }

-- no two observers have one key
same_key : (o p : ObsId) → key_of o ≡ key_of p → o ≡ p
unfolding observer_of
same_key o p e = ap observer_of e

-- no observers
pub none_placed : (positions : Rows ℕ) → positions.places ≡ [] → ArePlaced [] positions
none_placed positions empty = record {
  placed = λ i o is. absurd (cc);
  only = λ i o is. let none : at positions (key_of o) ≡ None = rw empty refl in let e : None ≡ Some i = sym none ∙ is in absurd (cc);
}

-- one that is none of them has no position
pub absent_has_none : (ids : List ObsId) (positions : Rows ℕ) (o : ObsId) → ArePlaced ids positions → IsAbsent ids o → at positions (key_of o) ≡ None
absent_has_none ids positions o placed absent = go (at positions (key_of o)) refl
  where
    go : (x : Option ℕ) → at positions (key_of o) ≡ x → at positions (key_of o) ≡ None
    go None is = is
    go (Some i) is = absurd (absent i (placed.only i o is))

-- with one more
pub placed_more : (ids : List ObsId) (o : ObsId) (position : ℕ) (old new : Rows ℕ) → ArePlaced ids old → IsAbsent ids o → position ≡ length ids
    → Changes old new (key_of o) (Some position) → ArePlaced (ids ++ o ∷ []) new
placed_more ids o position old new placed absent last_is changes = record {
  placed = λ i p is. elim (get_push ids o i p is) [
    | inl before ↦ changes.others (key_of p) (λ same. absent i (subst (λ (q : ObsId). slice_get ids i ≡ Some q) (same_key p o same) before))
        ∙ placed.placed i p before
    | inr last ↦ ap (λ (q : ObsId). at new (key_of q)) last.1 ∙ (changes.changed ∙ ap (λ (n : ℕ). Some n) (last_is ∙ sym last.0))
  ];
  only = λ i p is. elim (point_cases (key_of p) (key_of o)) [
    | inl same ↦
        let one = same_key p o same in
        let here : Some i ≡ Some position = sym is ∙ (ap (at new) same ∙ changes.changed) in
        let found : i ≡ position = cc in
        let index = found ∙ last_is in
        ap (slice_get (ids ++ o ∷ [])) index ∙ (get_end ids o ∙ ap (λ (q : ObsId). Some q) (sym one))
    | inr other ↦
        let before = placed.only i p (sym (changes.others (key_of p) other) ∙ is) in
        get_within ids (o ∷ []) i (get_some ids i p before) ∙ before
  ];
}

-- ---- one is taken off

module _ (ids : List ObsId) (old mid : Rows ℕ) (i : ℕ) (o : ObsId) (placed : ArePlaced ids old) (is_o : slice_get ids i ≡ Some o)
    (taken : Changes old mid (key_of o) None) where
  abbrev last : ℕ
  last = length ids - 1

  abbrev left : List ObsId
  left = swap_remove ids i o

  -- who stands elsewhere is another
  apart : (j : ℕ) (p : ObsId) → slice_get ids j ≡ Some p → (j ≡ i → ⊥) → key_of p ≢ key_of o
  apart j p is ne same =
      let one : slice_get ids j ≡ Some o = subst (λ (q : ObsId). slice_get ids j ≡ Some q) (same_key p o same) is in
      let e : Some j ≡ Some i = sym (placed.placed j o one) ∙ placed.placed i o is_o in ne (cc)

  stays_mid : (j : ℕ) (p : ObsId) → slice_get ids j ≡ Some p → (j ≡ i → ⊥) → at mid (key_of p) ≡ Some j
  stays_mid j p is ne = taken.others (key_of p) (apart j p is ne) ∙ placed.placed j p is

  -- what has a position then had it before, and is another
  was_placed : (j : ℕ) (p : ObsId) → at mid (key_of p) ≡ Some j → (slice_get ids j ≡ Some p) × (j ≡ i → ⊥)
  was_placed j p is = elim (point_cases (key_of p) (key_of o)) [
    | inl same ↦ absurd (let e : None ≡ Some j = sym taken.changed ∙ (ap (at mid) (sym same) ∙ is) in cc)
    | inr other ↦
        let before = placed.only j p (sym (taken.others (key_of p) other) ∙ is) in (
          before,
          λ same. other (ap key_of (let e : Some p ≡ Some o = sym before ∙ (ap (slice_get ids) same ∙ is_o) in cc)),
        )
  ]

  -- the last was taken off
  pub placed_without : (i < last → ⊥) → ArePlaced left mid
  placed_without none = record {
    placed = λ j p is.
        let low = swap_within ids (length ids) i j o p refl is in
        let ne : j ≡ i → ⊥ = λ same. none (omega (arith, low, same)) in
        stays_mid j p (sym (swap_other ids i j o low ne) ∙ is) ne;
    only = λ j p is.
        let was = was_placed j p is in
        let within = slice_get_within ids j p was.0 in
        let high = slice_get_within ids i o is_o in
        let low : j < last = below j i within high none was.1 in
        swap_other ids i j o low was.1 ∙ was.0;
  }
    where
      -- the last is the one that was taken off, so that another stands before it
      below : (j i : ℕ) → j < length ids → i < length ids → (i < last → ⊥) → (j ≡ i → ⊥) → j < last
      below j i within high not_low ne = elim (cases_lt j last) [
        | inl less ↦ less
        | inr more ↦ elim (cases_lt i last) [
          | inl less ↦ absurd (not_low less)
          | inr rest ↦ absurd (ne (omega (arith, within, high, more, rest)))
        ]
      ]

  -- ---- the last comes to stand there

  module _ (low : i < last) (moved : ObsId) (is_moved : slice_get left i ≡ Some moved) where
    was_last : slice_get ids last ≡ Some moved
    was_last = sym (swap_here ids i o low) ∙ is_moved

    not_there : last ≡ i → ⊥
    not_there e = omega (arith, e, low)

    pub moved_has_position : Holds mid (key_of moved)
    moved_has_position = subst (λ (x : Option ℕ). IsSome x) (sym (stays_mid last moved was_last not_there)) refl

    module _ (new : Rows ℕ) (put : Changes mid new (key_of moved) (Some i)) where
      pub placed_moved : ArePlaced left new
      placed_moved = record {
        placed = λ j p is. elim (same_or j i) [
          | inl e ↦
              let one : p ≡ moved = let f : Some p ≡ Some moved = sym is ∙ (ap (slice_get left) e ∙ is_moved) in cc in
              ap (λ (q : ObsId). at new (key_of q)) one ∙ (put.changed ∙ ap (λ (n : ℕ). Some n) (sym e))
          | inr ne ↦
              let near = swap_within ids (length ids) i j o p refl is in
              let before : slice_get ids j ≡ Some p = sym (swap_other ids i j o near ne) ∙ is in
              put.others (key_of p) (other j p before ne near) ∙ stays_mid j p before ne
        ];
        only = λ j p is. elim (point_cases (key_of p) (key_of moved)) [
          | inl same ↦
              let one = same_key p moved same in
              let here : Some j ≡ Some i = sym is ∙ (ap (at new) same ∙ put.changed) in
              let index : j ≡ i = cc in
              ap (slice_get left) index ∙ (is_moved ∙ ap (λ (q : ObsId). Some q) (sym one))
          | inr apart' ↦
              let was = was_placed j p (sym (put.others (key_of p) apart') ∙ is) in
              let near = before_last j p was.0 apart' in
              swap_other ids i j o near was.1 ∙ was.0
        ];
      }
        where
          other : (j : ℕ) (p : ObsId) → slice_get ids j ≡ Some p → (j ≡ i → ⊥) → j < last → key_of p ≢ key_of moved
          other j p before ne near same =
              let one : slice_get ids j ≡ Some moved = subst (λ (q : ObsId). slice_get ids j ≡ Some q) (same_key p moved same) before in
              let e : Some j ≡ Some last = sym (placed.placed j moved one) ∙ placed.placed last moved was_last in
              let index : j ≡ last = cc in
              omega (arith, index, near)

          before_last : (j : ℕ) (p : ObsId) → slice_get ids j ≡ Some p → key_of p ≢ key_of moved → j < last
          before_last j p is ne = elim (cases_lt j last) [
            | inl less ↦ less
            | inr more ↦
                let within = slice_get_within ids j p is in
                let index : j ≡ last = omega (arith, within, more) in
                absurd (ne (ap key_of (let e : Some p ≡ Some moved = sym is ∙ (ap (slice_get ids) index ∙ was_last) in cc)))
          ]
