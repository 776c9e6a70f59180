-- Counts of links, by the ends of their readers.
use Rattle.std.proofs.Common.{◌≡◌, ◌≢◌, ◌∙◌, inl, inr, ℕ, zero, suc, ◌<◌, false, List, [], ◌∷◌, map, refl, ap, sym, arith, IsSome}
use Rattle.std.specs.Prelude.{Option, Some, None, IfSome, IfNone, is_some, IsTrue, ◌↔◌, count_by, flat_map, cond, slice_get, option_map}
use Rattle.std.proofs.lemmas.List.Sums.{sum_by-cons, sum_by-append}
use Rattle.std.proofs.lemmas.Option.{none-some, same_Some}
use Rattle.inc_value.specs.declared.node.Point.{Point}
use Rattle.smallvec.specs.SmallVec.{SmallVec}
use Rattle.point_map.specs.Rows.{Place, same_point, row_in, at, StandsOnce}
use Rattle.point_map.proofs.Places.{same_point_eq, same_point_self, row_found}
use Rattle.link_table.specs.declared.ends.End.{End}
use Rattle.link_table.specs.declared.ends.EndLists.{EndLists}
use Rattle.link_table.specs.Links.{link, same_link, is_point, times, Reads, IsRead, OneLinkMore, KeepsLinks}
use Rattle.link_table.specs.Ends.{end, row_ends, ends_at, ends_with, points, links_from, links_of, LeadsTo, IsLinked, KeepsEnds, OneEndMoreWith}
use Rattle.link_table.proofs.Lists.{split}

-- how often the point of a row reads q
pub kids_times : (p q : Point) (ends : List End) → count_by (same_link p q) (map (λ e. link p e.point) ends) ≡ ends_with ends q
kids_times p q [] = refl
kids_times p q (e ∷ rest) =
    let next = kids_times p q rest in let self = same_point_self p in
    rw (
      sum_by-cons (λ l. cond (same_link p q l) 1 0) (link p e.point) (map (λ k. link p k.point) rest),
      sum_by-cons (λ k. cond (is_point q k) 1 0) e.point (points rest),
      self,
      next,
    ) refl

-- the point of another row doesn't
pub others_times : (r p q : Point) (ends : List End) → same_point r p ≡ false → count_by (same_link p q) (map (λ e. link r e.point) ends) ≡ 0
others_times r p q [] other = refl
others_times r p q (e ∷ rest) other =
    let next = others_times r p q rest other in
    rw (sum_by-cons (λ l. cond (same_link p q l) 1 0) (link r e.point) (map (λ k. link r k.point) rest), other, next) refl

-- the rest of places at which each point stands once
once_rest : (e : Place (SmallVec End)) (rest : List (Place (SmallVec End))) → StandsOnce (e ∷ rest) → StandsOnce rest
once_rest e rest once i j p a b hi hj = let s = once (suc i) (suc j) p a b hi hj in omega (arith, s)

-- a point that stands first has no other row
no_other_row : (p : Point) (v : SmallVec End) (rest : List (Place (SmallVec End))) → StandsOnce (Some (p, v) ∷ rest) → row_in rest p ≡ None
no_other_row p v rest once = none_of (row_in rest p) refl
  where
    none_of : (o : Option (SmallVec End)) → row_in rest p ≡ o → o ≡ None
    none_of None h = refl
    none_of (Some w) h =
        let f = row_found rest p w h in let s = once 0 (suc f.0) p v w refl f.1 in absurd (omega (arith, s))

-- the links of the first row, where its point has no other
first_times : (r : Point) (v : SmallVec End) (rest : List (Place (SmallVec End))) (q : Point) → StandsOnce (Some (r, v) ∷ rest)
    → count_by (same_link r q) (flat_map links_from rest) ≡ ends_with (row_ends (row_in rest r)) q
    → count_by (same_link r q) (flat_map links_from (Some (r, v) ∷ rest)) ≡ ends_with v.items q
first_times r v rest q once next =
    let none : count_by (same_link r q) (flat_map links_from rest) ≡ 0 = rw (no_other_row r v rest once) at next in
    let parts = sum_by-append (λ l. cond (same_link r q l) 1 0) (map (λ k. link r k.point) v.items) (flat_map links_from rest) in
    let here = kids_times r q v.items in omega (arith, parts, none, here)

-- where each point has one row, the links are counted as the ends of that row
pub row_times : (places : List (Place (SmallVec End))) → StandsOnce places → (p q : Point)
    → count_by (same_link p q) (flat_map links_from places) ≡ ends_with (row_ends (row_in places p)) q
row_times [] once p q = refl
row_times (None ∷ rest) once p q = row_times rest (once_rest None rest once) p q
row_times (Some (r, v) ∷ rest) once p q =
    let next = row_times rest (once_rest (Some (r, v)) rest once) p q in
    elim (split (same_point r p)) [
      | inl same ↦ let at_p = same_point_eq r p same in
          let first = first_times r v rest q once (rw (← at_p) at next) in rw same (rw (← at_p) first)
      | inr other ↦
          let parts = sum_by-append (λ l. cond (same_link p q l) 1 0) (map (λ k. link r k.point) v.items) (flat_map links_from rest) in
          let none = others_times r p q v.items other in rw other (omega (arith, parts, none, next))
    ]

-- links are counted as the ends of their reader
pub times_of_ends : (kids : EndLists) → StandsOnce kids.rows.places → (p q : Point) → times (record { all = links_of kids }) p q ≡ ends_with (ends_at kids p) q
times_of_ends kids once p q = row_times kids.rows.places once p q

-- and as the ends of their kid
pub times_of_readers : (kids readers : EndLists) → IsLinked kids readers → (p q : Point)
    → times (record { all = links_of kids }) p q ≡ ends_with (ends_at readers q) p
times_of_readers kids readers l p q = times_of_ends kids l.once p q ∙ sym (l.sound.two_way.counted p q)

module _ (fewer more : EndLists) (once : StandsOnce fewer.rows.places) (once_more : StandsOnce more.rows.places) where
  pub link_more : (p q : Point) → OneEndMoreWith fewer more p q → OneLinkMore (record { all = links_of fewer }) (record { all = links_of more }) p q
  link_more p q h = record {
    raised = let a = times_of_ends fewer once p q in let b = times_of_ends more once_more p q in let r = h.raised in omega (arith, a, b, r);
    others = λ a b other. times_of_ends more once_more a b ∙ h.others a b other ∙ sym (times_of_ends fewer once a b);
  }

  pub links_kept : KeepsEnds fewer more → KeepsLinks (record { all = links_of fewer }) (record { all = links_of more })
  links_kept h a b = times_of_ends more once_more a b ∙ ap (λ l. ends_with l b) (h a) ∙ sym (times_of_ends fewer once a b)

-- an end at a place is counted
pub leads_counted : (ends : List End) (q : Point) (i : ℕ) → LeadsTo ends q i → 0 < ends_with ends q
leads_counted [] q i h = absurd (none-some q h)
leads_counted (x ∷ xs) q zero h =
    let same = same_Some x.point q h in let self = same_point_self q in
    rw (sum_by-cons (λ k. cond (is_point q k) 1 0) x.point (points xs), same, self) (omega arith)
leads_counted (x ∷ xs) q (suc i) h =
    let next = leads_counted xs q i h in
    rw (sum_by-cons (λ k. cond (is_point q k) 1 0) x.point (points xs)) (omega (arith, next))

-- places that are told tell whether the link is there
pub told_place : (kids : EndLists) → StandsOnce kids.rows.places → (p q : Point) (x : Option (ℕ × ℕ))
    → IfSome x (λ r. slice_get (ends_at kids p) r.0 ≡ Some (end q r.1)) → IfNone x (ends_with (ends_at kids p) q ≡ 0)
    → IsTrue (is_some x) ↔ Reads (record { all = links_of kids }) p q
told_place kids once p q None some none =
    (λ t. absurd (let e = t in cc), λ r. absurd (let t = times_of_ends kids once p q in omega (arith, t, none, r)))
told_place kids once p q (Some r) some none = (
  λ t.
      let leads = ap (λ (o : Option End). option_map (λ (e : End). e.point) o) some in
      let c = leads_counted (ends_at kids p) q r.0 leads in let t = times_of_ends kids once p q in omega (arith, c, t),
  λ r. refl,
)

-- a link that is there has its places
pub place_there : (kids : EndLists) → StandsOnce kids.rows.places → (p q : Point) (x : Option (ℕ × ℕ))
    → IfSome x (λ r. slice_get (ends_at kids p) r.0 ≡ Some (end q r.1)) → IfNone x (ends_with (ends_at kids p) q ≡ 0)
    → Reads (record { all = links_of kids }) p q → IsSome x
place_there kids once p q x some none r = (told_place kids once p q x some none).1 r

-- where there are ends, one leads somewhere
pub leads_somewhere : (ends : List End) → ends ≢ [] → (r : Point) × (0 < ends_with ends r)
leads_somewhere [] some = absurd (some refl)
leads_somewhere (e ∷ rest) some = (e.point, leads_counted (e ∷ rest) e.point 0 refl)

-- a point is read exactly where it has a row of readers
pub row_is_read : (kids readers : EndLists) → IsLinked kids readers → (q : Point) → IsTrue (is_some (at readers.rows q)) ↔ IsRead (record { all = links_of kids }) q
row_is_read kids readers l q = by_row (at readers.rows q) refl
  where
    by_row : (row : Option (SmallVec End)) → at readers.rows q ≡ row → IsTrue (is_some row) ↔ IsRead (record { all = links_of kids }) q
    by_row None absent = (
      λ t. absurd (let e = t in cc),
      λ read. absurd (
          let none : ends_with (ends_at readers q) read.0 ≡ 0 = ap (λ row. ends_with (row_ends row) read.0) absent in
          let t = times_of_readers kids readers l read.0 q in omega (arith, t, none, read.1)),
    )
    by_row (Some row) there = (
      λ t.
          let reader = leads_somewhere (ends_at readers q) (λ none. absurd (let absent = l.sound.tight_readers q none in cc)) in
          (reader.0, let t = times_of_readers kids readers l reader.0 q in omega (arith, t, reader.1)),
      λ read. refl,
    )
