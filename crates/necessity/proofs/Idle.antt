-- Rows stand for roots and links alone, whatever comes and goes.
use Rattle.std.proofs.Common.{◌≡◌, ◌≢◌, ◌∙◌, inl, inr, ◌<◌, true, Option, None, Some, IsSome, refl, sym, ap, arith}
use Rattle.std.proofs.lemmas.Bool.Decides.{nat_tests}
use Rattle.inc_value.specs.declared.node.Point.{Point}
use Rattle.point_map.specs.Rows.{Rows, at, Holds, KeepsRows, Changes}
use Rattle.point_map.proofs.Places.{point_cases}
use Rattle.link_table.specs.Links.{Links, link, times, KeepsLinks, OneLinkMore}
use Rattle.necessity.specs.declared.need.Need.{Need}
use Rattle.necessity.specs.Counting.{need_at, needed_in, links_from, is_above_zero, IsAtRest, IsIdle, KeepsRootCounts, NoIdleRow, NoNewRows}
use Rattle.necessity.proofs.Counts.{link_cases}
use Rattle.necessity.proofs.Turning.{row_need, same_need}
use Rattle.necessity.proofs.Starts.{none_from}

none_where : (o : Option Need) → (IsSome o → ⊥) → o ≡ None
none_where None never = refl
none_where (Some n) never = absurd (never refl)

some_never : (o : Option Need) → o ≡ None → IsSome o → ⊥
some_never None e h = let f = h in cc
some_never (Some n) e h = cc

-- a point without a row has none where no row comes
none_stays : (m new : Rows Need) (p : Point) → NoNewRows m new → at m p ≡ None → at new p ≡ None
none_stays m new p rows none = none_where (at new p) (λ held. some_never (at m p) none (rows p held))

-- another row of a point that has one
pub row_again : (m new : Rows Need) (p : Point) (n : Need) → Changes m new p (Some n) → Holds m p → NoNewRows m new
row_again m new p n row there k held = elim (point_cases k p) [
  | inl same ↦ rw same there
  | inr differs ↦ rw (sym (row.others k differs)) held
]

-- a row goes
pub row_gone : (m new : Rows Need) (p : Point) → Changes m new p None → NoNewRows m new
row_gone m new p off k held = elim (point_cases k p) [
  | inl same ↦ absurd (some_never (at new k) (ap (at new) same ∙ off.changed) held)
  | inr differs ↦ rw (sym (off.others k differs)) held
]

-- a point is idle where its counts and links are as those of one that is
idle_as : (l l' : Links) (m m' : Rows Need) (p : Point) → (need_at m' p).roots ≡ (need_at m p).roots
    → ((k : Point) → times l' p k ≡ 0 → times l p k ≡ 0) → ((k : Point) → times l' k p ≡ 0 → times l k p ≡ 0)
    → IsIdle l' m' p → IsIdle l m p
idle_as l l' m m' p roots kids readers idle = record {
  no_root = sym roots ∙ idle.no_root;
  no_kids = λ k. kids k (idle.no_kids k);
  no_readers = λ k. readers k (idle.no_readers k);
}

-- links and rows keep what they say
pub idle_kept : (l l' : Links) (m m' : Rows Need) → KeepsLinks l l' → KeepsRows m m' → NoIdleRow l m → NoIdleRow l' m'
idle_kept l l' m m' links rows s p idle =
    rows p ∙ s p (idle_as l l' m m' p (ap (λ n. n.roots) (same_need m m' p (rows p)))
    (λ k none. omega (arith, none, links p k)) (λ k none. omega (arith, none, links k p)) idle)

-- a point that is idle isn't counted
idle_below : (l : Links) (m : Rows Need) (p : Point) → IsAtRest l m → IsIdle l m p → needed_in m p ≡ true → ⊥
idle_below l m p r idle on =
    let by = r.counts p ∙ none_from l m p idle.no_readers (links_from (needed_in m) l p) refl in
    let root = idle.no_root in
    grind (arith, nat_tests, by, root, on)

-- a root comes on
pub idle_on : (l : Links) (m m0 new end : Rows Need) (p : Point) (is : Need) → NoIdleRow l m → KeepsRows m m0 → Changes m0 new p (Some is)
    → 0 < is.roots → KeepsRootCounts new end → NoNewRows new end → NoIdleRow l end
idle_on l m m0 new end p is s kept row root roots rows q idle = elim (point_cases q p) [
  | inl same ↦ absurd (
      let now = roots p ∙ ap (λ n. n.roots) (row_need new p is row.changed) in
      let none = rw same at idle.no_root in
      omega (arith, now, none, root))
  | inr differs ↦
      let here = row.others q differs ∙ kept q in
      let was = idle_as l l m end q (roots q ∙ ap (λ n. n.roots) (same_need m new q here)) (λ k none. none) (λ k none. none) idle in
      none_stays new end q rows (here ∙ s q was)
]

-- a root goes, and then the row, if the point is idle
pub idle_off : (l : Links) (m new end last : Rows Need) (p : Point) (is : Need) → NoIdleRow l m → Changes m new p (Some is)
    → KeepsRootCounts new end → NoNewRows new end → (IsIdle l end p → at last p ≡ None) → ((k : Point) → need_at last k ≡ need_at end k)
    → NoNewRows end last → NoIdleRow l last
idle_off l m new end last p is s row roots rows gone needs fewer q idle =
    let before = idle_as l l end last q (ap (λ n. n.roots) (needs q)) (λ k none. none) (λ k none. none) idle in
    elim (point_cases q p) [
      | inl same ↦ ap (at last) same ∙ gone (rw same at before)
      | inr differs ↦
          let here = row.others q differs in
          let was = idle_as l l m end q (roots q ∙ ap (λ n. n.roots) (same_need m new q here)) (λ k none. none) (λ k none. none) before in
          none_stays end last q fewer (none_stays new end q rows (here ∙ s q was))
    ]

-- a root goes, and the point is needed still
pub idle_needed : (l : Links) (m new : Rows Need) (p : Point) (is : Need) → NoIdleRow l m → Changes m new p (Some is) → IsAtRest l new
    → is_above_zero is ≡ true → NoIdleRow l new
idle_needed l m new p is s row r on =
    idle_off l m new new new p is s row (λ k. refl) (λ k held. held)
    (λ idle. absurd (idle_below l new p r idle (ap is_above_zero (row_need new p is row.changed) ∙ on))) (λ k. refl) (λ k held. held)

-- one link more
module _ (fewer more : Links) (p q : Point) (one : OneLinkMore fewer more p q) where
  times_more : (a b : Point) → times more a b ≡ 0 → times fewer a b ≡ 0
  times_more a b none = elim (link_cases (link a b) (link p q)) [
    | inl same ↦ absurd (
        let e = rw (ap (λ x. x.reader) same, ap (λ x. x.kid) same) at none in
        omega (arith, one.raised, e))
    | inr differs ↦ omega (arith, one.others a b differs, none)
  ]

  -- a link comes on, and its points have rows
  pub idle_attach : (m m0 m1 m2 end : Rows Need) → NoIdleRow fewer m → KeepsRows m m0
      → ((k : Point) → need_at m1 k ≡ need_at m0 k) → ((k : Point) → k ≢ p → Holds m1 k → Holds m0 k)
      → ((k : Point) → need_at m2 k ≡ need_at m1 k) → ((k : Point) → k ≢ q → Holds m2 k → Holds m1 k)
      → KeepsRootCounts m2 end → NoNewRows m2 end → NoIdleRow more end
  idle_attach m m0 m1 m2 end s kept needs1 others1 needs2 others2 roots rows x idle = elim (point_cases x p) [
    | inl same ↦ absurd (let none = rw same at idle.no_kids q in omega (arith, one.raised, none))
    | inr not_p ↦ elim (point_cases x q) [
      | inl same ↦ absurd (let none = rw same at idle.no_readers p in omega (arith, one.raised, none))
      | inr not_q ↦
          let needs = needs2 x ∙ needs1 x ∙ same_need m m0 x (kept x) in
          let was = idle_as fewer more m end x (roots x ∙ ap (λ n. n.roots) needs) (λ k. times_more x k) (λ k. times_more k x) idle in
          let none = kept x ∙ s x was in
          none_where (at end x) (λ held. some_never (at m0 x) none (others1 x not_p (others2 x not_q (rows x held))))
    ]
  ]

  -- a link goes, and the rows of its points, if they are idle
  pub idle_detach : (m m1 m2 m3 : Rows Need) → NoIdleRow more m → KeepsRootCounts m m1 → NoNewRows m m1
      → ((k : Point) → need_at m2 k ≡ need_at m1 k) → NoNewRows m1 m2 → (IsIdle fewer m1 p → at m2 p ≡ None)
      → ((k : Point) → need_at m3 k ≡ need_at m2 k) → NoNewRows m2 m3 → (IsIdle fewer m2 q → at m3 q ≡ None)
      → NoIdleRow fewer m3
  idle_detach m m1 m2 m3 s roots rows needs2 rows2 gone_p needs3 rows3 gone_q x idle =
      let idle2 = idle_as fewer fewer m2 m3 x (ap (λ n. n.roots) (needs3 x)) (λ k none. none) (λ k none. none) idle in
      let idle1 = idle_as fewer fewer m1 m2 x (ap (λ n. n.roots) (needs2 x)) (λ k none. none) (λ k none. none) idle2 in
      elim (point_cases x p) [
        | inl same ↦ ap (at m3) same ∙ none_stays m2 m3 p rows3 (gone_p (rw same at idle1))
        | inr not_p ↦ elim (point_cases x q) [
          | inl same ↦ ap (at m3) same ∙ gone_q (rw same at idle2)
          | inr not_q ↦
              let was = idle_as more fewer m m1 x (roots x)
              (λ k none. one.others x k (λ e. not_p (ap (λ (y : _). y.reader) e)) ∙ none)
              (λ k none. one.others k x (λ e. not_q (ap (λ (y : _). y.kid) e)) ∙ none) idle1 in
              none_stays m2 m3 x rows3 (none_stays m1 m2 x rows2 (none_stays m m1 x rows (s x was)))
        ]
      ]
