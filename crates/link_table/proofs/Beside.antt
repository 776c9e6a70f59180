-- The last end of a point that leads to another point than one.
use Rattle.std.proofs.Common.{◌≡◌, ◌≢◌, ◌∙◌, inl, inr, ℕ, zero, suc, ◌<◌, Bool, true, false, not, List, [], ◌∷◌, length, refl, ap, sym, subst, arith}
use Rattle.std.specs.Prelude.{Option, Some, drop, cond, option_map, slice_index_or}
use Rattle.std.proofs.lemmas.List.Sums.{sum_by-cons}
use Rattle.std.proofs.lemmas.Option.{none-some, same_Some, slice_get-get_or}
use Rattle.inc_value.specs.declared.node.Point.{Point}
use Rattle.point_map.specs.Rows.{StandsOnce}
use Rattle.point_map.proofs.Places.{same_point_self, point_cases}
use Rattle.link_table.specs.declared.ends.End.{End}
use Rattle.link_table.specs.declared.ends.EndLists.{EndLists}
use Rattle.link_table.specs.Links.{is_point, Reads}
use Rattle.link_table.specs.Ends.{ends_at, ends_with, points, links_of, LeadsTo}
use Rattle.link_table.proofs.Counts.{times_of_ends}
use Rattle.link_table.proofs.Lists.{other_point, tested, tested_is, tested_same}

not_false : (t b : Bool) → b ≡ not t → b ≡ false → t ≡ true
not_false true b e f = refl
not_false false b e f = absurd (let g : b ≡ true = e in cc)

-- an end of which the code finds that it doesn't lead to another point
pub leads_when : (ends : List End) (kept : Point) (i : ℕ) (d : End) → i < length ends → (b : Bool)
    → b ≡ not (tested (slice_index_or ends i d).point kept) → b ≡ false → LeadsTo ends kept i
leads_when ends kept i d within b is f =
    let p = (slice_index_or ends i d).point in
    let same = tested_same p kept (not_false (tested p kept) b is f) in
    ap (λ (o : Option End). option_map (λ (e : End). e.point) o) (slice_get-get_or ends i d within) ∙ ap (λ q. Some q) same

-- and one of which it finds that it does
pub differs_when : (p kept : Point) (b : Bool) → b ≡ not (tested p kept) → b ≡ true → p ≢ kept
differs_when p kept b is t same =
    let self : tested p kept ≡ true = tested_is p kept ∙ (rw same (same_point_self kept)) in
    absurd (let e : true ≡ false = sym t ∙ is ∙ ap not self in cc)

-- from a place on, all ends lead to the one point
abbrev pub LeadsBackFrom : List End → Point → ℕ → Type 0
LeadsBackFrom ends kept i = (q : Point) → q ≢ kept → ends_with (drop i ends) q ≡ 0

-- behind the last place there are none
pub none_behind : (ends : List End) (kept : Point) → LeadsBackFrom ends kept (length ends)
none_behind [] kept q other = refl
none_behind (e ∷ rest) kept q other = none_behind rest kept q other

one_before : (ends : List End) (kept : Point) (i : ℕ) → LeadsBackFrom ends kept (suc i) → LeadsTo ends kept i → LeadsBackFrom ends kept i
one_before [] kept i rest here q other = absurd (none-some kept here)
one_before (e ∷ more) kept zero rest here q other =
    let none = rest q other in
    let leads = same_Some e.point kept here in
    let differs = other_point q e.point (λ same. other (same ∙ leads)) in
    rw (sum_by-cons (λ k. cond (is_point q k) 1 0) e.point (points more), differs) (omega (arith, none))
one_before (e ∷ more) kept (suc i) rest here q other = one_before more kept i rest here q other

-- the place before is one more
pub one_back : (ends : List End) (kept : Point) (i j : ℕ) → i ≡ suc j → LeadsBackFrom ends kept i → LeadsTo ends kept j → LeadsBackFrom ends kept j
one_back ends kept i j next rest here = one_before ends kept j (subst (λ (k : ℕ). LeadsBackFrom ends kept k) next rest) here

-- and from the first place on these are all
pub all_lead : (ends : List End) (kept : Point) (i : ℕ) → i ≡ 0 → LeadsBackFrom ends kept i → (q : Point) → q ≢ kept → ends_with ends q ≡ 0
all_lead ends kept zero first rest q other = rest q other
all_lead ends kept (suc i) first rest q other = absurd (omega (arith, first))

-- a point whose ends lead to no other point reads no other
pub reads_one : (kids : EndLists) → StandsOnce kids.rows.places → (p kept : Point) (ends : List End) → ends ≡ ends_at kids p
    → ((q : Point) → q ≢ kept → ends_with ends q ≡ 0) → (q : Point) → Reads (record { all = links_of kids }) p q → q ≡ kept
reads_one kids once p kept ends same none q reads = elim (point_cases q kept) [
  | inl is ↦ is
  | inr other ↦
      let t = times_of_ends kids once p q in
      let zero_here : ends_with (ends_at kids p) q ≡ 0 = ap (λ l. ends_with l q) (sym same) ∙ none q other in
      absurd (omega (arith, t, zero_here, reads))
]
