-- Heights over which some points are lifted.
use Rattle.std.proofs.Common.{◌≡◌, ◌≢◌, ◌∙◌, ℕ, ◌<◌, ◌≤◌, ap, sym, inl, inr, arith, is_some}
use Rattle.std.specs.Prelude.{◌⊎◌, Some, None}
use Rattle.inc_value.specs.declared.node.Point.{Point}
use Rattle.point_map.specs.Rows.{Rows, at, Holds, Changes}
use Rattle.point_map.proofs.Places.{point_cases}
use Rattle.height_order.specs.declared.lifts.Lift.{Lift}
use Rattle.height_order.specs.Levels.{level, KeepsPoints}
use Rattle.height_order.specs.Climbs.{lifted_from, lifted}
use Rattle.height_order.proofs.Points.{row_there, there_cases, level_there, level_other}

module _ (heights : Rows ℕ) where
  pub lifted_some : (lifts : Rows Lift) (x : Point) (l : Lift) → at lifts x ≡ Some l → lifted heights lifts x ≡ l.height
  lifted_some lifts x l e = ap (lifted_from (level heights x)) e

  pub lifted_none : (lifts : Rows Lift) (x : Point) → at lifts x ≡ None → lifted heights lifts x ≡ level heights x
  lifted_none lifts x e = ap (lifted_from (level heights x)) e

  pub lifted_there : (old new : Rows Lift) (r : Point) (l : Lift) → Changes old new r (Some l) → lifted heights new r ≡ l.height
  lifted_there old new r l c = lifted_some new r l c.changed

  pub lifted_other : (old new : Rows Lift) (r y : Point) (l : Lift) → Changes old new r (Some l) → y ≢ r → lifted heights new y ≡ lifted heights old y
  lifted_other old new r y l c differs = ap (lifted_from (level heights y)) (c.others y differs)

  -- over other heights too
  pub lifted_alike : (now : Rows ℕ) (lifts : Rows Lift) (x : Point) → Holds lifts x → lifted now lifts x ≡ lifted heights lifts x
  lifted_alike now lifts x there =
      let r = row_there lifts x there in ap (lifted_from (level now x)) r.1 ∙ sym (lifted_some lifts x r.0 r.1)

  not_under_by : (lifts : Rows Lift) (x : Point) → ((y : Point) (l : Lift) → at lifts y ≡ Some l → level heights y < l.height) → (at lifts x ≡ None) ⊎ Holds lifts x
      → level heights x ≤ lifted heights lifts x
  not_under_by lifts x more (inl none) = let e = lifted_none lifts x none in omega (arith, e)
  not_under_by lifts x more (inr there) =
      let r = row_there lifts x there in let e = lifted_some lifts x r.0 r.1 in let m = more x r.0 r.1 in omega (arith, e, m)

  -- lifted heights are no lower
  pub not_under : (lifts : Rows Lift) (x : Point) → ((y : Point) (l : Lift) → at lifts y ≡ Some l → level heights y < l.height) → level heights x ≤ lifted heights lifts x
  not_under lifts x more = not_under_by lifts x more (there_cases lifts x)

-- some points have new heights, and others keep what they had
pub record Written (old now : Rows ℕ) (given : Point → ℕ) : Type 0 where
  pub points : KeepsPoints old now
  pub each : (p : Point) → (level now p ≡ level old p) ⊎ (level now p ≡ given p)

module _ (old now : Rows ℕ) (given : Point → ℕ) (so : Written old now given) where
  module _ (next : Rows ℕ) (p : Point) (h : ℕ) (is : h ≡ given p) (there : Holds now p) (changes : Changes now next p (Some h)) where
    pub written_here : level next p ≡ given p
    written_here = level_there now next p h changes ∙ is

    each_by : (q : Point) → (q ≡ p) ⊎ (q ≢ p) → (level now q ≡ level old q) ⊎ (level now q ≡ given q) → (level next q ≡ level old q) ⊎ (level next q ≡ given q)
    each_by q (inl same) either = inr (ap (level next) same ∙ written_here ∙ ap given (sym same))
    each_by q (inr differs) (inl e) = inl (level_other now next p q (Some h) changes differs ∙ e)
    each_by q (inr differs) (inr e) = inr (level_other now next p q (Some h) changes differs ∙ e)

    same_points : (q : Point) → (q ≡ p) ⊎ (q ≢ p) → is_some (at next q) ≡ is_some (at old q)
    same_points q (inl same) = (ap (λ z. is_some (at next z)) same ∙ (ap is_some changes.changed ∙ sym there) ∙ ap (λ z. is_some (at now z)) (sym same)) ∙ so.points q
    same_points q (inr differs) = ap is_some (changes.others q differs) ∙ so.points q

    -- one more point gets its height
    pub written_more : Written old next given
    written_more = record { points = λ q. same_points q (point_cases q p); each = λ q. each_by q (point_cases q p) (so.each q) }

  -- what had its height keeps it
  pub written_still : (next : Rows ℕ) (p : Point) (h : ℕ) → h ≡ given p → Changes now next p (Some h) → (q : Point) → level now q ≡ given q → level next q ≡ given q
  written_still next p h is changes q had = still_by (point_cases q p)
    where
      still_by : (q ≡ p) ⊎ (q ≢ p) → level next q ≡ given q
      still_by (inl same) = ap (level next) same ∙ (level_there now next p h changes ∙ is) ∙ ap given (sym same)
      still_by (inr differs) = level_other now next p q (Some h) changes differs ∙ had

  whole_by : {R : Type 0} (m : Rows R) (p : Point) → (Holds m p → level now p ≡ given p) → (at m p ≡ None → given p ≡ level old p) → (at m p ≡ None) ⊎ Holds m p
      → (level now p ≡ level old p) ⊎ (level now p ≡ given p) → level now p ≡ given p
  whole_by m p here other (inr there) either = here there
  whole_by m p here other (inl none) (inl e) = e ∙ sym (other none)
  whole_by m p here other (inl none) (inr e) = e

  -- each point of the map has its height, and others are given what they had
  pub written_whole : {R : Type 0} (m : Rows R) → ((p : Point) → Holds m p → level now p ≡ given p) → ((p : Point) → at m p ≡ None → given p ≡ level old p)
      → (p : Point) → level now p ≡ given p
  written_whole m here other p = whole_by m p (here p) (other p) (there_cases m p) (so.each p)
