-- Heights that climb where one link more asks for it.
use Rattle.std.specs.Prelude.{◌≡◌, ◌⊎◌, ℕ, ◌+◌, ◌<◌, ◌≤◌, List, Option, None, Some, min}
use Rattle.inc_value.specs.declared.node.Point.{Point}
use Rattle.point_map.specs.Rows.{Rows, at, Holds, Changes, KeepsRows}
use Rattle.link_table.specs.Links.{Links, Reads, occurrences}
use Rattle.height_order.specs.declared.lifts.Lift.{Lift}
use Rattle.height_order.specs.Chains.{Reading, ReadsWith, Leads}
use Rattle.height_order.specs.Levels.{level, Rises}

-- the height that a lift gives, or this one where there is none
abbrev pub lifted_from : ℕ → Option Lift → ℕ
lifted_from h None = h
lifted_from h (Some l) = l.height

-- the height of a point once it is lifted
abbrev pub lifted : Rows ℕ → Rows Lift → Point → ℕ
lifted heights lifts p = lifted_from (level heights p) (at lifts p)

-- a new height is greater than the old one and than that of the new kid
pub record IsRaised (heights : Rows ℕ) (q x : Point) (height : ℕ) : Type 0 where
  pub more : level heights x < height
  pub above_kid : level heights q < height
  pub low : height ≤ 129

-- points that aren't above the greatest height stand higher than what they read
abbrev pub RisesToTop : Reading → (Point → ℕ) → Type 0
RisesToTop R height = (a b : Point) → R a b → height a ≤ 128 → height b < height a

-- the point that asks for the height is the new kid, for p, or was lifted itself
abbrev pub IsAsked : Links → Point → Point → Rows Lift → Point → Point → Type 0
IsAsked links p q lifts x kid = ((x ≡ p) × (kid ≡ q)) ⊎ (Reads links x kid × Holds lifts kid)

-- this is so of each lifted point
abbrev pub AllAsked : Links → Point → Point → Rows Lift → Type 0
AllAsked links p q lifts = (x : Point) (l : Lift) → at lifts x ≡ Some l → IsAsked links p q lifts x l.kid

-- lifted points are there, and are raised; q isn't one of them and doesn't lead to p. Lifted heights rise along the
-- links with the new one, but for points above the greatest height.
pub record IsClimbed (heights : Rows ℕ) (links : Links) (p q : Point) (lifts : Rows Lift) : Type 0 where
  pub there : (x : Point) → Holds lifts x → Holds heights x
  pub raised : (x : Point) (l : Lift) → at lifts x ≡ Some l → IsRaised heights q x l.height
  pub asked : AllAsked links p q lifts
  pub unmet : at lifts q ≡ None
  pub rises : RisesToTop (ReadsWith links p q) (lifted heights lifts)
  pub no_path : Leads (Reads links) q p → ⊥

-- numbers of at most 257 that rise along all links; those of points that aren't lifted are their heights
pub record IsRanked (R : Reading) (heights : Rows ℕ) (lifts : Rows Lift) : Type 0 where
  pub rank : Point → ℕ
  pub rises : Rises R rank
  pub low : (x : Point) → rank x ≤ 257
  pub same : (x : Point) → at lifts x ≡ None → rank x ≡ level heights x

-- the point was lifted, and has left the queue
pub record IsDone (lifts : Rows Lift) (queue : Rows ℕ) (y : Point) : Type 0 where
  pub lifted : Holds lifts y
  pub out : at queue y ≡ None

-- a reader of x that is still to come, or stands higher than y or above the greatest height
abbrev pub IsAboveSoon : Rows ℕ → Rows Lift → Point → List Point → Point → Point → Type 0
IsAboveSoon heights lifts x left r y =
    ((y ≡ x) × (0 < occurrences left r)) ⊎ (lifted heights lifts r ≤ 128 → lifted heights lifts y < lifted heights lifts r)

-- A climb under way. The points of the queue have old heights of at least the bound, and those that are done of at
-- most the bound. Readers of what is done stand higher, but for the readers of x that are left.
pub record IsClimbing (heights : Rows ℕ) (links : Links) (p q : Point) (lifts : Rows Lift) (queue : Rows ℕ) (bound : ℕ) (x : Point) (left : List Point) : Type 0 where
  pub there : (y : Point) → Holds lifts y → Holds heights y
  pub raised : (y : Point) (l : Lift) → at lifts y ≡ Some l → IsRaised heights q y l.height
  pub asked : AllAsked links p q lifts
  pub queued : (y : Point) (h : ℕ) → at queue y ≡ Some h → (h ≡ level heights y) × Holds lifts y
  pub not_below : (y : Point) → Holds lifts y → level heights p ≤ level heights y
  pub unmet : at lifts q ≡ None
  pub start : level heights q < lifted heights lifts p
  pub above : (y r : Point) → IsDone lifts queue y → Reads links r y → IsAboveSoon heights lifts x left r y
  pub done : (y : Point) → IsDone lifts queue y → level heights y ≤ bound
  pub waiting : (y : Point) (h : ℕ) → at queue y ≡ Some h → bound ≤ h

-- the point was lifted, and is in the queue by its old height
pub record IsLifted (heights : Rows ℕ) (old new : Rows Lift) (queue_old queue_new : Rows ℕ) (r : Point) (l : Lift) : Type 0 where
  pub lifts : Changes old new r (Some l)
  pub again : Holds old r → KeepsRows queue_old queue_new
  pub first : at old r ≡ None → Changes queue_old queue_new r (Some (level heights r))

-- the reader isn't lifted, since it is higher than the kid or above the greatest height
pub record StaysAbove (heights : Rows ℕ) (old new : Rows Lift) (queue_old queue_new : Rows ℕ) (reader kid : Point) : Type 0 where
  pub lifts : new ≡ old
  pub queue : queue_new ≡ queue_old
  pub above : lifted heights old reader ≤ 128 → lifted heights old kid < lifted heights old reader

-- the reader is lifted one above the kid, but to no more than 129
pub record GoesAbove (heights : Rows ℕ) (old new : Rows Lift) (queue_old queue_new : Rows ℕ) (reader kid : Point) : Type 0 where
  pub height : ℕ
  pub one_above : height ≡ min (lifted heights old kid) 128 + 1
  pub more : lifted heights old reader < height
  pub lifts : IsLifted heights old new queue_old queue_new reader (record { height = height; kid = kid })

-- the reader stands higher than the kid, lifted or not
abbrev pub ComesAbove : Rows ℕ → Rows Lift → Rows Lift → Rows ℕ → Rows ℕ → Point → Point → Type 0
ComesAbove heights old new queue_old queue_new reader kid =
    StaysAbove heights old new queue_old queue_new reader kid ⊎ GoesAbove heights old new queue_old queue_new reader kid

-- what was done is done
abbrev pub KeepsDone : Rows Lift → Rows Lift → Rows ℕ → Rows ℕ → Type 0
KeepsDone lifts_old lifts_new queue_old queue_new = (y : Point) → IsDone lifts_old queue_old y → IsDone lifts_new queue_new y
