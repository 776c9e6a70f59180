-- Lists in which a relation leads only on: nothing on them leads back, and no walk is longer.
use Rattle.std.proofs.Common.{◌≡◌, ◌⊎◌, inl, inr, ℕ, ◌<◌, ◌≤◌, List, [], ◌∷◌, length, Option, None, Some, refl, arith}
use Rattle.inc_value.specs.Choice.{Among, Reaches, here, step}
use Rattle.script_model.specs.Values.{Value, Outcome}
use Rattle.script_model.specs.Formula.{Formula, State, Meanings}
use Rattle.script_model.specs.Evaluate.{value_at, Gives}
use Rattle.script_model.specs.Need.{Item, Named, Place, Reads, Needed, roots}
use Rattle.script_model.specs.Depth.{Point, Depends, IsWalk, points_of, node_of, TooDeep}
use Rattle.script_model.specs.Blocked.{ReadsName, at_once, through, NameReads, OnCycle, InTheWay, on_cycle, too_deep}
use Rattle.script_model.proofs.Evaluation.{one_outcome}
use Rattle.script_model.proofs.Reaching.{reaches_join}

-- each element leads to later ones alone
abbrev pub Falls : {A : Type 0} → (A → A → Type 0) → List A → Type 0
Falls R [] = Unit {0}
Falls R (x ∷ xs) = ((y : _) → R x y → Among y xs) × Falls R xs

-- each of the one list is among the other
abbrev pub AllAmong : {A : Type 0} → List A → List A → Type 0
AllAmong [] ys = Unit {0}
AllAmong (x ∷ xs) ys = Among x ys × AllAmong xs ys

pub among_all : {A : Type 0} (x : A) (xs ys : List A) → AllAmong xs ys → Among x xs → Among x ys
among_all x [] ys all is = absurd is
among_all x (z ∷ zs) ys all (inl same) = rw same all.0
among_all x (z ∷ zs) ys all (inr later) = among_all x zs ys all.1 later

module _ {A : Type 0} (R : A → A → Type 0) where
  pub stays_among : (xs : List A) (x y : A) → Falls R xs → Among x xs → Reaches R x y → Among y xs
  stays_among xs x y falls is here = is
  stays_among [] x y falls is (step r more) = absurd is
  stays_among (z ∷ zs) x y falls (inl same) (step {b = b} r more) = inr (stays_among zs b y falls.1 (falls.0 b (rw same at r)) more)
  stays_among (z ∷ zs) x y falls (inr later) (step {b = b} r more) = inr (stays_among zs x y falls.1 later (step r more))

  pub leads_to_none : (xs : List A) (x y : A) → Falls R xs → Among x xs → R x y → Reaches R y x → ⊥
  leads_to_none [] x y falls is r back = is
  leads_to_none (z ∷ zs) x y falls (inl same) r back =
      leads_to_none zs x y falls.1 (stays_among zs y x falls.1 (falls.0 y (rw same at r)) back) r back
  leads_to_none (z ∷ zs) x y falls (inr later) r back = leads_to_none zs x y falls.1 later r back

-- ---- no walk is longer than the list

pub walk_is_short : (F : Meanings) (s : State) (points rest : List Point) (p : Point) → Falls (Depends F s) points → Among p points → IsWalk F s p rest → length rest < length points
walk_is_short F s [] rest p falls is walk = absurd is
walk_is_short F s (q ∷ qs) [] p falls is walk = omega arith
walk_is_short F s (q ∷ qs) (r ∷ rest) p falls (inl same) walk =
    let on : Among r qs = falls.0 r (rw same at walk.0) in let short = walk_is_short F s qs rest r falls.1 on walk.1 in omega (arith, short)
walk_is_short F s (q ∷ qs) (r ∷ rest) p falls (inr later) walk = let short = walk_is_short F s qs (r ∷ rest) p falls.1 later walk in omega (arith, short)

-- ---- nothing is blocked

-- a name that is read is reached, by a read and what follows
record First-read (F : Meanings) (s : State) (i : Item) (y : ℕ) : Type 0 where
  first : Item
  read : Reads F s i first
  on : Reaches (Reads F s) first (Named y)

first_read : (F : Meanings) (s : State) (y : ℕ) (i : Item) → ReadsName F s y i → First-read F s i y
first_read F s y i (at_once r) = record { first = Named y; read = r; on = here }
first_read F s y i (through owner path r more) =
    let next = first_read F s y (Place owner path) more in record { first = Place owner path; read = r; on = step next.read next.on }

names_reach : (F : Meanings) (s : State) (x y : ℕ) → Reaches (NameReads F s) x y → Reaches (Reads F s) (Named x) (Named y)
names_reach F s x y here = here
names_reach F s x y (step {b = z} r on) = let f = first_read F s z (Named x) r in step f.read (reaches_join (Reads F s) f.first (Named z) (Named y) f.on (names_reach F s z y on))

-- every root stands on the list
pub needed_among : (F : Meanings) (s : State) (items : List Item) (i : Item) → Falls (Reads F s) items → AllAmong (roots s) items → Needed F s i → Among i items
needed_among F s items i falls all needed = stays_among (Reads F s) items needed.0 i falls (among_all needed.0 (roots s) items all needed.1) needed.2

-- every item of the list has its points on the other list
abbrev pub PointsAmong : State → List Item → List Point → Type 0
PointsAmong s [] points = Unit {0}
PointsAmong s (i ∷ items) points = AllAmong (points_of s (node_of s i)) points × PointsAmong s items points

points_among : (s : State) (items : List Item) (points : List Point) (i : Item) (p : Point) → PointsAmong s items points → Among i items → Among p (points_of s (node_of s i)) → Among p points
points_among s [] points i p all is own = absurd is
points_among s (j ∷ items) points i p all (inl same) own = among_all p (points_of s (node_of s j)) points all.0 (rw same at own)
points_among s (j ∷ items) points i p all (inr later) own = points_among s items points i p all.1 later own

-- where reads lead only on, nothing that is needed is on a cycle
pub nothing_on_cycle : (F : Meanings) (s : State) (items : List Item) → Falls (Reads F s) items → AllAmong (roots s) items → (n : ℕ) → Needed F s (Named n) → OnCycle F s n → ⊥
nothing_on_cycle F s items falls all n needed cycle =
    let is = needed_among F s items (Named n) falls all needed in
    let f = first_read F s cycle.0 (Named n) cycle.1 in
    leads_to_none (Reads F s) items (Named n) f.first falls is f.read (reaches_join (Reads F s) f.first (Named cycle.0) (Named n) f.on (names_reach F s cycle.0 n cycle.2))

-- where dependencies lead only on and there are at most 129 points, nothing that is needed is too deep
pub nothing_too_deep : (F : Meanings) (s : State) (items : List Item) (points : List Point) → Falls (Reads F s) items → AllAmong (roots s) items → Falls (Depends F s) points
    → PointsAmong s items points → length points ≤ 129 → (i : Item) → Needed F s i → TooDeep F s i → ⊥
nothing_too_deep F s items points falls all falls' points_all few i needed deep =
    let is = needed_among F s items i falls all needed in
    let short = walk_is_short F s points deep.rest deep.first falls' (points_among s items points i deep.first points_all is deep.begins) deep.walk in
    let long = deep.long in
    omega (arith, short, long, few)

-- then nothing that is needed stands in the way
pub nothing_is_blocked : (F : Meanings) (s : State) (items : List Item) (points : List Point) → Falls (Reads F s) items → AllAmong (roots s) items → Falls (Depends F s) points
    → PointsAmong s items points → length points ≤ 129 → (i : Item) → Needed F s i → InTheWay F s i → ⊥
nothing_is_blocked F s items points falls all falls' points_all few i needed (on_cycle {n = n} cycle) = nothing_on_cycle F s items falls all n needed cycle
nothing_is_blocked F s items points falls all falls' points_all few i needed (too_deep deep) =
    nothing_too_deep F s items points falls all falls' points_all few i needed deep

-- ---- what doesn't depend on how deep evaluation goes

-- a formula that gives an outcome gives it at a depth, or nothing yet
pub either : (F : Meanings) (s : State) (E : List Value) (f : Formula) (o : Outcome) (d : ℕ) → Gives F s E f o → (value_at F s d E f ≡ None) ⊎ (value_at F s d E f ≡ Some o)
either F s E f o d gives = go (value_at F s d E f) refl
  where
    go : (x : Option Outcome) → value_at F s d E f ≡ x → (x ≡ None) ⊎ (x ≡ Some o)
    go None is = inl refl
    go (Some p) is = inr (let same = one_outcome F s E f p o (d, is) gives in rw same refl)
