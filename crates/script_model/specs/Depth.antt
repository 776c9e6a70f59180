-- Heights: which points depend on which, and items that are too deep.
use Rattle.std.specs.Prelude.{◌≡◌, ℕ, Bool, true, false, ◌&&◌, List, [], ◌∷◌, ◌++◌, map, length, Option, None, Some}
use Rattle.inc_value.specs.Choice.{and_then, Among, NoRepeats}
use Rattle.script_model.specs.Values.{Outcome, Val, same_value}
use Rattle.script_model.specs.Formula.{Formula, Body, State, Meanings, body_at, Name, Bound, Apply, Fold, If, Join, Bind, Computed, Freeze, Expert, Grab}
use Rattle.script_model.specs.Evaluate.{value_at, chosen}
use Rattle.script_model.specs.Need.{Edge, Test, Child, Left, Inside, Item, Named, Place, Round, rounds, environment, bind_around, formula_at, outcome_at, argument_places, chosen_place, named_place, inside_place}

-- ---- points

-- an if, a join and a bind are two points, change and main; every other item is main alone
pub data Point : Type 0 where
  Main : (item : Item) → Point
  Change : (item : Item) → Point

-- the item that computes what a declaration gives: the place of its formula, or the right side that a live grab holds
abbrev pub node_of_body : ℕ → Option Body → Item
node_of_body n (Some (Computed f kept)) = Place n []
node_of_body n (Some (Grab bind v true)) = Place bind (Inside v ∷ [])
node_of_body n _ = Named n

-- the item that computes what a formula at a place gives: that of the name that it is, or the place
abbrev pub node_of_formula : State → Item → Option Formula → Item
node_of_formula s i (Some (Name n)) = node_of_body n (body_at s n)
node_of_formula s i _ = i

-- the item that computes what an item gives
abbrev pub node_of : State → Item → Item
node_of s (Named n) = node_of_body n (body_at s n)
node_of s (Place owner path) = node_of_formula s (Place owner path) (formula_at s owner path)

-- the main points of items
abbrev pub mains : State → List Item → List Point
mains s items = map (λ i. Main (node_of s i)) items

-- the change of a bind
abbrev pub change_of : ℕ → Option (List Edge) → List Point
change_of owner None = []
change_of owner (Some bind) = Change (Place owner bind) ∷ []

-- whether the lefts of the binds round a place give the place's values, as far as a depth tells
abbrev pub stands_at : Meanings → State → ℕ → ℕ → List Round → Bool
stands_at F s d owner [] = true
stands_at F s d owner (round ∷ outer) = elim (outcome_at F s d (Place owner (Left ∷ round.bind))) [
  | Some (Val w) ↦ same_value round.value w && stands_at F s d owner outer
  | _ ↦ false
]

-- what the main point of a place depends on, but for the binds round it
abbrev pub main_points : State → (Formula → Option Outcome) → ℕ → List Edge → Formula → List Point
main_points s part owner path (Apply f arguments) = mains s (argument_places owner path 0 arguments)
main_points s part owner path (Fold f first elements) = mains s (argument_places owner path 0 elements)
main_points s part owner path (If test a b) = Change (Place owner path) ∷ mains s (chosen_place owner path (part test))
main_points s part owner path (Join child) = Change (Place owner path) ∷ mains s (named_place (part child))
main_points s part owner path (Bind left body) = Change (Place owner path) ∷ mains s (inside_place owner path (part left))
main_points s part owner path f = []

-- what its change point depends on, but for the binds round it; none where it has no change point
abbrev pub change_points : State → ℕ → List Edge → Formula → Option (List Point)
change_points s owner path (If test a b) = Some (mains s (Place owner (Test ∷ path) ∷ []))
change_points s owner path (Join child) = Some (mains s (Place owner (Child ∷ path) ∷ []))
change_points s owner path (Bind left body) = Some (mains s (Place owner (Left ∷ path) ∷ []))
change_points s owner path f = None

-- a point of a place depends on the change of the innermost bind, and on more where the binds round it give its values;
-- a variable depends on its own bind's change alone
abbrev pub scoped_points : Meanings → State → ℕ → ℕ → List Edge → List Point → Formula → List Point
scoped_points F s d owner path points (Bound k) = change_of owner (bind_around k path)
scoped_points F s d owner path points f = change_of owner (bind_around 0 path) ++ chosen (stands_at F s d owner (rounds path)) points []

-- what the main point of a declaration depends on
abbrev pub body_points : State → ℕ → Option Body → List Point
body_points s n (Some (Freeze child predicate None)) = mains s (Place n [] ∷ [])
body_points s n (Some (Expert f first links stale)) = mains s (map (λ m. Named m) links)
body_points s n _ = []

-- what a point depends on, as far as a depth tells
abbrev pub points_at : Meanings → State → ℕ → Point → List Point
points_at F s d (Main (Named n)) = body_points s n (body_at s n)
points_at F s d (Change (Named n)) = []
points_at F s d (Main (Place owner path)) = elim (formula_at s owner path) [
  | None ↦ []
  | Some f ↦ scoped_points F s d owner path (main_points s (value_at F s d (environment path)) owner path f) f
]
points_at F s d (Change (Place owner path)) = elim (formula_at s owner path) [
  | None ↦ []
  | Some f ↦ elim (change_points s owner path f) [
    | None ↦ []
    | Some points ↦ scoped_points F s d owner path points f
  ]
]

-- the one point depends on the other
abbrev pub Depends : Meanings → State → Point → Point → Type 0
Depends F s p q = (d : ℕ) × Among q (points_at F s d p)

-- each point depends on the next
abbrev pub IsWalk : Meanings → State → Point → List Point → Type 0
IsWalk F s p [] = Unit {0}
IsWalk F s p (q ∷ points) = Depends F s p q × IsWalk F s q points

-- the points of an item
abbrev pub points_of : State → Item → List Point
points_of s (Named n) = Main (Named n) ∷ []
points_of s (Place owner path) = elim (and_then (formula_at s owner path) (change_points s owner path)) [
  | None ↦ Main (Place owner path) ∷ []
  | Some points ↦ Main (Place owner path) ∷ Change (Place owner path) ∷ []
]

-- an item is too deep that begins a walk of 130 points, no two of them equal but perhaps the first and another: where the first comes again it is on
-- a cycle
pub record TooDeep (F : Meanings) (s : State) (i : Item) : Type 0 where
  pub first : Point
  pub rest : List Point
  pub begins : Among first (points_of s (node_of s i))
  pub walk : IsWalk F s first rest
  pub distinct : NoRepeats rest
  pub long : length rest ≡ 129
