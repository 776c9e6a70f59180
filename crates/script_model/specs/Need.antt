-- What is read, what is needed, and how many calls of functions are due.
use Rattle.std.specs.Prelude.{◌≡◌, ℕ, zero, suc, ◌≤◌, true, false, List, [], ◌∷◌, ◌++◌, map, length, Option, None, Some}
use Rattle.std.specs.List.{sum_by}
use Rattle.inc_value.specs.Choice.{and_then, Among, NoRepeats, Every, Reaches}
use Rattle.script_model.specs.Values.{Value, Outcome, Bool, Reference, Val, same_value}
use Rattle.script_model.specs.Formula as model
use Rattle.script_model.specs.Formula.{Formula, Formulas, Body, Entry, Observer, State, Meanings, body_at, formula_of_body, Literal, Name, Bound, Apply, Fold, If, Join, Bind, At, Steps, Now, End, More, Variable, Computed, Freeze, After, Expert, Grab}
use Rattle.script_model.specs.Evaluate.{Gathered, Values, gathered, each_of, value_at}

-- ---- items

-- from a formula to a part of it; to the body of a bind with the value that its left gives
pub data Edge : Type 0 where
  Argument : (k : ℕ) → Edge
  Test : Edge
  Then : Edge
  Else : Edge
  Child : Edge
  Left : Edge
  Inside : (value : Value) → Edge

-- what can be needed: a name, or a place of a declared formula. The path of a place tells which part it is of the place
-- around it, then which part that one is, and so on to the whole formula, whose path is empty
pub data Item : Type 0 where
  Named : (position : ℕ) → Item
  Place : (owner : ℕ) (path : List Edge) → Item

-- the values of the binds round a place, the innermost first
abbrev pub environment : List Edge → List Value
environment [] = []
environment (Inside v ∷ path) = v ∷ environment path
environment (edge ∷ path) = environment path

-- the bind that the k-th variable from the inside belongs to
abbrev pub bind_around : ℕ → List Edge → Option (List Edge)
bind_around k [] = None
bind_around zero (Inside v ∷ path) = Some path
bind_around (suc k) (Inside v ∷ path) = bind_around k path
bind_around k (edge ∷ path) = bind_around k path

-- a bind and the value that its left gave
pub record Round : Type 0 where
  pub bind : List Edge
  pub value : Value

-- the binds round a place, with their values
abbrev pub rounds : List Edge → List Round
rounds [] = []
rounds (Inside v ∷ path) = record { bind = path; value = v } ∷ rounds path
rounds (edge ∷ path) = rounds path

-- the k-th argument
abbrev pub argument_at : Formulas → ℕ → Option Formula
argument_at End k = None
argument_at (More f rest) zero = Some f
argument_at (More f rest) (suc k) = argument_at rest k

-- the part that an edge leads to
abbrev pub part_at : Formula → Edge → Option Formula
part_at (Apply f arguments) (Argument k) = argument_at arguments k
part_at (Fold f first elements) (Argument k) = argument_at elements k
part_at (If test a b) Test = Some test
part_at (If test a b) Then = Some a
part_at (If test a b) Else = Some b
part_at (Join child) Child = Some child
part_at (Bind left body) Left = Some left
part_at (Bind left body) (Inside v) = Some body
part_at f edge = None

-- the part of a formula at a path
abbrev pub part_of : Formula → List Edge → Option Formula
part_of f [] = Some f
part_of f (edge ∷ path) = and_then (part_of f path) (λ g. part_at g edge)

-- the formula that stands at a place
abbrev pub formula_at : State → ℕ → List Edge → Option Formula
formula_at s owner path = and_then (body_at s owner) (λ body. and_then (formula_of_body body) (λ f. part_of f path))

-- what an item gives within a depth
abbrev pub outcome_at : Meanings → State → ℕ → Item → Option Outcome
outcome_at F s d (Named n) = value_at F s d [] (Name n)
outcome_at F s d (Place owner path) = and_then (formula_at s owner path) (λ f. value_at F s d (environment path) f)

-- some depth answers
abbrev pub ItemGives : Meanings → State → Item → Outcome → Type 0
ItemGives F s i o = (d : ℕ) × (outcome_at F s d i ≡ Some o)

-- ---- reads

-- the places of arguments, from the k-th on
abbrev pub argument_places : ℕ → List Edge → ℕ → Formulas → List Item
argument_places owner path k End = []
argument_places owner path k (More f rest) = Place owner (Argument k ∷ path) ∷ argument_places owner path (suc k) rest

-- the side that a test chooses
abbrev pub chosen_place : ℕ → List Edge → Option Outcome → List Item
chosen_place owner path (Some (Val (Bool true))) = Place owner (Then ∷ path) ∷ []
chosen_place owner path (Some (Val (Bool false))) = Place owner (Else ∷ path) ∷ []
chosen_place owner path o = []

-- the name that a reference gives
abbrev pub named_place : Option Outcome → List Item
named_place (Some (Val (Reference target base))) = Named target ∷ []
named_place o = []

-- the body of a bind, where its left gives a value
abbrev pub inside_place : ℕ → List Edge → Option Outcome → List Item
inside_place owner path (Some (Val v)) = Place owner (Inside v ∷ path) ∷ []
inside_place owner path o = []

-- what a formula at a place reads, over what its parts give
abbrev pub part_reads : (Formula → Option Outcome) → ℕ → List Edge → Formula → List Item
part_reads part owner path (Literal v) = []
part_reads part owner path (Name n) = Named n ∷ []
part_reads part owner path (Bound k) = []
part_reads part owner path (Apply f arguments) = argument_places owner path 0 arguments
part_reads part owner path (Fold f first elements) = argument_places owner path 0 elements
part_reads part owner path (If test a b) = Place owner (Test ∷ path) ∷ chosen_place owner path (part test)
part_reads part owner path (Join child) = Place owner (Child ∷ path) ∷ named_place (part child)
part_reads part owner path (Bind left body) = Place owner (Left ∷ path) ∷ inside_place owner path (part left)
part_reads part owner path (At t) = []
part_reads part owner path (Steps first steps) = []
part_reads part owner path Now = []

-- the left of a bind
abbrev pub left_of : ℕ → Option (List Edge) → List Item
left_of owner None = []
left_of owner (Some bind) = Place owner (Left ∷ bind) ∷ []

-- a place inside a body reads the left of its innermost bind too; a name and the variable of a bind further out have no
-- place of their own there
abbrev pub scope_reads : ℕ → List Edge → Formula → List Item
scope_reads owner path (Name n) = []
scope_reads owner path (Bound (suc k)) = []
scope_reads owner path f = left_of owner (bind_around 0 path)

-- what a place reads
abbrev pub place_reads : Meanings → State → ℕ → ℕ → List Edge → Option Formula → List Item
place_reads F s d owner path None = []
place_reads F s d owner path (Some f) = part_reads (value_at F s d (environment path)) owner path f ++ scope_reads owner path f

-- what a live grab reads: its bind's left, and the body where the left gives its value
abbrev pub grab_reads : ℕ → Value → Option Outcome → List Item
grab_reads bind v (Some (Val w)) = elim (same_value v w) [ true ↦ Place bind (Left ∷ []) ∷ Place bind (Inside v ∷ []) ∷ [] | false ↦ Place bind (Left ∷ []) ∷ [] ]
grab_reads bind v o = Place bind (Left ∷ []) ∷ []

-- what a declaration reads
abbrev pub body_reads : Meanings → State → ℕ → ℕ → Body → List Item
body_reads F s d n (Variable v) = []
body_reads F s d n (Computed f kept) = Place n [] ∷ []
body_reads F s d n (Freeze child predicate None) = Place n [] ∷ []
body_reads F s d n (Freeze child predicate (Some v)) = []
body_reads F s d n (After t) = []
body_reads F s d n (model.Every base span) = []
body_reads F s d n (Expert f first links stale) = map (λ m. Named m) links
body_reads F s d n (Grab bind v true) = grab_reads bind v (outcome_at F s d (Place bind (Left ∷ [])))
body_reads F s d n (Grab bind v false) = []

-- what a name reads
abbrev pub name_reads : Meanings → State → ℕ → ℕ → Option Body → List Item
name_reads F s d n None = []
name_reads F s d n (Some body) = body_reads F s d n body

-- what evaluating an item uses directly, as far as a depth tells
abbrev pub reads_at : Meanings → State → ℕ → Item → List Item
reads_at F s d (Named n) = name_reads F s d n (body_at s n)
reads_at F s d (Place owner path) = place_reads F s d owner path (formula_at s owner path)

-- evaluating the one item uses the other directly
abbrev pub Reads : Meanings → State → Item → Item → Type 0
Reads F s i j = (d : ℕ) × Among j (reads_at F s d i)

-- ---- need

-- a freeze that isn't frozen is needed
abbrev pub own_root : State → ℕ → Body → List Item
own_root s n (Freeze child predicate None) = Named n ∷ []
own_root s n body = []

-- the declarations that are needed by themselves, from the n-th on
abbrev pub own_roots : State → ℕ → List Entry → List Item
own_roots s n [] = []
own_roots s n (e ∷ es) = own_root s n e.body ++ own_roots s (suc n) es

-- the names that observers in use look at, and those that are needed by themselves
abbrev pub roots : State → List Item
roots s = map (λ (o : Observer). Named o.target) s.observers ++ own_roots s 0 s.entries

-- reached from the roots by reads
abbrev pub Needed : Meanings → State → Item → Type 0
Needed F s i = (root : Item) × Among root (roots s) × Reaches (Reads F s) root i

-- reached, by the reads before, from what is a root before and now
pub record Held (F : Meanings) (before now : State) (i : Item) : Type 0 where
  pub root : Item
  pub was : Among root (roots before)
  pub is_still : Among root (roots now)
  pub reached : Reaches (Reads F before) root i

-- the left of a bind round a place still gives the place's value
abbrev pub StillGives : Meanings → State → ℕ → Round → Type 0
StillGives F s owner round = ItemGives F s (Place owner (Left ∷ round.bind)) (Val round.value)

-- the lefts of the binds round an item still give the item's values
abbrev pub StillStands : Meanings → State → Item → Type 0
StillStands F s (Named n) = Unit {0}
StillStands F s (Place owner path) = Every (StillGives F s owner) (rounds path)

-- reached, by the present reads, from the roots or from what is held and still stands
pub data Met (F : Meanings) (before now : State) (i : Item) : Type 0 where
  from_root : Needed F now i → Met F before now i
  from_held : {h : Item} → Held F before now h → StillStands F now h → Reaches (Reads F now) h i → Met F before now i

-- ---- visits and work

-- a call of a function that evaluating an item makes: the item, the values that the function is given, how often it was
-- asked to run anew, and how many calls it counts
pub record Visit : Type 0 where
  pub item : Item
  pub values : List Value
  pub stamp : ℕ
  pub cost : ℕ

-- a visit of an item that makes one at most
abbrev pub visit_of : Item → List Value → ℕ → ℕ → Visit
visit_of i values stamp cost = record { item = i; values = values; stamp = stamp; cost = cost }

-- one call, or one for each value
abbrev pub once : List Value → ℕ
once values = 1

-- how often a declaration was asked to run anew
abbrev pub stamp_of_body : Option Body → ℕ
stamp_of_body (Some (Expert f first links stale)) = stale
stamp_of_body _ = 0

-- how often an item was asked to run anew
abbrev pub stamp_of : State → Item → ℕ
stamp_of s (Named n) = stamp_of_body (body_at s n)
stamp_of s (Place owner path) = 0

-- the visit with these values, where all of them are there
abbrev pub visit_with : State → Item → (List Value → ℕ) → Gathered → List Visit
visit_with s i cost (Values values) = visit_of i values (stamp_of s i) (cost values) ∷ []
visit_with s i cost g = []

-- the visits of a formula at a place
abbrev pub formula_visits : State → Item → (Formula → Option Outcome) → Option Formula → List Visit
formula_visits s i part (Some (Apply f arguments)) = visit_with s i once (gathered (each_of part arguments))
formula_visits s i part (Some (Fold f first elements)) = visit_with s i length (gathered (each_of part elements))
formula_visits s i part f = []

-- the visits of a declaration
abbrev pub body_visits : Meanings → State → ℕ → Item → Option Body → List Visit
body_visits F s d i (Some (Freeze child predicate None)) = visit_with s i once (gathered (value_at F s d [] child ∷ []))
body_visits F s d i (Some (Expert f first links stale)) = visit_with s i length (gathered (map (λ m. value_at F s d [] (Name m)) links))
body_visits F s d i body = []

-- the visits of an item, as far as a depth tells
abbrev pub visits_at : Meanings → State → ℕ → Item → List Visit
visits_at F s d (Named n) = body_visits F s d (Named n) (body_at s n)
visits_at F s d (Place owner path) = formula_visits s (Place owner path) (value_at F s d (environment path)) (formula_at s owner path)

-- a visit of the state
abbrev pub IsVisit : Meanings → State → Visit → Type 0
IsVisit F s v = (d : ℕ) × Among v (visits_at F s d v.item)

-- a visit that is due: met now, and not one of what was needed before
pub record IsDue (F : Meanings) (before now : State) (v : Visit) : Type 0 where
  pub visit : IsVisit F now v
  pub met : Met F before now v.item
  pub fresh : IsVisit F before v → Needed F before v.item → ⊥

-- so many calls are due: there are visits, none twice, each of them due, whose costs allow them
pub record WithinWork (F : Meanings) (before now : State) (calls : ℕ) : Type 0 where
  pub visits : List Visit
  pub distinct : NoRepeats visits
  pub due : Every (IsDue F before now) visits
  pub enough : calls ≤ sum_by (λ (v : Visit). v.cost) visits
