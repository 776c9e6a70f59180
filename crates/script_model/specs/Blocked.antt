-- What stands in the way of a stabilize: names on a cycle, and items that are too deep.
use Rattle.std.specs.Prelude.{◌≡◌, ℕ, List, [], ◌∷◌, Some}
use Rattle.inc_value.specs.Choice.{NoRepeats, Reaches}
use Rattle.script_model.specs.Formula.{State, Meanings, Name, Grab, body_at}
use Rattle.script_model.specs.Need.{Edge, Item, Named, Place, Reads, formula_at}
use Rattle.script_model.specs.Depth.{TooDeep}

-- a walk of reads from an item to a name, with no name between
pub data ReadsName (F : Meanings) (s : State) (name : ℕ) : Item → Type 0 where
  at_once : {i : Item} → Reads F s i (Named name) → ReadsName F s name i
  through : {i : Item} → (owner : ℕ) → (path : List Edge) → Reads F s i (Place owner path) → ReadsName F s name (Place owner path) → ReadsName F s name i

-- the one name reads the other
abbrev pub NameReads : Meanings → State → ℕ → ℕ → Type 0
NameReads F s x y = ReadsName F s y (Named x)

-- each name reads the next
abbrev pub EachReads : Meanings → State → ℕ → List ℕ → Type 0
EachReads F s x [] = Unit {0}
EachReads F s x (y ∷ names) = NameReads F s x y × EachReads F s y names

-- the last name of the list is x
abbrev pub LastIs : ℕ → List ℕ → Type 0
LastIs x [] = ⊥
LastIs x (y ∷ []) = y ≡ x
LastIs x (y ∷ z ∷ names) = LastIs x (z ∷ names)

-- names of which each reads the next; the first and the last are equal, and no other two
abbrev pub IsCycle : Meanings → State → List ℕ → Type 0
IsCycle F s [] = ⊥
IsCycle F s (x ∷ names) = EachReads F s x names × LastIs x names × NoRepeats names

-- the name reads itself, through any number of names
abbrev pub OnCycle : Meanings → State → ℕ → Type 0
OnCycle F s x = (y : ℕ) × NameReads F s x y × Reaches (NameReads F s) y x

-- what stands in the way of a stabilize that meets it: a name on a cycle, and an item that is too deep
pub data InTheWay (F : Meanings) (s : State) : Item → Type 0 where
  on_cycle : {n : ℕ} → OnCycle F s n → InTheWay F s (Named n)
  too_deep : {i : Item} → TooDeep F s i → InTheWay F s i

-- the name is the item, or its formula holds it
abbrev pub Holds : ℕ → Item → Type 0
Holds n (Named m) = n ≡ m
Holds n (Place owner path) = n ≡ owner

-- no bare name stands at the item: what a name gives is computed where the name is declared
abbrev pub IsNoName : State → Item → Type 0
IsNoName s (Named m) = Unit {0}
IsNoName s (Place owner path) = (n : ℕ) → formula_at s owner path ≡ Some (Name n) → ⊥

-- the name whose depth is printed of an item: the name that is it, or that holds it, where no bare name stands at it; or the bind of which it is a grab
pub data IsPrintedFor (s : State) (name : ℕ) (i : Item) : Type 0 where
  own : Holds name i → IsNoName s i → IsPrintedFor s name i
  of_bind : (grab : ℕ) → (is_live : _) → (v : _) → i ≡ Named grab → body_at s grab ≡ Some (Grab name v is_live) → IsPrintedFor s name i
