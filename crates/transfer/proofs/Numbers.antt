-- The points of one declaration have numbers that fall along what they depend on, as far as no name is passed. Of the script alone.
use Rattle.std.proofs.Common.{◌≡◌, ℕ, zero, suc, ◌+◌, ◌<◌, ◌≤◌, List, [], ◌∷◌, Option, None, Some, sym, ap, ◌∙◌, arith}
use Rattle.script_model.specs.Depth.{Point, Main, Change}
use Rattle.script_model.specs.Formula.{Formula, Formulas, State, Literal, Name, Bound, Apply, Fold, If, Join, Bind, At, Steps, Now, End, More}
use Rattle.script_model.specs.Need.{Edge, Argument, Test, Then, Else, Child, Left, Inside, Named, Place, bind_around, argument_at, part_at, formula_at}
use Rattle.script_model.proofs.TypedCalls.{part_is}
use Rattle.transfer.proofs.Enclosed.{pass}
use Rattle.transfer.proofs.Places.{part_above}

abbrev mutual
  -- how many points a formula has
  pub size : Formula → ℕ
  size (Apply g fs) = suc (sizes fs)
  size (Fold g v fs) = suc (sizes fs)
  size (If t a b) = suc (suc (size t) + size a + size b)
  size (Join c) = suc (suc (size c))
  size (Bind l b) = suc (suc (size l) + size b)
  size f = 1

  pub sizes : Formulas → ℕ
  sizes End = 0
  sizes (More f rest) = size f + sizes rest

-- those of the arguments before the j-th
abbrev pub before : Formulas → ℕ → ℕ
before End j = 0
before (More f rest) zero = 0
before (More f rest) (suc j) = size f + before rest j

-- the points of a formula in order: the left, test or child, then the change, then bodies and sides, at last the main
abbrev pub offset : Formula → Edge → ℕ
offset (Apply g fs) (Argument j) = before fs j
offset (Fold g v fs) (Argument j) = before fs j
offset (If t a b) Then = suc (size t)
offset (If t a b) Else = suc (size t) + size a
offset (Bind l b) (Inside v) = suc (size l)
offset f edge = 0

abbrev pub turn : Formula → ℕ
turn (If t a b) = suc (size t)
turn (Join c) = suc (size c)
turn (Bind l b) = suc (size l)
turn f = 0

abbrev pub size_of : Option Formula → ℕ
size_of None = 0
size_of (Some f) = size f

abbrev pub offset_of : Option Formula → Edge → ℕ
offset_of None edge = 0
offset_of (Some f) edge = offset f edge

abbrev pub turn_of : Option Formula → ℕ
turn_of None = 0
turn_of (Some f) = turn f

abbrev pub base : State → ℕ → List Edge → ℕ
base s owner [] = 0
base s owner (edge ∷ path) = base s owner path + offset_of (formula_at s owner path) edge

abbrev pub number : State → Point → ℕ
number s (Main (Named k)) = suc (size_of (formula_at s k []))
number s (Main (Place owner path)) = base s owner path + size_of (formula_at s owner path)
number s (Change (Named k)) = 0
number s (Change (Place owner path)) = base s owner path + turn_of (formula_at s owner path)

-- ---- parts

argument_within : (fs : Formulas) (j : ℕ) (g : Formula) → argument_at fs j ≡ Some g → before fs j + size g ≤ sizes fs
argument_within End j g e = absurd (cc)
argument_within (More f rest) zero g e =
    let same : size f ≡ size g = ap size (let s : f ≡ g = cc in s) in omega (arith, same)
argument_within (More f rest) (suc j) g e = let more = argument_within rest j g e in omega (arith, more)

part_within : (f : Formula) (edge : Edge) (g : Formula) → part_at f edge ≡ Some g → offset f edge + size g < size f
part_within (Apply h fs) (Argument j) g e = let w = argument_within fs j g e in omega (arith, w)
part_within (Fold h v fs) (Argument j) g e = let w = argument_within fs j g e in omega (arith, w)
part_within (If t a b) Test g e = let same : size t ≡ size g = ap size (let s : t ≡ g = cc in s) in omega (arith, same)
part_within (If t a b) Then g e = let same : size a ≡ size g = ap size (let s : a ≡ g = cc in s) in omega (arith, same)
part_within (If t a b) Else g e = let same : size b ≡ size g = ap size (let s : b ≡ g = cc in s) in omega (arith, same)
part_within (Join c) Child g e = let same : size c ≡ size g = ap size (let s : c ≡ g = cc in s) in omega (arith, same)
part_within (Bind l b) Left g e = let same : size l ≡ size g = ap size (let s : l ≡ g = cc in s) in omega (arith, same)
part_within (Bind l b) (Inside v) g e = let same : size b ≡ size g = ap size (let s : b ≡ g = cc in s) in omega (arith, same)
part_within f edge g e = absurd (cc)

size_more : (f : Formula) → 0 < size f
size_more (Apply g fs) = omega arith
size_more (Fold g v fs) = omega arith
size_more (If t a b) = omega arith
size_more (Join c) = omega arith
size_more (Bind l b) = omega arith
size_more (Literal v) = omega arith
size_more (Name t) = omega arith
size_more (Bound k) = omega arith
size_more (At t) = omega arith
size_more (Steps v ss) = omega arith
size_more Now = omega arith

module _ (s : State) where
  pub part_lower : (owner : ℕ) (path : List Edge) (f : Formula) (edge : Edge) (g : Formula) → formula_at s owner path ≡ Some f
      → part_at f edge ≡ Some g → number s (Main (Place owner (edge ∷ path))) < number s (Main (Place owner path))
  part_lower owner path f edge g is part =
      let below : formula_at s owner (edge ∷ path) ≡ Some g = part_is s owner path f edge is ∙ part in
      let inner : size_of (formula_at s owner (edge ∷ path)) ≡ size g = ap size_of below in
      let outer : size_of (formula_at s owner path) ≡ size f = ap size_of is in
      let off : offset_of (formula_at s owner path) edge ≡ offset f edge = ap (λ o. offset_of o edge) is in
      let w = part_within f edge g part in
      omega (arith, inner, outer, off, w)

  -- a change stands below the main, and above its subject
  pub change_lower : (owner : ℕ) (path : List Edge) (f : Formula) → formula_at s owner path ≡ Some f → turn f < size f
      → number s (Change (Place owner path)) < number s (Main (Place owner path))
  change_lower owner path f is low =
      let outer : size_of (formula_at s owner path) ≡ size f = ap size_of is in
      let off : turn_of (formula_at s owner path) ≡ turn f = ap turn_of is in
      omega (arith, outer, off, low)

  pub subject_lower : (owner : ℕ) (path : List Edge) (f : Formula) (edge : Edge) (g : Formula) → formula_at s owner path ≡ Some f
      → part_at f edge ≡ Some g → offset f edge + size g < turn f
      → number s (Main (Place owner (edge ∷ path))) < number s (Change (Place owner path))
  subject_lower owner path f edge g is part low =
      let below : formula_at s owner (edge ∷ path) ≡ Some g = part_is s owner path f edge is ∙ part in
      let inner : size_of (formula_at s owner (edge ∷ path)) ≡ size g = ap size_of below in
      let outer : turn_of (formula_at s owner path) ≡ turn f = ap turn_of is in
      let off : offset_of (formula_at s owner path) edge ≡ offset f edge = ap (λ o. offset_of o edge) is in
      omega (arith, inner, outer, off, low)

  -- what is in the body of a bind stands above the bind's change
  inside_above : (owner : ℕ) (path : List Edge) (v : _) (f g : Formula) → formula_at s owner path ≡ Some g
      → part_at g (Inside v) ≡ Some f → number s (Change (Place owner path)) ≤ base s owner (Inside v ∷ path)
  inside_above owner path v f (Bind l b) is part =
      let off : offset_of (formula_at s owner path) (Inside v) ≡ suc (size l) = ap (λ o. offset_of o (Inside v)) is in
      let top : turn_of (formula_at s owner path) ≡ suc (size l) = ap turn_of is in
      omega (arith, off, top)
  inside_above owner path v f g is part = absurd (cc)

  part_above_too : (owner : ℕ) (path bind : List Edge) (edge : Edge) → number s (Change (Place owner bind)) ≤ base s owner path
      → number s (Change (Place owner bind)) ≤ base s owner (edge ∷ path)
  part_above_too owner path bind edge low = omega (arith, low)

  around_above : (owner : ℕ) (path : List Edge) (k : ℕ) (bind : List Edge) (f : Formula) → formula_at s owner path ≡ Some f
      → bind_around k path ≡ Some bind → number s (Change (Place owner bind)) ≤ base s owner path
  around_above owner [] zero bind f is e = absurd (cc)
  around_above owner [] (suc k) bind f is e = absurd (cc)
  around_above owner (Inside v ∷ path) zero bind f is e =
      let above = part_above s owner path (Inside v) f is in
      let same : path ≡ bind = cc in rw (← same) (inside_above owner path v f above.0 above.1 above.2)
  around_above owner (Inside v ∷ path) (suc k) bind f is e =
      let above = part_above s owner path (Inside v) f is in
      part_above_too owner path bind (Inside v) (around_above owner path k bind above.0 above.1 e)
  around_above owner (Argument j ∷ path) k bind f is e =
      let above = part_above s owner path (Argument j) f is in
      part_above_too owner path bind (Argument j)
      (around_above owner path k bind above.0 above.1 (sym (pass k (Argument j) path tt) ∙ e))
  around_above owner (Test ∷ path) k bind f is e =
      let above = part_above s owner path Test f is in
      part_above_too owner path bind Test (around_above owner path k bind above.0 above.1 (sym (pass k Test path tt) ∙ e))
  around_above owner (Then ∷ path) k bind f is e =
      let above = part_above s owner path Then f is in
      part_above_too owner path bind Then (around_above owner path k bind above.0 above.1 (sym (pass k Then path tt) ∙ e))
  around_above owner (Else ∷ path) k bind f is e =
      let above = part_above s owner path Else f is in
      part_above_too owner path bind Else (around_above owner path k bind above.0 above.1 (sym (pass k Else path tt) ∙ e))
  around_above owner (Child ∷ path) k bind f is e =
      let above = part_above s owner path Child f is in
      part_above_too owner path bind Child (around_above owner path k bind above.0 above.1 (sym (pass k Child path tt) ∙ e))
  around_above owner (Left ∷ path) k bind f is e =
      let above = part_above s owner path Left f is in
      part_above_too owner path bind Left (around_above owner path k bind above.0 above.1 (sym (pass k Left path tt) ∙ e))

  pub gate_lower : (owner : ℕ) (path : List Edge) (k : ℕ) (bind : List Edge) (f : Formula) → formula_at s owner path ≡ Some f
      → bind_around k path ≡ Some bind → number s (Change (Place owner bind)) < number s (Main (Place owner path))
  gate_lower owner path k bind f is e =
      let low = around_above owner path k bind f is e in
      let top : size_of (formula_at s owner path) ≡ size f = ap size_of is in
      let more = size_more f in
      omega (arith, low, top, more)

  pub change_gate_lower : (owner : ℕ) (path : List Edge) (k : ℕ) (bind : List Edge) (f : Formula)
      → formula_at s owner path ≡ Some f → 0 < turn f → bind_around k path ≡ Some bind
      → number s (Change (Place owner bind)) < number s (Change (Place owner path))
  change_gate_lower owner path k bind f is more e =
      let low = around_above owner path k bind f is e in
      let top : turn_of (formula_at s owner path) ≡ turn f = ap turn_of is in
      omega (arith, low, top, more)

  pub whole_lower : (k : ℕ) → number s (Main (Place k [])) < number s (Main (Named k))
  whole_lower k = omega arith

-- the turns of a formula
pub if_turn : (t a b : Formula) → (turn (If t a b) < size (If t a b)) × (0 < turn (If t a b))
    × (offset (If t a b) Test + size t < turn (If t a b))
if_turn t a b = (omega arith, omega arith, omega arith)

pub join_turn : (c : Formula) → (turn (Join c) < size (Join c)) × (0 < turn (Join c))
    × (offset (Join c) Child + size c < turn (Join c))
join_turn c = (omega arith, omega arith, omega arith)

pub bind_turn : (l b : Formula) → (turn (Bind l b) < size (Bind l b)) × (0 < turn (Bind l b))
    × (offset (Bind l b) Left + size l < turn (Bind l b))
bind_turn l b = (omega arith, omega arith, omega arith)
