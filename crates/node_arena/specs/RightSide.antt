-- Functions that make right sides of binds: what they mean, what they promise, and what they are called on.
use Rattle.std.specs.Prelude.{◌≡◌, ◌≤◌, ◌⊎◌, ◌+◌, ◌-◌, ◌^◌, ℕ, min, Bool, List, [], ◌∷◌, Option, Some, Result, Ok, Err, IsTrue, slice_get}
use Rattle.std.specs.List.{AllZip}
use Rattle.inc_value.specs.Choice.{Among, Every}
use Rattle.inc_value.specs.Ty.{type_of_base}
use Rattle.inc_value.specs.Sig.{Signature, IsMapSig}
use Rattle.inc_value.specs.Counts.{raised}
use Rattle.inc_value.specs.Value.{type_of, IsProper}
use Rattle.inc_value.specs.declared.function.FnKind.{FnKind}
use Rattle.inc_value.specs.declared.function.FnKind.TheVariants as kind
use Rattle.inc_value.specs.declared.function.FnRef.{FnRef}
use Rattle.inc_value.specs.declared.node.NodeId.{NodeId}
use Rattle.inc_value.specs.declared.ty.Ty.{Ty}
use Rattle.inc_value.specs.declared.ty.Ty.TheVariants as ty
use Rattle.inc_value.specs.declared.value.Value.{Value}
use Rattle.inc_value.specs.declared.value.Value.TheVariants.{Node}
use Rattle.inc_terms.specs.Term.{Term, Terms, Step, Const, Ref, Cap, Map, Fold, If, Join, Bind, At, Steps, Now, End, More}
use Rattle.inc_terms.specs.Graph.{Row}
use Rattle.inc_terms.specs.Unfold.{Unfolds}
use Rattle.inc_terms.specs.Within.{Given, KnownAs, ValueWithin, TermWithin}
use Rattle.node_arena.specs.Arena.{Arena, row_at}
use Rattle.node_arena.specs.Building.{Building, Use, IsListed}
use Rattle.node_arena.specs.Graph.{graph_of, nothing_held}
use Rattle.node_arena.specs.Listing.{Listed, IsNamed}
use Rattle.node_arena.specs.Meanings.{SameNames, KeepsKnown, SameKnown, SameValues}
use Rattle.node_arena.specs.Typing.{Fits, HasType}

-- what a function makes of a left value: a term over captures; the functions that its nodes may call; the nodes that its
-- terms may name; and how many nodes it takes at most, with those of the scopes within
pub record RightSide : Type 0 where
  pub term : Value → Term
  pub uses : List Use
  pub ids : List Listed
  pub size : ℕ

-- the right side of a function that makes none
abbrev pub no_side : RightSide
no_side = record { term = λ v. Const v; uses = []; ids = []; size = 0 }

-- ---- types of terms

-- a reference names a node that has its base type
abbrev pub ReferenceHas : (NodeId → Ty → Type 0) → Value → Type 0
ReferenceHas N (Node n b) = N n (type_of_base b)
ReferenceHas N v = Unit {0}

-- the value is of the type, and so is the node that it names
pub record ValueHas (N : NodeId → Ty → Type 0) (v : Value) (t : Ty) : Type 0 where
  pub type : type_of v ≡ t
  pub reference : ReferenceHas N v

-- a function that takes the type first, and then elements of the other
abbrev pub Folds : List Ty → Ty → Ty → Type 0
Folds tys t element = tys ≡ t ∷ element ∷ []

abbrev mutual
  -- the term is of the type, where nodes have the types of N and captures those of the list
  pub TermHas : (NodeId → Ty → Type 0) → List Ty → Term → Ty → Type 0
  TermHas N caps (Const v) t = ValueHas N v t
  TermHas N caps (Ref n) t = N n t
  TermHas N caps (Cap i) t = slice_get caps i ≡ Some t
  TermHas N caps (Map f ts) t = (f.sig.gives ≡ t) × TermsHave N caps ts f.sig.takes
  TermHas N caps (Fold f v ts) t =
      (element : Ty) × (f.sig.gives ≡ t) × Folds f.sig.takes t element × ValueHas N v t × TermsAre N caps ts element
  TermHas N caps (If c a b) t = TermHas N caps c ty.Bool × TermHas N caps a t × TermHas N caps b t
  TermHas N caps (Join s) t = (b : _) × (type_of_base b ≡ t) × TermHas N caps s (ty.Node b)
  TermHas N caps (Bind l f ts) t =
      (first : Ty) × (rest : List Ty) × (f.sig.gives ≡ t) × (f.sig.takes ≡ first ∷ rest)
      × TermHas N caps l first × TermsHave N caps ts rest
  TermHas N caps (At time) t = ty.Bool ≡ t
  TermHas N caps (Steps v steps) t = ValueHas N v t × Every (λ (s : Step). ValueHas N s.value t) steps
  TermHas N caps Now t = ty.Int ≡ t

  -- the terms are of the types, one for one
  pub TermsHave : (NodeId → Ty → Type 0) → List Ty → Terms → List Ty → Type 0
  TermsHave N caps End [] = Unit {0}
  TermsHave N caps End (t ∷ ts) = ⊥
  TermsHave N caps (More x xs) [] = ⊥
  TermsHave N caps (More x xs) (t ∷ ts) = TermHas N caps x t × TermsHave N caps xs ts

  -- each of the terms is of the type
  pub TermsAre : (NodeId → Ty → Type 0) → List Ty → Terms → Ty → Type 0
  TermsAre N caps End t = Unit {0}
  TermsAre N caps (More x xs) t = TermHas N caps x t × TermsAre N caps xs t

-- the node that the left value names has its base type
abbrev pub LeftHas : Value → NodeId → Ty → Type 0
LeftHas (Node m b) n t = (n ≡ m) × (type_of_base b ≡ t)
LeftHas v n t = ⊥

-- a node of a term has the type: it is the left value's, or is listed with it
abbrev pub SideHas : List Listed → Value → NodeId → Ty → Type 0
SideHas ids left n t = LeftHas left n t ⊎ Among (record { node = n; ty = t }) ids

-- of each proper left value of the type that is taken first, the term is of the type that is given
abbrev pub AreOfType : List Ty → Ty → RightSide → Type 0
AreOfType [] gives side = ⊥
AreOfType (first ∷ rest) gives side =
    (v : Value) → IsProper v → type_of v ≡ first → TermHas (SideHas side.ids v) rest (side.term v) gives

-- what a function that makes right sides promises by itself: whatever the left value, the term names listed nodes and
-- the one that this value names, and calls listed functions, and no others; and the terms are of the types
pub record IsLawful (sig : Signature) (side : RightSide) : Type 0 where
  pub names : (v : Value) → TermWithin (IsNamed side.ids v) (IsListed side.uses) (side.term v)
  pub types : AreOfType sig.takes sig.gives side

-- ---- calls

-- each listed node was given, and is of its type or dead
abbrev pub AreFit : Arena → List Listed → Type 0
AreFit a ids = (x : Listed) → Among x ids → Given a.given x.node × Fits a x.node x.ty

-- no node stands in the scope
abbrev pub IsEmpty : Arena → NodeId → Type 0
IsEmpty a scope = (n : NodeId) (r : Row) → row_at a n ≡ Some r → r.scope ≡ Some scope → ⊥

-- the left value and the captures are of the types
abbrev pub AreTaken : Arena → Value → List NodeId → List Ty → Type 0
AreTaken a left captures [] = ⊥
AreTaken a left captures (first ∷ rest) = HasType a left first × AllZip (Fits a) captures rest

-- a right side can be built: no node stands in the scope, the listed nodes were given and are of their types, and so are
-- the left value and the captures
pub record MayBuild (b : Building) (sig : Signature) (side : RightSide) (left : Value) (captures : List NodeId) : Type 0 where
  pub empty : IsEmpty b.arena b.scope
  pub fit : AreFit b.arena side.ids
  pub left_given : ValueWithin (Given b.arena.given) left
  pub captures_given : Every (Given b.arena.given) captures
  pub taken : AreTaken b.arena left captures sig.takes

-- in the scope the node reads back as the term; it was given, and is of the type or dead
pub record IsRoot (b : Building) (captures : List NodeId) (n : NodeId) (t : Term) (type : Ty) : Type 0 where
  pub unfolds : Unfolds (graph_of b.arena nothing_held) (Some b.scope) captures n t
  pub given : Given b.arena.given n
  pub fits : Fits b.arena n type

-- ---- keepers of functions

-- a listed function can be called: it is known, lists no further nodes, and takes no more nodes than the number beside it
pub record IsUsable (known : FnRef → Bool) (right : FnRef → RightSide) (ids : List Listed) (u : Use) : Type 0 where
  pub is_known : IsTrue (known u.function)
  pub within : (x : Listed) → Among x (right u.function).ids → Among x ids
  pub size : (right u.function).size ≤ u.most

-- each listed function can be called
abbrev pub AreUsable : (FnRef → Bool) → (FnRef → RightSide) → RightSide → Type 0
AreUsable known right side = (u : Use) → Among u side.uses → IsUsable known right side.ids u

-- calls nothing, names nothing and takes no node
pub record HasNone (side : RightSide) : Type 0 where
  pub uses : side.uses ≡ []
  pub ids : side.ids ≡ []
  pub size : side.size ≡ 0

-- what a keeper promises of the right sides of functions that it knows
pub record SidesHold (known : FnRef → Bool) (right : FnRef → RightSide) : Type 0 where
  pub maps : (f : FnRef) → KnownAs known kind.Map f → HasNone (right f)
  pub lawful : (f : FnRef) → KnownAs known kind.Rhs f → IsLawful f.sig (right f)
  pub usable : (f : FnRef) → KnownAs known kind.Rhs f → AreUsable known right (right f)

-- right sides are what they were
abbrev pub SameSides : (FnRef → RightSide) → (FnRef → RightSide) → Type 0
SameSides old new = (f : FnRef) → new f ≡ old f

-- names stand for the functions that they stood for, the same functions are known, maps give what they gave, and right
-- sides are what they were
pub record SameMeaning (named named' : List ℕ → Option FnRef) (knows knows' : FnRef → Bool) (value value' : FnRef → List Value → Value)
    (right right' : FnRef → RightSide) : Type 0 where
  pub names : SameNames named named'
  pub known : SameKnown knows knows'
  pub values : SameValues value value'
  pub sides : SameSides right right'

-- a function that a keeper is to keep
pub record NewFunction : Type 0 where
  pub kind : FnKind
  pub sig : Signature
  pub value : List Value → Value
  pub side : RightSide

-- it can be kept: a map has the types of a map, and what right sides call can be called
abbrev pub IsKeepable : (FnRef → Bool) → (FnRef → RightSide) → FnKind → Signature → RightSide → Type 0
IsKeepable known right kind.Map sig side = IsMapSig sig
IsKeepable known right kind.Rhs sig side = AreUsable known right side

-- the function has the new one's kind, types and meaning
pub record Means (value : FnRef → List Value → Value) (right : FnRef → RightSide) (f : FnRef) (m : NewFunction) : Type 0 where
  pub same_kind : f.id.kind ≡ m.kind
  pub same_sig : f.sig ≡ m.sig
  pub values : m.kind ≡ kind.Map → (args : List Value) → value f args ≡ m.value args
  pub same_side : m.kind ≡ kind.Rhs → right f ≡ m.side

-- names stand for the functions that they stood for, and known functions stay so and mean what they meant
pub record KeepsMeanings (named named' : List ℕ → Option FnRef) (knows knows' : FnRef → Bool) (value value' : FnRef → List Value → Value)
    (right right' : FnRef → RightSide) : Type 0 where
  pub names : SameNames named named'
  pub known : KeepsKnown knows knows'
  pub values : (f : FnRef) (args : List Value) → IsTrue (knows f) → value' f args ≡ value f args
  pub sides : (f : FnRef) → IsTrue (knows f) → right' f ≡ right f

-- how often right sides were built, and how many ids their builders gave; each stays at 2 ^ 64 - 1. How many functions
-- were taken, and the most that are
pub record Tally : Type 0 where
  pub builds : ℕ
  pub adds : ℕ
  pub taken : ℕ
  pub most : ℕ

-- a count after so many more
abbrev pub raised_by : ℕ → ℕ → ℕ
raised_by more n = min (n + more) (2 ^ 64 - 1)

-- after one more build, in which so many ids were given
abbrev pub one_built : ℕ → Tally → Tally
one_built ids t = record t { builds = raised t.builds; adds = raised_by ids t.adds }

-- after a function was taken, or handed back
abbrev pub one_taken : {T E : Type 0} → Result T E → Tally → Tally
one_taken (Ok f) t = record t { taken = t.taken + 1 }
one_taken (Err e) t = t
