-- Laws of right sides.
use Rattle.std.specs.Prelude.{◌≡◌, ◌≤◌, ◌⊎◌, ℕ, Bool, List, Option, Some, None, IsTrue}
use Rattle.inc_value.specs.declared.function.FnKind.{FnKind}
use Rattle.inc_value.specs.declared.function.FnKind.TheVariants as kind
use Rattle.inc_value.specs.declared.function.FnRef.{FnRef}
use Rattle.inc_value.specs.declared.node.NodeId.{NodeId}
use Rattle.inc_value.specs.declared.outcome.Outcome.TheVariants.{Val}
use Rattle.inc_value.specs.declared.ty.Ty.{Ty}
use Rattle.inc_value.specs.declared.value.Value.{Value}
use Rattle.inc_terms.specs.Term.{Term, Functions}
use Rattle.inc_terms.specs.Graph.{Graph, Row}
use Rattle.inc_terms.specs.Local.{IsRooted}
use Rattle.inc_terms.specs.Rebuild.{Inside}
use Rattle.inc_terms.specs.Unfold.{Unfolds}
use Rattle.inc_terms.specs.Within.{DefWithin, FunctionLaws, Given, KnownAs}
use Rattle.node_arena.specs.Arena.{Arena, row_at}
use Rattle.node_arena.specs.Building.{Building, building_in, Use, Grows}
use Rattle.node_arena.specs.Graph.{graph_of, nothing_held, AllCallFit}
use Rattle.node_arena.specs.Listing.{nodes_of}
use Rattle.node_arena.specs.Meanings.{KeepsKnown, GiveNoReference}
use Rattle.node_arena.specs.RightSide.{RightSide, AreFit, IsRoot, SidesHold}
use Rattle.node_arena.specs.Sound.{IsSoundArena}

-- what maps give and terms are, as the definitions of graphs take it
abbrev pub meaning : (FnRef → List Value → Value) → (FnRef → RightSide) → Functions
meaning value right = record { value = value; term = λ f. (right f).term }

-- the nodes that a function lists
abbrev pub ids_of : (FnRef → RightSide) → FnRef → List NodeId
ids_of right f = nodes_of (right f).ids

-- what keepers promise is what the laws of graphs ask of functions
abbrev pub SidesAreLawful : Type 0
SidesAreLawful =
    (known : FnRef → Bool) (value : FnRef → List Value → Value) (right : FnRef → RightSide)
    → GiveNoReference known value → SidesHold known right → FunctionLaws (meaning value right) known (ids_of right)

-- the function is known, of the kind, and its listed nodes were given and are of their types
abbrev pub IsFitIn : (FnRef → Bool) → (FnRef → RightSide) → Arena → FnKind → FnRef → Type 0
IsFitIn known right a k f = KnownAs known k f × AreFit a (right f).ids

-- so is each function of a live node
abbrev pub AllFit : (FnRef → Bool) → (FnRef → RightSide) → Arena → Type 0
AllFit known right a =
    (n : NodeId) (r : Row) → row_at a n ≡ Some r → DefWithin (λ n. Unit {0}) (IsFitIn known right a) r.def

-- then it lists given nodes alone
abbrev pub FitListsGiven : Type 0
FitListsGiven =
    (known : FnRef → Bool) (right : FnRef → RightSide) (a : Arena) → AllFit known right a → AllCallFit known (ids_of right) a

-- given nodes keep their rows, or have none any more
abbrev pub RowsLast : Arena → Arena → Type 0
RowsLast old new = (n : NodeId) → Given old.given n → (row_at new n ≡ row_at old n) ⊎ (row_at new n ≡ None)

-- functions that are known stay so, and make what they made
pub record SidesLast (known known' : FnRef → Bool) (right right' : FnRef → RightSide) : Type 0 where
  pub keeps : KeepsKnown known known'
  pub same : (f : FnRef) → IsTrue (known f) → right' f ≡ right f

-- a function stays fit while nodes are added and dropped and more functions are known
abbrev pub FitLasts : Type 0
FitLasts =
    (known known' : FnRef → Bool) (right right' : FnRef → RightSide) (old new : Arena)
    → SidesLast known known' right right' → old.given ≤ new.given → RowsLast old new
    → (k : FnKind) (f : FnRef) → IsFitIn known right old k f → IsFitIn known' right' new k f

-- where functions of live nodes are fit, so are those of what one of them builds
abbrev pub BuildingFits : Type 0
BuildingFits =
    (known known' : FnRef → Bool) (right right' : FnRef → RightSide) (old new : Building) (f : FnRef) (most : ℕ)
    → SidesLast known known' right right' → SidesHold known right → KnownAs known kind.Rhs f → AreFit old.arena (right f).ids
    → Grows (right f).uses old new most → AllFit known right old.arena → AllFit known' right' new.arena

-- a graph of the same rows reads back the same
abbrev pub SameRowsUnfold : Type 0
SameRowsUnfold =
    (a : Arena) (G : Graph) → ((n : NodeId) → G.row n ≡ row_at a n)
    → (S : Option NodeId) (captures : List NodeId) (n : NodeId) (t : Term)
    → Unfolds (graph_of a nothing_held) S captures n t → Unfolds G S captures n t

-- what was not given before stands in the scope, and is given
abbrev pub NewInScope : Type 0
NewInScope =
    (uses : List Use) (old new : Building) (most : ℕ)
    → IsSoundArena old.arena → IsSoundArena new.arena → Grows uses old new most
    → (n : NodeId) (r : Row) → row_at new.arena n ≡ Some r → (Given old.arena.given n → ⊥)
    → (r.scope ≡ Some old.scope) × Given new.arena.given n

-- the nodes of the bind's scope, and of scopes within, have died, and all others are as they were
pub record IsKilled (G : Graph) (before after : Arena) (b : NodeId) : Type 0 where
  pub same_given : after.given ≡ before.given
  pub rows : (n : NodeId) → Given before.given n
      → (Inside G b n × (row_at after n ≡ None)) ⊎ ((Inside G b n → ⊥) × (row_at after n ≡ row_at before n))

-- the bind was built anew: of the nodes given before just those inside its scope died, new ones stand in its scope, and
-- the root reads back as the term of the left value
pub record IsMade (F : Functions) (G G' : Graph) (given given' : ℕ) (b : NodeId) (f : FnRef) (captures : List NodeId)
    (v : Value) (root : NodeId) : Type 0 where
  pub rows : (n : NodeId) → Given given n
      → (Inside G b n × (G'.row n ≡ None)) ⊎ ((Inside G b n → ⊥) × (G'.row n ≡ G.row n))
  pub fresh : (n : NodeId) (r : Row) → G'.row n ≡ Some r → (Given given n → ⊥) → (r.scope ≡ Some b) × Given given' n
  pub rooted : IsRooted F G' b f captures (record { outcome = Val v; root = Some root })
  pub root_given : Given given' root

-- so it was where its scope was killed, and then a root was built
abbrev pub KilledAndBuilt : Type 0
KilledAndBuilt =
    (F : Functions) (G G' : Graph) (before killed built : Arena) (b : NodeId) (f : FnRef) (captures : List NodeId)
    (v : Value) (root : NodeId) (uses : List Use) (most : ℕ) (type : Ty)
    → ((n : NodeId) → G.row n ≡ row_at before n) → ((n : NodeId) → G'.row n ≡ row_at built n)
    → IsSoundArena killed → IsSoundArena built
    → IsKilled G before killed b → Grows uses (building_in b killed) (building_in b built) most
    → IsRoot (building_in b built) captures root (F.term f v) type
    → IsMade F G G' before.given built.given b f captures v root
