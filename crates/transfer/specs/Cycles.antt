-- Which names a listed cycle of points passes.
use Rattle.std.specs.Prelude.{◌≡◌, ◌⊎◌, ℕ, Bool, true, List, [], ◌∷◌, Some}
use Rattle.inc_value.specs.declared.node.NodeId.{NodeId}
use Rattle.inc_value.specs.Choice.{Every as Each}
use Rattle.inc_value.specs.declared.node.Point.{Point}
use Rattle.inc_terms.specs.Depend.{main}
use Rattle.script_model.specs.Formula as script
use Rattle.script_model.specs.Formula.{Formula, Body, Entry, State, entry_at, body_at, Name, Computed, Grab}
use Rattle.script_model.specs.Need.{Edge, Inside, environment, formula_at}
use Rattle.script_model.specs.Values.{Value, Reference}
use Rattle.transfer.specs.Both.{Both}
use Rattle.transfer.specs.Items.{node_at}
use Rattle.transfer.specs.Shows.{IsOwn}

-- something is declared of the name, which is its own target
abbrev pub DeclaredOwn : Both → ℕ → Type 0
DeclaredOwn x t = (b : Body) × (body_at x.state t ≡ Some b) × IsOwn (Some b)

-- a name, or another formula
abbrev pub IsForm : Formula → Type 0
IsForm (Name t) = ⊥
IsForm f = Unit {0}

-- a reference is to a declaration that is its own target
abbrev pub IsOwnValue : State → Value → Type 0
IsOwnValue s (Reference t base) = (e : Entry) × (entry_at s t ≡ Some e) × (e.target ≡ t)
IsOwnValue s v = Unit {0}

-- a place that is no bare name and has the node of an own name is that name's whole formula, or the right side that a grab is of. The values
-- of the binds round it refer to declarations that are their own targets
abbrev pub PartsApart : Both → Type 0
PartsApart x =
    (owner : ℕ) (path : List Edge) (f : Formula) (n : NodeId) (k : ℕ) (b : Body) → Each (IsOwnValue x.state) (environment path)
    → formula_at x.state owner path ≡ Some f
    → IsForm f → node_at x owner path ≡ Some n → body_at x.state k ≡ Some b → IsOwn (Some b) → x.nodes k ≡ n
    → ((owner ≡ k) × (path ≡ []) × (g : Formula) × (kept : script.Kept) × (b ≡ Computed g kept))
    ⊎ ((v : Value) × (b ≡ Grab owner v true) × (path ≡ Inside v ∷ []))

-- a grab of the bind whose main the point is
abbrev pub IsOwnRoot : Both → Point → ℕ → Type 0
IsOwnRoot x p k =
    (b : ℕ) × (v : Value) × (is_live : Bool) × (body_at x.state k ≡ Some (Grab b v is_live)) × (p ≡ main (x.nodes b))

-- from the one point to the other the name is passed: the other is the main of its node. A grab's right side that its own bind reads is read as
-- a place
abbrev pub IsPassed : Both → Point → Point → ℕ → Type 0
IsPassed x p q k = DeclaredOwn x k × (q ≡ main (x.nodes k)) × (IsOwnRoot x p k → ⊥)

-- the names that a walk passes
abbrev pub Passes : Both → Point → List Point → List ℕ → Type 0
Passes x p [] names = names ≡ []
Passes x p (q ∷ rest) names =
    (((k : ℕ) → IsPassed x p q k → ⊥) × Passes x q rest names)
    ⊎ ((k : ℕ) × (more : List ℕ) × (names ≡ k ∷ more) × IsPassed x p q k × Passes x q rest more)

-- the last of the list is the point
abbrev pub EndsAt : Point → List Point → Type 0
EndsAt p [] = ⊥
EndsAt p (q ∷ []) = q ≡ p
EndsAt p (q ∷ r ∷ rest) = EndsAt p (r ∷ rest)
