-- What a contract sees of scopes.
use Rattle.std.specs.Prelude.{◌≡◌, ◌≢◌, ◌++◌, ◌+◌, ◌⊎◌, ◌↔◌, ◌<◌, ℕ, suc, List, [], ◌∷◌, length, map, flat_map, Option, Some}
use Rattle.inc_value.specs.Choice.{Among}
use Rattle.inc_value.specs.declared.node.NodeId.{NodeId}
use Rattle.inc_value.specs.declared.node.Point.{Point}
use Rattle.inc_value.specs.declared.node.Part.TheVariants.{Main}
use Rattle.index_lists.specs.Lists.{Lists, list_at, Has}
use Rattle.point_map.specs.Rows.{Rows, at}
use Rattle.scopes.specs.declared.member.Member.{Member}

-- a node in a scope
abbrev pub member : NodeId → NodeId → Member
member node scope = record { node = node; scope = scope }

-- which nodes stand in which scopes, and which were killed and aren't given yet
pub record Scopes : Type 0 where
  pub standing : List Member
  pub killed : List NodeId

-- how many nodes there are in all
abbrev pub node_count : Scopes → ℕ
node_count s = length s.standing + length s.killed

-- the node stands in the scope
abbrev pub StandsIn : Scopes → NodeId → NodeId → Type 0
StandsIn s node scope = Among (member node scope) s.standing

-- a node stands in the scope, or in one within it
pub data Inside (s : Scopes) (scope : NodeId) : NodeId → Type 0 where
  direct : {node : NodeId} → StandsIn s node scope → Inside s scope node
  nested : {node mid : NodeId} → StandsIn s node mid → Inside s scope mid → Inside s scope node

-- the node is still to be given: it was killed, or it is inside of one that was
abbrev pub IsDying : Scopes → NodeId → Type 0
IsDying s node = Among node s.killed ⊎ ((root : NodeId) × Among root s.killed × Inside s root node)

-- the node stands in no scope, and wasn't killed
pub record IsApart (s : Scopes) (node : NodeId) : Type 0 where
  pub out : (scope : NodeId) → StandsIn s node scope → ⊥
  pub live : Among node s.killed → ⊥

-- one node more stands in the scope, and all others stand and were killed as before
pub record Enters (old new : Scopes) (node scope : NodeId) : Type 0 where
  pub here : (n s : NodeId) → StandsIn new n s ↔ (((n ≡ node) × (s ≡ scope)) ⊎ StandsIn old n s)
  pub killed : new.killed ≡ old.killed

-- no node stands in the scope any more, and in every other scope the same nodes do
abbrev pub Empties : Scopes → Scopes → NodeId → Type 0
Empties old new scope = (node other : NodeId) → StandsIn new node other ↔ (StandsIn old node other × (other ≢ scope))

-- the node isn't still to be given, and all others are that were
abbrev pub Gives : Scopes → Scopes → NodeId → Type 0
Gives old new given = (node : NodeId) → IsDying new node ↔ (IsDying old node × (node ≢ given))

-- the rows of a list
abbrev pub rows : List (ℕ × Member) → List Member
rows es = map (λ e. e.1) es

-- who stands in scopes: each scope has a list of its own, from the second on
abbrev pub standing_of : List (List (ℕ × Member)) → List Member
standing_of [] = []
standing_of (killed ∷ lists) = flat_map rows lists

-- who was killed: the first list
abbrev pub killed_of : List (ℕ × Member) → List NodeId
killed_of es = map (λ e. e.1.node) es

-- the point at which a scope's number is kept
abbrev pub point_of : NodeId → Point
point_of scope = record { node = scope; part = Main }

-- the number of a scope
abbrev pub own_in : Rows ℕ → NodeId → Option ℕ
own_in numbers scope = at numbers (point_of scope)

-- each scope's nodes are in the list of its number, no node is at two places, and just the numbers that scopes have are taken
pub record IsByNumber (lists : Lists Member) (own : NodeId → Option ℕ) (name : ℕ → Option NodeId) : Type 0 where
  pub named : (scope : NodeId) (k : ℕ) → own scope ≡ Some k → name k ≡ Some scope
  pub numbered : (scope : NodeId) (k : ℕ) → name k ≡ Some scope → own scope ≡ Some k
  pub wide : (scope : NodeId) (k : ℕ) → own scope ≡ Some k → suc k < length lists.lists
  pub placed : (k place : ℕ) (r : Member) → Has (list_at lists (suc k)) place r → own r.scope ≡ Some k
  pub once : (i j p q : ℕ) (r s : Member) → Has (list_at lists i) p r → Has (list_at lists j) q s → r.node ≡ s.node
      → p ≡ q

-- a list's rows are put behind those of the first
pub record Moved (old new : Lists Member) (list : ℕ) : Type 0 where
  pub killed : list_at new 0 ≡ list_at old 0 ++ list_at old list
  pub gone : list_at new list ≡ []
  pub others : (other : ℕ) → other ≢ 0 → other ≢ list → list_at new other ≡ list_at old other
  pub width : length new.lists ≡ length old.lists

-- the same nodes stand in the same scopes, and were killed
pub record KeepsStanding (old new : Lists Member) : Type 0 where
  pub lists : (list : ℕ) → list_at new list ≡ list_at old list
  pub standing : standing_of new.lists ≡ standing_of old.lists

-- the nodes that stand in a scope are put with those that were killed, and all others are where they were
pub record Releases (old new : Lists Member) (scope : NodeId) : Type 0 where
  pub out : (k place : ℕ) (r : Member)
      → Has (list_at new (suc k)) place r ↔ (Has (list_at old (suc k)) place r × (r.scope ≢ scope))
  pub killed : (place : ℕ) (r : Member) → Has (list_at new 0) place r
      ↔ (Has (list_at old 0) place r ⊎ ((k : ℕ) × Has (list_at old (suc k)) place r × (r.scope ≡ scope)))
