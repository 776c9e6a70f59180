-- What each point depends on.
use Rattle.std.specs.Prelude.{◌≡◌, List, [], ◌∷◌, map, Option, None, Some, true, false, cond}
use Rattle.inc_value.specs.declared.node.NodeId.{NodeId}
use Rattle.inc_value.specs.declared.node.Part.{Part}
use Rattle.inc_value.specs.declared.node.Part.TheVariants.{Change, Main}
use Rattle.inc_value.specs.declared.node.Point.{Point}
use Rattle.inc_value.specs.declared.outcome.Outcome.{Outcome}
use Rattle.inc_value.specs.declared.outcome.Outcome.TheVariants.{Val}
use Rattle.inc_value.specs.declared.value.Value.{Value}
use Rattle.inc_value.specs.declared.value.Value.TheVariants.{Bool, Node}
use Rattle.inc_value.specs.Choice.{Among}
use Rattle.inc_terms.specs.Same.{same_outcome}
use Rattle.inc_terms.specs.Term.{Functions}
use Rattle.inc_terms.specs.Graph.{Graph, Row, Built, Def, kids, If, Join, Bind, Freeze, Expert}
use Rattle.inc_terms.specs.Evaluate.{NodeGives, Stands}

-- the node's main point
abbrev pub main : NodeId → Point
main n = record { node = n; part = Main }

-- the change point of a node of two points
abbrev pub change : NodeId → Point
change n = record { node = n; part = Change }

-- the left, test or child of a node of two points; other nodes have none
abbrev pub subject_of : Def → Option NodeId
subject_of (If t a b) = Some t
subject_of (Join k) = Some k
subject_of (Bind l f caps) = Some l
subject_of def = None

-- a freeze reads its child until it keeps a value
abbrev pub unfrozen : NodeId → Option Value → List NodeId
unfrozen kid None = kid ∷ []
unfrozen kid (Some v) = []

-- the children of a node of one point
abbrev pub kids_of : Graph → NodeId → Def → List NodeId
kids_of G n (Freeze kid f) = unfrozen kid (G.frozen n)
kids_of G n (Expert f v ns) = G.lists n
kids_of G n def = kids def

-- a change reads its subject's main
abbrev pub change_reads : Option NodeId → List Point
change_reads None = []
change_reads (Some s) = main s ∷ []

-- a main reads its own change where the node has a subject, and else the mains of its children
abbrev pub main_reads : NodeId → Option NodeId → List NodeId → List Point
main_reads n None kids = map main kids
main_reads n (Some s) kids = change n ∷ []

-- what a point reads whatever its subject gives
abbrev pub fixed_reads : Graph → NodeId → Def → Part → List Point
fixed_reads G n def Change = change_reads (subject_of def)
fixed_reads G n def Main = main_reads n (subject_of def) (kids_of G n def)

-- a bind's root, where the bind is built for the outcome
abbrev pub root_for : Option Built → Outcome → Option NodeId
root_for None o = None
root_for (Some w) o = cond (same_outcome o w.outcome) w.root None

-- the right side that the subject's outcome chooses
abbrev pub right_of : Graph → NodeId → Def → Outcome → Option NodeId
right_of G n (If t a b) (Val (Bool true)) = Some a
right_of G n (If t a b) (Val (Bool false)) = Some b
right_of G n (Join k) (Val (Node m base)) = Some m
right_of G n (Bind l f caps) o = root_for (G.built n) o
right_of G n def o = None

-- the node as a list
abbrev pub at_most_one : Option NodeId → List NodeId
at_most_one None = []
at_most_one (Some m) = m ∷ []

-- the right sides that the subject's outcome chooses
abbrev pub rights_of : Graph → NodeId → Def → Outcome → List NodeId
rights_of G n def o = at_most_one (right_of G n def o)

-- a point depends on its scope's change; where its scope stands, on its fixed reads and its right side too. A node that died
-- depends on its scope's change alone
pub data Depends (F : Functions) (G : Graph) (died : NodeId → Option NodeId) (p q : Point) : Type 0 where
  gate : {r : Row} {b : NodeId} → G.row p.node ≡ Some r → r.scope ≡ Some b → q ≡ change b → Depends F G died p q
  ghost : {b : NodeId} → G.row p.node ≡ None → died p.node ≡ Some b → q ≡ change b → Depends F G died p q
  fixed : {r : Row} → G.row p.node ≡ Some r → Stands F G r.scope → Among q (fixed_reads G p.node r.def p.part) → Depends F G died p q
  right : {r : Row} {s : NodeId} {o : Outcome} {m : NodeId} → G.row p.node ≡ Some r → Stands F G r.scope → p.part ≡ Main
      → subject_of r.def ≡ Some s → NodeGives F G s o → Among m (rights_of G p.node r.def o) → q ≡ main m → Depends F G died p q

-- no node died
abbrev pub none_died : NodeId → Option NodeId
none_died n = None

-- the nodes that died between two graphs are known by the scopes in which they stood
pub record Deaths (G G' : Graph) (died died' : NodeId → Option NodeId) : Type 0 where
  pub now : (n : NodeId) (r : Row) → G.row n ≡ Some r → G'.row n ≡ None → died' n ≡ r.scope
  pub earlier : (n : NodeId) → G.row n ≡ None → died' n ≡ died n

-- the scope of a row that is gone
abbrev pub scope_lost : Option Row → Option Row → Option NodeId
scope_lost (Some r) None = r.scope
scope_lost before after = None

-- the scope in which a node stood that lived before a call and doesn't after it
abbrev pub died_in : Graph → Graph → NodeId → Option NodeId
died_in G G' n = scope_lost (G.row n) (G'.row n)

-- so are the deaths known where none were before
abbrev pub LostAreDeaths : Type 0
LostAreDeaths = (G G' : Graph) → Deaths G G' none_died (died_in G G')

-- ---- graphs without choices

-- no node is of two points, and none stands in a scope
pub record IsFlat (G : Graph) : Type 0 where
  pub one_point : (n : NodeId) (r : Row) → G.row n ≡ Some r → subject_of r.def ≡ None
  pub no_scope : (n : NodeId) (r : Row) → G.row n ≡ Some r → r.scope ≡ None

-- the second point is the main of a child of the first
pub record ReadsKid (G : Graph) (p q : Point) : Type 0 where
  pub row : Row
  pub is_row : G.row p.node ≡ Some row
  pub is_main : p.part ≡ Main
  pub is_kid : Among q (map main (kids_of G p.node row.def))

-- there a main depends on the mains of its children and on nothing else
abbrev pub FlatDepends : Type 0
FlatDepends =
    (F : Functions) (G : Graph) → IsFlat G → (p q : Point)
    → (Depends F G none_died p q → ReadsKid G p q) × (ReadsKid G p q → Depends F G none_died p q)
