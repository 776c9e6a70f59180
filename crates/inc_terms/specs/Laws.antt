-- Laws of the definitions.
use Rattle.std.specs.Prelude.{◌≡◌, ◌⊎◌, ◌<◌, ◌≤◌, ℕ, List, Option, None, Some, Bool, true}
use Rattle.inc_value.specs.declared.function.FnRef.{FnRef}
use Rattle.inc_value.specs.declared.node.NodeId.{NodeId}
use Rattle.inc_value.specs.declared.node.Part.TheVariants.{Main}
use Rattle.inc_value.specs.declared.node.Point.{Point}
use Rattle.inc_value.specs.declared.outcome.Outcome.{Outcome}
use Rattle.inc_value.specs.declared.outcome.Outcome.TheVariants.{Invalid}
use Rattle.inc_value.specs.Choice.{Among, Reaches}
use Rattle.inc_terms.specs.Term.{Term, Functions, refs, put}
use Rattle.inc_terms.specs.Graph.{Graph, Row}
use Rattle.inc_terms.specs.Within.{Given, Fit}
use Rattle.inc_terms.specs.Evaluate.{Query, Of, answer, Gives, NodeGives, Stands}
use Rattle.inc_terms.specs.Rebuild.{Inside, Names, Keeping, Rebuilds}
use Rattle.inc_terms.specs.Unfold.{Unfolds}
use Rattle.inc_terms.specs.Depend.{Depends, Deaths, main, subject_of}
use Rattle.inc_terms.specs.Need.{Beside, Observed, nodes_of, Needed, Held, Met, Keeps}
use Rattle.inc_terms.specs.Local.{Scoped, Local, Sees, HasRun, Agrees, Exact}
use Rattle.inc_terms.specs.Plan.{plan}

-- every greater depth answers the same
abbrev pub EveryDepthAgrees : Type 0
EveryDepthAgrees = (F : Functions) (G : Graph) (d e : ℕ) (q : Query) (o : Outcome) → d ≤ e → answer F G d q ≡ Some o → answer F G e q ≡ Some o

-- what is asked has one outcome at most
abbrev pub OneOutcome : Type 0
OneOutcome = (F : Functions) (G : Graph) (q : Query) (o p : Outcome) → Gives F G q o → Gives F G q p → o ≡ p

-- building a bind anew changes what no given node gives
abbrev pub RebuildKeeps : Type 0
RebuildKeeps =
    (F : Functions) (known : FnRef → Bool) (ids : FnRef → List NodeId) (count : ℕ) (G G' : Graph) (b : NodeId) (now : Outcome)
    → Rebuilds F known ids count G G' b now
    → (n : NodeId) → Given count n → (o : Outcome) → (NodeGives F G n o → NodeGives F G' n o) × (NodeGives F G' n o → NodeGives F G n o)

-- what dies was Invalid before and is after
abbrev pub DeadWereInvalid : Type 0
DeadWereInvalid =
    (F : Functions) (known : FnRef → Bool) (ids : FnRef → List NodeId) (count : ℕ) (G G' : Graph) (b : NodeId) (now : Outcome)
    → Rebuilds F known ids count G G' b now
    → (n : NodeId) → Given count n → Inside G b n → NodeGives F G n Invalid × NodeGives F G' n Invalid

-- what a point of a given node depends on it still depends on
abbrev pub DependsGrows : Type 0
DependsGrows =
    (F : Functions) (known : FnRef → Bool) (ids : FnRef → List NodeId) (count : ℕ) (G G' : Graph) (b : NodeId) (now : Outcome)
    → Rebuilds F known ids count G G' b now
    → (died died' : NodeId → Option NodeId) → Deaths G G' died died' → (p q : Point) → Given count p.node
    → Depends F G died p q → Depends F G' died' p q

-- in a scope that stands a node gives what the term gives that it reads back as
abbrev pub UnfoldsGives : Type 0
UnfoldsGives =
    (F : Functions) (G : Graph) (S : Option NodeId) (caps : List NodeId) (n : NodeId) (t : Term) → Stands F G S → Unfolds G S caps n t
    → (o : Outcome) → (NodeGives F G n o → Gives F G (Of (put (refs caps) t)) o) × (Gives F G (Of (put (refs caps) t)) o → NodeGives F G n o)

-- no point that is needed is on a cycle
abbrev pub NoCycle : Functions → Graph → (NodeId → Option NodeId) → List NodeId → Type 0
NoCycle F G died observed = (p q : Point) → Needed F G died observed p → Depends F G died p q → Reaches (Depends F G died) q p → ⊥

-- where outcomes are right place by place and no needed point is on a cycle, a needed node's outcome is what it gives. The needed points
-- are finitely many
abbrev pub LocalIsRight : Type 0
LocalIsRight =
    (F : Functions) (G : Graph) (out : Point → Option Outcome) (died : NodeId → Option NodeId) (observed : List NodeId) (points : List Point)
    → Scoped G → Local F G out died observed → NoCycle F G died observed → ((p : Point) → Needed F G died observed p → Among p points)
    → (n : NodeId) → Needed F G died observed (main n) → Sees F G out n

-- what an arena keeps is enough for its graph to name given nodes and fit functions alone
abbrev pub KeepingNames : Type 0
KeepingNames =
    (known : FnRef → Bool) (ids : FnRef → List NodeId) (count : ℕ) (G : Graph)
    → Keeping (Given count) (Fit count known ids) G → Names (Given count) (Fit count known ids) G

-- what is met from observers, freezes and what was held still is, while binds are built anew
abbrev pub MetGrows : Type 0
MetGrows =
    (F : Functions) (known : FnRef → Bool) (ids : FnRef → List NodeId) (count : ℕ) (G G' : Graph) (b : NodeId) (now : Outcome)
    → Rebuilds F known ids count G G' b now
    → (died died' : NodeId → Option NodeId) → Deaths G G' died died' → Keeps (Given count) G died → (observers : List Observed) (before : Beside)
    → ((n : NodeId) → Among n (nodes_of observers) → Given count n) → ((h : Point) → Held before observers h → Given count h.node)
    → (p : Point) → Met F G died (nodes_of observers) (Held before observers) p → Met F G' died' (nodes_of observers) (Held before observers) p

-- the scope, or the top, isn't that of the bind and isn't within it
abbrev pub IsApart : Graph → NodeId → Option NodeId → Type 0
IsApart G b None = Unit {0}
IsApart G b (Some c) = (c ≡ b → ⊥) × (Inside G b c → ⊥)

-- what a given node of a scope reads back as it still reads back as while another bind is built anew
abbrev pub UnfoldsStays : Type 0
UnfoldsStays =
    (F : Functions) (known : FnRef → Bool) (ids : FnRef → List NodeId) (count : ℕ) (G G' : Graph) (b : NodeId) (now : Outcome)
    → Rebuilds F known ids count G G' b now
    → (S : Option NodeId) → IsApart G b S → (captures : List NodeId) (n : NodeId) (t : Term) → Given count n
    → Unfolds G S captures n t → Unfolds G' S captures n t

-- a live point whose scope stands, and whose change has run right, has in its plan just what it depends on
abbrev pub PlanIsDepends : Type 0
PlanIsDepends =
    (F : Functions) (G : Graph) (out : Point → Option Outcome) (died : NodeId → Option NodeId) (p q : Point) (r : Row)
    → G.row p.node ≡ Some r → Stands F G r.scope → (p.part ≡ Main → (s : NodeId) → subject_of r.def ≡ Some s → HasRun F G out p.node r.def s)
    → (Among q (plan G out p r) → Depends F G died p q) × (Depends F G died p q → Among q (plan G out p r))

-- a low point is exact, or it agrees and its plan holds lower low points alone
abbrev pub IsLow : Functions → Graph → (Point → Option Outcome) → (Point → ℕ) → (Point → Bool) → Point → Type 0
IsLow F G out height low p =
    Exact F G out p
    ⊎ (Agrees F G out p × ((r : Row) → G.row p.node ≡ Some r → (q : Point) → Among q (plan G out p r) → (low q ≡ true) × (height q < height p)))

-- low points are exact
abbrev pub LowIsExact : Type 0
LowIsExact =
    (F : Functions) (G : Graph) (out : Point → Option Outcome) (height : Point → ℕ) (low : Point → Bool) → Scoped G
    → ((p : Point) → low p ≡ true → IsLow F G out height low p) → (p : Point) → low p ≡ true → Exact F G out p
