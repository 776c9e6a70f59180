-- Outcomes that are right place by place.
use Rattle.std.specs.Prelude.{◌≡◌, List, Option, None, Some}
use Rattle.inc_value.specs.declared.function.FnRef.{FnRef}
use Rattle.inc_value.specs.declared.node.NodeId.{NodeId}
use Rattle.inc_value.specs.declared.node.Part.{Part}
use Rattle.inc_value.specs.declared.node.Part.TheVariants.{Change, Main}
use Rattle.inc_value.specs.declared.node.Point.{Point}
use Rattle.inc_value.specs.declared.outcome.Outcome.{Outcome}
use Rattle.inc_value.specs.declared.outcome.Outcome.TheVariants.{Val, Invalid}
use Rattle.inc_value.specs.declared.value.Value.{Value}
use Rattle.inc_terms.specs.Term as term
use Rattle.inc_terms.specs.Term.{Functions}
use Rattle.inc_terms.specs.Graph.{Graph, Row, Built, Def, If, Join, Bind, Freeze, present_def}
use Rattle.inc_terms.specs.Evaluate.{Query, Of, with_value, level, NodeGives, Stands}
use Rattle.inc_terms.specs.Unfold.{Unfolds}
use Rattle.inc_terms.specs.Depend.{Depends, main, change, subject_of, right_of}
use Rattle.inc_terms.specs.Need.{Needed}

-- what is shown of a point: Invalid of one of a dead node. A change's outcome is the subject's outcome that it last ran with
abbrev pub shown_of : Option Row → Option Outcome → Option Outcome
shown_of None o = Some Invalid
shown_of (Some r) o = o

-- what is shown of a point, by its node's row
abbrev pub shown : Graph → (Point → Option Outcome) → Point → Option Outcome
shown G out p = shown_of (G.row p.node) (out p)

-- names give what is seen of their mains
abbrev pub by_sight : (Point → Option Outcome) → Query → Option Outcome
by_sight see (Of (term.Ref n)) = see (main n)
by_sight see q = None

-- what is seen of a right side; without one, Invalid
abbrev pub see_right : (Point → Option Outcome) → Option NodeId → Option Outcome
see_right see None = Some Invalid
see_right see (Some m) = see (main m)

-- what the right side shows that the change's outcome chooses
abbrev pub own_right : Graph → (Point → Option Outcome) → NodeId → Def → Option Outcome
own_right G see n def = with_value (see (change n)) (λ (v : Value). see_right see (right_of G n def (Val v)))

-- what a freeze keeps, or else what is seen of its child
abbrev pub frozen_or_seen : Option Value → Option Outcome → Option Outcome
frozen_or_seen None o = o
frozen_or_seen (Some v) o = Some (Val v)

-- a main's own function of what is seen of other points
abbrev pub own : Functions → Graph → (Point → Option Outcome) → NodeId → Def → Option Outcome
own F G see n (If t a b) = own_right G see n (If t a b)
own F G see n (Join k) = own_right G see n (Join k)
own F G see n (Bind l f caps) = own_right G see n (Bind l f caps)
own F G see n (Freeze kid f) = frozen_or_seen (G.frozen n) (see (main kid))
own F G see n def = level F G (by_sight see) (Of (present_def G n def))

-- built for a value, the bind has a root that reads back as its function's term at it; built for Invalid it has none
pub record IsRooted (F : Functions) (G : Graph) (b : NodeId) (f : FnRef) (captures : List NodeId) (w : Built) : Type 0 where
  pub unfolds : (v : Value) → w.outcome ≡ Val v → (root : NodeId) × (w.root ≡ Some root) × Unfolds G (Some b) captures root (F.term f v)
  pub rootless : w.outcome ≡ Invalid → w.root ≡ None

-- a bind is built for the outcome of its change
abbrev pub IsBuilt : Functions → Graph → NodeId → Def → Outcome → Type 0
IsBuilt F G n (Bind l f caps) o = (w : Built) × (G.built n ≡ Some w) × (w.outcome ≡ o) × IsRooted F G n f caps w
IsBuilt F G n def o = Unit {0}

-- a main's outcome is its own function of what is seen of others, a change's that of its subject, and a bind is built for it
abbrev pub PartAgrees : Functions → Graph → (Point → Option Outcome) → NodeId → Def → Part → Type 0
PartAgrees F G out n def Main = (o : Outcome) × (out (main n) ≡ Some o) × (own F G (shown G out) n def ≡ Some o)
PartAgrees F G out n def Change =
    (s : NodeId) → subject_of def ≡ Some s → (o : Outcome) × (out (change n) ≡ Some o) × (shown G out (main s) ≡ Some o) × IsBuilt F G n def o

-- a point of a live node agrees with what is shown of others; one of a dead node always
abbrev pub Agrees : Functions → Graph → (Point → Option Outcome) → Point → Type 0
Agrees F G out p = (r : Row) → G.row p.node ≡ Some r → PartAgrees F G out p.node r.def p.part

-- a scope is that of a live bind
abbrev pub Scoped : Graph → Type 0
Scoped G = (n : NodeId) (r : Row) (b : NodeId) → G.row n ≡ Some r → r.scope ≡ Some b
    → (s : Row) × (l : NodeId) × (f : FnRef) × (caps : List NodeId) × (G.row b ≡ Some s) × (s.def ≡ Bind l f caps)

-- every walk from a ends
pub data Ends {A : Type 0} (R : A → A → Type 0) : A → Type 0 where
  ends : {a : A} → ((b : A) → R a b → Ends R b) → Ends R a

-- the outcome that is seen of a node is the one that it gives
abbrev pub Sees : Functions → Graph → (Point → Option Outcome) → NodeId → Type 0
Sees F G out n = (o : Outcome) × (shown G out (main n) ≡ Some o) × NodeGives F G n o

-- a change's outcome is the one that its subject gives, and a bind is built for it
abbrev pub HasRun : Functions → Graph → (Point → Option Outcome) → NodeId → Def → NodeId → Type 0
HasRun F G out n def s = (o : Outcome) × (out (change n) ≡ Some o) × NodeGives F G s o × IsBuilt F G n def o

-- a main shows what its node gives, and a change has run with what its subject gives
abbrev pub PartExact : Functions → Graph → (Point → Option Outcome) → NodeId → Def → Part → Type 0
PartExact F G out n def Main = Sees F G out n
PartExact F G out n def Change = (s : NodeId) → subject_of def ≡ Some s → HasRun F G out n def s

-- a point of a live node whose scope stands and whose outcome is right; one of a dead node always
abbrev pub Exact : Functions → Graph → (Point → Option Outcome) → Point → Type 0
Exact F G out p = (r : Row) → G.row p.node ≡ Some r → Stands F G r.scope × PartExact F G out p.node r.def p.part

-- each needed point agrees
abbrev pub Local : Functions → Graph → (Point → Option Outcome) → (NodeId → Option NodeId) → List NodeId → Type 0
Local F G out died observed = (p : Point) → Needed F G died observed p → Agrees F G out p

-- outcomes that are right place by place are right
abbrev pub LocalGives : Type 0
LocalGives =
    (F : Functions) (G : Graph) (out : Point → Option Outcome) (died : NodeId → Option NodeId) (observed : List NodeId)
    → Scoped G → Local F G out died observed → (p : Point) → Needed F G died observed p → Ends (Depends F G died) p → Exact F G out p
