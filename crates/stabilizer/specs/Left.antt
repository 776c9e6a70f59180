-- What a round leaves, over what can be looked at before and after it.
use Rattle.std.specs.Prelude.{◌≡◌, ◌⊎◌, ◌↔◌, ◌+◌, ◌<◌, ◌≤◌, ◌++◌, ℕ, true, false, List, [], ◌∷◌, length, Option, None, Some}
use Rattle.inc_value.specs.declared.node.NodeId.{NodeId}
use Rattle.inc_value.specs.declared.node.Part.TheVariants.{Main}
use Rattle.inc_value.specs.declared.node.Point.{Point}
use Rattle.inc_value.specs.declared.outcome.Outcome.{Outcome}
use Rattle.inc_value.specs.declared.value.Value.{Value}
use Rattle.inc_value.specs.Choice.{Among, NoRepeats}
use Rattle.inc_value.specs.Walk.{IsWalk, IsDeep, IsOnCycle}
use Rattle.inc_terms.specs.Depend.{Depends, main, change, subject_of, none_died}
use Rattle.inc_terms.specs.Evaluate.{NodeGives, GiveAll}
use Rattle.inc_terms.specs.Graph.{Graph, Row, Bind}
use Rattle.inc_value.specs.declared.function.FnRef.{FnRef}
use Rattle.inc_terms.specs.Need.{Beside, Observed, nodes_of, Held, Needed, Met}
use Rattle.inc_terms.specs.Plan.{targets}
use Rattle.inc_terms.specs.Rebuild.{Inside}
use Rattle.inc_terms.specs.Rebuilding.{outcome_of}
use Rattle.inc_terms.specs.Term.{Functions}
use Rattle.inc_terms.specs.Within.{Given}
use Rattle.inc_terms.specs.Work.{WithinWork, taken_by}
use Rattle.height_order.specs.Chains.{StartsAt, EndsAt}
use Rattle.stabilize_round.specs.Calling.{Reason, IsAnswer, cost_at, costs_of}
use Rattle.stabilize_round.specs.Calls.{arguments_of}
use Rattle.stabilize_round.specs.Counts.{RoseBy, RoseAtMost}
use Rattle.stabilize_round.specs.Runs.{LeftDiffers, IsBuiltRight, BuildsFew}
use Rattle.stabilize_round.specs.Ended.{Fires}
use Rattle.stabilize_round.specs.State.{Call}
use Rattle.stabilizer.specs.Look.{Look, IsLinked, IsNeeded, AreRooted}
use Rattle.wiring.specs.Stands.{Counts}
use Rattle.wiring.specs.declared.refused.Refused.{Refused}
use Rattle.wiring.specs.declared.refused.Refused.TheVariants.{Height, Cycle, Full, Memory}

-- what stands beside a graph: what is needed is held for these observers, each node's last arguments are kept, its cutoff, and whether it is stale
pub record StoodBeside (before : Beside) (look : Look) (observers : List Observed) : Type 0 where
  pub held : (p : Point) → IsNeeded look p → Held before observers p
  pub last : (n : NodeId) → before.last n ≡ arguments_of (look.last n)
  pub cutoff : (n : NodeId) → before.cutoff n ≡ look.cutoff n
  pub stale : (n : NodeId) → before.stale n ≡ look.marked n

-- ---- over the graph that a round left, those who died in it, and the nodes that are observed

module _ (F : Functions) (G : Graph) (died : NodeId → Option NodeId) where
  -- the point is needed once these nodes have their roots
  abbrev pub IsObservedIn : List NodeId → Point → Type 0
  IsObservedIn observed p = Needed F G died observed p

  -- a point is met by a round: reached, by what depends on what, from an observed node or from what was needed before
  abbrev pub IsMetIn : Look → List NodeId → Point → Type 0
  IsMetIn old observed p = Met F G died observed (IsNeeded old) p

  -- ---- what binds are built for

  -- a live bind is built for what its left gives, and its change is met
  pub record IsBuiltMetIn (old : Look) (observed : List NodeId) (b : NodeId) : Type 0 where
    pub right : IsBuiltRight F G b
    pub met : IsMetIn old observed (change b)

  -- a live bind is built for nothing, though its left gives an outcome and its change is met
  pub record IsUnbuiltIn (old : Look) (observed : List NodeId) (b : NodeId) : Type 0 where
    pub none : G.built b ≡ None
    pub differs : LeftDiffers F G b
    pub met : IsMetIn old observed (change b)

  -- what a round leaves of what live binds are built for, of which one couldn't be built, or none. That of a bind that was given before stays, or is
  -- what its left gives, and then its change is met; a bind that was made in the round is built for nothing, or for what its left gives, and then its
  -- change is met. The one that couldn't be built is built for nothing; where it was given before, its left gave another outcome than it was built for.
  -- A new node stands in the scope of a bind that is built, or of the one that couldn't be
  pub record BuildsRightIn (old : Look) (observed : List NodeId) (unbuilt : Option NodeId) : Type 0 where
    pub stays : (b : NodeId) (r : Row) → Given old.given b → G.row b ≡ Some r
        → (G.built b ≡ old.graph.built b) ⊎ IsBuiltMetIn old observed b ⊎ (unbuilt ≡ Some b)
    pub made : (b : NodeId) (r : Row) → old.given ≤ b.gen_ → G.row b ≡ Some r → (G.built b ≡ None) ⊎ IsBuiltMetIn old observed b
    pub refused : (b : NodeId) → unbuilt ≡ Some b → IsUnbuiltIn old observed b
    pub was : (b : NodeId) → unbuilt ≡ Some b → Given old.given b → LeftDiffers F old.graph b
    pub scoped : (n : NodeId) (r : Row) (b : NodeId) → old.given ≤ n.gen_ → G.row n ≡ Some r → r.scope ≡ Some b → G.built b ≡ None
        → unbuilt ≡ Some b

  -- ---- why a function is called

  -- a node's function was due: the node is met, its children give these values, and it wasn't called on these last before the round, or it was stale
  -- then, or a child was settled in the round that tells even of an outcome that stays
  pub record WasDueIn (old new : Look) (observed : List NodeId) (n : NodeId) : Type 0 where
    pub row : Row
    pub kids : List NodeId
    pub values : List Value
    pub is_row : G.row n ≡ Some row
    pub takes : taken_by G n row.def ≡ Some kids
    pub gives : GiveAll F G kids values
    pub reason : Reason old.last old.cutoff new.settled old.marked n kids values
    pub met : IsMetIn old observed (main n)

  -- ---- accepted

  -- a node's function was due, and was called, and that is its last call now
  pub record WasCalledIn (old new : Look) (observed : List NodeId) (n : NodeId) : Type 0 where
    pub due : WasDueIn old new observed n
    pub result : Value
    pub is_last : new.last n ≡ Some (record { arguments = due.values; result = result })
    pub answers : IsAnswer F due.row.def due.values result

  -- what is needed, linked, shown and called is right behind an accepted round, with these nodes observed: need, links and last calls are those of the
  -- graph after it, in which nobody is known to have died. A bind whose change is needed is built for what its left gives. Of a node that lives its
  -- cutoff stays, and its last call where its function wasn't called, but for a node that takes no call: a fold of no nodes keeps that it was computed
  -- on none. What is needed isn't stale any more, and what was stale was called, where its children give values and it takes a call; of what wasn't settled
  -- the marks stay. A freeze keeps what it kept, and one that kept none the value of its child on which its predicate is true
  pub record IsUpToDateIn (after : Graph) (old new : Look) (observed ran : List NodeId) : Type 0 where
    pub roots : AreRooted new new.given observed
    pub needs : (p : Point) → IsNeeded new p ↔ Needed F after none_died observed p
    pub sees : (n : NodeId) → IsObservedIn observed (main n) → (o : Outcome) × (new.shown n ≡ Some o) × NodeGives F G n o
    pub chose : (n m : NodeId) (r : Row) → G.row n ≡ Some r → subject_of r.def ≡ Some m → IsObservedIn observed (change n)
        → (o : Outcome) × (new.chosen n ≡ Some o) × NodeGives F G m o
    pub built : (b left : NodeId) (r : Row) (f : FnRef) (captures : List NodeId) → G.row b ≡ Some r → r.def ≡ Bind left f captures
        → IsObservedIn observed (change b) → IsBuiltRight F G b
    pub acyclic : (p : Point) → IsObservedIn observed p → IsOnCycle (Depends F G died) p → ⊥
    pub shallow : (p : Point) → IsObservedIn observed p → IsDeep (Depends F G died) p → ⊥
    pub links : (p q : Point) → IsNeeded new p → IsLinked new p q ↔ Depends F after none_died p q
    pub recalls : (n : NodeId) (r : Row) (kids : List NodeId) (values : List Value) → IsNeeded new (main n)
        → after.row n ≡ Some r → taken_by after n r.def ≡ Some kids → GiveAll F after kids values
        → (c : Call) × (new.last n ≡ Some c) × (c.arguments ≡ values)
    pub kept : (n : NodeId) (r : Row) → G.row n ≡ Some r → (Among n ran → ⊥)
        → (new.last n ≡ old.last n) ⊎ (WasCalledIn old new observed n × (cost_at G n ≡ 0))
    pub cutoff : (n : NodeId) (r : Row) → G.row n ≡ Some r → new.cutoff n ≡ old.cutoff n
    pub unmarked : (n : NodeId) (r : Row) → G.row n ≡ Some r → IsObservedIn observed (main n) → new.marked n ≡ false
    pub renewed : (n : NodeId) (r : Row) (kids : List NodeId) (values : List Value) → old.marked n ≡ true → IsObservedIn observed (main n)
        → G.row n ≡ Some r → taken_by G n r.def ≡ Some kids → GiveAll F G kids values → 0 < cost_at G n → Among n ran
    pub marks : (n : NodeId) → new.settled (main n) ≡ false → new.marked n ≡ old.marked n
    pub froze : (n : NodeId) (v : Value) → (after.frozen n ≡ Some v) ↔ ((G.frozen n ≡ Some v) ⊎ Fires F G n v)
    pub once : NoRepeats ran
    pub called : (n : NodeId) → Among n ran → WasCalledIn old new observed n
    pub costs : (n : NodeId) → Among n ran → 0 < cost_at G n
    pub work : (before : Beside) (observers : List Observed) → StoodBeside before old observers
        → ((n : NodeId) → Among n observed → Among n (nodes_of observers))
        → (calls : ℕ) → calls ≤ costs_of G ran → WithinWork F G died observers before calls

  -- ---- refused

  -- each point depends on the next, and the first is met
  pub record IsListedIn (old : Look) (observed : List NodeId) (points : List Point) : Type 0 where
    pub walk : IsWalk (Depends F G died) points
    pub met : (p : Point) → StartsAt points p → IsMetIn old observed p

-- the points come back to where they begin, over one link at least, and pass no other point twice
pub record ComesBack (points : List Point) : Type 0 where
  pub point : Point
  pub starts : StartsAt points point
  pub ends : EndsAt points point
  pub front : List Point
  pub is_front : points ≡ front ++ point ∷ []
  pub once : NoRepeats front
  pub long : 2 ≤ length points

module _ (F : Functions) (G : Graph) (died : NodeId → Option NodeId) where
  -- what a refusal says: a chain of 130 points, no two the same, or a walk that comes back to where it began and passes no other point twice
  abbrev pub IsLawfulIn : Look → List NodeId → Refused → Type 0
  IsLawfulIn old observed (Height points) = IsListedIn F G died old observed points.items × (length points.items ≡ 130) × NoRepeats points.items
  IsLawfulIn old observed (Cycle points) = IsListedIn F G died old observed points.items × ComesBack points.items
  IsLawfulIn old observed Full = Unit {0}
  IsLawfulIn old observed Memory = Unit {0}

  -- what is shown of a node is what was before, or what it gives
  abbrev pub ShowsStillIn : Look → Look → NodeId → Type 0
  ShowsStillIn old new n = (new.shown n ≡ old.shown n) ⊎ ((o : Outcome) × (new.shown n ≡ Some o) × NodeGives F G n o)

  -- at most the calls were made that it takes to compute each of some live nodes once, all of which were due
  pub record HasCalledMetIn (old new : Look) (observed : List NodeId) (before after : ℕ) : Type 0 where
    pub nodes : List NodeId
    pub once : NoRepeats nodes
    pub due : (n : NodeId) → Among n nodes → WasDueIn F G died old new observed n
    pub count : RoseAtMost before (costs_of G nodes) after

-- a build is refused for want of room or of memory alone
abbrev pub RefusesBuild : Refused → Type 0
RefusesBuild Full = Unit {0}
RefusesBuild Memory = Unit {0}
RefusesBuild e = ⊥

-- ---- what a refused round tried

-- each of the points but the last
abbrev pub AllButLast : (Point → Type 0) → List Point → Type 0
AllButLast P [] = Unit {0}
AllButLast P (p ∷ []) = Unit {0}
AllButLast P (p ∷ q ∷ rest) = P p × AllButLast P (q ∷ rest)

-- the points are linked each to the next, with one link more
abbrev pub IsLinkedWith : Look → Point → Point → Point → Point → Type 0
IsLinkedWith look reader kid p q = IsLinked look p q ⊎ ((p ≡ reader) × (q ≡ kid))

-- what a refused round leaves: all points that are listed but the last are needed, and each is linked to the next, but for one link at most: the one
-- that was refused. Where that is one to a right side, its node chose it in this round
pub record IsTried (look : Look) (points : List Point) : Type 0 where
  pub reader : Point
  pub kid : Point
  pub linked : IsWalk (IsLinkedWith look reader kid) points
  pub needed : AllButLast (IsNeeded look) points
  pub right : (r : Row) → look.graph.row reader.node ≡ Some r → reader.part ≡ Main
      → Among kid (targets look.graph reader.node r.def (look.chosen reader.node)) → look.settled (change reader.node) ≡ true

-- so it is of the points that a refusal lists
abbrev pub LeavesTried : Look → Refused → Type 0
LeavesTried look (Height points) = IsTried look points.items
LeavesTried look (Cycle points) = IsTried look points.items
LeavesTried look Full = Unit {0}
LeavesTried look Memory = Unit {0}

-- ---- what a round leaves of the nodes, accepted or refused

-- the outcome for which a bind is built is another than before
abbrev pub IsBuiltOther : Graph → Graph → NodeId → Type 0
IsBuiltOther G G' b = outcome_of (G'.built b) ≡ outcome_of (G.built b) → ⊥

-- a live node that is new stands in the scope, or in one within it, of a bind that was there before, and lives
pub record StandsAnew (count later : ℕ) (G : Graph) (n : NodeId) : Type 0 where
  pub bind : NodeId
  pub row : Row
  pub given : Given count bind
  pub is_row : G.row bind ≡ Some row
  pub inside : Inside G bind n
  pub there : Given later n

-- who died stood inside a bind whose left gives another outcome than it was built for, and inside one that is built for another outcome than before, or for
-- nothing now. Who stood inside a bind that is built for another outcome than before, or for nothing now, is dead. A bind that is built for the same
-- outcome has the same root; a new node stands inside a bind that is built for another outcome than before, or for nothing. The count of builds rose by
-- at most one for each of some binds that were built, of which one couldn't be, or none; and as many nodes were added as ids were given
pub record LeavesNodes (F : Functions) (count later : ℕ) (G G' : Graph) (before after : Counts) : Type 0 where
  pub dead : (n : NodeId) (r : Row) → G.row n ≡ Some r → G'.row n ≡ None → (b : NodeId) × Inside G b n × LeftDiffers F G b
  pub fallen : (n : NodeId) (r : Row) → G.row n ≡ Some r → G'.row n ≡ None
      → (b : NodeId) × Inside G b n × ((G'.built b ≡ None) ⊎ IsBuiltOther G G' b)
  pub killed : (n b : NodeId) → Inside G b n → IsBuiltOther G G' b → G'.row n ≡ None
  pub roots : (b : NodeId) (r : Row) → Given count b → G'.row b ≡ Some r → outcome_of (G'.built b) ≡ outcome_of (G.built b) → G'.built b ≡ G.built b
  pub born : (n : NodeId) (r : Row) → count ≤ n.gen_ → G'.row n ≡ Some r
      → (a : StandsAnew count later G' n) × ((G'.built a.bind ≡ None) ⊎ IsBuiltOther G G' a.bind)
  pub builds : (unbuilt : Option NodeId) × BuildsFew F count G G' unbuilt before.builds after.builds
  pub adds : (number : ℕ) × (later ≡ count + number) × RoseBy before.adds number after.adds
