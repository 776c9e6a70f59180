-- What is told of a round to observers.
use Rattle.std.specs.Prelude.{◌≡◌, ◌⊎◌, List, true, false, Option, None, Some}
use Rattle.inc_value.specs.Choice.{Among}
use Rattle.inc_value.specs.declared.node.NodeId.{NodeId}
use Rattle.inc_value.specs.declared.node.Point.{Point}
use Rattle.inc_value.specs.declared.outcome.Outcome.{Outcome}
use Rattle.inc_value.specs.declared.outcome.Outcome.TheVariants.{Invalid}
use Rattle.inc_terms.specs.Depend.{main}
use Rattle.inc_terms.specs.Local.{shown}
use Rattle.inc_terms.specs.Within.{Given}
use Rattle.point_map.specs.Rows.{at}
use Rattle.node_outcomes.specs.Computing.{seen}
use Rattle.node_outcomes.specs.Meaning.{Meaning}
use Rattle.node_outcomes.specs.Row.{settled_in}
use Rattle.observers.specs.Observers.{in_use}
use Rattle.observers.specs.declared.observer.Observer.{Observer}
use Rattle.stabilize_round.specs.Machine.{Entry, Moves}
use Rattle.stabilize_round.specs.State.{State, Start}
use Rattle.stabilizer.specs.declared.news.News.{News}
use Rattle.stabilizer.specs.declared.parts.Parts.{Parts}
use Rattle.wiring.specs.Began.{IsRoundOf}
use Rattle.wiring.specs.Stands.{MatchesState, Counts}
use Rattle.wiring.specs.declared.work.Work.{Work}

-- what is seen, or Invalid where nothing is
abbrev pub shown_or : Option Outcome → Outcome
shown_or None = Invalid
shown_or (Some o) = o

-- what a node shows: Invalid where it has no outcome
abbrev pub shows_of : Parts → NodeId → Outcome
shows_of parts n = shown_or (seen parts.work.rows (main n))

-- each observer in use that shows something shows what is seen of its node
abbrev pub ShowAsSeen : Parts → List Observer → Type 0
ShowAsSeen parts made = (o : Observer) (x : Outcome) → Among o made → o.in_use ≡ true → o.shown ≡ Some x → seen parts.work.rows (main o.node) ≡ Some x

-- observers in use look at nodes that were given
abbrev pub LookAtGiven : Parts → List Observer → Type 0
LookAtGiven parts made = (n : NodeId) → Among n (in_use made) → Given parts.arena.given n

-- ---- news

-- the node is listed, or all may be news
abbrev pub IsNews : News → NodeId → Type 0
IsNews news n = (news.all ≡ true) ⊎ Among n news.nodes.items

-- what was news is so still
abbrev pub NewsStay : News → News → Type 0
NewsStay old new = (n : NodeId) → IsNews old n → IsNews new n

-- no node's main was settled in this round
abbrev pub NoneIsSettled : Work → Type 0
NoneIsSettled work = (n : NodeId) → settled_in work.round (at work.rows (main n)) ≡ false

-- each node whose main was settled in this round is news
abbrev pub SettledAreNews : Work → News → Type 0
SettledAreNews work news = (n : NodeId) → settled_in work.round (at work.rows (main n)) ≡ true → IsNews news n

-- each observer in use that shows something shows what its node shows now, or its node is news
abbrev pub AreCurrent : Parts → News → List Observer → Type 0
AreCurrent parts news made =
    (o : Observer) (x : Outcome) → Among o made → o.in_use ≡ true → o.shown ≡ Some x → IsNews news o.node ⊎ (shows_of parts o.node ≡ x)

-- a round began in which nothing was settled yet. Each observer in use that shows something shows what its node, which was given, showed at first
pub record HasOpened (M : Meaning) (parts : Parts) (counts : Counts) (made : List Observer) : Type 0 where
  pub start : Start
  pub first : State
  pub state : State
  pub entry : Entry M.functions start first
  pub moves : Moves M.functions start first state
  pub round : IsRoundOf M start state
  pub stands : MatchesState parts.arena parts.work counts None state
  pub unsettled : (p : Point) → state.settled p ≡ false
  pub showed : (o : Observer) (x : Outcome) → Among o made → o.in_use ≡ true → o.shown ≡ Some x
      → Given first.given o.node × (shown first.graph first.out (main o.node) ≡ Some x)
