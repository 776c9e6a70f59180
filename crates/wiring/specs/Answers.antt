-- What calls that give points their links answer, and what they leave.
use Rattle.std.specs.Prelude.{◌≡◌, ◌<◌, Bool, true, [], Option, Some, Result, IfOk, OnOk, IfErr, OnErr, IsTrue, IsFalse}
use Rattle.inc_value.specs.declared.node.NodeId.{NodeId}
use Rattle.inc_value.specs.declared.node.Point.{Point}
use Rattle.inc_terms.specs.Depend.{change}
use Rattle.link_table.specs.Links.{Reads}
use Rattle.point_map.specs.Rows.{at}
use Rattle.height_order.specs.declared.heights.LinkFault.{LinkFault}
use Rattle.necessary_graph.specs.Part.{Needed}
use Rattle.node_arena.specs.Arena.{Arena}
use Rattle.node_outcomes.specs.Row.{settled_in}
use Rattle.wiring.specs.Growing.{Grows}
use Rattle.wiring.specs.Kept.{IsKept}
use Rattle.wiring.specs.Refusing.{IsBarred, TellsFault}
use Rattle.wiring.specs.Stands.{PointInHand, hand, owes}
use Rattle.wiring.specs.Wiring.{Links, IsLevelled, Connects, LosesNeed, ConnectRefused, Wires, WiresTaken, WireRefused, StaysInHand, LacksLinks, GateRan, KeepsPlaces}
use Rattle.wiring.specs.declared.refused.Refused.{Refused}
use Rattle.wiring.specs.declared.work.Work.{Work}

-- points were given links, or these were refused; whichever it is, places and what is kept stay
pub record EndsWired {A : Type 0} (wires : Type 0) (refuses : Refused → Type 0) (arena : Arena) (old new : Work) (result : Result A Refused) : Type 0 where
  pub wired : OnOk result wires
  pub refused : IfErr result refuses
  pub places : KeepsPlaces old new
  pub kept : IsKept arena new
  pub pushed : OnOk result (Grows old new)

-- the point in hand, and those of the worklist
abbrev pub WireAnswers : {A : Type 0} → Arena → Work → Work → Option PointInHand → Result A Refused → Type 0
WireAnswers arena old new held result = EndsWired (Wires arena old new held) (WireRefused arena old new held) arena old new result

-- a point that was taken from the worklist
abbrev pub TakenAnswers : {A : Type 0} → Arena → Work → Work → Point → Result A Refused → Type 0
TakenAnswers arena old new p result = EndsWired (WiresTaken arena old new p) (WireRefused arena old new (Some (hand p (owes old true p)))) arena old new result

-- a point is to have its other links: it is in hand still, needed, and lacks them, and its gate ran
pub record PassesGate (arena : Arena) (old new : Work) (p : Point) : Type 0 where
  pub in_hand : StaysInHand arena old new p
  pub lacking : LacksLinks arena new p
  pub ran : GateRan arena new p
  pub needed : Needed new.graph p

-- it passes, or was given the link that it may have by now, or that was refused
pub record GateAnswers (arena : Arena) (old new : Work) (p : Point) (result : Result Bool Refused) : Type 0 where
  pub passes : IfOk result (λ on. IsTrue on → PassesGate arena old new p)
  pub left : IfOk result (λ on. IsFalse on → WiresTaken arena old new p)
  pub refused : IfErr result (WireRefused arena old new (Some (hand p [])))
  pub places : KeepsPlaces old new
  pub kept : IsKept arena new
  pub pushed : OnOk result (Grows old new)

-- the gate ran and nothing changes, or the point that has its link alone waits for it
pub record AsksGate (arena : Arena) (old new : Work) (p : Point) (bind : NodeId) (passes : Bool) : Type 0 where
  pub ran : IsTrue passes → settled_in new.round (at new.rows (change bind)) ≡ true
  pub stays : IsTrue passes → new ≡ old
  pub left : IsFalse passes → Wires arena old new (Some (hand p []))
  pub places : KeepsPlaces old new
  pub kept : IsKept arena new
  pub pushed : Grows old new

-- a link was put on, or its reader isn't needed any more or waits for its gate, or the link was refused
pub record ConnectAnswers (arena : Arena) (old new : Work) (p q : Point) (result : Result Bool Refused) : Type 0 where
  pub linked : IfOk result (λ on. IsTrue on → Connects arena old new p q)
  pub needed : IfOk result (λ on. IsTrue on → Needed new.graph p × Needed new.graph q)
  pub reads : IfOk result (λ on. IsTrue on → Reads new.graph.links p q)
  pub gone : IfOk result (λ on. IsFalse on → LosesNeed arena old new p q × (new.retries < old.retries))
  pub refused : IfErr result (ConnectRefused arena old new p q)
  pub barred : new.retries < old.retries → IsBarred old p q
  pub row : IfOk result (λ on. IsTrue on → at new.rows p ≡ at old.rows p)
  pub experts : new.experts ≡ old.experts
  pub places : KeepsPlaces old new
  pub kept : IsKept arena new
  pub pushed : OnOk result (Grows old new)

-- a link was put on at once, or only heights may be others than before, and the fault tells why
pub record LinkAnswers {A : Type 0} (arena : Arena) (old new : Work) (p q : Point) (result : Result A LinkFault) : Type 0 where
  pub linked : OnOk result (Links arena old new p q)
  pub needed : OnOk result (Needed new.graph p × Needed new.graph q)
  pub reads : OnOk result (Reads new.graph.links p q)
  pub rows : (a : Point) → Needed old.graph a → at new.rows a ≡ at old.rows a
  pub levelled : OnErr result (IsLevelled old new)
  pub why : IfErr result (TellsFault new p q)
  pub retries : new.retries ≡ old.retries
  pub experts : new.experts ≡ old.experts
  pub places : KeepsPlaces old new
  pub kept : IsKept arena new
  pub pushed : OnOk result (Grows old new)
