-- Visits, and how many calls of functions a call of the graph may make.
use Rattle.std.specs.Prelude.{◌≡◌, ◌≤◌, ℕ, true, List, [], ◌∷◌, length, Option, None, Some}
use Rattle.std.specs.List.{sum_by}
use Rattle.inc_value.specs.declared.function.FnRef.{FnRef}
use Rattle.inc_value.specs.declared.node.NodeId.{NodeId}
use Rattle.inc_value.specs.declared.outcome.Outcome.TheVariants.{Val}
use Rattle.inc_value.specs.declared.value.Value.{Value}
use Rattle.inc_value.specs.Choice.{Among, NoRepeats, Every}
use Rattle.map_nodes.specs.Cutoff.{TellsAgain}
use Rattle.inc_terms.specs.Term.{Functions}
use Rattle.inc_terms.specs.Graph.{Graph, Row, Def, Map, Fold, Freeze, Expert}
use Rattle.inc_terms.specs.Evaluate.{NodeGives, Stands, GiveAll}
use Rattle.inc_terms.specs.Depend.{kids_of, main}
use Rattle.inc_terms.specs.Need.{Beside, Observed, Held, Met, nodes_of}

-- a call of a function that evaluating a node makes: the node, the values that its children give, and how many calls it counts
pub record Visit : Type 0 where
  pub node : NodeId
  pub values : List Value
  pub cost : ℕ

-- a freeze that keeps no value yet calls its predicate
abbrev pub predicate_cost : Option Value → Option ℕ
predicate_cost None = Some 1
predicate_cost (Some v) = None

-- how many calls a node counts for: a map one, a fold or an expert one for each child, a freeze one for its predicate; others call nothing
abbrev pub cost_of : Graph → NodeId → Def → Option ℕ
cost_of G n (Map f ns) = Some 1
cost_of G n (Fold f v ns) = Some (length ns)
cost_of G n (Expert f v ns) = Some (length (G.lists n))
cost_of G n (Freeze kid f) = predicate_cost (G.frozen n)
cost_of G n def = None

-- a freeze that keeps no value yet calls its predicate on its child's value
abbrev pub predicate_kids : NodeId → Option Value → Option (List NodeId)
predicate_kids kid None = Some (kid ∷ [])
predicate_kids kid (Some v) = None

-- the children on whose values a node's function is called; others have no function to call
abbrev pub taken_by : Graph → NodeId → Def → Option (List NodeId)
taken_by G n (Map f ns) = Some ns
taken_by G n (Fold f v ns) = Some ns
taken_by G n (Expert f v ns) = Some (G.lists n)
taken_by G n (Freeze kid f) = predicate_kids kid (G.frozen n)
taken_by G n def = None

-- a live node that calls a function, whose scope stands, and whose children all give values
pub record IsVisit (F : Functions) (G : Graph) (v : Visit) : Type 0 where
  pub row : Row
  pub is_row : G.row v.node ≡ Some row
  pub stands : Stands F G row.scope
  pub values : GiveAll F G (kids_of G v.node row.def) v.values
  pub cost : cost_of G v.node row.def ≡ Some v.cost

-- why a visit counts: its node was last called on other values or never, or it was made stale, or a child tells even of an outcome that stays
pub data HasReason (G : Graph) (before : Beside) (v : Visit) : Type 0 where
  other : (before.last v.node ≡ Some v.values → ⊥) → HasReason G before v
  stale : before.stale v.node ≡ true → HasReason G before v
  passed : {r : Row} (kid : NodeId) → G.row v.node ≡ Some r → Among kid (kids_of G v.node r.def) → TellsAgain (before.cutoff kid) → HasReason G before v

-- a visit that is met and has a reason, in the graph as a call leaves it, by what stood beside it before
pub record IsDueVisit (F : Functions) (G : Graph) (died : NodeId → Option NodeId) (observers : List Observed)
    (before : Beside) (v : Visit) : Type 0 where
  pub visit : IsVisit F G v
  pub met : Met F G died (nodes_of observers) (Held before observers) (main v.node)
  pub reason : HasReason G before v

-- so many calls are within the work: there are visits, none twice, each of them due, whose costs allow them
pub record WithinWork (F : Functions) (G : Graph) (died : NodeId → Option NodeId) (observers : List Observed)
    (before : Beside) (calls : ℕ) : Type 0 where
  pub visits : List Visit
  pub distinct : NoRepeats visits
  pub due : Every (IsDueVisit F G died observers before) visits
  pub enough : calls ≤ sum_by (λ (v : Visit). v.cost) visits

-- ---- laws

-- a node has one visit at most
abbrev pub OneVisit : Type 0
OneVisit = (F : Functions) (G : Graph) (v w : Visit) → IsVisit F G v → IsVisit F G w → v.node ≡ w.node → v ≡ w

-- a visit of a map is its evaluation, and a map that gives a value has a visit
abbrev pub MapVisits : Type 0
MapVisits =
    (F : Functions) (G : Graph) (n : NodeId) (r : Row) (f : FnRef) (ns : List NodeId) → G.row n ≡ Some r → r.def ≡ Map f ns
    → ((v : Visit) → IsVisit F G v → v.node ≡ n → NodeGives F G n (Val (F.value f v.values)))
    × ((w : Value) → NodeGives F G n (Val w) → (v : Visit) × IsVisit F G v × (v.node ≡ n) × (F.value f v.values ≡ w))

-- nothing to do: what is met was last called on the values that its children give, isn't stale, and has no child whose cutoff is Never
pub record IsIdle (F : Functions) (G : Graph) (died : NodeId → Option NodeId) (observers : List Observed) (before : Beside) : Type 0 where
  pub same : (v : Visit) → IsVisit F G v → Met F G died (nodes_of observers) (Held before observers) (main v.node)
      → before.last v.node ≡ Some v.values
  pub fresh : (n : NodeId) → Met F G died (nodes_of observers) (Held before observers) (main n) → before.stale n ≡ true → ⊥
  pub stops : (n : NodeId) → TellsAgain (before.cutoff n) → ⊥

-- where nothing is to do no call is within the work
abbrev pub IdleIsFree : Type 0
IdleIsFree =
    (F : Functions) (G : Graph) (died : NodeId → Option NodeId) (observers : List Observed) (before : Beside) (calls : ℕ)
    → IsIdle F G died observers before → WithinWork F G died observers before calls → calls ≡ 0
