-- Calls that are within the work of a graph are within the work of the script.
use Rattle.std.proofs.Common.{◌≡◌, inl, inr, ℕ, ◌+◌, ◌≤◌, List, [], ◌∷◌, map, length, Option, None, Some, refl, sym, ap, subst, ◌∙◌, arith}
use Rattle.std.specs.List.{sum_by}
use Rattle.std.proofs.lemmas.List.Sums.{sum_by-cons}
use Rattle.inc_value.specs.declared.node.NodeId.{NodeId}
use Rattle.inc_value.specs.declared.outcome.Outcome.TheVariants as outcome
use Rattle.inc_value.specs.declared.value.Value.{Value as GraphValue}
use Rattle.inc_value.specs.Choice.{and_then, Among, NoRepeats, Every as Each}
use Rattle.inc_terms.specs.Depend.{main, kids_of, unfrozen}
use Rattle.inc_terms.specs.Evaluate.{Of, Values, answer, gathered, GiveAll}
use Rattle.inc_terms.specs.Graph as graph
use Rattle.inc_terms.specs.Graph.{Graph, Def}
use Rattle.inc_terms.specs.Need.{Beside, Observed, nodes_of, Held as GraphHeld}
use Rattle.inc_terms.specs.Term.{Ref, Functions, refs}
use Rattle.inc_terms.specs.Work as work
use Rattle.inc_terms.specs.Work.{IsDueVisit, HasReason, other, stale, passed}
use Rattle.inc_terms.proofs.Evaluation.{at_depth, gathered_at}
use Rattle.inc_terms.proofs.Work.{one_visit}
use Rattle.script_model.specs.Formula.{Body, Entry, body_at}
use Rattle.script_model.specs.Need.{Item, Named, Place, environment, Visit, IsVisit, Needed, Met, stamp_of, body_visits, visits_at}
use Rattle.script_model.specs.Valid.{Valid}
use Rattle.script_model.specs.Values.{Value}
use Rattle.script_model.proofs.Places.{needed_stands}
use Rattle.transfer.specs.Both.{Both, graph_value}
use Rattle.transfer.specs.Holding.{Remembers}
use Rattle.transfer.specs.Items.{node_of, RootsAre}
use Rattle.transfer.specs.Keeping.{NodesApart}
use Rattle.transfer.specs.Laws.{MetIsCovered, WorkIsCovered}
use Rattle.transfer.specs.Shows.{Fits}
use Rattle.transfer.specs.Work.{some_unless_empty, call_of, cost_of, Calls, Ran, AllRan, calls_in}
use Rattle.transfer.proofs.Ghosts.{ghosts_covered}
use Rattle.transfer.proofs.Holding.{held_are}
use Rattle.transfer.proofs.Reaching.{met_covered, met_closed}
use Rattle.transfer.proofs.Enclosed.{needed_enclosed}
use Rattle.transfer.proofs.Staying.{IsOwnValue, stands_own, visit_own, own_alike, all_alike, place_one}
use Rattle.transfer.proofs.Typed.{valid_grabs}
use Rattle.transfer.proofs.Visiting.{ran_within_work}

pub met_is_covered : MetIsCovered
met_is_covered x then beside observers r fits valid apart are p met =
    let grabs = valid_grabs then.meanings then.state valid in
    let before = valid_grabs x.meanings x.state r.valid in
    met_covered then fits grabs x.state before r.later.formulas then.died
    (ghosts_covered then fits (Met then.meanings x.state then.state)
    (met_closed then x.state before grabs r.later.formulas)) (nodes_of observers) are
    (GraphHeld beside observers)
    (held_are x then r.fits r.keep r.valid r.later fits valid apart beside observers r.holders r.links) p
    met

-- ---- a visit of the graph is a call

give_gathered : (F : Functions) (G : Graph) (ns : List NodeId) (vs : List GraphValue) → GiveAll F G ns vs
    → (d : ℕ) × (gathered (answer F G d) (refs ns) ≡ Values vs)
give_gathered F G [] [] h = (0, refl)
give_gathered F G [] (v ∷ vs) h = absurd h
give_gathered F G (n ∷ ns) [] h = absurd h
give_gathered F G (n ∷ ns) (v ∷ vs) h =
    let rest = give_gathered F G ns vs h.1 in
    let d : ℕ = h.0.0 + rest.0 in
    let first = at_depth F G h.0.0 d (Of (Ref n)) (outcome.Val v) (omega arith) h.0.1 in
    let others = gathered_at F G rest.0 d (refs ns) (omega arith) in
    let others_are : gathered (answer F G d) (refs ns) ≡ Values vs = rw rest.1 at others in
    (d, rw (first, others_are) refl)

pub as_many : (F : Functions) (G : Graph) (ns : List NodeId) (vs : List GraphValue) → GiveAll F G ns vs
    → length vs ≡ length ns
as_many F G [] [] h = refl
as_many F G [] (v ∷ vs) h = absurd h
as_many F G (n ∷ ns) [] h = absurd h
as_many F G (n ∷ ns) (v ∷ vs) h = let e = as_many F G ns vs h.1 in omega (arith, e)

-- what has a cost is called on its children
is_called : (G : Graph) (n : NodeId) (def : Def) (c : ℕ) → work.cost_of G n def ≡ Some c
    → call_of G n def ≡ Some (kids_of G n def)
is_called G n (graph.Map f ns) c e = refl
is_called G n (graph.Fold f v ns) c e = refl
is_called G n (graph.Expert f v ns) c e = refl
is_called G n (graph.Freeze kid f) c e = go (G.frozen n) e
  where
    go : (kept : Option GraphValue) → work.predicate_cost kept ≡ Some c
        → some_unless_empty (unfrozen kid kept) ≡ Some (unfrozen kid kept)
    go None e = refl
    go (Some v) e = absurd (cc)
is_called G n def c e = absurd (cc)

same_cost : (F : Functions) (G : Graph) (n : NodeId) (def : Def) (c : ℕ) (vs : List GraphValue)
    → work.cost_of G n def ≡ Some c
    → GiveAll F G (kids_of G n def) vs → cost_of def vs ≡ c
same_cost F G n (graph.Map f ns) c vs e h = cc
same_cost F G n (graph.Fold f v ns) c vs e h = let many = as_many F G ns vs h in cc
same_cost F G n (graph.Expert f v ns) c vs e h = let many = as_many F G (G.lists n) vs h in cc
same_cost F G n (graph.Freeze kid f) c vs e h = go (G.frozen n) e
  where
    go : (kept : Option GraphValue) → work.predicate_cost kept ≡ Some c → 1 ≡ c
    go None e = cc
    go (Some v) e = absurd (cc)
same_cost F G n def c vs e h = absurd (cc)

module _ (x then : Both) (beside : Beside) (observers : List Observed) (r : Remembers x then beside observers)
    (fits : Fits then)
    (valid : Valid then.meanings then.state) (apart : NodesApart then.state then.nodes) (are : RootsAre then (nodes_of observers)) where
  abbrev Due : work.Visit → Type 0
  Due v = IsDueVisit then.functions then.graph then.died observers beside v

  abbrev call : (v : work.Visit) → work.IsVisit then.functions then.graph v → Calls then v.node
  call v is =
      let g = give_gathered then.functions then.graph (kids_of then.graph v.node is.row.def) v.values is.values in
      record {
        row = is.row;
        is_row = is.is_row;
        stands = is.stands;
        kids = kids_of then.graph v.node is.row.def;
        is_call = is_called then.graph v.node is.row.def v.cost is.cost;
        given = v.values;
        depth = g.0;
        gives = g.1;
      }

  -- the values of a visit that was needed have the nodes that they had
  visit_alike : (w : Visit) → IsVisit x.meanings x.state w → Needed x.meanings x.state w.item
      → map (graph_value then.nodes) w.values ≡ map (graph_value x.nodes) w.values
  visit_alike w is needed =
      all_mapped w.values (visit_own x r.keep r.valid w is (needed_stands x.meanings x.state w.item needed))
    where
      all_mapped : (vs : List Value) → Each (IsOwnValue x.state) vs
          → map (graph_value then.nodes) vs ≡ map (graph_value x.nodes) vs
      all_mapped [] h = refl
      all_mapped (v ∷ vs) h = rw (own_alike x then r.fits r.later v h.0, all_mapped vs h.1) refl

  -- a visit that was needed has its node still, if it has one
  same_node : (i : Item) (w : Visit) (d : ℕ) → Needed x.meanings x.state i → Among w (visits_at x.meanings x.state d i)
      → (m n : NodeId) → node_of x i ≡ Some m → node_of then i ≡ Some n → m ≡ n
  same_node (Named k) w d needed among m n at at' = elim (r.later.names k) [
    | inl same ↦ (let e : Some (x.nodes k) ≡ Some (then.nodes k) = ap (λ n. Some n) (sym same) in cc)
    | inr gone ↦ absurd (let none : body_at x.state k ≡ None =
        ap (λ e. and_then e (λ (e : Entry). Some e.body)) gone.0 in
        subst (λ (b : Option Body). Among w (body_visits x.meanings x.state d (Named k) b)) none among)
  ]
  same_node (Place owner path) w d needed among m n at at' =
      let there = (needed_enclosed x.meanings x.state (valid_grabs x.meanings x.state r.valid) (Place owner path) needed).0 in
      let own = stands_own x r.keep r.valid owner path there.0 there.1
      (needed_stands x.meanings x.state (Place owner path) needed) in
      place_one x then r.fits r.later fits owner path there.0 m n there.1 at at'
      (all_alike x then r.fits r.later (environment path) own)

  -- no visit of what was needed has the node, its values and its stamp
  anew : (v : work.Visit) (w : Visit) → IsVisit x.meanings x.state w → Needed x.meanings x.state w.item
      → node_of then w.item ≡ Some v.node
      → w.stamp ≡ stamp_of then.state w.item → v.values ≡ map (graph_value then.nodes) w.values
      → HasReason then.graph beside v → ⊥
  anew v w is needed node stamp same (other h) =
      let kept = r.last w is needed in
      let there = same_node w.item w is.0 needed is.1 kept.0 v.node kept.1 node in
      let values = same ∙ visit_alike w is needed in
      h (rw (there, ← values) at kept.2)
  anew v w is needed node stamp same (stale marked) =
      let kept = r.last w is needed in
      let there = same_node w.item w is.0 needed is.1 kept.0 v.node kept.1 node in
      r.marks w v.node is needed (rw there at kept.1) marked stamp
  anew v w is needed node stamp same (passed kid row among cutoff) = r.cutoffs kid cutoff

  -- a visit that is due is a call that ran anew
  abbrev ran : (v : work.Visit) → Due v → Ran then x.state v.node
  ran v due =
      record {
        calls = call v due.visit;
        met = met_is_covered x then beside observers r fits valid apart are (main v.node) due.met;
        fresh = λ w is needed node stamp same. anew v w (rw (← r.later.meanings) is)
            (rw (← r.later.meanings) needed) node stamp same due.reason;
      }

  abbrev all_ran : (vs : List work.Visit) → Each Due vs → AllRan then x.state (map (λ (v : work.Visit). v.node) vs)
  all_ran [] due = tt
  all_ran (v ∷ vs) due = (ran v due.0, all_ran vs due.1)

  all_cost : (vs : List work.Visit) (due : Each Due vs)
      → calls_in then x.state (map (λ (v : work.Visit). v.node) vs) (all_ran vs due) ≡ sum_by
      (λ (v : work.Visit). v.cost) vs
  all_cost [] due = refl
  all_cost (v ∷ vs) due =
      let is = due.0.visit in
      let first = same_cost then.functions then.graph v.node is.row.def v.cost v.values is.cost is.values in
      rw (first, all_cost vs due.1) (sym (sum_by-cons (λ (v : work.Visit). v.cost) v vs))

  -- visits that differ have nodes that differ
  visit_of : (vs : List work.Visit) (n : NodeId) → Each Due vs → Among n (map (λ (v : work.Visit). v.node) vs)
      → (w : work.Visit) × Among w vs × Due w × (n ≡ w.node)
  visit_of [] n due none = absurd none
  visit_of (v ∷ vs) n due (inl e) = (v, inl refl, due.0, e)
  visit_of (v ∷ vs) n due (inr later) = let w = visit_of vs n due.1 later in (w.0, inr w.1, w.2, w.3)

  distinct : (vs : List work.Visit) → Each Due vs → NoRepeats vs → NoRepeats (map (λ (v : work.Visit). v.node) vs)
  distinct [] due none = tt
  distinct (v ∷ vs) due once = (again, distinct vs due.1 once.1)
    where
      again : Among v.node (map (λ (w : work.Visit). w.node) vs) → ⊥
      again among =
          let w = visit_of vs v.node due.1 among in
          let same = one_visit then.functions then.graph v w.0 due.0.visit w.2.visit w.3 in
          once.0 (rw same w.1)

pub work_is_covered : WorkIsCovered
work_is_covered x then beside observers r fits valid apart are calls within =
    let grabs = valid_grabs then.meanings then.state valid in
    let before = valid_grabs x.meanings x.state r.valid in
    let ran = all_ran x then beside observers r fits valid apart are within.visits within.due in
    let few : calls ≤ calls_in then x.state (map (λ (v : work.Visit). v.node) within.visits) ran =
    rw (all_cost x then beside observers r fits valid apart are within.visits within.due) within.enough in
    ran_within_work then fits x.state (met_closed then x.state before grabs r.later.formulas)
    (map (λ (v : work.Visit). v.node) within.visits) ran calls
    (distinct x then beside observers r fits valid apart are within.visits within.due within.distinct) few
