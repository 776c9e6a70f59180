-- Each visit of what is needed is a visit of a node that is needed over the graph.
use Rattle.std.proofs.Common.{◌≡◌, inl, inr, ℕ, ◌∷◌, List, [], map, length, Option, None, Some, refl, sym, ap, ◌∙◌}
use Rattle.std.proofs.lemmas.List.{length-map}
use Rattle.inc_value.specs.declared.node.NodeId.{NodeId}
use Rattle.inc_value.specs.declared.node.Part.TheVariants.{Main}
use Rattle.inc_value.specs.declared.node.Point.{Point}
use Rattle.inc_value.specs.declared.outcome.Outcome.{Outcome as GraphOutcome}
use Rattle.inc_value.specs.declared.outcome.Outcome.TheVariants as outcome
use Rattle.inc_value.specs.Choice.{Among}
use Rattle.inc_terms.specs.Depend.{main, fixed_reads, fixed}
use Rattle.inc_terms.specs.Evaluate.{NodeGives, GiveAll}
use Rattle.inc_terms.specs.Graph as graph
use Rattle.inc_terms.specs.Graph.{Row, Def}
use Rattle.inc_terms.specs.Local.{Exact}
use Rattle.inc_terms.specs.Need.{Needed as GraphNeeded}
use Rattle.inc_terms.specs.Term as term
use Rattle.inc_terms.specs.Term.{refs}
use Rattle.inc_terms.specs.Work as work
use Rattle.inc_terms.proofs.Local.{needed_more, main_sees}
use Rattle.script_model.specs.Values.{Value, Outcome, Val, Invalid}
use Rattle.script_model.specs.Formula.{Formula, Formulas, Body, State, body_at, Name, Apply, Fold, End, More, Freeze, Expert}
use Rattle.script_model.specs.Evaluate.{Gathered, Unknown, SomeInvalid, Values, joined, gathered, each_of, value_at}
use Rattle.script_model.specs.Need.{Edge, Item, Named, Place, environment, formula_at, Visit, Needed, visit_with, formula_visits, body_visits, visits_at}
use Rattle.script_model.proofs.Evaluation.{one_outcome}
use Rattle.transfer.specs.Both.{Both, graph_value, graph_outcome}
use Rattle.transfer.specs.Shows.{Built, Binding, values, Shows, ShowsAll, Declares, Fits, Sound}
use Rattle.transfer.specs.Items.{node_at, node_of, around, scope_at, GrabsBind, RootsHave}
use Rattle.transfer.specs.Laws.{VisitsHaveNodes}
use Rattle.transfer.proofs.Agreement.{term_agrees}
use Rattle.transfer.proofs.Carriers.{values_around, sound_at}
use Rattle.transfer.proofs.Having.{needed_has_points}
use Rattle.transfer.proofs.Places.{stands_none, opened, plain_map, plain_fold, place_shows}
use Rattle.transfer.proofs.Working.{as_many}

-- a visit with gathered values has just them
with_values : (s : State) (i : Item) (cost : List Value → ℕ) (g : Gathered) (v : Visit)
    → Among v (visit_with s i cost g)
    → (g ≡ Values v.values) × (v.cost ≡ cost v.values)
with_values s i cost (Values vs) v (inl e) =
    let are : v.values ≡ vs = ap (λ (w : Visit). w.values) e in
    (rw are refl, rw are (ap (λ (w : Visit). w.cost) e))
with_values s i cost (Values vs) v (inr none) = absurd none
with_values s i cost Unknown v none = absurd none
with_values s i cost SomeInvalid v none = absurd none

-- links as formulas
abbrev names : List ℕ → Formulas
names [] = End
names (m ∷ links) = More (Name m) (names links)

names_each : (part : Formula → Option Outcome) (links : List ℕ)
    → each_of part (names links) ≡ map (λ m. part (Name m)) links
names_each part [] = refl
names_each part (m ∷ links) = rw (names_each part links) refl

module _ (x : Both) (fits : Fits x) where
  -- links are shown by the nodes of their names
  links_show : (links : List ℕ) → ShowsAll x (Built None) [] (refs (map x.nodes links)) (names links)
  links_show [] = tt
  links_show (m ∷ links) = (refl, links_show links)

  module _ (S : Option NodeId) (E : List Binding) (sound : Sound x (Built S) E) where
    -- what a formula gives, its node gives, where that gives anything
    kid_gives : (n : NodeId) (f : Formula) (d : ℕ) (v : Value) → Shows x (Built S) E (term.Ref n) f
        → (o : GraphOutcome)
        → NodeGives x.functions x.graph n o → value_at x.meanings x.state d (values E) f ≡ Some (Val v)
        → NodeGives x.functions x.graph n (outcome.Val (graph_value x.nodes v))
    kid_gives n f d v shows o gives at =
        let p = term_agrees x fits (Built S) E (term.Ref n) f o shows sound gives in
        let same = one_outcome x.meanings x.state (values E) f p.0 (Val v) p.2 (d, at) in
        let is : o ≡ outcome.Val (graph_value x.nodes v) = p.1 ∙ ap (graph_outcome x.nodes) same in
        rw is at gives

    all_give : (kids : List NodeId) (fs : Formulas) (d : ℕ) (vs : List Value) → ShowsAll x (Built S) E (refs kids) fs
        → ((n : NodeId) → Among n kids → (o : GraphOutcome) × NodeGives x.functions x.graph n o)
        → gathered (each_of (value_at x.meanings x.state d (values E)) fs) ≡ Values vs
        → GiveAll x.functions x.graph kids (map (graph_value x.nodes) vs)
    all_give [] End d [] shows give e = tt
    all_give [] End d (v ∷ vs) shows give e = absurd (cc)
    all_give [] (More f fs) d vs shows give e = absurd shows
    all_give (n ∷ kids) End d vs shows give e = absurd shows
    all_give (n ∷ kids) (More f fs) d vs shows give e =
        go (value_at x.meanings x.state d (values E) f) refl
        (gathered (each_of (value_at x.meanings x.state d (values E)) fs)) refl vs e
        (λ us rest. all_give kids fs d us shows.1 (λ m among. give m (inr among)) rest)
      where
        go : (a : Option Outcome) → value_at x.meanings x.state d (values E) f ≡ a → (g : Gathered)
            → gathered (each_of (value_at x.meanings x.state d (values E)) fs) ≡ g → (vs : List Value)
            → joined a g ≡ Values vs
            → ((us : List Value) → gathered (each_of (value_at x.meanings x.state d (values E)) fs) ≡ Values us
            → GiveAll x.functions x.graph kids (map (graph_value x.nodes) us))
            → GiveAll x.functions x.graph (n ∷ kids) (map (graph_value x.nodes) vs)
        go None at g rest vs e more = absurd (cc)
        go (Some Invalid) at Unknown rest vs e more = absurd (cc)
        go (Some Invalid) at SomeInvalid rest vs e more = absurd (cc)
        go (Some Invalid) at (Values ws) rest vs e more = absurd (cc)
        go (Some (Val v)) at Unknown rest vs e more = absurd (cc)
        go (Some (Val v)) at SomeInvalid rest vs e more = absurd (cc)
        go (Some (Val v)) at (Values ws) rest [] e more = absurd (cc)
        go (Some (Val v)) at (Values ws) rest (u ∷ us) e more =
            let first : v ≡ u = cc in
            let others : ws ≡ us = cc in
            let o = give n (inl refl) in
            (kid_gives n f d u shows.0 o.0 o.1 (rw first at at), more us (rw others at rest))

module _ (x : Both) (fits : Fits x) (grabs : GrabsBind x.state) (observed : List NodeId) (have : RootsHave x observed)
    (out : Point → Option GraphOutcome)
    (exact : (p : Point) → GraphNeeded x.functions x.graph x.died observed p → Exact x.functions x.graph out p) where
  abbrev Y : Point → Type 0
  Y p = GraphNeeded x.functions x.graph x.died observed p

  many : (kids : List NodeId) (vs : List Value) → GiveAll x.functions x.graph kids (map (graph_value x.nodes) vs)
      → length kids ≡ length vs
  many kids vs give =
      sym (as_many x.functions x.graph kids (map (graph_value x.nodes) vs) give) ∙ length-map vs (graph_value x.nodes)

  -- the visit of a node, with the values and the cost of the script's
  abbrev visit_at : Visit → NodeId → work.Visit
  visit_at v n = record { node = n; values = map (graph_value x.nodes) v.values; cost = v.cost }

  -- a kid of a needed node gives an outcome
  kids_give : (n : NodeId) (r : Row) → x.graph.row n ≡ Some r → Y (main n) → (def : Def) → r.def ≡ def
      → (kids : List NodeId)
      → ((m : NodeId) → Among m kids → Among (main m) (fixed_reads x.graph n def Main))
      → (m : NodeId) → Among m kids → (o : GraphOutcome) × NodeGives x.functions x.graph m o
  kids_give n r row y def is kids reads m among =
      let stands = (exact (main n) y r row).0 in
      let need = needed_more x.functions x.graph x.died observed (main n) (main m) y
      (fixed row stands (rw is (reads m among))) in
      let seen = main_sees x.functions x.graph out m (exact (main m) need) in
      (seen.0, seen.2)

  main_among : (m : NodeId) (kids : List NodeId) → Among m kids → Among (main m) (map main kids)
  main_among m [] none = absurd none
  main_among m (n ∷ kids) (inl e) = inl (ap main e)
  main_among m (n ∷ kids) (inr later) = inr (main_among m kids later)

  place_visit : (owner : ℕ) (path : List Edge) (d : ℕ) (f : Formula) (n : NodeId) (v : Visit)
      → formula_at x.state owner path ≡ Some f
      → node_at x owner path ≡ Some n → Y (main n)
      → Among v (formula_visits x.state (Place owner path) (value_at x.meanings x.state d (environment path))
      (Some f))
      → work.IsVisit x.functions x.graph (visit_at v n)
  place_visit owner path d (Apply g fs) n v f_is at y among =
      go (place_shows x fits owner path n (Apply g fs) f_is at)
    where
      go : Shows x (Built (scope_at x owner path)) (around x owner path) (term.Ref n) (Apply g fs)
          → work.IsVisit x.functions x.graph (visit_at v n)
      go (ts, op, all) =
          let o = opened x.graph (scope_at x owner path) n (term.Map g ts) op in
          let kids = plain_map o.0.def g ts o.3 in
          let stands = (exact (main n) y o.0 o.1).0 in
          let sound = sound_at x fits owner path (Apply g fs) f_is (rw o.2 at stands) n at in
          let w = with_values x.state (Place owner path) _ _ v among in
          let shows = rw kids.2 at all in
          let give = kids_give n o.0 o.1 y (graph.Map g kids.0) kids.1 kids.0 (λ m in_. main_among m kids.0 in_) in
          let gathers : gathered (each_of (value_at x.meanings x.state d (values (around x owner path))) fs) ≡ Values
          v.values =
          rw (values_around x owner path) w.0 in
          let all_values =
          all_give x fits (scope_at x owner path) (around x owner path) sound kids.0 fs d v.values shows give gathers
          in
          record {
            row = o.0;
            is_row = o.1;
            stands = stands;
            values = rw kids.1 all_values;
            cost = rw
                (kids.1, w.1) refl;
          }
  place_visit owner path d (Fold g first fs) n v f_is at y among =
      go (place_shows x fits owner path n (Fold g first fs) f_is at)
    where
      go : Shows x (Built (scope_at x owner path)) (around x owner path) (term.Ref n) (Fold g first fs)
          → work.IsVisit x.functions x.graph (visit_at v n)
      go (ts, op, all) =
          let o = opened x.graph (scope_at x owner path) n (term.Fold g (graph_value x.nodes first) ts) op in
          let kids = plain_fold o.0.def g (graph_value x.nodes first) ts o.3 in
          let stands = (exact (main n) y o.0 o.1).0 in
          let sound = sound_at x fits owner path (Fold g first fs) f_is (rw o.2 at stands) n at in
          let w = with_values x.state (Place owner path) _ _ v among in
          let shows = rw kids.2 at all in
          let give = kids_give n o.0 o.1 y (graph.Fold g (graph_value x.nodes first) kids.0) kids.1 kids.0
          (λ m in_. main_among m kids.0 in_) in
          let gathers : gathered (each_of (value_at x.meanings x.state d (values (around x owner path))) fs) ≡ Values
          v.values =
          rw (values_around x owner path) w.0 in
          let all_values =
          all_give x fits (scope_at x owner path) (around x owner path) sound kids.0 fs d v.values shows
          give gathers in
          record {
            row = o.0;
            is_row = o.1;
            stands = stands;
            values = rw kids.1 all_values;
            cost = rw kids.1 (ap (λ k. Some k) (many kids.0 v.values all_values ∙ sym w.1));
          }
  place_visit owner path d f n v f_is at y among = absurd among

  top_sound : Sound x (Built None) []
  top_sound = (stands_none x, tt)

  name_visit : (k d : ℕ) (body : Body) (v : Visit) → body_at x.state k ≡ Some body
      → Declares x (x.nodes k) (Some body)
      → Y (main (x.nodes k)) → Among v (body_visits x.meanings x.state d (Named k) (Some body))
      → work.IsVisit x.functions x.graph (visit_at v (x.nodes k))
  name_visit k d (Freeze child p None) v is (kid, top, shows, frozen) y among =
      let w = with_values x.state (Named k) _ _ v among in
      let give = kids_give (x.nodes k) top.0 top.1 y (graph.Freeze kid p) top.3 (kid ∷ [])
      (λ m in_. rw frozen (main_among m (kid ∷ []) in_)) in
      let all_values = all_give x fits None [] top_sound (kid ∷ []) (More child End) d v.values (shows, tt) give w.0 in
      record {
        row = top.0;
        is_row = top.1;
        stands = (exact (main (x.nodes k)) y top.0 top.1).0;
        values = rw (top.3, frozen) all_values;
        cost = rw (top.3, frozen, w.1) refl;
      }
  name_visit k d (Expert g first links stale) v is (kids, top, lists) y among =
      let w = with_values x.state (Named k) _ _ v among in
      let give = kids_give (x.nodes k) top.0 top.1 y (graph.Expert g (graph_value x.nodes first) kids) top.3
      (map x.nodes links) (λ m in_. rw lists (main_among m (map x.nodes links) in_)) in
      let gathers : gathered (each_of (value_at x.meanings x.state d []) (names links)) ≡ Values v.values =
      rw (names_each (value_at x.meanings x.state d []) links) w.0 in
      let all_values = all_give x fits None [] top_sound (map x.nodes links) (names links) d v.values
      (links_show x fits links) give gathers in
      record {
        row = top.0;
        is_row = top.1;
        stands = (exact (main (x.nodes k)) y top.0 top.1).0;
        values = rw (top.3, lists) all_values;
        cost = rw (top.3, lists) (ap (λ k. Some k) (many (map x.nodes links) v.values all_values ∙ sym w.1));
      }
  name_visit k d body v is declares y among = absurd among

  visit : (v : Visit) (d : ℕ) (i : Item) → Needed x.meanings x.state i → Among v (visits_at x.meanings x.state d i)
      → (n : NodeId) × (node_of x i ≡ Some n) × Y (main n) × work.IsVisit x.functions x.graph (visit_at v n)
  visit v d (Named k) needed among =
      let y = needed_has_points x fits grabs x.died (λ n b e. e) out observed have exact (Named k) needed in
      (x.nodes k, refl, y, go (body_at x.state k) refl among)
    where
      go : (b : Option Body) → body_at x.state k ≡ b → Among v (body_visits x.meanings x.state d (Named k) b)
          → work.IsVisit x.functions x.graph (visit_at v (x.nodes k))
      go None is none = absurd none
      go (Some b) is among =
          name_visit k d b v is (rw is at (fits.declared k))
          (needed_has_points x fits grabs x.died (λ n b e. e) out observed have exact (Named k) needed) among
  visit v d (Place owner path) needed among =
      let has = (needed_has_points x fits grabs x.died (λ n b e. e) out observed have exact
      (Place owner path) needed).0 in
      (has.0, has.1, has.2, go (formula_at x.state owner path) refl has.0 has.1 has.2 among)
    where
      go : (f : Option Formula) → formula_at x.state owner path ≡ f → (n : NodeId) → node_at x owner path ≡ Some n
          → Y (main n)
          → Among v (formula_visits x.state (Place owner path) (value_at x.meanings x.state d (environment path)) f)
          → work.IsVisit x.functions x.graph (visit_at v n)
      go None is n at y none = absurd none
      go (Some f) is n at y among = place_visit owner path d f n v is at y among

pub visits_have_nodes : VisitsHaveNodes
visits_have_nodes x fits grabs observed have out exact v is needed =
    visit x fits grabs observed have out exact v is.0 v.item needed is.1
