-- A point goes back to a lower stage: what is kept.
use Rattle.std.proofs.Common.{◌≡◌, ◌⊎◌, inl, inr, ℕ, ◌≤◌, true, false, not, Option, None, Some, refl, sym, ap, subst, ◌∙◌, arith}
use Rattle.std.specs.Prelude.{is_some, option_map}
use Rattle.std.proofs.lemmas.Option.{none-some, same_Some}
use Rattle.inc_value.specs.declared.node.NodeId.{NodeId}
use Rattle.inc_value.specs.declared.node.Point.{Point}
use Rattle.inc_value.specs.declared.outcome.Outcome.{Outcome}
use Rattle.inc_value.specs.Choice.{Among}
use Rattle.inc_terms.specs.Depend.{main, change}
use Rattle.inc_terms.specs.Graph.{Graph}
use Rattle.inc_terms.specs.Plan.{targets}
use Rattle.point_map.specs.Rows.{Rows, at, Holds}
use Rattle.link_table.specs.Links.{Links, times}
use Rattle.necessity.specs.Need.{Roots, root_times, KeepsRoots}
use Rattle.necessary_graph.specs.Part.{NecessaryPart, Needed, IsInStep}
use Rattle.necessary_graph.specs.Sweep.{Sweep, DropsLeaves}
use Rattle.necessary_graph.proofs.Reaching.{needed_more}
use Rattle.node_arena.specs.Arena.{Arena, row_at}
use Rattle.stabilize_round.proofs.Parts.{bool_cases}
use Rattle.stabilize_round.proofs.Points.{same_or_other}
use Rattle.node_outcomes.specs.Row.{IsRewritten, with_stage, settled_in, stage_in, outcome_in}
use Rattle.node_outcomes.specs.Progress.{Progress}
use Rattle.node_outcomes.specs.declared.row.Stage.{Stage}
use Rattle.node_outcomes.specs.declared.row.Stage.TheVariants as code
use Rattle.wiring.specs.Graph.{graph_at, rowless}
use Rattle.wiring.specs.Kept.{IsKept}
use Rattle.wiring.specs.TakingOff.{LosesLinks}
use Rattle.wiring.specs.Wiring.{KeepsGraph, KeepsRound, KeepsPlaces, IsMarked, IsEnqueued, OnlyLoses, HasMore, IsBehindGate, IsConfirmedAt}
use Rattle.wiring.specs.declared.work.Work.{Work}
use Rattle.wiring.proofs.Deciding.{need_same}
use Rattle.wiring.proofs.Staying.{KeepsMost, most_staged, most_settled, most_outcome, most_graph, most_kept, rest_lists, rest_round}

-- the point goes back to a lower stage: the point for which it waits then comes into the heap, and so does it, unless it was settled; links of its own come
-- off, and what is no longer reached loses all
pub record IsLowered (old new : Work) (p waited : Point) (to : Stage) (links : Links) : Type 0 where
  pub rows : IsRewritten old.rows new.rows p (with_stage to)
  pub mid : NecessaryPart
  pub graph : KeepsGraph old.graph mid
  pub heap_kept : (a : Point) → Holds old.graph.heap a → Holds mid.heap a
  pub heap_new : (a : Point) → Holds mid.heap a → Holds old.graph.heap a
      ⊎ ((a ≡ waited) × Needed old.graph waited) ⊎ ((a ≡ p) × (settled_in old.round (at old.rows p) ≡ false))
  pub waits : Needed old.graph waited → Holds mid.heap waited
  pub told : Holds mid.heap p ⊎ (settled_in old.round (at old.rows p) ≡ true)
  pub fewer : (b : Point) → times links p b ≤ times old.graph.links p b
  pub others : (a b : Point) → (p ≡ a → ⊥) → times links a b ≡ times old.graph.links a b
  pub sweep : Sweep (record mid { links = links }) new.graph
  pub drops : DropsLeaves (rowless new) mid new.graph
  pub step : IsInStep new.graph
  pub rest : new ≡ record old { graph = new.graph; rows = new.rows }

-- what is in the heap is needed
pub heap_needed : (g : NecessaryPart) → IsInStep g → (a : Point) → Holds g.heap a → Needed g a
heap_needed g in_step a h = by (at g.heap a) refl h
  where
    by : (x : Option ℕ) → at g.heap a ≡ x → is_some x ≡ true → Needed g a
    by None e h = absurd (cc)
    by (Some y) e h = (in_step.heap a y e).1

-- so the code does it: the one that it waits for comes into the heap, then the point itself, then its row changes, and then its links come off
module _ (old first mid new : Work) (p waited : Point) (to : Stage) (step_old : IsInStep old.graph) (marked : IsMarked old.graph first.graph waited)
    (first_rest : first ≡ record old { graph = first.graph }) (enqueued : IsEnqueued first mid p) (mid_rest : mid ≡ record first { graph = mid.graph })
    (rows : IsRewritten first.rows new.rows p (with_stage to)) (rest : new ≡ record mid { graph = new.graph; rows = new.rows }) where
  settled_first : settled_in first.round (at first.rows p) ≡ settled_in old.round (at old.rows p)
  settled_first = ap (λ (w : Work). settled_in w.round (at w.rows p)) first_rest

  into_first : (a : Point) → Holds old.graph.heap a → Holds first.graph.heap a
  into_first a h = elim (same_or_other waited a) [
    | inl e ↦ subst (λ (x : Point). Holds first.graph.heap x) e
        (marked.told (heap_needed old.graph step_old waited (subst (λ (x : Point). Holds old.graph.heap x) (sym e) h)))
    | inr ne ↦ ap is_some (marked.others a (λ e. ne (sym e))) ∙ h
  ]

  from_first : (a : Point) → Holds first.graph.heap a → Holds old.graph.heap a ⊎ ((a ≡ waited) × Needed old.graph waited)
  from_first a h = elim (same_or_other waited a) [
    | inl e ↦ elim (marked.only (subst (λ (x : Point). Holds first.graph.heap x) (sym e) h)) [
      | inl was ↦ inl (subst (λ (x : Point). Holds old.graph.heap x) e was)
      | inr need ↦ inr (sym e, need)
    ]
    | inr ne ↦ inl (sym (ap is_some (marked.others a (λ e. ne (sym e)))) ∙ h)
  ]

  into_mid : (a : Point) → Holds first.graph.heap a → Holds mid.graph.heap a
  into_mid a h = elim (same_or_other p a) [
    | inl e ↦ subst (λ (x : Point). Holds mid.graph.heap x) e (enqueued.kept (subst (λ (x : Point). Holds first.graph.heap x) (sym e) h))
    | inr ne ↦ ap is_some (enqueued.others a (λ e. ne (sym e))) ∙ h
  ]

  from_mid : (a : Point) → Holds mid.graph.heap a → Holds old.graph.heap a
      ⊎ ((a ≡ waited) × Needed old.graph waited) ⊎ ((a ≡ p) × (settled_in old.round (at old.rows p) ≡ false))
  from_mid a h = elim (same_or_other p a) [
    | inl e ↦ elim (enqueued.only (subst (λ (x : Point). Holds mid.graph.heap x) (sym e) h)) [
      | inl was ↦ in_first a (subst (λ (x : Point). Holds first.graph.heap x) e was)
      | inr f ↦ inr (inr (sym e, sym settled_first ∙ f))
    ]
    | inr ne ↦ in_first a (sym (ap is_some (enqueued.others a (λ e. ne (sym e)))) ∙ h)
  ]
    where
      in_first : (a : Point) → Holds first.graph.heap a → Holds old.graph.heap a
          ⊎ ((a ≡ waited) × Needed old.graph waited) ⊎ ((a ≡ p) × (settled_in old.round (at old.rows p) ≡ false))
      in_first a h = elim (from_first a h) [ inl was ↦ inl was | inr new_one ↦ inr (inl new_one) ]

  links_mid : mid.graph.links ≡ old.graph.links
  links_mid = enqueued.graph.links ∙ marked.graph.links

  pub lowered : (links : Links) → ((b : Point) → times links p b ≤ times mid.graph.links p b)
      → ((a b : Point) → (p ≡ a → ⊥) → times links a b ≡ times mid.graph.links a b) → Sweep (record mid.graph { links = links }) new.graph
      → DropsLeaves (rowless new) mid.graph new.graph → IsInStep new.graph → IsLowered old new p waited to links
  lowered links fewer others sweep drops step_new = record {
    rows = subst (λ (x : Rows Progress). IsRewritten x new.rows p (with_stage to)) (ap (λ (w : Work). w.rows) first_rest) rows;
    mid = mid.graph;
    graph = record {
      links = links_mid;
      roots = enqueued.graph.roots ∙ marked.graph.roots;
      heights = enqueued.graph.heights ∙ marked.graph.heights;
    };
    heap_kept = λ a h. into_mid a (into_first a h);
    heap_new = from_mid;
    waits = λ need. into_mid waited (marked.told need);
    told = elim enqueued.told [ inl h ↦ inl h | inr f ↦ inr (sym settled_first ∙ f) ];
    fewer = λ b. let f = fewer b in let l = ap (λ (x : Links). times x p b) links_mid in omega (arith, f, l);
    others = λ a b ne. others a b ne ∙ ap (λ (x : Links). times x a b) links_mid;
    sweep = sweep;
    drops = drops;
    step = step_new;
    rest = rest ∙ (ap (λ (w : Work). record w { graph = new.graph; rows = new.rows }) mid_rest
        ∙ ap (λ (w : Work). record w { graph = new.graph; rows = new.rows }) first_rest);
  }

  -- where no link comes off
  pub lowered_alone : new.graph ≡ mid.graph → IsInStep new.graph → IsLowered old new p waited to mid.graph.links
  lowered_alone same step_new = lowered mid.graph.links (λ b. omega arith) (λ a b ne. refl)
      (subst (λ (g : NecessaryPart). Sweep mid.graph g) (sym same) (swept_none mid.graph (subst IsInStep same step_new)))
      (subst (λ (g : NecessaryPart). DropsLeaves (rowless new) mid.graph g) (sym same)
      (record { heights = λ a. inl refl; leaves = λ a leaf need. inl need }))
      step_new
    where
      swept_none : (g : NecessaryPart) → IsInStep g → Sweep g g
      swept_none g in_step = record {
        roots = λ a. refl;
        reached = λ a. (λ n. n, λ n. n);
        kept = λ a b n. refl;
        gone = in_step.readers;
        fewer = λ a b. omega arith;
        heap_kept = λ a n. refl;
        heap = λ a h e. (e, (in_step.heap a h e).1);
      }

-- ---- what is kept

stage_mapped : (to : Stage) (x : Option Progress) (other : Stage) → stage_in (option_map (with_stage to) x) ≡ Some other → to ≡ other
stage_mapped to None other e = absurd (none-some other e)
stage_mapped to (Some k) other e = same_Some to other e

module _ (arena : Arena) (old new : Work) (p waited : Point) (to : Stage) (links : Links) (l : IsLowered old new p waited to links) where
  lowered_round : KeepsRound old new
  lowered_round = rest_round old new l.rest

  pub lowered_most : KeepsMost old new
  lowered_most = most_staged old new p to l.rows (rest_lists old new l.rest) lowered_round

  pub settled_same : (a : Point) → settled_in new.round (at new.rows a) ≡ settled_in old.round (at old.rows a)
  settled_same = most_settled old new lowered_most

  pub outcome_same : (a : Point) → outcome_in (at new.rows a) ≡ outcome_in (at old.rows a)
  outcome_same = most_outcome old new lowered_most

  pub graph_same : graph_at arena new ≡ graph_at arena old
  graph_same = most_graph old new lowered_most arena

  -- ---- links and need

  less_links : (a b : Point) → times links a b ≤ times old.graph.links a b
  less_links a b = elim (same_or_other p a) [
    | inl e ↦ subst (λ (x : Point). times links x b ≤ times old.graph.links x b) e (l.fewer b)
    | inr ne ↦ let o = l.others a b ne in omega (arith, o)
  ]

  pub fewer_links : (a b : Point) → times new.graph.links a b ≤ times old.graph.links a b
  fewer_links a b = let f = l.sweep.fewer a b in let m = less_links a b in omega (arith, f, m)

  pub same_roots : KeepsRoots old.graph.roots new.graph.roots
  same_roots a = l.sweep.roots a ∙ ap (λ (r : Roots). root_times r a) l.graph.roots

  pub need_before : (a : Point) → Needed new.graph a → Needed old.graph a
  need_before a n = needed_more new.graph old.graph (λ x r. let e = same_roots x in omega (arith, e, r))
      (λ x y r. let f = fewer_links x y in omega (arith, f, r)) a n

  need_mid : (a : Point) → Needed old.graph a → Needed l.mid a
  need_mid a n = need_same old.graph l.mid l.graph.links l.graph.roots a n

  lowered_loses : OnlyLoses old.graph new.graph
  lowered_loses = record {
    less = need_before;
    links = fewer_links;
    heap = λ a h n. ap is_some (l.sweep.heap_kept a ((l.sweep.reached a).0 n)) ∙ l.heap_kept a h;
  }

  pub lowered_places : KeepsPlaces old new
  lowered_places = record {
    rows = lowered_most.held;
    roots = same_roots;
    deaths = lowered_round.deaths;
    round = lowered_round.round;
    experts = lowered_most.experts;
  }

  -- ---- points that are there

  there_before : (a : Point) → Holds new.graph.heights a → Holds old.graph.heights a
  there_before a h = elim (l.drops.heights a) [
    | inl e ↦ sym (ap is_some (e ∙ ap (λ (m : Rows ℕ). at m a) l.graph.heights)) ∙ h
    | inr d ↦ absurd (let e : false ≡ true = sym (ap is_some d.gone) ∙ h in cc)
  ]

  there_still : (a : Point) → Holds old.rows a → Holds old.graph.heights a → Holds new.graph.heights a
  there_still a row h = elim (l.drops.heights a) [
    | inl e ↦ ap is_some (e ∙ ap (λ (m : Rows ℕ). at m a) l.graph.heights) ∙ h
    | inr d ↦ absurd (let e : true ≡ false = sym d.is_leaf ∙ ap not (lowered_most.held a ∙ row) in cc)
  ]

  -- what is needed still has its height
  pub height_same : (a : Point) → Needed new.graph a → at new.graph.heights a ≡ at old.graph.heights a
  height_same a n = elim (l.drops.heights a) [
    | inl e ↦ e ∙ ap (λ (m : Rows ℕ). at m a) l.graph.heights
    | inr d ↦ absurd (d.unneeded n)
  ]

  module _ (kept : IsKept arena old) (mine : Holds old.rows p) (other : Needed old.graph waited → Holds old.rows waited) where
    leaf_or_row : (a : Point) → Holds new.graph.heights a → Holds old.rows a ⊎ ((row_at arena a.node ≡ None) × Needed new.graph a)
    leaf_or_row a h = elim (bool_cases (is_some (at old.rows a))) [
      | inl row ↦ inl row
      | inr none ↦ elim (kept.leaves a (there_before a h)) [
        | inl row ↦ inl row
        | inr leaf ↦ elim (l.drops.leaves a (ap not (lowered_most.held a ∙ none)) (need_mid a leaf.1)) [
          | inl n ↦ inr (leaf.0, n)
          | inr gone ↦ absurd (let e : false ≡ true = sym (ap is_some gone) ∙ h in cc)
        ]
      ]
    ]

    heap_before : (a : Point) → Holds new.graph.heap a → Holds old.rows a
    heap_before a h = by_place (at new.graph.heap a) refl h
      where
        in_mid : Holds l.mid.heap a → Holds old.rows a
        in_mid h = elim (l.heap_new a h) [
          | inl was ↦ kept.heap a was
          | inr x ↦ elim x [
            | inl w ↦ subst (λ (y : Point). Holds old.rows y) (sym w.0) (other w.1)
            | inr m ↦ subst (λ (y : Point). Holds old.rows y) (sym m.0) mine
          ]
        ]

        by_place : (x : Option ℕ) → at new.graph.heap a ≡ x → is_some x ≡ true → Holds old.rows a
        by_place None e h = absurd (cc)
        by_place (Some y) e h = in_mid (ap is_some (l.sweep.heap a y e).0)

    pub lowered_kept : IsKept arena new
    lowered_kept = most_kept old new lowered_most arena kept (record {
      step = l.step;
      leaves = leaf_or_row;
      there = λ a h. there_still a h (kept.there a h);
      given = λ a h. kept.given a (there_before a h);
      links = λ a b r. kept.links a b (let f = fewer_links a b in omega (arith, r, f));
      heap = heap_before;
    })

    pub lowered_stays : LosesLinks arena old new
    lowered_stays = record { kept = lowered_kept; places = lowered_places; loses = lowered_loses; rest = l.rest }

  -- ---- what was confirmed

  -- a point that has all its links had them
  full_before : (to ≡ code.Full → ⊥) → (a : Point) → stage_in (at new.rows a) ≡ Some code.Full → stage_in (at old.rows a) ≡ Some code.Full
  full_before low a full = elim (same_or_other p a) [
    | inl e ↦ absurd (low (stage_mapped to (at old.rows p) code.Full (ap stage_in (sym l.rows.changed)
        ∙ subst (λ (x : Point). stage_in (at new.rows x) ≡ Some code.Full) (sym e) full)))
    | inr ne ↦ ap stage_in (sym (l.rows.others a (λ e. ne (sym e)))) ∙ full
  ]

  -- no more is to be confirmed by changes
  pub lowered_confirmed : (to ≡ code.Full → ⊥) → (n : NodeId) → IsConfirmedAt arena old n → IsConfirmedAt arena new n
  lowered_confirmed low n confirmed r a row need full among = settled_same (change n)
      ∙ confirmed r a row (need_before (main n) need) (full_before low (main n) full)
      (subst (λ (G : Graph). Among a (targets G n r.def (outcome_in (at old.rows (change n))))) graph_same
      (subst (λ (x : Option Outcome). Among a (targets (graph_at arena new) n r.def x)) (outcome_same (change n)) among))

  -- nor by gates
  pub lowered_behind : HasMore (stage_in (at old.rows p)) → (a : Point) → IsBehindGate arena old a → IsBehindGate arena new a
  lowered_behind more a behind r b row scope need now = settled_same (change b) ∙ behind r b row scope (need_before a need) had
    where
      had : HasMore (stage_in (at old.rows a))
      had = elim (same_or_other p a) [
        | inl e ↦ subst (λ (x : Point). HasMore (stage_in (at old.rows x))) e more
        | inr ne ↦ subst (λ (x : Option Progress). HasMore (stage_in x)) (l.rows.others a (λ e. ne (sym e))) now
      ]

heap_cases : (old : Work) (p waited q : Point)
    → Holds old.graph.heap q ⊎ ((q ≡ waited) × Needed old.graph waited) ⊎ ((q ≡ p) × (settled_in old.round (at old.rows p) ≡ false))
    → Holds old.graph.heap q ⊎ ((q ≡ p) ⊎ (q ≡ waited))
heap_cases old p waited q (inl h) = inl h
heap_cases old p waited q (inr (inl w)) = inr (inr w.0)
heap_cases old p waited q (inr (inr own)) = inr (inl own.0)

-- no other point comes into the heap
pub lowered_heap : (old new : Work) (p waited : Point) (to : Stage) (links : Links) → IsLowered old new p waited to links → (q : Point)
    → Holds new.graph.heap q → Holds old.graph.heap q ⊎ ((q ≡ p) ⊎ (q ≡ waited))
lowered_heap old new p waited to links back q h = by (at new.graph.heap q) refl h
  where
    by : (x : Option ℕ) → at new.graph.heap q ≡ x → is_some x ≡ true → Holds old.graph.heap q ⊎ ((q ≡ p) ⊎ (q ≡ waited))
    by None e is = absurd (cc)
    by (Some y) e is = heap_cases old p waited q (back.heap_new q (ap (λ (o : Option ℕ). is_some o) (back.sweep.heap q y e).0))
