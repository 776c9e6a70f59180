-- A main is computed and settled, and the state follows, or it is left as it was.
use Rattle.std.proofs.Common.{◌≡◌, ◌≢◌, ◌≤◌, ◌⊎◌, inl, inr, ℕ, true, Option, None, Some, refl, sym, ap, subst, ◌∙◌, arith, Vec, Global, zero, suc, ◌<◌, Bool, false, List, [], ◌∷◌}
use Rattle.std.specs.Prelude.{option_map, is_some, min, reverse, ◌==◌, vec_capacity}
use Rattle.std.proofs.lemmas.Option.{none-some, same_Some}
use Rattle.inc_value.specs.declared.node.NodeId.{NodeId}
use Rattle.inc_value.specs.declared.node.Part.TheVariants.{Main}
use Rattle.inc_value.specs.declared.node.Point.{Point}
use Rattle.inc_value.specs.declared.outcome.Outcome.{Outcome}
use Rattle.inc_value.specs.declared.outcome.Outcome.TheVariants.{Val, Invalid}
use Rattle.inc_terms.specs.Graph as graph
use Rattle.stabilize_round.specs.Counts.{last_count}
use Rattle.inc_terms.specs.Graph.{Row, Built, Def, Graph}
use Rattle.inc_terms.specs.Term.{Functions}
use Rattle.inc_terms.specs.Depend.{main, change}
use Rattle.map_nodes.specs.Cutoff.{IsStopped}
use Rattle.point_map.specs.Rows.{Rows, at, Holds, KeepsRows}
use Rattle.link_table.specs.Links.{Reads, Links, times}
use Rattle.height_order.specs.Levels.{level}
use Rattle.necessary_graph.specs.Part.{NecessaryPart, IsInStep, Needed}
use Rattle.node_arena.specs.Arena.{Arena, IsLive, row_at}
use Rattle.wiring.specs.Graph.{held_at, graph_at}
use Rattle.node_arena.specs.RightSide.{Tally}
use Rattle.stabilize_round.specs.Calling.{cost_at}
use Rattle.stabilize_round.specs.Moves.{calls_of, Enqueues, computed, ran_more}
use Rattle.node_outcomes.specs.Choosing.{built_by, built_in}
use Rattle.expert_nodes.specs.Experts.{ExpertPlace, SameExperts, SameLinks, Unmarks, is_stale_at}
use Rattle.node_outcomes.specs.Computing.{Computes, NotComputed, noted, KeepsTypes, has_part, ran_then}
use Rattle.wiring.specs.Kept.{IsKept}
use Rattle.node_outcomes.specs.Row.{IsRewritten, with_last, with_outcome, kept_in, settled_in, outcome_in, stage_in, stage_of}
use Rattle.stabilizer.specs.Settling.{IsSettled}
use Rattle.stabilizer.specs.Stepping.{MainIsSettled, MainIsLeft, IsOfBuilds}
use Rattle.wiring.specs.Stands.{Counts, MatchesState, counts_of}
use Rattle.wiring.specs.Wiring.{KeepsGraph, KeepsRound, KeepsLists, TellsReaders, Stops}
use Rattle.node_outcomes.specs.Progress.{Progress}
use Rattle.wiring.specs.declared.work.Work.{Work}
use Rattle.stabilizer.proofs.Step.Carrying.{kept_same, settled_kept}
use Rattle.stabilizer.proofs.Step.Experts.{frozen_rests, graph_seen, owes_staged}
use Rattle.std.proofs.lemmas.Grind.{common_steps}
use Rattle.std.proofs.lemmas.List.{reverse-append}
use Rattle.inc_value.specs.Choice.{Among}
use Rattle.necessity.specs.Need.{Roots, root_times}
use Rattle.stabilize_round.specs.State.{State, Call, Linked, at_point, at_node}
use Rattle.stabilize_round.proofs.Main.{main_change}
use Rattle.stabilize_round.proofs.Points.{same_or_other, at_same, at_other, node_or_other, node_same, node_other}
use Rattle.wiring.proofs.Holding.{died_same}

pub same_number : (n : ℕ) → (n == n) ≡ true
same_number n = grind (arith, common_steps)

ran_is : (made : ℕ) (n : NodeId) (ran : List NodeId) → ran_more n made (reverse ran) ≡ reverse (ran_then made ran n)
ran_is zero n ran = refl
ran_is (suc k) n ran = sym (reverse-append ran (n ∷ []))

-- so many calls, builds and nodes that were added
abbrev pub counted : ℕ → ℕ → ℕ → Counts
counted calls builds adds = record { calls = calls; builds = builds; adds = adds }

-- the calls are those that are counted then
counts_are : (s : State) (before after : Counts) → counts_of s ≡ before → IsOfBuilds before after → counted after.calls s.builds s.adds ≡ after
counts_are s before after same rest =
    ap (λ (x : ℕ). counted after.calls x s.adds) (ap (λ (c : Counts). c.builds) same ∙ sym rest.builds)
    ∙ ap (λ (x : ℕ). counted after.calls after.builds x) (ap (λ (c : Counts). c.adds) same ∙ sym rest.adds)

module _ (s : State) (arena : Arena) (old new : Work) (counts counts' : Counts) (n : NodeId) (o : Outcome) (last' : Option Call) (called : Bool)
    (st : MatchesState arena old counts None s) (more : IsOfBuilds counts counts') (w : IsSettled old new n o last' (calls_of called (cost_at (graph_at arena old) n)))
    (needs : (a : Point) → (Needed new.graph a → Needed old.graph a) × (Needed old.graph a → Needed new.graph a))
    (marks : Unmarks old.experts new.experts n)
    (flags : (m : NodeId) → kept_in (at new.rows (main m)) ≡ kept_in (at old.rows (main m))) where
  abbrev made : ℕ
  made = calls_of called (cost_at (graph_at arena old) n)

  abbrev heap' : Point → Bool
  heap' a = is_some (at new.graph.heap a)

  row_now : (k : Progress) → at new.rows (main n) ≡ Some k
      → record { stage = w.row.stage; settled = old.round; outcome = Some o; last = last'; cutoff = w.row.cutoff; frozen = w.row.frozen; room = w.row.room } ≡ k
  row_now k e = same_Some _ k (sym w.now ∙ e)

  row_other : (a : Point) (k : Progress) → (main n ≡ a → ⊥) → at new.rows a ≡ Some k → at old.rows a ≡ Some k
  row_other a k ne e = sym (w.others a (λ h. ne (sym h))) ∙ e

  stage_stays : (a : Point) → stage_in (at new.rows a) ≡ stage_in (at old.rows a)
  stage_stays a = elim (same_or_other (main n) a) [
    | inl h ↦ subst (λ (x : Point). stage_in (at new.rows x) ≡ stage_in (at old.rows x)) h (ap stage_in w.now ∙ sym (ap stage_in w.was))
    | inr ne ↦ ap stage_in (w.others a (λ h. ne (sym h)))
  ]

  pub settled_stands : MatchesState arena new counts' None (computed s n o heap' last' called counts'.calls)
  settled_stands = record {
    graph = st.graph ∙ sym (graph_seen arena old new (λ m. ap outcome_in (w.others (change m) (λ e. main_change n m (sym e)))) w.roots flags marks.links);
    out = λ a k e. elim (same_or_other (main n) a) [
      | inl h ↦ subst (λ (x : Point). at_point (main n) (Some o) s.out x ≡ k.outcome) h
          (at_same (main n) (Some o) s.out ∙ ap (λ (x : Progress). x.outcome) (row_now k (subst (λ (x : Point). at new.rows x ≡ Some k) (sym h) e)))
      | inr ne ↦ at_other (main n) (Some o) s.out a ne ∙ st.out a k (row_other a k ne e)
    ];
    last = λ m k e. elim (node_or_other n m) [
      | inl h ↦ subst (λ (x : NodeId). at_node n last' s.last x ≡ k.last) h
          (node_same n last' s.last ∙ ap (λ (x : Progress). x.last) (row_now k (subst (λ (x : NodeId). at new.rows (main x) ≡ Some k) (sym h) e)))
      | inr ne ↦ node_other n last' s.last m ne ∙ st.last m k (row_other (main m) k (λ h. ne (ap (λ (x : Point). x.node) h)) e)
    ];
    stale = λ m. elim (node_or_other n m) [
      | inl h ↦ subst (λ (x : NodeId). at_node n false s.stale x ≡ is_stale_at new.experts x) h (node_same n false s.stale ∙ sym marks.off)
      | inr ne ↦ node_other n false s.stale m ne ∙ (st.stale m ∙ sym (marks.others m (λ h. ne (sym h))))
    ];
    cutoff = λ m k e. elim (node_or_other n m) [
      | inl h ↦ subst (λ (x : NodeId). s.cutoff x ≡ k.cutoff) h
          (st.cutoff n w.row w.was ∙ ap (λ (x : Progress). x.cutoff) (row_now k (subst (λ (x : NodeId). at new.rows (main x) ≡ Some k) (sym h) e)))
      | inr ne ↦ st.cutoff m k (row_other (main m) k (λ h. ne (ap (λ (x : Point). x.node) h)) e)
    ];
    links = λ a b. st.links a b ∙ ap (λ (l : Links). times l a b) (sym w.graph.links);
    root = λ a. st.root a ∙ ap (λ (r : Roots). root_times r a) (sym w.graph.roots);
    needed = λ a. (λ t. (needs a).1 ((st.needed a).0 t), λ h. (st.needed a).1 ((needs a).0 h));
    height = λ a need. st.height a ((needs a).0 need) ∙ ap (λ (h : Rows ℕ). level h a) (sym w.graph.heights);
    heap = λ a. refl;
    settled = λ a. elim (same_or_other (main n) a) [
      | inl h ↦ subst (λ (x : Point). at_point (main n) true s.settled x ≡ settled_in new.round (at new.rows x)) h
          (at_same (main n) true s.settled ∙ sym (ap (settled_in new.round) w.now ∙ (ap (λ (r : ℕ). old.round == r) w.round ∙ same_number old.round)))
      | inr ne ↦ at_other (main n) true s.settled a ne ∙ (st.settled a ∙ sym (ap (λ (r : ℕ). settled_in r (at new.rows a)) w.round
          ∙ ap (settled_in old.round) (w.others a (λ h. ne (sym h)))))
    ];
    stage = λ a k e. elim (same_or_other (main n) a) [
      | inl h ↦ subst (λ (x : Point). s.stage x ≡ stage_of k.stage) h
          (st.stage (main n) w.row w.was ∙ ap (λ (x : Progress). stage_of x.stage) (row_now k (subst (λ (x : Point). at new.rows x ≡ Some k) (sym h) e)))
      | inr ne ↦ st.stage a k (row_other a k ne e)
    ];
    owed = λ a. st.owed a ∙ sym (owes_staged old new (s.needed a) a (stage_stays a) (marks.links.fresh a.node));
    todo = λ a t. subst (λ (xs : List Point). Among a xs ⊎ ⊥) (sym w.todo) (st.todo a t);
    retries = st.retries ∙ sym w.retries;
    died = λ m. st.died m ∙ sym (died_same old new w.deaths m);
    ran = ap (λ (G : Graph). ran_more n (calls_of called (cost_at G n)) s.ran) st.graph ∙ (ap (ran_more n made) st.ran
        ∙ (ran_is made n old.ran.items ∙ ap reverse (sym w.ran)));
    counts = counts_are s counts counts' st.counts more;
    given = st.given;
  }

  -- the readers that were told, in the machine's words
  pub settled_enqueues : (s.links (main n) (main n) ≡ 0)
      → Enqueues s (at_point (main n) false s.heap) heap' (λ (q : Point). Linked s q (main n))
      (λ (q : Point). Linked s q (main n) × (IsStopped (s.cutoff n) (s.out (main n)) o → ⊥))
  settled_enqueues no_loop = record {
    kept = λ a h. elim (same_or_other (main n) a) [
      | inl e ↦ absurd (let f = at_same (main n) false s.heap in
          let t : at_point (main n) false s.heap (main n) ≡ true = subst (λ (x : Point). at_point (main n) false s.heap x ≡ true) (sym e) h in cc)
      | inr ne ↦ w.kept a (λ k. ne (sym k)) (sym (st.heap a) ∙ (sym (at_other (main n) false s.heap a ne) ∙ h))
    ];
    new = λ a h. elim (same_or_other (main n) a) [
      | inl e ↦ absurd (let l = w.out (subst (λ (x : Point). heap' x ≡ true) (sym e) h) in let k = st.links (main n) (main n) in
          let z = no_loop in omega (arith, l, k, z))
      | inr ne ↦ elim (w.only a (λ k. ne (sym k)) h) [
        | inl k ↦ inl (at_other (main n) false s.heap a ne ∙ (st.heap a ∙ k))
        | inr k ↦ inr (linked_as a k.0, st.settled a ∙ k.1)
      ]
    ];
    told = λ a l. elim (w.told (must l.1) a (reads_as a l.0)) [
      | inl k ↦ inl k
      | inr k ↦ inr (st.settled a ∙ k)
    ];
  }
    where
      must : (IsStopped (s.cutoff n) (s.out (main n)) o → ⊥) → IsStopped w.row.cutoff w.row.outcome o → ⊥
      must told stopped = told (rw (st.cutoff n w.row w.was, st.out (main n) w.row w.was) stopped)

      linked_as : (a : Point) → Reads old.graph.links a (main n) → Linked s a (main n)
      linked_as a r = subst (λ (k : ℕ). 0 < k) (sym (st.links a (main n))) r

      reads_as : (a : Point) → Linked s a (main n) → Reads old.graph.links a (main n)
      reads_as a l = subst (λ (k : ℕ). 0 < k) (st.links a (main n)) l

-- of what a stabilize works on all stays but rows and the list of nodes whose functions were called
pub record KeepsRest (old new : Work) : Type 0 where
  pub graph : new.graph ≡ old.graph
  pub roots : new.roots ≡ old.roots
  pub todo : new.todo.items ≡ old.todo.items
  pub retries : new.retries ≡ old.retries
  pub round : new.round ≡ old.round
  pub deaths : new.deaths ≡ old.deaths
  pub lists : KeepsLists old new

module _ (F : Functions) (arena : Arena) (old mid new : Work) (n : NodeId) (p : Point) (same : p ≡ main n) (o : Outcome) (before after : Counts)
    (kept : IsKept arena old) (taken : at old.graph.heap (main n) ≡ None)
    (rest : KeepsRest old mid) (marks : Unmarks old.experts mid.experts n)
    (c : Computes F arena (held_at arena old) (is_stale_at old.experts) old.round (noted old.rows old.ran.items before.calls)
    (noted mid.rows mid.ran.items after.calls) n o) (more : IsOfBuilds before after)
    (rewritten : IsRewritten mid.rows new.rows p (with_outcome o mid.round)) (graph : KeepsGraph mid.graph new.graph)
    (tells : TellsReaders mid new p o) (round : KeepsRound mid new) (todo : new.todo ≡ mid.todo) where
  rows : IsRewritten mid.rows new.rows (main n) (with_outcome o mid.round)
  rows = subst (λ (x : Point). IsRewritten mid.rows new.rows x (with_outcome o mid.round)) same rewritten

  told : TellsReaders mid new (main n) o
  told = subst (λ (x : Point). TellsReaders mid new x o) same tells

  graph_is : mid.graph ≡ old.graph
  graph_is = rest.graph

  round_is : mid.round ≡ old.round
  round_is = rest.round

  was : at old.rows (main n) ≡ Some c.computed.kept
  was = c.computed.is_kept

  between : at mid.rows (main n) ≡ Some (with_last c.last c.computed.kept)
  between = c.row.changed ∙ ap (option_map (with_last c.last)) c.computed.is_kept

  now : at new.rows (main n) ≡ Some (with_outcome o mid.round (with_last c.last c.computed.kept))
  now = rows.changed ∙ ap (option_map (with_outcome o mid.round)) between

  others : (p : Point) → p ≢ main n → at new.rows p ≡ at old.rows p
  others p ne = rows.others p ne ∙ c.row.others p ne

  reads : (p : Point) → Reads mid.graph.links p (main n) → Reads old.graph.links p (main n)
  reads p r = subst (λ (g : NecessaryPart). Reads g.links p (main n)) graph_is r

  readers : (p : Point) → Reads old.graph.links p (main n) → Reads mid.graph.links p (main n)
  readers p r = subst (λ (g : NecessaryPart). Reads g.links p (main n)) (sym graph_is) r

  other : (p : Point) → Reads old.graph.links p (main n) → p ≢ main n
  other p r = λ e. absurd (let l = kept.step.rises p (main n) r in
      let h = ap (level old.graph.heights) e in omega (arith, l, h))

  settled_as : (p : Point) → p ≢ main n → settled_in new.round (at new.rows p) ≡ settled_in old.round (at old.rows p)
  settled_as p ne = ap (λ (m : ℕ). settled_in m (at new.rows p)) (round.round ∙ round_is) ∙ ap (settled_in old.round) (others p ne)

  before_in : (p : Point) → Holds mid.graph.heap p → Holds old.graph.heap p
  before_in p h = subst (λ (g : NecessaryPart). Holds g.heap p) graph_is h

  is_settled : IsSettled old new n o c.last (calls_of c.called (cost_at (graph_at arena old) n))
  is_settled = record {
    row = c.computed.kept;
    was = was;
    now = now ∙ ap (λ (m : ℕ). Some (record {
      stage = c.computed.kept.stage;
      settled = m;
      outcome = Some o;
      last = c.last;
      cutoff = c.computed.kept.cutoff;
      frozen = c.computed.kept.frozen;
      room = c.computed.kept.room;
    })) round_is;
    others = others;
    graph = record {
      links = graph.links ∙ ap (λ (g : NecessaryPart). g.links) graph_is;
      roots = graph.roots ∙ ap (λ (g : NecessaryPart). g.roots) graph_is;
      heights = graph.heights ∙ ap (λ (g : NecessaryPart). g.heights) graph_is;
    };
    kept = λ p ne h. told.kept p (subst (λ (g : NecessaryPart). Holds g.heap p) (sym graph_is) h);
    out = λ h. elim (told.only (main n) h) [
      | inl k ↦ absurd (let there = before_in (main n) k in let gone = taken in cc)
      | inr k ↦ reads (main n) k.0
    ];
    told = λ must p r. elim (told.told (λ s. unstopped must s) p (readers p r)) [
      | inl k ↦ inl k
      | inr k ↦ inr (sym (settled_as p (other p r)) ∙ k)
    ];
    only = λ p ne h. elim (told.only p h) [
      | inl k ↦ inl (before_in p k)
      | inr k ↦ inr (reads p k.0, sym (settled_as p ne) ∙ k.1)
    ];
    stops = λ stopped p ne h. before_in p (told.stops (with_last c.last c.computed.kept, between, stopped) p h);
    roots = round.roots ∙ rest.roots;
    deaths = round.deaths ∙ rest.deaths;
    ran = ap (λ (l : Vec NodeId Global). l.items) round.ran ∙ c.ran;
    todo = rw todo rest.todo;
    retries = round.retries ∙ rest.retries;
    round = round.round ∙ round_is;
  }
    where
      its : (s : Stops mid (main n) o) → with_last c.last c.computed.kept ≡ s.0
      its s = same_Some (with_last c.last c.computed.kept) s.0 (sym between ∙ s.1)

      unstopped : (IsStopped c.computed.kept.cutoff c.computed.kept.outcome o → ⊥) → Stops mid (main n) o → ⊥
      unstopped told s = told (subst (λ (x : Progress). IsStopped x.cutoff x.outcome o) (sym (its s)) s.2)

  marks_now : Unmarks old.experts new.experts n
  marks_now = subst (λ (e : List ExpertPlace). Unmarks old.experts e n) (sym round.experts) marks

  pub main_settled : vec_capacity old.ran ≤ vec_capacity new.ran → MainIsSettled F arena old new n before after
  main_settled room = record {
    outcome = o;
    last = c.last;
    called = c.called;
    computed = c.computed;
    marks = marks_now;
    settled = is_settled;
    count = c.count;
    room = room;
    rest = more;
  }

  pub main_kept : vec_capacity old.ran ≤ vec_capacity new.ran → IsInStep new.graph → new ≡ record mid { graph = new.graph; rows = new.rows }
      → IsKept arena new
  unfolding is_settled
  main_kept room step only = settled_kept arena old new n o c.last (calls_of c.called (cost_at (graph_at arena old) n)) kept is_settled step
      (record { pairs = ap (λ (w : Work). w.pairs) only ∙ rest.lists.pairs; scoped = ap (λ (w : Work). w.scoped) only ∙ rest.lists.scoped })
      marks_now.links
      (frozen_rests F arena old kept (is_stale_at old.experts) n c.computed.row c.computed.kept c.last c.called c.computed.is_row c.computed.is_kept
      c.computed.calls) c.typed c.answer_typed room

-- so it is where only those are others
pub only_noted : (work : Work) (places : Rows Progress) (experts : List ExpertPlace) (ran : Vec NodeId Global)
    → KeepsRest work (record work { rows = places; experts = experts; ran = ran })
only_noted work places experts ran = assumption

-- nothing more was built where the tally stays
pub one_tally : (a b : ℕ) (x y : Tally) → y ≡ x
    → IsOfBuilds (record { calls = a; builds = min x.builds last_count; adds = min x.adds last_count })
    (record { calls = b; builds = min y.builds last_count; adds = min y.adds last_count })
one_tally a b x y same = record { builds = ap (λ (t : Tally). min t.builds last_count) same; adds = ap (λ (t : Tally). min t.adds last_count) same }

-- ---- what stays where a main is left

pub left_kept : (arena : Arena) (old new : Work) → IsKept arena old → KeepsRows old.rows new.rows → new.graph ≡ old.graph → new.round ≡ old.round
    → new.roots ≡ old.roots → new.deaths ≡ old.deaths → KeepsLists old new → SameLinks old.experts new.experts → vec_capacity old.ran ≤ vec_capacity new.ran
    → IsKept arena new
left_kept arena old new kept rows graph round roots deaths lists links more = kept_same arena old new kept rows
    (record {
      links = ap (λ (g : NecessaryPart). g.links) graph;
      roots = ap (λ (g : NecessaryPart). g.roots) graph;
      heights = ap (λ (g : NecessaryPart). g.heights) graph;
    })
    (subst IsInStep (sym graph) kept.step)
    (λ p h. kept.heap p (subst (λ (g : NecessaryPart). Holds g.heap p) graph h)) round roots deaths lists links more

pub uncomputed_kept : (arena : Arena) (old mid : Work) (n : NodeId) (before after : ℕ) → IsKept arena old → KeepsRest old mid
    → SameExperts old.experts mid.experts
    → NotComputed (graph_at arena old) (is_stale_at old.experts) old.round (noted old.rows old.ran.items before) (noted mid.rows mid.ran.items after) n
    → vec_capacity old.ran ≤ vec_capacity mid.ran → IsKept arena mid
uncomputed_kept arena old mid n before after kept rest same c more =
    left_kept arena old mid kept c.rows rest.graph rest.round rest.roots rest.deaths rest.lists same.links more

-- the main is left as it was
pub main_left : (arena : Arena) (old mid : Work) (n : NodeId) (before after : Counts) → KeepsRest old mid
    → SameExperts old.experts mid.experts
    → NotComputed (graph_at arena old) (is_stale_at old.experts) old.round (noted old.rows old.ran.items before.calls)
    (noted mid.rows mid.ran.items after.calls) n
    → IsOfBuilds before after → MainIsLeft arena old mid n before after
main_left arena old mid n before after rest same c more = assumption (rest, same, c, more)

-- ---- what a main is computed from

-- what a node is built for is read off its change's outcome, and so is its root
built_of : (def : Def) (x : Option Outcome) (root : Option NodeId) (w : Built) → built_by def x root ≡ Some w → (x ≡ Some w.outcome) × (root ≡ w.root)
built_of (graph.Bind l f caps) None root w e = absurd (none-some w e)
built_of (graph.Bind l f caps) (Some o) root w e =
    (ap (λ (y : Built). Some y.outcome) (same_Some _ w e), ap (λ (y : Built). y.root) (same_Some _ w e))
built_of def x root w e = absurd (none-some w e)

built_at : (row : Option Row) (x : Option Outcome) (root : Option NodeId) (w : Built) → built_in row x root ≡ Some w
    → (x ≡ Some w.outcome) × (root ≡ w.root)
built_at None x root w e = absurd (none-some w e)
built_at (Some r) x root w e = built_of r.def x root w e

-- a bind that is built for Invalid has no root
rootless : (arena : Arena) (work : Work) → IsKept arena work → (n : NodeId) (w : Built) → (held_at arena work).built n ≡ Some w → w.outcome ≡ Invalid
    → w.root ≡ None
rootless arena work kept n w is invalid = by_root (at work.roots (change n)) refl
  where
    b : (outcome_in (at work.rows (change n)) ≡ Some w.outcome) × (at work.roots (change n) ≡ w.root)
    b = built_at (row_at arena n) (outcome_in (at work.rows (change n))) (at work.roots (change n)) w is

    by_root : (x : Option NodeId) → at work.roots (change n) ≡ x → w.root ≡ None
    by_root None e = sym b.1 ∙ e
    by_root (Some m) e = absurd (
        let v = kept.roots n (ap is_some e) in
        let one : Some (Val v.0) ≡ Some w.outcome = sym v.1 ∙ b.0 in
        let two : w.outcome ≡ Invalid = invalid in
        cc)

-- what is kept of points has the types that computing asks for
pub types_kept : (arena : Arena) (work : Work) → IsKept arena work → KeepsTypes arena (held_at arena work) work.rows
types_kept arena work kept =
    let no_root = rootless arena work kept in
    assumption (no_root, kept)

-- a node whose main has a row lives
pub main_lives : (arena : Arena) (work : Work) (n : NodeId) → IsKept arena work → Holds work.rows (main n) → IsLive arena n
main_lives arena work n kept there = by_row (row_at arena n) (sym (kept.rows (main n)) ∙ there)
  where
    by_row : (x : Option Row) → has_part x Main ≡ true → is_some x ≡ true
    by_row None e = absurd (cc)
    by_row (Some r) e = refl
