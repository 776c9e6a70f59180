-- A node that isn't needed is dropped.
use Rattle.std.proofs.Common.{◌≡◌, ◌≢◌, ◌⊎◌, inl, inr, ℕ, ℤ, ◌+◌, ◌^◌, ◌<◌, ◌≤◌, Option, None, Some, IsSome, refl, sym, ap, subst, ◌∙◌, arith, Vec, Global}
use Rattle.std.specs.Prelude.{is_some, vec_capacity}
use Rattle.std.proofs.lemmas.Bool.{cases_lt}
use Rattle.std.proofs.lemmas.Option.{none-some}
use Rattle.inc_value.specs.declared.node.NodeId.{NodeId}
use Rattle.inc_value.specs.declared.node.Part.TheVariants.{Main}
use Rattle.inc_value.specs.declared.node.Point.{Point}
use Rattle.inc_value.specs.Choice.{Among, Every}
use Rattle.inc_terms.specs.Clock.{clock_value}
use Rattle.inc_terms.specs.Depend.{main, change}
use Rattle.inc_terms.specs.Graph.{Row}
use Rattle.inc_terms.specs.Within.{Given}
use Rattle.expert_nodes.specs.Experts.{Expert, ExpertChanges, expert_at, expert_in, kids_at, kids_of_expert}
use Rattle.point_map.specs.Rows.{Rows, at, Holds}
use Rattle.link_table.specs.Links.{Links, times, Reads}
use Rattle.necessary_graph.specs.Part.{Needed, IsInStep}
use Rattle.node_arena.specs.Arena as nodes
use Rattle.node_arena.specs.Arena.{Arena, live, row_at, IsLive}
use Rattle.node_arena.specs.Typing.{FoldTakes}
use Rattle.node_outcomes.specs.Computing.{has_part, is_expert}
use Rattle.node_outcomes.specs.Row.{cutoff_in, outcome_in}
use Rattle.stabilize_round.proofs.Points.{node_or_other}
use Rattle.stabilizer.specs.Between.{Stays, HasDropped, IsTakenBack}
use Rattle.node_arena.specs.Sound.{IsSoundArena, IsFirstSince}
use Rattle.node_outcomes.specs.Meaning.{Meaning}
use Rattle.wiring.specs.Kept.{IsKept, IsDead}
use Rattle.stabilizer.specs.Kept.{PartsKept}
use Rattle.stabilizer.specs.declared.parts.Parts.{Parts}
use Rattle.wiring.specs.Places.{ChangesNode}
use Rattle.map_nodes.specs.declared.cutoff.Cutoff.TheVariants.{Equal}
use Rattle.stabilizer.specs.Look.{cutoff_at}
use Rattle.stabilizer.specs.Round.{IsReady}
use Rattle.node_outcomes.specs.Progress.{Progress}
use Rattle.wiring.specs.declared.work.Work.{Work}
use Rattle.node_lists.specs.Listed.{Listed}
use Rattle.node_outcomes.specs.Choosing.{built_in}
use Rattle.stabilizer.proofs.Between.Staying.{ready_stays}
use Rattle.stabilizer.proofs.Between.Fitting.{dropped_fit}
use Rattle.timed_nodes.specs.Timed.{KeepsClock}
use Rattle.stabilizer.proofs.Between.Keeping.{carried, fit_still, parts_stay}
use Rattle.wiring.proofs.Deciding.{need_same}
use Rattle.stabilizer.proofs.Round.Alive.{fewer_live}
use Rattle.wiring.proofs.Linking.{some_or_none}
use Rattle.wiring.proofs.Placing.{at_node}
use Rattle.stabilizer.proofs.Between.Typing.{KeepsTypes, call_still, folds_still, listed_still, typed_still, right_still}
use Rattle.wiring.proofs.Reading.{read_still}
use Rattle.wiring.proofs.Holding.{right_as, died_same, ghost_same}
use Rattle.wiring.specs.Graph.{held_at}

module _ (before arena : Arena) (old work : Work) (id : NodeId) (kept : IsKept before old)
    (unneeded : (p : Point) → p.node ≡ id → Needed old.graph p → ⊥)
    (unscoped : (n b : NodeId) (r : Row) → row_at before n ≡ Some r → r.scope ≡ Some b → (n ≢ id) × (b ≢ id))
    (dropped : nodes.Changes before arena id None) (given : arena.given ≡ before.given)
    (rows : ChangesNode old.rows work.rows id (λ part. None)) (points : ChangesNode old.graph.heights work.graph.heights id (λ part. None))
    (rights : ChangesNode old.roots work.roots id (λ part. None))
    (links : work.graph.links ≡ old.graph.links) (roots : work.graph.roots ≡ old.graph.roots) (heap : work.graph.heap ≡ old.graph.heap)
    (step : IsInStep work.graph) (sound : IsSoundArena arena)
    (experts : ExpertChanges old.experts work.experts id None)
    (rest : work ≡ record old { graph = work.graph; rows = work.rows; roots = work.roots; experts = work.experts }) where
  deaths : work.deaths ≡ old.deaths
  deaths = ap (λ (x : Work). x.deaths) rest

  round : work.round ≡ old.round
  round = ap (λ (x : Work). x.round) rest

  need_before : (p : Point) → Needed work.graph p → Needed old.graph p
  need_before p n = need_same work.graph old.graph (sym links) (sym roots) p n

  needed_other : (p : Point) → Needed old.graph p → p.node ≢ id
  needed_other p n is = unneeded p is n

  -- what is left is of other nodes
  node_left : (n : NodeId) (r : Row) → row_at arena n ≡ Some r → n ≢ id
  node_left n r e is = none-some r (sym dropped.changed ∙ (ap (row_at arena) (sym is) ∙ e))

  gone : {A : Type 0} (m : Rows A) (p : Point) → p.node ≡ id → at m (record { node = id; part = p.part }) ≡ None → Holds m p → ⊥
  gone m p is none h = absurd (let e = sym h ∙ ap is_some (at_node m p id is ∙ none) in cc)

  row_left : (p : Point) → Holds work.rows p → p.node ≢ id
  row_left p h is = gone work.rows p is (rows.now p.part) h

  point_left : (p : Point) → Holds work.graph.heights p → p.node ≢ id
  point_left p h is = gone work.graph.heights p is (points.now p.part) h

  same_heap : (p : Point) → at work.graph.heap p ≡ at old.graph.heap p
  same_heap p = ap (λ (m : Rows ℕ). at m p) heap

  in_heap_needed : (p : Point) → Holds old.graph.heap p → Needed old.graph p
  in_heap_needed p h = elim (some_or_none (at old.graph.heap p)) [
    | inl k ↦ (kept.step.heap p k.0 k.1).1
    | inr none ↦ absurd (let e = sym h ∙ ap is_some none in cc)
  ]

  row_before : (p : Point) → p.node ≢ id → Holds work.rows p → Holds old.rows p
  row_before p ne h = ap is_some (sym (rows.others p ne)) ∙ h

  row_stays : (p : Point) → p.node ≢ id → Holds old.rows p → Holds work.rows p
  row_stays p ne h = ap is_some (rows.others p ne) ∙ h

  point_before : (p : Point) → Holds work.graph.heights p → Holds old.graph.heights p
  point_before p h = ap is_some (sym (points.others p (point_left p h))) ∙ h

  was_row : (n : NodeId) (r : Row) → row_at arena n ≡ Some r → row_at before n ≡ Some r
  was_row n r e = sym (dropped.others n (node_left n r e)) ∙ e

  was_kept : (p : Point) (k : Progress) → p.node ≢ id → at work.rows p ≡ Some k → at old.rows p ≡ Some k
  was_kept p k ne is = sym (rows.others p ne) ∙ is

  row_now : (n : NodeId) (r : Row) → n ≢ id → row_at before n ≡ Some r → row_at arena n ≡ Some r
  row_now n r ne e = dropped.others n ne ∙ e

  root_left : (p : Point) → Holds work.roots p → p.node ≢ id
  root_left p h is = gone work.roots p is (rights.now p.part) h

  still_dead : (n b : NodeId) → IsDead before n b → IsDead arena n b
  still_dead n b d = record {
    gone = dead_now (node_or_other n id);
    given = rw given d.given;
    scope_given = rw given d.scope_given;
    scope_two = λ r e. d.scope_two r (was_row b r e);
  }
    where
      dead_now : (n ≡ id) ⊎ (n ≢ id) → row_at arena n ≡ None
      dead_now (inl is) = ap (row_at arena) is ∙ dropped.changed
      dead_now (inr ne) = dropped.others n ne ∙ d.gone

  types : KeepsTypes before arena
  types n r had e = (r, was_row n r e, refl)

  -- another node is built as it was
  built_as : (n : NodeId) → n ≢ id → (held_at arena work).built n ≡ (held_at before old).built n
  built_as n ne = ap (λ (x : Option Row). built_in x (outcome_in (at work.rows (change n))) (at work.roots (change n))) (dropped.others n ne)
      ∙ (ap (λ (x : Option Progress). built_in (row_at before n) (outcome_in x) (at work.roots (change n))) (rows.others (change n) ne)
      ∙ ap (built_in (row_at before n) (outcome_in (at old.rows (change n)))) (rights.others (change n) ne))

  -- no more nodes live
  pub no_more_live : live arena ≤ live before
  no_more_live = fewer_live before arena (λ n r e. ap is_some (was_row n r e))

  pub dropped_kept : IsKept arena work
  dropped_kept = record {
    step = step;
    rows = λ p. elim (node_or_other p.node id) [
      | inl is ↦ ap is_some (at_node work.rows p id is ∙ rows.now p.part)
          ∙ sym (ap (λ (x : Option Row). has_part x p.part) (ap (row_at arena) is ∙ dropped.changed))
      | inr ne ↦ ap is_some (rows.others p ne) ∙ (kept.rows p ∙ sym (ap (λ (x : Option Row). has_part x p.part) (dropped.others p.node ne)))
    ];
    leaves = λ p h. elim (kept.leaves p (point_before p h)) [
      | inl r ↦ inl (row_stays p (point_left p h) r)
      | inr d ↦ inr (dropped.others p.node (point_left p h) ∙ d.0, need_same old.graph work.graph links roots p d.1)
    ];
    there = λ p h. ap is_some (points.others p (row_left p h)) ∙ kept.there p (row_before p (row_left p h) h);
    given = λ p h. rw given (kept.given p (point_before p h));
    links = λ p q l. let l' : Reads old.graph.links p q = subst (λ (x : Links). Reads x p q) links l in
        elim (kept.links p q l') [
          | inl r ↦ inl (row_stays p (needed_other p (kept.step.readers p q l')) r)
          | inr ghost ↦ inr (ghost_same old work deaths p q ghost)
        ];
    heap = λ p h. let h' : Holds old.graph.heap p = ap is_some (sym (same_heap p)) ∙ h in
        row_stays p (needed_other p (in_heap_needed p h')) (kept.heap p h');
    sound = sound;
    dead = λ n b d. still_dead n b (kept.dead n b (sym (died_same old work deaths n) ∙ d));
    scopes = λ n r b e scope.
        let was = was_row n r e in
        let s = kept.scopes n r b was scope in (s.0, s.1, s.2, s.3, row_now b s.0 (unscoped n b r was scope).1 s.4, s.5);
    older = λ n b r e scope. kept.older n b r (was_row n r e) scope;
    outcomes = λ n r k v e is shows. typed_still before arena more types v r.ty
        (kept.outcomes n r k v (was_row n r e) (was_kept (main n) k (node_left n r e) is) shows);
    rights = λ n m r k o e is shows right. right_still before arena more types m r.ty
        (kept.rights n m r k o (was_row n r e) (was_kept (change n) k (node_left n r e) is) shows
        (right_as before arena old work n m r.def o (built_as n (node_left n r e)) right));
    roots = λ n h. let ne = root_left (change n) h in let v = kept.roots n (ap is_some (sym (rights.others (change n) ne)) ∙ h) in
        (v.0, ap outcome_in (rows.others (change n) ne) ∙ v.1);
    binds = λ n r e h. kept.binds n r (was_row n r e) (ap is_some (sym (rights.others (change n) (root_left (change n) h))) ∙ h);
    calls = λ n r k c e is last. call_still before arena more types r.def r.ty c
        (kept.calls n r k c (was_row n r e) (was_kept (main n) k (node_left n r e) is) last);
    rounds = λ p k e. rw round (kept.rounds p k (was_kept p k (row_left p (ap is_some e)) e));
    pairs = λ n r e some. subst (λ (l : Listed). Among n l.nodes) (sym (ap (λ (x : Work). x.pairs) rest)) (kept.pairs n r (was_row n r e) some);
    scoped = λ n r e some. subst (λ (l : Listed). Among n l.nodes) (sym (ap (λ (x : Work). x.scoped) rest)) (kept.scoped n r (was_row n r e) some);
    experts = λ n. elim (node_or_other n id) [
      | inl is ↦ subst (λ (x : NodeId). is_some (expert_at work.experts x) ≡ is_expert (row_at arena x)) (sym is)
          (ap is_some experts.changed ∙ sym (ap is_expert dropped.changed))
      | inr ne ↦ ap is_some (experts.others n ne) ∙ (kept.experts n ∙ sym (ap is_expert (dropped.others n ne)))
    ];
    listed = λ n. elim (node_or_other n id) [
      | inl is ↦ subst (λ (x : Option Expert). Every (Given arena.given) (kids_of_expert (expert_in x)))
          (sym (ap (expert_at work.experts) is ∙ experts.changed)) tt
      | inr ne ↦ subst (λ (x : Option Expert). Every (Given arena.given) (kids_of_expert (expert_in x))) (sym (experts.others n ne))
          (listed_still before arena more types (kids_at old.experts n) (kept.listed n))
    ];
    lists = λ n r f v ns e is. subst (λ (x : Option Expert). FoldTakes arena r.ty (kids_of_expert (expert_in x)) f.sig.takes)
        (sym (experts.others n (node_left n r e)))
        (folds_still before arena more types r.ty (kids_at old.experts n) f.sig.takes (kept.listed n) (kept.lists n r f v ns (was_row n r e) is));
    tops = λ n r e top. kept.tops n r (was_row n r e) top;
    frozen = λ n k e on.
        let ne = row_left (main n) (ap is_some e) in
        let h = kept.frozen n k (was_kept (main n) k ne e) on in
        record { row = h.row; is_row = row_now n h.row ne h.is_row; is_freeze = h.is_freeze; value = h.value; last = h.last };
    rooms = record {
      calls = λ n r k e is. kept.rooms.calls n r k (was_row n r e) (was_kept (main n) k (node_left n r e) is);
      ran = subst (λ (l : Vec NodeId Global). live arena ≤ vec_capacity l) (sym (ap (λ (x : Work). x.ran) rest))
          (let room = kept.rooms.ran in let few = no_more_live in omega (arith, room, few));
    };
  }
    where
      more : before.given ≤ arena.given
      more = omega (arith, given)

  pub dropped_stays : Stays before arena old work
  dropped_stays = record {
    needed = need_before;
    clock = λ p r need row. inr (ap (λ (t : ℤ). clock_value t r.def) dropped.time);
    lists = λ p n. inl (record {
      links = λ q. ap (λ (x : Links). times x p q) links;
      expert = experts.others p.node (needed_other p (need_before p n));
      listed = λ a. subst (Among p) (sym (ap (λ (x : Work). x.todo.items) rest)) a;
    });
    heap = λ p n h. ap is_some (same_heap p) ∙ h;
    rows = λ p n. rows.others p (needed_other p (need_before p n));
    nodes = λ p r need e. inl (was_row p.node r e);
    calls = λ n r ns k c e def is last. (was_row n r e, was_kept (main n) k (node_left n r e) is);
    runs = λ n s r o e def is. (was_row n r e, ap outcome_in (sym (rows.others (change n) (node_left n r e))) ∙ is);
    unsettled = λ p k e. inl (was_kept p k (row_left p (ap is_some e)) e);
    roots = λ n r e. rights.others (change n) (node_left n r e);
    outcomes = λ n was r there e. ap outcome_in (rows.others (change n) (node_left n r e));
    scoped = λ n b r e scope. record { row = r; is_row = row_now n r (unscoped n b r e scope).0 e; scope = scope; same = inl refl };
    entered = λ n b r e scope. (r, was_row n r e, scope);
    deaths = deaths;
    ran = ap (λ (x : Work). x.ran.items) rest;
    retries = ap (λ (x : Work). x.retries) rest;
    round = round;
  }

-- so parts are kept, and a round may begin with them
module _ (old new : Parts) (id : NodeId) (kept : PartsKept old) (unneeded : (p : Point) → p.node ≡ id → Needed old.work.graph p → ⊥)
    (unscoped : (n b : NodeId) (r : Row) → row_at old.arena n ≡ Some r → r.scope ≡ Some b → (n ≢ id) × (b ≢ id))
    (dropped : nodes.Changes old.arena new.arena id None) (given : new.arena.given ≡ old.arena.given)
    (rows : ChangesNode old.work.rows new.work.rows id (λ part. None))
    (points : ChangesNode old.work.graph.heights new.work.graph.heights id (λ part. None))
    (rights : ChangesNode old.work.roots new.work.roots id (λ part. None))
    (links : new.work.graph.links ≡ old.work.graph.links) (roots : new.work.graph.roots ≡ old.work.graph.roots)
    (heap : new.work.graph.heap ≡ old.work.graph.heap) (step : IsInStep new.work.graph) (sound : IsSoundArena new.arena)
    (experts : ExpertChanges old.work.experts new.work.experts id None)
    (rest : new.work ≡ record old.work { graph = new.work.graph; rows = new.work.rows; roots = new.work.roots; experts = new.work.experts })
    (scopes : new.scopes ≡ old.scopes) (dying : new.dying.items ≡ old.dying.items) (clock : KeepsClock new.arena new.timed) (ran : new.ran ≡ old.ran) where
  stays : Stays old.arena new.arena old.work new.work
  stays = dropped_stays old.arena new.arena old.work new.work id kept.work unneeded unscoped dropped given rows points rights links roots heap step
      sound experts rest

  pub dropped_parts : PartsKept new
  dropped_parts = parts_stay old new kept
      (dropped_kept old.arena new.arena old.work new.work id kept.work unneeded unscoped dropped given rows points rights links roots heap step
      sound experts rest) stays scopes dying clock (subst (λ (l : Vec NodeId Global). live new.arena ≤ vec_capacity l) (sym ran)
      (let room = kept.listing in
      let few = no_more_live old.arena new.arena old.work new.work id kept.work unneeded unscoped dropped given rows points rights links roots heap step
      sound experts rest in
      omega (arith, room, few)))

  pub dropped_ready : (M : Meaning) → IsReady M old → IsReady M new
  dropped_ready M ready = ready_stays M old new ready (dropped_fit M old.arena new.arena id ready.fit dropped given) dropped_parts stays

-- ---- all since a count

module _ (old mid new : Parts) (count : ℕ) (id : NodeId) (so_far : HasDropped old mid count) (since : count ≤ id.gen_)
    (dropped : nodes.Changes mid.arena new.arena id None) (given : new.arena.given ≡ mid.arena.given)
    (rows : ChangesNode mid.work.rows new.work.rows id (λ part. None)) (links : new.work.graph.links ≡ mid.work.graph.links)
    (roots : new.work.graph.roots ≡ mid.work.graph.roots) (heap : new.work.graph.heap ≡ mid.work.graph.heap)
    (rights : ChangesNode mid.work.roots new.work.roots id (λ part. None))
    (experts : (n : NodeId) → n ≢ id → expert_at new.work.experts n ≡ expert_at mid.work.experts n) (kept : PartsKept new)
    (ready : (M : Meaning) → IsReady M mid → IsReady M new) where
  younger : (n : NodeId) → n.gen_ < count → n ≢ id
  younger n h is = let e = ap (λ (x : NodeId). x.gen_) is in absurd (omega (arith, e, h, since))

  -- what is left lived before
  left : (n : NodeId) (r : Row) → row_at new.arena n ≡ Some r → row_at mid.arena n ≡ Some r
  left n r e = sym (dropped.others n (λ is. none-some r (sym dropped.changed ∙ (ap (row_at new.arena) (sym is) ∙ e)))) ∙ e

  pub dropped_more : HasDropped old new count
  dropped_more = record {
    older = λ n h. dropped.others n (younger n h) ∙ so_far.older n h;
    given = given ∙ so_far.given;
    time = dropped.time ∙ so_far.time;
    rows = λ p h. rows.others p (younger p.node h) ∙ so_far.rows p h;
    cutoffs = λ n h. ap cutoff_in (rows.others (main n) (younger n h) ∙ so_far.rows (main n) h);
    other_cutoffs = λ n. elim (node_or_other n id) [
      | inl is ↦ inr (subst (λ (x : NodeId). cutoff_at new.work x ≡ Equal) (sym is) (ap cutoff_in (rows.now Main)))
      | inr ne ↦ elim (so_far.other_cutoffs n) [
        | inl e ↦ inl (ap cutoff_in (rows.others (main n) ne) ∙ e)
        | inr e ↦ inr (ap cutoff_in (rows.others (main n) ne) ∙ e)
      ]
    ];
    links = links ∙ so_far.links;
    roots = roots ∙ so_far.roots;
    heap = heap ∙ so_far.heap;
    right_sides = λ n h. rights.others (change n) (younger n h) ∙ so_far.right_sides n h;
    experts = λ n h. experts n (younger n h) ∙ so_far.experts n h;
    unscoped = λ n b r e scope. so_far.unscoped n b r (left n r e) scope;
    kept = kept;
    ready = λ M r. ready M (so_far.ready M r);
  }

-- who is dropped next stands in no scope, and no node stands in its
pub apart_since : (old mid : Parts) (count : ℕ) (id : NodeId) → HasDropped old mid count → count ≤ id.gen_ → (n b : NodeId) (r : Row)
    → row_at mid.arena n ≡ Some r → r.scope ≡ Some b → (n ≢ id) × (b ≢ id)
apart_since old mid count id so_far since n b r e scope = let u = so_far.unscoped n b r e scope in (other n u.0, other b u.1)
  where
    other : (m : NodeId) → m.gen_ < count → m ≢ id
    other m h is = let f = ap (λ (x : NodeId). x.gen_) is in absurd (omega (arith, f, h, since))

-- no live node was given since the count and before the next
pub record AreWalked (a : Arena) (count next : ℕ) : Type 0 where
  pub low : count ≤ next
  pub later : (n : NodeId) → IsLive a n → count ≤ n.gen_ → next ≤ n.gen_

module _ (a : Arena) (count next : ℕ) (walked : AreWalked a count next) where
  -- the first one since the next is dropped
  pub walk_goes_on : (new : Arena) (id : NodeId) → IsSoundArena a → IsFirstSince a next id → nodes.Changes a new id None
      → AreWalked new count (id.gen_ + 1)
  walk_goes_on new id sound first dropped = record {
    low = let s = first.since in let l = walked.low in omega (arith, s, l);
    later = λ n live since.
        let other : n ≢ id = λ is. let e = subst IsSome (ap (row_at new) is ∙ dropped.changed) live in absurd (cc) in
        let was : IsLive a n = subst IsSome (dropped.others n other) live in
        let least = first.first n was (walked.later n was since) in
        let apart : id.gen_ ≢ n.gen_ = λ e. other (sym (sound.generations id n first.live was e)) in
        omega (arith, least, apart);
  }

  -- where none is left since the next, none is since the count
  pub walk_ends : ((n : NodeId) → IsLive a n → n.gen_ < next) → (n : NodeId) → IsLive a n → n.gen_ < count
  walk_ends none n live = elim (cases_lt n.gen_ count) [
    | inl before ↦ before
    | inr since ↦ absurd (let l = walked.later n live since in let h = none n live in omega (arith, l, h))
  ]

  pub walk_leaves_none : ((n : NodeId) → IsLive a n → n.gen_ < next) → (n : NodeId) → count ≤ n.gen_ → row_at a n ≡ None
  walk_leaves_none none n since = elim (some_or_none (row_at a n)) [
    | inl r ↦ absurd (let h = walk_ends none n (ap is_some r.1) in omega (arith, h, since))
    | inr gone ↦ gone
  ]

-- a live node's number isn't the last
pub next_fits : (a : Arena) (id : NodeId) → IsSoundArena a → IsLive a id → id.gen_ + 1 < 2 ^ 64
next_fits a id sound live = let g = sound.given id live in let f = sound.count in omega (arith, g, f)

-- ---- nodes since a count are listed no more

module _ (old left : Parts) (count : ℕ) (so : HasDropped old left count) (ran : left.ran ≡ old.ran) (pairs' scoped' : Listed)
    (none : (n : NodeId) → count ≤ n.gen_ → row_at left.arena n ≡ None)
    (no_pair : (n : NodeId) → Among n pairs'.nodes → n.gen_ < count) (no_scoped : (n : NodeId) → Among n scoped'.nodes → n.gen_ < count)
    (pairs : (n : NodeId) (r : Row) → row_at left.arena n ≡ Some r → Among n left.work.pairs.nodes → Among n pairs'.nodes)
    (scoped : (n : NodeId) (r : Row) → row_at left.arena n ≡ Some r → Among n left.work.scoped.nodes → Among n scoped'.nodes) where
  abbrev work : Work
  work = record left.work { pairs = pairs'; scoped = scoped' }

  abbrev parts : Parts
  parts = record left { work = work }

  forgotten_kept : IsKept left.arena work
  forgotten_kept = carried left.arena left.work work so.kept.work (record {
    step = so.kept.work.step;
    same = λ p. refl;
    there = λ p row h. h;
    opened = λ p h. h;
    leaves = λ p h none need. need;
    links = λ p q l. l;
    heap = so.kept.work.heap;
    fit = fit_still left.arena left.work work so.kept.work (λ p. refl) refl;
    held = refl;
    chosen = λ p h. refl;
    roots = refl;
    deaths = refl;
    pairs = pairs;
    scoped = scoped;
    experts = read_still left.work.experts;
    ran = omega arith;
  })

  forgotten_stays : Stays left.arena left.arena left.work work
  forgotten_stays = record {
    needed = λ p n. n;
    clock = λ p r need row. inr refl;
    lists = λ p n. inl (record { links = λ q. refl; expert = refl; listed = λ a. a });
    heap = λ p n h. h;
    rows = λ p n. refl;
    nodes = λ p r need e. inl e;
    calls = λ n r ns k c e def is last. (e, is);
    runs = λ n s r o e def is. (e, is);
    unsettled = λ p k e. inl e;
    roots = λ n r e. refl;
    outcomes = λ n was r there e. refl;
    scoped = λ n b r e scope. record { row = r; is_row = e; scope = scope; same = inl refl };
    entered = λ n b r e scope. (r, e, scope);
    deaths = refl;
    ran = refl;
    retries = refl;
    round = refl;
  }

  parts_kept : PartsKept parts
  parts_kept = parts_stay left parts so.kept forgotten_kept forgotten_stays refl refl so.kept.clock so.kept.listing

  pub taken_back : IsTakenBack old parts count
  taken_back =
      let ready : (M : Meaning) → IsReady M old → IsReady M parts = (λ M h.
      let r = so.ready M h in ready_stays M left parts r r.fit parts_kept forgotten_stays) in
      assumption (none, no_pair, no_scoped, ran, parts_kept, ready, so)
