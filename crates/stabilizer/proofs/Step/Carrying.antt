-- What the parts keep stays so while a point is taken from the heap, settled, or put back.
use Rattle.std.proofs.Common.{◌≡◌, ◌≢◌, ◌⊎◌, inl, inr, ℕ, ◌≤◌, true, Option, None, Some, refl, sym, ap, subst, ◌∙◌, arith}
use Rattle.std.specs.Prelude.{is_some, vec_capacity}
use Rattle.inc_value.specs.declared.node.NodeId.{NodeId}
use Rattle.inc_value.specs.declared.node.Point.{Point}
use Rattle.inc_value.specs.declared.outcome.Outcome.{Outcome}
use Rattle.inc_value.specs.declared.outcome.Outcome.TheVariants.{Val}
use Rattle.inc_value.specs.declared.value.Value.{Value}
use Rattle.inc_terms.specs.Depend.{main, change, right_of}
use Rattle.inc_terms.specs.Graph.{Row}
use Rattle.expert_nodes.specs.Experts.{SameLinks}
use Rattle.point_map.specs.Rows.{Rows, at, Holds, Changes, KeepsRows}
use Rattle.point_map.proofs.Places.{point_cases}
use Rattle.link_table.specs.Links.{Links, Reads}
use Rattle.necessary_graph.specs.Part.{NecessaryPart, Needed, IsInStep}
use Rattle.necessary_graph.proofs.Standing.{has_level, put_in_step, taken_in_step}
use Rattle.height_order.specs.Levels.{level}
use Rattle.node_arena.specs.Arena.{Arena, row_at}
use Rattle.node_arena.specs.Graph.{Holdings, graph_of}
use Rattle.node_outcomes.specs.Computing.{CallFits, IsOfType}
use Rattle.node_outcomes.specs.Row.{kept_in, outcome_in}
use Rattle.node_outcomes.proofs.Held.{same_held}
use Rattle.stabilize_round.specs.State.{Call}
use Rattle.wiring.specs.Graph.{held_at}
use Rattle.wiring.specs.Kept.{HasFired, IsKept, IsGhostLink, FitsRoom}
use Rattle.stabilizer.specs.Settling.{IsSettled}
use Rattle.wiring.specs.Wiring.{KeepsGraph, KeepsLists}
use Rattle.node_outcomes.specs.Progress.{Progress}
use Rattle.wiring.specs.declared.work.Work.{Work}
use Rattle.wiring.proofs.Holding.{died_same, links_same, root_same, pairs_same, scoped_same}
use Rattle.std.proofs.lemmas.Option.{same_Some}
use Rattle.stabilizer.proofs.Step.Experts.{linked_alike, kids_same, still_experts, still_listed, still_lists, fired_still, flag_same}

-- what needs the same roots and links is needed alike
module _ (old new : NecessaryPart) (same : KeepsGraph old new) where
  pub needed_now : (p : Point) → Needed old p → Needed new p
  needed_now p n = rw (same.roots, same.links) n

  pub needed_before : (p : Point) → Needed new p → Needed old p
  needed_before p n = rw (same.roots, same.links) at n

-- the same points have rows, changes keep theirs, freezes what they keep and experts their lists, and roots, links and heights stay
module _ (arena : Arena) (old new : Work) (kept : IsKept arena old) (rows : (p : Point) → is_some (at new.rows p) ≡ is_some (at old.rows p))
    (same : KeepsGraph old.graph new.graph) (step : IsInStep new.graph) (heap : (p : Point) → Holds new.graph.heap p → Holds old.rows p)
    (outcomes : (n : NodeId) (r : Row) (k : Progress) (v : Value) → row_at arena n ≡ Some r → at new.rows (main n) ≡ Some k
    → k.outcome ≡ Some (Val v) → IsOfType arena v r.ty)
    (changes : (n : NodeId) → at new.rows (change n) ≡ at old.rows (change n)) (roots : new.roots ≡ old.roots) (deaths : new.deaths ≡ old.deaths)
    (calls : (n : NodeId) (r : Row) (k : Progress) (c : Call) → row_at arena n ≡ Some r → at new.rows (main n) ≡ Some k
    → k.last ≡ Some c → CallFits arena r.def r.ty c)
    (rounds : (p : Point) (k : Progress) → at new.rows p ≡ Some k → k.settled ≤ new.round) (lists : KeepsLists old new)
    (flags : (n : NodeId) → kept_in (at new.rows (main n)) ≡ kept_in (at old.rows (main n)))
    (frozen : (n : NodeId) (k : Progress) → at new.rows (main n) ≡ Some k → k.frozen ≡ true → HasFired arena n k)
    (links : SameLinks old.experts new.experts)
    (rooms : (n : NodeId) (r : Row) (k : Progress) → row_at arena n ≡ Some r → at new.rows (main n) ≡ Some k → FitsRoom r k)
    (more : vec_capacity old.ran ≤ vec_capacity new.ran) where
  before : (p : Point) → Holds new.rows p → Holds old.rows p
  before p h = sym (rows p) ∙ h

  now : (p : Point) → Holds old.rows p → Holds new.rows p
  now p h = rows p ∙ h

  there_before : (p : Point) → Holds new.graph.heights p → Holds old.graph.heights p
  there_before p h = subst (λ (m : Rows ℕ). Holds m p) same.heights h

  held : held_at arena new ≡ held_at arena old
  held = same_held arena old.rows new.rows old.roots new.roots old.experts new.experts (λ n. ap outcome_in (changes n))
      (λ n. ap (λ (m : Rows NodeId). at m (change n)) roots) flags (kids_same old.experts new.experts links)

  pub kept_with : IsKept arena new
  kept_with = record {
    step = step;
    rows = λ p. rows p ∙ kept.rows p;
    leaves = λ p h. elim (kept.leaves p (there_before p h)) [ inl r ↦ inl (now p r) | inr d ↦ inr (d.0, needed_now old.graph new.graph same p d.1) ];
    there = λ p h. subst (λ (m : Rows ℕ). Holds m p) (sym same.heights) (kept.there p (before p h));
    given = λ p h. kept.given p (there_before p h);
    links = λ p q r. links_same old new rows deaths p q (kept.links p q (subst (λ (l : Links). Reads l p q) same.links r));
    heap = λ p h. now p (heap p h);
    dead = λ n b e. kept.dead n b (sym (died_same old new deaths n) ∙ e);
    sound = kept.sound;
    scopes = kept.scopes;
    older = kept.older;
    outcomes = outcomes;
    rights = λ n m r k o row e out right. kept.rights n m r k o row (sym (changes n) ∙ e) out
        (subst (λ (h : Holdings). right_of (graph_of arena h) n r.def o ≡ Some m) held right);
    roots = λ n h. let v = kept.roots n (root_same old new roots (change n) h) in (v.0, ap outcome_in (changes n) ∙ v.1);
    binds = λ n r row h. kept.binds n r row (root_same old new roots (change n) h);
    calls = calls;
    rounds = rounds;
    pairs = λ n r live some. pairs_same old new lists n (kept.pairs n r live some);
    scoped = λ n r live some. scoped_same old new lists n (kept.scoped n r live some);
    experts = still_experts arena old new links kept;
    listed = still_listed arena old new links kept;
    lists = still_lists arena old new links kept;
    tops = kept.tops;
    frozen = frozen;
    rooms = record { calls = rooms; ran = let room = kept.rooms.ran in omega (arith, room, more) };
  }

-- all rows stay, and the roots of binds
pub kept_same : (arena : Arena) (old new : Work) → IsKept arena old → KeepsRows old.rows new.rows → KeepsGraph old.graph new.graph → IsInStep new.graph
    → ((p : Point) → Holds new.graph.heap p → Holds old.rows p) → new.round ≡ old.round → new.roots ≡ old.roots → new.deaths ≡ old.deaths
    → KeepsLists old new → SameLinks old.experts new.experts → vec_capacity old.ran ≤ vec_capacity new.ran → IsKept arena new
kept_same arena old new kept rows same step heap round roots deaths lists links more = kept_with arena old new kept (λ p. ap is_some (rows p)) same step heap
    (λ n r k v live is o. kept.outcomes n r k v live (sym (rows (main n)) ∙ is) o)
    (λ n. rows (change n)) roots deaths
    (λ n r k c live is l. kept.calls n r k c live (sym (rows (main n)) ∙ is) l)
    (λ p k is. subst (λ (m : ℕ). k.settled ≤ m) (sym round) (kept.rounds p k (sym (rows p) ∙ is)))
    lists (λ n. ap kept_in (rows (main n))) (λ n k is flag. kept.frozen n k (sym (rows (main n)) ∙ is) flag) links
    (λ n r k live is. kept.rooms.calls n r k live (sym (rows (main n)) ∙ is)) more

-- ---- a point leaves the heap, and comes back

module _ (arena : Arena) (old : Work) (g : NecessaryPart) (rest : g ≡ record old.graph { heap = g.heap }) where
  pub heap_graph : KeepsGraph old.graph g
  heap_graph = record {
    links = ap (λ (x : NecessaryPart). x.links) rest;
    roots = ap (λ (x : NecessaryPart). x.roots) rest;
    heights = ap (λ (x : NecessaryPart). x.heights) rest;
  }

  heap_kept : IsKept arena old → IsInStep (record old.graph { heap = g.heap }) → ((p : Point) → Holds g.heap p → Holds old.rows p)
      → IsKept arena (record old { graph = g })
  heap_kept kept step heap = kept_same arena old (record old { graph = g }) kept (λ p. refl) heap_graph (subst IsInStep (sym rest) step) heap refl refl refl
      (record { pairs = refl; scoped = refl }) (linked_alike old.experts) (omega arith)

  pub taken_kept : (p : Point) → IsKept arena old → Changes old.graph.heap g.heap p None → IsKept arena (record old { graph = g })
  taken_kept p kept c = heap_kept kept (taken_in_step old.graph kept.step g.heap p c)
      (λ a h. elim (point_cases a p) [
        | inl e ↦ absurd (let there = subst (λ (x : Point). Holds g.heap x) e h in let gone = c.changed in cc)
        | inr ne ↦ kept.heap a (subst (λ (x : Option ℕ). is_some x ≡ true) (c.others a ne) h)
      ])

  pub back_kept : (p : Point) → IsKept arena old → Needed old.graph p → Holds old.rows p → Changes old.graph.heap g.heap p (at old.graph.heights p)
      → IsKept arena (record old { graph = g })
  back_kept p kept need row c =
      let height : at old.graph.heights p ≡ Some (level old.graph.heights p) = has_level (at old.graph.heights p) (kept.step.there p need) in
      let put : Changes old.graph.heap g.heap p (Some (level old.graph.heights p)) = record { changed = c.changed ∙ height; others = c.others } in
      heap_kept kept (put_in_step old.graph kept.step g.heap p (level old.graph.heights p) need refl put)
      (λ a h. elim (point_cases a p) [
        | inl e ↦ subst (λ (x : Point). Holds old.rows x) (sym e) row
        | inr ne ↦ kept.heap a (subst (λ (x : Option ℕ). is_some x ≡ true) (c.others a ne) h)
      ])

-- ---- a main was settled

-- its flag stays, and so does what freezes keep, where the last call of one that keeps a value does
pub settled_flags : (old new : Work) (n : NodeId) (o : Outcome) (last : Option Call) (made : ℕ) (w : IsSettled old new n o last made)
    → (w.row.frozen ≡ true → last ≡ w.row.last) → (m : NodeId) → kept_in (at new.rows (main m)) ≡ kept_in (at old.rows (main m))
settled_flags old new n o last made w rests m = elim (point_cases (main m) (main n)) [
  | inl e ↦ subst (λ (x : Point). kept_in (at new.rows x) ≡ kept_in (at old.rows x)) (sym e)
      (ap kept_in w.now ∙ (flag_same w.row.frozen w.row.last last rests ∙ sym (ap kept_in w.was)))
  | inr ne ↦ ap kept_in (w.others (main m) ne)
]

module _ (arena : Arena) (old new : Work) (n : NodeId) (o : Outcome) (last : Option Call) (made : ℕ)
    (kept : IsKept arena old) (w : IsSettled old new n o last made) (step : IsInStep new.graph) (lists : KeepsLists old new)
    (links : SameLinks old.experts new.experts) (rests : w.row.frozen ≡ true → last ≡ w.row.last)
    (typed : (r : Row) (v : Value) → row_at arena n ≡ Some r → o ≡ Val v → IsOfType arena v r.ty)
    (answer_typed : (r : Row) (c : Call) → row_at arena n ≡ Some r → last ≡ Some c → CallFits arena r.def r.ty c)
    (more : vec_capacity old.ran ≤ vec_capacity new.ran) where
  abbrev fresh : Progress
  fresh = record { stage = w.row.stage; settled = old.round; outcome = Some o; last = last; cutoff = w.row.cutoff; frozen = w.row.frozen; room = w.row.room }

  row_is : (k : Progress) → at new.rows (main n) ≡ Some k → fresh ≡ k
  row_is k e = same_Some fresh k (sym w.now ∙ e)

  rows_stay : (p : Point) → is_some (at new.rows p) ≡ is_some (at old.rows p)
  rows_stay p = elim (point_cases p (main n)) [
    | inl e ↦ subst (λ (x : Point). is_some (at new.rows x) ≡ is_some (at old.rows x)) (sym e) (ap is_some w.now ∙ sym (ap is_some w.was))
    | inr ne ↦ ap is_some (w.others p ne)
  ]

  change_other : (m : NodeId) → change m ≢ main n
  change_other m e = absurd (let parts = ap (λ (x : Point). x.part) e in cc)

  -- who reads a main isn't dead: those are linked to changes alone
  row_of : (p : Point) → Holds old.rows p ⊎ IsGhostLink old p (main n) → Holds old.rows p
  row_of p (inl h) = h
  row_of p (inr g) = absurd (change_other g.scope (sym g.gate))

  heap_rows : (p : Point) → Holds new.graph.heap p → Holds old.rows p
  heap_rows p h = elim (point_cases p (main n)) [
    | inl e ↦ subst (λ (x : Point). Holds old.rows x) (sym e) (ap is_some w.was)
    | inr ne ↦ elim (w.only p ne h) [
      | inl k ↦ kept.heap p k
      | inr k ↦ row_of p (kept.links p (main n) k.0)
    ]
  ]

  fired_now : (k : Progress) → fresh ≡ k → k.frozen ≡ true → HasFired arena n k
  fired_now k e flag =
      let was : w.row.frozen ≡ true = ap (λ (x : Progress). x.frozen) e ∙ flag in
      fired_still arena n w.row k (sym (ap (λ (x : Progress). x.last) e) ∙ rests was) (kept.frozen n w.row w.was was)

  pub settled_kept : IsKept arena new
  settled_kept = kept_with arena old new kept rows_stay w.graph step heap_rows
      (λ m r k v live is out. elim (point_cases (main m) (main n)) [
        | inl e ↦
            let same : m ≡ n = ap (λ (x : Point). x.node) e in
            let f = row_is k (subst (λ (x : NodeId). at new.rows (main x) ≡ Some k) same is) in
            let out' : Some o ≡ Some (Val v) = ap (λ (x : Progress). x.outcome) f ∙ out in
            typed r v (subst (λ (x : NodeId). row_at arena x ≡ Some r) same live) (cc)
        | inr ne ↦ kept.outcomes m r k v live (sym (w.others (main m) ne) ∙ is) out
      ])
      (λ m. w.others (change m) (change_other m)) w.roots w.deaths
      (λ m r k c live is l. elim (point_cases (main m) (main n)) [
        | inl e ↦
            let same : m ≡ n = ap (λ (x : Point). x.node) e in
            let f = row_is k (subst (λ (x : NodeId). at new.rows (main x) ≡ Some k) same is) in
            answer_typed r c (subst (λ (x : NodeId). row_at arena x ≡ Some r) same live) (ap (λ (x : Progress). x.last) f ∙ l)
        | inr ne ↦ kept.calls m r k c live (sym (w.others (main m) ne) ∙ is) l
      ])
      (λ p k is. elim (point_cases p (main n)) [
        | inl e ↦
            let f = ap (λ (x : Progress). x.settled) (row_is k (subst (λ (x : Point). at new.rows x ≡ Some k) e is)) in
            let r = w.round in omega arith
        | inr ne ↦
            let before = kept.rounds p k (sym (w.others p ne) ∙ is) in
            let r = w.round in omega arith
      ])
      lists (settled_flags old new n o last made w rests)
      (λ m k is flag. elim (point_cases (main m) (main n)) [
        | inl e ↦
            let same : m ≡ n = ap (λ (x : Point). x.node) e in
            subst (λ (x : NodeId). HasFired arena x k) (sym same)
            (fired_now k (row_is k (subst (λ (x : NodeId). at new.rows (main x) ≡ Some k) same is)) flag)
        | inr ne ↦ kept.frozen m k (sym (w.others (main m) ne) ∙ is) flag
      ])
      links
      (λ m r k live is. elim (point_cases (main m) (main n)) [
        | inl e ↦
            let same : m ≡ n = ap (λ (x : Point). x.node) e in
            subst (FitsRoom r) (row_is k (subst (λ (x : NodeId). at new.rows (main x) ≡ Some k) same is))
            (kept.rooms.calls n r w.row (subst (λ (x : NodeId). row_at arena x ≡ Some r) same live) w.was)
        | inr ne ↦ kept.rooms.calls m r k live (sym (w.others (main m) ne) ∙ is)
      ])
      more
