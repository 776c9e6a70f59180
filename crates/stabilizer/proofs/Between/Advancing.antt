-- The time moves on, and the needed nodes that show another value then are put into the heap.
use Rattle.std.proofs.Common.{◌≡◌, ◌≢◌, ◌⊎◌, inl, inr, ◌≤◌, ◌++◌, ◌∷◌, ℕ, ℤ, Bool, true, false, List, [], Option, None, Some, refl, sym, ap, subst, ◌∙◌, append-nil, arith}
use Rattle.std.specs.Prelude.{is_some}
use Rattle.std.proofs.lemmas.List.{append_assoc}
use Rattle.std.proofs.lemmas.Option.{none-some}
use Rattle.inc_value.specs.Choice.{Among}
use Rattle.inc_value.specs.declared.node.NodeId.{NodeId}
use Rattle.inc_value.specs.declared.node.Part.{Part}
use Rattle.inc_value.specs.declared.node.Part.TheVariants.{Main, Change}
use Rattle.inc_value.specs.declared.node.Point.{Point}
use Rattle.inc_value.specs.declared.outcome.Outcome.{Outcome}
use Rattle.inc_value.specs.declared.outcome.Outcome.TheVariants.{Val}
use Rattle.inc_value.specs.declared.value.Value.{Value}
use Rattle.inc_terms.specs.Clock.{clock_value, reads_clock}
use Rattle.inc_terms.specs.Depend.{main, subject_of}
use Rattle.inc_terms.specs.Graph as graph
use Rattle.inc_terms.specs.Graph.{Row, Def}
use Rattle.point_map.specs.Rows.{Rows, at, Holds}
use Rattle.point_map.proofs.Places.{point_cases}
use Rattle.link_table.specs.Links.{Links, Reads, times}
use Rattle.necessary_graph.specs.Part.{NecessaryPart, Needed, IsInStep}
use Rattle.node_arena.specs.Arena.{Arena, row_at}
use Rattle.node_arena.specs.Graph.{AllCallFit, CallsFit}
use Rattle.node_arena.specs.Sound.{IsSoundArena}
use Rattle.expert_nodes.specs.Experts.{kids_at}
use Rattle.node_outcomes.specs.Computing.{has_part, is_expert}
use Rattle.node_outcomes.specs.Meaning.{Meaning}
use Rattle.stabilize_round.proofs.Points.{is_or_not}
use Rattle.clock_nodes.specs.Clock.{watched, KeepsWatched, ListsStale}
use Rattle.wiring.specs.Kept.{IsKept, IsDead}
use Rattle.wiring.specs.Wiring.{IsMarked}
use Rattle.wiring.specs.declared.work.Work.{Work}
use Rattle.wiring.proofs.Deciding.{need_same}
use Rattle.wiring.proofs.Holding.{built_same, right_as}
use Rattle.wiring.proofs.Linking.{some_or_none}
use Rattle.stabilizer.specs.Between.{Stays, StaysButHeap}
use Rattle.stabilizer.specs.Clock.{AreMarked}
use Rattle.timed_nodes.specs.Timed.{AreTakenIn, IsMovedTo, KeepsClock}
use Rattle.stabilizer.specs.Kept.{PartsKept}
use Rattle.stabilizer.specs.Round.{IsReady}
use Rattle.stabilizer.specs.declared.parts.Parts.{Parts}
use Rattle.timed_nodes.specs.Timed.{Timed}
use Rattle.stabilizer.proofs.Between.Alone.{needed_row, main_is}
use Rattle.stabilizer.proofs.Between.Staying.{ready_stays}
use Rattle.stabilizer.proofs.Between.Keeping.{parts_stay}
use Rattle.timed_nodes.proofs.Watching.{clock_moved}
use Rattle.stabilizer.proofs.Between.Typing.{KeepsTypes, call_still, folds_still, listed_still, typed_still, right_still}

-- ---- who shows another value

abbrev outcome_by : Option Value → Option Outcome
outcome_by None = None
outcome_by (Some v) = Some (Val v)

by_outcome : (x : Option Value) (v : Value) → outcome_by x ≡ Some (Val v) → x ≡ Some v
by_outcome None v e = absurd (cc)
by_outcome (Some w) v e = (let e' = e in cc)

-- two values are the same, or they aren't
value_or_other : (x y : Option Value) → (x ≡ y) ⊎ (x ≢ y)
value_or_other None None = inl refl
value_or_other (Some v) None = inr (λ e. none-some v (sym e))
value_or_other x (Some v) = elim (is_or_not (outcome_by x) (Val v)) [
  | inl same ↦ inl (by_outcome x v same)
  | inr other ↦ inr (λ e. other (ap outcome_by e))
]

-- what doesn't read the clock shows the same at all times
same_without : (def : Def) (time to : ℤ) → reads_clock def ≡ false → clock_value to def ≡ clock_value time def
same_without (graph.At t) time to e = absurd (cc)
same_without (graph.Steps v steps) time to e = absurd (cc)
same_without graph.Now time to e = absurd (cc)
same_without (graph.Every base span) time to e = absurd (cc)
same_without _ time to e = refl

-- what reads it has no subject
no_subject : (def : Def) → reads_clock def ≡ true → subject_of def ≡ None
no_subject (graph.At t) e = refl
no_subject (graph.Steps v steps) e = refl
no_subject graph.Now e = refl
no_subject (graph.Every base span) e = refl
no_subject _ e = absurd (cc)

bool_or : (b : Bool) → (b ≡ true) ⊎ (b ≡ false)
bool_or true = inl refl
bool_or false = inr refl

-- a live node that reads the clock is listed as stale, or shows the same
pub stale_or_same : (arena : Arena) (timed : Timed) (to : ℤ) (stale : List NodeId) → KeepsClock arena timed → AreTakenIn arena timed
    → ListsStale timed.clock timed.clock.time to [] stale → (n : NodeId) (r : Row) → row_at arena n ≡ Some r
    → ((reads_clock r.def ≡ true) × Among n stale) ⊎ (clock_value to r.def ≡ clock_value arena.time r.def)
stale_or_same arena timed to stale kept taken lists n r row = elim (bool_or (reads_clock r.def)) [
  | inr none ↦ inr (same_without r.def arena.time to none)
  | inl reads ↦ elim (value_or_other (clock_value to r.def) (clock_value arena.time r.def)) [
    | inl same ↦ inr same
    | inr other ↦ inl (
      reads,
      subst (Among n) (sym lists.behind) (lists.all n (record {
        def = r.def;
        is = kept.watches n r row (taken n (ap is_some row)) reads;
        changed = subst (λ (t : ℤ). clock_value to r.def ≢ clock_value t r.def) (sym kept.time) other;
      })),
    )
  ]
]

-- ---- nodes put into the heap

-- none yet
pub marked_none : (g : NecessaryPart) → AreMarked g g []
marked_none g = record {
  graph = record { links = refl; roots = refl; heights = refl };
  kept = λ p h. h;
  told = λ n among need. absurd among;
  only = λ p h. inl h;
}

-- one node more
module _ (old mid new : NecessaryPart) (done : List NodeId) (n : NodeId) (so : AreMarked old mid done) (step : IsInStep mid)
    (one : IsMarked mid new (main n)) where
  in_heap : (p : Point) → Holds mid.heap p → Holds new.heap p
  in_heap p h = elim (point_cases p (main n)) [
    | inl is ↦ subst (Holds new.heap) (sym is) (one.told (elim (some_or_none (at mid.heap p)) [
      | inl k ↦ subst (Needed mid) is (step.heap p k.0 k.1).1
      | inr none ↦ absurd (let e = sym h ∙ ap is_some none in cc)
    ]))
    | inr ne ↦ ap is_some (one.others p ne) ∙ h
  ]

  pub marked_more : AreMarked old new (n ∷ done)
  marked_more = record {
    graph = record {
      links = one.graph.links ∙ so.graph.links;
      roots = one.graph.roots ∙ so.graph.roots;
      heights = one.graph.heights ∙ so.graph.heights;
    };
    kept = λ p h. in_heap p (so.kept p h);
    told = λ m among need. elim among [
      | inl is ↦ subst (λ (x : NodeId). Holds new.heap (main x)) (sym is)
          (one.told (need_same old mid so.graph.links so.graph.roots (main n) (subst (λ (x : NodeId). Needed old (main x)) is need)))
      | inr a ↦ in_heap (main m) (so.told m a need)
    ];
    only = λ p h. elim (point_cases p (main n)) [
      | inl is ↦ inr (n, inl refl, is)
      | inr ne ↦ elim (so.only p (sym (ap is_some (one.others p ne)) ∙ h)) [ inl had ↦ inl had | inr x ↦ inr (x.0, inr x.1, x.2) ]
    ];
  }

-- some of the nodes were put into the heap, and the others are left
pub record AreScheduling (old now : NecessaryPart) (all left : List NodeId) : Type 0 where
  pub done : List NodeId
  pub parts : all ≡ left ++ done
  pub marked : AreMarked old now done
  pub step : IsInStep now

pub scheduling_begins : (g : NecessaryPart) (all : List NodeId) → IsInStep g → AreScheduling g g all all
scheduling_begins g all step = record { done = []; parts = sym (append-nil all); marked = marked_none g; step = step }

pub scheduling_more : (old mid new : NecessaryPart) (all left rest : List NodeId) (n : NodeId) → AreScheduling old mid all left → left ≡ rest ++ n ∷ []
    → IsMarked mid new (main n) → IsInStep new → AreScheduling old new all rest
scheduling_more old mid new all left rest n so last one step = record {
  done = n ∷ so.done;
  parts = so.parts ∙ (ap (λ (xs : List NodeId). xs ++ so.done) last ∙ append_assoc rest (n ∷ []) so.done);
  marked = marked_more old mid new so.done n so.marked so.step one;
  step = step;
}

-- ---- what is kept

module _ (before arena : Arena) (old : Work) (g : NecessaryPart) (to : ℤ) (stale : List NodeId) (kept : IsKept before old)
    (moved : IsMovedTo before arena to) (sound : IsSoundArena arena) (marked : AreMarked old.graph g stale) (step : IsInStep g)
    (shows : (n : NodeId) (r : Row) → row_at before n ≡ Some r → ((reads_clock r.def ≡ true) × Among n stale)
    ⊎ (clock_value to r.def ≡ clock_value before.time r.def))
    (lives : (n : NodeId) → Among n stale → (r : Row) × (row_at before n ≡ Some r)) where
  abbrev work : Work
  work = record old { graph = g }

  was : (n : NodeId) (r : Row) → row_at arena n ≡ Some r → row_at before n ≡ Some r
  was n r row = sym (moved.rows n) ∙ row

  now : (n : NodeId) (r : Row) → row_at before n ≡ Some r → row_at arena n ≡ Some r
  now n r row = moved.rows n ∙ row

  more : before.given ≤ arena.given
  more = let g' = moved.given in omega (arith, g')

  types : KeepsTypes before arena
  types n r had row = (r, was n r row, refl)

  need_before : (p : Point) → Needed g p → Needed old.graph p
  need_before p n = need_same g old.graph (sym marked.graph.links) (sym marked.graph.roots) p n

  need_now : (p : Point) → Needed old.graph p → Needed g p
  need_now p n = need_same old.graph g marked.graph.links marked.graph.roots p n

  there_now : (p : Point) → Holds old.graph.heights p → Holds g.heights p
  there_now p h = subst (λ (m : Rows ℕ). Holds m p) (sym marked.graph.heights) h

  there_was : (p : Point) → Holds g.heights p → Holds old.graph.heights p
  there_was p h = subst (λ (m : Rows ℕ). Holds m p) marked.graph.heights h

  -- what is in the heap has a row: that of a live node
  heap_rows : (p : Point) → Holds g.heap p → Holds old.rows p
  heap_rows p h = elim (marked.only p h) [
    | inl had ↦ kept.heap p had
    | inr x ↦
        let r = lives x.0 x.1 in
        subst (Holds old.rows) (sym x.2) (kept.rows (main x.0) ∙ ap (λ (y : Option Row). has_part y Main) r.1)
  ]

  still_dead : (n b : NodeId) → IsDead before n b → IsDead arena n b
  still_dead n b d = record {
    gone = moved.rows n ∙ d.gone;
    given = (let x = d.given in omega (arith, x, more));
    scope_given = (let x = d.scope_given in omega (arith, x, more));
    scope_two = λ r e. d.scope_two r (was b r e);
  }

  pub moved_kept : IsKept arena work
  moved_kept = record {
    step = step;
    rows = λ p. kept.rows p ∙ sym (ap (λ (x : Option Row). has_part x p.part) (moved.rows p.node));
    leaves = λ p h. elim (kept.leaves p (there_was p h)) [ inl r ↦ inl r | inr d ↦ inr (moved.rows p.node ∙ d.0, need_now p d.1) ];
    there = λ p h. there_now p (kept.there p h);
    given = λ p h. let x = kept.given p (there_was p h) in omega (arith, x, more);
    links = λ p q l. elim (kept.links p q (subst (λ (x : Links). Reads x p q) marked.graph.links l)) [
      | inl r ↦ inl r
      | inr ghost ↦ inr (record { scope = ghost.scope; died = ghost.died; gate = ghost.gate })
    ];
    heap = heap_rows;
    dead = λ n b d. still_dead n b (kept.dead n b d);
    sound = sound;
    scopes = λ n r b row scope. let s = kept.scopes n r b (was n r row) scope in (s.0, s.1, s.2, s.3, now b s.0 s.4, s.5);
    older = λ n b r row scope. kept.older n b r (was n r row) scope;
    outcomes = λ n r k v row e o. typed_still before arena more types v r.ty (kept.outcomes n r k v (was n r row) e o);
    rights = λ n m r k o row e out right. right_still before arena more types m r.ty
        (kept.rights n m r k o (was n r row) e out
        (right_as before arena old work n m r.def o (built_same before arena old work n (moved.rows n) refl refl) right));
    roots = kept.roots;
    binds = λ n r row h. kept.binds n r (was n r row) h;
    calls = λ n r k c row e last. call_still before arena more types r.def r.ty c (kept.calls n r k c (was n r row) e last);
    rounds = kept.rounds;
    pairs = λ n r row some. kept.pairs n r (was n r row) some;
    scoped = λ n r row some. kept.scoped n r (was n r row) some;
    experts = λ n. kept.experts n ∙ sym (ap is_expert (moved.rows n));
    listed = λ n. listed_still before arena more types (kids_at old.experts n) (kept.listed n);
    lists = λ n r f v ns row is. folds_still before arena more types r.ty (kids_at old.experts n) f.sig.takes (kept.listed n)
        (kept.lists n r f v ns (was n r row) is);
    tops = λ n r row top. kept.tops n r (was n r row) top;
    frozen = λ n k e on. let h = kept.frozen n k e on in
        record { row = h.row; is_row = now n h.row h.is_row; is_freeze = h.is_freeze; value = h.value; last = h.last };
    rooms = record {
      calls = λ n r k row e. kept.rooms.calls n r k (was n r row) e;
      ran = let room = kept.rooms.ran in let same = moved.live in omega (arith, room, same);
    };
  }

  -- a change is of a node that doesn't read the clock
  shows_at : (p : Point) (r : Row) → Needed g p → row_at arena p.node ≡ Some r → (part : Part) → p.part ≡ part
      → Holds g.heap p ⊎ (clock_value arena.time r.def ≡ clock_value before.time r.def)
  shows_at p r need row Main is = elim (shows p.node r (was p.node r row)) [
    | inl told ↦ inl (subst (Holds g.heap) (sym (main_is p is))
        (marked.told p.node told.1 (subst (Needed old.graph) (main_is p is) (need_before p need))))
    | inr same ↦ inr (ap (λ (t : ℤ). clock_value t r.def) moved.time ∙ same)
  ]
  shows_at p r need row Change is = elim (shows p.node r (was p.node r row)) [
    | inr same ↦ inr (ap (λ (t : ℤ). clock_value t r.def) moved.time ∙ same)
    | inl told ↦ absurd (
        let k = needed_row before old kept p r (need_before p need) (was p.node r row) in
        let e : true ≡ is_some (subject_of r.def) = sym (ap is_some k.1) ∙ (kept.rows p
        ∙ (ap (λ (x : Option Row). has_part x p.part) (was p.node r row) ∙ ap (has_part (Some r)) is)) in
        let none = ap is_some (no_subject r.def told.0) in cc)
  ]

  pub moved_stays : Stays before arena old work
  moved_stays = record {
    needed = need_before;
    clock = λ p r need row. shows_at p r need row p.part refl;
    lists = λ p n. inl (record { links = λ q. ap (λ (x : Links). times x p q) marked.graph.links; expert = refl; listed = λ a. a });
    heap = λ p n h. marked.kept p h;
    rows = λ p n. refl;
    nodes = λ p r need row. inl (was p.node r row);
    calls = λ n r ns k c row def is last. (was n r row, is);
    runs = λ n s r o row def is. (was n r row, is);
    unsettled = λ p k e. inl e;
    roots = λ n r row. refl;
    outcomes = λ n w r there row. refl;
    scoped = λ n b r row scope. record { row = r; is_row = now n r row; scope = scope; same = inl refl };
    entered = λ n b r row scope. (r, was n r row, scope);
    deaths = refl;
    ran = refl;
    retries = refl;
    round = refl;
  }

-- ---- the parts

module _ (old new : Parts) (to : ℤ) (stale : List NodeId) (kept : PartsKept old) (moved : IsMovedTo old.arena new.arena to)
    (sound : IsSoundArena new.arena) (marked : AreMarked old.work.graph new.work.graph stale) (step : IsInStep new.work.graph)
    (shows : (n : NodeId) (r : Row) → row_at old.arena n ≡ Some r → ((reads_clock r.def ≡ true) × Among n stale)
    ⊎ (clock_value to r.def ≡ clock_value old.arena.time r.def))
    (lives : (n : NodeId) → Among n stale → (r : Row) × (row_at old.arena n ≡ Some r)) (clock : KeepsClock new.arena new.timed)
    (rest : new ≡ record old { arena = new.arena; timed = new.timed; work = record old.work { graph = new.work.graph } }) where
  abbrev parts : Parts
  parts = record old { arena = new.arena; timed = new.timed; work = record old.work { graph = new.work.graph } }

  stays : Stays old.arena new.arena old.work parts.work
  stays = moved_stays old.arena new.arena old.work new.work.graph to stale kept.work moved sound marked step shows lives

  parts_kept : PartsKept parts
  parts_kept = parts_stay old parts kept
      (moved_kept old.arena new.arena old.work new.work.graph to stale kept.work moved sound marked step shows lives) stays refl refl clock
      (let room = kept.listing in let same = moved.live in omega (arith, room, same))

  pub moved_parts : PartsKept new
  moved_parts = subst PartsKept (sym rest) parts_kept

  pub moved_ready : (M : Meaning) → IsReady M old → IsReady M new
  moved_ready M ready = subst (IsReady M) (sym rest) (ready_stays M old parts ready fit parts_kept stays)
    where
      fit : AllCallFit M.known M.ids new.arena
      fit n r row = subst (λ (k : ℕ). CallsFit k M.known M.ids r.def) (sym moved.given) (ready.fit n r (sym (moved.rows n) ∙ row))

-- only what is kept of the nodes that read the clock changed
module _ (old : Parts) (timed : Timed) (kept : PartsKept old) (clock : KeepsClock old.arena timed) where
  abbrev others : Parts
  others = record old { timed = timed }

  others_kept : PartsKept others
  others_kept = record { work = kept.work; scopes = kept.scopes; dying = kept.dying; clock = clock; listing = kept.listing }

  others_ready : (M : Meaning) → IsReady M old → IsReady M others
  others_ready M ready = record {
    kept = others_kept;
    laws = ready.laws;
    fit = ready.fit;
    start = ready.start;
    state = ready.state;
    stands = ready.stands;
    entry = ready.entry;
    linked = ready.linked;
    inside = ready.inside;
    numbered = ready.numbered;
    ran = ready.ran;
  }

  pub timed_stays : StaysButHeap old others
  timed_stays = record {
    lives = refl;
    given = refl;
    rows = refl;
    heights = refl;
    links = refl;
    roots = refl;
    right_sides = refl;
    experts = refl;
    ran = refl;
    kept = others_kept;
    ready = others_ready;
  }

-- ---- all of it

module _ (old new : Parts) (seen found : Timed) (arena : Arena) (to : ℤ) (kept : PartsKept old) (clock : KeepsClock old.arena seen)
    (all : AreTakenIn old.arena seen) (lists : ListsStale seen.clock seen.clock.time to [] found.stale) (time : found.clock.time ≡ to)
    (same : KeepsWatched seen.clock found.clock) (taken : found.taken ≡ seen.taken) (moved : IsMovedTo old.arena arena to)
    (sound : IsSoundArena arena) (marked : AreMarked old.work.graph new.work.graph found.stale) (none : new.timed.stale ≡ [])
    (step : IsInStep new.work.graph)
    (rest : new ≡ record old {
      arena = arena;
      timed = record found { stale = new.timed.stale };
      work = record old.work { graph = new.work.graph };
    }) where
  arena_is : new.arena ≡ arena
  arena_is = ap (λ (p : Parts). p.arena) rest

  moved_new : IsMovedTo old.arena new.arena to
  moved_new = subst (λ (a : Arena). IsMovedTo old.arena a to) (sym arena_is) moved

  sound_new : IsSoundArena new.arena
  sound_new = subst IsSoundArena (sym arena_is) sound

  clock_new : KeepsClock new.arena new.timed
  clock_new = clock_moved old.arena new.arena seen new.timed to clock moved_new (ap (λ (p : Parts). p.timed.clock.time) rest ∙ time)
      (λ n. ap (λ (p : Parts). watched p.timed.clock n) rest ∙ same n) (ap (λ (p : Parts). p.timed.taken) rest ∙ taken) none

  shows_new : (n : NodeId) (r : Row) → row_at old.arena n ≡ Some r → ((reads_clock r.def ≡ true) × Among n found.stale)
      ⊎ (clock_value to r.def ≡ clock_value old.arena.time r.def)
  shows_new = stale_or_same old.arena seen to found.stale clock all lists

  -- who is listed is watched, and lives
  lives_new : (n : NodeId) → Among n found.stale → (r : Row) × (row_at old.arena n ≡ Some r)
  lives_new n among =
      let s = lists.are n (subst (Among n) lists.behind among) in
      let t = clock.alone n s.def s.is in
      (t.row, t.is_row)

  rest_new : new ≡ record old { arena = new.arena; timed = new.timed; work = record old.work { graph = new.work.graph } }
  rest_new = rest ∙ sym (ap (λ (p : Parts). record old { arena = p.arena; timed = p.timed; work = record old.work { graph = new.work.graph } }) rest)

  pub advanced_stays : StaysButHeap old new
  advanced_stays = record {
    lives = moved_new.live;
    given = moved_new.given;
    rows = ap (λ (p : Parts). p.work.rows) rest;
    heights = marked.graph.heights;
    links = marked.graph.links;
    roots = marked.graph.roots;
    right_sides = ap (λ (p : Parts). p.work.roots) rest;
    experts = ap (λ (p : Parts). p.work.experts) rest;
    ran = ap (λ (p : Parts). p.ran) rest;
    kept = moved_parts old new to found.stale kept moved_new sound_new marked step shows_new lives_new clock_new rest_new;
    ready = moved_ready old new to found.stale kept moved_new sound_new marked step shows_new lives_new clock_new rest_new;
  }
