-- A link is tried: what stays where it is refused, and how the state follows where it is made.
use Rattle.std.proofs.Common.{◌≡◌, ◌≢◌, ◌⊎◌, inl, inr, ℕ, ◌≤◌, ◌+◌, Bool, true, false, [], ◌∷◌, Option, None, Some, refl, sym, ap, subst, ◌∙◌, arith, length-append, ◌*◌}
use Rattle.std.specs.Prelude.{length, is_some, ◌↔◌, IsTrue, IsFalse, Ok, Err}
use Rattle.inc_value.specs.declared.node.Part.{Part}
use Rattle.inc_value.specs.declared.node.Point.{Point}
use Rattle.inc_value.specs.Choice.{Reaches}
use Rattle.inc_terms.specs.Graph.{Graph, Row}
use Rattle.inc_terms.specs.Within.{Given}
use Rattle.point_map.specs.Rows.{Rows, at, Holds, KeepsRows, Changes}
use Rattle.link_table.specs.Links.{Links, times, Reads, KeepsLinks, OneLinkMore}
use Rattle.necessity.specs.Need.{Roots, root_times, KeepsRoots}
use Rattle.height_order.specs.Levels.{KeepsPoints}
use Rattle.necessary_graph.specs.Part.{NecessaryPart, Needed, IsInStep, AlsoNeeded}
use Rattle.necessary_graph.proofs.Linking.{read_with}
use Rattle.node_arena.specs.Arena.{Arena, row_at}
use Rattle.stabilize_round.specs.State.{State}
use Rattle.stabilize_round.specs.Steps.{Wiring}
use Rattle.stabilize_round.proofs.Parts.{bool_cases}
use Rattle.stabilize_round.proofs.Points.{same_or_other}
use Rattle.wiring.specs.Answers.{LinkAnswers}
use Rattle.wiring.specs.Growing.{Grows, unneeded}
use Rattle.node_outcomes.specs.Computing.{has_part}
use Rattle.wiring.specs.Kept.{IsKept}
use Rattle.height_order.specs.declared.heights.LinkFault.{LinkFault}
use Rattle.wiring.specs.Refusing.{TellsFault}
use Rattle.wiring.specs.Stands.{MatchesState, hand}
use Rattle.wiring.specs.Wiring.{IsNewlyNeeded, IsReached, ShowsSame, Links as PutsOn, IsLevelled, IsTarget, AreUnlinked, MayRead}
use Rattle.node_outcomes.specs.declared.row.Stage.TheVariants as code
use Rattle.wiring.specs.declared.work.Work.{Work}
use Rattle.wiring.proofs.Growing.{no_more_unneeded, fewer_unneeded}
use Rattle.wiring.proofs.Linking.{linked_stands, linked_new_stands, some_or_none}
use Rattle.wiring.proofs.Deciding.{same_need}
use Rattle.wiring.proofs.Staying.{KeepsMost, most_still, most_staged, most_same, most_then, most_kept, most_kept_there, looks_stands}
use Rattle.wiring.proofs.Holding.{has_links_same}
use Rattle.wiring.proofs.Reading.{read_as}
use Rattle.wiring.specs.Graph.{died_at, HasLinks}

-- a point that has a row is one of a live node
part_of : (x : Option Row) (part : Part) → has_part x part ≡ true → is_some x ≡ true
part_of None part h = absurd (cc)
part_of (Some r) part h = refl

-- what a link may lead to has a row just where its node is live
pub target_row : (arena : Arena) (old : Work) (q : Point) → IsKept arena old → IsTarget arena old q → is_some (at old.rows q) ≡ is_some (row_at arena q.node)
target_row arena old q k target = elim target.there [
  | inl row ↦ row ∙ sym (part_of (row_at arena q.node) q.part (sym (k.rows q) ∙ row))
  | inr dead ↦ k.rows q ∙ (ap (λ (x : Option Row). has_part x q.part) dead ∙ sym (ap is_some dead))
]

-- ---- a link was refused

pub levelled_kept : (arena : Arena) (old new : Work) → IsLevelled old new → IsKept arena old → IsKept arena new
levelled_kept arena old new l k =
    most_kept_there old new (most_still old new l.rows l.lists l.round) arena k l.step l.heights (λ a. (same_need old.graph new.graph l.roots l.links a).1)
    (λ a b r. let e = l.links a b in omega (arith, e, r)) (λ a h. k.heap a (sym (l.heap a) ∙ h))

-- there was no room
pub levelled_room : (old new : Work) → ShowsSame old new → KeepsRows old.graph.heights new.graph.heights → IsInStep new.graph → IsLevelled old new
levelled_room old new looks heights step_is = record {
  rows = looks.rows;
  links = looks.links;
  roots = looks.roots;
  heights = λ a. ap is_some (heights a);
  heap = looks.heap;
  step = step_is;
  todo = looks.todo;
  lists = looks.lists;
  round = looks.round;
}

-- a point that wasn't there was added, and is dropped again
module _ (old mid closed : Work) (g : NecessaryPart) (q : Point) (opened : Bool) (looks : ShowsSame old mid)
    (there : Holds mid.graph.heights q) (opened_is : IsTrue opened ↔ (at old.graph.heights q ≡ None))
    (others : (a : Point) → a ≢ q → at mid.graph.heights a ≡ at old.graph.heights a)
    (links : KeepsLinks mid.graph.links g.links) (roots : KeepsRoots mid.graph.roots g.roots)
    (points : KeepsPoints mid.graph.heights g.heights) (heap : KeepsPoints mid.graph.heap g.heap)
    (gone : IsTrue opened → Changes g.heights closed.graph.heights q None) (kept : IsFalse opened → closed ≡ record mid { graph = g })
    (same_links : closed.graph.links ≡ g.links) (same_roots : closed.graph.roots ≡ g.roots) (same_heap : closed.graph.heap ≡ g.heap)
    (rest : closed ≡ record mid { graph = closed.graph }) where
  was_there : IsFalse opened → is_some (at mid.graph.heights q) ≡ is_some (at old.graph.heights q)
  was_there f = elim (some_or_none (at old.graph.heights q)) [
    | inl k ↦ there ∙ sym (ap is_some k.1)
    | inr none ↦ absurd (let t = opened_is.1 none in let e = f in cc)
  ]

  other_heights : (a : Point) → a ≢ q → is_some (at g.heights a) ≡ is_some (at old.graph.heights a)
  other_heights a ne = points a ∙ ap is_some (others a ne)

  pub closed_heights : KeepsPoints old.graph.heights closed.graph.heights
  closed_heights a = elim (bool_cases opened) [
    | inl t ↦ elim (same_or_other q a) [
      | inl e ↦ subst (λ (x : Point). is_some (at closed.graph.heights x) ≡ is_some (at old.graph.heights x)) e
          (ap is_some (gone t).changed ∙ sym (ap is_some (opened_is.0 t)))
      | inr ne ↦ ap is_some ((gone t).others a (λ e. ne (sym e))) ∙ other_heights a (λ e. ne (sym e))
    ]
    | inr f ↦ ap (λ (x : Work). is_some (at x.graph.heights a)) (kept f) ∙ elim (same_or_other q a) [
      | inl e ↦ subst (λ (x : Point). is_some (at g.heights x) ≡ is_some (at old.graph.heights x)) e (points q ∙ was_there f)
      | inr ne ↦ other_heights a (λ e. ne (sym e))
    ]
  ]

  pub closed_links : KeepsLinks mid.graph.links closed.graph.links
  closed_links a b = ap (λ (l : Links). times l a b) same_links ∙ links a b

  pub levelled_link : IsInStep closed.graph → IsLevelled old closed
  levelled_link step_is = record {
    rows = λ a. ap (λ (x : Work). at x.rows a) rest ∙ looks.rows a;
    links = λ a b. closed_links a b ∙ looks.links a b;
    roots = λ a. ap (λ (r : Roots). root_times r a) same_roots ∙ (roots a ∙ looks.roots a);
    heights = closed_heights;
    heap = λ a. ap (λ (h : Rows ℕ). is_some (at h a)) same_heap ∙ (heap a ∙ looks.heap a);
    step = step_is;
    todo = ap (λ (x : Work). x.todo.items) rest ∙ looks.todo;
    lists = record { pairs = ap (λ (x : Work). x.pairs) rest ∙ looks.lists.pairs; scoped = ap (λ (x : Work). x.scoped) rest ∙ looks.lists.scoped };
    round = record {
      roots = ap (λ (x : Work). x.roots) rest ∙ looks.round.roots;
      deaths = ap (λ (x : Work). x.deaths) rest ∙ looks.round.deaths;
      ran = ap (λ (x : Work). x.ran) rest ∙ looks.round.ran;
      retries = ap (λ (x : Work). x.retries) rest ∙ looks.round.retries;
      round = ap (λ (x : Work). x.round) rest ∙ looks.round.round;
      experts = ap (λ (x : Work). x.experts) rest ∙ looks.round.experts;
    };
  }

-- ---- a link or a root was put on

-- one point more is needed, if it wasn't, and may have a place among heights; links and what is in the heap may be more where there are rows
pub record IsGrown (old new : Work) (q : Point) : Type 0 where
  pub step : IsInStep new.graph
  pub most : KeepsMost old new
  pub needed : (a : Point) → Needed old.graph a → Needed new.graph a
  pub also : Needed new.graph q
  pub heights : (a : Point) → a ≢ q → is_some (at new.graph.heights a) ≡ is_some (at old.graph.heights a)
  pub links : (a b : Point) → Reads new.graph.links a b → Reads old.graph.links a b ⊎ MayRead old a b
  pub heap : (a : Point) → Holds new.graph.heap a → Holds old.graph.heap a ⊎ Holds old.rows a

module _ (old new : Work) (q : Point) (grown : IsGrown old new q) (arena : Arena) (target : IsTarget arena old q) (k : IsKept arena old) where
  -- a point that is there was there, or is the new one
  by_heights : (P : Point → Type 0) → P q → ((a : Point) → Holds old.graph.heights a → P a) → (a : Point) → Holds new.graph.heights a → P a
  by_heights P new_one before a h = elim (same_or_other q a) [
    | inl e ↦ subst P e new_one
    | inr ne ↦ before a (sym (grown.heights a (λ e. ne (sym e))) ∙ h)
  ]

  pub grown_kept : IsKept arena new
  grown_kept = most_kept old new grown.most arena k (record {
    step = grown.step;
    leaves = by_heights (λ (a : Point). Holds old.rows a ⊎ ((row_at arena a.node ≡ None) × Needed new.graph a))
        (elim target.there [ inl row ↦ inl row | inr dead ↦ inr (dead, grown.also) ])
        (λ a h. elim (k.leaves a h) [ inl row ↦ inl row | inr d ↦ inr (d.0, grown.needed a d.1) ]);
    there = λ a h. elim (same_or_other q a) [
      | inl e ↦ subst (λ (x : Point). Holds new.graph.heights x) e (grown.step.there q grown.also)
      | inr ne ↦ grown.heights a (λ e. ne (sym e)) ∙ k.there a h
    ];
    given = by_heights (λ (a : Point). Given arena.given a.node) target.given k.given;
    links = λ a b r. elim (grown.links a b r) [ inl before ↦ k.links a b before | inr may ↦ may ];
    heap = λ a h. elim (grown.heap a h) [ inl before ↦ k.heap a before | inr row ↦ row ];
  })

module _ (old mid new : Work) (g : NecessaryPart) (q : Point) (newly : Bool) (looks : ShowsSame old mid)
    (others : (a : Point) → a ≢ q → at mid.graph.heights a ≡ at old.graph.heights a) (points : KeepsPoints mid.graph.heights g.heights)
    (also : AlsoNeeded mid.graph g q) (heap : KeepsPoints mid.graph.heap g.heap)
    (links : (a b : Point) → Reads g.links a b → Reads old.graph.links a b ⊎ MayRead old a b)
    (woken : IsTrue newly → IsNewlyNeeded (record mid { graph = g }) new q) (same : IsFalse newly → new ≡ record mid { graph = g })
    (step_is : IsInStep new.graph) where
  -- the graph has grown
  abbrev part : Work
  part = record mid { graph = g }

  part_most : KeepsMost old part
  part_most = most_then old mid part (most_still old mid looks.rows looks.lists looks.round) (most_same mid g mid.todo mid.retries)

  needed_then : (a : Point) → Needed old.graph a → Needed g a
  needed_then a n = (also a).1 (inl ((looks.needed a).1 n))

  heap_before : (a : Point) → Holds g.heap a → Holds old.graph.heap a
  heap_before a h = sym (looks.heap a) ∙ (sym (heap a) ∙ h)

  grown_part : IsInStep g → IsGrown old part q
  grown_part step_of = record {
    step = step_of;
    most = part_most;
    needed = needed_then;
    also = (also q).1 (inr refl);
    heights = λ a ne. points a ∙ ap is_some (others a ne);
    links = links;
    heap = λ a h. inl (heap_before a h);
  }

  module _ (w : IsNewlyNeeded part new q) where
    pub woken_need : (a : Point) → Needed new.graph a ↔ Needed g a
    woken_need = same_need g new.graph (λ a. ap (λ (r : Roots). root_times r a) w.graph.roots) (λ a b. ap (λ (l : Links). times l a b) w.graph.links)

    heap_woken : (a : Point) → Holds new.graph.heap a → Holds old.graph.heap a ⊎ Holds old.rows a
    heap_woken a h = elim (same_or_other q a) [
      | inl e ↦ subst (λ (x : Point). Holds old.graph.heap x ⊎ Holds old.rows x) e
          (elim (w.only (subst (λ (x : Point). Holds new.graph.heap x) (sym e) h)) [
            | inl before ↦ inl (heap_before q before)
            | inr row ↦ inr (sym (ap is_some (looks.rows q)) ∙ row.0)
          ])
      | inr ne ↦ inl (heap_before a (sym (ap is_some (w.others a (λ e. ne (sym e)))) ∙ h))
    ]

    grown_woken : IsGrown old new q
    grown_woken = record {
      step = step_is;
      most = most_then old part new part_most (most_staged part new q code.Bare w.rows w.lists w.round);
      needed = λ a n. (woken_need a).1 (needed_then a n);
      also = (woken_need q).1 ((also q).1 (inr refl));
      heights = λ a ne. ap (λ (h : Rows ℕ). is_some (at h a)) w.graph.heights ∙ (points a ∙ ap is_some (others a ne));
      links = λ a b r. links a b (subst (λ (l : Links). Reads l a b) w.graph.links r);
      heap = heap_woken;
    }

  pub grown : IsGrown old new q
  grown = elim (bool_cases newly) [
    | inl t ↦ grown_woken (woken t)
    | inr f ↦ subst (λ (x : Work). IsGrown old x q) (sym (same f)) (grown_part (subst (λ (x : Work). IsInStep x.graph) (same f) step_is))
  ]

-- ---- a link was put on

module _ (old mid new : Work) (g : NecessaryPart) (p q : Point) (newly : Bool) (looks : ShowsSame old mid)
    (others : (a : Point) → a ≢ q → at mid.graph.heights a ≡ at old.graph.heights a) (points : KeepsPoints mid.graph.heights g.heights)
    (reached : IsReached mid.graph g q) (more : OneLinkMore mid.graph.links g.links p q) (roots : KeepsRoots mid.graph.roots g.roots)
    (newly_is : IsFalse newly ↔ Needed mid.graph q) (may : MayRead old p q)
    (woken : IsTrue newly → IsNewlyNeeded (record mid { graph = g }) new q) (same : IsFalse newly → new ≡ record mid { graph = g })
    (step_is : IsInStep new.graph) where
  fresh : IsTrue newly → Needed mid.graph q → ⊥
  fresh t n = let f = newly_is.1 n in let e = t in cc

  -- what is linked was linked, or is the new link
  links_before : (a b : Point) → Reads g.links a b → Reads old.graph.links a b ⊎ MayRead old a b
  links_before a b r = elim (read_with mid.graph.links g.links p q more a b r) [
    | inl before ↦ inl (omega (arith, looks.links a b, before))
    | inr link ↦ inr (subst (λ (x : Point). MayRead old x b) (sym link.0) (subst (λ (y : Point). MayRead old p y) (sym link.1) may))
  ]

  with_link : IsGrown old new q
  with_link = grown old mid new g q newly looks others points reached.needed reached.points links_before woken same step_is

  put_on : (arena : Arena) → IsKept arena old → IsTarget arena old q → Needed mid.graph p → PutsOn arena old new p q
  put_on arena kept target need F z s counts rest due =
      let st = due.stands in
      let at_mid = looks_stands s arena old mid counts (Some (hand p (q ∷ rest))) looks st in
      let row : is_some (at mid.rows q) ≡ is_some (s.graph.row q.node) =
      ap is_some (looks.rows q) ∙ (target_row arena old q kept target ∙ sym (ap (λ (G : Graph). is_some (G.row q.node)) st.graph)) in
      elim (bool_cases newly) [
        | inl t ↦ linked_new_stands F z s arena mid new g counts p q rest at_mid reached more roots need due.depends due.confirmed (fresh t) (woken t)
            (same_need g new.graph (λ a. ap (λ (r : Roots). root_times r a) (woken t).graph.roots)
            (λ a b. ap (λ (l : Links). times l a b) (woken t).graph.links)) row due.unlinked
        | inr f ↦ subst (λ (x : Work). (t : State) × Reaches (Wiring F z) s t × MatchesState arena x counts (Some (hand p rest)) t × AreUnlinked (Some (hand p [])) t) (sym (same f))
            (linked_stands F z s arena mid g counts p q rest at_mid reached more roots need due.depends due.confirmed (newly_is.0 f) due.unlinked)
      ]

  same_roots : KeepsRoots old.graph.roots new.graph.roots
  same_roots a = elim (bool_cases newly) [
    | inl t ↦ ap (λ (r : Roots). root_times r a) (woken t).graph.roots ∙ (roots a ∙ looks.roots a)
    | inr f ↦ ap (λ (x : Work). root_times x.graph.roots a) (same f) ∙ (roots a ∙ looks.roots a)
  ]

  same_retries : new.retries ≡ old.retries
  same_retries = elim (bool_cases newly) [
    | inl t ↦ (woken t).round.retries ∙ looks.round.retries
    | inr f ↦ ap (λ (x : Work). x.retries) (same f) ∙ looks.round.retries
  ]

  same_experts : new.experts ≡ old.experts
  same_experts = elim (bool_cases newly) [
    | inl t ↦ (woken t).round.experts ∙ looks.round.experts
    | inr f ↦ ap (λ (x : Work). x.experts) (same f) ∙ looks.round.experts
  ]

  -- rows of what was needed stay
  needed_rows : (a : Point) → Needed old.graph a → at new.rows a ≡ at old.rows a
  needed_rows a n = elim (bool_cases newly) [
    | inl t ↦ (woken t).rows.others a (λ e. fresh t (subst (Needed mid.graph) e ((looks.needed a).1 n))) ∙ looks.rows a
    | inr f ↦ ap (λ (x : Work). at x.rows a) (same f) ∙ looks.rows a
  ]

  -- a point that comes into the worklist is newly needed
  grows : IsInStep old.graph → Grows old new
  grows before points covers =
      let fewer = no_more_unneeded old.graph new.graph before step_is with_link.needed points in
      let retries = same_retries in
      rw retries (by newly refl fewer)
    where
      pushed : newly ≡ true → unneeded new.graph points ≤ unneeded old.graph points → HasLinks mid q
          → old.retries * (length points + 2) + (length new.todo.items + unneeded new.graph points)
          ≤ old.retries * (length points + 2) + (length old.todo.items + unneeded old.graph points)
      pushed t fewer has =
          let less = fewer_unneeded old.graph new.graph before step_is with_link.needed points q
          (covers q (has_links_same mid old (λ a. sym (ap is_some (looks.rows a))) (sym looks.round.deaths) q has))
          (λ n. fresh t ((looks.needed q).1 n)) with_link.also in
          let e = ap length looks.todo in
          let m = ap length ((woken t).pushed has) ∙ length-append mid.todo.items (q ∷ []) in
          omega (arith, m, e, less)

      by : (b : Bool) → newly ≡ b → unneeded new.graph points ≤ unneeded old.graph points
          → old.retries * (length points + 2) + (length new.todo.items + unneeded new.graph points)
          ≤ old.retries * (length points + 2) + (length old.todo.items + unneeded old.graph points)
      by false f fewer = let e = ap (λ (x : Work). length x.todo.items) (same f) ∙ ap length looks.todo in omega (arith, e, fewer)
      by true t fewer = elim (some_or_none (at mid.rows q)) [
        | inl k ↦ pushed t fewer (inl (ap is_some k.1))
        | inr dead ↦ elim (some_or_none (died_at mid q.node)) [
          | inl b ↦ pushed t fewer (inr (ap is_some b.1))
          | inr leaf ↦ let e = ap length looks.todo in let m = ap length ((woken t).leaf dead leaf) in omega (arith, m, e, fewer)
        ]
      ]

  -- the new link is on
  reads_on : Reads new.graph.links p q
  reads_on = elim (bool_cases newly) [
    | inl t ↦ subst (λ (l : Links). Reads l p q) (sym (woken t).graph.links) (let r = more.raised in omega (arith, r))
    | inr f ↦ subst (λ (x : Work). Reads x.graph.links p q) (sym (same f)) (let r = more.raised in omega (arith, r))
  ]

  pub put_on_answers : {A : Type 0} (x : A) (arena : Arena) → IsKept arena old → IsTarget arena old q → Needed old.graph p
      → LinkAnswers arena old new p q (Ok x)
  put_on_answers x arena kept target need = record {
    linked = put_on arena kept target ((looks.needed p).1 need);
    needed = (with_link.needed p need, with_link.also);
    reads = reads_on;
    rows = needed_rows;
    levelled = tt;
    why = tt;
    retries = same_retries;
    experts = same_experts;
    places = record {
      rows = with_link.most.held;
      roots = same_roots;
      deaths = with_link.most.deaths;
      round = with_link.most.round;
      experts = with_link.most.experts;
    };
    kept = grown_kept old new q with_link arena target kept;
    pushed = grows kept.step;
  }

-- it wasn't
pub levelled_answers : {A : Type 0} (e : LinkFault) (arena : Arena) (old new : Work) (p q : Point) → IsLevelled old new → IsKept arena old
    → TellsFault new p q e → LinkAnswers {A = A} arena old new p q (Err e)
levelled_answers e arena old new p q l kept why = record {
  linked = tt;
  needed = tt;
  reads = tt;
  rows = λ a need. l.rows a;
  levelled = l;
  why = why;
  retries = l.round.retries;
  experts = l.round.experts;
  places = record {
    rows = λ a. ap is_some (l.rows a);
    roots = l.roots;
    deaths = l.round.deaths;
    round = l.round.round;
    experts = read_as old.experts new.experts l.round.experts;
  };
  kept = levelled_kept arena old new l kept;
  pushed = tt;
}
