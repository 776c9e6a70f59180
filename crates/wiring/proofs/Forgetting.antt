-- What is kept of a node that died goes, and what reads it is told.
use Rattle.std.proofs.Common.{◌≡◌, ◌≢◌, ◌⊎◌, inl, inr, ℕ, Bool, None, refl, sym, ap, subst, ◌∙◌}
use Rattle.std.specs.Prelude.{is_some, IsSome, ◌||◌}
use Rattle.std.proofs.lemmas.Bool.{or_parts, or_from}
use Rattle.inc_value.specs.declared.node.NodeId.{NodeId}
use Rattle.inc_value.specs.declared.node.Part.{Part}
use Rattle.inc_value.specs.declared.node.Part.TheVariants.{Main, Change}
use Rattle.inc_value.specs.declared.node.Point.{Point}
use Rattle.inc_terms.specs.Depend.{main, change}
use Rattle.point_map.specs.Rows.{Rows, at, Holds, Changes}
use Rattle.point_map.proofs.Places.{point_cases}
use Rattle.necessary_graph.specs.Part.{NecessaryPart, Needed, IsInStep}
use Rattle.necessary_graph.specs.Readers.{HasReaders}
use Rattle.node_lists.specs.Listed.{Listed}
use Rattle.node_outcomes.specs.Row.{settled_in}
use Rattle.node_outcomes.specs.Progress.{Progress}
use Rattle.stabilize_round.proofs.Parts.{bool_cases}
use Rattle.stabilize_round.proofs.Points.{node_or_other}
use Rattle.wiring.specs.Graph.{died_at}
use Rattle.wiring.specs.Scoped.{AreTold, IsPointForgotten, IsForgotten, IsElsewhere}
use Rattle.wiring.specs.declared.work.Work.{Work}
use Rattle.wiring.proofs.Deciding.{need_same, not_both}
use Rattle.wiring.proofs.Enqueuing.{keeps_graph, readers_kept, readers_told, readers_only}
use Rattle.wiring.proofs.Linking.{none_if}
use Rattle.wiring.proofs.Placing.{both_gone}
use Rattle.wiring.proofs.Releasing.{main_or_change, main_apart}

-- ---- the readers that live on

-- the points that aren't told
abbrev untold : Work → Point → Bool
untold old r = settled_in old.round (at old.rows r) || is_some (died_at old r.node)

pub survivors_told : (old new : Work) (q : Point) → new.graph ≡ record old.graph { heap = new.graph.heap } → IsInStep old.graph
    → HasReaders old.graph.heights old.graph.links q (untold old) old.graph.heap new.graph.heap → AreTold old new q
survivors_told old new q e step so = record {
  graph = keeps_graph old.graph new.graph e;
  kept = readers_kept old new q step (untold old) so;
  told = λ r reads. elim (bool_cases (settled_in old.round (at old.rows r))) [
    | inl t ↦ inr (inl t)
    | inr f ↦ elim (bool_cases (is_some (died_at old r.node))) [
      | inl d ↦ inr (inr d)
      | inr l ↦ elim (readers_told old new q step (untold old) so r reads) [ inl h ↦ inl h | inr over ↦ absurd (not_both _ (or_from _ _ f l) over) ]
    ]
  ];
  only = λ r h. elim (readers_only old new q step (untold old) so r h) [
    | inl was ↦ inl was
    | inr k ↦ inr (let both = or_parts _ _ k.1 in (k.0, both.0, none_if (died_at old r.node) both.1))
  ];
}

-- ---- one point

module _ (old new : Work) (q : Point) (b : IsPointForgotten old new q) where
  -- need stays
  pub need_kept : (p : Point) → Needed old.graph p → Needed new.graph p
  need_kept p n = need_same old.graph new.graph b.links b.roots p n

  pub need_was : (p : Point) → Needed new.graph p → Needed old.graph p
  need_was p n = need_same new.graph old.graph (sym b.links) (sym b.roots) p n

  -- a needed point keeps its height
  pub height_kept : (p : Point) → Needed old.graph p → at new.graph.heights p ≡ at old.graph.heights p
  height_kept p n = elim b.heights [
    | inl k ↦ ap (λ m. at m p) k.1
    | inr k ↦ k.1.others p (λ e. k.0 (subst (λ (x : Point). Needed old.graph x) e n))
  ]

  -- so does every other
  pub height_other : (p : Point) → p ≢ q → at new.graph.heights p ≡ at old.graph.heights p
  height_other p other = elim b.heights [ inl k ↦ ap (λ m. at m p) k.1 | inr k ↦ k.1.others p other ]

  -- it goes where it isn't needed
  pub height_gone : (Needed old.graph q → ⊥) → at new.graph.heights q ≡ None
  height_gone none = elim b.heights [ inl k ↦ absurd (none k.0) | inr k ↦ k.1.changed ]

  -- what isn't there doesn't come
  pub height_stays_gone : (p : Point) → at old.graph.heights p ≡ None → at new.graph.heights p ≡ None
  height_stays_gone p gone = elim b.heights [
    | inl k ↦ ap (λ m. at m p) k.1 ∙ gone
    | inr k ↦ elim (point_cases p q) [
      | inl same ↦ ap (at new.graph.heights) same ∙ k.1.changed
      | inr other ↦ k.1.others p other ∙ gone
    ]
  ]

  -- what is in the heap was
  pub heap_was : (p : Point) → Holds new.graph.heap p → Holds old.graph.heap p
  heap_was p h = elim (point_cases p q) [
    | inl same ↦ absurd (let e = sym (ap is_some (ap (at new.graph.heap) same ∙ b.heap.changed)) ∙ h in cc)
    | inr other ↦ sym (ap is_some (b.heap.others p other)) ∙ h
  ]

  pub heap_stays_out : (p : Point) → at old.graph.heap p ≡ None → at new.graph.heap p ≡ None
  heap_stays_out p out = elim (point_cases p q) [
    | inl same ↦ ap (at new.graph.heap) same ∙ b.heap.changed
    | inr other ↦ b.heap.others p other ∙ out
  ]

  pub heap_kept : (p : Point) → p ≢ q → Holds old.graph.heap p → Holds new.graph.heap p
  heap_kept p other h = ap is_some (b.heap.others p other) ∙ h

-- what the code makes of a point
module _ (old : Work) (p : Point) (g : NecessaryPart) (rows : Rows Progress) (e : g ≡ record old.graph { heap = g.heap })
    (heap : Changes old.graph.heap g.heap p None) (row : Changes old.rows rows p None) where
  need_is : Needed g p → Needed old.graph p
  need_is n = need_same g old.graph (sym (ap (λ (x : NecessaryPart). x.links) e)) (sym (ap (λ (x : NecessaryPart). x.roots) e)) p n

  need_too : Needed old.graph p → Needed g p
  need_too n = need_same old.graph g (ap (λ (x : NecessaryPart). x.links) e) (ap (λ (x : NecessaryPart). x.roots) e) p n

  -- a needed one stays
  pub point_kept : Needed g p → IsPointForgotten old (record old { graph = g; rows = rows }) p
  point_kept n = record {
    row = row;
    heap = heap;
    links = ap (λ (x : NecessaryPart). x.links) e;
    roots = ap (λ (x : NecessaryPart). x.roots) e;
    heights = inl (need_is n, ap (λ (x : NecessaryPart). x.heights) e);
  }

  -- another goes
  pub point_gone : (new : NecessaryPart) → (Needed g p → ⊥) → Changes g.heights new.heights p None → new.roots ≡ g.roots → new.links ≡ g.links
      → new.heap ≡ g.heap → IsPointForgotten old (record old { graph = new; rows = rows }) p
  point_gone new none dropped roots links same = record {
    row = row;
    heap = subst (λ (m : Rows ℕ). Changes old.graph.heap m p None) (sym same) heap;
    links = links ∙ ap (λ (x : NecessaryPart). x.links) e;
    roots = roots ∙ ap (λ (x : NecessaryPart). x.roots) e;
    heights = inr (
      (λ n. none (need_too n)),
      subst (λ (m : Rows ℕ). Changes m new.heights p None) (ap (λ (x : NecessaryPart). x.heights) e) dropped,
    );
  }

other_node : (p q : Point) (n : NodeId) → q.node ≡ n → p.node ≢ n → p ≢ q
other_node p q n is other e = other (ap (λ (x : Point). x.node) e ∙ is)

-- ---- a node

-- rows stay while readers are told
pub told_rows : (old told : Work) → told ≡ record old { graph = told.graph } → told.rows ≡ old.rows
told_rows old told e = ap (λ (w : Work). w.rows) e

-- the change's row is as it was while the main goes
pub row_before : (old told gone : Work) (n : NodeId) → told.rows ≡ old.rows → IsPointForgotten told gone (main n) → at gone.rows (change n) ≡ at old.rows (change n)
row_before old told gone n rows b = b.row.others (change n) (λ e. main_apart n n (sym e)) ∙ ap (λ m. at m (change n)) rows

pub height_before : (old told gone : Work) (n : NodeId) → AreTold old told (main n) → IsPointForgotten told gone (main n)
    → at gone.graph.heights (change n) ≡ at old.graph.heights (change n)
height_before old told gone n t b =
    height_other told gone (main n) b (change n) (λ e. main_apart n n (sym e)) ∙ ap (λ m. at m (change n)) t.graph.heights

-- a node of one point
module _ (old told gone : Work) (n : NodeId) (died : IsSome (died_at old n)) (t : AreTold old told (main n)) (rows : told.rows ≡ old.rows)
    (b : IsPointForgotten told gone (main n)) where
  -- what is of the graph before is of it after the readers were told
  told_need : (p : Point) → Needed old.graph p → Needed told.graph p
  told_need p n = need_same old.graph told.graph t.graph.links t.graph.roots p n

  told_was : (p : Point) → Needed told.graph p → Needed old.graph p
  told_was p n = need_same told.graph old.graph (sym t.graph.links) (sym t.graph.roots) p n

  told_height : (p : Point) → at told.graph.heights p ≡ at old.graph.heights p
  told_height p = ap (λ m. at m p) t.graph.heights

  told_row : (p : Point) → at told.rows p ≡ at old.rows p
  told_row p = ap (λ m. at m p) rows

  pub forgotten_alone : (scoped : Listed) → at old.rows (change n) ≡ None → gone.roots ≡ old.roots → IsElsewhere old (record gone { scoped = scoped })
      → IsForgotten old (record gone { scoped = scoped }) n
  forgotten_alone scoped none roots beside = record {
    rows = record {
      now = λ part. now part;
      others = λ p other. b.row.others p (other_node p (main n) n refl other) ∙ told_row p;
    };
    roots = λ p other. ap (λ m. at m p) roots;
    rootless = λ h. absurd (let e = sym (ap is_some none) ∙ h in cc);
    still_rootless = λ _. roots;
    links = b.links ∙ t.graph.links;
    graph_roots = b.roots ∙ t.graph.roots;
    others = λ p other. height_other told gone (main n) b p (other_node p (main n) n refl other) ∙ told_height p;
    there = λ p need. height_kept told gone (main n) b p (told_need p need) ∙ told_height p;
    gone = λ p is h unneeded. elim (main_or_change p n is) [
      | inl m ↦ rw m (height_gone told gone (main n) b (λ need. unneeded (told_was p (subst (λ (x : Point). Needed told.graph x) (sym m) need))))
      | inr c ↦ absurd (let e = sym (ap is_some (ap (at old.rows) c ∙ none)) ∙ h in cc)
    ];
    out = λ p is h. elim (main_or_change p n is) [
      | inl m ↦ ap (at gone.graph.heap) m ∙ b.heap.changed
      | inr c ↦ absurd (let e = sym (ap is_some (ap (at old.rows) c ∙ none)) ∙ h in cc)
    ];
    kept = λ p other h. heap_kept told gone (main n) b p (other_node p (main n) n refl other) (t.kept p h);
    told = λ p reads. elim (t.told p reads) [
      | inl h ↦ elim (node_or_other p.node n) [
        | inl is ↦ inr (inr (subst (λ (x : NodeId). IsSome (died_at old x)) (sym is) died))
        | inr other ↦ inl (heap_kept told gone (main n) b p (other_node p (main n) n refl other) h)
      ]
      | inr k ↦ inr k
    ];
    only = λ p h. t.only p (heap_was told gone (main n) b p h);
    elsewhere = beside;
  }
    where
      now : (part : Part) → at gone.rows (record { node = n; part = part }) ≡ None
      now Main = b.row.changed
      now Change = b.row.others (change n) (λ e. main_apart n n (sym e)) ∙ (told_row (change n) ∙ none)

  -- a node of two points
  module _ (scoped : Listed) (mid last : Work) (graph : last.graph ≡ mid.graph) (same_rows : last.rows ≡ mid.rows)
      (c : IsPointForgotten (record gone { scoped = scoped }) mid (change n)) where
    -- what follows for the second point, over what the first left
    second : IsPointForgotten gone last (change n)
    second = record {
      row = subst (λ (m : Rows Progress). Changes gone.rows m (change n) None) (sym same_rows) c.row;
      heap = subst (λ (g : NecessaryPart). Changes gone.graph.heap g.heap (change n) None) (sym graph) c.heap;
      links = ap (λ (g : NecessaryPart). g.links) graph ∙ c.links;
      roots = ap (λ (g : NecessaryPart). g.roots) graph ∙ c.roots;
      heights = subst (λ (g : NecessaryPart). (Needed gone.graph (change n) × (g.heights ≡ gone.graph.heights))
          ⊎ ((Needed gone.graph (change n) → ⊥) × Changes gone.graph.heights g.heights (change n) None)) (sym graph) c.heights;
    }

    pub forgotten_both : (pairs : Listed) → Holds old.rows (change n) → Changes old.roots last.roots (change n) None
        → IsElsewhere old (record last { pairs = pairs }) → IsForgotten old (record last { pairs = pairs }) n
    forgotten_both pairs there roots beside = record {
      rows = both_gone old.rows gone.rows last.rows n (subst (λ (m : Rows Progress). Changes m gone.rows (main n) None) rows b.row) second.row;
      roots = λ p other. roots.others p other;
      rootless = λ h. roots.changed;
      still_rootless = λ none. absurd (let e = sym (ap is_some none) ∙ there in cc);
      links = second.links ∙ (b.links ∙ t.graph.links);
      graph_roots = second.roots ∙ (b.roots ∙ t.graph.roots);
      others = λ p other. height_other gone last (change n) second p (other_node p (change n) n refl other)
          ∙ (height_other told gone (main n) b p (other_node p (main n) n refl other) ∙ told_height p);
      there = λ p need. height_kept gone last (change n) second p (need_kept told gone (main n) b p (told_need p need))
          ∙ (height_kept told gone (main n) b p (told_need p need) ∙ told_height p);
      gone = λ p is h unneeded. elim (main_or_change p n is) [
        | inl m ↦ rw m (height_stays_gone gone last (change n) second (main n)
            (height_gone told gone (main n) b (λ need. unneeded (told_was p (subst (λ (x : Point). Needed told.graph x) (sym m) need)))))
        | inr k ↦ rw k (height_gone gone last (change n) second
            (λ need. unneeded (told_was p (need_was told gone (main n) b p (subst (λ (x : Point). Needed gone.graph x) (sym k) need)))))
      ];
      out = λ p is h. elim (main_or_change p n is) [
        | inl m ↦ ap (at last.graph.heap) m ∙ heap_stays_out gone last (change n) second (main n) b.heap.changed
        | inr k ↦ ap (at last.graph.heap) k ∙ second.heap.changed
      ];
      kept = λ p other h. heap_kept gone last (change n) second p (other_node p (change n) n refl other)
          (heap_kept told gone (main n) b p (other_node p (main n) n refl other) (t.kept p h));
      told = λ p reads. elim (t.told p reads) [
        | inl h ↦ elim (node_or_other p.node n) [
          | inl is ↦ inr (inr (subst (λ (x : NodeId). IsSome (died_at old x)) (sym is) died))
          | inr other ↦ inl (heap_kept gone last (change n) second p (other_node p (change n) n refl other)
              (heap_kept told gone (main n) b p (other_node p (main n) n refl other) h))
        ]
        | inr k ↦ inr k
      ];
      only = λ p h. t.only p (heap_was told gone (main n) b p (heap_was gone last (change n) second p h));
      elsewhere = beside;
    }

-- ---- as the code goes

-- other rows and another graph
abbrev pub with_graph : Work → NecessaryPart → Work
with_graph w g = record w { graph = g }

abbrev pub with_rows : Work → NecessaryPart → Rows Progress → Work
with_rows w g rows = record w { graph = g; rows = rows }

module _ (old told gone : Work) (first : told ≡ with_graph old told.graph) (second : gone ≡ with_rows told gone.graph gone.rows) where
  pub elsewhere_alone : (scoped : Listed) → scoped.nodes ≡ gone.scoped.nodes → IsElsewhere old (record gone { scoped = scoped })
  elsewhere_alone scoped same = record {
    deaths = ap (λ (w : Work). w.deaths) second ∙ ap (λ (w : Work). w.deaths) first;
    pairs = ap (λ (w : Work). w.pairs.nodes) second ∙ ap (λ (w : Work). w.pairs.nodes) first;
    scoped = same ∙ (ap (λ (w : Work). w.scoped.nodes) second ∙ ap (λ (w : Work). w.scoped.nodes) first);
    todo = ap (λ (w : Work). w.todo) second ∙ ap (λ (w : Work). w.todo) first;
    ran = ap (λ (w : Work). w.ran) second ∙ ap (λ (w : Work). w.ran) first;
    retries = ap (λ (w : Work). w.retries) second ∙ ap (λ (w : Work). w.retries) first;
    round = ap (λ (w : Work). w.round) second ∙ ap (λ (w : Work). w.round) first;
    experts = ap (λ (w : Work). w.experts) second ∙ ap (λ (w : Work). w.experts) first;
  }

  pub roots_alone : gone.roots ≡ old.roots
  roots_alone = ap (λ (w : Work). w.roots) second ∙ ap (λ (w : Work). w.roots) first

  module _ (scoped : Listed) (same : scoped.nodes ≡ gone.scoped.nodes) (last rootless : Work)
      (third : last ≡ with_rows (record gone { scoped = scoped }) last.graph last.rows) (fourth : rootless ≡ record last { roots = rootless.roots }) where
    pub elsewhere_both : (pairs : Listed) → pairs.nodes ≡ rootless.pairs.nodes → IsElsewhere old (record rootless { pairs = pairs })
    elsewhere_both pairs pairs_same =
        let before = elsewhere_alone scoped same in record {
          deaths = ap (λ (w : Work). w.deaths) fourth ∙ (ap (λ (w : Work). w.deaths) third ∙ before.deaths);
          pairs = pairs_same ∙ (ap (λ (w : Work). w.pairs.nodes) fourth ∙ (ap (λ (w : Work). w.pairs.nodes) third ∙ before.pairs));
          scoped = ap (λ (w : Work). w.scoped.nodes) fourth ∙ (ap (λ (w : Work). w.scoped.nodes) third ∙ before.scoped);
          todo = ap (λ (w : Work). w.todo) fourth ∙ (ap (λ (w : Work). w.todo) third ∙ before.todo);
          ran = ap (λ (w : Work). w.ran) fourth ∙ (ap (λ (w : Work). w.ran) third ∙ before.ran);
          retries = ap (λ (w : Work). w.retries) fourth ∙ (ap (λ (w : Work). w.retries) third ∙ before.retries);
          round = ap (λ (w : Work). w.round) fourth ∙ (ap (λ (w : Work). w.round) third ∙ before.round);
          experts = ap (λ (w : Work). w.experts) fourth ∙ (ap (λ (w : Work). w.experts) third ∙ before.experts);
        }

    pub roots_both : (n : NodeId) → Changes last.roots rootless.roots (change n) None → Changes old.roots rootless.roots (change n) None
    roots_both n c =
        subst (λ (m : Rows NodeId). Changes m rootless.roots (change n) None) (ap (λ (w : Work). w.roots) third ∙ roots_alone) c

    pub last_graph : rootless.graph ≡ last.graph
    last_graph = ap (λ (w : Work). w.graph) fourth

    pub last_rows : rootless.rows ≡ last.rows
    last_rows = ap (λ (w : Work). w.rows) fourth
