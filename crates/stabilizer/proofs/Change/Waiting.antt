-- A main waits again before its node's change is settled. In the machine the change is in the heap still while that is done.
use Rattle.std.proofs.Common.{◌≡◌, ◌≢◌, ◌⊎◌, inl, inr, ℕ, ◌+◌, ◌≤◌, Bool, true, false, ◌∷◌, Option, None, Some, refl, sym, ap, subst, ◌∙◌, arith, Vec, Global}
use Rattle.std.specs.Prelude.{is_some, not}
use Rattle.std.proofs.lemmas.Option.{none-some}
use Rattle.inc_value.specs.declared.node.NodeId.{NodeId}
use Rattle.inc_value.specs.declared.node.Point.{Point}
use Rattle.inc_terms.specs.Depend.{main, change, subject_of}
use Rattle.inc_terms.specs.Graph.{Row}
use Rattle.point_map.specs.Rows.{Rows, at, Holds, Changes, same_point}
use Rattle.point_map.proofs.Places.{same_point_eq, same_point_self}
use Rattle.link_table.specs.Links.{Links, times, Reads, OneLinkMore}
use Rattle.link_table.specs.declared.link.Link.{Link}
use Rattle.necessity.specs.Need.{Roots, root_times, KeepsRoots}
use Rattle.height_order.specs.Levels.{level, or_zero}
use Rattle.necessary_graph.specs.Part.{NecessaryPart, Needed, IsInStep}
use Rattle.necessary_graph.specs.Sweep.{Sweep, IsUnlinked, DropsLeaves}
use Rattle.necessary_graph.proofs.Reaching.{read_needed, needed_more}
use Rattle.node_arena.specs.Arena.{Arena, row_at}
use Rattle.node_outcomes.specs.Choosing.{right_in}
use Rattle.stabilize_round.specs.State.{one}
use Rattle.stabilize_round.proofs.Points.{same_or_other, one_same, one_other}
use Rattle.wiring.specs.Graph.{rowless}
use Rattle.wiring.specs.Kept.{IsKept}
use Rattle.wiring.specs.Turning.{IsAttached, IsDetached, IsOff}
use Rattle.wiring.specs.declared.work.Work.{Work}
use Rattle.wiring.proofs.Deciding.{need_same}

-- ---- a point is put into a heap

module _ (h : Rows ℕ) (p : Point) (k : ℕ) where
  abbrev pub put : Rows ℕ
  put = record { places = Some (p, k) ∷ h.places; spare = h.spare }

  pub put_changes : Changes h put p (Some k)
  put_changes = record { changed = (let e = same_point_self p in rw e refl); others = λ q ne. by_test q ne (same_point p q) refl }
    where
      by_test : (q : Point) → q ≢ p → (b : Bool) → same_point p q ≡ b → at put q ≡ at h q
      by_test q ne true e = absurd (ne (sym (same_point_eq p q e)))
      by_test q ne false e = rw e refl

-- the work as if the change hadn't left the heap
abbrev pub with_change : Work → NodeId → Work
with_change work n = record work { graph = record work.graph { heap = put work.graph.heap (change n) (level work.graph.heights (change n)) } }

module _ (work : Work) (n : NodeId) where
  pub put_back : Changes work.graph.heap (with_change work n).graph.heap (change n) (Some (level work.graph.heights (change n)))
  put_back = put_changes work.graph.heap (change n) (level work.graph.heights (change n))

-- ---- what is swept stands

module _ (g : NecessaryPart) (links : Links) (new : NecessaryPart) (leaf : Point → Bool) (in_step : IsInStep g)
    (fewer : (p q : Point) → times links p q ≤ times g.links p q) (sweep : Sweep (record g { links = links }) new) (drops : DropsLeaves leaf g new) where
  read_before : (p q : Point) → Reads new.links p q → Reads g.links p q
  read_before p q r = let a = fewer p q in let b = sweep.fewer p q in omega (arith, a, b, r)

  need_before : (p : Point) → Needed (record g { links = links }) p → Needed g p
  need_before p n = needed_more (record g { links = links }) g (λ a r. r) (λ a b l. let f = fewer a b in omega (arith, f, l)) p n

  still_at : (p : Point) → Needed new p → at new.heights p ≡ at g.heights p
  still_at p n = elim (drops.heights p) [ inl e ↦ e | inr d ↦ absurd (d.unneeded n) ]

  reader : (p q : Point) → Reads new.links p q → Needed new p
  reader p q r = (sweep.reached p).1 (sweep.gone p q r)

  pub swept_in_step : IsInStep new
  swept_in_step = record {
    ends = λ p q r.
        let e = in_step.ends p q (read_before p q r) in
        (ap is_some (still_at p (reader p q r)) ∙ e.0, ap is_some (still_at q (read_needed new p q (reader p q r) r)) ∙ e.1);
    rises = λ p q r.
        let e = in_step.rises p q (read_before p q r) in
        let a : level new.heights p ≡ level g.heights p = ap or_zero (still_at p (reader p q r)) in
        let b : level new.heights q ≡ level g.heights q = ap or_zero (still_at q (read_needed new p q (reader p q r) r)) in
        omega (arith, e, a, b);
    low = λ p. elim (drops.heights p) [
      | inl e ↦ let l = in_step.low p in let a : level new.heights p ≡ level g.heights p = ap or_zero e in omega (arith, l, a)
      | inr d ↦ let a : level new.heights p ≡ 0 = ap or_zero d.gone in omega (arith, a)
    ];
    readers = reader;
    there = λ p n. ap is_some (still_at p n) ∙ in_step.there p (need_before p ((sweep.reached p).0 n));
    heap = λ p h e.
        let b = sweep.heap p h e in
        let n = (sweep.reached p).1 b.1 in
        (still_at p n ∙ (in_step.heap p h b.0).0, n);
  }

-- one link fewer
pub fewer_links : (fewer more : Links) (p q : Point) → OneLinkMore fewer more p q → (a b : Point) → times fewer a b ≤ times more a b
fewer_links fewer more p q off a b = elim (same_or_other a p) [
  | inl e ↦ elim (same_or_other b q) [
    | inl f ↦ subst (λ (x : Point). times fewer x b ≤ times more x b) (sym e)
        (subst (λ (y : Point). times fewer p y ≤ times more p y) (sym f) (let raised = off.raised in omega (arith, raised)))
    | inr ne ↦ let o = off.others a b (λ h. ne (ap (λ (l : Link). l.kid) h)) in omega (arith, o)
  ]
  | inr ne ↦ let o = off.others a b (λ h. ne (ap (λ (l : Link). l.reader) h)) in omega (arith, o)
]

-- nothing is taken off
pub same_swept : (g : NecessaryPart) → IsInStep g → Sweep g g
same_swept g in_step = record {
  roots = λ p. refl;
  reached = λ p. ((λ n. n), (λ n. n));
  kept = λ p q n. refl;
  gone = λ p q r. in_step.readers p q r;
  fewer = λ p q. omega arith;
  heap_kept = λ p n. refl;
  heap = λ p h e. (e, (in_step.heap p h e).1);
}

-- the graph without a main's right side, and what is left where points are no longer needed
pub record IsWithout (leaf : Point → Bool) (g new : NecessaryPart) (n : NodeId) (right : Option NodeId) : Type 0 where
  pub links : Links
  pub others : (a b : Point) → (main n ≡ a → ⊥) → times links a b ≡ times g.links a b
  pub mine : (m : NodeId) → right ≡ Some m → Reads g.links (main n) (main m) → (b : Point)
      → times links (main n) b + one b (main m) ≡ times g.links (main n) b
  pub all : right ≡ None → (b : Point) → times links (main n) b ≡ times g.links (main n) b
  pub fewer : (a b : Point) → times links a b ≤ times g.links a b
  pub sweep : Sweep (record g { links = links }) new
  pub drops : DropsLeaves leaf g new

off_none : (leaf : Point → Bool) (g new : NecessaryPart) (n : NodeId) (right : Option NodeId) → IsInStep g → new ≡ g
    → ((m : NodeId) → right ≡ Some m → Reads g.links (main n) (main m) → ⊥) → IsWithout leaf g new n right
off_none leaf g new n right in_step same not = record {
  links = g.links;
  others = λ a b ne. refl;
  mine = λ m is reads. absurd (not m is reads);
  all = λ is b. refl;
  fewer = λ a b. omega arith;
  sweep = subst (λ (x : NecessaryPart). Sweep g x) (sym same) (same_swept g in_step);
  drops = subst (λ (x : NecessaryPart). DropsLeaves leaf g x) (sym same) (record { heights = λ a. inl refl; leaves = λ a is need. inl need });
}

off_one : (leaf : Point → Bool) (g new : NecessaryPart) (n m : NodeId) → IsUnlinked leaf g new (main n) (main m) → IsWithout leaf g new n (Some m)
off_one leaf g new n m u = record {
  links = u.links;
  others = λ a b ne. sym (u.off.others a b (λ e. ne (sym (ap (λ (l : Link). l.reader) e))));
  mine = λ k is reads b. subst (λ (x : NodeId). times u.links (main n) b + one b (main x) ≡ times g.links (main n) b) (some_node m k is) (its b);
  all = λ none. absurd (none-some m (sym none));
  fewer = fewer_links u.links g.links (main n) (main m) u.off;
  sweep = u.sweep;
  drops = u.drops;
}
  where
    some_node : (a b : NodeId) → ◌≡◌ {A = Option NodeId} (Some a) (Some b) → a ≡ b
    some_node a b e = cc

    its : (b : Point) → times u.links (main n) b + one b (main m) ≡ times g.links (main n) b
    its b = elim (same_or_other b (main m)) [
      | inl e ↦ subst (λ (x : Point). times u.links (main n) x + one x (main m) ≡ times g.links (main n) x) (sym e)
          (let raised = u.off.raised in let o = one_same (main m) in omega (arith, raised, o))
      | inr ne ↦
          let same = u.off.others (main n) b (λ e. ne (ap (λ (l : Link). l.kid) e)) in
          let o = one_other b (main m) ne in
          omega (arith, same, o)
    ]

pub off_without : (leaf : Point → Bool) (g new : NecessaryPart) (n : NodeId) (right : Option NodeId) → IsInStep g → IsOff leaf g new n right
    → IsWithout leaf g new n right
off_without leaf g new n None in_step same = off_none leaf g new n None in_step same (λ m is. absurd (none-some m is))
off_without leaf g new n (Some m) in_step (inl u) = off_one leaf g new n m u
off_without leaf g new n (Some m) in_step (inr x) = off_none leaf g new n (Some m) in_step x.0 (λ k is reads. x.1
    (subst (λ (y : NodeId). Reads g.links (main n) (main y)) (sym (some_node m k is)) reads))
  where
    some_node : (a b : NodeId) → ◌≡◌ {A = Option NodeId} (Some a) (Some b) → a ≡ b
    some_node a b e = cc

-- ---- a main loses its right side

module _ (arena : Arena) (taken mid : Work) (todo : Vec Point Global) (n : NodeId) (r : Row) (k : NodeId) (kept : IsKept arena taken)
    (live : row_at arena n ≡ Some r) (sub : subject_of r.def ≡ Some k) (own_row : Holds taken.rows (change n)) (own_need : Needed taken.graph (change n))
    (attached : IsAttached (record taken { todo = todo }) n)
    (loose : IsDetached (record taken { todo = todo }) mid n (right_in taken.rows taken.roots n r.def)) where
  abbrev g0 : NecessaryPart
  g0 = loose.mid.graph

  abbrev right : Option NodeId
  right = right_in taken.rows taken.roots n r.def

  links_mid : g0.links ≡ taken.graph.links
  links_mid = loose.enqueued.graph.links

  roots_mid : g0.roots ≡ taken.graph.roots
  roots_mid = loose.enqueued.graph.roots

  heights_mid : g0.heights ≡ taken.graph.heights
  heights_mid = loose.enqueued.graph.heights

  links_as : (a b : Point) → times g0.links a b ≡ times taken.graph.links a b
  links_as a b = ap (λ (x : Links). times x a b) links_mid

  d : IsWithout (rowless mid) g0 mid.graph n right
  d = off_without (rowless mid) g0 mid.graph n right loose.enqueued.step loose.off

  pub loose_in_step : IsInStep mid.graph
  loose_in_step = swept_in_step g0 d.links mid.graph (rowless mid) loose.enqueued.step d.fewer d.sweep d.drops

  -- links that are left were there, roots stay, and what is needed was
  pub loose_fewer : (a b : Point) → times mid.graph.links a b ≤ times taken.graph.links a b
  loose_fewer a b = let f = d.sweep.fewer a b in let g = d.fewer a b in let w = links_as a b in omega (arith, f, g, w)

  pub loose_roots : KeepsRoots taken.graph.roots mid.graph.roots
  loose_roots a = d.sweep.roots a ∙ ap (λ (x : Roots). root_times x a) roots_mid

  -- what was there is, but for what is needed no more and has no row
  pub loose_heights : (a : Point) → (at mid.graph.heights a ≡ at taken.graph.heights a)
      ⊎ ((is_some (at mid.rows a) ≡ false) × (at mid.graph.heights a ≡ None))
  loose_heights a = elim (d.drops.heights a) [
    | inl e ↦ inl (e ∙ ap (λ (x : Rows ℕ). at x a) heights_mid)
    | inr x ↦ inr (not_true (is_some (at mid.rows a)) x.is_leaf, x.gone)
  ]
    where
      not_true : (b : Bool) → not b ≡ true → b ≡ false
      not_true true e = absurd (cc)
      not_true false e = refl

  pub loose_leaves : (a : Point) → is_some (at mid.rows a) ≡ false → Needed taken.graph a → Needed mid.graph a ⊎ (at mid.graph.heights a ≡ None)
  loose_leaves a none need = d.drops.leaves a (ap not none)
      (need_same taken.graph g0 loose.enqueued.graph.links loose.enqueued.graph.roots a need)

  -- no other point comes into the heap but the main
  pub loose_heap : (a : Point) → Holds mid.graph.heap a → Holds taken.graph.heap a ⊎ (a ≡ main n)
  loose_heap a h = by (at mid.graph.heap a) refl h
    where
      in_mid : Holds g0.heap a → Holds taken.graph.heap a ⊎ (a ≡ main n)
      in_mid into = elim (same_or_other a (main n)) [
        | inl e ↦ inr e
        | inr other ↦ inl (sym (ap is_some (loose.enqueued.others a other)) ∙ into)
      ]

      by : (x : Option ℕ) → at mid.graph.heap a ≡ x → is_some x ≡ true → Holds taken.graph.heap a ⊎ (a ≡ main n)
      by None e is = absurd (cc)
      by (Some y) e is = in_mid (ap is_some (d.sweep.heap a y e).0)
