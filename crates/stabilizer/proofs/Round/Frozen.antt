-- What is kept of points behind freezes that keep their values.
use Rattle.std.proofs.Common.{◌≡◌, ◌⊎◌, inl, inr, ◌-◌, ◌≤◌, true, false, Bool, [], ◌∷◌, Option, None, Some, refl, sym, ap, subst, ◌∙◌, arith}
use Rattle.std.specs.Prelude.{is_some, not, option_map}
use Rattle.std.proofs.lemmas.Option.{none-some, same_Some}
use Rattle.inc_value.specs.declared.node.NodeId.{NodeId}
use Rattle.inc_value.specs.declared.node.Point.{Point}
use Rattle.inc_value.specs.declared.outcome.Outcome.{Outcome}
use Rattle.inc_value.specs.declared.outcome.Outcome.TheVariants.{Val}
use Rattle.inc_value.specs.declared.value.Value.{Value}
use Rattle.inc_terms.specs.Depend.{main, change, right_of}
use Rattle.inc_terms.specs.Graph.{Row, Def}
use Rattle.inc_terms.specs.Within.{Given}
use Rattle.inc_terms.proofs.Crossing.{same_choice}
use Rattle.point_map.specs.Rows.{Rows, at, Holds}
use Rattle.link_table.specs.Links.{times, Reads}
use Rattle.necessity.specs.Need.{root_times}
use Rattle.necessary_graph.specs.Part.{NecessaryPart, Needed}
use Rattle.necessary_graph.proofs.Reaching.{needed_more}
use Rattle.node_arena.specs.Arena.{Arena, row_at}
use Rattle.node_arena.specs.Typing.{Fits}
use Rattle.node_outcomes.specs.Choosing.{built_in}
use Rattle.node_outcomes.specs.Computing.{CallFits, IsOfType, has_part}
use Rattle.node_outcomes.specs.Row.{fires_by, fires_in, kept_by, kept_in, outcome_in, with_frozen}
use Rattle.node_outcomes.specs.Progress.{Progress}
use Rattle.stabilize_round.specs.Freezing.{found}
use Rattle.stabilize_round.specs.State.{count}
use Rattle.wiring.specs.Graph.{graph_at, held_at}
use Rattle.wiring.specs.Kept.{HasFired, IsFreeze, IsGhostLink, IsKept, FitsRoom}
use Rattle.wiring.specs.declared.work.Work.{Work}
use Rattle.stabilizer.specs.Freezing.{FreezesKeep, HasToFreeze, IsFrozenAt, as_was, froze, leaf_of}
use Rattle.stabilizer.proofs.Round.Freezing.{one_kid, still_to_freeze}

-- ---- one row

-- what is to keep a value: its flag is off, and its predicate was last found true of that
pub record IsToKeep (x : Option Progress) (v : Value) : Type 0 where
  pub row : Progress
  pub is_row : x ≡ Some row
  pub last : found row.last ≡ Some v
  pub keeps_none : kept_in x ≡ None

pub to_keep : (x : Option Progress) (v : Value) → fires_in x ≡ Some v → IsToKeep x v
to_keep None v e = absurd (none-some v e)
to_keep (Some k) v e = by k.frozen refl
  where
    by : (b : Bool) → k.frozen ≡ b → IsToKeep (Some k) v
    by false is = record {
      row = k;
      is_row = refl;
      last = ap (λ (b : Bool). fires_by b k.last) (sym is) ∙ e;
      keeps_none = ap (λ (b : Bool). kept_by b k.last) is;
    }
    by true is = absurd (none-some v (ap (λ (b : Bool). fires_by b k.last) (sym is) ∙ e))

-- and then it keeps that
pub kept_then : (x : Option Progress) (v : Value) → fires_in x ≡ Some v → kept_in (option_map with_frozen x) ≡ Some v
kept_then x v e = let k = to_keep x v e in ap (λ (y : Option Progress). kept_in (option_map with_frozen y)) k.is_row ∙ k.last

-- ---- all of them

module _ (arena : Arena) (rows rows' : Rows Progress) (old new : NecessaryPart) (keep : FreezesKeep arena rows rows' old new) where
  -- a row is as it was, or keeps the value of its last call
  either : (p : Point) → (at rows' p ≡ at rows p) ⊎ (at rows' p ≡ option_map with_frozen (at rows p))
  either p = by (keep.each p)
    where
      by : IsFrozenAt arena rows rows' old keep.links keep.roots p → (at rows' p ≡ at rows p) ⊎ (at rows' p ≡ option_map with_frozen (at rows p))
      by (as_was row links roots) = inl row
      by (froze h is row links roots) = inr row

  mapped_same : {A : Type 0} (f : Option Progress → A) → ((k : Progress) → f (Some (with_frozen k)) ≡ f (Some k)) → (x : Option Progress)
      → f (option_map with_frozen x) ≡ f x
  mapped_same f same None = refl
  mapped_same f same (Some k) = same k

  -- all else of it stays
  pub row_tells : {A : Type 0} (f : Option Progress → A) → ((k : Progress) → f (Some (with_frozen k)) ≡ f (Some k)) → (p : Point)
      → f (at rows' p) ≡ f (at rows p)
  row_tells f same p = elim (either p) [
    | inl is ↦ ap f is
    | inr is ↦ ap f is ∙ mapped_same f same (at rows p)
  ]

  pub row_there : (p : Point) → is_some (at rows' p) ≡ is_some (at rows p)
  row_there p = row_tells (λ (x : Option Progress). is_some x) (λ k. refl) p

  -- a row that is there was there, with all but its flag
  pub record WasRow (p : Point) (k : Progress) : Type 0 where
    pub row : Progress
    pub is_row : at rows p ≡ Some row
    pub same : (k ≡ row) ⊎ (k ≡ with_frozen row)

  with_row : (x : Option Progress) (k : Progress) → option_map with_frozen x ≡ Some k → (y : Progress) × (x ≡ Some y) × (k ≡ with_frozen y)
  with_row None k e = absurd (none-some k e)
  with_row (Some y) k e = (y, refl, sym (same_Some (with_frozen y) k e))

  pub was_row : (p : Point) (k : Progress) → at rows' p ≡ Some k → WasRow p k
  was_row p k e = elim (either p) [
    | inl is ↦ record { row = k; is_row = sym is ∙ e; same = inl refl }
    | inr is ↦ let w = with_row (at rows p) k (sym is ∙ e) in record { row = w.0; is_row = w.1; same = inr w.2 }
  ]

  -- what is told of a row but for its flag
  pub row_has : (P : Progress → Type 0) → ((k : Progress) → P k → P (with_frozen k)) → (p : Point) → ((k : Progress) → at rows p ≡ Some k → P k)
      → (k : Progress) → at rows' p ≡ Some k → P k
  row_has P on p had k e =
      let w = was_row p k e in
      let h = had w.row w.is_row in
      elim w.same [
        | inl is ↦ subst P (sym is) h
        | inr is ↦ subst P (sym is) (on w.row h)
      ]

  -- ---- who kept a value

  -- the main of a freeze that was to keep a value
  pub record HasFrozen (n kid : NodeId) : Type 0 where
    pub row : at rows' (main n) ≡ option_map with_frozen (at rows (main n))
    pub links : (q : Point) → times keep.links (main n) q ≡ times old.links (main n) q - count q (main kid ∷ [])
    pub roots : root_times keep.roots (main n) ≡ root_times old.roots (main n) - 1

  pub has_frozen : (n kid : NodeId) → HasToFreeze arena rows n kid → HasFrozen n kid
  has_frozen n kid h = by (keep.each (main n))
    where
      by : IsFrozenAt arena rows rows' old keep.links keep.roots (main n) → HasFrozen n kid
      by (as_was row links roots) = absurd (keep.none n kid (still_to_freeze arena rows rows' n kid row h))
      by (froze {n = m} {kid = kid'} k is row links roots) =
          let same = one_kid arena rows n m kid kid' h k (ap (λ (x : Point). x.node) is) in
          record {
            row = row;
            links = subst (λ (c : NodeId). (q : Point) → times keep.links (main n) q ≡ times old.links (main n) q - count q (main c ∷ [])) (sym same) links;
            roots = roots;
          }

  -- no such point
  abbrev pub IsLeft : Point → Type 0
  IsLeft p = (n kid : NodeId) → HasToFreeze arena rows n kid → p ≡ main n → ⊥

  pub record IsAsWas (p : Point) : Type 0 where
    pub row : at rows' p ≡ at rows p
    pub links : (q : Point) → times keep.links p q ≡ times old.links p q
    pub roots : root_times keep.roots p ≡ root_times old.roots p

  pub as_it_was : (p : Point) → IsLeft p → IsAsWas p
  as_it_was p left = by (keep.each p)
    where
      by : IsFrozenAt arena rows rows' old keep.links keep.roots p → IsAsWas p
      by (as_was row links roots) = record { row = row; links = links; roots = roots }
      by (froze {n} {kid} k is row links roots) = absurd (left n kid k is)

  -- ---- the graph of links

  fewer : (p q : Point) → times keep.links p q ≤ times old.links p q
  fewer p q = by (keep.each p)
    where
      by : IsFrozenAt arena rows rows' old keep.links keep.roots p → times keep.links p q ≤ times old.links p q
      by (as_was row links roots) = omega (arith, links q)
      by (froze k is row links roots) = omega (arith, links q)

  fewer_roots : (p : Point) → root_times keep.roots p ≤ root_times old.roots p
  fewer_roots p = by (keep.each p)
    where
      by : IsFrozenAt arena rows rows' old keep.links keep.roots p → root_times keep.roots p ≤ root_times old.roots p
      by (as_was row links roots) = omega (arith, roots)
      by (froze k is row links roots) = omega (arith, roots)

  pub links_down : (p q : Point) → times new.links p q ≤ times old.links p q
  links_down p q = omega (arith, keep.sweep.fewer p q, fewer p q)

  pub roots_down : (p : Point) → root_times new.roots p ≤ root_times old.roots p
  roots_down p = omega (arith, keep.sweep.roots p, fewer_roots p)

  pub was_needed : (p : Point) → Needed new p → Needed old p
  was_needed p n = needed_more (record old { links = keep.links; roots = keep.roots }) old (λ a r. omega (arith, fewer_roots a, r))
      (λ a b l. omega (arith, fewer a b, l)) p ((keep.sweep.reached p).0 n)

  -- a needed point has the links that are left of it
  pub links_left : (p q : Point) → Needed new p → times new.links p q ≡ times keep.links p q
  links_left p q n = keep.sweep.kept p q ((keep.sweep.reached p).0 n)

  some_of : {A : Type 0} (x : Option A) → is_some x ≡ true → (a : A) × (x ≡ Some a)
  some_of None e = absurd (cc)
  some_of (Some a) e = (a, refl)

  pub was_in : (p : Point) → Holds new.heap p → Holds old.heap p
  was_in p h = let x = some_of (at new.heap p) h in ap is_some (keep.sweep.heap p x.0 x.1).0

  gone_or_there : {A X : Type 0} (x : Option A) → x ≡ None → is_some x ≡ true → X
  gone_or_there x none there = absurd (let e : false ≡ true = sym (ap is_some none) ∙ there in cc)

  pub frozen_height : (p : Point) → Holds new.heights p → at new.heights p ≡ at old.heights p
  frozen_height p h = elim (keep.drops.heights p) [ inl same ↦ same | inr d ↦ gone_or_there (at new.heights p) d.gone h ]

  pub was_there : (p : Point) → Holds new.heights p → Holds old.heights p
  was_there p h = sym (ap is_some (frozen_height p h)) ∙ h

  no_leaf : {X : Type 0} (b : Bool) → b ≡ true → not b ≡ true → X
  no_leaf true e h = absurd (cc)
  no_leaf false e h = absurd (cc)

  pub row_stays : (p : Point) → Holds rows p → Holds old.heights p → Holds new.heights p
  row_stays p row h = elim (keep.drops.heights p) [
    | inl same ↦ ap is_some same ∙ h
    | inr d ↦ no_leaf (is_some (at rows p)) row d.is_leaf
  ]

  pub leaf_needed : (p : Point) → Holds new.heights p → leaf_of rows p ≡ true → Needed old p → Needed new p
  leaf_needed p h leaf n = elim (keep.drops.leaves p leaf n) [ inl need ↦ need | inr gone ↦ gone_or_there (at new.heights p) gone h ]

-- ---- what is held, and kept

module _ (arena : Arena) (work : Work) (rows' : Rows Progress) (g : NecessaryPart) (keep : FreezesKeep arena work.rows rows' work.graph g) where
  abbrev frozen : Work
  frozen = record work { rows = rows'; graph = g }

  -- binds are built as they were
  pub built_same : (n : NodeId) → (held_at arena frozen).built n ≡ (held_at arena work).built n
  built_same n = ap (λ (o : Option Outcome). built_in (row_at arena n) o (at work.roots (change n)))
      (row_tells arena work.rows rows' work.graph g keep outcome_in (λ k. refl) (change n))

  right_same : (n : NodeId) (def : Def) (o : Outcome) → right_of (graph_at arena frozen) n def o ≡ right_of (graph_at arena work) n def o
  right_same n def o = same_choice (graph_at arena work) (graph_at arena frozen) n def o (built_same n)

  abbrev R : Rows Progress
  R = work.rows

  has : (P : Progress → Type 0) → ((k : Progress) → P k → P (with_frozen k)) → (p : Point) → ((k : Progress) → at R p ≡ Some k → P k)
      → (k : Progress) → at rows' p ≡ Some k → P k
  has = row_has arena R rows' work.graph g keep

  module _ (kept : IsKept arena work) where
    fired : (n : NodeId) (k : Progress) → at rows' (main n) ≡ Some k → k.frozen ≡ true → HasFired arena n k
    fired n k e on = by (keep.each (main n))
      where
        by : IsFrozenAt arena R rows' work.graph keep.links keep.roots (main n) → HasFired arena n k
        by (as_was row links roots) = kept.frozen n k (sym row ∙ e) on
        by (froze {n = m} h is row links roots) =
            let t = to_keep (at R (main m)) h.value h.fires in
            let there : at R (main n) ≡ Some t.row = ap (at R) is ∙ t.is_row in
            let now : k ≡ with_frozen t.row = same_Some k (with_frozen t.row) (sym e ∙ (row ∙ ap (option_map with_frozen) there)) in
            record {
              row = h.row;
              is_row = ap (λ (x : Point). row_at arena x.node) is ∙ h.is_row;
              is_freeze = subst IsFreeze (sym h.is_freeze) tt;
              value = h.value;
              last = ap (λ (x : Progress). found x.last) now ∙ t.last;
            }

    leaves : (p : Point) → Holds g.heights p → Holds rows' p ⊎ ((row_at arena p.node ≡ None) × Needed g p)
    leaves p h = elim (kept.leaves p (was_there arena R rows' work.graph g keep p h)) [
      | inl row ↦ inl (row_there arena R rows' work.graph g keep p ∙ row)
      | inr k ↦ inr (k.0, leaf_needed arena R rows' work.graph g keep p h (leaf p k.0) k.1)
    ]
      where
        leaf : (x : Point) → row_at arena x.node ≡ None → leaf_of R x ≡ true
        leaf x dead = ap not (kept.rows x ∙ ap (λ (y : Option Row). has_part y x.part) dead)

    links : (p q : Point) → Reads g.links p q → Holds rows' p ⊎ IsGhostLink frozen p q
    links p q l = elim (kept.links p q (omega (arith, links_down arena R rows' work.graph g keep p q, l))) [
      | inl row ↦ inl (row_there arena R rows' work.graph g keep p ∙ row)
      | inr k ↦ inr (record { scope = k.scope; died = k.died; gate = k.gate })
    ]

    rights : (n m : NodeId) (r : Row) (k : Progress) (o : Outcome) → row_at arena n ≡ Some r → at rows' (change n) ≡ Some k → k.outcome ≡ Some o
        → right_of (graph_at arena frozen) n r.def o ≡ Some m → Given arena.given m × Fits arena m r.ty
    rights n m r k o row e out right =
        has (λ (x : Progress). x.outcome ≡ Some o → Given arena.given m × Fits arena m r.ty) (λ x h. h) (change n)
        (λ x is out'. kept.rights n m r x o row is out' (sym (right_same n r.def o) ∙ right)) k e out

    pub frozen_kept : IsKept arena frozen
    frozen_kept = record {
      step = keep.step;
      rows = λ p. row_there arena R rows' work.graph g keep p ∙ kept.rows p;
      leaves = leaves;
      there = λ p h.
          let row = sym (row_there arena R rows' work.graph g keep p) ∙ h in
          row_stays arena R rows' work.graph g keep p row (kept.there p row);
      given = λ p h. kept.given p (was_there arena R rows' work.graph g keep p h);
      links = links;
      heap = λ p h. row_there arena R rows' work.graph g keep p ∙ kept.heap p (was_in arena R rows' work.graph g keep p h);
      dead = kept.dead;
      sound = kept.sound;
      scopes = kept.scopes;
      older = kept.older;
      outcomes = λ n r k v row e out. has (λ (x : Progress). x.outcome ≡ Some (Val v) → IsOfType arena v r.ty) (λ x h. h) (main n)
          (λ x is out'. kept.outcomes n r x v row is out') k e out;
      rights = rights;
      roots = λ n h.
          let v = kept.roots n h in
          (v.0, row_tells arena R rows' work.graph g keep outcome_in (λ k. refl) (change n) ∙ v.1);
      binds = kept.binds;
      calls = λ n r k c row e last. has (λ (x : Progress). x.last ≡ Some c → CallFits arena r.def r.ty c) (λ x h. h) (main n)
          (λ x is last'. kept.calls n r x c row is last') k e last;
      rounds = λ p k e. has (λ (x : Progress). x.settled ≤ work.round) (λ x h. h) p (λ x is. kept.rounds p x is) k e;
      pairs = kept.pairs;
      scoped = kept.scoped;
      experts = kept.experts;
      listed = kept.listed;
      lists = kept.lists;
      tops = kept.tops;
      frozen = fired;
      rooms = record { calls = λ n r k row e. has (FitsRoom r) (λ x h. h) (main n) (λ x is. kept.rooms.calls n r x row is) k e; ran = kept.rooms.ran };
    }
