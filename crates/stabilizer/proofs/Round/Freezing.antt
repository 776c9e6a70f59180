-- Freezes keep their values one after another, and what they let go is one sweep.
use Rattle.std.proofs.Common.{◌≡◌, ◌≢◌, inl, inr, ℕ, ◌-◌, ◌+◌, ◌<◌, ◌≤◌, Bool, List, [], ◌∷◌, length, drop, get_or, Option, None, Some, refl, sym, ap, subst, ◌∙◌, arith}
use Rattle.std.specs.Prelude.{is_some, not, option_map}
use Rattle.std.proofs.Math.Path.{fun_ext}
use Rattle.std.proofs.lemmas.List.{drop_all, drop_more}
use Rattle.std.proofs.lemmas.Option.{none-some, same_Some}
use Rattle.inc_value.specs.Choice.{Among}
use Rattle.inc_value.specs.declared.function.FnRef.{FnRef}
use Rattle.inc_value.specs.declared.node.NodeId.{NodeId}
use Rattle.inc_value.specs.declared.node.Point.{Point}
use Rattle.inc_terms.specs.Depend.{main}
use Rattle.inc_terms.specs.Graph.{Row, Def, Freeze}
use Rattle.point_map.specs.Rows.{Rows, at}
use Rattle.point_map.proofs.Places.{point_cases}
use Rattle.link_table.specs.Links.{Links, link, times, Reads}
use Rattle.necessity.specs.Need.{IsRoot, Roots, root_times}
use Rattle.necessary_graph.specs.Part.{NecessaryPart, Needed, IsInStep, web}
use Rattle.necessary_graph.specs.Sweep.{IsUnlinked, IsUnrooted}
use Rattle.necessary_graph.proofs.Reaching.{root_needed}
use Rattle.node_arena.specs.Arena.{Arena, row_at}
use Rattle.node_outcomes.specs.Row.{IsRewritten, fires_in, with_frozen}
use Rattle.node_outcomes.specs.Progress.{Progress}
use Rattle.stabilize_round.specs.State.{count}
use Rattle.stabilize_round.proofs.Parts.{bool_cases}
use Rattle.stabilize_round.proofs.Points.{node_or_other, one_other, one_same}
use Rattle.wiring.specs.Deciding.{is_needed}
use Rattle.wiring.proofs.Deciding.{decides_needed}
use Rattle.stabilizer.specs.Freezing.{CanFreeze, FreezesKeep, HasToFreeze, IsFrozenAt, IsTakenOff, as_was, froze, leaf_of}
use Rattle.stabilizer.specs.declared.parts.Parts.{Parts}
use Rattle.stabilizer.proofs.Round.Sweeps.{IsOneLess, IsRootLess, IsSweptTo, swept_first, unlinked_swept, unread_swept, unrooted_swept}

-- ---- rows

-- a freeze that keeps a value isn't to keep one again
frozen_rests : (x : Option Progress) → fires_in (option_map with_frozen x) ≡ None
frozen_rests None = refl
frozen_rests (Some k) = refl

kept_there : (x : Option Progress) → is_some (option_map with_frozen x) ≡ is_some x
kept_there None = refl
kept_there (Some k) = refl

main_node : (n m : NodeId) → main n ≡ main m → n ≡ m
main_node n m e = ap (λ (x : Point). x.node) e

same_kid : (def : Def) (kid kid' : NodeId) (f g : FnRef) → def ≡ Freeze kid f → def ≡ Freeze kid' g → kid ≡ kid'
same_kid def kid kid' f g e e' = let k : Freeze kid f ≡ Freeze kid' g = sym e ∙ e' in cc

-- a node is to keep the value of one child
pub one_kid : (arena : Arena) (rows : Rows Progress) (n m kid kid' : NodeId) → HasToFreeze arena rows n kid → HasToFreeze arena rows m kid' → n ≡ m
    → kid ≡ kid'
one_kid arena rows n m kid kid' h h' same =
    let at_row = h.is_row in
    let at_other = h'.is_row in
    let rows_same : h.row ≡ h'.row = same_Some h.row h'.row (sym at_row ∙ (ap (row_at arena) same ∙ at_other)) in
    same_kid h'.row.def kid kid' h.predicate h'.predicate (ap (λ (r : Row). r.def) (sym rows_same) ∙ h.is_freeze) h'.is_freeze

-- with the same row it is to keep one, too
pub still_to_freeze : (arena : Arena) (rows rows' : Rows Progress) (n kid : NodeId) → at rows' (main n) ≡ at rows (main n) → HasToFreeze arena rows n kid
    → HasToFreeze arena rows' n kid
still_to_freeze arena rows rows' n kid same h = record {
  row = h.row;
  is_row = h.is_row;
  predicate = h.predicate;
  is_freeze = h.is_freeze;
  value = h.value;
  fires = ap fires_in same ∙ h.fires;
}

-- ---- one of them lets go

-- while it is needed it reads its child
pub reads_still : (leaf : Point → Bool) (g m : NecessaryPart) (n kid : NodeId) (p q : Point) → p ≡ main n → q ≡ main kid → IsUnrooted leaf g m p
    → Needed m p → Reads g.links (main n) (main kid) → Reads m.links p q
reads_still leaf g m n kid p q is is' un need reads =
    let k = un.sweep.kept p q ((un.sweep.reached p).0 need) in
    let same : times g.links p q ≡ times g.links (main n) (main kid) =
    ap (λ (x : Point). times g.links x q) is ∙ ap (λ (y : Point). times g.links (main n) y) is' in
    omega (arith, k, same, reads)

-- as the code does it
pub taken_off : (frozen unrooted last : Rows Progress) (g m new : NecessaryPart) (n kid : NodeId) (p q : Point) → p ≡ main n → q ≡ main kid
    → unrooted ≡ frozen → last ≡ unrooted → IsUnrooted (leaf_of frozen) g m p → IsInStep m → (Needed m p → IsUnlinked (leaf_of unrooted) m new p q)
    → ((Needed m p → ⊥) → new ≡ m) → IsTakenOff last g new n kid
taken_off frozen unrooted last g m new n kid p q is is' rows rows' un step link none =
    subst (λ (r : Rows Progress). IsTakenOff r g new n kid) (sym (rows' ∙ rows)) (record {
      middle = m;
      unrooted = subst (λ (x : Point). IsUnrooted (leaf_of frozen) g m x) is un;
      step = step;
      unlinked = λ need. subst (λ (y : Point). IsUnlinked (leaf_of frozen) m new (main n) y) is'
          (subst (λ (x : Point). IsUnlinked (leaf_of frozen) m new x q) is
          (subst (λ (r : Rows Progress). IsUnlinked (leaf_of r) m new p q) rows (link (subst (λ (x : Point). Needed m x) (sym is) need))));
      unneeded = λ no. none (λ need. no (subst (λ (x : Point). Needed m x) is need));
    })

-- ---- as it goes

-- so many of the nodes that were called were looked at
pub record IsFreezing (arena : Arena) (rows rows' : Rows Progress) (old now : NecessaryPart) (ran : List NodeId) (place : ℕ) : Type 0 where
  pub links : Links
  pub roots : Roots
  pub each : (p : Point) → IsFrozenAt arena rows rows' old links roots p
  pub left : (n kid : NodeId) → HasToFreeze arena rows' n kid → Among n (drop place ran)
  pub swept : IsSweptTo (leaf_of rows) old now links roots

pub freezing_first : (arena : Arena) (rows : Rows Progress) (old : NecessaryPart) (ran : List NodeId) → IsInStep old → CanFreeze arena rows old ran
    → IsFreezing arena rows rows old old ran 0
freezing_first arena rows old ran step can = record {
  links = old.links;
  roots = old.roots;
  each = λ p. as_was refl (λ q. refl) refl;
  left = λ n kid h. (can n kid h).ran;
  swept = swept_first (leaf_of rows) old step;
}

-- all were looked at
pub freezing_last : (arena : Arena) (rows rows' : Rows Progress) (old now : NecessaryPart) (ran : List NodeId) (place : ℕ)
    → IsFreezing arena rows rows' old now ran place → length ran ≤ place → FreezesKeep arena rows rows' old now
freezing_last arena rows rows' old now ran place so all = record {
  links = so.links;
  roots = so.roots;
  each = so.each;
  none = λ n kid h. subst (λ (ns : List NodeId). Among n ns) (drop_all place ran all) (so.left n kid h);
  sweep = so.swept.sweep;
  drops = so.swept.drops;
  step = so.swept.step;
}

-- a leaf is one still
rows_there : (arena : Arena) (rows rows' : Rows Progress) (old : NecessaryPart) (links : Links) (roots : Roots) (p : Point)
    → IsFrozenAt arena rows rows' old links roots p → is_some (at rows' p) ≡ is_some (at rows p)
rows_there arena rows rows' old links roots p (as_was row same few) = ap is_some row
rows_there arena rows rows' old links roots p (froze h is row less few) = ap is_some row ∙ kept_there (at rows p)

module _ (arena : Arena) (rows rows' : Rows Progress) (old now : NecessaryPart) (ran : List NodeId) (place : ℕ)
    (so : IsFreezing arena rows rows' old now ran place) (node : NodeId) (within : place < length ran) (read : node ≡ get_or ran place node) where
  next : drop place ran ≡ node ∷ drop (place + 1) ran
  next = drop_more ran place node within ∙ ap (λ (n : NodeId). n ∷ drop (place + 1) ran) (sym read)

  -- the node isn't to keep a value
  pub freezing_skip : ((kid : NodeId) → HasToFreeze arena rows' node kid → ⊥) → IsFreezing arena rows rows' old now ran (place + 1)
  freezing_skip none = record {
    links = so.links;
    roots = so.roots;
    each = so.each;
    left = λ n kid h. elim (subst (λ (ns : List NodeId). Among n ns) next (so.left n kid h)) [
      | inl is ↦ absurd (none kid (subst (λ (m : NodeId). HasToFreeze arena rows' m kid) is h))
      | inr rest ↦ rest
    ];
    swept = so.swept;
  }

  -- it is to keep one
  module _ (kid : NodeId) (h : HasToFreeze arena rows' node kid) (can : CanFreeze arena rows old ran) where
    -- it is as it was at first
    record IsAsWas : Type 0 where
      row : at rows' (main node) ≡ at rows (main node)
      links : (q : Point) → times so.links (main node) q ≡ times old.links (main node) q
      roots : root_times so.roots (main node) ≡ root_times old.roots (main node)

    was : IsAsWas
    was = by (so.each (main node))
      where
        by : IsFrozenAt arena rows rows' old so.links so.roots (main node) → IsAsWas
        by (as_was row links roots) = record { row = row; links = links; roots = roots }
        by (froze k is row links roots) =
            absurd (none-some h.value (sym (ap fires_in row ∙ frozen_rests (at rows (main node))) ∙ h.fires))

    pub to_freeze : HasToFreeze arena rows node kid
    to_freeze = still_to_freeze arena rows' rows node kid (sym was.row) h

    old_root : IsRoot (web old) (main node)
    old_root = (can node kid to_freeze).root

    pub is_root : IsRoot (web now) (main node)
    is_root = omega (arith, old_root, was.roots, so.swept.sweep.roots (main node))

    reads_left : Reads so.links (main node) (main kid)
    reads_left = omega (arith, (can node kid to_freeze).reads, was.links (main kid))

    pub is_read : Reads now.links (main node) (main kid)
    is_read =
        let needed = root_needed now (main node) is_root in
        let kept = so.swept.sweep.kept (main node) (main kid) ((so.swept.sweep.reached (main node)).0 needed) in
        omega (arith, kept, reads_left)

    -- it keeps it
    module _ (rows'' : Rows Progress) (new : NecessaryPart) (rewritten : IsRewritten rows' rows'' (main node) with_frozen)
        (off : IsTakenOff rows'' now new node kid) (step : IsInStep new) where
      row_now : at rows'' (main node) ≡ option_map with_frozen (at rows (main node))
      row_now = rewritten.changed ∙ ap (λ (x : Option Progress). option_map with_frozen x) was.row

      still_there : (p : Point) → is_some (at rows'' p) ≡ is_some (at rows' p)
      still_there p = elim (point_cases p (main node)) [
        | inl is ↦ subst (λ (x : Point). is_some (at rows'' x) ≡ is_some (at rows' x)) (sym is)
            (ap is_some rewritten.changed ∙ kept_there (at rows' (main node)))
        | inr other ↦ ap is_some (rewritten.others p other)
      ]

      same_leaves : leaf_of rows'' ≡ leaf_of rows
      same_leaves = fun_ext (λ p. ap not (still_there p ∙ rows_there arena rows rows' old so.links so.roots p (so.each p)))

      unrooted : IsUnrooted (leaf_of rows) now off.middle (main node)
      unrooted = subst (λ (leaf : Point → Bool). IsUnrooted leaf now off.middle (main node)) same_leaves off.unrooted

      abbrev Swept : Type 0
      Swept = (left : Links) × (fewer : Roots) × IsOneLess so.links left (main node) (main kid) × IsRootLess so.roots fewer (main node)
          × IsSweptTo (leaf_of rows) old new left fewer

      -- what was swept so far, once its root is off
      abbrev Unrooted : Type 0
      Unrooted = (fewer : Roots) × IsRootLess so.roots fewer (main node) × IsSweptTo (leaf_of rows) old off.middle so.links fewer

      needed_still : Unrooted → Needed off.middle (main node) → Swept
      needed_still first need =
          let un = subst (λ (leaf : Point → Bool). IsUnlinked leaf off.middle new (main node) (main kid)) same_leaves (off.unlinked need) in
          let last = unlinked_swept (leaf_of rows) old off.middle new so.links first.0 first.2 step (main node) (main kid) un in
          (last.0, first.0, last.1, first.1, last.2)

      needed_no_more : Unrooted → (Needed off.middle (main node) → ⊥) → Swept
      needed_no_more first unneeded =
          let last = unread_swept (leaf_of rows) old off.middle so.links first.0 first.2 (main node) (main kid) reads_left unneeded in (
            last.0,
            first.0,
            last.1,
            first.1,
            subst (λ (g : NecessaryPart). IsSweptTo (leaf_of rows) old g last.0 first.0) (sym (off.unneeded unneeded)) last.2,
          )

      swept : Swept
      swept =
          let first = unrooted_swept (leaf_of rows) old now off.middle so.links so.roots so.swept off.step (main node) unrooted in
          let decides = decides_needed off.middle off.step (main node) in
          elim (bool_cases (is_needed off.middle (main node))) [
            | inl e ↦ needed_still first (decides.0 e)
            | inr e ↦ needed_no_more first (λ n. let e' = decides.1 n in absurd (let x = e in cc))
          ]

      freezes : IsFrozenAt arena rows rows'' old swept.0 swept.1 (main node)
      freezes = froze to_freeze refl row_now
          (λ q. elim (point_cases q (main kid)) [
            | inl is ↦ subst (λ (x : Point). times swept.0 (main node) x ≡ times old.links (main node) x - count x (main kid ∷ [])) (sym is)
                (omega (arith, swept.2.less, was.links (main kid), one_same (main kid)))
            | inr other ↦
                let same = swept.2.others (main node) q (λ e. other (ap (λ l. l.kid) e)) in
                omega (arith, same, was.links q, one_other q (main kid) other)
          ])
          (omega (arith, swept.3.less, was.roots))

      other_stays : (p : Point) → p ≢ main node → IsFrozenAt arena rows rows' old so.links so.roots p
          → IsFrozenAt arena rows rows'' old swept.0 swept.1 p
      other_stays p other (as_was row links roots) = as_was (rewritten.others p other ∙ row)
          (λ q. swept.2.others p q (λ e. other (ap (λ l. l.reader) e)) ∙ links q) (swept.3.others p other ∙ roots)
      other_stays p other (froze k is row links roots) = froze k is (rewritten.others p other ∙ row)
          (λ q. swept.2.others p q (λ e. other (ap (λ l. l.reader) e)) ∙ links q) (swept.3.others p other ∙ roots)

      pub freezing_more : IsFreezing arena rows rows'' old new ran (place + 1)
      freezing_more = record {
        links = swept.0;
        roots = swept.1;
        each = λ p. elim (point_cases p (main node)) [
          | inl is ↦ subst (λ (x : Point). IsFrozenAt arena rows rows'' old swept.0 swept.1 x) (sym is) freezes
          | inr other ↦ other_stays p other (so.each p)
        ];
        left = λ n k f. elim (node_or_other n node) [
          | inl is ↦ absurd (none-some f.value (sym (ap (λ (m : NodeId). fires_in (at rows'' (main m))) is
              ∙ (ap fires_in rewritten.changed ∙ frozen_rests (at rows' (main node)))) ∙ f.fires))
          | inr other ↦ elim (subst (λ (ns : List NodeId). Among n ns) next
              (so.left n k (still_to_freeze arena rows'' rows' n k (sym (rewritten.others (main n) (λ e. other (main_node n node e)))) f))) [
                | inl is ↦ absurd (other is)
                | inr rest ↦ rest
              ]
        ];
        swept = swept.4;
      }

-- ---- over the parts

pub record AreFreezing (old now : Parts) (place : ℕ) : Type 0 where
  pub so : IsFreezing old.arena old.work.rows now.work.rows old.work.graph now.work.graph old.ran.items place
  pub rest : now ≡ record old { work = record old.work { rows = now.work.rows; graph = now.work.graph } }

module _ (old now : Parts) (place : ℕ) (are : AreFreezing old now place) (can : CanFreeze old.arena old.work.rows old.work.graph old.ran.items)
    (node : NodeId) (within : place < length old.ran.items) (read : node ≡ get_or now.ran.items place node) where
  read_first : node ≡ get_or old.ran.items place node
  read_first = read ∙ ap (λ (p : Parts). get_or p.ran.items place node) are.rest

  at_first : (kid : NodeId) → HasToFreeze now.arena now.work.rows node kid → HasToFreeze old.arena now.work.rows node kid
  at_first kid h = subst (λ (a : Arena). HasToFreeze a now.work.rows node kid) (ap (λ (p : Parts). p.arena) are.rest) h

  pub parts_root : (kid : NodeId) → HasToFreeze now.arena now.work.rows node kid → IsRoot (web now.work.graph) (main node)
  parts_root kid h = is_root old.arena old.work.rows now.work.rows old.work.graph now.work.graph old.ran.items place are.so node within read_first kid
      (at_first kid h) can

  pub parts_read : (kid : NodeId) → HasToFreeze now.arena now.work.rows node kid → Reads now.work.graph.links (main node) (main kid)
  parts_read kid h = is_read old.arena old.work.rows now.work.rows old.work.graph now.work.graph old.ran.items place are.so node within read_first kid
      (at_first kid h) can

  pub parts_skip : ((kid : NodeId) → HasToFreeze now.arena now.work.rows node kid → ⊥) → AreFreezing old now (place + 1)
  parts_skip none = record {
    so = freezing_skip old.arena old.work.rows now.work.rows old.work.graph now.work.graph old.ran.items place are.so node within read_first
        (λ kid h. none kid (subst (λ (a : Arena). HasToFreeze a now.work.rows node kid) (sym (ap (λ (p : Parts). p.arena) are.rest)) h));
    rest = are.rest;
  }

  pub parts_more : (kid : NodeId) → HasToFreeze now.arena now.work.rows node kid → (new : Parts)
      → IsRewritten now.work.rows new.work.rows (main node) with_frozen → IsTakenOff new.work.rows now.work.graph new.work.graph node kid
      → IsInStep new.work.graph → new ≡ record now { work = record now.work { rows = new.work.rows; graph = new.work.graph } }
      → AreFreezing old new (place + 1)
  parts_more kid h new rewritten off step rest = record {
    so = freezing_more old.arena old.work.rows now.work.rows old.work.graph now.work.graph old.ran.items place are.so node within read_first kid
        (at_first kid h) can new.work.rows new.work.graph rewritten off step;
    rest = rest ∙ ap (λ (p : Parts). record p { work = record p.work { rows = new.work.rows; graph = new.work.graph } }) are.rest;
  }
