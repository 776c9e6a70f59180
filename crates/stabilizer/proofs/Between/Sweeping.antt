-- Roots or links come off, and what is no longer needed loses its links: what is kept.
use Rattle.std.proofs.Common.{◌≡◌, inl, inr, ◌<◌, ◌≤◌, not, Option, None, refl, sym, ap, ◌∙◌, arith}
use Rattle.std.specs.Prelude.{is_some}
use Rattle.inc_value.specs.declared.node.Point.{Point}
use Rattle.point_map.specs.Rows.{at, Holds}
use Rattle.link_table.specs.Links.{times}
use Rattle.necessity.specs.Need.{root_times}
use Rattle.necessary_graph.specs.Part.{NecessaryPart, Needed, IsInStep}
use Rattle.necessary_graph.specs.Sweep.{DropsLeaves, Sweep}
use Rattle.necessary_graph.proofs.Reaching.{needed_more}
use Rattle.node_arena.specs.Arena.{Arena}
use Rattle.node_outcomes.specs.Progress.{Progress}
use Rattle.wiring.specs.Graph.{rowless}
use Rattle.wiring.specs.Kept.{IsKept}
use Rattle.wiring.specs.declared.work.Work.{Work}
use Rattle.wiring.proofs.Linking.{some_or_none}
use Rattle.wiring.proofs.Reading.{read_still}
use Rattle.stabilizer.proofs.Between.Keeping.{carried, fit_still}

-- some are off, and all is swept
module _ (old : Work) (before g : NecessaryPart) (sweep : Sweep before g) (drops : DropsLeaves (rowless old) old.graph g)
    (links : (p q : Point) → times before.links p q ≤ times old.graph.links p q)
    (roots : (p : Point) → 0 < root_times before.roots p → 0 < root_times old.graph.roots p)
    (heap : (p : Point) → at before.heap p ≡ at old.graph.heap p) where
  pub was_in : (p : Point) → Holds g.heap p → Holds old.graph.heap p
  was_in p h = elim (some_or_none (at g.heap p)) [
    | inl k ↦ ap is_some (sym (heap p) ∙ (sweep.heap p k.0 k.1).0)
    | inr none ↦ absurd (let e = sym h ∙ ap is_some none in cc)
  ]

  pub stays_in : (p : Point) → Needed g p → Holds old.graph.heap p → Holds g.heap p
  stays_in p n h = ap is_some (sweep.heap_kept p ((sweep.reached p).0 n) ∙ heap p) ∙ h

  pub need_before : (p : Point) → Needed g p → Needed old.graph p
  need_before p n = needed_more g old.graph (λ a r. roots a (let k = sweep.roots a in omega (arith, k, r)))
      (λ a b l. let f = sweep.fewer a b in let k = links a b in omega (arith, f, k, l)) p n

  -- a point with a row is no leaf, and stays there
  row_there : (p : Point) → Holds old.rows p → Holds old.graph.heights p → Holds g.heights p
  row_there p row h = elim (drops.heights p) [
    | inl same ↦ ap is_some same ∙ h
    | inr dropped ↦ absurd (let e = sym dropped.is_leaf ∙ ap not row in cc)
  ]

  -- no point comes
  was_there : (p : Point) → Holds g.heights p → Holds old.graph.heights p
  was_there p h = elim (drops.heights p) [
    | inl same ↦ ap is_some (sym same) ∙ h
    | inr dropped ↦ absurd (let e = sym h ∙ ap is_some dropped.gone in cc)
  ]

  -- a leaf that is there still is needed still
  leaf_needed : (p : Point) → Holds g.heights p → at old.rows p ≡ None → Needed old.graph p → Needed g p
  leaf_needed p h none need = elim (drops.leaves p (ap (λ (x : Option Progress). not (is_some x)) none) need) [
    | inl now ↦ now
    | inr gone ↦ absurd (let e = sym h ∙ ap is_some gone in cc)
  ]

  pub swept_kept : (arena : Arena) → IsKept arena old → IsInStep g → IsKept arena (record old { graph = g })
  swept_kept arena kept step = carried arena old (record old { graph = g }) kept (record {
    step = step;
    same = λ p. refl;
    there = row_there;
    opened = was_there;
    leaves = leaf_needed;
    links = λ p q l. let f = sweep.fewer p q in let k = links p q in omega (arith, f, k, l);
    heap = λ p h. kept.heap p (was_in p h);
    fit = fit_still arena old (record old { graph = g }) kept (λ p. refl) refl;
    held = refl;
    chosen = λ p h. refl;
    roots = refl;
    deaths = refl;
    pairs = λ n r row a. a;
    scoped = λ n r row a. a;
    experts = read_still old.experts;
    ran = omega arith;
  })
