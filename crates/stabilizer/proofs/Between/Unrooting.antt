-- A root is taken off.
use Rattle.std.proofs.Common.{◌≡◌, inl, inr, ℕ, ◌<◌, ◌≤◌, ◌+◌, ◌++◌, List, [], ◌∷◌, map, refl, sym, subst, ◌∙◌, arith}
use Rattle.inc_value.specs.declared.node.NodeId.{NodeId}
use Rattle.inc_value.specs.declared.node.Point.{Point}
use Rattle.inc_terms.specs.Depend.{main}
use Rattle.point_map.proofs.Places.{point_cases}
use Rattle.link_table.specs.Links.{times}
use Rattle.necessity.specs.Need.{root_times, OneRootMore}
use Rattle.necessary_graph.specs.Part.{NecessaryPart, IsInStep}
use Rattle.necessary_graph.specs.Sweep.{IsUnrooted}
use Rattle.node_arena.specs.Arena.{Arena}
use Rattle.stabilize_round.specs.State.{one, count}
use Rattle.stabilize_round.proofs.Points.{one_same, one_other}
use Rattle.stabilizer.specs.Between.{Stays}
use Rattle.wiring.specs.Kept.{IsKept}
use Rattle.stabilizer.specs.Kept.{PartsKept}
use Rattle.stabilizer.specs.Round.{AreRooted, IsReady}
use Rattle.stabilizer.specs.declared.parts.Parts.{Parts}
use Rattle.stabilizer.proofs.Between.Staying.{ready_stays}
use Rattle.stabilizer.proofs.Between.Keeping.{parts_stay}
use Rattle.stabilizer.proofs.Between.Sweeping.{need_before, stays_in, swept_kept}
use Rattle.node_outcomes.specs.Meaning.{Meaning}
use Rattle.stabilizer.specs.Look.{freeze_roots}
use Rattle.wiring.specs.Graph.{graph_at, rowless}
use Rattle.wiring.specs.declared.work.Work.{Work}

-- one node less is listed
count_without : (p : Point) (id : NodeId) (before after : List NodeId)
    → count p (map main (before ++ id ∷ after)) ≡ count p (map main (before ++ after)) + one p (main id)
count_without p id [] after = omega arith
count_without p id (n ∷ ns) after = let rest = count_without p id ns after in omega (arith, rest)

module _ (old : Work) (g : NecessaryPart) (id : NodeId) (off : IsUnrooted (rowless old) old.graph g (main id)) where
  abbrev work : Work
  work = record old { graph = g }

  pub root_less : OneRootMore g.roots old.graph.roots (main id)
  root_less = record {
    raised = let r = off.off.raised in let k = off.sweep.roots (main id) in omega (arith, r, k);
    others = λ a ne. off.off.others a ne ∙ sym (off.sweep.roots a);
  }

  pub still_rooted : (arena : Arena) (since : ℕ) (before after : List NodeId) → AreRooted arena old since (before ++ id ∷ after)
      → AreRooted arena work since (before ++ after)
  still_rooted arena since before after all p = elim (point_cases p (main id)) [
    | inl is ↦ subst (λ (x : Point). root_times g.roots x ≡ count x (map main (before ++ after)) + freeze_roots (graph_at arena old) since x) (sym is)
        (let a = all (main id) in let r = root_less.raised in let k = count_without (main id) id before after in let o = one_same (main id) in
        omega (arith, a, r, k, o))
    | inr ne ↦
        let a = all p in let r = root_less.others p ne in let k = count_without p id before after in let o = one_other p (main id) ne in
        omega (arith, a, r, k, o)
  ]

  links_before : (p q : Point) → times old.graph.links p q ≤ times old.graph.links p q
  links_before p q = omega arith

  root_before : (a : Point) → 0 < root_times off.roots a → 0 < root_times old.graph.roots a
  root_before a r = elim (point_cases a (main id)) [
    | inl is ↦ subst (λ (x : Point). 0 < root_times old.graph.roots x) (sym is) (let k = off.off.raised in omega (arith, k))
    | inr ne ↦ let k = off.off.others a ne in omega (arith, k, r)
  ]

  module _ (arena : Arena) (kept : IsKept arena old) (step : IsInStep g) where
    pub unrooted_kept : IsKept arena work
    unrooted_kept = swept_kept old (record old.graph { roots = off.roots }) g off.sweep off.drops links_before root_before (λ p. refl) arena kept step

    pub unrooted_stays : Stays arena arena old work
    unrooted_stays = record {
      needed = need_before old (record old.graph { roots = off.roots }) g off.sweep off.drops links_before root_before (λ p. refl);
      clock = λ p r need row. inr refl;
      lists = λ p n. inl (record { links = λ q. off.sweep.kept p q ((off.sweep.reached p).0 n); expert = refl; listed = λ a. a });
      heap = stays_in old (record old.graph { roots = off.roots }) g off.sweep off.drops links_before root_before (λ p. refl);
      rows = λ p n. refl;
      nodes = λ n r need e. inl e;
      calls = λ n r nodes k c row def e last. (row, e);
      runs = λ n s r o row def is. (row, is);
      unsettled = λ p k e. inl e;
      roots = λ n r row. refl;
      outcomes = λ n was r there row. refl;
      scoped = λ n b r row scope. record { row = r; is_row = row; scope = scope; same = inl refl };
      entered = λ n b r row scope. (r, row, scope);
      deaths = refl;
      ran = refl;
      retries = refl;
      round = refl;
    }

-- parts are kept, and a round may begin with them
module _ (old new : Parts) (id : NodeId) (off : IsUnrooted (rowless old.work) old.work.graph new.work.graph (main id)) (kept : PartsKept old)
    (step : IsInStep new.work.graph) (rest : new ≡ record old { work = record old.work { graph = new.work.graph } }) where
  abbrev parts : Parts
  parts = record old { work = record old.work { graph = new.work.graph } }

  parts_kept : PartsKept parts
  parts_kept = parts_stay old parts kept (unrooted_kept old.work new.work.graph id off old.arena kept.work step)
      (unrooted_stays old.work new.work.graph id off old.arena kept.work step) refl refl kept.clock kept.listing

  pub unrooted_parts : PartsKept new
  unrooted_parts = subst PartsKept (sym rest) parts_kept

  pub unrooted_ready : (M : Meaning) → IsReady M old → IsReady M new
  unrooted_ready M ready = subst (IsReady M) (sym rest)
      (ready_stays M old parts ready ready.fit parts_kept (unrooted_stays old.work new.work.graph id off old.arena kept.work step))
