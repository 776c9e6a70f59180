-- A round is over: what its steps settled, freezes that keep their values, and the dead that let go.
use Rattle.std.proofs.Common.{◌≡◌, ℕ, ◌+◌, ◌<◌, ◌++◌, List, [], map, Option, None, refl, sym, ap, subst, ◌∙◌, arith, ◌≤◌}
use Rattle.std.specs.Prelude.{is_some, vec_capacity}
use Rattle.std.proofs.lemmas.List.{map-append}
use Rattle.inc_value.specs.declared.node.NodeId.{NodeId}
use Rattle.inc_value.specs.declared.outcome.Outcome.{Outcome}
use Rattle.inc_terms.specs.Depend.{main}
use Rattle.inc_terms.specs.Graph.{Built, Graph}
use Rattle.inc_terms.specs.Term.{Functions}
use Rattle.std.proofs.Math.Path.{fun_ext}
use Rattle.necessary_graph.specs.Part.{IsInStep, NecessaryPart}
use Rattle.necessity.specs.Need.{KeepsRoots}
use Rattle.recompute_heap.specs.Agree.{IsEmpty}
use Rattle.node_arena.specs.Arena.{Arena, live}
use Rattle.node_arena.specs.Graph.{AllCallFit}
use Rattle.node_outcomes.specs.Computing.{seen, seen_of}
use Rattle.node_outcomes.specs.Meaning.{Meaning}
use Rattle.node_outcomes.specs.Progress.{Progress}
use Rattle.point_map.specs.Rows.{Rows}
use Rattle.stabilize_round.specs.Calling.{costs_of}
use Rattle.stabilize_round.specs.Counts.{RoseBy}
use Rattle.stabilize_round.specs.Machine.{Moves, as_it_is}
use Rattle.stabilize_round.specs.State.{State, count, all_retries}
use Rattle.stabilize_round.proofs.Points.{count_append}
use Rattle.stabilize_round.proofs.Runs.{run_builds_few}
use Rattle.wiring.specs.Scoped.{IsReleased}
use Rattle.wiring.specs.Stands.{MatchesState, Counts}
use Rattle.wiring.specs.Wiring.{PutsRoots, Wires}
use Rattle.wiring.specs.declared.work.Work.{Work}
use Rattle.stabilizer.specs.Freezing.{CanFreeze, FreezesKeep}
use Rattle.stabilizer.specs.Kept.{PartsKept, graph_in}
use Rattle.stabilizer.specs.Left.{BuildsRightIn}
use Rattle.stabilizer.specs.Look.{look_between}
use Rattle.stabilizer.specs.Round.{AreRooted, BeginsAt, BuildsAll, BuiltFew, IsLeftBy, IsReady, IsUpToDate, MayBegin, RootsMore, Settles, died_by, left_by}
use Rattle.stabilizer.specs.Telling.{shown_or}
use Rattle.stabilizer.specs.declared.parts.Parts.{Parts}
use Rattle.stabilizer.proofs.Round.Beginning.{Begun, BegunOf, begun_of}
use Rattle.stabilizer.proofs.Round.BuiltFor.{builds_by_parts}
use Rattle.stabilizer.proofs.Round.Ending.{are, counted, died_same, may_freeze, ready_end, up_end}
use Rattle.stabilizer.proofs.Round.Frozen.{built_same, row_tells}
use Rattle.stabilizer.proofs.Round.LeftBy.{few_by_parts, frozen_stays, left_by_parts, left_same, roots_last}
use Rattle.stabilizer.proofs.Round.Released.{is_next}
use Rattle.stabilizer.proofs.Round.Stopped.{IsLeftOver, moves_build, stops_leave_over}
use Rattle.stabilizer.proofs.Round.Whole.{after_steps}

-- the work of a round ended: freezes kept their values, the dead let go, and the next has the next number
pub record HasEnded (arena : Arena) (old : Work) (g : NecessaryPart) (new : Work) : Type 0 where
  pub keep : FreezesKeep arena old.rows new.rows old.graph g
  pub released : IsReleased (record old { rows = new.rows; graph = g }) new
  pub step : IsInStep new.graph
  pub ran : new.ran.items ≡ []
  pub retries : new.retries ≡ all_retries
  pub round : new.round ≡ old.round + 1
  pub roots : new.roots ≡ old.roots
  pub experts : new.experts ≡ old.experts
  pub pairs : new.pairs ≡ old.pairs
  pub scoped : new.scoped ≡ old.scoped
  pub todo : new.todo ≡ old.todo

-- what nodes show stays where freezes keep their values
pub shows_same : (arena : Arena) (rows rows' : Rows Progress) (old new : NecessaryPart) → FreezesKeep arena rows rows' old new
    → ◌≡◌ {A = NodeId → Outcome} (λ n. shown_or (seen rows' (main n))) (λ n. shown_or (seen rows (main n)))
shows_same arena rows rows' old new keep = fun_ext (λ n. ap shown_or (row_tells arena rows rows' old new keep seen_of (λ k. refl) (main n)))

module _ (M : Meaning) (old : Parts) (wired rooted : Work) (before : Counts) (ready : IsReady M old) (wires : Wires old.arena old.work wired None)
    (put : PutsRoots old.arena wired rooted) (settled : Parts) (after : Counts) (steps : Settles M (record old { work = rooted }) settled before after)
    (kept : PartsKept settled) (idle : settled.work.todo.items ≡ []) (empty : IsEmpty settled.work.graph.heap) where
  abbrev F : Functions
  F = M.functions

  abbrev begins : BegunOf M old before
  begins = begun_of M old ready before

  abbrev first : Begun F old before
  first = begins.begun

  last : (t : State) × Moves F first.start first.state t × MatchesState settled.arena settled.work after None t
  last = after_steps M old wired rooted before ready wires put settled after steps

  round_counts : RoseBy before.calls (costs_of (graph_in settled) settled.work.ran.items) after.calls
  round_counts = counted M old settled before after ready.kept begins kept last.0 last.1 last.2 idle empty

  left_over : IsLeftOver F first.state last.0
  left_over = stops_leave_over F first.start first.state last.0 last.0 first.entry begins.round.given last.1 (as_it_is refl)

  frozen_still : (n : NodeId) → (graph_in settled).frozen n ≡ (graph_in old).frozen n
  frozen_still = frozen_stays F old settled first.state last.0 first.stands.graph first.stands.given last.2.graph ready.kept.work kept.work left_over

  -- roots are of what is observed, and of freezes that keep no value
  module _ (roots : List NodeId) (same : KeepsRoots rooted.graph.roots settled.work.graph.roots)
      (more : RootsMore old.work.graph.roots rooted.graph.roots (map main roots)) where
    all_rooted : (since : ℕ) (nodes freezes observed : List NodeId) → BeginsAt old since roots nodes freezes observed
        → AreRooted settled.arena settled.work settled.arena.given (nodes ++ observed)
    all_rooted since nodes freezes observed at p =
        let e = ap (count p) (map-append main nodes observed) in
        let split = ap (λ (ns : List NodeId). count p (map main ns)) at.all ∙ ap (count p) (map-append main nodes freezes) in
        let last_roots = roots_last F old settled first.state last.0 first.stands.graph first.stands.given last.2.graph ready.kept.work kept.work
        left_over last.2.given p in
        omega (
          arith,
          same p,
          more p,
          at.rooted p,
          at.fresh p,
          e,
          split,
          count_append p (map main nodes) (map main observed),
          count_append p (map main nodes) (map main freezes),
          last_roots,
        )

    pub freezes_may : MayBegin old roots → CanFreeze settled.arena settled.work.rows settled.work.graph settled.work.ran.items
    freezes_may m = may_freeze M old settled before after ready.kept begins kept last.0 last.1 last.2 idle empty (m.1 ++ m.3) (all_rooted m.0 m.1 m.2 m.3 m.4)

    module _ (end : Parts) (g : NecessaryPart) (x : HasEnded settled.arena settled.work g end.work) where
      abbrev result : Parts
      result = record settled { work = end.work; ran = end.ran }

      abbrev next : Work
      next = record settled.work {
        rows = end.work.rows;
        graph = end.work.graph;
        deaths = end.work.deaths;
        ran = end.work.ran;
        retries = end.work.retries;
        round = end.work.round;
      }

      is : next ≡ end.work
      is = is_next settled.work end.work x.roots x.experts x.pairs x.scoped x.todo

      -- the graph that the round read is the one that is left, but for what freezes keep
      left_next : left_by old settled ≡ left_by old (record settled { work = next; ran = end.ran })
      left_next = ap (λ (b : NodeId → Option Built). record (left_by old settled) { built = b })
          (sym (fun_ext (built_same settled.arena settled.work end.work.rows g x.keep)))

      left_is : graph_in settled ≡ left_by old result
      left_is = left_same old settled frozen_still
          ∙ (left_next ∙ ap (λ (w : Work). left_by old (record settled { work = w; ran = end.ran })) is)

      pub round_calls : end.ran.items ≡ settled.work.ran.items → RoseBy before.calls (costs_of (left_by old result) end.ran.items) after.calls
      round_calls ran_is = subst (λ (G : Graph). RoseBy before.calls (costs_of G end.ran.items) after.calls) left_is
          (subst (λ (ns : List NodeId). RoseBy before.calls (costs_of (graph_in settled) ns) after.calls) (sym ran_is) round_counts)

      -- what is left of the nodes
      pub round_left : IsLeftBy F old result before after
      round_left =
          let t = last in
          left_by_parts F old result before after first.state t.0 first.stands.graph first.stands.given first.stands.counts
          (t.2.graph ∙ left_is) t.2.given t.2.counts (λ n x row. ready.kept.work.sound.given n (ap is_some row)) left_over

      pub round_readies : MayBegin old roots → AllCallFit M.known M.ids settled.arena → live settled.arena ≤ vec_capacity end.work.ran
          → live settled.arena ≤ vec_capacity end.ran → IsReady M result
      round_readies m fit called listed = ready_end M old settled before after ready.kept begins kept last.0 last.1 last.2 idle empty end end.work.rows g x.keep
          x.released x.step x.ran x.retries x.round (m.1 ++ m.3) (all_rooted m.0 m.1 m.2 m.3 m.4) is ready.laws fit (round_left.inside ready.inside)
          called listed

      -- each bind could be built, and the count of builds rose by at most one for each of some that were
      pub round_few : BuiltFew F old result None before after
      round_few =
          let t = last in
          few_by_parts F old result before after None first.state t.0 first.stands.graph first.stands.given first.stands.counts
          (t.2.graph ∙ left_is) t.2.counts (run_builds_few F first.start first.state t.0 t.1)

      module _ (since : ℕ) (nodes freezes observed : List NodeId) (at : BeginsAt old since roots nodes freezes observed) where
        -- what binds are built for
        pub round_built : BuildsAll F old result (nodes ++ observed)
        round_built =
            let t = last in
            subst (λ (G : Graph). BuildsRightIn F G (died_by old settled) (look_between old) (nodes ++ observed) None) left_is
            (builds_by_parts F old settled before after first None t.0 t.2
            (died_same F first.start old settled before after None first.state t.0 t.0 kept.work first.stands first.entry begins.round.given t.1
            (as_it_is refl) t.2) (nodes ++ observed)
            (λ p h. (are M old settled before after ready.kept begins kept t.0 t.1 t.2 idle empty (nodes ++ observed)
            (all_rooted since nodes freezes observed at)).listed p (subst (λ (k : ℕ). 0 < k) (sym (t.2.root p)) h))
            None (moves_build F first.start first.state t.0 first.entry begins.round.given t.1))

        pub round_rights : end.ran.items ≡ settled.work.ran.items → IsUpToDate F old result (nodes ++ observed)
        round_rights ran_is = up_end M old settled before after ready.kept begins kept last.0 last.1 last.2 idle empty end end.work.rows g x.keep
            x.released x.step x.ran x.retries x.round (nodes ++ observed) (all_rooted since nodes freezes observed at) is ran_is left_is
