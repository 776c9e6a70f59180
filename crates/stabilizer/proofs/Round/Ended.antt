-- What a round says when it ends, by one record where it was accepted, and by one where it was refused.
use Rattle.std.proofs.Common.{◌≡◌, inl, inr, ◌+◌, ◌<◌, ◌++◌, ℕ, List, [], map, None, sym, ap, subst, ◌∙◌, arith, ◌≤◌}
use Rattle.std.specs.Prelude.{vec_capacity}
use Rattle.node_arena.specs.Arena.{live}
use Rattle.std.proofs.lemmas.Bool.{cases_lt}
use Rattle.std.proofs.lemmas.List.{map-append}
use Rattle.inc_value.specs.Choice.{Among}
use Rattle.inc_value.specs.declared.node.NodeId.{NodeId}
use Rattle.inc_value.specs.declared.node.Point.{Point}
use Rattle.inc_terms.specs.Depend.{main}
use Rattle.inc_terms.specs.Graph.{Graph}
use Rattle.inc_terms.specs.Need.{IsRoot}
use Rattle.inc_terms.proofs.Plan.{among_left, among_right, among_parts}
use Rattle.necessity.specs.Need.{root_times}
use Rattle.necessary_graph.specs.Part.{NecessaryPart}
use Rattle.node_arena.specs.Graph.{AllCallFit}
use Rattle.node_arena.specs.declared.functions.Functions.{Ghosts}
use Rattle.node_arena.proofs.RightSides.{fit_lists_given}
use Rattle.node_outcomes.specs.Meaning.{Meaning, meaning_of}
use Rattle.recompute_heap.specs.Agree.{IsEmpty}
use Rattle.stabilize_round.specs.State.{count}
use Rattle.stabilize_round.proofs.Points.{among_count, count_among}
use Rattle.stabilizer.specs.Ended.{RoundEnds, RoundStops, RoundLeaves}
use Rattle.stabilizer.specs.Giving.{GivesLive, GivesFew, StopsFull}
use Rattle.stabilizer.specs.Kept.{KeepsMeaning, StaysFlat, counts_by, graph_in}
use Rattle.stabilizer.specs.Left.{BuildsRightIn, HasCalledMetIn, IsLawfulIn, ShowsStillIn}
use Rattle.stabilizer.specs.Look.{freeze_roots, look_between, look_refused}
use Rattle.stabilizer.specs.Round.{BeginsAt, IsReady, MayBegin, RootsMore, OnlyRoots, Settles, died_by, left_by}
use Rattle.stabilizer.specs.Staying.{RoundStays}
use Rattle.stabilizer.specs.Weights.{SidesFit}
use Rattle.stabilizer.specs.declared.parts.Parts.{Parts}
use Rattle.stabilizer.proofs.Round.BuiltFor.{paused_built}
use Rattle.stabilizer.proofs.Round.Lawful.{AreListed, paused_lawful, paused_tried}
use Rattle.stabilizer.proofs.Round.Leftover.{paused_called, paused_cutoffs, paused_frozen, paused_left, paused_marks, paused_same, paused_shows, paused_unfrozen}
use Rattle.stabilizer.proofs.Round.Over.{HasEnded, round_built, round_calls, round_few, round_left, round_readies, round_rights}
use Rattle.stabilizer.proofs.Round.Rooting.{among_main, root_unfrozen}
use Rattle.stabilizer.proofs.Step.MeaningKept.{means_still}
use Rattle.stabilizer.proofs.Round.Paused.{IsPaused}
use Rattle.wiring.specs.Wiring.{PutsRoots, Wires}
use Rattle.wiring.specs.declared.refused.Refused.{Refused}
use Rattle.wiring.specs.declared.work.Work.{Work}

-- ---- it was refused

module _ {K More : Type 0} (keeper : Ghosts K More) (fs fs' : K) (old new : Parts) (e : Refused)
    (p : IsPaused (meaning_of keeper fs) old new (counts_by keeper fs) (counts_by keeper fs') e) where
  abbrev M : Meaning
  M = meaning_of keeper fs

  -- a root is of what is observed, or of a freeze that keeps no value
  module _ (roots : List NodeId) (only : OnlyRoots old.work.graph.roots new.work.graph.roots (map main roots)) (since : ℕ)
      (nodes freezes observed : List NodeId) (at : BeginsAt old since roots nodes freezes observed) where
    abbrev Listed : Point → Type 0
    Listed a = (n : NodeId) × IsRoot (graph_in new) (nodes ++ observed) n × (a ≡ main n)

    by_freeze : (count : ℕ) (a : Point) → 0 < freeze_roots (graph_in old) count a → Listed a
    by_freeze count a h =
        let f = root_unfrozen (graph_in old) count a h in
        (a.node, inr (paused_unfrozen M old new (counts_by keeper fs) (counts_by keeper fs') e p a.node f.0), f.1)

    was_root : (a : Point) → 0 < root_times old.work.graph.roots a → Listed a
    was_root a h = elim (cases_lt 0 (freeze_roots (graph_in old) since a)) [
      | inl f ↦ by_freeze since a f
      | inr none ↦
          let o = among_main a observed (count_among a (map main observed) (omega (arith, at.rooted a, h, none))) in
          (o.0, inl (among_right o.0 nodes observed o.1), o.2)
    ]

    new_freeze : (a : Point) → Among a (map main freezes) → Listed a
    new_freeze a among = by_freeze old.arena.given a (let c = among_count a (map main freezes) among in omega (arith, at.fresh a, c))

    put_root : (a : Point) → Among a (map main roots) → Listed a
    put_root a among = elim (among_parts a (map main nodes) (map main freezes)
        (subst (λ (ps : List Point). Among a ps) (ap (map main) at.all ∙ map-append main nodes freezes) among)) [
          | inl h ↦ let o = among_main a nodes h in (o.0, inl (among_left o.0 nodes observed o.1), o.2)
          | inr h ↦ new_freeze a h
        ]

    listed : AreListed new (nodes ++ observed)
    listed a h = elim (only a h) [ inl was ↦ was_root a was | inr now ↦ put_root a now ]

  -- over the graph that the round read
  over : (P : Graph → Type 0) → P (graph_in new) → P (left_by old new)
  over P h = subst P (paused_same M old new (counts_by keeper fs) (counts_by keeper fs') e p) h

  pub paused_stops : (roots : List NodeId) → OnlyRoots old.work.graph.roots new.work.graph.roots (map main roots) → new.ran.items ≡ old.ran.items
      → GivesFew (keeper.right fs') old.arena.given new.arena
      → StopsFull (keeper.right fs') new.arena (counts_by keeper fs) (counts_by keeper fs') e → RoundStops keeper fs fs' old new roots e
  paused_stops roots only ran spends full =
      let before = counts_by keeper fs in
      let after = counts_by keeper fs' in
      record {
        lawful = λ since nodes freezes observed at.
            let l = paused_lawful M old new before after e p (nodes ++ observed) (listed roots only since nodes freezes observed at) in
            (over (λ G. IsLawfulIn M.functions G (died_by old new) (look_between old) (nodes ++ observed) e) l.0, l.1);
        tried = paused_tried M old new before after e p;
        few = λ since nodes freezes observed at.
            over (λ G. HasCalledMetIn M.functions G (died_by old new) (look_between old) (look_refused new) (nodes ++ observed) before.calls after.calls)
            (paused_called M old new before after e p (nodes ++ observed) (listed roots only since nodes freezes observed at));
        kept = p.kept;
        cutoffs = paused_cutoffs M old new before after e p;
        frozen = paused_frozen M old new before after e p;
        marks = paused_marks M old new before after e p;
        shows = λ n given. over (λ G. ShowsStillIn M.functions G (died_by old new) (look_between old) (look_refused new) n)
            (paused_shows M old new before after e p n given);
        unbuilt = λ since nodes freezes observed at.
            let b = paused_built M old new before after e p (nodes ++ observed) (listed roots only since nodes freezes observed at) in
            (b.0, over (λ G. BuildsRightIn M.functions G (died_by old new) (look_between old) (nodes ++ observed) b.0) b.1, b.2);
        ran = ran;
        spends = spends;
        full = full;
      }

  pub paused_leaves : SidesFit (keeper.known fs') (keeper.right fs') new.arena → KeepsMeaning keeper fs fs' → StaysFlat old.arena new.arena
      → RoundLeaves keeper fs fs' old new
  paused_leaves fit functions flat = record {
    left = paused_left (meaning_of keeper fs) old new (counts_by keeper fs) (counts_by keeper fs') e p;
    fit = fit;
    functions = functions;
    flat = flat;
  }

-- ---- it was accepted

module _ {K More : Type 0} (keeper : Ghosts K More) (fs fs' : K) (old : Parts) (wired rooted : Work) (ready : IsReady (meaning_of keeper fs) old)
    (wires : Wires old.arena old.work wired None) (put : PutsRoots old.arena wired rooted) (settled : Parts)
    (steps : Settles (meaning_of keeper fs) (record old { work = rooted }) settled (counts_by keeper fs) (counts_by keeper fs'))
    (stays : RoundStays keeper fs fs' (record old { work = rooted }) settled) (idle : settled.work.todo.items ≡ [])
    (empty : IsEmpty settled.work.graph.heap) (roots : List NodeId) (more : RootsMore old.work.graph.roots rooted.graph.roots (map main roots))
    (end : Parts) (g : NecessaryPart) (ended : HasEnded settled.arena settled.work g end.work) where
  abbrev result : Parts
  result = record settled { work = end.work; ran = end.ran }

  pub round_ends : MayBegin old roots → GivesLive old.arena.given 0 settled.arena → end.ran.items ≡ settled.work.ran.items
      → end.work.round ≡ old.work.round + 1 → live settled.arena ≤ vec_capacity end.work.ran → live settled.arena ≤ vec_capacity end.ran
      → RoundEnds keeper fs fs' old result roots
  round_ends may gives ran round called listed =
      let M = meaning_of keeper fs in
      let before = counts_by keeper fs in
      let after = counts_by keeper fs' in
      let same = means_still keeper fs fs' stays.functions in
      let fit : AllCallFit M.known M.ids settled.arena = subst (λ (L : Meaning). AllCallFit L.known L.ids settled.arena) same
      (fit_lists_given (keeper.known fs') (keeper.right fs') settled.arena stays.fit.all) in
      record {
        right = λ since nodes freezes observed at. round_rights M old wired rooted before ready wires put settled after steps stays.kept idle empty
            roots stays.roots more end g ended since nodes freezes observed at ran;
        calls = round_calls M old wired rooted before ready wires put settled after steps stays.kept idle empty roots stays.roots more end g ended ran;
        ready = subst (λ (L : Meaning). IsReady L result) (sym same)
            (round_readies M old wired rooted before ready wires put settled after steps stays.kept idle empty roots stays.roots more end g ended may fit
            called listed);
        gives = gives;
        round = round;
        builds = round_few M old wired rooted before ready wires put settled after steps stays.kept idle empty roots stays.roots more end g ended;
        built = λ since nodes freezes observed at. round_built M old wired rooted before ready wires put settled after steps stays.kept idle empty
            roots stays.roots more end g ended since nodes freezes observed at;
      }

  pub round_leaves : RoundLeaves keeper fs fs' old result
  round_leaves = record {
    left = round_left (meaning_of keeper fs) old wired rooted (counts_by keeper fs) ready wires put settled (counts_by keeper fs') steps stays.kept idle
        empty roots stays.roots more end g ended;
    fit = stays.fit;
    functions = stays.functions;
    flat = stays.flat;
  }
