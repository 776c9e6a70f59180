-- A round ends: what is needed is up to date, and another round may begin.
use Rattle.std.proofs.Common.{◌≡◌, ◌-◌, ◌⊎◌, inl, inr, ℕ, Bool, ◌<◌, ◌≤◌, ◌+◌, ◌++◌, true, false, cond, List, [], ◌∷◌, map, Option, None, Some, refl, sym, ap, subst, ◌∙◌, arith}
use Rattle.std.specs.Prelude.{is_some, ◌↔◌, ◌==◌, reverse, vec_capacity}
use Rattle.std.proofs.lemmas.Grind.{common_steps}
use Rattle.std.proofs.lemmas.List.{reverse-append}
use Rattle.std.proofs.lemmas.List.Sums.{sum_by-cons, sum_by_push}
use Rattle.std.proofs.lemmas.Option.{none-some, same_Some}
use Rattle.std.proofs.Math.Path.{fun_ext}
use Rattle.std.specs.List.{sum_by}
use Rattle.expert_nodes.specs.Experts.{fresh_at, is_stale_at}
use Rattle.inc_value.specs.declared.function.FnRef.{FnRef}
use Rattle.inc_value.specs.declared.node.NodeId.{NodeId}
use Rattle.inc_value.specs.declared.node.Part.TheVariants.{Main, Change}
use Rattle.inc_value.specs.declared.node.Point.{Point}
use Rattle.inc_value.specs.declared.outcome.Outcome.{Outcome}
use Rattle.inc_value.specs.declared.outcome.Outcome.TheVariants.{Val}
use Rattle.inc_value.specs.declared.value.Value.{Value}
use Rattle.inc_value.specs.Choice.{Among, NoRepeats, Reaches}
use Rattle.inc_terms.specs.Depend.{Depends, main, change, subject_of, none_died, died_in, scope_lost, fixed, fixed_reads}
use Rattle.inc_terms.specs.Evaluate.{Of, Values, gathered, NodeGives, GiveAll, Stands as ScopeStands}
use Rattle.inc_terms.specs.Graph.{Graph, Row, Def, Bind}
use Rattle.inc_terms.specs.Local.{shown, by_sight, Sees}
use Rattle.inc_terms.specs.Local as sight
use Rattle.inc_terms.specs.Need.{Needed, from_root, from_held}
use Rattle.inc_terms.specs.Term as term
use Rattle.inc_terms.specs.Term.{Functions, refs}
use Rattle.inc_terms.specs.Within.{FunctionLaws}
use Rattle.inc_terms.specs.Work.{taken_by}
use Rattle.inc_terms.proofs.Evaluation.{one_outcome}
use Rattle.inc_terms.proofs.Local.{needed_more}
use Rattle.inc_terms.proofs.Plan.{among_left, among_right, among_parts, among_map}
use Rattle.map_nodes.specs.declared.cutoff.Cutoff.{Cutoff}
use Rattle.point_map.specs.Rows.{Rows, at}
use Rattle.link_table.specs.Links.{times, Reads}
use Rattle.height_order.specs.Levels.{level, or_zero}
use Rattle.necessity.specs.Need.{root_times}
use Rattle.necessary_graph.specs.Part as part
use Rattle.necessary_graph.specs.Part.{IsInStep, NecessaryPart}
use Rattle.recompute_heap.specs.Agree.{IsEmpty}
use Rattle.node_arena.specs.Arena.{Arena, row_at, live}
use Rattle.node_arena.specs.Graph.{AllCallFit}
use Rattle.node_outcomes.specs.Choosing.{built_by, built_in}
use Rattle.node_outcomes.specs.Computing.{seen, seen_of, has_part}
use Rattle.node_outcomes.specs.Meaning.{Meaning}
use Rattle.node_outcomes.specs.Row.{cutoff_in, is_full, outcome_in, settled_in, stage_in, stage_of, with_frozen}
use Rattle.node_outcomes.specs.Progress.{Progress}
use Rattle.node_outcomes.specs.declared.row.Stage.{Stage}
use Rattle.stabilize_round.specs.Calling.{cost_at, costs_of}
use Rattle.stabilize_round.specs.Runs.{IsBuiltRight}
use Rattle.stabilize_round.proofs.Reasons.{reason_more, since_start}
use Rattle.stabilize_round.specs.Closing.{closed, next_start}
use Rattle.stabilize_round.specs.Counts.{RoseBy}
use Rattle.stabilize_round.specs.Ended.{RootsAre, Ended, Fires}
use Rattle.stabilize_round.specs.Freezing.{fires_at, frozen_after, graph_after, or_else}
use Rattle.stabilize_round.specs.Ids.{AllGiven}
use Rattle.stabilize_round.specs.Invariant as invariant
use Rattle.stabilize_round.specs.Invariant.{Invariant, MetNow, HasCalled, ScopesRooted}
use Rattle.stabilize_round.specs.Machine.{Entry, Moves, Stops, as_it_is}
use Rattle.stabilize_round.specs.Moves.{Quiet}
use Rattle.stabilize_round.specs.State.{State, Start, Call, all_retries}
use Rattle.stabilize_round.proofs.Meanings.{round_keeps, round_is_right, round_again}
use Rattle.stabilize_round.proofs.Planned.{reads_taken}
use Rattle.wiring.specs.Deciding.{is_needed}
use Rattle.wiring.specs.Kept.{IsKept}
use Rattle.wiring.specs.Scoped.{IsReleased}
use Rattle.wiring.specs.Stands.{MatchesState, Counts, counts_of, owes, PointInHand}
use Rattle.wiring.specs.declared.work.Work.{Work}
use Rattle.wiring.proofs.Deciding.{decides_needed}
use Rattle.wiring.specs.Graph.{graph_at}
use Rattle.stabilizer.specs.Freezing.{CanFreeze, FreezesKeep}
use Rattle.stabilizer.specs.Left.{IsMetIn, WasCalledIn, IsUpToDateIn}
use Rattle.stabilizer.specs.Look.{Look, look_between, IsNeeded, last_of, last_call, cutoff_at}
use Rattle.stabilizer.proofs.Round.Looking.{look_needs, work_needs}
use Rattle.stabilizer.specs.Kept.{graph_in, PartsKept}
use Rattle.stabilizer.specs.Round.{IsUpToDate, IsReady, AreRooted, died_by, left_by}
use Rattle.stabilizer.specs.declared.parts.Parts.{Parts}
use Rattle.stabilizer.proofs.Round.Beginning.{Begun, BegunOf, main_there}
use Rattle.stabilizer.proofs.Round.Counting.{within}
use Rattle.stabilizer.proofs.Round.Fired.{can_freeze, unfrozen}
use Rattle.stabilizer.proofs.Round.Frozen.{row_has, row_tells}
use Rattle.stabilizer.proofs.Round.NewDeaths.{deaths_told}
use Rattle.stabilizer.proofs.Round.Released.{closes, graph_then, kept_next, needed_back, rooted_then, same_height, was_in_heap}
use Rattle.stabilizer.proofs.Round.Rooting.{is_root, root_is}
use Rattle.stabilizer.proofs.Step.Making.{quiet_of}
use Rattle.stabilizer.proofs.Killing.Died.{live_undead}

-- ---- states

-- with this graph, and these that died, the state is so by itself
pub as_graph : (G : Graph) (died : NodeId → Option NodeId) (t : State) → t.graph ≡ G → t.died ≡ died → t ≡ record t { graph = G; died = died }
as_graph G died t graph e =
    ap (λ (x : Graph). record t { graph = x }) graph ∙ ap (λ (x : NodeId → Option NodeId). record t { graph = G; died = x }) e

-- with an empty heap none is in the state's
no_heap : (arena : Arena) (work : Work) (counts : Counts) (t : State) → MatchesState arena work counts None t → IsEmpty work.graph.heap
    → (p : Point) → t.heap p ≡ true → ⊥
no_heap arena work counts t st empty p e = absurd (let a = st.heap p in let b = ap is_some (empty p) in cc)

none_lost : (x y : Option Row) (r : Row) → y ≡ Some r → scope_lost x y ≡ None
none_lost None y r e = refl
none_lost (Some x) y r e = rw e refl

-- who died by the state died by the graphs before and then
pub died_same : (F : Functions) (z : Start) (old new : Parts) (counts later : Counts) (left : Option PointInHand) (s t u : State)
    → IsKept new.arena new.work
    → MatchesState old.arena old.work counts None s → Entry F z s → AllGiven F z s → Moves F z s t → Stops F z t u → MatchesState new.arena new.work later left u
    → u.died ≡ died_by old new
died_same F z old new counts later left s t u kept was entry given run stop now = fun_ext (λ n. by_row n (row_at new.arena n) refl)
  where
    by_row : (n : NodeId) (x : Option Row) → row_at new.arena n ≡ x → u.died n ≡ died_by old new n
    by_row n None e = deaths_told F z s t u entry given run stop n (ap (λ (G : Graph). G.row n) now.graph ∙ e)
        ∙ (ap (λ (G : Graph). died_in G u.graph n) was.graph ∙ ap (λ (G : Graph). died_in (graph_in old) G n) now.graph)
    by_row n (Some r) e = now.died n ∙ (live_undead new.arena new.work kept n r e ∙ sym (none_lost (row_at old.arena n) (row_at new.arena n) r e))

-- ---- what rows show

-- what is seen of a node is what is shown of it
pub seen_case : (x : Option Progress) (y : Option Row) (o : Option Outcome) → is_some x ≡ is_some y → ((k : Progress) → x ≡ Some k → o ≡ k.outcome)
    → seen_of x ≡ sight.shown_of y o
seen_case None None o same is = refl
seen_case None (Some r) o same is = absurd (cc)
seen_case (Some k) None o same is = absurd (cc)
seen_case (Some k) (Some r) o same is = sym (is k refl)

-- a point with a row shows what the state shows
shows : (x : Option Progress) (o : Option Outcome) → is_some x ≡ true → ((k : Progress) → x ≡ Some k → o ≡ k.outcome) → outcome_in x ≡ o
shows None o there is = absurd (cc)
shows (Some k) o there is = sym (is k refl)

-- of a live node the state knows the last call
last_case : (x : Option Progress) (y : Option Row) (r : Row) (c : Option Call) → is_some x ≡ is_some y → y ≡ Some r
    → ((k : Progress) → x ≡ Some k → c ≡ k.last) → last_of x ≡ c
last_case None y r c same e is = absurd (let k = same ∙ ap is_some e in cc)
last_case (Some k) y r c same e is = sym (is k refl)

-- who has a row has this cutoff
pub cutoff_live : (x : Option Progress) (c : Cutoff) → is_some x ≡ true → ((k : Progress) → x ≡ Some k → k.cutoff ≡ c)
    → cutoff_in x ≡ c
cutoff_live None c there is = absurd (cc)
cutoff_live (Some k) c there is = is k refl

-- what nodes give that show what they give, put together
gathered_by : (F : Functions) (G : Graph) (out : Point → Option Outcome) (ns : List NodeId) (vs : List Value) → GiveAll F G ns vs
    → ((k : NodeId) → Among k ns → Sees F G out k) → gathered (by_sight (shown G out)) (refs ns) ≡ Values vs
gathered_by F G out [] [] gives sees = refl
gathered_by F G out [] (v ∷ vs) gives sees = absurd gives
gathered_by F G out (n ∷ ns) [] gives sees = absurd gives
gathered_by F G out (n ∷ ns) (v ∷ vs) gives sees =
    let s = sees n (inl refl) in
    let same = one_outcome F G (Of (term.Ref n)) s.0 (Val v) s.2 gives.0 in
    let first : shown G out (main n) ≡ Some (Val v) = s.1 ∙ ap (λ (o : Outcome). Some o) same in
    let rest = gathered_by F G out ns vs gives.1 (λ k a. sees k (inr a)) in
    rw (first, rest) refl

-- ---- a list from its end

among_reverse : (n : NodeId) (ns : List NodeId) → Among n ns → Among n (reverse ns)
among_reverse n [] a = absurd a
among_reverse n (m ∷ ms) (inl e) = subst (λ (xs : List NodeId). Among n xs) (sym (reverse-append (m ∷ []) ms)) (among_right n (reverse ms)
    (m ∷ []) (inl e))
among_reverse n (m ∷ ms) (inr a) =
    subst (λ (xs : List NodeId). Among n xs) (sym (reverse-append (m ∷ []) ms)) (among_left n (reverse ms) (m ∷ []) (among_reverse n ms a))

reverse_among : (n : NodeId) (ns : List NodeId) → Among n (reverse ns) → Among n ns
reverse_among n [] a = absurd a
reverse_among n (m ∷ ms) a = elim (among_parts n (reverse ms) (m ∷ []) (subst (λ (xs : List NodeId). Among n xs) (reverse-append (m ∷ []) ms) a)) [
  | inl h ↦ inr (reverse_among n ms h)
  | inr (inl e) ↦ inl e
  | inr (inr h) ↦ absurd h
]

last_apart : (ns : List NodeId) (n : NodeId) → NoRepeats (ns ++ n ∷ []) → NoRepeats ns × (Among n ns → ⊥)
last_apart [] n once = (tt, λ a. a)
last_apart (m ∷ ms) n once =
    let rest = last_apart ms n once.1 in
    let apart : Among n (m ∷ ms) → ⊥ = λ a. elim a [ inl e ↦ once.0 (among_right m ms (n ∷ []) (inl (sym e))) | inr h ↦ rest.1 h ] in
    (((λ a. once.0 (among_left m ms (n ∷ []) a)), rest.0), apart)

swapped : (a b : ℕ) → a + b ≡ b + a
swapped a b = omega arith

sum_reverse : (f : NodeId → ℕ) (ns : List NodeId) → sum_by f (reverse ns) ≡ sum_by f ns
sum_reverse f [] = refl
sum_reverse f (m ∷ ms) =
    ap (sum_by f) (reverse-append (m ∷ []) ms) ∙ sum_by_push f (reverse ms) m ∙ ap (λ (k : ℕ). k + f m) (sum_reverse f ms)
    ∙ swapped (sum_by f ms) (f m) ∙ sym (sum_by-cons f m ms)

once_reverse : (ns : List NodeId) → NoRepeats (reverse ns) → NoRepeats ns
once_reverse [] once = tt
once_reverse (m ∷ ms) once =
    let parts = last_apart (reverse ms) m (subst (λ (xs : List NodeId). NoRepeats xs) (reverse-append (m ∷ []) ms) once) in
    ((λ a. parts.1 (among_reverse m ms a)), once_reverse ms parts.0)

-- ---- a round that ended

module _ (M : Meaning) (old mid : Parts) (before after : Counts) (first : PartsKept old) (begins : BegunOf M old before) (kept : PartsKept mid)
    (t : State) (run : Moves M.functions begins.begun.start begins.begun.state t) (stands : MatchesState mid.arena mid.work after None t)
    (idle : mid.work.todo.items ≡ []) (empty : IsEmpty mid.work.graph.heap) where
  abbrev F : Functions
  F = M.functions

  abbrev b : Begun M.functions old before
  b = begins.begun

  abbrev z : Start
  z = begins.begun.start

  abbrev arena : Arena
  arena = mid.arena

  abbrev work : Work
  work = mid.work

  abbrev G : Graph
  G = graph_in mid

  abbrev D : NodeId → Option NodeId
  D = died_by old mid

  abbrev last : State
  last = record t { graph = G; died = D }

  is_last : t ≡ last
  is_last = as_graph G D t stands.graph
      (died_same F z old mid before after None b.state t t kept.work b.stands b.entry begins.round.given run (as_it_is refl) stands)

  moves : Moves F z b.state last
  moves = subst (λ (x : State). Moves F z b.state x) is_last run

  inv : Invariant F z t
  inv = round_keeps F z b.state t b.entry run

  inv_last : Invariant F z last
  inv_last = round_keeps F z b.state last b.entry moves

  quiet : Quiet t
  quiet = quiet_of arena work after t stands idle

  none : (p : Point) → t.heap p ≡ true → ⊥
  none = no_heap arena work after t stands empty

  stands_last : MatchesState arena work after None last
  stands_last = subst (λ (x : State). MatchesState arena work after None x) is_last stands

  quiet_last : Quiet last
  quiet_last = subst Quiet is_last quiet

  none_last : (p : Point) → last.heap p ≡ true → ⊥
  none_last = subst (λ (x : State). (p : Point) → x.heap p ≡ true → ⊥) is_last none

  -- ---- outcomes and last calls

  seen_is : (n : NodeId) → seen work.rows (main n) ≡ shown G t.out (main n)
  seen_is n = seen_case (at work.rows (main n)) (row_at arena n) (t.out (main n)) (main_there arena work kept.work n) (λ k e. stands.out
      (main n) k e)

  last_is : (n : NodeId) (r : Row) → row_at arena n ≡ Some r → last_call work n ≡ t.last n
  last_is n r row = last_case (at work.rows (main n)) (row_at arena n) r (t.last n) (main_there arena work kept.work n) row
      (λ k e. stands.last n k e)

  -- cutoffs stay
  cutoffs : (n : NodeId) (r : Row) → row_at arena n ≡ Some r → cutoff_at work n ≡ cutoff_at old.work n
  cutoffs n r row = cutoff_live (at work.rows (main n)) (cutoff_at old.work n) (main_there arena work kept.work n ∙ ap is_some row)
      (λ k e. sym (stands.cutoff n k e) ∙ (inv.accounts.cutoffs n ∙ b.cutoff n))

  -- the count of calls rose by what each costs
  pub counted : RoseBy before.calls (costs_of G work.ran.items) after.calls
  counted = subst (λ (k : ℕ). RoseBy before.calls k after.calls) (ap (costs_of G) stands.ran ∙ sum_reverse (cost_at G) work.ran.items)
      (subst (λ (k : ℕ). RoseBy k (costs_of G t.ran) after.calls) b.calls
      (subst (λ (k : ℕ). RoseBy z.calls (costs_of G t.ran) k) (ap (λ (x : Counts). x.calls) stands.counts) inv_last.accounts.count))

  -- ---- the next round

  later : (n m : ℕ) → n ≤ m → (n == m + 1) ≡ false
  later n m le = grind (arith, common_steps)

  -- ---- roots

  abbrev pub AreObserved : List NodeId → Type 0
  AreObserved observed = AreRooted arena work arena.given observed

  pub are : (observed : List NodeId) → AreObserved observed → RootsAre last observed
  are observed rooted = record {
    on = λ n root. is_root G arena.given observed last.root (λ p. stands.root p ∙ rooted p) n root (λ r row. kept.work.sound.given n (ap is_some row));
    listed = λ p h. root_is G arena.given observed last.root (λ q. stands.root q ∙ rooted q) p h;
  }

  all_done : (observed : List NodeId) → AreObserved observed → Ended F z last observed
  all_done observed rooted = round_is_right F z b.state last observed b.entry moves (are observed rooted) quiet_last none_last

  in_state : (n : NodeId) → Among n work.ran.items → Among n t.ran
  in_state n a = subst (λ (ns : List NodeId). Among n ns) (sym stands.ran) (among_reverse n work.ran.items a)

  in_work : (n : NodeId) → Among n t.ran → Among n work.ran.items
  in_work n a = reverse_among n work.ran.items (subst (λ (ns : List NodeId). Among n ns) stands.ran a)

  -- each freeze that is to keep a value was called, is a root and reads its child
  pub may_freeze : (observed : List NodeId) → AreObserved observed → CanFreeze arena work.rows work.graph work.ran.items
  may_freeze observed rooted = can_freeze arena work after last kept.work stands_last F z inv_last quiet_last observed (all_done observed rooted)
      (λ n kid h.
      let u = unfrozen arena work after last kept.work stands_last n kid h in
      (are observed rooted).on n (inr u))
      in_work

  -- ---- freezes keep their values, and the dead let go

  module _ (end : Parts) (rows' : Rows Progress) (g : NecessaryPart) (keep : FreezesKeep arena work.rows rows' work.graph g)
      (r : IsReleased (record mid.work { rows = rows'; graph = g }) end.work) (in_step : IsInStep end.work.graph) (ran : end.work.ran.items ≡ [])
      (retries : end.work.retries ≡ all_retries) (round : end.work.round ≡ mid.work.round + 1) where
    abbrev new : Work
    new = end.work

    abbrev next : Work
    next = record mid.work { rows = rows'; graph = end.work.graph; deaths = end.work.deaths; ran = end.work.ran; retries = end.work.retries; round = end.work.round }

    abbrev next_parts : Parts
    next_parts = record mid { work = next; ran = end.ran }

    -- the graph then
    abbrev N : Graph
    N = graph_at arena next

    abbrev links' : Point → Point → ℕ
    links' p q = times end.work.graph.links p q

    abbrev root' : Point → ℕ
    root' p = root_times end.work.graph.roots p

    abbrev needed' : Point → Bool
    needed' = is_needed end.work.graph

    -- what is told of a row but for its flag
    tells : {A : Type 0} (f : Option Progress → A) → ((k : Progress) → f (Some (with_frozen k)) ≡ f (Some k)) → (p : Point) → f (at rows' p) ≡ f (at work.rows p)
    tells = row_tells arena work.rows rows' work.graph g keep

    graph_is : graph_after last ≡ N
    graph_is = graph_then F z last inv_last quiet_last arena work rows' g new after kept.work stands_last keep r in_step

    -- the state after it, where those that died are forgotten
    abbrev shut : State
    shut = closed last root' links' needed'

    abbrev rest : State
    rest = record shut { graph = N }

    shut_is : shut ≡ rest
    shut_is = ap (λ (H : Graph). record shut { graph = H }) graph_is

    unsettled : (x : Option Progress) → ((k : Progress) → x ≡ Some k → k.settled ≤ work.round) → settled_in (work.round + 1) x ≡ false
    unsettled None low = refl
    unsettled (Some k) low = later k.settled work.round (low k refl)

    height_is : (p : Point) → part.Needed new.graph p → t.height p ≡ level new.graph.heights p
    height_is p n =
        let held = in_step.there p n in
        let same = same_height F z last inv_last quiet_last arena work rows' g new after kept.work stands_last keep r in_step p held in
        stands.height p (needed_back F z last inv_last quiet_last arena work rows' g new after kept.work stands_last keep r in_step p n)
        ∙ sym (height_at (at new.graph.heights p) same)
      where
        height_at : (x : Option ℕ) → x ≡ at work.graph.heights p → or_zero x ≡ or_zero (at work.graph.heights p)
        height_at x e = ap or_zero e

    no_place : (p : Point) (x : Option ℕ) → at new.graph.heap p ≡ x → false ≡ is_some x
    no_place p None e = refl
    no_place p (Some h) e = absurd (
        let a = was_in_heap F z last inv_last quiet_last arena work rows' g new after kept.work stands_last keep r in_step p h e in
        let c = empty p in cc)

    heap_is : (p : Point) → t.heap p ≡ is_some (at new.graph.heap p)
    heap_is p = stands.heap p ∙ (ap is_some (empty p) ∙ no_place p (at new.graph.heap p) refl)

    -- of a row that is there all but its flag was there
    had : (P : Progress → Type 0) → ((k : Progress) → P k → P (with_frozen k)) → (p : Point) → ((k : Progress) → at work.rows p ≡ Some k → P k)
        → (k : Progress) → at rows' p ≡ Some k → P k
    had = row_has arena work.rows rows' work.graph g keep

    none_owed : (p : Point) → t.owed p ≡ []
    none_owed p = inv.rows.owed p (quiet p)

    none_then : (p : Point) → needed' p ≡ true → owes next true p ≡ []
    none_then p e =
        let was : t.needed p ≡ true = (stands.needed p).1 (needed_back F z last inv_last quiet_last arena work rows' g new after kept.work
        stands_last keep r in_step p ((decides_needed new.graph in_step p).0 e)) in
        ap (λ (x : Option Stage). cond (is_full x) (map main (fresh_at work.experts p.node)) []) (tells stage_in (λ k. refl) p)
        ∙ (ap (λ (need : Bool). owes work need p) (sym was) ∙ (sym (stands.owed p) ∙ none_owed p))

    owed_is : (p : Point) → t.owed p ≡ owes next (needed' p) p
    owed_is p = none_owed p ∙ sym (by (needed' p) refl)
      where
        by : (need : Bool) → needed' p ≡ need → owes next need p ≡ []
        by false e = refl
        by true e = none_then p e

    stands_next : MatchesState arena next (counts_of rest) None rest
    stands_next = record {
      graph = refl;
      out = λ p k e. had (λ x. t.out p ≡ x.outcome) (λ x h. h) p (λ x is. stands.out p x is) k e;
      last = λ n k e. had (λ x. t.last n ≡ x.last) (λ x h. h) (main n) (λ x is. stands.last n x is) k e;
      cutoff = λ n k e. had (λ x. t.cutoff n ≡ x.cutoff) (λ x h. h) (main n) (λ x is. stands.cutoff n x is) k e;
      stale = stands.stale;
      links = λ p q. refl;
      root = λ p. refl;
      needed = λ p. decides_needed new.graph in_step p;
      height = height_is;
      heap = heap_is;
      settled = λ p. sym (tells (λ x. settled_in end.work.round x) (λ k. refl) p
          ∙ (ap (λ (k : ℕ). settled_in k (at work.rows p)) round ∙ unsettled (at work.rows p) (kept.work.rounds p)));
      stage = λ p k e. had (λ x. t.stage p ≡ stage_of x.stage) (λ x h. h) p (λ x is. stands.stage p x is) k e;
      owed = owed_is;
      todo = stands.todo;
      retries = sym retries;
      died = λ n. sym (r.deaths n);
      ran = sym (ap reverse ran);
      counts = refl;
      given = stands.given;
    }

    -- ---- what is up to date

    abbrev after_look : Look
    after_look = look_between next_parts

    -- the round had this number
    this_round : next.round - 1 ≡ mid.work.round
    this_round = omega (arith, round)

    kept_needs : (p : Point) → IsNeeded after_look p → part.Needed new.graph p
    kept_needs p need = work_needs (next.round - 1) arena next p need

    seen_same : (n : NodeId) → seen rows' (main n) ≡ seen work.rows (main n)
    seen_same n = tells seen_of (λ k. refl) (main n)

    last_same : (n : NodeId) → last_call next n ≡ last_call work n
    last_same n = tells last_of (λ k. refl) (main n)

    module _ (observed : List NodeId) (rooted : AreObserved observed) where
      ended : Ended F z last observed
      ended = all_done observed rooted

      again : Entry F (next_start z last needed') shut × Ended F (next_start z last needed') shut observed
      again = round_again F z b.state last observed b.entry moves (are observed rooted) quiet_last none_last root' links' needed'
          (closes F z last inv_last quiet_last arena work rows' g new after kept.work stands_last keep r in_step observed rooted ended)

      ended_again : Ended F (next_start z last needed') rest observed
      ended_again = subst (λ (x : State). Ended F (next_start z last needed') x observed) shut_is again.1

      pub ready_next : FunctionLaws M.functions M.known M.ids → AllCallFit M.known M.ids arena → ScopesRooted (graph_in next_parts)
          → live arena ≤ vec_capacity end.work.ran → live arena ≤ vec_capacity end.ran → IsReady M next_parts
      ready_next laws fit inside called listed = record {
        kept = record {
          work = kept_next F z last inv_last quiet_last arena work rows' g new after kept.work stands_last keep r in_step round called;
          scopes = kept.scopes;
          dying = kept.dying;
          clock = kept.clock;
          listing = listed;
        };
        laws = laws;
        fit = fit;
        start = next_start z last needed';
        state = rest;
        stands = stands_next;
        entry = subst (λ (x : State). Entry F (next_start z last needed') x) shut_is again.0;
        linked = λ p need. inr (none_then p ((decides_needed new.graph in_step p).1 need));
        inside = inside;
        ran = ran;
        numbered = omega (arith, round);
      }

      abbrev IsWanted : Point → Type 0
      IsWanted p = Needed F G D observed p

      -- ---- what was needed

      sees : (n : NodeId) → IsWanted (main n) → (o : Outcome) × (seen rows' (main n) ≡ Some o) × NodeGives F G n o
      sees n want = let s = ended.sees n want in (s.0, seen_same n ∙ (seen_is n ∙ s.1), s.2)

      -- a change shows what its subject gives
      chose : (n m : NodeId) (x : Row) → row_at arena n ≡ Some x → subject_of x.def ≡ Some m → IsWanted (change n)
          → (o : Outcome) × (outcome_in (at work.rows (change n)) ≡ Some o) × NodeGives F G m o
      chose n m x row subject want =
          let now = (ended.exact (change n) ((ended.needs (change n)).1 want) x row).1 m subject in
          let there : is_some (at work.rows (change n)) ≡ true =
          kept.work.rows (change n) ∙ (ap (λ (y : Option Row). has_part y Change) row ∙ ap is_some subject) in
          (now.0, shows (at work.rows (change n)) (t.out (change n)) there (λ k e. stands.out (change n) k e) ∙ now.1, now.2)

      chose_then : (n m : NodeId) (x : Row) → row_at arena n ≡ Some x → subject_of x.def ≡ Some m → IsWanted (change n)
          → (o : Outcome) × (outcome_in (at rows' (change n)) ≡ Some o) × NodeGives F G m o
      chose_then n m x row subject want =
          let c = chose n m x row subject want in (c.0, tells outcome_in (λ k. refl) (change n) ∙ c.1, c.2)

      -- a bind is built for it
      built : (n m : NodeId) (x : Row) (f : FnRef) (captures : List NodeId) → row_at arena n ≡ Some x → x.def ≡ Bind m f captures
          → IsWanted (change n) → IsBuiltRight F G n
      built n m x f captures row def want =
          let now = chose n m x row (ap (λ (d : Def). subject_of d) def) want in
          let root = at work.roots (change n) in
          record {
            row = x;
            left = m;
            function = f;
            captures = captures;
            built = record { outcome = now.0; root = root };
            is_row = row;
            is_bind = def;
            is_built = ap (λ (y : Option Row). built_in y (outcome_in (at work.rows (change n))) root) row
                ∙ (ap (λ (o : Option Outcome). built_in (Some x) o root) now.1 ∙ ap (λ (d : Def). built_by d (Some now.0) root) def);
            gives = now.2;
          }

      -- ---- what is needed then

      abbrev IsNeededThen : Point → Type 0
      IsNeededThen p = Needed F N none_died observed p

      decides : (p : Point) → (is_needed new.graph p ≡ true) ↔ part.Needed new.graph p
      decides p = decides_needed new.graph in_step p

      wanted : (p : Point) → part.Needed new.graph p → IsNeededThen p
      wanted p need = (ended_again.needs p).0 ((decides p).1 need)

      needed : (p : Point) → IsNeededThen p → part.Needed new.graph p
      needed p want = (decides p).0 ((ended_again.needs p).1 want)

      links : (p q : Point) → part.Needed new.graph p → Reads new.graph.links p q ↔ Depends F N none_died p q
      links p q need = ended_again.links p q ((decides p).1 need)

      -- ---- last calls

      kid_wanted : (n : NodeId) (x : Row) (nodes : List NodeId) (k : NodeId) → part.Needed new.graph (main n) → row_at arena n ≡ Some x
          → taken_by N n x.def ≡ Some nodes → Among k nodes → IsNeededThen (main k)
      kid_wanted n x nodes k need row def a =
          let among : Among (main k) (fixed_reads N n x.def Main) = reads_taken N n x.def nodes (main k) def (among_map main k nodes a) in
          needed_more F N none_died observed (main n) (main k) (wanted (main n) need)
          (fixed row (ended_again.exact (main n) ((decides (main n)).1 need) x row).0 among)

      recalls : (n : NodeId) (x : Row) (nodes : List NodeId) (values : List Value) → part.Needed new.graph (main n) → row_at arena n ≡ Some x
          → taken_by N n x.def ≡ Some nodes → GiveAll F N nodes values → (c : Call) × (last_call next n ≡ Some c) × (c.arguments ≡ values)
      recalls n x nodes values need row def gives =
          let all = gathered_by F N t.out nodes values gives (λ k a. ended_again.sees k (kid_wanted n x nodes k need row def a)) in
          let c = ended_again.recalls (main n) ((decides (main n)).1 need) x nodes values row refl def all in
          (c.0, last_same n ∙ (last_is n x row ∙ c.1), c.2)

      is_met : (p : Point) → MetNow F z G D t.root p → IsMetIn F G D (look_between old) observed p
      is_met p (invariant.from_root {r = top} root way) =
          let l = (are observed rooted).listed top root in
          from_root l.1 (subst (λ (y : Point). Reaches (Depends F G D) y p) l.2 way)
      is_met p (invariant.from_held {h} held row stand way) = from_held (look_needs (old.work.round - 1) old.arena old.work h ((b.held h).0 held)) row stand way

      settled_was : (q : Point) → settled_in (next.round - 1) (at rows' q) ≡ t.settled q
      settled_was q = tells (λ x. settled_in (next.round - 1) x) (λ k. refl) q
          ∙ (ap (λ (k : ℕ). settled_in k (at work.rows q)) this_round ∙ sym (stands.settled q))

      settled_then : (q : Point) → t.settled q ≡ true → after_look.settled q ≡ true
      settled_then q settled = settled_was q ∙ settled

      was_called : (n : NodeId) → HasCalled F z G D t.root t.settled t.last n → WasCalledIn F G D (look_between old) after_look observed n
      was_called n c = record {
        due = record {
          row = c.row;
          kids = c.kids;
          values = c.values;
          is_row = c.is_row;
          takes = c.takes;
          gives = c.gives;
          reason = reason_more settled_then (since_start (b.last n) b.cutoff (b.stale n) c.reason);
          met = is_met (main n) c.met;
        };
        result = c.result;
        answers = c.answers;
        is_last = last_same n ∙ (last_is n c.row c.is_row ∙ c.is_last);
      }

      called : (n : NodeId) → Among n work.ran.items → WasCalledIn F G D (look_between old) after_look observed n
      called n a = was_called n (ended.ran n (in_state n a))

      -- and its scope stands
      called_standing : (n : NodeId) → Among n work.ran.items → (c : WasCalledIn F G D (look_between old) after_look observed n) × ScopeStands F G c.due.row.scope
      unfolding was_called
      called_standing n a =
          let c = ended.ran n (in_state n a) in
          (was_called n c, ((inv_last.settled.done (main n) c.is_settled).exact c.row c.is_row).0)

      costs : (n : NodeId) → Among n work.ran.items → 0 < cost_at G n
      costs n a = ended.costs n (in_state n a)

      uncalled : (n : NodeId) (x : Row) → row_at arena n ≡ Some x → (Among n work.ran.items → ⊥)
          → (last_call next n ≡ last_call old.work n) ⊎ (WasCalledIn F G D (look_between old) after_look observed n × (cost_at G n ≡ 0))
      uncalled n x row not =
          elim (ended.kept n x row (λ a. not (in_work n a))) [
            | inl k ↦ inl (last_same n ∙ (last_is n x row ∙ (k ∙ b.last n)))
            | inr c ↦ inr (was_called n c.0, c.1)
          ]

      once : NoRepeats work.ran.items
      once = once_reverse work.ran.items (subst (λ (ns : List NodeId). NoRepeats ns) stands.ran ended.once)

      -- ---- marks, and what freezes keep

      unmarked : (n : NodeId) (x : Row) → row_at arena n ≡ Some x → IsWanted (main n) → is_stale_at work.experts n ≡ false
      unmarked n x row want = sym (stands.stale n) ∙ ended.unmarked n x row ((ended.needs (main n)).1 want)

      renewed : (n : NodeId) (x : Row) (kids : List NodeId) (values : List Value) → is_stale_at old.work.experts n ≡ true → IsWanted (main n)
          → row_at arena n ≡ Some x → taken_by G n x.def ≡ Some kids → GiveAll F G kids values → 0 < cost_at G n → Among n work.ran.items
      renewed n x kids values stale want row takes gives cost =
          in_work n (ended.renewed n x kids values (b.stale n ∙ stale) ((ended.needs (main n)).1 want) row takes gives cost)

      marks : (n : NodeId) → after_look.settled (main n) ≡ false → is_stale_at work.experts n ≡ is_stale_at old.work.experts n
      marks n not = sym (stands.stale n) ∙ (inv_last.accounts.marked n (sym (settled_was (main n)) ∙ not) ∙ b.stale n)

      frozen_is : (n : NodeId) → N.frozen n ≡ frozen_after last n
      frozen_is n = ap (λ (H : Graph). H.frozen n) (sym graph_is)

      froze_by : (n : NodeId) (v : Value) (x : Option Value) → fires_at last n ≡ x
          → (or_else x (G.frozen n) ≡ Some v) ↔ ((G.frozen n ≡ Some v) ⊎ Fires F G n v)
      froze_by n v None e = (
        λ is. inl is,
        λ h. elim h [
          | inl was ↦ was
          | inr fires ↦ absurd (none-some v (sym e ∙ (ended.fires n v).1 fires))
        ],
      )
      froze_by n v (Some w) e = (
        λ is. inr (subst (λ (u : Value). Fires F G n u) (same_Some w v is) ((ended.fires n w).0 e)),
        λ h. elim h [
          | inl was ↦ absurd (let fires = (ended.fires n w).0 e in none-some v (sym fires.keeps_none ∙ was))
          | inr fires ↦ sym e ∙ (ended.fires n v).1 fires
        ],
      )

      froze : (n : NodeId) (v : Value) → (N.frozen n ≡ Some v) ↔ ((G.frozen n ≡ Some v) ⊎ Fires F G n v)
      froze n v =
          let k = froze_by n v (fires_at last n) refl in
          (λ is. k.0 (sym (frozen_is n) ∙ is), λ h. frozen_is n ∙ k.1 h)

      pub up_next : IsUpToDateIn F G D N (look_between old) after_look observed work.ran.items
      up_next = record {
        roots = rooted_then F z last inv_last quiet_last arena work rows' g new after kept.work stands_last keep r in_step observed rooted ended;
        needs = λ p. (λ need. wanted p (kept_needs p need), λ want. look_needs (next.round - 1) arena next p (needed p want));
        sees = sees;
        chose = chose_then;
        built = built;
        acyclic = ended.acyclic;
        shallow = ended.shallow;
        links = λ p q need. links p q (kept_needs p need);
        recalls = λ n x kids values need. recalls n x kids values (kept_needs (main n) need);
        kept = uncalled;
        cutoff = λ n x row. tells cutoff_in (λ k. refl) (main n) ∙ cutoffs n x row;
        unmarked = unmarked;
        renewed = renewed;
        marks = marks;
        froze = froze;
        once = once;
        called = called;
        costs = costs;
        work = λ beside observers stood are_on calls few. within F G D (look_between old) after_look observed beside
            observers stood are_on work.ran.items once called_standing calls few;
      }

      abbrev end_parts : Parts
      end_parts = record mid { work = end.work; ran = end.ran }

      -- as the round's end leaves it, over the graph that its round read
      pub up_end : next ≡ end.work → end.ran.items ≡ work.ran.items → G ≡ left_by old (record mid { work = end.work; ran = end.ran })
          → IsUpToDate F old (record mid { work = end.work; ran = end.ran }) observed
      up_end is ran_is left = subst (λ (H : Graph). IsUpToDateIn F H D (graph_in end_parts) (look_between old) (look_between end_parts) observed end.ran.items) left
          (subst (λ (w : Work). IsUpToDateIn F G D (graph_at arena w) (look_between old) (look_between (record mid { work = w; ran = end.ran })) observed end.ran.items)
          is (subst (λ (xs : List NodeId). IsUpToDateIn F G D N (look_between old) after_look observed xs) (sym ran_is) up_next))

      pub ready_end : next ≡ end.work → FunctionLaws M.functions M.known M.ids → AllCallFit M.known M.ids arena
          → ScopesRooted (graph_at arena end.work) → live arena ≤ vec_capacity end.work.ran → live arena ≤ vec_capacity end.ran
          → IsReady M (record mid { work = end.work; ran = end.ran })
      ready_end is laws fit inside called listed = subst (λ (w : Work). IsReady M (record mid { work = w; ran = end.ran })) is
          (ready_next laws fit (subst (λ (w : Work). ScopesRooted (graph_at arena w)) (sym is) inside) called listed)
