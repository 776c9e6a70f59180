-- Roots are put on one by one, and steps are made one by one.
use Rattle.std.proofs.Common.{◌≡◌, ◌≢◌, ◌⊎◌, inl, inr, ℕ, ◌<◌, ◌+◌, ◌++◌, zero, suc, List, [], ◌∷◌, length, map, take, drop, get_or, None, refl, sym, ap, subst, ◌∙◌, arith, length-append}
use Rattle.std.proofs.lemmas.List.{take_more, map-append, take-append-drop}
use Rattle.inc_value.specs.declared.node.NodeId.{NodeId}
use Rattle.inc_value.specs.declared.node.Point.{Point}
use Rattle.inc_value.specs.Choice.{Among, here}
use Rattle.inc_terms.specs.Depend.{main}
use Rattle.inc_terms.specs.Term.{Functions}
use Rattle.inc_terms.proofs.Plan.{among_left, among_map}
use Rattle.necessity.specs.Need.{Roots, root_times, OneRootMore}
use Rattle.node_arena.specs.Arena.{Arena}
use Rattle.node_outcomes.specs.Meaning.{Meaning}
use Rattle.stabilize_round.specs.Calling.{cost_at}
use Rattle.stabilize_round.specs.Counts.{RoseAtMost}
use Rattle.stabilize_round.specs.Machine.{Move, Moves, as_it_is, unkept, called_more}
use Rattle.stabilize_round.specs.Moves.{Quiet}
use Rattle.stabilize_round.specs.State.{State, count}
use Rattle.stabilize_round.proofs.Machine.{moves_keep}
use Rattle.stabilize_round.proofs.Parts.{bool_cases}
use Rattle.stabilize_round.proofs.Points.{same_or_other, one_same, one_other, count_append, count_among}
use Rattle.stabilize_round.proofs.Runs.{run_grows}
use Rattle.stabilize_round.proofs.Steps.{joined, step_moves}
use Rattle.wiring.specs.Kept.{IsKept}
use Rattle.wiring.specs.Refusing.{TellsWhy, no_memory}
use Rattle.wiring.specs.Stands.{MatchesState, Counts, counts_of}
use Rattle.wiring.specs.Wiring.{PutsRoots, RootRefused}
use Rattle.wiring.specs.declared.refused.Refused.{Refused}
use Rattle.wiring.specs.declared.refused.Refused.TheVariants.{Memory}
use Rattle.wiring.specs.declared.work.Work.{Work}
use Rattle.stabilizer.specs.Kept.{PartsKept}
use Rattle.stabilizer.specs.Round.{IsInRound, RootsMore, OnlyRoots, Settles, Pauses, SettleRefused}
use Rattle.stabilizer.specs.Stepping.{HasCalledDue, Steps, StepRefused, StepStops, as_it_was, unbuilt, wiring, StepFalls, left_to_settle}
use Rattle.stabilizer.specs.Stepping.{SettlesLeast, StepsMade, none_made, one_made}
use Rattle.stabilizer.specs.declared.parts.Parts.{Parts}
use Rattle.stabilizer.proofs.Round.Began.{round_on}
use Rattle.stabilizer.proofs.Building.EveryPoint.{every_point, every_node, covers}
use Rattle.wiring.proofs.Handing.{id_among}

-- ---- roots

-- one root more at a point
roots_one : (old new : Roots) (p : Point) → OneRootMore old new p → RootsMore old new (p ∷ [])
roots_one old new p more a = elim (same_or_other a p) [
  | inl e ↦
      let r = more.raised in let s = one_same p in
      subst (λ (x : Point). root_times new x ≡ root_times old x + count x (p ∷ [])) (sym e) (omega arith)
  | inr ne ↦ let o = more.others a ne in let n = one_other a p ne in omega arith
]

roots_join : (old mid new : Roots) (ps qs : List Point) → RootsMore old mid ps → RootsMore mid new qs → RootsMore old new (ps ++ qs)
roots_join old mid new ps qs first next a = let x = first a in let y = next a in let c = count_append a ps qs in omega arith

pub zero_or_more : (n : ℕ) → (n ≡ 0) ⊎ (0 < n)
zero_or_more zero = inl refl
zero_or_more (suc n) = inr (omega arith)

-- what is a root now was one, or is one of those that were put on
pub roots_only : (old new : Roots) (points : List Point) → RootsMore old new points → OnlyRoots old new points
roots_only old new points more p is = elim (zero_or_more (root_times old p)) [
  | inl z ↦ inr (count_among p points (let m = more p in omega arith))
  | inr h ↦ inl h
]

-- the roots that were put on so far are so, and what is newly needed has its links
pub record ArePut (arena : Arena) (old now : Work) (nodes : List NodeId) : Type 0 where
  pub kept : IsKept arena now
  pub quiet : now.todo.items ≡ []
  pub more : RootsMore old.graph.roots now.graph.roots (map main nodes)
  pub wired : PutsRoots arena old now
  pub still : nodes ≡ [] → now ≡ old
  pub round : now.round ≡ old.round

pub none_put : (arena : Arena) (old : Work) → IsKept arena old → old.todo.items ≡ [] → ArePut arena old old []
none_put arena old kept quiet = record {
  kept = kept;
  quiet = quiet;
  more = λ p. omega arith;
  wired = λ F z s counts inv st. (s, here, st, λ q. refl);
  still = λ none. refl;
  round = refl;
}

puts_join : (arena : Arena) (old mid new : Work) → PutsRoots arena old mid → PutsRoots arena mid new → PutsRoots arena old new
puts_join arena old mid new first next F z s counts inv st =
    let m = first F z s counts inv st in
    let k = next F z m.0 counts (moves_keep F z s m.0 m.1 inv) m.2 in
    (k.0, joined (Move F z) s m.0 k.0 m.1 k.1, k.2, λ q. k.3 q ∙ m.3 q)

-- one more of them
pub one_put : (arena : Arena) (old mid new : Work) (nodes : List NodeId) (i : ℕ) (d : NodeId) → i < length nodes
    → ArePut arena old mid (take i nodes)
    → OneRootMore mid.graph.roots new.graph.roots (main (get_or nodes i d)) → PutsRoots arena mid new → new.todo.items ≡ [] → new.round ≡ mid.round
    → IsKept arena new → ArePut arena old new (take (i + 1) nodes)
one_put arena old mid new nodes i d within put more wired quiet round kept = record {
  kept = kept;
  quiet = quiet;
  more = subst (λ (ps : List Point). RootsMore old.graph.roots new.graph.roots ps) (sym listed)
      (roots_join old.graph.roots mid.graph.roots new.graph.roots (map main (take i nodes)) (main (get_or nodes i d) ∷ []) put.more
      (roots_one mid.graph.roots new.graph.roots (main (get_or nodes i d)) more));
  wired = puts_join arena old mid new put.wired wired;
  still = λ none. absurd (let k = ap length (sym (take_more nodes i d within) ∙ none) in
      let l = length-append (take i nodes) (get_or nodes i d ∷ []) in omega (arith, k, l));
  round = round ∙ put.round;
}
  where
    listed : map main (take (i + 1) nodes) ≡ map main (take i nodes) ++ main (get_or nodes i d) ∷ []
    listed = ap (map main) (take_more nodes i d within) ∙ map-append main (take i nodes) (get_or nodes i d ∷ [])

among_take : (p : Point) (nodes : List NodeId) (i : ℕ) → Among p (map main (take i nodes)) → Among p (map main nodes)
among_take p nodes i a = subst (λ (ns : List NodeId). Among p (map main ns)) (take-append-drop i nodes)
    (subst (λ (ps : List Point). Among p ps) (sym (map-append main (take i nodes) (drop i nodes)))
    (among_left p (map main (take i nodes)) (map main (drop i nodes)) a))

-- where one more was tried
pub roots_tried : (old mid new : Roots) (nodes : List NodeId) (i : ℕ) (d : NodeId) → i < length nodes → RootsMore old mid (map main (take i nodes))
    → ((a : Point) → a ≢ main (get_or nodes i d) → root_times new a ≡ root_times mid a) → OnlyRoots old new (map main nodes)
roots_tried old mid new nodes i d within more others p is = elim (same_or_other p (main (get_or nodes i d))) [
  | inl e ↦ inr (subst (λ (x : Point). Among x (map main nodes)) (sym e) (among_map main (get_or nodes i d) nodes (id_among nodes i d within)))
  | inr ne ↦ elim (roots_only old mid (map main (take i nodes)) more p (subst (λ (k : ℕ). 0 < k) (others p ne) is)) [
    | inl h ↦ inl h
    | inr a ↦ inr (among_take p nodes i a)
  ]
]

-- where one was refused
pub put_refused : (arena : Arena) (old mid new : Work) (e : Refused) → PutsRoots arena old mid → RootRefused arena mid new e
    → RootRefused arena old new e
put_refused arena old mid new e first next F z s counts inv st =
    let m = first F z s counts inv st in
    let k = next F z m.0 counts (moves_keep F z s m.0 m.1 inv) m.2 in
    (k.0, k.1, joined (Move F z) s m.0 k.0 m.1 k.2, k.3, k.4)

-- ---- steps

-- with an empty worklist the state is quiet
pub quiet_of : (arena : Arena) (work : Work) (counts : Counts) (t : State) → MatchesState arena work counts None t → work.todo.items ≡ [] → Quiet t
quiet_of arena work counts t st idle p = elim (bool_cases (t.todo p)) [
  | inr e ↦ e
  | inl e ↦ absurd (elim (st.todo p e) [
    | inl a ↦ subst (λ (xs : List Point). Among p xs) idle a
    | inr h ↦ h
  ])
]

pub none_settled : (M : Meaning) (parts : Parts) (counts : Counts) → Settles M parts parts counts counts
none_settled M parts counts z s begun st = (s, here, st)

pub settles_more : (M : Meaning) (old mid new : Parts) (before between after : Counts) → Settles M old mid before between
    → mid.work.todo.items ≡ [] → Steps M mid new between after → Settles M old new before after
settles_more M old mid new before between after first idle next z s begun st =
    let F = M.functions in
    let m = first z s begun st in
    let k = next z m.0 (round_on M z s m.0 m.1 begun) (quiet_of mid.arena mid.work between m.0 m.2 idle) m.2 in
    (k.0, joined (Move F z) s m.0 k.0 m.1 (step_moves F z m.0 k.0 k.1), k.2)

-- some more calls were made
more_calls : (parts : Parts) (counts : Counts) {between : Counts} (u : State) → MatchesState parts.arena parts.work between None u
    → u.builds ≡ counts.builds
    → u.adds ≡ counts.adds → MatchesState parts.arena parts.work counts None (called_more u counts.calls)
more_calls parts counts u st builds adds =
    let same : counts_of (called_more u counts.calls) ≡ counts = (λ i. record { calls = counts.calls; builds = builds i; adds = adds i }) in
    assumption (same, st)

pub settle_stops : (M : Meaning) (old mid new : Parts) (before between after : Counts) (e : Refused) → Settles M old mid before between
    → mid.work.todo.items ≡ [] → StepRefused M mid new between after e → SettleRefused M old new before after e
settle_stops M old mid new before between after e first idle next z s begun st =
    let m = first z s begun st in
    let quiet = quiet_of mid.arena mid.work between m.0 m.2 idle in
    by m.0 m.1 m.2.counts quiet (next z m.0 (round_on M z s m.0 m.1 begun) quiet m.2)
  where
    F : Functions
    F = M.functions

    stops_there : (u : State) → Moves F z s u → counts_of u ≡ between → MatchesState new.arena new.work between None u → Quiet u
        → (after ≡ between) ⊎ HasCalledDue u between after → e ≡ Memory → Pauses F z s new after e
    stops_there u run counts stands quiet (inl same) is = record {
      before = u;
      state = u;
      left = None;
      moves = run;
      stops = as_it_is refl;
      stands = subst (λ (c : Counts). MatchesState new.arena new.work c None u) (sym same) stands;
      told = inl (
        ap (λ (k : ℕ). called_more u k) (ap (λ (c : Counts). c.calls) (counts ∙ sym same)),
        subst (λ (x : Refused). TellsWhy F u new.work None x) (sym is) no_memory,
      );
    }
    stops_there u run counts stands quiet (inr c) is =
        record {
          before = u;
          state = called_more u after.calls;
          left = None;
          moves = run;
          stops = unkept quiet c.least c.is_row c.due
              (subst (λ (k : ℕ). RoseAtMost k (cost_at u.graph c.node) after.calls) (sym (ap (λ (x : Counts). x.calls) counts)) c.count) refl;
          stands = more_calls new after u stands (ap (λ (x : Counts). x.builds) counts ∙ sym c.rest.builds) (ap (λ (x : Counts). x.adds) counts
              ∙ sym c.rest.adds);
          told = inl (refl, subst (λ (x : Refused). TellsWhy F (called_more u after.calls) new.work None x) (sym is) no_memory);
        }

    by : (u : State) → Moves F z s u → counts_of u ≡ between → Quiet u → StepStops F z u new between after e → Pauses F z s new after e
    by u run counts quiet (as_it_was stands count is) = stops_there u run counts stands quiet count is
    by u run counts quiet (unbuilt {r} {t} {count} moves stops stands same later stopped) = record {
      before = r;
      state = t;
      left = None;
      moves = joined (Move F z) s u r run moves;
      stops = stops;
      stands = stands;
      told = inr (count, omega (arith, run_grows F z s u run, later), stopped);
    }
    by u run counts quiet (wiring {t} {left} moves stands same told) = record {
      before = t;
      state = t;
      left = left;
      moves = joined (Move F z) s u t run moves;
      stops = as_it_is refl;
      stands = stands;
      told = inl (ap (λ (k : ℕ). called_more t k) (ap (λ (c : Counts). c.calls) stands.counts), told);
    }

-- the steps so far settled points
pub record AreSettled (M : Meaning) (old now : Parts) (before between : Counts) : Type 0 where
  pub kept : PartsKept now
  pub quiet : now.work.todo.items ≡ []
  pub settled : Settles M old now before between
  pub steps : StepsMade M old before now between

pub no_step : (M : Meaning) (old : Parts) (before : Counts) → PartsKept old → old.work.todo.items ≡ [] → AreSettled M old old before before
no_step M old before kept quiet = record { kept = kept; quiet = quiet; settled = none_settled M old before; steps = none_made }

-- a step of functions that mean the same
module _ (M N : Meaning) (same : N ≡ M) (old mid new : Parts) (before between after : Counts) (so : AreSettled M old mid before between) where
  as_meant : (P : Meaning → Type 0) → P N → P M
  as_meant P h = subst P same h

  -- one step more
  pub next_step : PartsKept new → new.work.todo.items ≡ [] → Steps N mid new between after → SettlesLeast N mid new between after
      → AreSettled M old new before after
  next_step kept quiet steps settles = record {
    kept = kept;
    quiet = quiet;
    settled = settles_more M old mid new before between after so.settled so.quiet (as_meant (λ (L : Meaning). Steps L mid new between after) steps);
    steps = one_made so.steps so.kept so.settled (as_meant (λ (L : Meaning). SettlesLeast L mid new between after) settles);
  }

  -- it leaves less
  pub less_left : IsInRound M old before → StepFalls N mid new between
      → left_to_settle new.work every_point every_node < left_to_settle mid.work every_point every_node
  less_left begins falls =
      let m = so.settled begins.start begins.state begins.round begins.stands in
      as_meant (λ (L : Meaning). StepFalls L mid new between) falls begins.start m.0
      (round_on M begins.start begins.state m.0 m.1 begins.round) (quiet_of mid.arena mid.work between m.0 m.2 so.quiet) m.2
      every_point every_node (covers mid.arena mid.work so.kept.work)

  -- one is refused
  pub step_stops : (e : Refused) → StepRefused N mid new between after e → SettleRefused M old new before after e
  step_stops e refused = settle_stops M old mid new before between after e so.settled so.quiet
      (as_meant (λ (L : Meaning). StepRefused L mid new between after e) refused)
