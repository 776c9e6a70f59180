-- A round begins: at the counts of now, with the last calls that the rows keep.
use Rattle.std.proofs.Common.{◌≡◌, ◌<◌, ◌≤◌, arith, subst, inl, inr, ℕ, true, Option, None, Some, refl, sym, ap, ◌∙◌, false, List, [], ◌⊎◌}
use Rattle.std.specs.Prelude.{is_some, ◌↔◌}
use Rattle.inc_value.specs.declared.node.NodeId.{NodeId}
use Rattle.inc_value.specs.declared.node.Point.{Point}
use Rattle.inc_terms.specs.Depend.{main, change, right_of, root_for}
use Rattle.inc_terms.specs.Graph.{Graph, Row, Built}
use Rattle.inc_terms.specs.Local.{shown, Agrees}
use Rattle.inc_terms.specs.Term.{Functions}
use Rattle.point_map.specs.Rows.{at}
use Rattle.necessary_graph.specs.Part.{Needed}
use Rattle.node_arena.specs.Arena.{Arena, row_at}
use Rattle.stabilize_round.proofs.Parts.{bool_cases}
use Rattle.inc_value.specs.Choice.{Among}
use Rattle.node_outcomes.specs.Computing.{is_expert}
use Rattle.stabilizer.proofs.Between.Alone.{are_some, none_listed, owing_alone}
use Rattle.stabilizer.proofs.Step.Experts.{held_given}
use Rattle.std.proofs.lemmas.Option.{none-some}
use Rattle.inc_terms.specs.Need.{Keeps}
use Rattle.inc_terms.specs.Rebuild.{Names}
use Rattle.inc_terms.specs.Within.{Given, Fit}
use Rattle.necessary_graph.proofs.Reaching.{root_needed}
use Rattle.node_arena.proofs.Graph.{names_are_given}
use Rattle.node_outcomes.specs.Meaning.{Meaning}
use Rattle.stabilize_round.specs.Ids.{IsStartOf, AllGiven}
use Rattle.expert_nodes.specs.Experts.{Expert, expert_at, expert_in, is_stale_at}
use Rattle.stabilize_round.proofs.Entry.{entry_holds}
use Rattle.wiring.specs.Began.{IsRoundOf}
use Rattle.node_outcomes.specs.Progress.{Progress}
use Rattle.stabilize_round.specs.Invariant.{Recalls, IsUnmarked}
use Rattle.stabilize_round.specs.Machine.{Entry}
use Rattle.stabilize_round.specs.State.{State, Start, Call}
use Rattle.wiring.specs.Kept.{IsKept, IsTop}
use Rattle.stabilizer.specs.Look.{last_of, last_call, cutoff_at}
use Rattle.stabilizer.specs.Round.{IsReady}
use Rattle.node_outcomes.specs.Row.{cutoff_in}
use Rattle.wiring.specs.Stands.{MatchesState, Counts, IsInHand}
use Rattle.wiring.specs.Wiring.{AreUnlinked}
use Rattle.stabilizer.specs.declared.parts.Parts.{Parts}
use Rattle.wiring.specs.declared.work.Work.{Work}
use Rattle.wiring.specs.Graph.{held_at, graph_at}
use Rattle.node_outcomes.specs.Choosing.{built_in}
use Rattle.node_outcomes.specs.Row.{outcome_in}
use Rattle.node_outcomes.proofs.Held.{built_parts}
use Rattle.inc_terms.proofs.Same.{outcome_decides}
use Rattle.inc_value.specs.declared.outcome.Outcome.{Outcome}
use Rattle.node_outcomes.proofs.Computing.{has_main}
use Rattle.stabilize_round.specs.Freezing.{fires_at, row_fires}
use Rattle.inc_terms.specs.Work.{taken_by}
use Rattle.stabilize_round.specs.Calling.{IsAnswer}

-- what there is in one is there in the other
pub there_as : {A B : Type 0} (x : Option A) (y : Option B) (b : B) → is_some x ≡ is_some y → y ≡ Some b → (a : A) × (x ≡ Some a)
there_as None y b same e = absurd (let k = same ∙ ap is_some e in cc)
there_as (Some a) y b same e = (a, refl)

pub main_there : (arena : Arena) (work : Work) → IsKept arena work → (n : NodeId) → is_some (at work.rows (main n)) ≡ is_some (row_at arena n)
main_there arena work kept n = kept.rows (main n) ∙ has_main (row_at arena n)

root_there : (w : Built) → root_for (Some w) w.outcome ≡ w.root
root_there w = let is = (outcome_decides w.outcome w.outcome).1 refl in rw is refl

-- a root that is held was given
root_held : (arena : Arena) (work : Work) → IsKept arena work → (b : NodeId) (w : Built) (m : NodeId) → (held_at arena work).built b ≡ Some w
    → w.root ≡ Some m → Given arena.given m
root_held arena work kept b w m built root = by_row (row_at arena b) refl built
  where
    by_kept : (r : Row) → row_at arena b ≡ Some r → ((G : Graph) (n : NodeId) (o : Outcome) → G.built n ≡ Some w
        → right_of G n r.def o ≡ root_for (Some w) o)
        → (x : Option Progress) → at work.rows (change b) ≡ x → outcome_in (at work.rows (change b)) ≡ Some w.outcome → Given arena.given m
    by_kept r row rights None at_row out = absurd (none-some w.outcome (ap outcome_in (sym at_row) ∙ out))
    by_kept r row rights (Some k) at_row out = (kept.rights b m r k w.outcome row at_row (ap outcome_in (sym at_row) ∙ out)
        (rights (graph_at arena work) b w.outcome built ∙ (root_there w ∙ root))).0

    by_row : (x : Option Row) → row_at arena b ≡ x → built_in x (outcome_in (at work.rows (change b))) (at work.roots (change b)) ≡ Some w
        → Given arena.given m
    by_row None row is = absurd (none-some w is)
    by_row (Some r) row is =
        let parts = built_parts r.def (outcome_in (at work.rows (change b))) (at work.roots (change b)) w is in
        by_kept r row parts.1 (at work.rows (change b)) refl parts.0

-- a round may begin here, and this is what it begins with
pub record Begun (F : Functions) (parts : Parts) (counts : Counts) : Type 0 where
  pub start : Start
  pub state : State
  pub stands : MatchesState parts.arena parts.work counts None state
  pub entry : Entry F start state
  pub calls : start.calls ≡ counts.calls
  pub last : (n : NodeId) → start.last n ≡ last_call parts.work n
  pub cutoff : (n : NodeId) → start.cutoff n ≡ cutoff_at parts.work n
  pub stale : (n : NodeId) → start.stale n ≡ is_stale_at parts.work.experts n
  pub unlinked : AreUnlinked None state
  pub held : (p : Point) → (start.held p ≡ true) ↔ Needed parts.work.graph p

-- and it is one of these functions
pub record BegunOf (M : Meaning) (parts : Parts) (counts : Counts) : Type 0 where
  pub begun : Begun M.functions parts counts
  pub round : IsRoundOf M begun.start begun.state

module _ (M : Meaning) (parts : Parts) (ready : IsReady M parts) (counts : Counts) where
  abbrev F : Functions
  F = M.functions

  abbrev arena : Arena
  arena = parts.arena

  abbrev work : Work
  work = parts.work

  abbrev kept : IsKept parts.arena parts.work
  kept = ready.kept.work

  abbrev old : State
  old = ready.state

  abbrev state : State
  state = record old {
    calls = counts.calls;
    builds = counts.builds;
    adds = counts.adds;
    last = last_call work;
    cutoff = cutoff_at work;
    todo = λ p. are_some (old.owed p);
  }

  abbrev start : Start
  start = record ready.start {
    known = M.known;
    ids = M.ids;
    calls = counts.calls;
    last = last_call work;
    held = old.needed;
    cutoff = cutoff_at work;
  }

  -- of a live node the state knew this last call
  last_known : (n : NodeId) (r : Row) → old.graph.row n ≡ Some r → last_call work n ≡ old.last n
  last_known n r row =
      let there = there_as (at work.rows (main n)) (row_at arena n) r (main_there arena work kept n)
      (sym (ap (λ G. G.row n) ready.stands.graph) ∙ row) in
      ap last_of there.1 ∙ sym (ready.stands.last n there.0 there.1)

  recalls : (p : Point) → Recalls old.graph (shown old.graph old.out) old.last p → Recalls old.graph (shown old.graph old.out) (last_call work) p
  recalls p was r kids values row part def gives =
      let c = was r kids values row part def gives in
      (c.0, last_known p.node r row ∙ c.1, c.2)

  -- who is owed some is in the worklist
  listed : (p : Point) → are_some (old.owed p) ≡ true → old.todo p ≡ true
  listed p some = elim (bool_cases (old.todo p)) [
    | inl t ↦ t
    | inr f ↦ absurd (let e = sym some ∙ ap are_some (ready.entry.owed p f) in cc)
  ]

  stands : MatchesState arena work counts None state
  stands =
      let todo : (p : Point) → are_some (old.owed p) ≡ true → Among p work.todo.items ⊎ IsInHand None p
      = (λ p some. ready.stands.todo p (listed p some)) in
      let last : (n : NodeId) (k : Progress) → at work.rows (main n) ≡ Some k → last_call work n ≡ k.last = (λ n k e. ap last_of e) in
      let cutoff : (n : NodeId) (k : Progress) → at work.rows (main n) ≡ Some k → cutoff_at work n ≡ k.cutoff = (λ n k e. ap cutoff_in e) in
      assumption (last, cutoff, todo, ready.stands)

  fresh : (p : Point) (r : Row) → old.graph.row p.node ≡ Some r → old.needed p ≡ true
      → (old.heap p ≡ true) ⊎ (Agrees F old.graph old.out p × Recalls old.graph (shown old.graph old.out) (last_call work) p × IsUnmarked old.stale p)
  fresh p r row need = elim (ready.entry.fresh p r row need) [ inl h ↦ inl h | inr a ↦ inr (a.0, recalls p a.1, a.2) ]

  unfired : (n : NodeId) → fires_at state n ≡ None
  unfired n = by_row (old.graph.row n) refl
    where
      by_row : (x : Option Row) → old.graph.row n ≡ x → fires_at state n ≡ None
      by_row None gone = ap (λ (x : Option Row). row_fires x (old.graph.frozen n) (last_call work n)) gone
      by_row (Some r) row = ap (row_fires (old.graph.row n) (old.graph.frozen n)) (last_known n r row) ∙ ready.entry.unfired n

  answers : (n : NodeId) (r : Row) (kids : List NodeId) (c : Call) → old.graph.row n ≡ Some r → taken_by old.graph n r.def ≡ Some kids
      → last_call work n ≡ Some c → IsAnswer F r.def c.arguments c.result
  answers n r kids c row def e = ready.entry.answers n r kids c row def (sym (last_known n r row) ∙ e)

  owed : (p : Point) → are_some (old.owed p) ≡ false → old.owed p ≡ []
  owed p none = none_listed (old.owed p) none

  todo : (p : Point) → old.needed p ≡ true → are_some (old.owed p) ≡ true → (r : Row) × (old.graph.row p.node ≡ Some r) × (r.scope ≡ None)
  todo p need some = ready.entry.todo p need (listed p some)

  entry : Entry F start state
  entry = assumption (fresh, answers, unfired, owed, todo, ready.entry)

  -- what is in the worklist has its links, but for those that it is owed
  unlinked : AreUnlinked None state
  unlinked p some need =
      let more : old.owed p ≡ [] → ⊥ = (λ none. absurd (let e = sym some ∙ ap are_some none in cc)) in
      inr (inr (inr (
        more,
        λ r row. owing_alone arena work kept (old.needed p) p (λ none. more (ready.stands.owed p ∙ none)) r
            (sym (ap (λ (G : Graph). G.row p.node) ready.stands.graph) ∙ row),
      )))

  -- ---- all that the round speaks of was given

  row_none : (n : NodeId) → arena.given ≤ n.gen_ → at work.rows (main n) ≡ None
  row_none n le = by_row (row_at arena n) refl
    where
      no_place : (x : Option Progress) → is_some x ≡ false → x ≡ None
      no_place None e = refl
      no_place (Some k) e = absurd (cc)

      by_row : (x : Option Row) → row_at arena n ≡ x → at work.rows (main n) ≡ None
      by_row None e = no_place (at work.rows (main n)) (main_there arena work kept n ∙ ap is_some e)
      by_row (Some r) e = absurd (let g = kept.sound.given n (ap is_some e) in omega (arith, g, le))

  -- nor is one marked
  unmarked : (n : NodeId) → arena.given ≤ n.gen_ → is_stale_at work.experts n ≡ false
  unmarked n le = ap (λ (x : Option Expert). (expert_in x).stale) (none_at (expert_at work.experts n) refl)
    where
      by_row : (x : Option Row) → row_at arena n ≡ x → is_expert x ≡ true → expert_at work.experts n ≡ None
      by_row None row is = absurd (cc)
      by_row (Some r) row is = absurd (let g = kept.sound.given n (ap is_some row) in omega (arith, g, le))

      none_at : (x : Option Expert) → expert_at work.experts n ≡ x → expert_at work.experts n ≡ None
      none_at None e = e
      none_at (Some x) e = by_row (row_at arena n) refl (sym (kept.experts n) ∙ ap is_some e)

  needed_given : (p : Point) → Needed work.graph p → Given arena.given p.node
  needed_given p need = kept.given p (kept.step.there p need)

  root_given : (p : Point) → 0 < state.root p → Given arena.given p.node
  root_given p h = needed_given p (root_needed work.graph p (subst (λ (k : ℕ). 0 < k) (ready.stands.root p) h))

  keeps : Keeps (Given arena.given) (graph_at arena work) state.died
  keeps = record {
    roots = λ b w m given built root. root_held arena work kept b w m built root;
    scopes = λ n b given died. absurd (none-some b (sym (ready.entry.died n) ∙ died));
    freezes = λ n r kid f row is. kept.tops n r row (subst IsTop (sym is) tt);
  }

  begins : IsStartOf M.known M.ids arena.given start
  begins = record {
    knows = refl;
    names = refl;
    held = λ p h. needed_given p ((ready.stands.needed p).0 h);
    last = λ n le. ap last_of (row_none n le);
    cutoff = λ n le. ap cutoff_in (row_none n le);
    stale = λ n le. ready.entry.stale n ∙ (ready.stands.stale n ∙ unmarked n le);
  }

  as_given : (p : Point) → Given arena.given p.node → Given old.given p.node
  as_given p h = let e = ready.stands.given in omega (arith, e, h)

  not_given : (n : NodeId) → old.given ≤ n.gen_ → arena.given ≤ n.gen_
  not_given n le = let e = ready.stands.given in omega (arith, e, le)

  given : AllGiven F start state
  given = record {
    laws = ready.laws;
    names = subst (λ (G : Graph). Names (Given old.given) (Fit old.given M.known M.ids) G) (sym ready.stands.graph)
        (subst (λ (k : ℕ). Names (Given k) (Fit k M.known M.ids) (graph_at arena work)) (sym ready.stands.given)
        (names_are_given arena (held_at arena work) M.known M.ids kept.sound (held_given arena work kept) ready.fit).1);
    keeps = subst (λ (G : Graph). Keeps (Given old.given) G old.died) (sym ready.stands.graph)
        (subst (λ (k : ℕ). Keeps (Given k) (graph_at arena work) old.died) (sym ready.stands.given) keeps);
    needed = λ p h. as_given p (needed_given p ((ready.stands.needed p).0 h));
    rooted = λ p h. as_given p (root_given p h);
    last = λ n le. ap last_of (row_none n (not_given n le));
    cutoff = λ n le. ap cutoff_in (row_none n (not_given n le));
    stale = λ n le. ready.stands.stale n ∙ unmarked n (not_given n le);
    start = subst (λ (k : ℕ). IsStartOf M.known M.ids k start) (sym ready.stands.given) begins;
  }

  pub begun_of : BegunOf M parts counts
  begun_of = record {
    begun = record {
      start = start;
      state = state;
      stands = stands;
      entry = entry;
      calls = refl;
      last = λ n. refl;
      cutoff = λ n. refl;
      stale = λ n. ready.entry.stale n ∙ ready.stands.stale n;
      unlinked = unlinked;
      held = ready.stands.needed;
    };
    round = record { holds = entry_holds F start state entry; given = given; knows = refl; names = refl };
  }
