-- What is seen of points by their rows is what the state shows.
use Rattle.std.proofs.Common.{◌≡◌, inl, inr, Bool, true, false, List, [], ◌∷◌, map, Option, None, Some, refl, sym, ap, subst, ◌∙◌}
use Rattle.std.specs.Prelude.{is_some, IsSome, option_and_then}
use Rattle.std.proofs.lemmas.Option.{none-some, same_Some}
use Rattle.inc_value.specs.declared.node.NodeId.{NodeId}
use Rattle.inc_value.specs.declared.node.Part.TheVariants.{Main, Change}
use Rattle.inc_value.specs.declared.node.Point.{Point}
use Rattle.inc_value.specs.declared.outcome.Outcome.{Outcome}
use Rattle.inc_value.specs.declared.outcome.Outcome.TheVariants.{Val, Invalid}
use Rattle.inc_value.specs.declared.value.Value.{Value}
use Rattle.inc_value.specs.Choice.{Among}
use Rattle.inc_terms.specs.declared.def.Def as declared
use Rattle.inc_terms.specs.declared.def.Def.TheVariants as form
use Rattle.inc_terms.specs.Code.{def_of}
use Rattle.inc_terms.specs.Depend.{Depends, fixed, right, main, change, subject_of, kids_of, unfrozen, fixed_reads, right_of, at_most_one}
use Rattle.inc_terms.specs.Evaluate.{Gathered, Unknown, SomeInvalid, Values, joined, gathered, with_value, NodeGives}
use Rattle.inc_terms.specs.Evaluate.{Stands as StandsIn}
use Rattle.inc_terms.specs.Graph.{Graph, Row, Def}
use Rattle.inc_terms.specs.Local.{shown, shown_of, by_sight, see_right, own_right, frozen_or_seen, own, Exact, HasRun}
use Rattle.inc_terms.specs.Term.{Functions, refs}
use Rattle.expert_nodes.specs.Experts.{is_stale_at}
use Rattle.point_map.specs.Rows.{at}
use Rattle.node_arena.specs.Arena.{Arena, row_at}
use Rattle.wiring.specs.Graph.{graph_at}
use Rattle.inc_terms.specs.Work.{taken_by}
use Rattle.stabilize_round.specs.Invariant.{Invariant}
use Rattle.stabilize_round.specs.Laws as law
use Rattle.stabilize_round.specs.Moves.{Quiet, IsLeast, CallIsDue, Calls}
use Rattle.stabilize_round.specs.State.{State, Start, Call}
use Rattle.stabilize_round.proofs.Ready.{ready, own_among}
use Rattle.stabilize_round.specs.Calling as why
use Rattle.stabilize_round.specs.Calling.{Reason, other, made_stale}
use Rattle.node_outcomes.specs.Computing.{ReasonIn, IsSeenDue, CallsSeen, last_in, KeepsAnswers, LooksAtSeen, seen, seen_of, seen_together, has_part}
use Rattle.wiring.specs.Kept.{IsKept}
use Rattle.wiring.proofs.Agreeing.{code_row}
use Rattle.wiring.proofs.Staying.{row_of_state, out_is}
use Rattle.map_nodes.specs.Cutoff.{TellsAgain}
use Rattle.node_outcomes.specs.Row.{cutoff_in, settled_in, outcome_in}
use Rattle.wiring.specs.Stands.{MatchesState, Counts}
use Rattle.node_outcomes.specs.Progress.{Progress}
use Rattle.wiring.specs.declared.work.Work.{Work}

joined_known : (x : Option Outcome) (g : Gathered) (o : Outcome) → x ≡ Some o → (g ≡ Unknown → ⊥) → joined x g ≡ Unknown → ⊥
joined_known None g o e h u = cc
joined_known (Some Invalid) Unknown o e h u = h refl
joined_known (Some Invalid) SomeInvalid o e h u = cc
joined_known (Some Invalid) (Values vs) o e h u = cc
joined_known (Some (Val v)) Unknown o e h u = h refl
joined_known (Some (Val v)) SomeInvalid o e h u = cc
joined_known (Some (Val v)) (Values vs) o e h u = cc

-- where something is seen of each node, it is known what they show together
gathered_known : (see : Point → Option Outcome) (ns : List NodeId) → ((n : NodeId) → Among (main n) (map main ns) → (o : Outcome) × (see (main n) ≡ Some o))
    → gathered (by_sight see) (refs ns) ≡ Unknown → ⊥
gathered_known see [] h u = cc
gathered_known see (n ∷ ns) h u = let e = h n (inl refl) in
    joined_known (see (main n)) (gathered (by_sight see) (refs ns)) e.0 e.1 (gathered_known see ns (λ m a. h m (inr a))) u

-- ---- right sides

-- the same is seen of a right side
same_right : (see see' : Point → Option Outcome) → ((m : NodeId) → see (main m) ≡ see' (main m)) → (x : Option NodeId) → see_right see x ≡ see_right see' x
same_right see see' mains None = refl
same_right see see' mains (Some m) = mains m

chosen_same : (G : Graph) (see see' : Point → Option Outcome) (n : NodeId) (def : Def) → ((m : NodeId) → see (main m) ≡ see' (main m)) → (x : Option Outcome)
    → with_value x (λ (v : Value). see_right see (right_of G n def (Val v))) ≡ with_value x (λ (v : Value). see_right see' (right_of G n def (Val v)))
chosen_same G see see' n def mains None = refl
chosen_same G see see' n def mains (Some Invalid) = refl
chosen_same G see see' n def mains (Some (Val v)) = same_right see see' mains (right_of G n def (Val v))

own_right_same : (G : Graph) (see see' : Point → Option Outcome) (n : NodeId) (def : Def) → ((m : NodeId) → see (main m) ≡ see' (main m))
    → see (change n) ≡ see' (change n) → own_right G see n def ≡ own_right G see' n def
own_right_same G see see' n def mains own_change =
    ap (λ (x : Option Outcome). with_value x (λ (v : Value). see_right see (right_of G n def (Val v)))) own_change
    ∙ chosen_same G see see' n def mains (see' (change n))

-- each live node has a main
pub main_there : (x : Option Row) → has_part x Main ≡ is_some x
main_there None = refl
main_there (Some r) = refl

known : (x : Option Outcome) (o : Outcome) → x ≡ Some o → IsSome x
known None o e = absurd (none-some o e)
known (Some x) o e = refl

module _ (s : State) (arena : Arena) (work : Work) (counts : Counts) (kept : IsKept arena work) (st : MatchesState arena work counts None s) where
  pub row_is : (n : NodeId) → s.graph.row n ≡ row_at arena n
  row_is n = row_of_state st n

  by_row : (p : Point) (x : Option Progress) (y : Option Row) → at work.rows p ≡ x → is_some x ≡ is_some y → shown_of y (s.out p) ≡ seen_of x
  by_row p None None is e = refl
  by_row p (Some k) (Some r) is e = st.out p k is
  by_row p None (Some r) is e = absurd (cc)
  by_row p (Some k) None is e = absurd (cc)

  pub sees : (n : NodeId) → shown s.graph s.out (main n) ≡ seen work.rows (main n)
  sees n = ap (λ (x : Option Row). shown_of x (s.out (main n))) (row_is n)
      ∙ by_row (main n) (at work.rows (main n)) (row_at arena n) refl (kept.rows (main n) ∙ main_there (row_at arena n))

  seen_known : (n : NodeId) → (o : Outcome) × (shown s.graph s.out (main n) ≡ Some o) → IsSome (seen work.rows (main n))
  seen_known n k = known (seen work.rows (main n)) k.0 (sym (sees n) ∙ k.1)

  -- a node of two points has a row of its change
  change_row : (n : NodeId) (r : Row) → row_at arena n ≡ Some r → IsSome (subject_of r.def) → is_some (at work.rows (change n)) ≡ true
  change_row n r live two = kept.rows (change n) ∙ (ap (λ (x : Option Row). has_part x Change) live ∙ two)

  sees_change : (n : NodeId) (r : Row) → row_at arena n ≡ Some r → IsSome (subject_of r.def) → shown s.graph s.out (change n) ≡ seen work.rows (change n)
  sees_change n r live two = ap (λ (x : Option Row). shown_of x (s.out (change n))) (row_is n)
      ∙ by_row (change n) (at work.rows (change n)) (row_at arena n) refl (change_row n r live two ∙ sym (ap is_some live))

  -- what a node's change last ran with
  pub change_is : (n : NodeId) (r : Row) → row_at arena n ≡ Some r → IsSome (subject_of r.def) → s.out (change n) ≡ outcome_in (at work.rows (change n))
  change_is n r live two = out_is st (change n) (change_row n r live two)

  pub sees_together : (ns : List NodeId) → gathered (by_sight (shown s.graph s.out)) (refs ns) ≡ seen_together work.rows ns
  sees_together [] = refl
  sees_together (n ∷ ns) = let e = sees n in let rest = sees_together ns in rw (e, rest) refl

  by_form : (F : Functions) (n : NodeId) (d : declared.Def)
      → (IsSome (subject_of (def_of d)) → shown s.graph s.out (change n) ≡ seen work.rows (change n))
      → own F (graph_at arena work) (shown s.graph s.out) n (def_of d) ≡ own F (graph_at arena work) (seen work.rows) n (def_of d)
  by_form F n (form.Map f ns) own_change = let e = sees_together ns in rw e refl
  by_form F n (form.Fold f v ns) own_change = let e = sees_together ns in rw e refl
  by_form F n (form.If t a b) own_change =
      own_right_same (graph_at arena work) (shown s.graph s.out) (seen work.rows) n (def_of (form.If t a b)) sees (own_change refl)
  by_form F n (form.Join k) own_change =
      own_right_same (graph_at arena work) (shown s.graph s.out) (seen work.rows) n (def_of (form.Join k)) sees (own_change refl)
  by_form F n (form.Bind l f caps) own_change =
      own_right_same (graph_at arena work) (shown s.graph s.out) (seen work.rows) n (def_of (form.Bind l f caps)) sees (own_change refl)
  by_form F n (form.Freeze kid f) own_change = ap (frozen_or_seen ((graph_at arena work).frozen n)) (sees kid)
  by_form F n (form.Expert f v) own_change = let e = sees_together ((graph_at arena work).lists n) in rw e refl
  by_form F n _ own_change = refl

  -- a live node's own function sees the same in the state
  pub own_sees : (F : Functions) (n : NodeId) (r : Row) → row_at arena n ≡ Some r
      → own F s.graph (shown s.graph s.out) n r.def ≡ own F (graph_at arena work) (seen work.rows) n r.def
  own_sees F n r live =
      let d = code_row arena n r live in
      ap (λ (G : Graph). own F G (shown s.graph s.out) n r.def) st.graph
      ∙ subst (λ (x : Def). (IsSome (subject_of x) → shown s.graph s.out (change n) ≡ seen work.rows (change n))
      → own F (graph_at arena work) (shown s.graph s.out) n x ≡ own F (graph_at arena work) (seen work.rows) n x) (sym d.1) (by_form F n d.0) (sees_change n r live)

  -- what a call gave is kept
  pub keeps_answers : (F : Functions) (z : Start) → Invariant F z s → KeepsAnswers F (graph_at arena work) work.rows
  keeps_answers F z inv n r ns k c live def row last = inv.accounts.answers n r ns c (row_is n ∙ live)
      (subst (λ (G : Graph). taken_by G n r.def ≡ Some ns) (sym st.graph) def) (st.last n k row ∙ last)

  by_exact : (F : Functions) (m : NodeId) → Exact F s.graph s.out (main m) → (x : Option Row) → s.graph.row m ≡ x
      → (o : Outcome) × (shown s.graph s.out (main m) ≡ Some o)
  by_exact F m exact None e = (Invalid, ap (λ (x : Option Row). shown_of x (s.out (main m))) e)
  by_exact F m exact (Some r) e = let k = (exact r e).1 in (k.0, k.1)

  module _ (F : Functions) (z : Start) (inv : Invariant F z s) (quiet : Quiet s) (p : Point) (taken : IsLeast s p) (r : Row)
      (live : row_at arena p.node ≡ Some r) where
    abbrev made : law.IsReady F s p
    made = ready F z s inv quiet p taken

    is_row : s.graph.row p.node ≡ Some r
    is_row = row_is p.node ∙ live

    stands_now : StandsIn F s.graph r.scope
    stands_now = subst (λ (x : Row). StandsIn F s.graph x.scope) (same_Some made.row r (sym made.is_row ∙ is_row)) made.stands

    -- what a least point reads is exact
    pub below : (q : Point) → Depends F s.graph s.died p q → Exact F s.graph s.out q
    below q d = made.exact q ((made.links q).1 d)

    pub reads_exact : (q : Point) → Among q (fixed_reads s.graph p.node r.def p.part) → Exact F s.graph s.out q
    reads_exact q among = below q (fixed {r = r} is_row stands_now among)

    -- so something is seen of a main that it reads
    pub reads_known : (m : NodeId) → Among (main m) (fixed_reads s.graph p.node r.def p.part) → (o : Outcome) × (shown s.graph s.out (main m) ≡ Some o)
    reads_known m among = by_exact F m (reads_exact (main m) among) (s.graph.row m) refl

    -- and of the right side that was chosen
    pub right_known : p.part ≡ Main → (k m : NodeId) (o : Outcome) → subject_of r.def ≡ Some k → NodeGives F s.graph k o
        → right_of s.graph p.node r.def o ≡ Some m → (x : Outcome) × (shown s.graph s.out (main m) ≡ Some x)
    right_known part k m o sub gives chosen = by_exact F m (below (main m) (right {r = r} {s = k} {o = o} {m = m} is_row stands_now part sub gives
        (subst (λ (x : Option NodeId). Among m (at_most_one x)) (sym chosen) (inl refl)) refl)) (s.graph.row m) refl

  -- something is seen of all that a least main looks at
  module _ (F : Functions) (z : Start) (inv : Invariant F z s) (quiet : Quiet s) (n : NodeId) (taken : IsLeast s (main n)) (r : Row)
      (live : row_at arena n ≡ Some r) where
    of_kids : (d : declared.Def) → ((m : NodeId) → Among (main m) (fixed_reads s.graph n (def_of d) Main) → (o : Outcome) × (shown s.graph s.out (main m) ≡ Some o))
        → gathered (by_sight (shown s.graph s.out)) (refs (kids_of s.graph n (def_of d))) ≡ Unknown → ⊥
    of_kids (form.Map f ns) h u = gathered_known (shown s.graph s.out) ns h u
    of_kids (form.Fold f v ns) h u = gathered_known (shown s.graph s.out) ns h u
    of_kids (form.Freeze kid f) h u = gathered_known (shown s.graph s.out) (unfrozen kid (s.graph.frozen n)) h u
    of_kids (form.Expert f v) h u = gathered_known (shown s.graph s.out) (s.graph.lists n) h u
    of_kids _ h u = cc

    kids_known : seen_together work.rows (kids_of (graph_at arena work) n r.def) ≡ Unknown → ⊥
    kids_known u =
        let d = code_row arena n r live in
        let same = ap (λ (G : Graph). seen_together work.rows (kids_of G n r.def)) st.graph in
        subst (λ (x : Def). ((m : NodeId) → Among (main m) (fixed_reads s.graph n x Main) → (o : Outcome) × (shown s.graph s.out (main m) ≡ Some o))
        → gathered (by_sight (shown s.graph s.out)) (refs (kids_of s.graph n x)) ≡ Unknown → ⊥) (sym d.1) (of_kids d.0)
        (reads_known F z inv quiet (main n) taken r live) (sees_together (kids_of s.graph n r.def) ∙ (same ∙ u))

    ran : (k : NodeId) → subject_of r.def ≡ Some k → HasRun F s.graph s.out n r.def k
    ran k sub = (reads_exact F z inv quiet (main n) taken r live (change n) (own_among s.graph n r.def Main k refl sub) r (row_is n ∙ live)).1 k sub

    subject_is : (x : Option NodeId) → subject_of r.def ≡ x → IsSome x → (k : NodeId) × (subject_of r.def ≡ Some k)
    subject_is None e two = absurd (cc)
    subject_is (Some k) e two = (k, e)

    choice : IsSome (subject_of r.def) → IsSome (outcome_in (at work.rows (change n)))
    choice two =
        let k = subject_is (subject_of r.def) refl two in
        let h = ran k.0 k.1 in
        known (outcome_in (at work.rows (change n))) h.0 (sym (change_is n r live two) ∙ h.1)

    right_seen : (m : NodeId) (o : Outcome) → outcome_in (at work.rows (change n)) ≡ Some o → right_of (graph_at arena work) n r.def o ≡ Some m
        → IsSome (seen work.rows (main m))
    right_seen m o is chosen =
        let d = code_row arena n r live in
        let two = has_subject d.0 (subst (λ (x : Def). right_of (graph_at arena work) n x o ≡ Some m) d.1 chosen) in
        let two' : IsSome (subject_of r.def) = subst (λ (x : Def). IsSome (subject_of x)) (sym d.1) two in
        let k = subject_is (subject_of r.def) refl two' in
        let h = ran k.0 k.1 in
        let gives = subst (λ (x : Outcome). NodeGives F s.graph k.0 x)
        (same_Some h.0 o (sym h.1 ∙ (change_is n r live two' ∙ is))) h.2 in
        seen_known m (right_known F z inv quiet (main n) taken r live refl k.0 m o k.1 gives
        (subst (λ (G : Graph). right_of G n r.def o ≡ Some m) (sym st.graph) chosen))
      where
        has_subject : (d : declared.Def) → right_of (graph_at arena work) n (def_of d) o ≡ Some m → IsSome (subject_of (def_of d))
        has_subject (form.If t a b) e = refl
        has_subject (form.Join k) e = refl
        has_subject (form.Bind l f ns) e = refl
        has_subject _ e = absurd (none-some m e)

    pub looks : LooksAtSeen work.rows (graph_at arena work) n r.def
    looks = record { kids = kids_known; choice = choice; right = right_seen }

  -- a node has the cutoff in the state that it has by rows, where it was settled
  cutoff_is : (m : NodeId) (x : Option Progress) → at work.rows (main m) ≡ x → settled_in work.round x ≡ true → s.cutoff m ≡ cutoff_in x
  cutoff_is m None e settled = absurd (cc)
  cutoff_is m (Some k) e settled = st.cutoff m k e

  module _ (n : NodeId) (k : Progress) (row : at work.rows (main n) ≡ Some k) where
    last_is : last_in work.rows n ≡ s.last n
    last_is = ap (option_and_then (λ (x : Progress). x.last)) row ∙ sym (st.last n k row)

    -- a reason by rows is one in the state
    reason_is : (ns : List NodeId) (values : List Value) → ReasonIn (is_stale_at work.experts) work.round work.rows n ns values
        → Reason s.last s.cutoff s.settled s.stale n ns values
    reason_is ns values (other differs) = other (λ c l a. differs c (last_is ∙ l) a)
    reason_is ns values (why.forced {kid} a tells settled) =
        why.forced {kid = kid} a (subst TellsAgain (sym (cutoff_is kid (at work.rows (main kid)) refl settled)) tells) (st.settled (main kid) ∙ settled)
    reason_is ns values (made_stale marked) = made_stale (st.stale n ∙ marked)

    -- and the other way round
    reason_seen : (ns : List NodeId) (values : List Value) → Reason s.last s.cutoff s.settled s.stale n ns values
        → ReasonIn (is_stale_at work.experts) work.round work.rows n ns values
    reason_seen ns values (other differs) = other (λ c l a. differs c (sym last_is ∙ l) a)
    reason_seen ns values (why.forced {kid} a tells settled) =
        let done = sym (st.settled (main kid)) ∙ settled in
        why.forced {kid = kid} a (subst TellsAgain (cutoff_is kid (at work.rows (main kid)) refl done) tells) done
    reason_seen ns values (made_stale marked) = made_stale (sym (st.stale n) ∙ marked)

    -- what is seen due is due
    pub due_is : (def : Def) → IsSeenDue s.graph (is_stale_at work.experts) n work.round work.rows def → CallIsDue s n def
    due_is def due = record {
      kids = due.nodes;
      values = due.values;
      takes = due.takes;
      shows = sees_together due.nodes ∙ due.shows;
      reason = reason_is due.nodes due.values due.reason;
    }

    -- a call that was seen is a call
    pub calls_are : (F : Functions) (def : Def) (last' : Option Call) (called : Bool)
        → CallsSeen F s.graph (is_stale_at work.experts) n work.round work.rows def k.last last' called → Calls F s n def last' called
    calls_are F def last' false c = (
      c.0 ∙ sym (st.last n k row),
      λ ns values e g.
          let x = c.1 ns values e (sym (sees_together ns) ∙ g) in
          (x.0, st.last n k row ∙ x.1, x.2, λ reason. x.3 (reason_seen ns values reason)),
    )
    calls_are F def last' true (due, result, is_last, answers) = (
      due.nodes,
      due.values,
      result,
      due.takes,
      sees_together due.nodes ∙ due.shows,
      reason_is due.nodes due.values due.reason,
      is_last,
      answers,
    )
