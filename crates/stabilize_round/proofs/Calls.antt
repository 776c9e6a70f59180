-- How many calls a round makes.
use Rattle.std.proofs.Common.{◌≡◌, inl, inr, ℕ, ◌+◌, true, false, List, [], ◌∷◌, map, Option, None, Some, refl, sym, subst, ap, ◌∙◌, arith}
use Rattle.std.specs.List.{sum_by}
use Rattle.std.proofs.lemmas.List.Sums.{sum_by-cons}
use Rattle.inc_value.specs.declared.node.NodeId.{NodeId}
use Rattle.inc_value.specs.declared.node.Part.TheVariants.{Change, Main}
use Rattle.inc_value.specs.declared.node.Point.{Point}
use Rattle.inc_value.specs.Choice.{Among, NoRepeats, Every, Reaches, here}
use Rattle.inc_terms.specs.Term.{Functions}
use Rattle.inc_terms.specs.Graph.{Row}
use Rattle.inc_terms.specs.Depend.{Depends, main, fixed_reads}
use Rattle.inc_terms.specs.Evaluate.{GiveAll}
use Rattle.inc_terms.specs.Local.{Sees}
use Rattle.inc_terms.specs.Need.{Beside, Observed, nodes_of, Held, Met, from_root, from_held}
use Rattle.inc_terms.specs.Plan.{gate_of}
use Rattle.map_nodes.specs.Cutoff.{TellsAgain}
use Rattle.inc_terms.specs.Work.{Visit, HasReason, other, stale, passed, IsDueVisit}
use Rattle.inc_terms.proofs.Local.{main_sees}
use Rattle.inc_terms.proofs.Plan.{among_left, among_right}
use Rattle.stabilize_round.specs.Counts.{RoseAtMost}
use Rattle.stabilize_round.specs.State.{State, Start, Call, Full, Linked}
use Rattle.stabilize_round.specs.Invariant as invariant
use Rattle.stabilize_round.specs.Invariant.{Invariant, MetNow, HasCalled}
use Rattle.stabilize_round.specs.Machine.{as_it_is, unbuilt, unkept}
use Rattle.stabilize_round.specs.Ended.{RootsAre}
use Rattle.stabilize_round.specs.Moves.{Quiet, IsLeast, CallIsDue}
use Rattle.stabilize_round.proofs.Low.{plan_links}
use Rattle.stabilize_round.proofs.Main.{gathered_gives}
use Rattle.stabilize_round.proofs.Parts.{bool_cases}
use Rattle.stabilize_round.proofs.Planned.{reads_taken}
use Rattle.stabilize_round.proofs.Ready.{ready}
use Rattle.stabilize_round.proofs.Reasons.{since_start}
use Rattle.stabilize_round.specs.Calls.{BeginsFrom, RoundIsWithinWork, WasDue, RefusedCalls}
use Rattle.stabilize_round.specs.Calling as reason
use Rattle.stabilize_round.specs.Calling.{Reason}
use Rattle.stabilize_round.specs.Calling.{cost_at, costs_of}
use Rattle.stabilize_round.proofs.Calling.{kids_taken, cost_of_taken}
use Rattle.stabilize_round.proofs.Counts.{at_most, at_most_on}
use Rattle.stabilize_round.proofs.Entry.{entry_holds}
use Rattle.stabilize_round.proofs.Machine.{moves_keep}
use Rattle.stabilize_round.proofs.Rebuilding.{rebuild_keeps}

module _ (F : Functions) (z : Start) (t : State) (inv : Invariant F z t) (before : Beside) (observers : List Observed)
    (are : RootsAre t (nodes_of observers)) (from : BeginsFrom z before observers) where
  is_met : (p : Point) → MetNow F z t.graph t.died t.root p → Met F t.graph t.died (nodes_of observers) (Held before observers) p
  is_met p (invariant.from_root {r} root way) =
      let l = are.listed r root in
      from_root l.1 (subst (λ (y : Point). Reaches (Depends F t.graph t.died) y p) l.2 way)
  is_met p (invariant.from_held {h} held row stands way) = from_held (from.held h held) row stands way

  abbrev Called : NodeId → Type 0
  Called n = HasCalled F z t.graph t.died t.root t.settled t.last n

  visit_of : (n : NodeId) → Called n → Visit
  visit_of n c = record { node = n; values = c.values; cost = cost_at t.graph n }

  other_arguments : (n : NodeId) (c : Called n) → ((k : Call) → z.last n ≡ Some k → k.arguments ≡ c.values → ⊥) → (x : Option Call) → z.last n ≡ x
      → before.last n ≡ Some c.values → ⊥
  other_arguments n c differs None e last = let k = from.last n in let k' = rw e at k in let x : None ≡ Some c.values = sym k' ∙ last in cc
  other_arguments n c differs (Some call) e last =
      let k = from.last n in
      let k' = rw e at k in
      let x : Some call.arguments ≡ Some c.values = sym k' ∙ last in
      differs call e (cc)

  reason_of : (n : NodeId) (c : Called n) → HasReason t.graph before (visit_of n c)
  unfolding visit_of
  reason_of n c = by_reason c.reason
    where
      by_reason : Reason z.last z.cutoff t.settled z.stale n c.kids c.values → HasReason t.graph before (visit_of n c)
      by_reason (reason.other differs) = other (λ last. other_arguments n c differs (z.last n) refl last)
      by_reason (reason.forced {kid} a tells st) = passed {r = c.row} kid c.is_row
          (subst (λ (ks : List NodeId). Among kid ks) (sym (kids_taken t.graph n c.row.def c.kids c.takes)) a) (subst TellsAgain (sym (from.cutoff kid)) tells)
      by_reason (reason.made_stale st) = stale (from.stale n ∙ st)

  due : (n : NodeId) (c : Called n) → IsDueVisit F t.graph t.died observers before (visit_of n c)
  unfolding visit_of
  due n c = record {
    visit = record {
      row = c.row;
      is_row = c.is_row;
      stands = ((inv.settled.done (main n) c.is_settled).exact c.row c.is_row).0;
      values = subst (λ (ks : List NodeId). GiveAll F t.graph ks c.values) (sym (kids_taken t.graph n c.row.def c.kids c.takes)) c.gives;
      cost = cost_of_taken t.graph n c.row c.kids c.is_row c.takes;
    };
    met = is_met (main n) c.met;
    reason = reason_of n c;
  }

  abbrev visits : (ns : List NodeId) → ((n : NodeId) → Among n ns → Called n) → List Visit
  visits [] called = []
  visits (n ∷ ns) called = visit_of n (called n (inl refl)) ∷ visits ns (λ m a. called m (inr a))

  visited : (v : Visit) (ns : List NodeId) (called : (n : NodeId) → Among n ns → Called n) → Among v (visits ns called) → Among v.node ns
  unfolding visit_of
  visited v [] called a = a
  visited v (n ∷ ns) called (inl e) = inl (ap (λ (x : Visit). x.node) e)
  visited v (n ∷ ns) called (inr a) = inr (visited v ns (λ m h. called m (inr h)) a)

  distinct : (ns : List NodeId) (called : (n : NodeId) → Among n ns → Called n) → NoRepeats ns → NoRepeats (visits ns called)
  unfolding visit_of
  distinct [] called once = tt
  distinct (n ∷ ns) called once =
      ((λ a. once.0 (visited (visit_of n (called n (inl refl))) ns (λ m h. called m (inr h)) a)), distinct ns (λ m h. called m (inr h)) once.1)

  all_due : (ns : List NodeId) (called : (n : NodeId) → Among n ns → Called n)
      → Every (IsDueVisit F t.graph t.died observers before) (visits ns called)
  all_due [] called = tt
  all_due (n ∷ ns) called = (due n (called n (inl refl)), all_due ns (λ m h. called m (inr h)))

  with_first : (k a b c : ℕ) → c ≡ k + a → a ≡ b → c ≡ k + b
  with_first k a b c e e' = e ∙ ap (λ (x : ℕ). k + x) e'

  costs : (ns : List NodeId) (called : (n : NodeId) → Among n ns → Called n)
      → sum_by (λ (v : Visit). v.cost) (visits ns called) ≡ costs_of t.graph ns
  unfolding visit_of
  costs [] called = refl
  costs (n ∷ ns) called =
      let e = costs ns (λ m h. called m (inr h)) in
      let one = sum_by-cons (λ (v : Visit). v.cost) (visit_of n (called n (inl refl))) (visits ns (λ m h. called m (inr h))) in
      with_first (cost_at t.graph n) _ _ _ one e ∙ sym (sum_by-cons (cost_at t.graph) n ns)

pub round_is_within_work : RoundIsWithinWork
round_is_within_work F z s t before observers calls entry run are from is =
    let inv = moves_keep F z s t run (entry_holds F z s entry) in
    let k = inv.accounts.count in
    let most = k.most in
    let e = costs F z t inv before observers are from t.ran inv.accounts.called in
    record {
      visits = visits F z t inv before observers are from t.ran inv.accounts.called;
      distinct = distinct F z t inv before observers are from t.ran inv.accounts.called inv.accounts.once;
      due = all_due F z t inv before observers are from t.ran inv.accounts.called;
      enough = omega arith;
    }

-- ---- a round that is refused

-- what is taken is met
least_met : (F : Functions) (z : Start) (s : State) → Invariant F z s → Quiet s → (p : Point) → IsLeast s p → MetNow F z s.graph s.died s.root p
least_met F z s inv quiet p taken = elim (inv.met.needed p (inv.web.heap p taken.heap)) [
  | inl m ↦ m
  | inr h ↦ let k = ready F z s inv quiet p taken in invariant.from_held h k.is_row k.stands here
]

abbrev IsDueIn : Functions → Start → State → NodeId → Type 0
IsDueIn F z u n = WasDue F z u.graph u.died u.root u.settled n

ran_due : (F : Functions) (z : Start) (u : State) → Invariant F z u → (n : NodeId) → Among n u.ran → IsDueIn F z u n
ran_due F z u inv n a =
    let c = inv.accounts.called n a in
    record { row = c.row; kids = c.kids; values = c.values; is_row = c.is_row; takes = c.takes; gives = c.gives; reason = c.reason; met = c.met }

abbrev CalledAtMost : Functions → Start → State → Type 0
CalledAtMost F z u =
    (called : List NodeId) × NoRepeats called × RoseAtMost z.calls (costs_of u.graph called) u.calls
    × ((n : NodeId) → Among n called → IsDueIn F z u n)

ran_alone : (F : Functions) (z : Start) (u : State) → Invariant F z u → CalledAtMost F z u
ran_alone F z u inv = (u.ran, inv.accounts.once, at_most inv.accounts.count, (λ n a. ran_due F z u inv n a))

-- what is due as a least point is due by what the round began with
module _ (F : Functions) (z : Start) (s : State) (inv : Invariant F z s) (quiet : Quiet s) (n : NodeId) (r : Row) (taken : IsLeast s (main n))
    (row : s.graph.row n ≡ Some r) (due : CallIsDue s n r.def) where
  settled_once : s.settled (main n) ≡ true → ⊥
  settled_once e = let x : Main ≡ Change = inv.settled.twice (main n) e taken.heap in cc

  not_settled : s.settled (main n) ≡ false
  not_settled = elim (bool_cases (s.settled (main n))) [ inr e ↦ e | inl e ↦ absurd (settled_once e) ]

  last_here : s.last n ≡ z.last n
  last_here = elim (inv.accounts.kept n r row (λ a. settled_once (inv.accounts.called n a).is_settled)) [
    | inl e ↦ e
    | inr c ↦ absurd (settled_once c.0.is_settled)
  ]

  linked : (q : Point) → Among q (map main due.kids) → Linked s (main n) q
  linked q a =
      let k = ready F z s inv quiet (main n) taken in
      plan_links F z s inv quiet (main n) q r Full row k.full (inv.web.heap (main n) taken.heap)
      (among_right q (gate_of r.scope) _ (among_left q (fixed_reads s.graph n r.def Main) _ (reads_taken s.graph n r.def due.kids q due.takes a)))

  kid_sees : (k : NodeId) → Among (main k) (map main due.kids) → Sees F s.graph s.out k
  kid_sees k a = main_sees F s.graph s.out k ((ready F z s inv quiet (main n) taken).exact (main k) (linked (main k) a))

  least_due : IsDueIn F z s n
  least_due = record {
    row = r;
    kids = due.kids;
    values = due.values;
    is_row = row;
    takes = due.takes;
    gives = gathered_gives F s.graph s.out due.kids due.values kid_sees due.shows;
    reason = since_start last_here inv.accounts.cutoffs (inv.accounts.marked n not_settled) due.reason;
    met = least_met F z s inv quiet (main n) taken;
  }

pub refused_calls : RefusedCalls
refused_calls F z s t u entry run (as_it_is e) =
    subst (λ (x : State). CalledAtMost F z x) (sym e) (ran_alone F z t (moves_keep F z s t run (entry_holds F z s entry)))
refused_calls F z s t u entry run (unbuilt {b} {now} {m} r none empty count e) =
    subst (λ (x : State). CalledAtMost F z x) (sym e)
    (ran_alone F z _ (rebuild_keeps F z t (moves_keep F z s t run (entry_holds F z s entry)) b now m r (inl none)))
refused_calls F z s t u entry run (unkept {n} {r} {calls'} quiet taken row due count e) =
    subst (λ (x : State). CalledAtMost F z x) (sym e)
    (n ∷ t.ran, (not_ran, inv.accounts.once), counted, called)
  where
    inv : Invariant F z t
    inv = moves_keep F z s t run (entry_holds F z s entry)

    not_ran : Among n t.ran → ⊥
    not_ran a = let x : Main ≡ Change = inv.settled.twice (main n) (inv.accounts.called n a).is_settled taken.heap in cc

    counted : RoseAtMost z.calls (costs_of t.graph (n ∷ t.ran)) calls'
    counted = subst (λ (k : ℕ). RoseAtMost z.calls k calls') (sym (sum_by-cons (cost_at t.graph) n t.ran))
        (at_most_on (at_most inv.accounts.count) count)

    called : (m : NodeId) → Among m (n ∷ t.ran) → IsDueIn F z t m
    called m (inl is) = subst (λ (y : NodeId). IsDueIn F z t y) (sym is) (least_due F z t inv quiet n r taken row due)
    called m (inr a) = ran_due F z t inv m a
