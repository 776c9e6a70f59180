-- The calls of a round are within the work.
use Rattle.std.proofs.Common.{◌≡◌, inl, inr, ℕ, ◌≤◌, ◌+◌, List, [], ◌∷◌, Option, None, Some, refl, sym, subst, ap, ◌∙◌, arith}
use Rattle.std.specs.List.{sum_by}
use Rattle.std.proofs.lemmas.List.Sums.{sum_by-cons}
use Rattle.inc_value.specs.declared.node.NodeId.{NodeId}
use Rattle.inc_value.specs.declared.node.Point.{Point}
use Rattle.inc_value.specs.Choice.{Among, NoRepeats, Every}
use Rattle.inc_terms.specs.Depend.{main}
use Rattle.inc_terms.specs.Evaluate.{Stands, GiveAll}
use Rattle.inc_terms.specs.Graph.{Graph}
use Rattle.inc_terms.specs.Need.{Beside, Observed, nodes_of, Held, Met, from_root, from_held}
use Rattle.inc_terms.specs.Term.{Functions}
use Rattle.inc_terms.specs.Work.{Visit, HasReason, other, passed, stale, IsDueVisit, WithinWork}
use Rattle.map_nodes.specs.Cutoff.{TellsAgain}
use Rattle.stabilize_round.specs.Calling as why
use Rattle.stabilize_round.specs.Calling.{Reason, cost_at, costs_of}
use Rattle.stabilize_round.proofs.Calling.{kids_taken, cost_of_taken}
use Rattle.stabilize_round.specs.Calls.{arguments_of}
use Rattle.stabilize_round.specs.State.{Call}
use Rattle.stabilizer.specs.Left.{StoodBeside, IsMetIn, WasCalledIn}
use Rattle.stabilizer.specs.Look.{Look}

module _ (F : Functions) (G : Graph) (died : NodeId → Option NodeId) (old new : Look) (observed : List NodeId)
    (before : Beside) (observers : List Observed)
    (stood : StoodBeside before old observers) (looks : (n : NodeId) → Among n observed → Among n (nodes_of observers)) where
  -- a node whose function was called, in a scope that stands
  abbrev pub Called : NodeId → Type 0
  Called n = (c : WasCalledIn F G died old new observed n) × Stands F G c.due.row.scope

  is_met : (p : Point) → IsMetIn F G died old observed p → Met F G died (nodes_of observers) (Held before observers) p
  is_met p (from_root {n} (inl seen) way) = from_root (inl (looks n seen)) way
  is_met p (from_root {n} (inr unfrozen) way) = from_root (inr unfrozen) way
  is_met p (from_held {h} held row stands way) = from_held (stood.held h held) row stands way

  visit_of : (n : NodeId) → Called n → Visit
  visit_of n c = record { node = n; values = c.0.due.values; cost = cost_at G n }

  other_arguments : (n : NodeId) (c : Called n) → ((k : Call) → old.last n ≡ Some k → k.arguments ≡ c.0.due.values → ⊥) → (x : Option Call)
      → old.last n ≡ x → before.last n ≡ Some c.0.due.values → ⊥
  other_arguments n c differs None e last =
      let k : before.last n ≡ None = stood.last n ∙ ap arguments_of e in let x : None ≡ Some c.0.due.values = sym k ∙ last in cc
  other_arguments n c differs (Some call) e last =
      let k : before.last n ≡ Some call.arguments = stood.last n ∙ ap arguments_of e in
      let x : Some call.arguments ≡ Some c.0.due.values = sym k ∙ last in
      differs call e (cc)

  reason_of : (n : NodeId) (c : Called n) → HasReason G before (visit_of n c)
  unfolding visit_of
  reason_of n c = by_reason c.0.due.reason
    where
      by_reason : Reason old.last old.cutoff new.settled old.marked n c.0.due.kids c.0.due.values
          → HasReason G before (visit_of n c)
      by_reason (why.other differs) = other (λ last. other_arguments n c differs (old.last n) refl last)
      by_reason (why.forced {kid} a tells settled) = passed {r = c.0.due.row} kid c.0.due.is_row
          (subst (λ (ks : List NodeId). Among kid ks) (sym (kids_taken G n c.0.due.row.def c.0.due.kids c.0.due.takes)) a) (subst TellsAgain (sym (stood.cutoff kid)) tells)
      by_reason (why.made_stale marked) = stale (stood.stale n ∙ marked)

  due : (n : NodeId) (c : Called n) → IsDueVisit F G died observers before (visit_of n c)
  unfolding visit_of
  due n c = record {
    visit = record {
      row = c.0.due.row;
      is_row = c.0.due.is_row;
      stands = c.1;
      values = subst (λ (ks : List NodeId). GiveAll F G ks c.0.due.values) (sym (kids_taken G n c.0.due.row.def c.0.due.kids c.0.due.takes)) c.0.due.gives;
      cost = cost_of_taken G n c.0.due.row c.0.due.kids c.0.due.is_row c.0.due.takes;
    };
    met = is_met (main n) c.0.due.met;
    reason = reason_of n c;
  }

  abbrev visits : (ns : List NodeId) → ((n : NodeId) → Among n ns → Called n) → List Visit
  visits [] called = []
  visits (n ∷ ns) called = visit_of n (called n (inl refl)) ∷ visits ns (λ m a. called m (inr a))

  visited : (v : Visit) (ns : List NodeId) (called : (n : NodeId) → Among n ns → Called n) → Among v (visits ns called) → Among v.node ns
  unfolding visit_of
  visited v [] called a = a
  visited v (n ∷ ns) called (inl e) = inl (ap (λ (x : Visit). x.node) e)
  visited v (n ∷ ns) called (inr a) = inr (visited v ns (λ m h. called m (inr h)) a)

  distinct : (ns : List NodeId) (called : (n : NodeId) → Among n ns → Called n) → NoRepeats ns → NoRepeats (visits ns called)
  unfolding visit_of
  distinct [] called once = tt
  distinct (n ∷ ns) called once =
      ((λ a. once.0 (visited (visit_of n (called n (inl refl))) ns (λ m h. called m (inr h)) a)), distinct ns (λ m h. called m (inr h)) once.1)

  all_due : (ns : List NodeId) (called : (n : NodeId) → Among n ns → Called n)
      → Every (IsDueVisit F G died observers before) (visits ns called)
  all_due [] called = tt
  all_due (n ∷ ns) called = (due n (called n (inl refl)), all_due ns (λ m h. called m (inr h)))

  with_first : (k a b c : ℕ) → c ≡ k + a → a ≡ b → c ≡ k + b
  with_first k a b c e e' = e ∙ ap (λ (x : ℕ). k + x) e'

  costs : (ns : List NodeId) (called : (n : NodeId) → Among n ns → Called n) → sum_by (λ (v : Visit). v.cost) (visits ns called) ≡ costs_of G ns
  unfolding visit_of
  costs [] called = refl
  costs (n ∷ ns) called =
      let e = costs ns (λ m h. called m (inr h)) in
      let one = sum_by-cons (λ (v : Visit). v.cost) (visit_of n (called n (inl refl))) (visits ns (λ m h. called m (inr h))) in
      with_first (cost_at G n) _ _ _ one e ∙ sym (sum_by-cons (cost_at G) n ns)

  pub within : (ran : List NodeId) → NoRepeats ran → ((n : NodeId) → Among n ran → Called n) → (calls : ℕ) → calls ≤ costs_of G ran
      → WithinWork F G died observers before calls
  within ran once called calls few =
      let e = costs ran called in
      record {
        visits = visits ran called;
        distinct = distinct ran called once;
        due = all_due ran called;
        enough = omega arith;
      }
