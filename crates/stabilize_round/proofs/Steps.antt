-- Steps and rounds are runs of moves.
use Rattle.std.proofs.Common.{◌≡◌, ◌⊎◌, inl, inr, ℕ, ◌≤◌, List, [], ◌∷◌, length, Some, refl, sym, ap, ◌∙◌, arith}
use Rattle.inc_value.specs.declared.node.NodeId.{NodeId}
use Rattle.inc_value.specs.Choice.{Among, NoRepeats, Reaches, here, step}
use Rattle.inc_value.specs.declared.node.Point.{Point}
use Rattle.inc_terms.specs.Term.{Functions}
use Rattle.inc_terms.specs.Graph.{Row}
use Rattle.inc_terms.specs.Within.{Given}
use Rattle.inc_terms.specs.Depend.{change}
use Rattle.inc_terms.proofs.Plan.{among_left, among_right, among_parts}
use Rattle.stabilize_round.specs.Counts.{RoseBy}
use Rattle.stabilize_round.specs.State.{State, Start}
use Rattle.stabilize_round.specs.Moves.{Quiet}
use Rattle.stabilize_round.specs.Machine.{Move, step_main, step_change, link, link_new, root, root_new, raise, finish, schedule, cut, rebuild}
use Rattle.stabilize_round.specs.Machine.{level, spend, Moves}
use Rattle.stabilize_round.specs.Runs.{built_by, built_in}
use Rattle.stabilize_round.specs.Steps.{Prepares, Settles, Wires, TakesOff, Spends, Preparing, Wiring, TakingOff, Wired, plainly, after_refusal, Step}
use Rattle.stabilize_round.specs.Steps.{Opening, by_root, by_links, Round}
use Rattle.stabilize_round.proofs.Runs.{run_builds}

abbrev pub joined : {A : Type 0} (R : A → A → Type 0) (a b c : A) → Reaches R a b → Reaches R b c → Reaches R a c
joined R a b c here rest = rest
joined R a b c (step {b = d} r first) rest = step {b = d} r (joined R d b c first rest)

module _ (F : Functions) (z : Start) where
  abbrev prepared_moves : (p : Point) (s t : State) → Reaches (Preparing F z p) s t → Moves F z s t
  prepared_moves p s t here = here
  prepared_moves p s t (step {b = u} m rest) = step {b = u} m.0 (prepared_moves p u t rest)

  abbrev pub wiring_moves : (s t : State) → Reaches (Wiring F z) s t → Moves F z s t
  wiring_moves s t here = here
  wiring_moves s t (step {b = u} m rest) = step {b = u} m.0 (wiring_moves u t rest)

  abbrev pub off_moves : (s t : State) → Reaches (TakingOff F z) s t → Moves F z s t
  off_moves s t here = here
  off_moves s t (step {b = u} m rest) = step {b = u} m.0 (off_moves u t rest)

  abbrev pub wired_moves : (s t : State) → Wired F z s t → Moves F z s t
  wired_moves s t (plainly w) = wiring_moves s t w
  wired_moves s t (after_refusal {u} {v} {w} first off m is rest) =
      joined (Move F z) s u t (wiring_moves s u first) (joined (Move F z) u v t (off_moves u v off) (step {b = w} m (wired_moves w t rest)))

  abbrev pub before_moves : (s t : State) (k : Step F z s t) → Moves F z s k.ready
  before_moves s t k = prepared_moves k.point s k.ready k.prepared

  abbrev pub step_moves : (s t : State) → Step F z s t → Moves F z s t
  step_moves s t k = joined (Move F z) s k.ready t (before_moves s t k) (step {b = k.next} k.settles (wired_moves k.next t k.wired))

  -- ---- what a step builds

  built_joined : (s t u : State) (a : Moves F z s t) (b : Moves F z t u) (n : NodeId) → Among n (built_in (joined (Move F z) s t u a b))
      → Among n (built_in a) ⊎ Among n (built_in b)
  built_joined s t u here b n h = inr h
  built_joined s t u (step {b = v} m rest) b n h = elim (among_parts n (built_by m) (built_in (joined (Move F z) v t u rest b)) h) [
    | inl i ↦ inl (among_left n (built_by m) (built_in rest) i)
    | inr k ↦ elim (built_joined v t u rest b n k) [ inl i ↦ inl (among_right n (built_by m) (built_in rest) i) | inr i ↦ inr i ]
  ]

  prepares_own : (p : Point) (s t : State) (m : Move F z s t) → Prepares p m → (n : NodeId) → Among n (built_by m) → p ≡ change n
  prepares_own p s t (rebuild {b} r made count e) it n (inl is) = it ∙ ap (λ (x : NodeId). change x) (sym is)
  prepares_own p s t (rebuild {b} r made count e) it n (inr h) = absurd h
  prepares_own p s t (step_main quiet m e) it n h = absurd h
  prepares_own p s t (step_change quiet m e) it n h = absurd h
  prepares_own p s t (link m need e) it n h = absurd h
  prepares_own p s t (link_new m need k e) it n h = absurd h
  prepares_own p s t (root need e) it n h = absurd h
  prepares_own p s t (root_new given need k e) it n h = absurd h
  prepares_own p s t (raise m e) it n h = absurd h
  prepares_own p s t (finish m e) it n h = absurd h
  prepares_own p s t (schedule m e) it n h = absurd h
  prepares_own p s t (cut d w e) it n h = absurd h
  prepares_own p s t (level m e) it n h = absurd h
  prepares_own p s t (spend u k e) it n h = absurd h

  prepared_own : (p : Point) (s t : State) (w : Reaches (Preparing F z p) s t) (n : NodeId) → Among n (built_in (prepared_moves p s t w))
      → p ≡ change n
  prepared_own p s t here n h = absurd h
  prepared_own p s t (step {b = u} m rest) n h = elim (among_parts n (built_by m.0) (built_in (prepared_moves p u t rest)) h) [
    | inl i ↦ prepares_own p s u m.0 m.1 n i
    | inr k ↦ prepared_own p u t rest n k
  ]

  -- a move that isn't a rebuild builds nothing
  abbrev BuildsNone : (s t : State) → Move F z s t → Type 0
  BuildsNone s t m = (n : NodeId) → Among n (built_by m) → ⊥

  settles_none : (p : Point) (s t : State) (m : Move F z s t) → Settles p m → BuildsNone s t m
  settles_none p s t (rebuild r made count e) it n h = it
  settles_none p s t (step_main quiet m e) it n h = h
  settles_none p s t (step_change quiet m e) it n h = h
  settles_none p s t (link m need e) it n h = h
  settles_none p s t (link_new m need k e) it n h = h
  settles_none p s t (root need e) it n h = h
  settles_none p s t (root_new given need k e) it n h = h
  settles_none p s t (raise m e) it n h = h
  settles_none p s t (finish m e) it n h = h
  settles_none p s t (schedule m e) it n h = h
  settles_none p s t (cut d w e) it n h = h
  settles_none p s t (level m e) it n h = h
  settles_none p s t (spend u k e) it n h = h

  wires_none : (s t : State) (m : Move F z s t) → Wires m → BuildsNone s t m
  wires_none s t (rebuild r made count e) it n h = it
  wires_none s t (step_main quiet m e) it n h = h
  wires_none s t (step_change quiet m e) it n h = h
  wires_none s t (link m need e) it n h = h
  wires_none s t (link_new m need k e) it n h = h
  wires_none s t (root need e) it n h = h
  wires_none s t (root_new given need k e) it n h = h
  wires_none s t (raise m e) it n h = h
  wires_none s t (finish m e) it n h = h
  wires_none s t (schedule m e) it n h = h
  wires_none s t (cut d w e) it n h = h
  wires_none s t (level m e) it n h = h
  wires_none s t (spend u k e) it n h = h

  off_none : (s t : State) (m : Move F z s t) → TakesOff m → BuildsNone s t m
  off_none s t (rebuild r made count e) it n h = it
  off_none s t (step_main quiet m e) it n h = h
  off_none s t (step_change quiet m e) it n h = h
  off_none s t (link m need e) it n h = h
  off_none s t (link_new m need k e) it n h = h
  off_none s t (root need e) it n h = h
  off_none s t (root_new given need k e) it n h = h
  off_none s t (raise m e) it n h = h
  off_none s t (finish m e) it n h = h
  off_none s t (schedule m e) it n h = h
  off_none s t (cut d w e) it n h = h
  off_none s t (level m e) it n h = h
  off_none s t (spend u k e) it n h = h

  spends_none : (s t : State) (m : Move F z s t) → Spends m → BuildsNone s t m
  spends_none s t (rebuild r made count e) it n h = it
  spends_none s t (step_main quiet m e) it n h = h
  spends_none s t (step_change quiet m e) it n h = h
  spends_none s t (link m need e) it n h = h
  spends_none s t (link_new m need k e) it n h = h
  spends_none s t (root need e) it n h = h
  spends_none s t (root_new given need k e) it n h = h
  spends_none s t (raise m e) it n h = h
  spends_none s t (finish m e) it n h = h
  spends_none s t (schedule m e) it n h = h
  spends_none s t (cut d w e) it n h = h
  spends_none s t (level m e) it n h = h
  spends_none s t (spend u k e) it n h = h

  wiring_none : (s t : State) (w : Reaches (Wiring F z) s t) (n : NodeId) → Among n (built_in (wiring_moves s t w)) → ⊥
  wiring_none s t here n h = h
  wiring_none s t (step {b = u} m rest) n h = elim (among_parts n (built_by m.0) (built_in (wiring_moves u t rest)) h) [
    | inl i ↦ wires_none s u m.0 m.1 n i
    | inr k ↦ wiring_none u t rest n k
  ]

  taking_none : (s t : State) (w : Reaches (TakingOff F z) s t) (n : NodeId) → Among n (built_in (off_moves s t w)) → ⊥
  taking_none s t here n h = h
  taking_none s t (step {b = u} m rest) n h = elim (among_parts n (built_by m.0) (built_in (off_moves u t rest)) h) [
    | inl i ↦ off_none s u m.0 m.1 n i
    | inr k ↦ taking_none u t rest n k
  ]

  wired_none : (s t : State) (w : Wired F z s t) (n : NodeId) → Among n (built_in (wired_moves s t w)) → ⊥
  wired_none s t (plainly w) n h = wiring_none s t w n h
  wired_none s t (after_refusal {u} {v} {w} first off m is rest) n h =
      let after = step {b = w} m (wired_moves w t rest) in
      elim (built_joined s u t (wiring_moves s u first) (joined (Move F z) u v t (off_moves u v off) after) n h) [
        | inl i ↦ wiring_none s u first n i
        | inr k ↦ elim (built_joined u v t (off_moves u v off) after n k) [
          | inl i ↦ taking_none u v off n i
          | inr j ↦ elim (among_parts n (built_by m) (built_in (wired_moves w t rest)) j) [
            | inl i ↦ spends_none v w m is n i
            | inr i ↦ wired_none w t rest n i
          ]
        ]
      ]

  -- a step builds the bind alone whose change it takes
  pub step_own : (s t : State) (k : Step F z s t) (n : NodeId) → Among n (built_in (step_moves s t k)) → k.point ≡ change n
  step_own s t k n h =
      elim (built_joined s k.ready t (before_moves s t k) (step {b = k.next} k.settles (wired_moves k.next t k.wired)) n h) [
        | inl i ↦ prepared_own k.point s k.ready k.prepared n i
        | inr j ↦ elim (among_parts n (built_by k.settles) (built_in (wired_moves k.next t k.wired)) j) [
          | inl i ↦ absurd (settles_none k.point k.ready k.next k.settles k.it n i)
          | inr i ↦ absurd (wired_none k.next t k.wired n i)
        ]
      ]

  -- a list without repeats whose elements are one has one at most
  one_at_most : (p : Point) (ns : List NodeId) → NoRepeats ns → ((n : NodeId) → Among n ns → p ≡ change n) → length ns ≤ 1
  one_at_most p [] once own = omega arith
  one_at_most p (n ∷ []) once own = omega arith
  one_at_most p (n ∷ m ∷ ms) once own =
      let e = sym (own n (inl refl)) ∙ own m (inr (inl refl)) in
      let same : n ≡ m = ap (λ (x : Point). x.node) e in
      absurd (once.0 (inl same))

  pub step_builds : (s t : State) (k : Step F z s t)
      → ((number : ℕ) × (number ≤ 1) × RoseBy s.builds number t.builds)
      × ((b : NodeId) (r : Row) → Given s.given b → t.graph.row b ≡ Some r → (k.point ≡ change b → ⊥) → t.graph.built b ≡ s.graph.built b)
  step_builds s t k =
      let run = step_moves s t k in
      let are = run_builds F z s t run in
      let few = one_at_most k.point (built_in run) are.once (λ n h. step_own s t k n h) in
      let fewer = are.few in
      ((are.number, omega arith, are.count), (λ b r p row other. are.others b r p row (λ h. other (step_own s t k b h))))

  pub steps_moves : (s t : State) → Reaches (Step F z) s t → Moves F z s t
  steps_moves s t here = here
  steps_moves s t (step {b = u} k rest) = joined (Move F z) s u t (step_moves s u k) (steps_moves u t rest)

  opening_moves : (s t : State) → Opening F z s t → Moves F z s t
  opening_moves s t (by_root k) = step {b = k.next} k.puts (wired_moves k.next t k.wired)
  opening_moves s t (by_links w) = wired_moves s t w

  opened_moves : (s t : State) → Reaches (Opening F z) s t → Moves F z s t
  opened_moves s t here = here
  opened_moves s t (step {b = u} k rest) = joined (Move F z) s u t (opening_moves s u k) (opened_moves u t rest)

  pub round_moves : (s t : State) → Round F z s t → Moves F z s t
  round_moves s t r = joined (Move F z) s r.begun t (opened_moves s r.begun r.opened) (steps_moves r.begun t r.steps)

  steps_quiet : (s t : State) → Quiet s → Reaches (Step F z) s t → Quiet t
  steps_quiet s t quiet here = quiet
  steps_quiet s t quiet (step {b = u} k rest) = steps_quiet u t k.ends rest

  -- between steps the worklist is empty
  pub round_quiet : (s t : State) → Round F z s t → Quiet t
  round_quiet s t r = steps_quiet r.begun t r.idle r.steps
