-- A link that was refused is tried again, once some of what wasn't confirmed is off, or all.
use Rattle.std.proofs.Common.{◌≡◌, ◌⊎◌, inl, inr, ℕ, ◌+◌, ◌<◌, ◌≤◌, Bool, true, false, cond, List, [], ◌∷◌, length, Option, None, Some, refl, sym, ap, subst, ◌∙◌, arith}
use Rattle.std.specs.Prelude.{not, option_map, Ok, Err}
use Rattle.std.proofs.lemmas.Nat.{mul-le}
use Rattle.std.proofs.lemmas.Option.{none-some, same_Some}
use Rattle.inc_value.specs.declared.node.NodeId.{NodeId}
use Rattle.inc_value.specs.declared.node.Point.{Point}
use Rattle.inc_value.specs.declared.outcome.Outcome.{Outcome}
use Rattle.inc_value.specs.Choice.{here, step, Among, Reaches}
use Rattle.inc_terms.specs.Depend.{Depends, change}
use Rattle.inc_terms.specs.Graph.{Graph, Row}
use Rattle.inc_terms.specs.Plan.{targets, gate_of}
use Rattle.inc_terms.specs.Term.{Functions}
use Rattle.point_map.specs.Rows.{at}
use Rattle.link_table.specs.Links.{Reads}
use Rattle.height_order.specs.Levels.{level}
use Rattle.necessary_graph.specs.Part.{NecessaryPart, Needed}
use Rattle.node_arena.specs.Arena.{Arena, row_at}
use Rattle.stabilize_round.specs.Invariant.{Invariant}
use Rattle.stabilize_round.specs.Machine.{Move}
use Rattle.stabilize_round.specs.State as machine
use Rattle.stabilize_round.specs.State.{State, Start, count, planned, plan_at, live_plan}
use Rattle.stabilize_round.specs.Steps.{TakingOff, Spends, Wiring, Wired, plainly, after_refusal}
use Rattle.stabilize_round.specs.Wire.{IsConfirmed, levelled, Finish}
use Rattle.stabilize_round.proofs.Machine.{moves_keep}
use Rattle.stabilize_round.proofs.Steps.{off_moves, wiring_moves}
use Rattle.stabilize_round.proofs.Parts.{bool_cases}
use Rattle.stabilize_round.proofs.Points.{at_same}
use Rattle.stabilize_round.specs.Counts.{number_of}
use Rattle.wiring.specs.Deciding.{is_needed}
use Rattle.wiring.specs.Answers.{ConnectAnswers}
use Rattle.wiring.specs.Growing.{Grows, unneeded}
use Rattle.wiring.specs.Graph.{HasLinks}
use Rattle.wiring.specs.Kept.{IsKept}
use Rattle.wiring.specs.Refusing.{IsBarred, RefusedBy}
use Rattle.node_outcomes.specs.Row.{with_stage, settled_in, stage_in}
use Rattle.node_outcomes.specs.Progress.{Progress}
use Rattle.node_outcomes.specs.declared.row.Stage.{Stage}
use Rattle.node_outcomes.specs.declared.row.Stage.TheVariants as code
use Rattle.wiring.specs.TakingOff.{RowsSpared, TakesMore}
use Rattle.wiring.specs.Stands.{MatchesState, PointInHand, hand, debts, owes, Counts}
use Rattle.wiring.specs.Wiring.{IsDue, IsLevelled, IsSpared, IsPutBack, HasMore, IsTarget, MayRead, KeepsPlaces, Links, is_gated, is_still, hand_now, AreUnlinked}
use Rattle.wiring.specs.declared.refused.Refused.{Refused}
use Rattle.wiring.specs.declared.work.Work.{Work}
use Rattle.wiring.proofs.Deciding.{decides_needed, same_need}
use Rattle.wiring.proofs.Growing.{grows_then}
use Rattle.wiring.proofs.Holding.{has_links_same, links_same}
use Rattle.wiring.proofs.InHand.{still_same, still_not, still_needed, still_spared, change_settled}
use Rattle.wiring.proofs.Owing.{owes_staged, owes_unneeded}
use Rattle.wiring.proofs.Reading.{read_still}
use Rattle.wiring.proofs.Levelling.{low_wiring, low_stands, refused_at_once}
use Rattle.wiring.proofs.PuttingBack.{gate_once, gated_now, more_isnt_gated}
use Rattle.wiring.proofs.Raising.{Keeps, keeps_then, wiring_keeps, off_keeps, spend_keeps, wired_then, wired_after, leaves_hand}
use Rattle.wiring.proofs.Staying.{row_of_state, stage_is}
use Rattle.wiring.proofs.Telling.{barred_before}
use Rattle.wiring.proofs.TakingAll.{rows_keep, places_then}
use Rattle.wiring.proofs.Unlinked.{off_unlinked, spend_unlinked}

-- ---- what stays

still_confirmed : (s t : State) (p q : Point) → Keeps s t → IsConfirmed s p q → IsConfirmed t p q
still_confirmed s t p q k c = record {
  gate = λ r b row scope. elim (c.gate r b (sym (ap (λ (G : Graph). G.row p.node) k.graph) ∙ row) scope) [
    | inl e ↦ inl e
    | inr (inl e) ↦ inr (inl (ap (λ (f : Point → _). f (change b)) k.settled ∙ e))
    | inr (inr e) ↦ inr (inr (
      e.0,
      ap (λ (G : Graph). G.row p.node) k.graph ∙ e.1,
      e.2,
      subst (λ (G : Graph). Among q (targets G p.node e.0.def (t.out (change p.node)))) (sym k.graph)
          (subst (λ (f : Point → Option Outcome). Among q (targets s.graph p.node e.0.def (f (change p.node)))) (sym k.out) e.3),
      k.taken ∙ e.4,
    ))
  ];
  right = λ r row main among. k.taken ∙ c.right r (sym (ap (λ (G : Graph). G.row p.node) k.graph) ∙ row) main
      (subst (λ (f : Point → Option Outcome). Among q (targets s.graph p.node r.def (f (change p.node)))) k.out
      (subst (λ (G : Graph). Among q (targets G p.node r.def (t.out (change p.node)))) k.graph among));
}

still_depends : (F : Functions) (s t : State) (p q : Point) → Keeps s t → Depends F s.graph s.died p q → Depends F t.graph t.died p q
still_depends F s t p q k d = subst (λ (G : Graph). Depends F G t.died p q) (sym k.graph)
    (subst (λ (f : NodeId → Option NodeId). Depends F s.graph f p q) (sym k.died) d)

-- ---- the link is tried again

-- who may read what stays
pub may_read : (old new : Work) → KeepsPlaces old new → (p q : Point) → MayRead old p q → MayRead new p q
may_read old new places p q may = links_same old new places.rows places.deaths p q may

pub is_target : (arena : Arena) (old new : Work) → KeepsPlaces old new → (q : Point) → IsTarget arena old q → IsTarget arena new q
is_target arena old new places q target = record {
  given = target.given;
  there = elim target.there [ inl row ↦ inl (places.rows q ∙ row) | inr dead ↦ inr dead ];
}

gated_for : (x : Option Progress) → HasMore (stage_in x) → stage_in (option_map (with_stage code.Gated) x) ≡ Some code.Gated
gated_for None (inl e) = absurd (none-some code.Static e)
gated_for None (inr e) = absurd (none-some code.Full e)
gated_for (Some k) h = refl

more_or_gated : (x : Option Stage) → HasMore x → x ≡ Some code.Gated → ⊥
more_or_gated x (inl e) g = cc
more_or_gated x (inr e) g = cc

-- a point is needed, and wasn't put back
abbrev pub IsStill : Work → Work → Point → Type 0
IsStill old new p = Needed new.graph p × (stage_in (at new.rows p) ≡ Some code.Gated → stage_in (at old.rows p) ≡ Some code.Gated)

-- what is spared and wasn't put back keeps its row
pub kept_row : (arena : Arena) (old new : Work) (p : Point) → RowsSpared arena old new → IsSpared arena old p → IsStill old new p
    → at new.rows p ≡ at old.rows p
kept_row arena old new p rows spared still = elim (rows p spared) [
  | inl e ↦ e
  | inr b ↦ absurd (more_or_gated (stage_in (at old.rows p)) b.back.more
      (still.1 (ap stage_in b.back.now ∙ gated_for (at old.rows p) b.back.more)))
]

few_of : (f : Point → Bool) (points : List Point) → number_of f points ≤ length points
few_of f [] = omega arith
few_of f (p ∷ ps) = by (f p) refl (few_of f ps)
  where
    by : (b : Bool) → f p ≡ b → number_of f ps ≤ length ps → number_of f (p ∷ ps) ≤ length (p ∷ ps)
    by true e r = rw e (omega (arith, r))
    by false e r = rw e (omega (arith, r))

unneeded_few : (g : NecessaryPart) (points : List Point) → unneeded g points ≤ length points
unfolding unneeded
unneeded_few g points = few_of (λ (p : Point). not (is_needed g p)) points

-- what is left to wire where fewer links may be tried again
pub spent_grows : (old mid new : Work) → mid.retries ≡ old.retries → mid.todo.items ≡ old.todo.items → new.retries < mid.retries
    → new.todo.items ≡ mid.todo.items → Grows old new
spent_grows old mid new same todo fewer listed points covers =
    let few = unneeded_few new.graph points in
    let a = ap length (listed ∙ todo) in
    let m = mul-le (new.retries + 1) (length points + 2) old.retries (length points + 2) (omega (arith, fewer, same)) (omega arith) in
    omega (arith, few, a, m)

-- other heights spare the same points, and leave who is needed
pub levelled_spared : (arena : Arena) (old new : Work) → IsLevelled old new → (p : Point) → IsSpared arena old p → IsSpared arena new p
levelled_spared arena old new l p spared e full r row sub =
    ap (λ (q : ℕ). settled_in q (at new.rows (change p.node))) l.round.round ∙ (ap (settled_in old.round) (l.rows (change p.node))
    ∙ spared e (ap stage_in (sym (l.rows p)) ∙ full) r row sub)

-- a link was refused that may be tried again, and some of what wasn't confirmed is off, or all
pub record IsOffNow (arena : Arena) (old mid new : Work) (p : Point) : Type 0 where
  pub levelled : IsLevelled old mid
  pub some : 0 < old.retries
  pub need : Needed mid.graph p
  pub spared : IsSpared arena mid p
  pub more : TakesMore arena mid new
  pub places : KeepsPlaces old new
  pub grows : Grows old new
  pub fewer : new.retries < old.retries

pub is_off_now : (arena : Arena) (old mid new : Work) (p : Point) → IsLevelled old mid → mid.retries ≡ old.retries → Needed old.graph p
    → IsSpared arena old p → KeepsPlaces old mid → TakesMore arena mid new → new.retries < mid.retries → IsOffNow arena old mid new p
is_off_now arena old mid new p l same need spared first more fewer = record {
  levelled = l;
  some = omega (arith, fewer, same);
  need = (same_need old.graph mid.graph l.roots l.links p).1 need;
  spared = levelled_spared arena old mid l p spared;
  more = more;
  places = places_then old mid new first more.places;
  grows = spent_grows old mid new same l.todo fewer (ap (λ (w : Work). w.todo.items) more.rest);
  fewer = omega (arith, fewer, same);
}

module _ (F : Functions) (z : Start) (s : State) (arena : Arena) (old mid new : Work) (counts : Counts) (p q : Point) (rest : List Point)
    (due : IsDue F z s arena old counts p q rest) (o : IsOffNow arena old mid new p) where
  abbrev pub held : Option PointInHand
  held = Some (hand p (q ∷ rest))

  abbrev pub first : State
  first = levelled s (level mid.graph.heights)

  first_stands : MatchesState arena mid counts held first
  first_stands = low_stands F z s arena old mid counts held due.stands o.levelled

  first_wiring : Reaches (Wiring F z) s first
  first_wiring = low_wiring F z s arena old mid counts held due.stands o.levelled

  first_inv : Invariant F z first
  first_inv = moves_keep F z s first (wiring_moves F z s first first_wiring) due.holds

  gate_ran : (r : Row) (b : NodeId) → row_at arena p.node ≡ Some r → r.scope ≡ Some b → Among (change b) (q ∷ rest)
      → HasMore (stage_in (at mid.rows p)) → settled_in mid.round (at mid.rows (change b)) ≡ true
  gate_ran r b row scope among more = ap (λ (i : ℕ). settled_in i (at mid.rows (change b))) o.levelled.round.round
      ∙ (ap (settled_in old.round) (o.levelled.rows (change b))
      ∙ due.gate r b row scope among (subst (λ (x : Option Progress). HasMore (stage_in x)) (o.levelled.rows p) more))

  pub was : (t u : State) × Reaches (TakingOff F z) first t × ((m : Move F z t u) × Spends m) × MatchesState arena new counts (hand_now mid new held) u
  was = o.more.taken F z first counts held first_inv (subst (λ (i : ℕ). 0 < i) (sym due.stands.retries) o.some)
      (record { spared = o.spared; needed = inr o.need; gate = gate_ran }) first_stands

  abbrev pub then : State
  then = was.1

  keeps : Keeps s then
  keeps = keeps_then s was.0 then (keeps_then s first was.0 (wiring_keeps F z s first first_wiring) (off_keeps F z first was.0 was.2))
      (spend_keeps F z was.0 then was.3.0 was.3.1)

  then_inv : Invariant F z then
  then_inv = moves_keep F z was.0 then (step was.3.0 here) (moves_keep F z first was.0 (off_moves F z first was.0 was.2) first_inv)

  wired_on : (t : State) → Reaches (Wiring F z) then t → Wired F z s t
  wired_on t more = after_refusal {u = first} {v = was.0} {w = then} first_wiring was.2 was.3.0 was.3.1 (plainly more)

  unlinked : AreUnlinked (Some (hand p [])) then
  unlinked = spend_unlinked F z (Some (hand p [])) was.0 then was.3.0 was.3.1 (off_unlinked F z (Some (hand p [])) first was.0 was.2 due.unlinked)

  settled_still : (b : NodeId) → settled_in new.round (at new.rows (change b)) ≡ settled_in mid.round (at mid.rows (change b))
  settled_still b = change_settled arena mid new (rows_keep arena mid new o.more.rows) o.more.places.round (change b)

  -- the reader is needed still, and wasn't put back
  module _ (still : Needed new.graph p) (same : at new.rows p ≡ at mid.rows p) where
    held_still : hand_now mid new held ≡ held
    held_still = ap (λ (b : Bool). cond b held (Some (hand p []))) (still_same mid new p same ∙ (decides_needed new.graph o.more.kept.step p).1 still)

    pub due_again : IsDue F z then arena new counts p q rest
    due_again = record {
      holds = then_inv;
      stands = subst (λ (h : Option PointInHand). MatchesState arena new counts h then) held_still was.4;
      depends = still_depends F s then p q keeps due.depends;
      confirmed = still_confirmed s then p q keeps due.confirmed;
      gate = λ r b row scope among more. settled_still b
          ∙ gate_ran r b row scope among (subst (λ (x : Option Progress). HasMore (stage_in x)) same more);
      unlinked = unlinked;
    }

    -- the link may be tried again
    pub again : (t : State) × Wired F z s t × IsDue F z t arena new counts p q rest
    again = (then, wired_on then here, due_again)

  -- it isn't needed any more, or waits for its gate, and leaves the worklist
  module _ (gone : is_still mid new p ≡ false) where
    at_hand : MatchesState arena new counts (Some (hand p [])) then
    at_hand = subst (λ (b : Bool). MatchesState arena new counts (cond b held (Some (hand p []))) then) gone was.4

    owes_nothing : then.owed p ≡ []
    owes_nothing = at_hand.owed p ∙ at_same p [] (debts new then.needed)

    left : owes new (then.needed p) p ≡ [] → Finish then p → (t : State) × Wired F z s t × MatchesState arena new counts None t × AreUnlinked None t
    left none leaves =
        let out = leaves_hand F z then arena new counts p at_hand unlinked none leaves in
        (out.0, wired_on out.0 out.1, out.2, out.3)

  pub lost_need : (Needed new.graph p → ⊥) → (t : State) × Wired F z s t × MatchesState arena new counts None t × AreUnlinked None t
  lost_need lost = left gone (owes_unneeded new (then.needed p) p unneeded_now) (record {
    owed = owes_nothing gone;
    bare = λ n e. lost (need_now n);
    gated = λ r row n e. absurd (lost (need_now n));
    static = λ r row n e. absurd (lost (need_now n));
  })
    where
      gone : is_still mid new p ≡ false
      gone = elim (bool_cases (is_still mid new p)) [
        | inl t ↦ absurd (lost ((decides_needed new.graph o.more.kept.step p).0 (still_needed mid new p t)))
        | inr f ↦ f
      ]

      need_now : then.needed p ≡ true → Needed new.graph p
      need_now n = (was.4.needed p).0 n

      unneeded_now : then.needed p ≡ false
      unneeded_now = elim (bool_cases (then.needed p)) [ inl t ↦ absurd (lost (need_now t)) | inr f ↦ f ]

  pub put_back : (back : IsPutBack arena mid new p) → (t : State) × Wired F z s t × MatchesState arena new counts None t × AreUnlinked None t
  put_back back = left gone (owes_staged new (then.needed p) p code.Gated gated_now_row (λ e. cc)) (record {
    owed = owes_nothing gone;
    bare = λ n e. let g = is_gated_now in cc;
    gated = λ r row n e. (back.bind, scope r row, unsettled, in_heap r row n);
    static = λ r row n e. absurd (let g = is_gated_now in cc);
  })
    where
      gone : is_still mid new p ≡ false
      gone = still_not mid new p (ap (λ (x : Option Progress). is_gated (stage_in x)) back.back.now ∙ gated_now (at mid.rows p) back.back.more)
          (more_isnt_gated (stage_in (at mid.rows p)) back.back.more)

      gated_now_row : stage_in (at new.rows p) ≡ Some code.Gated
      gated_now_row = ap stage_in back.back.now ∙ gated_for (at mid.rows p) back.back.more

      is_gated_now : then.stage p ≡ machine.Gated
      is_gated_now = stage_is was.4 p code.Gated gated_now_row

      same_row : (r : Row) → then.graph.row p.node ≡ Some r → back.back.row ≡ r
      same_row r row = same_Some back.back.row r (sym back.back.is_row ∙ (sym (row_of_state was.4 p.node) ∙ row))

      scope : (r : Row) → then.graph.row p.node ≡ Some r → r.scope ≡ Some back.bind
      scope r row = subst (λ (x : Row). x.scope ≡ Some back.bind) (same_row r row) back.back.is_scope

      unsettled : then.settled (change back.bind) ≡ false
      unsettled = was.4.settled (change back.bind) ∙ (settled_still back.bind ∙ back.unsettled)

      reads : (r : Row) → then.graph.row p.node ≡ Some r → then.needed p ≡ true → Reads new.graph.links p (change back.bind)
      reads r row n =
          let all = then_inv.rows.links p (change back.bind) n in
          let none : count (change back.bind) (then.owed p) ≡ 0 = ap (count (change back.bind)) (owes_nothing gone) in
          let plan : count (change back.bind) (planned then p) ≡ count (change back.bind) (gate_of r.scope) =
          ap (λ (x : Option Row). count (change back.bind) (plan_at then.graph then.out then.died p x (then.stage p))) row
          ∙ ap (λ (x : machine.Stage). count (change back.bind) (live_plan then.graph then.out p r x)) is_gated_now in
          let once = gate_once back.bind r.scope (scope r row) in
          let links = was.4.links p (change back.bind) in
          omega (arith, all, none, plan, once, links)

      in_heap : (r : Row) → then.graph.row p.node ≡ Some r → then.needed p ≡ true → then.heap (change back.bind) ≡ true
      in_heap r row n = was.4.heap (change back.bind) ∙ back.back.waits ((was.4.needed p).0 n) (reads r row n)

  -- one way or the other
  pub left_hand : (IsStill mid new p → ⊥) → (t : State) × Wired F z s t × MatchesState arena new counts None t × AreUnlinked None t
  left_hand lost = elim (o.more.rows p o.spared) [
    | inl e ↦ lost_need (λ n. lost (n, λ g. ap stage_in (sym e) ∙ g))
    | inr b ↦ put_back b
  ]

-- ---- what holds while a link is tried again

-- so it is of a point in hand, whose link was refused so far
pub record IsTrying (arena : Arena) (old now : Work) (p q : Point) : Type 0 where
  pub due : (F : Functions) (z : Start) (s : State) (counts : Counts) (rest : List Point) → IsDue F z s arena old counts p q rest
      → (t : State) × Wired F z s t × IsDue F z t arena now counts p q rest
  pub places : KeepsPlaces old now
  pub kept : IsKept arena now
  pub needed : Needed now.graph p
  pub spared : IsSpared arena now p
  pub row : at now.rows p ≡ at old.rows p
  pub grows : Grows old now
  pub retries : now.retries ≤ old.retries
  pub experts : now.experts ≡ old.experts
  pub barred : (now ≡ old) ⊎ IsBarred old p q

-- at first
pub first_trying : (arena : Arena) (work : Work) (p q : Point) → IsKept arena work → Needed work.graph p → IsSpared arena work p → IsTrying arena work work p q
first_trying arena work p q kept needed spared = record {
  due = λ F z s counts rest due. (s, plainly here, due);
  places = record { rows = λ a. refl; roots = λ a. refl; deaths = refl; round = refl; experts = read_still work.experts };
  kept = kept;
  needed = needed;
  spared = spared;
  row = refl;
  grows = λ points covers. omega arith;
  retries = omega arith;
  experts = refl;
  barred = inl refl;
}

module _ (arena : Arena) (old now : Work) (p q : Point) (so : IsTrying arena old now p q) where
  -- the first refusal was for the links as they were
  pub first_barred : (mid : Work) → IsLevelled now mid → IsBarred mid p q → IsBarred old p q
  first_barred mid l bar = elim so.barred [
    | inl same ↦ subst (λ (w : Work). IsBarred w p q) same (barred_before now mid l.links p q bar)
    | inr before ↦ before
  ]

  -- where fewer links may be tried again, there was one
  pub was_barred : (new : Work) → new.retries ≡ now.retries → new.retries < old.retries → IsBarred old p q
  was_barred new as_now fewer = elim so.barred [
    | inl same ↦ absurd (let e = ap (λ (w : Work). w.retries) same in omega (arith, e, as_now, fewer))
    | inr before ↦ before
  ]

  has_links : (a : Point) → HasLinks now a → HasLinks old a
  has_links = has_links_same now old (λ a. sym (so.places.rows a)) (sym so.places.deaths)

  -- experts stay
  off_experts : (mid new : Work) → IsOffNow arena now mid new p → new.experts ≡ old.experts
  off_experts mid new o = ap (λ (w : Work). w.experts) o.more.rest ∙ (o.levelled.round.experts ∙ so.experts)

  -- it is needed still, and wasn't put back
  pub more_trying : (mid new : Work) → IsOffNow arena now mid new p → IsBarred mid p q → IsStill mid new p → IsTrying arena old new p q
  more_trying mid new o bar still =
      let same = kept_row arena mid new p o.more.rows o.spared still in record {
        due = λ F z s counts rest due.
            let a = so.due F z s counts rest due in
            let b = again F z a.0 arena now mid new counts p q rest a.2 o still.0 same in
            (b.0, wired_then F z s a.0 b.0 a.1 b.1, b.2);
        places = places_then old now new so.places o.places;
        kept = o.more.kept;
        needed = still.0;
        spared = still_spared arena mid new (rows_keep arena mid new o.more.rows) o.more.places.round p o.spared;
        row = same ∙ (o.levelled.rows p ∙ so.row);
        grows = grows_then old now new has_links so.grows o.grows;
        retries = let a = so.retries in let b = o.fewer in omega (arith, a, b);
        experts = off_experts mid new o;
        barred = inr (first_barred mid o.levelled bar);
      }

  -- it isn't, or waits for its gate
  pub lost_answers : (mid new : Work) → IsOffNow arena now mid new p → (IsStill mid new p → ⊥) → IsBarred mid p q
      → ConnectAnswers arena old new p q (Ok false)
  lost_answers mid new o lost bar = record {
    linked = λ t. absurd (let e = t in cc);
    needed = λ t. absurd (let e = t in cc);
    reads = λ t. absurd (let e = t in cc);
    gone = λ f. (
      λ F z s counts rest due.
          let a = so.due F z s counts rest due in
          let b = left_hand F z a.0 arena now mid new counts p q rest a.2 o lost in
          (b.0, wired_then F z s a.0 b.0 a.1 b.1, b.2, b.3),
      let a = so.retries in let b = o.fewer in omega (arith, a, b),
    );
    refused = tt;
    barred = λ fewer. first_barred mid o.levelled bar;
    row = λ t. absurd (let e = t in cc);
    experts = off_experts mid new o;
    places = places_then old now new so.places o.places;
    kept = o.more.kept;
    pushed = grows_then old now new has_links so.grows o.grows;
  }

  -- the link is on
  pub on_answers : (new : Work) → Links arena now new p q → Needed new.graph p × Needed new.graph q → Reads new.graph.links p q
      → at new.rows p ≡ at now.rows p → new.retries ≡ now.retries → new.experts ≡ now.experts → KeepsPlaces now new → IsKept arena new → Grows now new
      → ConnectAnswers arena old new p q (Ok true)
  on_answers new links need reads same as_now experts places kept grows = record {
    linked = λ t F z s counts rest due.
        let a = so.due F z s counts rest due in
        let b = links F z a.0 counts rest a.2 in
        (b.0, wired_after F z s a.0 b.0 a.1 b.1, b.2, b.3);
    needed = λ t. need;
    reads = λ t. reads;
    gone = λ f. absurd (let e = f in cc);
    refused = tt;
    barred = was_barred new as_now;
    row = λ t. same ∙ so.row;
    experts = experts ∙ so.experts;
    places = places_then old now new so.places places;
    kept = kept;
    pushed = grows_then old now new has_links so.grows grows;
  }

  -- its refusal is final
  pub final_answers : (new : Work) → IsLevelled now new → (e : Refused) → RefusedBy new p q e → new.retries ≡ now.retries → KeepsPlaces now new
      → IsKept arena new → ConnectAnswers arena old new p q (Err e)
  final_answers new l e why as_now places kept = record {
    linked = tt;
    needed = tt;
    reads = tt;
    gone = tt;
    refused = λ F z s counts rest due.
        let a = so.due F z s counts rest due in
        let b = refused_at_once F z a.0 arena now new counts p q rest a.2 l so.needed e why in
        (b.0, wired_then F z s a.0 b.0 a.1 b.1, b.2, b.3);
    barred = was_barred new as_now;
    row = tt;
    experts = l.round.experts ∙ so.experts;
    places = places_then old now new so.places places;
    kept = kept;
    pushed = tt;
  }
