-- A point goes back to a lower stage: more is put into the heap, and the point is cut.
use Rattle.std.proofs.Common.{◌≡◌, inl, inr, ℕ, zero, suc, ◌<◌, Bool, true, false, cond, List, [], Option, None, Some, refl, sym, ap, subst, ◌∙◌, arith}
use Rattle.std.proofs.lemmas.Option.{same_Some}
use Rattle.std.specs.Prelude.{is_some, option_map, ◌↔◌}
use Rattle.inc_value.specs.declared.node.Point.{Point}
use Rattle.inc_value.specs.Choice.{here, step, Among, Reaches}
use Rattle.inc_terms.specs.Graph.{Row}
use Rattle.inc_terms.specs.Term.{Functions}
use Rattle.point_map.specs.Rows.{at}
use Rattle.link_table.specs.Links.{Links, times, Reads}
use Rattle.necessity.specs.Need.{Roots, root_times}
use Rattle.height_order.specs.Levels.{level, or_zero}
use Rattle.necessary_graph.specs.Part.{NecessaryPart, Needed}
use Rattle.necessary_graph.proofs.Reaching.{root_needed, read_needed, needed_more}
use Rattle.node_arena.specs.Arena.{Arena}
use Rattle.stabilize_round.specs.Machine as move
use Rattle.stabilize_round.specs.State.{State, Start, Linked, at_point, count, live_plan}
use Rattle.stabilize_round.specs.Steps.{TakingOff}
use Rattle.stabilize_round.specs.Wire as wire
use Rattle.stabilize_round.specs.Wire.{heaped, Schedule, dropped, Drop, Sweep}
use Rattle.stabilize_round.proofs.Points.{same_or_other, at_same, at_other}
use Rattle.expert_nodes.specs.Experts.{fresh_at}
use Rattle.node_outcomes.specs.Row.{is_full, stage_in, stage_of, with_stage}
use Rattle.node_outcomes.specs.Progress.{Progress}
use Rattle.node_outcomes.specs.declared.row.Stage.{Stage}
use Rattle.node_outcomes.specs.declared.row.Stage.TheVariants as code
use Rattle.wiring.specs.Deciding.{is_needed}
use Rattle.wiring.specs.Stands.{MatchesState, PointInHand, hand, debts, owed_in, owes, Counts}
use Rattle.wiring.specs.Wiring.{is_still, hand_now}
use Rattle.wiring.specs.declared.work.Work.{Work}
use Rattle.wiring.proofs.Deciding.{decides_needed, not_both}
use Rattle.wiring.proofs.GoingBack.{IsLowered, lowered_most, need_before, same_roots, height_same}
use Rattle.wiring.proofs.InHand.{still_same, still_needed, in_hand_now}
use Rattle.wiring.proofs.Owing.{full_or_not, owes_partly, owes_same, owes_unneeded}
use Rattle.wiring.proofs.Staying.{stage_now, most_stands}

-- the state once more is in the heap
abbrev pub scheduled : State → NecessaryPart → State
scheduled s g = heaped s (λ (a : Point). is_some (at g.heap a))

-- how often the point is linked to each at the stage
abbrev pub row_at_stage : State → Point → Row → Stage → Point → ℕ
row_at_stage s p r to b = count b (live_plan s.graph s.out p r (stage_of to))

-- the point's links are those of its stage, and the machine may drop the others; a point in hand that is put back is owed nothing
pub record MayLower (s : State) (old new : Work) (held : Option PointInHand) (p waited : Point) (to : Stage) (links : Links) (r : Row)
    (l : IsLowered old new p waited to links) : Type 0 where
  pub need : s.needed p ≡ true
  pub row : s.graph.row p.node ≡ Some r
  pub waited_row : (w : Row) × (s.graph.row waited.node ≡ Some w)
  pub waited_need : s.needed waited ≡ true
  pub unsettled : s.settled waited ≡ false
  pub linked : (b : Point) → times links p b ≡ row_at_stage s p r to b
  pub drops : Drop (scheduled s l.mid) p r (stage_of to) (row_at_stage s p r to)
  pub back : (h : PointInHand) → held ≡ Some h → h.point ≡ p → is_still old new p ≡ false

module _ (F : Functions) (z : Start) (s : State) (arena : Arena) (old new : Work) (counts : Counts) (held : Option PointInHand)
    (st : MatchesState arena old counts held s) (p waited : Point) (to : Stage) (links : Links) (r : Row)
    (l : IsLowered old new p waited to links)
    (may : MayLower s old new held p waited to links r l) where
  abbrev first : State
  first = scheduled s l.mid

  abbrev second : State
  second = dropped first p (stage_of to) (row_at_stage s p r to)

  abbrev without : NecessaryPart
  without = record l.mid { links = links }

  abbrev need' : Point → Bool
  need' a = is_needed new.graph a

  abbrev links' : Point → Point → ℕ
  links' a b = times new.graph.links a b

  abbrev heap' : Point → Bool
  heap' a = is_some (at new.graph.heap a)

  abbrev owed' : Point → List Point
  owed' a = cond (is_needed new.graph a) (at_point p [] s.owed a) []

  abbrev last : State
  last = wire.swept second need' links' heap' owed'

  -- ---- more is put into the heap

  schedules : Schedule s (λ (a : Point). is_some (at l.mid.heap a))
  schedules = record {
    kept = λ q h. l.heap_kept q (sym (st.heap q) ∙ h);
    new = λ q h. elim (l.heap_new q h) [
      | inl was ↦ inl (st.heap q ∙ was)
      | inr x ↦ inr (elim x [
        | inl w ↦ (
          may.waited_row.0,
          subst (λ (y : Point). s.graph.row y.node ≡ Some may.waited_row.0) (sym w.0) may.waited_row.1,
          subst (λ (y : Point). s.needed y ≡ true) (sym w.0) may.waited_need,
          inl (subst (λ (y : Point). s.settled y ≡ false) (sym w.0) may.unsettled),
        )
        | inr m ↦ (
          r,
          subst (λ (y : Point). s.graph.row y.node ≡ Some r) (sym m.0) may.row,
          subst (λ (y : Point). s.needed y ≡ true) (sym m.0) may.need,
          inl (subst (λ (y : Point). s.settled y ≡ false) (sym m.0) (st.settled p ∙ m.1)),
        )
      ])
    ];
  }

  -- ---- what is no longer reached loses all

  links_now : (a b : Point) → second.links a b ≡ times links a b
  links_now a b = elim (same_or_other p a) [
    | inl e ↦ subst (λ (x : Point). at_point p (row_at_stage s p r to) s.links x b ≡ times links x b) e
        (ap (λ (f : Point → ℕ). f b) (at_same p (row_at_stage s p r to) s.links) ∙ sym (may.linked b))
    | inr ne ↦ ap (λ (f : Point → ℕ). f b) (at_other p (row_at_stage s p r to) s.links a ne) ∙ (st.links a b ∙ sym (l.others a b ne))
  ]

  decided : (a : Point) → (need' a ≡ true) ↔ Needed new.graph a
  decided a = decides_needed new.graph l.step a

  without_roots : (a : Point) → root_times l.mid.roots a ≡ root_times old.graph.roots a
  without_roots a = ap (λ (x : Roots). root_times x a) l.graph.roots

  reached_before : (a : Point) → Needed without a → Needed old.graph a
  reached_before a h = needed_more without old.graph (λ x root. let e = without_roots x in omega (arith, e, root)) fewer a h
    where
      fewer : (x y : Point) → Reads links x y → Reads old.graph.links x y
      fewer x y reads = elim (same_or_other p x) [
        | inl e ↦ subst (λ (w : Point). Reads old.graph.links w y) e (
            let reads' : 0 < times links p y = subst (λ (w : Point). Reads links w y) (sym e) reads in
            let less = l.fewer y in omega (arith, reads', less))
        | inr ne ↦ let same = l.others x y ne in omega (arith, same, reads)
      ]

  walk : {a b : Point} → Reaches (Reads links) a b → Reaches (Linked second) a b
  walk here = here
  walk (step {a} {b} reads rest) = step (let e = links_now a b in omega (arith, reads, e)) (walk rest)

  then_needed : (a : Point) → need' a ≡ true → Needed without a
  then_needed a t = (l.sweep.reached a).0 ((decided a).0 t)

  sweeps : Sweep second need' links' heap' owed'
  sweeps = record {
    was = λ a t. (st.needed a).1 (reached_before a (then_needed a t));
    rooted = λ a root. (decided a).1 (root_needed new.graph a
        (let one = st.root a in let two = without_roots a in let three = l.sweep.roots a in omega (arith, root, one, two, three)));
    closed = λ a b t linked. (decided b).1 (read_needed new.graph a b ((decided a).0 t)
        (let same = l.sweep.kept a b (then_needed a t) in let e = links_now a b in omega (arith, linked, same, e)));
    reached = λ a t. let h = then_needed a t in
        (h.root, (let is = h.is_root in let one = st.root h.root in let two = without_roots h.root in omega (arith, is, one, two)), walk h.leads);
    kept = λ a b t. l.sweep.kept a b (then_needed a t) ∙ sym (links_now a b);
    gone = λ a b f. none (times new.graph.links a b)
        (λ reads. not_both (need' a) f ((decided a).1 ((l.sweep.reached a).1 (l.sweep.gone a b reads))));
    heap = λ a t. in_before a (at new.graph.heap a) refl t;
    heap_kept = λ a t h. ap is_some (l.sweep.heap_kept a (then_needed a t)) ∙ h;
    owed = λ a. ((λ t. rw t refl), (λ f. rw f refl));
  }
    where
      none : (x : ℕ) → (0 < x → ⊥) → x ≡ 0
      none zero h = refl
      none (suc x) h = absurd (h (omega arith))

      in_before : (a : Point) (x : Option ℕ) → at new.graph.heap a ≡ x → is_some x ≡ true → (is_some (at l.mid.heap a) ≡ true) × (need' a ≡ true)
      in_before a None e h = absurd (cc)
      in_before a (Some y) e h = let b = l.sweep.heap a y e in (ap is_some b.0, (decided a).1 ((l.sweep.reached a).1 b.1))

  -- ---- the state that is reached

  pub takes : Reaches (TakingOff F z) s last
  takes = step (move.schedule schedules refl, tt) (step (move.cut may.drops sweeps refl, tt) here)

  cond_same : (b : Bool) (xs : List Point) → xs ≡ [] → cond b xs [] ≡ []
  cond_same true xs e = e
  cond_same false xs e = refl

  owed_out : (a : Point) → p ≡ a → owed' a ≡ []
  owed_out a same = cond_same (need' a) (at_point p [] s.owed a)
      (subst (λ (x : Point). at_point p [] s.owed x ≡ []) same (at_same p [] s.owed))

  -- it has a lower stage, and is owed nothing
  lowered_owes : debts new need' p ≡ []
  lowered_owes = owes_partly new (need' p) p (ap (λ (x : Option Progress). is_full (stage_in x)) l.rows.changed ∙ by (at old.rows p))
    where
      by : (x : Option Progress) → is_full (stage_in (option_map (with_stage to) x)) ≡ false
      by None = refl
      by (Some k) = full_or_not (Some to) (λ e. may.drops.full (ap stage_of (same_Some to code.Full e)))

  -- others are owed what they were, where they are needed
  alone : (a : Point) → s.owed a ≡ debts old s.needed a → owed' a ≡ debts new need' a
  alone a is = elim (same_or_other p a) [
    | inl e ↦ owed_out a e ∙ sym (subst (λ (x : Point). debts new need' x ≡ []) e lowered_owes)
    | inr ne ↦ by (need' a) refl ne
  ]
    where
      by : (b : Bool) → need' a ≡ b → (p ≡ a → ⊥) → owed' a ≡ debts new need' a
      by false f ne = ap (λ (b : Bool). cond b (at_point p [] s.owed a) []) f ∙ sym (owes_unneeded new (need' a) a f)
      by true t ne = ap (λ (b : Bool). cond b (at_point p [] s.owed a) []) t
          ∙ (at_other p [] s.owed a ne
          ∙ (is
          ∙ (ap (λ (b : Bool). owes old b a) (sweeps.was a t)
          ∙ (sym (owes_same old new true a (l.rows.others a (λ e. ne (sym e))) (ap (λ (w : Work). fresh_at w.experts a.node) l.rest))
          ∙ ap (λ (b : Bool). owes new b a) (sym t)))))

  owed_now : (a : Point) → owed' a ≡ owed_in (debts new need') (hand_now old new held) a
  owed_now a = by_hand held refl
    where
      by_hand : (x : Option PointInHand) → held ≡ x → owed' a ≡ owed_in (debts new need') (hand_now old new x) a
      by_hand None e = alone a (st.owed a ∙ ap (λ (y : Option PointInHand). owed_in (debts old s.needed) y a) e)
      by_hand (Some h) e = by (is_still old new h.point) refl
        where
          debt : (b : Point) → s.owed b ≡ at_point h.point h.owed (debts old s.needed) b
          debt b = st.owed b ∙ ap (λ (y : Option PointInHand). owed_in (debts old s.needed) y b) e

          other : (xs : List Point) → (h.point ≡ a → ⊥) → owed' a ≡ at_point h.point xs (debts new need') a
          other xs ne = alone a (debt a ∙ at_other h.point h.owed (debts old s.needed) a ne) ∙ sym (at_other h.point xs (debts new need') a ne)

          apart : is_still old new h.point ≡ true → p ≡ h.point → ⊥
          apart t same = let f = subst (λ (x : Point). is_still old new x ≡ false) same (may.back h e (sym same)) in
              not_both (is_still old new h.point) f t

          kept : is_still old new h.point ≡ true → owed' h.point ≡ h.owed
          kept t = ap (λ (b : Bool). cond b (at_point p [] s.owed h.point) []) (still_needed old new h.point t)
              ∙ (at_other p [] s.owed h.point (apart t) ∙ (debt h.point ∙ at_same h.point h.owed (debts old s.needed)))

          -- it isn't needed any more, or was put back
          lost : is_still old new h.point ≡ false → owed' h.point ≡ []
          lost f = elim (same_or_other p h.point) [
            | inl same ↦ owed_out h.point same
            | inr ne ↦ ap (λ (b : Bool). cond b (at_point p [] s.owed h.point) [])
                (sym (still_same old new h.point (l.rows.others h.point (λ x. ne (sym x)))) ∙ f)
          ]

          by : (b : Bool) → is_still old new h.point ≡ b → owed' a ≡ owed_in (debts new need') (cond b (Some h) (Some (hand h.point []))) a
          by true t = elim (same_or_other h.point a) [
            | inl same ↦ subst (λ (x : Point). owed' x ≡ at_point h.point h.owed (debts new need') x) same
                (kept t ∙ sym (at_same h.point h.owed (debts new need')))
            | inr ne ↦ other h.owed ne
          ]
          by false f = elim (same_or_other h.point a) [
            | inl same ↦ subst (λ (x : Point). owed' x ≡ at_point h.point [] (debts new need') x) same
                (lost f ∙ sym (at_same h.point [] (debts new need')))
            | inr ne ↦ other [] ne
          ]

  height_now : (a : Point) → Needed new.graph a → s.height a ≡ level new.graph.heights a
  height_now a n = st.height a (need_before arena old new p waited to links l a n)
      ∙ ap (λ (x : Option ℕ). or_zero x) (sym (height_same arena old new p waited to links l a n))

  pub stands_off : MatchesState arena new counts (hand_now old new held) last
  stands_off = most_stands old new (lowered_most arena old new p waited to links l) arena s last st refl (record {
    links = λ a b. refl;
    root = λ a. st.root a ∙ sym (same_roots arena old new p waited to links l a);
    needed = decided;
    height = height_now;
    heap = λ a. refl;
    stage = stage_now old.rows new.rows p to l.rows s.stage st.stage;
    owed = owed_now;
    todo = λ a t. elim (st.todo a t) [
      | inl listed ↦ inl (subst (λ (w : Work). Among a w.todo.items) (sym l.rest) listed)
      | inr h ↦ inr (in_hand_now old new held a h)
    ];
    retries = st.retries ∙ sym (ap (λ (w : Work). w.retries) l.rest);
  })
