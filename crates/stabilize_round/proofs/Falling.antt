-- Steps end, and so does wiring.
use Rattle.std.proofs.Common.{◌≡◌, ◌⊎◌, inl, inr, ◌<◌, ◌≤◌, Bool, true, false, cond, ◌&&◌, List, [], ◌∷◌, refl, sym, subst, ap, ◌∙◌, arith}
use Rattle.std.proofs.lemmas.Bool.{cases_lt, and_from, and_parts}
use Rattle.inc_value.specs.declared.node.NodeId.{NodeId}
use Rattle.inc_value.specs.declared.node.Part.TheVariants.{Change, Main}
use Rattle.inc_value.specs.declared.node.Point.{Point}
use Rattle.inc_value.specs.declared.outcome.Outcome.{Outcome}
use Rattle.inc_value.specs.Choice.{Among, Reaches, here, step}
use Rattle.inc_terms.specs.Term.{Functions}
use Rattle.inc_terms.specs.Depend.{main, change}
use Rattle.stabilize_round.specs.State.{State, Start, Stage, Bare, Gated, Static, Full, at_point}
use Rattle.stabilize_round.specs.Invariant.{Invariant}
use Rattle.stabilize_round.specs.Moves.{Quiet, changed, StepChange}
use Rattle.stabilize_round.specs.Machine.{Move, step_main, step_change, link, link_new, root, root_new, raise, finish, schedule, cut, rebuild}
use Rattle.stabilize_round.specs.Machine.{level, spend, Moves}
use Rattle.stabilize_round.specs.Ended.{unsettled}
use Rattle.stabilize_round.specs.Steps.{Settles, Wires, Spends, Wiring, TakingOff, Wired, plainly, after_refusal, Step}
use Rattle.stabilize_round.specs.StepLaws.{is_full, is_loose, Falls, StepsFall, unneeded, WiringFalls}
use Rattle.stabilize_round.proofs.Counts.{no_more, fewer_than}
use Rattle.stabilize_round.proofs.Points.{same_or_other, at_same, at_other}
use Rattle.stabilize_round.proofs.Parts.{bool_cases}
use Rattle.stabilize_round.proofs.End.{falls, turned}
use Rattle.stabilize_round.proofs.Machine.{moves_settled}
use Rattle.stabilize_round.proofs.Main.{at_false}
use Rattle.stabilize_round.proofs.Changing.{again_wakes}
use Rattle.stabilize_round.proofs.Steps.{before_moves, off_moves, wiring_moves, wired_moves, step_moves}
use Rattle.stabilize_round.proofs.Meanings.{round_keeps}

-- ---- no more links may be tried again than before

same_retries : (s u t : State) → t ≡ u → u.retries ≡ s.retries → t.retries ≤ s.retries
same_retries s u t e same = let x : t.retries ≡ u.retries = ap (λ (y : State). y.retries) e in omega (arith, x, same)

move_retries : (F : Functions) (z : Start) (s t : State) → Move F z s t → t.retries ≤ s.retries
move_retries F z s t (step_main quiet m e) = same_retries s _ t e refl
move_retries F z s t (step_change quiet m e) = same_retries s _ t e refl
move_retries F z s t (link m need e) = same_retries s _ t e refl
move_retries F z s t (link_new m need k e) = same_retries s _ t e refl
move_retries F z s t (root need e) = same_retries s _ t e refl
move_retries F z s t (root_new given need k e) = same_retries s _ t e refl
move_retries F z s t (raise m e) = same_retries s _ t e refl
move_retries F z s t (finish m e) = same_retries s _ t e refl
move_retries F z s t (schedule m e) = same_retries s _ t e refl
move_retries F z s t (cut d w e) = same_retries s _ t e refl
move_retries F z s t (rebuild r made count e) = same_retries s _ t e refl
move_retries F z s t (level m e) = same_retries s _ t e refl
move_retries F z s t (spend {left} u k e) = let x : t.retries ≡ left = ap (λ (y : State). y.retries) e in omega (arith, x, u)

pub moves_retries : (F : Functions) (z : Start) (s t : State) → Moves F z s t → t.retries ≤ s.retries
moves_retries F z s t here = omega arith
moves_retries F z s t (step {b = u} m rest) =
    let one = move_retries F z s u m in let more = moves_retries F z u t rest in omega (arith, one, more)

pub fewer_retries : (F : Functions) (z : Start) (s t : State) (m : Move F z s t) → Spends m → t.retries < s.retries
fewer_retries F z s t (spend {left} u k e) it = let x : t.retries ≡ left = ap (λ (y : State). y.retries) e in omega (arith, x, u)
fewer_retries F z s t (step_main quiet m e) it = absurd it
fewer_retries F z s t (step_change quiet m e) it = absurd it
fewer_retries F z s t (link m need e) it = absurd it
fewer_retries F z s t (link_new m need k e) it = absurd it
fewer_retries F z s t (root need e) it = absurd it
fewer_retries F z s t (root_new given need k e) it = absurd it
fewer_retries F z s t (raise m e) it = absurd it
fewer_retries F z s t (finish m e) it = absurd it
fewer_retries F z s t (schedule m e) it = absurd it
fewer_retries F z s t (cut d w e) it = absurd it
fewer_retries F z s t (rebuild r made count e) it = absurd it
fewer_retries F z s t (level m e) it = absurd it

-- where a link was tried again fewer may be
pub retried : (F : Functions) (z : Start) (s u v w t : State) → Reaches (Wiring F z) s u → Reaches (TakingOff F z) u v → (m : Move F z v w)
    → Spends m → Wired F z w t → t.retries < s.retries
retried F z s u v w t on off m it rest =
    let a = moves_retries F z s u (wiring_moves F z s u on) in
    let b = moves_retries F z u v (off_moves F z u v off) in
    let c = fewer_retries F z v w m it in
    let d = moves_retries F z w t (wired_moves F z w t rest) in
    omega (arith, a, b, c, d)

settled_by : (F : Functions) (z : Start) (s t : State) (p : Point) (m : Move F z s t) → Settles p m → t.settled p ≡ true
settled_by F z s t p (step_main {n} quiet m e) it =
    let x = at_same (main n) true s.settled in
    ap (λ (x : State). x.settled p) e ∙ subst (λ (y : Point). at_point (main n) true s.settled y ≡ true) (sym it) x
settled_by F z s t p (step_change {n} quiet m e) it =
    let x = at_same (change n) true s.settled in
    ap (λ (x : State). x.settled p) e ∙ subst (λ (y : Point). at_point (change n) true s.settled y ≡ true) (sym it) x
settled_by F z s t p (link m need e) it = absurd it
settled_by F z s t p (link_new m need k e) it = absurd it
settled_by F z s t p (root need e) it = absurd it
settled_by F z s t p (root_new given need k e) it = absurd it
settled_by F z s t p (raise m e) it = absurd it
settled_by F z s t p (finish m e) it = absurd it
settled_by F z s t p (schedule m e) it = absurd it
settled_by F z s t p (cut d w e) it = absurd it
settled_by F z s t p (rebuild r made count e) it = absurd it
settled_by F z s t p (level m e) it = absurd it
settled_by F z s t p (spend u k e) it = absurd it

-- ---- what wiring leaves

-- links, stages, need and the worklist apart: nothing is settled, no main loses its links, and what is newly in the worklist is newly needed
pub record Kept (s t : State) : Type 0 where
  pub retries : t.retries ≡ s.retries
  pub settled : (p : Point) → t.settled p ≡ s.settled p
  pub needed : (p : Point) → s.needed p ≡ true → t.needed p ≡ true
  pub full : (p : Point) → s.needed p ≡ true → s.stage p ≡ Full → t.stage p ≡ Full
  pub todo : (p : Point) → t.todo p ≡ true → (s.todo p ≡ true) ⊎ ((s.needed p ≡ false) × (t.needed p ≡ true))

kept_at : (s u t : State) → t ≡ u → Kept s u → Kept s t
kept_at s u t e k = subst (λ (x : State). Kept s x) (sym e) k

same_kept : (s : State) → Kept s s
same_kept s = record { retries = refl; settled = λ p. refl; needed = λ p h. h; full = λ p h f. f; todo = λ p h. inl h }

wire_kept : (F : Functions) (z : Start) (s t : State) (m : Move F z s t) → Wires m → Kept s t
wire_kept F z s t (link m need e) it = kept_at s _ t e
    (record { retries = refl; settled = λ p. refl; needed = λ p h. h; full = λ p h f. f; todo = λ p h. inl h })
wire_kept F z s t (link_new {p} {q} m need k e) it = kept_at s _ t e (record {
  retries = refl;
  settled = λ p. refl;
  needed = λ p h. elim (same_or_other q p) [
    | inl is ↦ subst (λ (y : Point). at_point q true s.needed y ≡ true) is (at_same q true s.needed)
    | inr ne ↦ at_other q true s.needed p ne ∙ h
  ];
  full = λ p h f. elim (same_or_other q p) [
    | inl is ↦ absurd (let x : s.needed p ≡ false = subst (λ (y : Point). s.needed y ≡ false) is need in cc)
    | inr ne ↦ at_other q Bare s.stage p ne ∙ f
  ];
  todo = λ p h. elim (same_or_other q p) [
    | inl is ↦ inr (
      subst (λ (y : Point). s.needed y ≡ false) is need,
      subst (λ (y : Point). at_point q true s.needed y ≡ true) is
          (at_same q true s.needed),
    )
    | inr ne ↦ inl (sym (at_other q true s.todo p ne) ∙ h)
  ];
})
wire_kept F z s t (raise {p = a} {st} m e) it = kept_at s _ t e (record {
  retries = refl;
  settled = λ p. refl;
  needed = λ p h. h;
  full = λ p h f. elim (same_or_other a p) [
    | inl is ↦ absurd (m.lower (subst (λ (y : Point). s.stage y ≡ Full) (sym is) f))
    | inr ne ↦ at_other a st s.stage p ne ∙ f
  ];
  todo = λ p h. inl h;
})
wire_kept F z s t (finish {p = a} m e) it = kept_at s _ t e (record {
  retries = refl;
  settled = λ p. refl;
  needed = λ p h. h;
  full = λ p h f. f;
  todo = λ p h. inl (at_false a s.todo p h).0;
})
wire_kept F z s t (schedule m e) it = kept_at s _ t e
    (record { retries = refl; settled = λ p. refl; needed = λ p h. h; full = λ p h f. f; todo = λ p h. inl h })
wire_kept F z s t (level m e) it = kept_at s _ t e
    (record { retries = refl; settled = λ p. refl; needed = λ p h. h; full = λ p h f. f; todo = λ p h. inl h })
wire_kept F z s t (step_main quiet m e) it = absurd it
wire_kept F z s t (step_change quiet m e) it = absurd it
wire_kept F z s t (root need e) it = absurd it
wire_kept F z s t (root_new given need k e) it = absurd it
wire_kept F z s t (cut d w e) it = absurd it
wire_kept F z s t (rebuild r made count e) it = absurd it
wire_kept F z s t (spend u k e) it = absurd it

kept_on : (s u t : State) → Kept s u → Kept u t → Kept s t
kept_on s u t a b = record {
  retries = b.retries ∙ a.retries;
  settled = λ p. b.settled p ∙ a.settled p;
  needed = λ p h. b.needed p (a.needed p h);
  full = λ p h f. b.full p (a.needed p h) (a.full p h f);
  todo = λ p h. elim (b.todo p h) [
    | inr new ↦ inr (unneeded_before p new.0, new.1)
    | inl was ↦ elim (a.todo p was) [ inl h' ↦ inl h' | inr new ↦ inr (new.0, b.needed p new.1) ]
  ];
}
  where
    unneeded_before : (p : Point) → u.needed p ≡ false → s.needed p ≡ false
    unneeded_before p h = elim (bool_cases (s.needed p)) [ inr e ↦ e | inl e ↦ absurd (let x = a.needed p e in cc) ]

pub wiring_kept : (F : Functions) (z : Start) (s t : State) → Reaches (Wiring F z) s t → Kept s t
wiring_kept F z s t here = same_kept s
wiring_kept F z s t (step {b = u} m rest) = kept_on s u t (wire_kept F z s u m.0 m.1) (wiring_kept F z u t rest)

-- ---- wiring ends

pub wiring_falls : WiringFalls
wiring_falls F z s t run points p among was now news = elim (cases_lt (unneeded t points) (unneeded s points)) [
  | inl lt ↦ inl lt
  | inr ge ↦ inr (let x = fewer in omega arith, fewer_than s.todo t.todo (λ q h. todo_was ge q h) p points was now among)
]
  where
    kept : Kept s t
    kept = wiring_kept F z s t run

    fewer : unneeded t points ≤ unneeded s points
    fewer = no_more (λ (q : Point). cond (s.needed q) false true) (λ (q : Point). cond (t.needed q) false true)
        (turned s.needed t.needed kept.needed) points

    todo_was : unneeded s points ≤ unneeded t points → (q : Point) → t.todo q ≡ true → s.todo q ≡ true
    todo_was ge q h = elim (kept.todo q h) [
      | inl was' ↦ was'
      | inr new ↦
          let lt = fewer_than (λ (q : Point). cond (s.needed q) false true) (λ (q : Point). cond (t.needed q) false true)
          (turned s.needed t.needed kept.needed)
          q points (rw new.0 refl) (rw new.1 refl) (news q new.1 new.0) in
          absurd (omega arith)
    ]

-- ---- steps end

and_false : (a b : Bool) → b ≡ false → (a && b) ≡ false
and_false true b h = h
and_false false b h = refl

full_is : (st : Stage) → st ≡ Full → is_full st ≡ true
full_is st e = rw e refl

is_full_means : (st : Stage) → is_full st ≡ true → st ≡ Full
is_full_means Full h = refl
is_full_means Bare h = absurd (cc)
is_full_means Gated h = absurd (cc)
is_full_means Static h = absurd (cc)

-- of these what speaks of mains and of what is settled
record Holds (s t : State) : Type 0 where
  retries : t.retries ≡ s.retries
  settled : (p : Point) → t.settled p ≡ s.settled p
  needed : (p : Point) → s.needed p ≡ true → t.needed p ≡ true
  full : (p : Point) → s.needed p ≡ true → s.stage p ≡ Full → t.stage p ≡ Full

holds_on : (s u t : State) → Holds s u → Kept u t → Holds s t
holds_on s u t a b = record {
  retries = b.retries ∙ a.retries;
  settled = λ p. b.settled p ∙ a.settled p;
  needed = λ p h. b.needed p (a.needed p h);
  full = λ p h f. b.full p (a.needed p h) (a.full p h f);
}

abbrev has_all : State → NodeId → Bool
has_all s n = s.needed (main n) && is_full (s.stage (main n))

all_stays : (s t : State) → Holds s t → (n : NodeId) → has_all s n ≡ true → has_all t n ≡ true
all_stays s t k n h =
    let x = and_parts (s.needed (main n)) (is_full (s.stage (main n))) h in
    let f = is_full_means (s.stage (main n)) x.1 in
    and_from (t.needed (main n)) (is_full (t.stage (main n))) (k.needed (main n) x.0) (full_is (t.stage (main n)) (k.full (main n) x.0 f))

loose_was : (s t : State) → Holds s t → (n : NodeId) → is_loose t n ≡ true → is_loose s n ≡ true
loose_was s t k n h =
    let x = and_parts (t.settled (change n)) (cond (has_all t n) false true) h in
    and_from (s.settled (change n)) (cond (has_all s n) false true) (sym (k.settled (change n)) ∙ x.0)
    (turned (has_all s) (has_all t) (λ m. all_stays s t k m) n x.1)

settled_number : (s t : State) → ((p : Point) → t.settled p ≡ s.settled p) → (points : List Point)
    → unsettled t.settled points ≡ unsettled s.settled points
settled_number s t same points =
    let a = no_more (λ (p : Point). cond (s.settled p) false true) (λ (p : Point). cond (t.settled p) false true)
    (turned s.settled t.settled (λ p h. same p ∙ h)) points in
    let b = no_more (λ (p : Point). cond (t.settled p) false true) (λ (p : Point). cond (s.settled p) false true)
    (turned t.settled s.settled (λ p h. sym (same p) ∙ h)) points in
    omega arith

-- ---- wiring from an empty worklist

record Idle (s t : State) : Type 0 where
  quiet : Quiet t
  owed : (p : Point) → t.owed p ≡ []
  heap : (p : Point) → t.heap p ≡ true → (s.heap p ≡ true) ⊎ (s.settled p ≡ false)

idle_at : (s u t : State) → t ≡ u → Idle s u → Idle s t
idle_at s u t e k = subst (λ (x : State). Idle s x) (sym e) k

idle_wire : (F : Functions) (z : Start) (s t : State) → Quiet s → ((p : Point) → s.owed p ≡ []) → (m : Move F z s t) → Wires m → Idle s t
idle_wire F z s t quiet owed (link {p} {q} {rest} m need e) it = absurd
    (let a = m.owed in let b = owed p in let x : (q ∷ rest) ≡ [] = sym a ∙ b in cc)
idle_wire F z s t quiet owed (link_new {p} {q} {rest} m need k e) it = absurd
    (let a = m.owed in let b = owed p in let x : (q ∷ rest) ≡ [] = sym a ∙ b in cc)
idle_wire F z s t quiet owed (raise {p} m e) it = absurd (let a = m.todo in let b = quiet p in cc)
idle_wire F z s t quiet owed (finish {p = a} m e) it = idle_at s _ t e (record {
  quiet = λ p. elim (bool_cases (at_point a false s.todo p)) [
    | inr no_ ↦ no_
    | inl h ↦
        absurd (let x = (at_false a s.todo p h).0 in let y = quiet p in cc)
  ];
  owed = owed;
  heap = λ p h. inl h;
})
idle_wire F z s t quiet owed (schedule m e) it = idle_at s _ t e (record {
  quiet = quiet;
  owed = owed;
  heap = λ p h. elim (m.new p h) [
    | inl old ↦ inl old
    | inr k ↦ elim k.3 [ inl fresh ↦ inr fresh | inr c ↦ absurd (let x = c.1 in let y = quiet (main p.node) in cc) ]
  ];
})
idle_wire F z s t quiet owed (level m e) it = idle_at s _ t e (record { quiet = quiet; owed = owed; heap = λ p h. inl h })
idle_wire F z s t quiet owed (step_main q m e) it = absurd it
idle_wire F z s t quiet owed (step_change q m e) it = absurd it
idle_wire F z s t quiet owed (root need e) it = absurd it
idle_wire F z s t quiet owed (root_new given need k e) it = absurd it
idle_wire F z s t quiet owed (cut d w e) it = absurd it
idle_wire F z s t quiet owed (rebuild r made count e) it = absurd it
idle_wire F z s t quiet owed (spend u k e) it = absurd it

idle_run : (F : Functions) (z : Start) (s t : State) → Quiet s → ((p : Point) → s.owed p ≡ []) → Reaches (Wiring F z) s t → Idle s t
idle_run F z s t quiet owed here = record { quiet = quiet; owed = owed; heap = λ p h. inl h }
idle_run F z s t quiet owed (step {b = u} m rest) =
    let one = idle_wire F z s u quiet owed m.0 m.1 in
    let more = idle_run F z u t one.quiet one.owed rest in
    let kept = wire_kept F z s u m.0 m.1 in
    record {
      quiet = more.quiet;
      owed = more.owed;
      heap = λ p h. elim (more.heap p h) [ inl was ↦ one.heap p was | inr fresh ↦ inr (sym (kept.settled p) ∙ fresh) ];
    }

-- ---- a settled change is taken again

module _ (F : Functions) (z : Start) (s : State) (inv : Invariant F z s) (quiet : Quiet s) (n : NodeId) (o : Outcome) (todo' : Point → Bool)
    (move : StepChange F s n o todo') (st : s.settled (change n) ≡ true) (t : State) (run : Reaches (Wiring F z) (changed s n o todo') t)
    (attaches : s.needed (main n) ≡ true → s.stage (main n) ≡ Static
    → ((t.needed (main n) ≡ true) × (t.stage (main n) ≡ Full)) ⊎ (t.retries < s.retries))
    (points : List Point) (nodes : List NodeId) (among : Among (change n) points) (among_nodes : Among n nodes) where
  abbrev next : State
  next = changed s n o todo'

  first : Holds s next
  first = record {
    retries = refl;
    settled = λ p. elim (same_or_other (change n) p) [
      | inl is ↦ subst (λ (y : Point). at_point (change n) true s.settled y ≡ s.settled y) is (at_same (change n) true s.settled ∙ sym st)
      | inr ne ↦ at_other (change n) true s.settled p ne
    ];
    needed = λ p h. h;
    full = λ p h f. f;
  }

  wired : Kept next t
  wired = wiring_kept F z next t run

  holds : Holds s t
  holds = holds_on s next t first wired

  number : unsettled t.settled points ≡ unsettled s.settled points
  number = settled_number s t holds.settled points

  waits : s.needed (main n) ≡ true → s.stage (main n) ≡ Static → Falls s t points nodes
  waits need stage = elim (attaches need stage) [
    | inr fewer ↦ inl fewer
    | inl all ↦
        let lacks : has_all s n ≡ false = and_false (s.needed (main n)) (is_full (s.stage (main n))) (ap is_full stage) in
        let has = and_from (t.needed (main n)) (is_full (t.stage (main n))) all.0 (full_is (t.stage (main n)) all.1) in
        let was : is_loose s n ≡ true = and_from (s.settled (change n)) (cond (has_all s n) false true) st (rw lacks refl) in
        let now : is_loose t n ≡ false = and_false (t.settled (change n)) (cond (has_all t n) false true) (rw has refl) in
        inr (inr (inl (holds.retries, number, fewer_than (is_loose s) (is_loose t) (λ m. loose_was s t holds m) n nodes was now among_nodes)))
  ]

  none_woken : (s.needed (main n) ≡ true → s.stage (main n) ≡ Static → ⊥) → Falls s t points nodes
  none_woken not =
      inr (inr (inr (
        holds.retries,
        number,
        no_more (is_loose s) (is_loose t) (λ m. loose_was s t holds m) nodes,
        fewer_than (λ (p : Point). s.settled p && s.heap p) (λ (p : Point). t.settled p && t.heap p) back (change n) points was now among,
      )))
    where
      still : Quiet next
      still p = elim (bool_cases (todo' p)) [
        | inr e ↦ e
        | inl h ↦
            let w = move.woken p h in
            let k = again_wakes F z s inv quiet n o todo' move st p w in
            absurd (not (subst (λ (y : Point). s.needed y ≡ true) k.0 w.0) (subst (λ (y : Point). s.stage y ≡ Static) k.0 k.1))
      ]

      idle : Idle next t
      idle = idle_run F z next t still (λ p. inv.rows.owed p (quiet p)) run

      was : (s.settled (change n) && s.heap (change n)) ≡ true
      was = and_from (s.settled (change n)) (s.heap (change n)) st move.taken.heap

      gone : t.heap (change n) ≡ false
      gone = elim (bool_cases (t.heap (change n))) [
        | inr e ↦ e
        | inl h ↦ elim (idle.heap (change n) h) [
          | inl k ↦ absurd ((at_false (change n) s.heap (change n) k).1 refl)
          | inr k ↦ absurd (let x = at_same (change n) true s.settled in cc)
        ]
      ]

      now : (t.settled (change n) && t.heap (change n)) ≡ false
      now = and_false (t.settled (change n)) (t.heap (change n)) gone

      back : (p : Point) → (t.settled p && t.heap p) ≡ true → (s.settled p && s.heap p) ≡ true
      back p h =
          let x = and_parts (t.settled p) (t.heap p) h in
          let a = sym (holds.settled p) ∙ x.0 in
          and_from (s.settled p) (s.heap p) a (elim (idle.heap p x.1) [
            | inl k ↦ (at_false (change n) s.heap p k).0
            | inr k ↦ absurd (let y = first.settled p in cc)
          ])

  by_stage : (x : Stage) → s.stage (main n) ≡ x → Falls s t points nodes
  by_stage Static e = elim (bool_cases (s.needed (main n))) [ inl need ↦ waits need e | inr not ↦ none_woken (λ need k. let y = not in cc) ]
  by_stage Bare e = none_woken (λ need k. let x : Bare ≡ Static = sym e ∙ k in cc)
  by_stage Gated e = none_woken (λ need k. let x : Gated ≡ Static = sym e ∙ k in cc)
  by_stage Full e = none_woken (λ need k. let x : Full ≡ Static = sym e ∙ k in cc)

  pub again_falls : Falls s t points nodes
  again_falls = by_stage (s.stage (main n)) refl

module _ (F : Functions) (z : Start) (s : State) (inv : Invariant F z s) (quiet : Quiet s) (p : Point) (st : s.settled p ≡ true)
    (taken : s.heap p ≡ true)
    (next t : State) (run : Reaches (Wiring F z) next t)
    (attaches : (n : NodeId) → p ≡ change n → s.needed (main n) ≡ true → s.stage (main n) ≡ Static
    → ((t.needed (main n) ≡ true) × (t.stage (main n) ≡ Full)) ⊎ (t.retries < s.retries))
    (points : List Point) (nodes : List NodeId) (among : Among p points) (among_nodes : Among p.node nodes) where
  settles_again : (m : Move F z s next) → Settles p m → Falls s t points nodes
  settles_again (step_change {n} {o} {todo'} q m e) it =
      again_falls F z s inv quiet n o todo' m (subst (λ (y : Point). s.settled y ≡ true) it st) t
      (subst (λ (x : State). Reaches (Wiring F z) x t) e run)
      (attaches n it) points nodes (subst (λ (y : Point). Among y points) it among) (subst (λ (y : Point). Among y.node nodes) it among_nodes)
  settles_again (step_main {n} q m e) it =
      absurd (let part = inv.settled.twice p st taken in let x : Main ≡ Change = sym (ap (λ (y : Point). y.part) it) ∙ part in cc)
  settles_again (link m need e) it = absurd it
  settles_again (link_new m need k e) it = absurd it
  settles_again (root need e) it = absurd it
  settles_again (root_new given need k e) it = absurd it
  settles_again (raise m e) it = absurd it
  settles_again (finish m e) it = absurd it
  settles_again (schedule m e) it = absurd it
  settles_again (cut d w e) it = absurd it
  settles_again (rebuild r made count e) it = absurd it
  settles_again (level m e) it = absurd it
  settles_again (spend u k e) it = absurd it

-- each step leaves less
pub step_falls : (F : Functions) (z : Start) (s t : State) → Invariant F z s → (k : Step F z s t) (points : List Point) (nodes : List NodeId)
    → Among k.point points → Among k.point.node nodes → Falls s t points nodes
step_falls F z s t inv k points nodes among among_nodes = by_settled (bool_cases (s.settled k.point))
  where
    moves : Moves F z s t
    moves = step_moves F z s t k

    settled_then : t.settled k.point ≡ true
    settled_then = moves_settled F z k.next t (wired_moves F z k.next t k.wired) k.point (settled_by F z k.ready k.next k.point k.settles k.it)

    more : s.settled k.point ≡ false → unsettled t.settled points < unsettled s.settled points
    more was = falls s.settled t.settled k.point points (λ q h. moves_settled F z s t moves q h) was settled_then among

    first : s.settled k.point ≡ false → Falls s t points nodes
    first was = elim (cases_lt t.retries s.retries) [
      | inl fewer ↦ inl fewer
      | inr same ↦ inr (inl (let at_most = moves_retries F z s t moves in omega (arith, same, at_most), more was))
    ]

    by_wired : s.settled k.point ≡ true → (w : Wired F z k.next t) → Falls s t points nodes
    by_wired was (plainly on) =
        let r = k.again was in
        let x = subst (λ (y : State). (m : Move F z y k.next) × Settles k.point m) r (k.settles, k.it) in
        settles_again F z s inv k.begins k.point was k.least.heap k.next t on
        (λ n is need stage. k.attaches n is was need stage) points nodes among among_nodes x.0 x.1
    by_wired was (after_refusal {u} {v} {w} on off m it rest) =
        let before = moves_retries F z s k.ready (before_moves F z s t k) in
        let settles = move_retries F z k.ready k.next k.settles in
        let fewer = retried F z k.next u v w t on off m it rest in
        inl (omega (arith, before, settles, fewer))

    by_settled : (s.settled k.point ≡ true) ⊎ (s.settled k.point ≡ false) → Falls s t points nodes
    by_settled (inl was) = by_wired was k.wired
    by_settled (inr was) = first was

pub steps_fall : StepsFall
steps_fall F z begun s t entry run k points nodes among among_nodes =
    step_falls F z s t (round_keeps F z begun s entry run) k points nodes among among_nodes
