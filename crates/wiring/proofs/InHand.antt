-- What is in hand while links are taken off.
use Rattle.std.proofs.Common.{◌≡◌, ◌⊎◌, inl, inr, ℕ, ◌&&◌, not, Bool, true, false, cond, List, [], Option, None, Some, refl, sym, ap, subst, ◌∙◌}
use Rattle.std.specs.Prelude.{option_map}
use Rattle.std.proofs.lemmas.Option.{none-some}
use Rattle.inc_value.specs.declared.node.Point.{Point}
use Rattle.inc_value.specs.Choice.{Among}
use Rattle.inc_terms.specs.Depend.{change}
use Rattle.point_map.specs.Rows.{at}
use Rattle.necessary_graph.specs.Part.{Needed, IsInStep}
use Rattle.node_arena.specs.Arena.{Arena}
use Rattle.node_outcomes.specs.Row.{with_stage, settled_in, stage_in}
use Rattle.node_outcomes.specs.Progress.{Progress}
use Rattle.node_outcomes.specs.declared.row.Stage.TheVariants as code
use Rattle.wiring.specs.Deciding.{is_needed}
use Rattle.wiring.specs.Stands.{PointInHand, hand, IsInHand}
use Rattle.wiring.specs.Wiring.{HasMore, IsSpared, HandIsSpared, is_gated, is_still, hand_now}
use Rattle.wiring.specs.declared.work.Work.{Work}
use Rattle.wiring.proofs.Deciding.{decides_needed}

-- ---- who is still to be given links

-- a point that keeps its row is, where it is needed
pub still_same : (old new : Work) (a : Point) → at new.rows a ≡ at old.rows a → is_still old new a ≡ is_needed new.graph a
still_same old new a e =
    ap (λ (x : Option Progress). is_needed new.graph a && not (is_gated (stage_in x) && not (is_gated (stage_in (at old.rows a))))) e
    ∙ both (is_needed new.graph a) (is_gated (stage_in (at old.rows a)))
  where
    both : (n g : Bool) → (n && not (g && not g)) ≡ n
    both true true = refl
    both true false = refl
    both false true = refl
    both false false = refl

-- one that was put back isn't
pub still_not : (old new : Work) (a : Point) → is_gated (stage_in (at new.rows a)) ≡ true → is_gated (stage_in (at old.rows a)) ≡ false
    → is_still old new a ≡ false
still_not old new a now was = by (is_needed new.graph a) (is_gated (stage_in (at new.rows a))) (is_gated (stage_in (at old.rows a))) now was
  where
    by : (n g h : Bool) → g ≡ true → h ≡ false → (n && not (g && not h)) ≡ false
    by true true false e f = refl
    by false true false e f = refl
    by n false h e f = absurd (cc)
    by n true true e f = absurd (cc)

pub still_needed : (old new : Work) (a : Point) → is_still old new a ≡ true → is_needed new.graph a ≡ true
still_needed old new a e = by (is_needed new.graph a) (not (is_gated (stage_in (at new.rows a)) && not (is_gated (stage_in (at old.rows a))))) e
  where
    by : (n b : Bool) → (n && b) ≡ true → n ≡ true
    by true b e = refl
    by false b e = absurd (cc)

-- ---- what it is owed

abbrev pub nothing : Point → List Point
nothing p = []

-- a point in hand stays in hand
pub in_hand_now : (old new : Work) (held : Option PointInHand) (a : Point) → IsInHand held a → IsInHand (hand_now old new held) a
in_hand_now old new None a h = h
in_hand_now old new (Some x) a h = by (is_still old new x.point) h
  where
    by : (b : Bool) → a ≡ x.point → IsInHand (cond b (Some x) (Some (hand x.point []))) a
    by true h = h
    by false h = h

-- ---- one after the other

-- a row is as it was, or has its gate's link alone
abbrev pub FallsBack : Work → Work → Point → Type 0
FallsBack old new p = (at new.rows p ≡ at old.rows p) ⊎ (at new.rows p ≡ option_map (with_stage code.Gated) (at old.rows p))

-- so it is of what is spared
abbrev pub KeepsSpared : Arena → Work → Work → Type 0
KeepsSpared arena old new = (p : Point) → IsSpared arena old p → FallsBack old new p

settled_gated : (round : ℕ) (x : Option Progress) → settled_in round (option_map (with_stage code.Gated) x) ≡ settled_in round x
settled_gated round None = refl
settled_gated round (Some k) = refl

pub gated_stage : (x : Option Progress) → is_gated (stage_in x) ≡ true → is_gated (stage_in (option_map (with_stage code.Gated) x)) ≡ true
gated_stage None e = e
gated_stage (Some k) e = refl

pub gated_none : (x : Option Progress) → HasMore (stage_in (option_map (with_stage code.Gated) x)) → ⊥
gated_none None (inl e) = none-some code.Static e
gated_none None (inr e) = none-some code.Full e
gated_none (Some k) (inl e) = cc
gated_none (Some k) (inr e) = cc

gated_twice : (x : Option Progress) → option_map (with_stage code.Gated) (option_map (with_stage code.Gated) x) ≡ option_map (with_stage code.Gated) x
gated_twice None = refl
gated_twice (Some k) = refl

-- what falls back and is gated stays so
pub falls_gated : (old new : Work) (p : Point) → FallsBack old new p → is_gated (stage_in (at old.rows p)) ≡ true
    → is_gated (stage_in (at new.rows p)) ≡ true
falls_gated old new p (inl e) g = ap (λ (x : Option Progress). is_gated (stage_in x)) e ∙ g
falls_gated old new p (inr e) g = ap (λ (x : Option Progress). is_gated (stage_in x)) e ∙ gated_stage (at old.rows p) g

-- what has more than its gate's link had it
pub falls_more : (old new : Work) (p : Point) → FallsBack old new p → HasMore (stage_in (at new.rows p)) → HasMore (stage_in (at old.rows p))
falls_more old new p (inl e) m = subst (λ (x : Option Progress). HasMore (stage_in x)) e m
falls_more old new p (inr e) m = absurd (gated_none (at old.rows p) (subst (λ (x : Option Progress). HasMore (stage_in x)) e m))

-- rows fall back one time after the other
pub falls_then : (old mid new : Work) (p : Point) → FallsBack old mid p → FallsBack mid new p → FallsBack old new p
falls_then old mid new p (inl e) (inl f) = inl (f ∙ e)
falls_then old mid new p (inl e) (inr f) = inr (f ∙ ap (λ (x : Option Progress). option_map (with_stage code.Gated) x) e)
falls_then old mid new p (inr e) (inl f) = inr (f ∙ e)
falls_then old mid new p (inr e) (inr f) = inr (f ∙ (ap (λ (x : Option Progress). option_map (with_stage code.Gated) x) e ∙ gated_twice (at old.rows p)))

-- a change is spared
pub change_spared : (arena : Arena) (work : Work) (p : Point) → IsSpared arena work (change p.node)
change_spared arena work p e = absurd (cc)

module _ (arena : Arena) (old mid : Work) (keeps : KeepsSpared arena old mid) (round : mid.round ≡ old.round) where
  -- changes are settled as before
  pub change_settled : (p : Point) → settled_in mid.round (at mid.rows (change p.node)) ≡ settled_in old.round (at old.rows (change p.node))
  change_settled p = ap (λ (q : ℕ). settled_in q (at mid.rows (change p.node))) round ∙ elim (keeps (change p.node) (change_spared arena old p)) [
    | inl e ↦ ap (settled_in old.round) e
    | inr e ↦ ap (settled_in old.round) e ∙ settled_gated old.round (at old.rows (change p.node))
  ]

  pub still_spared : (p : Point) → IsSpared arena old p → IsSpared arena mid p
  still_spared p spared e full r row sub = change_settled p ∙ elim (keeps p spared) [
    | inl same ↦ spared e (ap stage_in (sym same) ∙ full) r row sub
    | inr fell ↦ absurd (gated_none (at old.rows p) (inr (ap stage_in (sym fell) ∙ full)))
  ]

  pub hand_spared : IsInStep mid.graph → (held : Option PointInHand) → HandIsSpared arena old held → HandIsSpared arena mid (hand_now old mid held)
  hand_spared in_step None h = tt
  hand_spared in_step (Some x) h = by (is_still old mid x.point) refl
    where
      by : (b : Bool) → is_still old mid x.point ≡ b → HandIsSpared arena mid (cond b (Some x) (Some (hand x.point [])))
      by true e = record {
        spared = still_spared x.point h.spared;
        needed = inr ((decides_needed mid.graph in_step x.point).0 (still_needed old mid x.point e));
        gate = λ r b row scope among more. change_settled (change b)
            ∙ h.gate r b row scope among (falls_more old mid x.point (keeps x.point h.spared) more);
      }
      by false e = record {
        spared = still_spared x.point h.spared;
        needed = inl refl;
        gate = λ r b row scope among more. absurd (none_among (change b) among);
      }
        where
          none_among : (a : Point) → Among a [] → ⊥
          none_among a h = h

  -- what is in hand is as if all had been done at once
  module _ (new : Work) (next : KeepsSpared arena mid new) (mid_step : IsInStep mid.graph) (new_step : IsInStep new.graph)
      (less : (p : Point) → Needed new.graph p → Needed mid.graph p) where
    both_still : (nm nn go gm gn : Bool) → (nn ≡ true → nm ≡ true) → (go ≡ true → gm ≡ true) → (gm ≡ true → gn ≡ true)
        → (nm && not (gm && not go)) ≡ false → (nn && not (gn && not go)) ≡ false
    both_still nm false go gm gn n g h e = refl
    both_still nm true true gm true n g h e = absurd (let a = n refl in let b = g refl in by nm gm a b e)
      where
        by : (nm gm : Bool) → nm ≡ true → gm ≡ true → (nm && not (gm && not true)) ≡ false → ⊥
        by true true a b e = cc
        by false gm a b e = cc
        by true false a b e = cc
    both_still nm true true gm false n g h e = absurd (let a = h (g refl) in cc)
    both_still nm true false gm true n g h e = refl
    both_still nm true false gm false n g h e = absurd (let a = n refl in by nm gm a h e)
      where
        by : (nm gm : Bool) → nm ≡ true → (gm ≡ true → false ≡ true) → (nm && not (gm && not false)) ≡ false → ⊥
        by true true a h e = let b = h refl in cc
        by true false a h e = cc
        by false gm a h e = cc

    then_still : (nn go gm gn : Bool) → (gm ≡ true → gn ≡ true) → (gm ≡ true → go ≡ true) → (go ≡ true → gm ≡ true)
        → (nn && not (gn && not gm)) ≡ (nn && not (gn && not go))
    then_still nn true true gn h k g = refl
    then_still nn false false gn h k g = refl
    then_still nn true false gn h k g = absurd (let a = g refl in cc)
    then_still nn false true gn h k g = absurd (let a = k refl in cc)

    needed_then : (p : Point) → is_needed new.graph p ≡ true → is_needed mid.graph p ≡ true
    needed_then p n = (decides_needed mid.graph mid_step p).1 (less p ((decides_needed new.graph new_step p).0 n))

    -- still in hand for both: it wasn't put back in between
    not_gated : (nm go gm : Bool) → (nm && not (gm && not go)) ≡ true → gm ≡ true → go ≡ true
    not_gated nm true gm e g = refl
    not_gated true false true e g = absurd (cc)
    not_gated false false true e g = absurd (cc)
    not_gated nm false false e g = absurd (cc)

    pub same_hand : (held : Option PointInHand) → HandIsSpared arena old held → hand_now mid new (hand_now old mid held) ≡ hand_now old new held
    same_hand None h = refl
    same_hand (Some x) h = by (is_still old mid x.point) refl
      where
        first : FallsBack old mid x.point
        first = keeps x.point h.spared

        second : FallsBack mid new x.point
        second = next x.point (still_spared x.point h.spared)

        cond_same : (b : Bool) → cond b (Some (hand x.point [])) (Some (hand x.point [])) ≡ Some (hand x.point [])
        cond_same true = refl
        cond_same false = refl

        by : (b : Bool) → is_still old mid x.point ≡ b → hand_now mid new (cond b (Some x) (Some (hand x.point []))) ≡ hand_now old new (Some x)
        by true e =
            let go = is_gated (stage_in (at old.rows x.point)) in
            let gm = is_gated (stage_in (at mid.rows x.point)) in
            let gn = is_gated (stage_in (at new.rows x.point)) in
            ap (λ (c : Bool). cond c (Some x) (Some (hand x.point [])))
            (then_still (is_needed new.graph x.point) go gm gn (falls_gated mid new x.point second)
            (not_gated (is_needed mid.graph x.point) go gm e) (falls_gated old mid x.point first))
        by false e =
            let go = is_gated (stage_in (at old.rows x.point)) in
            let gm = is_gated (stage_in (at mid.rows x.point)) in
            let gn = is_gated (stage_in (at new.rows x.point)) in
            cond_same (is_still mid new x.point) ∙ sym (ap (λ (c : Bool). cond c (Some x) (Some (hand x.point [])))
            (both_still (is_needed mid.graph x.point) (is_needed new.graph x.point) go gm gn (needed_then x.point)
            (falls_gated old mid x.point first) (falls_gated mid new x.point second) e))
