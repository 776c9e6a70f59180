-- Until when a node shows the same by the clock, and that it stays timed.
use Rattle.std.proofs.Common.{arith, ◌≡◌, ◌∙◌, refl, sym, subst, ap, inl, inr, ℕ, zero, suc, ◌+◌, ◌-◌, ◌/◌, ◌%◌, ◌*◌, ◌<◌, ◌≤◌, ℤ, pos, negsuc, ◌+ℤ◌, ◌-ℤ◌, ◌*ℤ◌, ◌≤ℤ◌, ◌<ℤ◌, List, [], ◌∷◌, Option, None, Some, Bool, false, true, FitsSigned, w64, map, drop, length, get_or}
use Rattle.std.specs.Option.{SomeIff}
use Rattle.std.proofs.lemmas.List.{drop_more}
use Rattle.std.specs.Int.Signed.{le_z, quot_z}
use Rattle.std.proofs.lemmas.Int.{ints}
use Rattle.std.proofs.lemmas.Nat.{div-mul-add, div-add-mod'}
use Rattle.std.proofs.lemmas.Option.{same_Some, none-some}
use Rattle.inc_value.specs.Choice.{Among}
use Rattle.inc_value.specs.declared.value.Value.{Value}
use Rattle.inc_value.specs.declared.value.Value.TheVariants as value
use Rattle.inc_terms.specs.Clock.{IsTimed, IsNextChange}
use Rattle.inc_terms.specs.Evaluate.{latest}
use Rattle.inc_terms.specs.Graph as graph
use Rattle.inc_terms.specs.Graph.{Def, At, Steps, Now, Every}
use Rattle.inc_terms.specs.Steps.{step_of}
use Rattle.inc_terms.specs.declared.steps.Step as declared
use Rattle.inc_terms.specs.Term.{Step}

-- from a time on the first steps have begun: what is shown is what the others give, from some value on
pub HaveCome : ℤ → List Step → List Step → Type 0
HaveCome time steps rest = (v : Value) → (w : Value) × ((after : ℤ) → time ≤ℤ after → latest after v steps ≡ latest after w rest)

pub none_came : (time : ℤ) (steps : List Step) → HaveCome time steps steps
unfolding HaveCome
none_came time steps v = (v, λ after on. refl)

pub one_came : (time : ℤ) (steps : List Step) (s : Step) (rest : List Step) → s.time ≤ℤ time → HaveCome time steps (s ∷ rest) → HaveCome time steps rest
unfolding HaveCome
one_came time steps s rest came h v =
    (s.value, λ after on. (h v).1 after on ∙ (let yes : le_z s.time after ≡ true = grind (arith, ints) in rw yes refl))

stops : (after : ℤ) (w : Value) (s : Step) (rest : List Step) → after <ℤ s.time → latest after w (s ∷ rest) ≡ w
stops after w s rest before = let no : le_z s.time after ≡ false = grind (arith, ints) in rw no refl

-- where a step begins that hasn't begun, another value may be shown
pub quiet_to_step : (time : ℤ) (steps : List Step) (s : Step) (rest : List Step) → time <ℤ s.time → Among s steps → HaveCome time steps (s ∷ rest)
    → (v : Value) → IsNextChange time (Steps v steps) (Some s.time)
unfolding HaveCome
quiet_to_step time steps s rest later there h v = record {
  later = λ t is. subst (λ u. time <ℤ u) (same_Some s.time t is) later;
  turns = λ t is. (s, there, same_Some s.time t is);
  same = λ after on max before.
      let w = (h v).0 in
      let then : latest after v steps ≡ w = (h v).1 after on ∙ stops after w s rest (before s.time refl) in
      let now : latest time v steps ≡ w = (h v).1 time (omega (arith, ints)) ∙ stops time w s rest later in
      ap Some (then ∙ sym now);
}

-- where all have begun the last value stays
pub quiet_for_good : (time : ℤ) (steps : List Step) → HaveCome time steps [] → (v : Value) → IsNextChange time (Steps v steps) None
unfolding HaveCome
quiet_for_good time steps h v = record {
  later = λ t is. absurd (none-some t is);
  turns = λ t is. absurd (none-some t is);
  same = λ after on max before. ap Some ((h v).1 after on ∙ sym ((h v).1 time (omega (arith, ints))));
}

-- the step at the front of those that are left
pub here : (steps : List declared.Step) (i : ℕ) (s : declared.Step) → i < length steps → s ≡ get_or steps i s
    → map step_of (drop i steps) ≡ step_of s ∷ map step_of (drop (i + 1) steps)
here steps i s lt is = ap (map step_of) (drop_more steps i s lt) ∙ ap (λ x. step_of x ∷ map step_of (drop (i + 1) steps)) (sym is)

-- and each stands among all of them
pub stands : (steps : List declared.Step) (i : ℕ) (s : declared.Step) → i < length steps → s ≡ get_or steps i s → Among (step_of s) (map step_of steps)
stands [] i s lt is = absurd (omega (arith, lt))
stands (x ∷ steps) zero s lt is = inl (ap step_of is)
stands (x ∷ steps) (suc i) s lt is = inr (stands steps i s (omega (arith, lt)) is)

-- ---- the clock itself, and a time to come

pub quiet_to_time : (t time : ℤ) → time <ℤ t → IsNextChange time (At t) (Some t)
quiet_to_time t time lt = record {
  later = λ u is. subst (λ x. time <ℤ x) (same_Some t u is) lt;
  turns = λ u is. sym (same_Some t u is);
  same = λ after on max before.
      let before' = before t refl in
      let no : le_z t after ≡ false = grind (arith, ints) in
      let no' : le_z t time ≡ false = grind (arith, ints) in
      ap (λ b. Some (value.Bool b)) (no ∙ sym no');
}

pub quiet_at_now : (time : ℤ) (until : Option ℤ) → ((t : ℤ) → until ≡ Some t → t ≡ (time +ℤ pos 1))
    → (until ≡ None → pos 9223372036854775807 <ℤ (time +ℤ pos 1)) → IsNextChange time Now until
quiet_at_now time until some none = record {
  later = λ t u. (let k = some t u in omega (arith, ints, k));
  turns = λ t u. tt;
  same = λ after on max before.
      ap (λ z. Some (value.Int z)) (let soon = reached until time some none after max before in omega (arith, ints, soon, on));
}
  where
    reached : (until : Option ℤ) (time : ℤ) → ((t : ℤ) → until ≡ Some t → t ≡ (time +ℤ pos 1)) → (until ≡ None → pos 9223372036854775807 <ℤ (time +ℤ pos 1))
        → (after : ℤ) → after ≤ℤ pos 9223372036854775807 → ((t : ℤ) → until ≡ Some t → after <ℤ t) → after <ℤ (time +ℤ pos 1)
    reached (Some t) time some none after max before = subst (λ u. after <ℤ u) (some t refl) (before t refl)
    reached None time some none after max before = (let k = none refl in omega (arith, ints, k, max))

-- a time that isn't one is past the greatest
pub past : (z : ℤ) → pos 0 ≤ℤ z → ¬ FitsSigned w64 z → pos 9223372036854775807 <ℤ z
past z h unfit = go (le_z z (pos 9223372036854775807)) refl
  where
    go : (b : Bool) → le_z z (pos 9223372036854775807) ≡ b → pos 9223372036854775807 <ℤ z
    go true e = absurd (unfit (let f : FitsSigned w64 z = grind (arith, ints) in f))
    go false e = grind (arith, ints)

pub some_of : (r : Option ℤ) (P : Type 0) (v t : ℤ) → SomeIff r P v → r ≡ Some t → t ≡ v
some_of None P v t h e = absurd (let e' = e in cc)
some_of (Some x) P v t h e = (let e' : x ≡ t = (let e'' = e in cc) in sym e' ∙ h.1)

pub none_of : (r : Option ℤ) (P : Type 0) (v : ℤ) → SomeIff r P v → r ≡ None → ¬ P
none_of None P v h e = h
none_of (Some x) P v h e = absurd (let e' = e in cc)

-- ---- whole spans

same_spans : (e d s : ℕ) → e % s + d < s → (e + d) / s ≡ e / s
same_spans e d s lt =
    let parts : (e / s) * s + (e % s + d) ≡ e + d = (let k = div-add-mod' e s in omega (arith, k)) in
    subst (λ n. n / s ≡ e / s) parts (div-mul-add (e / s) s (e % s + d) lt)

natural : (z : ℤ) → pos 0 ≤ℤ z → (n : ℕ) × (z ≡ pos n)
natural (pos n) h = (n, refl)
natural (negsuc n) h = absurd h.le

pub quiet_to_span : (base time : ℤ) (s e : ℕ) (until : Option ℤ) → base ≤ℤ time → 0 < s → e < 9223372036854775808 → time -ℤ base ≡ pos e
    → ((t : ℤ) → until ≡ Some t → t ≡ (time +ℤ pos (s - e % s)))
    → (until ≡ None → pos 9223372036854775807 <ℤ (time +ℤ pos (s - e % s)))
    → e % s < s → IsNextChange time (Every base (pos s)) until
quiet_to_span base time s e until reached span few is some none rest = record {
  later = λ t u. (let k = some t u in omega (arith, ints, k, rest));
  turns = λ t u. (e / s + 1, span_ends t (some t u));
  same = λ after on max before.
      let n = natural (after -ℤ base) (omega (arith, ints, reached, on)) in
      let soon : after <ℤ (time +ℤ pos (s - e % s)) = ended until some none after max before in
      let m = n.0 in
      let there = n.1 in
      let more : e ≤ m = omega (arith, ints, is, there, on) in
      let near : e % s + (m - e) < s = omega (arith, ints, is, there, soon, rest, more) in
      let whole : m ≡ e + (m - e) = omega (arith, more) in
      ap (λ q. Some (value.Int q)) (ap (λ z. quot_z z (pos s)) there ∙ ap (λ k. pos (k / s)) whole ∙ ap pos (same_spans e (m - e) s near) ∙ sym (ap (λ z. quot_z z (pos s)) is));
}
  where
    span_ends : (t : ℤ) → t ≡ (time +ℤ pos (s - e % s)) → t ≡ (base +ℤ (pos (e / s + 1) *ℤ pos s))
    span_ends t k =
        let parts : (e / s) * s + e % s ≡ e = div-add-mod' e s in
        let whole : (e / s + 1) * s ≡ (e / s) * s + s = omega arith in
        let at_end : t ≡ (base +ℤ pos ((e / s) * s + s)) = omega (arith, ints, k, is, parts, rest) in
        at_end ∙ ap (λ n. base +ℤ pos n) (sym whole)

    ended : (until : Option ℤ) → ((t : ℤ) → until ≡ Some t → t ≡ (time +ℤ pos (s - e % s))) → (until ≡ None → pos 9223372036854775807 <ℤ (time +ℤ pos (s - e % s)))
        → (after : ℤ) → after ≤ℤ pos 9223372036854775807 → ((t : ℤ) → until ≡ Some t → after <ℤ t) → after <ℤ (time +ℤ pos (s - e % s))
    ended (Some t) some none after max before = subst (λ u. after <ℤ u) (some t refl) (before t refl)
    ended None some none after max before = (let k = none refl in omega (arith, ints, k, max))

-- ---- the time moves on

-- what is timed stays so
pub timed_on : (before after : ℤ) → before ≤ℤ after → (def : Def) → IsTimed before def → IsTimed after def
timed_on before after on (graph.Every base span) h = (h.0, (let b = h.1 in omega (arith, ints, b, on)), h.2)
timed_on before after on (graph.Const v) h = tt
timed_on before after on (graph.Var v) h = tt
timed_on before after on (graph.Map f ns) h = tt
timed_on before after on (graph.Fold f v ns) h = tt
timed_on before after on (graph.If t a b) h = tt
timed_on before after on (graph.Join n) h = tt
timed_on before after on (graph.Bind l f ns) h = tt
timed_on before after on (graph.At t) h = tt
timed_on before after on (graph.Steps v steps) h = tt
timed_on before after on graph.Now h = tt
timed_on before after on (graph.Freeze n f) h = tt
timed_on before after on (graph.Expert f v ns) h = tt
