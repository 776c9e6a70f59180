-- Where each declared bind whose left is met is needed, the same lines lead to the same.
use Rattle.std.proofs.Common.{◌≡◌, ◌⊎◌, inl, inr, ℕ, zero, suc, ◌+◌, ◌&&◌, List, [], ◌∷◌, map, Option, None, Some, slice_get, refl, ap, sym, subst, ◌∙◌, arith}
use Rattle.std.specs.List.{flat_map}
use Rattle.inc_value.specs.Choice.{and_then, Every}
use Rattle.script_model.specs.Formula as model
use Rattle.script_model.specs.Formula.{Formula, Body, Entry, State, Meanings, Kept, Bind, Variable, Computed, Freeze, After, Expert, Grab, built_at, built_of_body}
use Rattle.script_model.specs.Laws.{NeedsWhatItMeets, PrintAlike, OneCourse, broken_after}
use Rattle.script_model.specs.Need.{Place, Left, ItemGives, Met, Needed}
use Rattle.script_model.specs.Request.{Request, TooLong, Blank, Malformed, TooDeep, Asks, IsRequest}
use Rattle.script_model.specs.Run.{Turn, IsTurn, Chain, bytes_of, lines_read}
use Rattle.script_model.specs.Settle.{Notice, BuildsFor, Builds, Keeps, Becomes, BecomeAll, Settles, recorded}
use Rattle.script_model.specs.Step.{Moment, Verdict, Refuse, Settle, Act, Reply, Tells, Stable, Stabilizes, settles, by_cycle, by_height, Follows, Answers, verdict_of, printed, first_moment}
use Rattle.script_model.specs.Values.{Outcome, same_kept}
use Rattle.script_model.proofs.Evaluation.{one_outcome}
use Rattle.script_model.proofs.Places.{item_gives_one}
use Rattle.script_model.proofs.Requests.{one_request}
use Rattle.script_model.proofs.Steps.{broken_first}
use Rattle.script_model.proofs.Transcripts.{all_show_alike}

-- ---- what is built

-- of each declared bind the left is needed where it is met
abbrev NeedsAll : Meanings → State → State → Type 0
NeedsAll F before s = (n : ℕ) → Met F before s (Place n (Left ∷ [])) → Needed F s (Place n (Left ∷ []))

module _ (F : Meanings) (before s : State) (needs : NeedsAll F before s) where
  one_built : (n : ℕ) (was x y : Option Outcome) → BuildsFor F before s n was x → BuildsFor F before s n was y → x ≡ y
  one_built n was x y h k = by_either h.either k.either
    where
      by_need : Needed F s (Place n (Left ∷ [])) → x ≡ y
      by_need need =
          let a = h.needed need in
          let b = k.needed need in
          a.2 ∙ (ap (λ o. Some o) (item_gives_one F s (Place n (Left ∷ [])) a.0 b.0 a.1 b.1) ∙ sym b.2)

      by_either : (x ≡ was) ⊎ ((o : Outcome) × Met F before s (Place n (Left ∷ [])) × ItemGives F s (Place n (Left ∷ [])) o × (x ≡ Some o))
          → (y ≡ was) ⊎ ((o : Outcome) × Met F before s (Place n (Left ∷ [])) × ItemGives F s (Place n (Left ∷ [])) o × (y ≡ Some o)) → x ≡ y
      by_either (inl a) (inl b) = a ∙ sym b
      by_either (inl a) (inr b) = by_need (needs n b.1)
      by_either (inr a) b = by_need (needs n a.1)

  builds_alike : (n : ℕ) (f : Formula) (was x y : Option Outcome) → Builds F before s n f was x → Builds F before s n f was y → x ≡ y
  builds_alike n (Bind left body) was x y h k = one_built n was x y h k
  builds_alike n f was x y h k = h ∙ sym k

  one_kept : (n : ℕ) (f : Formula) (was x y : Kept) → Keeps F before s n f was x → Keeps F before s n f was y → x ≡ y
  one_kept n f was x y h k = let same : x.built ≡ y.built = builds_alike n f was.built x.built y.built h.built k.built in rw same refl

  -- what a declaration is built for afterwards
  one_body_built : (after after' : State) (n : ℕ) (b x y : Body) → Becomes F before s after n b x → Becomes F before s after' n b y
      → built_of_body x ≡ built_of_body y
  one_body_built after after' n (Computed f was) x y h k = rw (h.1, k.1) (builds_alike n f was.built h.0.built k.0.built h.2.built k.2.built)
  one_body_built after after' n (Variable v) x y h k = rw (h, k) refl
  one_body_built after after' n (Freeze child predicate (Some v)) x y h k = rw (h, k) refl
  one_body_built after after' n (Freeze child predicate None) x y h k = rw (h.2, k.2) refl
  one_body_built after after' n (After t) x y h k = rw (h, k) refl
  one_body_built after after' n (model.Every base span) x y h k = rw (h, k) refl
  one_body_built after after' n (Expert f first links stale) x y h k = rw (h, k) refl
  one_body_built after after' n (Grab bind v is_live) x y h k = rw (h, k) refl

  abbrev built_in : List Entry → ℕ → Option Outcome
  built_in es k = and_then (and_then (slice_get es k) (λ (e : Entry). Some e.body)) built_of_body

  built_alike : (after after' : State) (n : ℕ) (xs ys ys' : List Entry) → BecomeAll F before s after n xs ys → BecomeAll F before s after' n xs ys'
      → (k : ℕ) → built_in ys k ≡ built_in ys' k
  built_alike after after' n [] [] [] h k i = refl
  built_alike after after' n [] (y ∷ ys) ys' h k i = absurd h
  built_alike after after' n [] ys (y ∷ ys') h k i = absurd k
  built_alike after after' n (x ∷ xs) [] ys' h k i = absurd h
  built_alike after after' n (x ∷ xs) ys [] h k i = absurd k
  built_alike after after' n (x ∷ xs) (y ∷ ys) (y' ∷ ys') h k zero =
      rw (h.0.1, k.0.1) (one_body_built after after' n x.body h.0.0 k.0.0 h.0.2 k.0.2)
  built_alike after after' n (x ∷ xs) (y ∷ ys) (y' ∷ ys') h k (suc i) = built_alike after after' (suc n) xs ys ys' h.1 k.1 i

  -- ---- what declarations become

  module _ (after after' : State) (alike : (k : ℕ) → built_at after k ≡ built_at after' k) where
    one_becomes : (n : ℕ) (b x y : Body) → Becomes F before s after n b x → Becomes F before s after' n b y → x ≡ y
    one_becomes n (Computed f was) x y h k =
        let same : h.0 ≡ k.0 = one_kept n f was h.0 k.0 h.2 k.2 in h.1 ∙ (ap (λ (z : Kept). Computed f z) same ∙ sym k.1)
    one_becomes n (Variable v) x y h k = h ∙ sym k
    one_becomes n (Freeze child predicate (Some v)) x y h k = h ∙ sym k
    one_becomes n (Freeze child predicate None) x y h k =
        let o = one_outcome F s [] child h.0 k.0 h.1 k.1 in h.2 ∙ (ap (λ (p : Outcome). Freeze child predicate (recorded F predicate p)) o ∙ sym k.2)
    one_becomes n (After t) x y h k = h ∙ sym k
    one_becomes n (model.Every base span) x y h k = h ∙ sym k
    one_becomes n (Expert f first links stale) x y h k = h ∙ sym k
    one_becomes n (Grab bind v is_live) x y h k =
        h ∙ (ap (λ (o : Option Outcome). Grab bind v (is_live && same_kept (built_at s bind) o)) (alike bind) ∙ sym k)

    all_become_one : (n : ℕ) (xs ys ys' : List Entry) → BecomeAll F before s after n xs ys → BecomeAll F before s after' n xs ys' → ys ≡ ys'
    all_become_one n [] [] [] h k = refl
    all_become_one n [] (y ∷ ys) ys' h k = absurd h
    all_become_one n [] ys (y ∷ ys') h k = absurd k
    all_become_one n (x ∷ xs) [] ys' h k = absurd h
    all_become_one n (x ∷ xs) ys [] h k = absurd k
    all_become_one n (x ∷ xs) (y ∷ ys) (y' ∷ ys') h k =
        let bodies : h.0.0 ≡ k.0.0 = one_becomes n x.body h.0.0 k.0.0 h.0.2 k.0.2 in
        let firsts : y ≡ y' = h.0.1 ∙ (ap (λ (b : Body). record x { body = b }) bodies ∙ sym k.0.1) in
        let rests : ys ≡ ys' = all_become_one (suc n) xs ys ys' h.1 k.1 in
        rw (firsts, rests) refl

  settle_one : (after after' : State) (notices notices' : List Notice) → Settles F before s after notices → Settles F before s after' notices'
      → (after ≡ after') × (notices ≡ notices')
  settle_one after after' notices notices' h k =
      let shown = all_show_alike F s s refl s.observers after.observers after'.observers notices notices' h.observers k.observers in
      let built = built_alike after after' 0 s.entries after.entries after'.entries h.entries k.entries in
      let entries : after.entries ≡ after'.entries = all_become_one after after' built 0 s.entries after.entries after'.entries h.entries k.entries in
      let now : after.now ≡ after'.now = h.now ∙ sym k.now in
      let accepted : after.accepted ≡ after'.accepted = h.accepted ∙ sym k.accepted in
      (rw (entries, shown.0, now, accepted) refl, shown.1)

-- ---- a line

-- the moments are one, and the replies are the same unless a stabilize was refused
record EndsOne (m after after' : Moment) (replies replies' : List Reply) : Type 0 where
  one : after ≡ after'
  said : after.broken ≡ m.broken → replies ≡ replies'

both_break : (m after after' : Moment) (replies replies' : List Reply) (k : ℕ) → m.broken ≡ None
    → after ≡ record m { broken = Some k } → after' ≡ record m { broken = Some k } → EndsOne m after after' replies replies'
both_break m after after' replies replies' k whole leads leads' = record {
  one = leads ∙ sym leads';
  said = λ stays. absurd (let e : after.broken ≡ Some k = rw leads refl in cc);
}

number_apart : (a b : ℕ) → (a ≡ b → ⊥) → Some a ≡ Some b → ⊥
number_apart a b apart e = apart (cc)

stabilizes_one : (F : Meanings) (m after after' : Moment) (replies replies' : List Reply) → NeedsAll F m.settled m.present → m.broken ≡ None
    → after.broken ≡ after'.broken → Stabilizes F m after replies → Stabilizes F m after' replies' → EndsOne m after after' replies replies'
stabilizes_one F m after after' replies replies' needs whole same (by_cycle targets k cycle among met leads is)
    (by_cycle targets' k' cycle' among' met' leads' is') = both_break m after after' replies replies' 20 whole leads leads'
stabilizes_one F m after after' replies replies' needs whole same (by_cycle targets k cycle among met leads is)
    (by_height target i met' deep named leads' is') =
    absurd (number_apart 20 21 (λ e. omega (arith, e)) (sym (ap (λ (x : Moment). x.broken) leads) ∙ (same ∙ ap (λ (x : Moment). x.broken) leads')))
stabilizes_one F m after after' replies replies' needs whole same (by_cycle targets k cycle among met leads is)
    (settles notices free s settled broken is') = absurd (let e : after.broken ≡ Some 20 = rw leads refl in cc)
stabilizes_one F m after after' replies replies' needs whole same (by_height target i met deep named leads is)
    (by_cycle targets k cycle among met' leads' is') =
    absurd (number_apart 21 20 (λ e. omega (arith, e)) (sym (ap (λ (x : Moment). x.broken) leads) ∙ (same ∙ ap (λ (x : Moment). x.broken) leads')))
stabilizes_one F m after after' replies replies' needs whole same (by_height target i met deep named leads is)
    (by_height target' i' met' deep' named' leads' is') = both_break m after after' replies replies' 21 whole leads leads'
stabilizes_one F m after after' replies replies' needs whole same (by_height target i met deep named leads is)
    (settles notices free s settled broken is') = absurd (let e : after.broken ≡ Some 21 = rw leads refl in cc)
stabilizes_one F m after after' replies replies' needs whole same (settles notices free s settled broken is)
    (by_cycle targets k cycle among met leads is') = absurd (let e : after'.broken ≡ Some 20 = rw leads refl in cc)
stabilizes_one F m after after' replies replies' needs whole same (settles notices free s settled broken is)
    (by_height target i met deep named leads is') = absurd (let e : after'.broken ≡ Some 21 = rw leads refl in cc)
stabilizes_one F m after after' replies replies' needs whole same (settles notices free s settled broken is)
    (settles notices' free' s' settled' broken' is') =
    let ends = settle_one F m.settled m.present needs after.present after'.present notices notices' s s' in
    let said : Stable (m.present.accepted + 1) ∷ map (λ n. Tells n) notices ≡ Stable (m.present.accepted + 1) ∷ map (λ n. Tells n) notices' =
    ap (λ (ns : List Notice). Stable (m.present.accepted + 1) ∷ map (λ n. Tells n) ns) ends.1 in
    let presents : after.present ≡ after'.present = ends.0 in
    let all_settled : after.settled ≡ after'.settled = settled ∙ (presents ∙ sym settled') in
    let all_broken : after.broken ≡ after'.broken = same in
    record { one = rw (all_settled, presents, all_broken) refl; said = λ stays. is ∙ (said ∙ sym is') }

follow_one : (F : Meanings) (m after after' : Moment) (v : Verdict) (replies replies' : List Reply) → NeedsAll F m.settled m.present
    → (v ≡ Settle → m.broken ≡ None) → after.broken ≡ after'.broken
    → Follows F m v after replies → Follows F m v after' replies' → EndsOne m after after' replies replies'
follow_one F m after after' (Refuse why) replies replies' needs whole same h k = record { one = h.0 ∙ sym k.0; said = λ stays. h.1 ∙ sym k.1 }
follow_one F m after after' Settle replies replies' needs whole same h k = stabilizes_one F m after after' replies replies' needs (whole refl) same h k
follow_one F m after after' (Act c) replies replies' needs whole same h k = record { one = h.0 ∙ sym k.0; said = λ stays. h.1 ∙ sym k.1 }

answer_one : (F : Meanings) (m after after' : Moment) (r : Request) (replies replies' : List Reply) → NeedsAll F m.settled m.present
    → after.broken ≡ after'.broken → Answers F m r after replies → Answers F m r after' replies' → EndsOne m after after' replies replies'
answer_one F m after after' TooLong replies replies' needs same h k = record { one = h.0 ∙ sym k.0; said = λ stays. h.1 ∙ sym k.1 }
answer_one F m after after' Blank replies replies' needs same h k = record { one = h.0 ∙ sym k.0; said = λ stays. h.1 ∙ sym k.1 }
answer_one F m after after' Malformed replies replies' needs same h k = record { one = h.0 ∙ sym k.0; said = λ stays. h.1 ∙ sym k.1 }
answer_one F m after after' TooDeep replies replies' needs same h k = record { one = h.0 ∙ sym k.0; said = λ stays. h.1 ∙ sym k.1 }
answer_one F m after after' (Asks l) replies replies' needs same h k =
    follow_one F m after after' (verdict_of F m l) replies replies' needs (broken_first F m l m.broken refl) same h k

-- ---- runs

turns_one : (F : Meanings) (m : Moment) (t u : Turn) → t.before ≡ m → u.before ≡ m → t.line ≡ u.line → t.after.broken ≡ u.after.broken
    → NeedsWhatItMeets F t → IsTurn F t → IsTurn F u → EndsOne m t.after u.after t.replies u.replies
turns_one F m t u begins begins' line same needs h k =
    let asks : IsRequest u.line t.request = rw line at h.asks in
    let request = one_request u.line t.request u.request asks k.asks in
    let answers : Answers F m t.request t.after t.replies = subst (λ (x : Moment). Answers F x t.request t.after t.replies) begins h.answers in
    let answers' : Answers F m t.request u.after u.replies = subst (λ (r : Request). Answers F m r u.after u.replies) (sym request)
    (subst (λ (x : Moment). Answers F x u.request u.after u.replies) begins' k.answers) in
    let all : NeedsAll F m.settled m.present = subst (λ (x : Moment). NeedsAll F x.settled x.present) begins needs in
    answer_one F m t.after u.after t.request t.replies u.replies all same answers answers'

bytes_one : (t u : Turn) → t.after ≡ u.after → t.replies ≡ u.replies → bytes_of t ≡ bytes_of u
bytes_one t u ends said =
    ap (λ (x : Moment). flat_map (printed x.present) t.replies) ends ∙ ap (λ (rs : List Reply). flat_map (printed u.after.present) rs) said

chains_one : (F : Meanings) (m : Moment) (ts us : List Turn) (end end' : Moment) → broken_after ts ≡ broken_after us
    → Every (NeedsWhatItMeets F) ts → Chain F m ts end → Chain F m us end' → lines_read ts ≡ lines_read us
    → PrintAlike ts us × (end ≡ end')
chains_one F m [] [] end end' same needs h k lines = (tt, sym h ∙ k)
chains_one F m [] (u ∷ us) end end' same needs h k lines = absurd (cc)
chains_one F m (t ∷ ts) [] end end' same needs h k lines = absurd (cc)
chains_one F m (t ∷ ts) (u ∷ us) end end' same needs h k lines =
    let line : t.line ≡ u.line = cc in
    let later : lines_read ts ≡ lines_read us = cc in
    let broken : t.after.broken ≡ u.after.broken = cc in
    let later_broken : broken_after ts ≡ broken_after us = cc in
    let ends = turns_one F m t u h.0 k.0 line broken needs.0 h.1 k.1 in
    let rest = chains_one F t.after ts us end end' later_broken needs.1 h.2 (subst (λ (x : Moment). Chain F x us end') (sym ends.one) k.2) later in
    ((λ stays. bytes_one t u ends.one (ends.said (stays ∙ ap (λ (x : Moment). x.broken) h.0)), rest.0), rest.1)

pub one_course : OneCourse
one_course F lines ts us h k same needs = chains_one F first_moment ts us h.end k.end same needs h.chain k.chain (h.reads ∙ sym k.reads)
