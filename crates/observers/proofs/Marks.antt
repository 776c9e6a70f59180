-- Places that are due, and their marks.
use Rattle.std.proofs.Common.{◌≡◌, ◌∙◌, ℕ, suc, zero, ◌+◌, ◌<◌, ◌≤◌, Bool, true, false, List, [], ◌∷◌, ◌++◌, length, refl, ap, sym, subst, inl, inr, arith, cond, Some, slice_index_or, slice_set}
use Rattle.std.specs.Prelude.{slice_get, replicate, take, ◌-◌}
use Rattle.inc_value.specs.Choice.{Among}
use Rattle.observers.specs.Keeping.{unmarked, IsMarked}
use Rattle.observers.proofs.Lists.{some_is, no_some, no_bool, among_left, among_right, among_last, get_set, set_length, push_length, within}

mark_one : (bs : List Bool) (i : ℕ) (b : Bool) → i < length bs → b ≡ slice_index_or bs i b → b ≡ false
    → unmarked (slice_set bs i true) + 1 ≡ unmarked bs
mark_one [] i b lt is e = absurd (omega (arith, lt))
mark_one (x ∷ bs) zero b lt is e = (let a : ◌≡◌ {A = ℕ} (cond x 0 1) 1 = ap (λ t. cond t 0 1) (sym is ∙ e) in omega (arith, a))
mark_one (x ∷ bs) (suc i) b lt is e = (let a = mark_one bs i b (omega (arith, lt)) is e in omega (arith, a))

least_one : (bs : List Bool) (i : ℕ) (b : Bool) → i < length bs → b ≡ slice_index_or bs i b → b ≡ false → 1 ≤ unmarked bs
least_one bs i b lt is e = (let a = mark_one bs i b lt is e in omega (arith, a))

-- there is room for a place that isn't marked
pub room_for : (places : List ℕ) (bs : List Bool) (i : ℕ) (b : Bool) → IsMarked places bs → i < length bs → b ≡ slice_index_or bs i b → b ≡ false
    → length places < length bs
room_for places bs i b h lt is e = (let a = least_one bs i b lt is e in let c = h.count in omega (arith, a, c))

-- one more is marked
pub marks : (places : List ℕ) (bs : List Bool) (i : ℕ) (b : Bool) → IsMarked places bs → i < length bs → b ≡ slice_index_or bs i b → b ≡ false
    → IsMarked (places ++ i ∷ []) (slice_set bs i true)
marks places bs i b h lt is e = record {
  listed = λ j there. elim (get_set bs i true j true there) [
    | inl same ↦ among_right j places (i ∷ []) (inl same.0)
    | inr was ↦ among_left j places (i ∷ []) (h.listed j was)
  ];
  count = (let a = mark_one bs i b lt is e in let c = h.count in let d = push_length places i in let f = set_length bs i true in omega (arith, a, c, d, f));
}

-- a place that is marked is among those that are due
pub marked_there : (places : List ℕ) (bs : List Bool) (i : ℕ) (b : Bool) → IsMarked places bs → i < length bs → b ≡ slice_index_or bs i b → b ≡ true → Among i places
marked_there places bs i b h lt is e = h.listed i (get_at bs i b lt is ∙ ap Some e)
  where
    get_at : (bs : List Bool) (i : ℕ) (b : Bool) → i < length bs → b ≡ slice_index_or bs i b → slice_get bs i ≡ Some b
    get_at [] i b lt is = absurd (omega (arith, lt))
    get_at (x ∷ bs) zero b lt is = ap Some (sym is)
    get_at (x ∷ bs) (suc i) b lt is = get_at bs i b (omega (arith, lt)) is

-- ---- the last is taken off

unmark_one : (bs : List Bool) (i : ℕ) → unmarked (slice_set bs i false) ≤ unmarked bs + 1
unmark_one [] i = omega arith
unmark_one (true ∷ bs) zero = omega arith
unmark_one (false ∷ bs) zero = omega arith
unmark_one (x ∷ bs) (suc i) = (let a = unmark_one bs i in omega (arith, a))

pub unmarks : (places : List ℕ) (bs : List Bool) (i : ℕ) → IsMarked (places ++ i ∷ []) bs → IsMarked places (slice_set bs i false)
unmarks places bs i h = record {
  listed = λ j there. elim (get_set bs i false j true there) [
    | inl same ↦ no_bool (sym same.1)
    | inr was ↦ elim (among_last j i places (h.listed j was)) [
      | inl a ↦ a
      | inr same ↦ absurd (not_now bs i j same there)
    ]
  ];
  count = (let a = unmark_one bs i in let c = h.count in let d = push_length places i in let f = set_length bs i false in omega (arith, a, c, d, f));
}
  where
    not_now : (bs : List Bool) (i j : ℕ) → j ≡ i → slice_get (slice_set bs i false) j ≡ Some true → ⊥
    not_now [] i j e there = no_some true there
    not_now (x ∷ bs) zero zero e there = no_bool (some_is false true there)
    not_now (x ∷ bs) zero (suc j) e there = omega (arith, e)
    not_now (x ∷ bs) (suc i) zero e there = omega (arith, e)
    not_now (x ∷ bs) (suc i) (suc j) e there = not_now bs i j (omega (arith, e)) there

pub unmarks_beyond : (places : List ℕ) (bs : List Bool) (i : ℕ) → IsMarked (places ++ i ∷ []) bs → length bs ≤ i → IsMarked places bs
unmarks_beyond places bs i h le = record {
  listed = λ j there. elim (among_last j i places (h.listed j there)) [
    | inl a ↦ a
    | inr same ↦ absurd (let w = within bs j true there in omega (arith, w, same, le))
  ];
  count = (let c = h.count in let d = push_length places i in omega (arith, c, d));
}

-- ---- more room

more_unmarked : (bs : List Bool) (n : ℕ) → unmarked (bs ++ replicate n false) ≡ unmarked bs + n
more_unmarked [] zero = refl
more_unmarked [] (suc n) = (let a = more_unmarked [] n in omega (arith, a))
more_unmarked (b ∷ bs) n = (let a = more_unmarked bs n in omega (arith, a))

more_length : (bs : List Bool) (n : ℕ) → length (bs ++ replicate n false) ≡ length bs + n
more_length [] zero = refl
more_length [] (suc n) = (let a = more_length [] n in omega (arith, a))
more_length (b ∷ bs) n = (let a = more_length bs n in omega (arith, a))

get_more : (bs : List Bool) (n i : ℕ) → slice_get (bs ++ replicate n false) i ≡ Some true → slice_get bs i ≡ Some true
get_more [] zero i h = h
get_more [] (suc n) zero h = no_bool (some_is false true h)
get_more [] (suc n) (suc i) h = get_more [] n i h
get_more (b ∷ bs) n zero h = h
get_more (b ∷ bs) n (suc i) h = get_more bs n i h

pub marks_more : (places : List ℕ) (bs : List Bool) (n : ℕ) → IsMarked places bs → IsMarked places (bs ++ replicate n false)
marks_more places bs n h = record {
  listed = λ i there. h.listed i (get_more bs n i there);
  count = (let a = more_unmarked bs n in let b = more_length bs n in let c = h.count in omega (arith, a, b, c));
}

pub take_all : {A : Type 0} (xs : List A) (n : ℕ) → length xs ≤ n → take n xs ≡ xs
take_all [] zero h = refl
take_all [] (suc n) h = refl
take_all (x ∷ xs) zero h = absurd (omega (arith, h))
take_all (x ∷ xs) (suc n) h = ap (λ ys. x ∷ ys) (take_all xs n (omega (arith, h)))

pub marks_resized : (b : Bool) (places : List ℕ) (bs new : List Bool) (n k : ℕ) → k ≡ length bs → k ≤ n → new ≡ cond b (take n bs ++ replicate (n - k) false) bs
    → IsMarked places bs → IsMarked places new
marks_resized true places bs new n k same le is h = subst (IsMarked places) (sym (is ∙ ap (λ l. l ++ replicate (n - k) false) (take_all bs n (omega (arith, same, le)))))
    (marks_more places bs (n - k) h)
marks_resized false places bs new n k same le is h = subst (IsMarked places) (sym is) h

pub resized_few : (b : Bool) (len n k : ℕ) → len ≡ cond b n k → k ≤ n → len ≤ n
resized_few true len n k is le = omega (arith, is)
resized_few false len n k is le = omega (arith, is, le)
