-- How much is left to settle, by what states count.
use Rattle.std.proofs.Common.{◌≡◌, inl, inr, ℕ, ◌+◌, ◌*◌, ◌<◌, ◌≤◌, Bool, true, false, cond, ◌&&◌, List, [], ◌∷◌, length, Option, None, Some, refl, sym, ap, ◌∙◌, arith}
use Rattle.std.specs.Prelude.{is_some, not}
use Rattle.std.proofs.lemmas.Nat.{mul-le}
use Rattle.inc_value.specs.declared.node.NodeId.{NodeId}
use Rattle.inc_value.specs.declared.node.Part.TheVariants.{Main, Change}
use Rattle.inc_value.specs.declared.node.Point.{Point}
use Rattle.inc_terms.specs.Depend.{main, change}
use Rattle.inc_terms.specs.Graph.{Row}
use Rattle.point_map.specs.Rows.{at}
use Rattle.node_arena.specs.Arena.{Arena, row_at}
use Rattle.node_outcomes.specs.Computing.{has_part}
use Rattle.node_outcomes.specs.Row as row
use Rattle.node_outcomes.specs.Row.{settled_in, stage_in, stage_of}
use Rattle.stabilize_round.specs.Counts.{number_of}
use Rattle.stabilize_round.specs.Ended.{unsettled}
use Rattle.stabilize_round.specs.State.{State}
use Rattle.stabilize_round.specs.StepLaws as law
use Rattle.stabilize_round.specs.StepLaws.{Falls, loose, again}
use Rattle.wiring.specs.Deciding.{is_needed}
use Rattle.wiring.specs.Kept.{IsKept}
use Rattle.wiring.specs.Stands.{MatchesState, Counts}
use Rattle.stabilizer.specs.Stepping.{is_loose, is_again, is_unsettled, left_to_settle}
use Rattle.node_outcomes.specs.Progress.{Progress}
use Rattle.node_outcomes.specs.declared.row.Stage.{Stage}
use Rattle.node_outcomes.specs.declared.row.Stage.TheVariants as code
use Rattle.wiring.specs.declared.work.Work.{Work}
use Rattle.wiring.proofs.Deciding.{decides_needed}

-- ---- one number

digit_below : (a b x y k : ℕ) → a < b → x ≤ k → a * (k + 1) + x < b * (k + 1) + y
digit_below a b x y k less few = let m = mul-le (a + 1) (k + 1) b (k + 1) (omega (arith, less)) (omega arith) in omega (arith, m, few)

digit_after : (a b x y k : ℕ) → a ≤ b → x < y → a * (k + 1) + x < b * (k + 1) + y
digit_after a b x y k few less = let m = mul-le a (k + 1) b (k + 1) few (omega arith) in omega (arith, m, less)

digit_most : (a b x y k : ℕ) → a ≤ b → x ≤ y → a * (k + 1) + x ≤ b * (k + 1) + y
digit_most a b x y k few less = let m = mul-le a (k + 1) b (k + 1) few (omega arith) in omega (arith, m, less)

-- ---- numbers of a list

number_same : {A : Type 0} (f g : A → Bool) → ((x : A) → f x ≡ g x) → (xs : List A) → number_of f xs ≡ number_of g xs
number_same f g same [] = refl
number_same f g same (x ∷ xs) = let e = same x in let rest = number_same f g same xs in rw (e, rest) refl

one_at_most : (b : Bool) (k n : ℕ) → k ≤ n → cond b 1 0 + k ≤ 1 + n
one_at_most true k n h = omega (arith, h)
one_at_most false k n h = omega (arith, h)

pub number_few : {A : Type 0} (f : A → Bool) (xs : List A) → number_of f xs ≤ length xs
number_few f [] = omega arith
number_few f (x ∷ xs) = let k = one_at_most (f x) (number_of f xs) (length xs) (number_few f xs) in omega (arith, k)

-- ---- tests

not_as : (a b : Bool) → a ≡ b → not b ≡ cond a false true
not_as true true e = refl
not_as false false e = refl
not_as true false e = absurd (cc)
not_as false true e = absurd (cc)

same_test : (a b : Bool) → (a ≡ true → b ≡ true) → (b ≡ true → a ≡ true) → a ≡ b
same_test true true f g = refl
same_test false false f g = refl
same_test true false f g = absurd (let e = f refl in cc)
same_test false true f g = absurd (let e = g refl in cc)

full_as : (st : Stage) → law.is_full (stage_of st) ≡ row.is_full (Some st)
full_as code.Bare = refl
full_as code.Gated = refl
full_as code.Static = refl
full_as code.Full = refl

no_test : (a : Bool) (x y : Bool) → a ≡ false → (a && x) ≡ (a && y)
no_test false x y e = refl
no_test true x y e = absurd (cc)

module _ (arena : Arena) (work : Work) (counts : Counts) (s : State) (kept : IsKept arena work) (st : MatchesState arena work counts None s) where
  pub unsettled_as : (points : List Point) → number_of (is_unsettled work) points ≡ unsettled s.settled points
  unsettled_as points = number_same (is_unsettled work) (λ (p : Point). cond (s.settled p) false true)
      (λ p. not_as (s.settled p) (settled_in work.round (at work.rows p)) (st.settled p)) points

  pub again_as : (points : List Point) → number_of (is_again work) points ≡ again s points
  again_as points = number_same (is_again work) (λ (p : Point). s.settled p && s.heap p)
      (λ p. let a = st.settled p in let b = st.heap p in rw (a, b) refl) points

  needed_as : (p : Point) → s.needed p ≡ is_needed work.graph p
  needed_as p = let d = decides_needed work.graph kept.step p in
      same_test (s.needed p) (is_needed work.graph p) (λ t. d.1 ((st.needed p).0 t)) (λ t. (st.needed p).1 (d.0 t))

  -- a node whose main has no row is dead, and its change isn't settled
  no_change : (n : NodeId) (x : Option Row) → row_at arena n ≡ x → at work.rows (main n) ≡ None → settled_in work.round (at work.rows (change n)) ≡ false
  no_change n (Some r) live none = absurd (let k = kept.rows (main n) in let e = ap is_some none in
      let h : is_some (at work.rows (main n)) ≡ true = k ∙ ap (λ (x : Option Row). has_part x Main) live in
      cc)
  no_change n None dead none = by_row (at work.rows (change n)) (kept.rows (change n) ∙ ap (λ (x : Option Row). has_part x Change) dead)
    where
      by_row : (x : Option Progress) → is_some x ≡ false → settled_in work.round x ≡ false
      by_row None e = refl
      by_row (Some k) e = absurd (cc)

  loose_at : (n : NodeId) (x : Option Progress) → at work.rows (main n) ≡ x
      → (settled_in work.round (at work.rows (change n)) && not (is_needed work.graph (main n) && row.is_full (stage_in x))) ≡ law.is_loose s n
  loose_at n None e =
      let f = no_change n (row_at arena n) refl e in
      let a = st.settled (change n) in
      no_test (settled_in work.round (at work.rows (change n))) _ (cond (s.needed (main n) && law.is_full (s.stage (main n))) false true) f
      ∙ ap (λ (b : Bool). b && cond (s.needed (main n) && law.is_full (s.stage (main n))) false true) (sym a)
  loose_at n (Some k) e =
      let a = st.settled (change n) in
      let b = needed_as (main n) in
      let f : law.is_full (s.stage (main n)) ≡ row.is_full (Some k.stage) = ap law.is_full (st.stage (main n) k e) ∙ full_as k.stage in
      let n_is = not_as (s.needed (main n) && law.is_full (s.stage (main n))) (is_needed work.graph (main n) && row.is_full (Some k.stage)) (rw (b, f) refl) in
      ap (λ (x : Bool). settled_in work.round (at work.rows (change n)) && x) n_is
      ∙ ap (λ (x : Bool). x && cond (s.needed (main n) && law.is_full (s.stage (main n))) false true) (sym a)

  pub loose_as : (nodes : List NodeId) → number_of (is_loose work) nodes ≡ loose s nodes
  loose_as nodes = number_same (is_loose work) (law.is_loose s) (λ n. loose_at n (at work.rows (main n)) refl) nodes

-- ---- less is left

module _ (P N : ℕ) where
  abbrev all_in_one : ℕ → ℕ → ℕ → ℕ → ℕ
  all_in_one h u l a = ((h * (P + 1) + u) * (N + 1) + l) * (P + 1) + a

  less_first : (h h' u u' l l' a a' : ℕ) → h' < h → u' ≤ P → l' ≤ N → a' ≤ P → all_in_one h' u' l' a' < all_in_one h u l a
  less_first h h' u u' l l' a a' less one two three =
      digit_below _ _ a' a P (digit_below _ _ l' l N (digit_below h' h u' u P less one) two) three

  less_second : (h h' u u' l l' a a' : ℕ) → h' ≡ h → u' < u → l' ≤ N → a' ≤ P → all_in_one h' u' l' a' < all_in_one h u l a
  less_second h h' u u' l l' a a' same less two three =
      digit_below _ _ a' a P (digit_below _ _ l' l N (digit_after h' h u' u P (omega (arith, same)) less) two) three

  less_third : (h h' u u' l l' a a' : ℕ) → h' ≡ h → u' ≡ u → l' < l → a' ≤ P → all_in_one h' u' l' a' < all_in_one h u l a
  less_third h h' u u' l l' a a' same equal less three =
      digit_below _ _ a' a P (digit_after _ _ l' l N (digit_most h' h u' u P (omega (arith, same)) (omega (arith, equal))) less) three

  less_last : (h h' u u' l l' a a' : ℕ) → h' ≡ h → u' ≡ u → l' ≤ l → a' < a → all_in_one h' u' l' a' < all_in_one h u l a
  less_last h h' u u' l l' a a' same equal few less =
      digit_after _ _ a' a P (digit_most _ _ l' l N (digit_most h' h u' u P (omega (arith, same)) (omega (arith, equal))) few) less

module _ (arena arena' : Arena) (old new : Work) (counts counts' : Counts) (s t : State) (kept : IsKept arena old) (kept' : IsKept arena' new)
    (st : MatchesState arena old counts None s) (on : MatchesState arena' new counts' None t) (points : List Point) (nodes : List NodeId) where
  same_retries : t.retries ≡ s.retries → new.retries ≡ old.retries
  same_retries e = sym on.retries ∙ (e ∙ st.retries)

  u : number_of (is_unsettled old) points ≡ unsettled s.settled points
  u = unsettled_as arena old counts s kept st points

  u' : number_of (is_unsettled new) points ≡ unsettled t.settled points
  u' = unsettled_as arena' new counts' t kept' on points

  l : number_of (is_loose old) nodes ≡ loose s nodes
  l = loose_as arena old counts s kept st nodes

  l' : number_of (is_loose new) nodes ≡ loose t nodes
  l' = loose_as arena' new counts' t kept' on nodes

  a : number_of (is_again old) points ≡ again s points
  a = again_as arena old counts s kept st points

  a' : number_of (is_again new) points ≡ again t points
  a' = again_as arena' new counts' t kept' on points

  few_l : number_of (is_loose new) nodes ≤ length nodes
  few_l = number_few (is_loose new) nodes

  few_a : number_of (is_again new) points ≤ length points
  few_a = number_few (is_again new) points

  pub less_left : Falls s t points nodes → left_to_settle new points nodes < left_to_settle old points nodes
  less_left (inl fewer) =
      let f = on.retries in
      let g = st.retries in
      less_first (length points) (length nodes) old.retries new.retries _ _ _ _ _ _ (omega (arith, f, g, fewer))
      (number_few (is_unsettled new) points) few_l few_a
  less_left (inr (inl k)) =
      less_second (length points) (length nodes) old.retries new.retries _ _ _ _ _ _ (same_retries k.0)
      (let x = k.1 in let p = u in let q = u' in omega (arith, x, p, q)) few_l few_a
  less_left (inr (inr (inl k))) =
      less_third (length points) (length nodes) old.retries new.retries _ _ _ _ _ _ (same_retries k.0)
      (u' ∙ (k.1 ∙ sym u)) (let x = k.2 in let p = l in let q = l' in omega (arith, x, p, q)) few_a
  less_left (inr (inr (inr k))) =
      less_last (length points) (length nodes) old.retries new.retries _ _ _ _ _ _ (same_retries k.0)
      (u' ∙ (k.1 ∙ sym u)) (let x = k.2 in let p = l in let q = l' in omega (arith, x, p, q)) (let x = k.3 in let p = a in let q = a' in omega (arith, x, p, q))
