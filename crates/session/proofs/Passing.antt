-- The declarations that a walk over points passes, told one after the other.
use Rattle.std.proofs.Common.{◌≡◌, inl, inr, ℕ, zero, suc, ◌+◌, ◌-◌, ◌<◌, ◌≤◌, arith, List, [], ◌∷◌, ◌++◌, length, Option, None, Some, drop, append-nil, refl, ap, sym, subst, ◌∙◌, slice_get, slice_index_or}
use Rattle.std.proofs.lemmas.Grind.{flat_map-append}
use Rattle.std.proofs.lemmas.List.{append_assoc}
use Rattle.std.specs.List.{flat_map}
use Rattle.std.specs.Prelude.{codes, if◌then◌else◌, is_ok, Result, Ok, Err, OnOk}
use Rattle.graph.specs.Standing.{GraphView}
use Rattle.wiring.specs.declared.refused.Refused.{Refused}
use Rattle.wiring.specs.declared.refused.Refused.TheVariants.{Cycle}
use Rattle.script_graph.specs.Kept.{without_functions}
use Rattle.inc_value.specs.declared.node.NodeId.{NodeId}
use Rattle.inc_value.specs.declared.node.Point.{Point}
use Rattle.script_model.specs.Check.{Declared}
use Rattle.script_graph.specs.Stabilizing.{CyclePasses, IsPassed, PassesAll, PassesFrom, PassesMet, closed}
use Rattle.session.specs.Naming.{closing_name, either_of}
use Rattle.session.specs.Replies.{cycle_line, line_of, named_of}

-- ---- lists from a place on

drop_at : {A : Type 0} (xs : List A) (i : ℕ) (x : A) → slice_get xs i ≡ Some x → drop i xs ≡ x ∷ drop (suc i) xs
drop_at [] i x at = absurd (cc)
drop_at (y ∷ xs) zero x at = let same : y ≡ x = cc in ap (λ z. z ∷ xs) same
drop_at (y ∷ xs) (suc i) x at = drop_at xs i x at

-- what stands at an index is had there
pub index_get : {A : Type 0} (xs : List A) (i : ℕ) (d : A) → i < length xs → slice_get xs i ≡ Some (slice_index_or xs i d)
index_get [] i d low = absurd (omega (arith, low))
index_get (x ∷ xs) zero d low = refl
index_get (x ∷ xs) (suc i) d low = index_get xs i d (omega (arith, low))

module _ {A : Type 0} (g : GraphView A) (declared : List Declared) (nodes : List NodeId) where
  -- a walk of one point at most passes none
  short : (points : List Point) (i : ℕ) → length points ≤ suc i → PassesAll g declared nodes (drop i points) []
  short [] zero few = refl
  short [] (suc i) few = refl
  short (p ∷ []) zero few = refl
  short (p ∷ q ∷ points) zero few = absurd (omega (arith, few))
  short (p ∷ points) (suc i) few = short points i (omega (arith, few))

  module _ (names : ℕ → List ℕ) (points : List Point) (written : List ℕ) where
    -- on the way to the point at a place these declarations were passed, and named behind what was written
    pub record AreTold (i : ℕ) (line : List ℕ) (first : Option ℕ) : Type 0 where
      pub targets : List ℕ
      pub from : 1 ≤ i
      pub named : line ≡ written ++ flat_map (named_of names) targets
      pub is_first : first ≡ slice_get targets 0
      pub passed : (more : List ℕ) → PassesAll g declared nodes (drop (i - 1) points) more → PassesAll g declared nodes points (targets ++ more)

    module _ (i : ℕ) (before point : Point) (at_before : slice_get points (i - 1) ≡ Some before) (at_point : slice_get points i ≡ Some point)
        (line : List ℕ) (first : Option ℕ) (told : AreTold i line first) where
      tail : drop i points ≡ point ∷ drop (suc i) points
      tail = drop_at points i point at_point

      whole : drop (i - 1) points ≡ before ∷ (point ∷ drop (suc i) points)
      whole =
          let from = told.from in
          let next : suc (i - 1) ≡ i = omega (arith, from) in
          drop_at points (i - 1) before at_before ∙ ap (λ (k : ℕ). before ∷ drop k points) next ∙ ap (λ (ps : List Point). before ∷ ps) tail

      behind : (more : List ℕ) → PassesAll g declared nodes (drop ((i + 1) - 1) points) more → PassesAll g declared nodes (point ∷ drop (suc i) points) more
      behind more passes =
          let here : (i + 1) - 1 ≡ i = omega arith in
          subst (λ (ps : List Point). PassesAll g declared nodes ps more) (ap (λ (k : ℕ). drop k points) here ∙ tail) passes

      -- the next point passes a declaration, which is named
      pub one_told : (n : ℕ) → IsPassed g declared nodes before point n → AreTold (i + 1) (line ++ named_of names n) (either_of first n)
      one_told n is = record {
        targets = told.targets ++ n ∷ [];
        from = omega arith;
        named = ap (λ (l : List ℕ). l ++ named_of names n) told.named
            ∙ (append_assoc written (flat_map (named_of names) told.targets) (named_of names n)
            ∙ ap (λ (l : List ℕ). written ++ l) (sym (flat_map-append (named_of names) told.targets (n ∷ [])
            ∙ ap (λ (l : List ℕ). flat_map (named_of names) told.targets ++ l) (append-nil (named_of names n)))));
        is_first = ap (λ (f : Option ℕ). either_of f n) told.is_first ∙ first_more told.targets;
        passed = λ more passes. subst (PassesAll g declared nodes points) (sym (append_assoc told.targets (n ∷ []) more))
            (told.passed (n ∷ more) (subst (λ (ps : List Point). PassesAll g declared nodes ps (n ∷ more)) (sym whole)
            (inr (n, more, refl, is, behind more passes))));
      }
        where
          first_more : (targets : List ℕ) → either_of (slice_get targets 0) n ≡ slice_get (targets ++ n ∷ []) 0
          first_more [] = refl
          first_more (m ∷ targets) = refl

      -- it passes none
      pub other_told : ((n : ℕ) → IsPassed g declared nodes before point n → ⊥) → AreTold (i + 1) line first
      other_told none = record {
        targets = told.targets;
        from = omega arith;
        named = told.named;
        is_first = told.is_first;
        passed = λ more passes. told.passed more (subst (λ (ps : List Point). PassesAll g declared nodes ps more) (sym whole)
            (inl (none, behind more passes)));
      }

    -- at the end the whole walk passes these
    pub all_told : (i : ℕ) (line : List ℕ) (first : Option ℕ) → length points ≤ i → AreTold i line first
        → (targets : List ℕ) × PassesAll g declared nodes points targets × (first ≡ slice_get targets 0)
        × (line ≡ written ++ flat_map (named_of names) targets)
    all_told i line first past told = (
      told.targets,
      subst (PassesAll g declared nodes points) (append-nil told.targets)
          (told.passed [] (short points (i - 1) (let from = told.from in omega (arith, from, past)))),
      told.is_first,
      told.named,
    )

-- ---- the cycle

module _ {A : Type 0} (g : GraphView A) (declared : List Declared) (nodes : List NodeId) where
  -- what is passed doesn't depend on the functions
  from_without : (p : Point) (points : List Point) (targets : List ℕ) → PassesFrom g declared nodes p points targets
      → PassesFrom (without_functions g) declared nodes p points targets
  from_without p [] targets passes = passes
  from_without p (q ∷ points) targets (inl (none, passes)) = inl (none, from_without q points targets passes)
  from_without p (q ∷ points) targets (inr (n, more, is, passed, passes)) = inr (n, more, is, passed, from_without q points more passes)

  without : (points : List Point) (targets : List ℕ) → PassesAll g declared nodes points targets → PassesAll (without_functions g) declared nodes points targets
  without [] targets passes = passes
  without (p ∷ points) targets passes = from_without p points targets passes

-- what the points of the cycle that was met pass, that cycle passes
pub cycle_told : {A : Type 0} (g : GraphView A) (declared : List Declared) (nodes : List NodeId) (points : _) (items : List Point) (targets : List ℕ)
    → g.refused ≡ Some (Cycle points) → items ≡ points.items → PassesAll g declared nodes items targets
    → CyclePasses (without_functions g) declared nodes targets
cycle_told g declared nodes points items targets met same_items passes =
    let here : PassesAll g declared nodes points.items targets =
    subst (λ (ps : List Point). PassesAll g declared nodes ps targets) same_items passes in
    subst (λ (r : Option Refused). PassesMet (without_functions g) declared nodes r targets) (sym met) (without g declared nodes points.items targets here)

-- ---- the line

-- what was appended is there where nothing failed
pub where_ok : {T E P : Type 0} (r : Result T E) (new old more : List ℕ) → new ≡ (if is_ok r then old ++ more else old) → (new ≡ old ++ more → P) → OnOk r P
where_ok (Ok x) new old more is so = so is
where_ok (Err e) new old more is so = tt

-- the first is named once more behind all of them
closed_names : (names : ℕ → List ℕ) (targets : List ℕ) (first : Option ℕ) → first ≡ slice_get targets 0
    → flat_map (named_of names) targets ++ closing_name names first ≡ flat_map (named_of names) (closed targets)
closed_names names [] None is = refl
closed_names names [] (Some n) is = absurd (cc)
closed_names names (m ∷ targets) None is = absurd (cc)
closed_names names (m ∷ targets) (Some n) is =
    let same : n ≡ m = cc in
    ap (λ (k : ℕ). flat_map (named_of names) (m ∷ targets) ++ named_of names k) same
    ∙ sym (flat_map-append (named_of names) (m ∷ targets) (m ∷ [])
    ∙ ap (λ (l : List ℕ). flat_map (named_of names) (m ∷ targets) ++ l) (append-nil (named_of names m)))

-- so the line that names them and the first once more is the cycle's
pub told_line : (names : ℕ → List ℕ) (targets : List ℕ) (first : Option ℕ) (line : List ℕ) → first ≡ slice_get targets 0
    → line ≡ codes "refused 20 cycle" ++ flat_map (named_of names) targets
    → (line ++ closing_name names first) ++ 10 ∷ [] ≡ cycle_line names (closed targets)
told_line names targets first line is named =
    ap line_of (ap (λ (l : List ℕ). l ++ closing_name names first) named
    ∙ (append_assoc (codes "refused 20 cycle") (flat_map (named_of names) targets) (closing_name names first)
    ∙ ap (λ (l : List ℕ). codes "refused 20 cycle" ++ l) (closed_names names targets first is)))
