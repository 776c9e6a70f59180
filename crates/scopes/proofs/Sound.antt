-- The scopes' numbers and lists, through each change.
use Rattle.std.proofs.Common.{◌≡◌, ◌≢◌, ◌∙◌, ◌⊎◌, ℕ, suc, zero, ◌<◌, ◌≤◌, List, [], ◌∷◌, ◌++◌, length, refl, ap, sym, subst, inl, inr, arith, slice_index_or, replicate, Option, Some, None}
use Rattle.std.specs.Prelude.{flat_map}
use Rattle.std.proofs.lemmas.Bool.{cases_eq}
use Rattle.inc_value.specs.declared.node.NodeId.{NodeId}
use Rattle.index_lists.specs.Lists.{Lists, list_at, Has}
use Rattle.scopes.specs.declared.member.Member.{Member}
use Rattle.scopes.specs.Scopes.{Moved, IsByNumber, KeepsStanding, Releases, rows, standing_of}

pub some_same : {A : Type 0} (a b : A) → ◌≡◌ {A = Option A} (Some a) (Some b) → a ≡ b
some_same a b h = ap (λ o. elim o [ None ↦ a | Some x ↦ x ]) h

pub not_some : {A : Type 0} (a : A) → ◌≡◌ {A = Option A} None (Some a) → ⊥
not_some a h = cc

-- the same node, or another
pub cases_node : (a b : NodeId) → (a ≡ b) ⊎ (a ≢ b)
cases_node a b =
    elim (cases_eq a.slot b.slot) [
      | inl slot ↦ elim (cases_eq a.gen_ b.gen_) [
        | inl gen_ ↦ inl (ap (λ s. record { slot = s; gen_ = a.gen_ }) slot
            ∙ ap (λ g. record { slot = b.slot; gen_ = g }) gen_)
        | inr other ↦ inr (λ e. other (ap (λ n. n.gen_) e))
      ]
      | inr other ↦ inr (λ e. other (ap (λ n. n.slot) e))
    ]

has_either : (xs ys : List (ℕ × Member)) (p : ℕ) (r : Member) → Has (xs ++ ys) p r → Has xs p r ⊎ Has ys p r
has_either [] ys p r h = inr h
has_either (x ∷ xs) ys p r (inl h) = inl (inl h)
has_either (x ∷ xs) ys p r (inr h) = elim (has_either xs ys p r h) [ inl a ↦ inl (inr a) | inr b ↦ inr b ]

has_first : (xs ys : List (ℕ × Member)) (p : ℕ) (r : Member) → Has xs p r → Has (xs ++ ys) p r
has_first [] ys p r h = absurd h
has_first (x ∷ xs) ys p r (inl h) = inl h
has_first (x ∷ xs) ys p r (inr h) = inr (has_first xs ys p r h)

has_second : (xs ys : List (ℕ × Member)) (p : ℕ) (r : Member) → Has ys p r → Has (xs ++ ys) p r
has_second [] ys p r h = h
has_second (x ∷ xs) ys p r h = inr (has_second xs ys p r h)

pub has_none : (v : Lists Member) (o p : ℕ) (r : Member) → list_at v o ≡ [] → Has (list_at v o) p r → ⊥
has_none v o p r none h = subst (λ es. Has es p r) none h

-- a scope with a number is let go
module _ (v w : Lists Member) (own own' : NodeId → Option ℕ) (name name' : ℕ → Option NodeId) (scope : NodeId) (k : ℕ)
    (sound : IsByNumber v own name)
    (is : own scope ≡ Some k) (moved : Moved v w (suc k)) (off : own' scope ≡ None)
    (own_others : (s : NodeId) → s ≢ scope → own' s ≡ own s)
    (name_others : (j : ℕ) → j ≢ k → name' j ≡ name j) (name_off : name' k ≡ None) where
  back : (o p : ℕ) (r : Member) → Has (list_at w o) p r → (i : ℕ) × Has (list_at v i) p r
  back o p r h =
      elim (cases_eq o 0) [
        | inl zero_o ↦
            let h' = subst (λ es. Has es p r) moved.killed (subst (λ n. Has (list_at w n) p r) zero_o h) in
            elim (has_either (list_at v 0) (list_at v (suc k)) p r h') [
              | inl a ↦ (0, a)
              | inr b ↦ (suc k, b)
            ]
        | inr some_o ↦ elim (cases_eq o (suc k)) [
          | inl mine ↦ absurd (has_none w (suc k) p r moved.gone (subst (λ n. Has (list_at w n) p r) mine h))
          | inr other ↦ (o, subst (λ es. Has es p r) (moved.others o some_o other) h)
        ]
      ]

  others : (j : ℕ) → j ≢ k → list_at w (suc j) ≡ list_at v (suc j)
  others j differs = moved.others (suc j) (λ e. omega (arith, e)) (λ e. differs (omega (arith, e)))

  mine : (s : NodeId) → own s ≡ Some k → s ≡ scope
  mine s h = some_same s scope (sym (sound.named s k h) ∙ sound.named scope k is)

  out_to : (j p : ℕ) (r : Member) → Has (list_at w (suc j)) p r → (j ≢ k) × Has (list_at v (suc j)) p r
  out_to j p r h =
      let differs : j ≢ k = λ e. has_none w (suc k) p r moved.gone (subst (λ n. Has (list_at w (suc n)) p r) e h) in
      (differs, subst (λ es. Has es p r) (others j differs) h)

  pub released_sound : IsByNumber w own' name'
  released_sound = record {
    numbered = λ s j h. elim (cases_eq j k) [
      | inl same ↦ absurd (not_some s (sym name_off ∙ ap name' (sym same) ∙ h))
      | inr differs ↦
          let old = sound.numbered s j (sym (name_others j differs) ∙ h) in
          own_others s (λ e. differs (some_same j k (sym old ∙ ap own e ∙ is))) ∙ old
    ];
    named = λ s j h. elim (cases_node s scope) [
      | inl same ↦ absurd (not_some j (sym off ∙ ap own' (sym same) ∙ h))
      | inr other ↦
          let old = sym (own_others s other) ∙ h in
          name_others j (λ e. other (mine s (old ∙ ap Some e))) ∙ sound.named s j old
    ];
    wide = λ s j h. elim (cases_node s scope) [
      | inl same ↦ absurd (not_some j (sym off ∙ ap own' (sym same) ∙ h))
      | inr other ↦ subst (λ n. suc j < n) (sym moved.width) (sound.wide s j (sym (own_others s other) ∙ h))
    ];
    placed = λ j p r h.
        let o = out_to j p r h in
        let old = sound.placed j p r o.1 in
        own_others r.scope (λ e. o.0 (some_same j k (sym old ∙ ap own e ∙ is))) ∙ old;
    once = λ i j p q r s h g e.
        let a = back i p r h in let b = back j q s g in sound.once a.0 b.0 p q r s a.1 b.1 e;
  }

  pub released : Releases v w scope
  released = record {
    out = λ j p r. (
      λ h. (let o = out_to j p r h in (o.1, λ e. o.0 (some_same j k (sym (sound.placed j p r o.1) ∙ ap own e ∙ is)))),
      λ h.
          let differs : j ≢ k = λ e. h.1 (mine r.scope (sound.placed j p r h.0 ∙ ap Some e)) in
          subst (λ es. Has es p r) (sym (others j differs)) h.0,
    );
    killed = λ p r. (
      λ h. elim (has_either (list_at v 0) (list_at v (suc k)) p r (subst (λ es. Has es p r) moved.killed h)) [
        | inl a ↦ inl a
        | inr b ↦ inr (k, b, mine r.scope (sound.placed k p r b))
      ],
      λ h. subst (λ es. Has es p r) (sym moved.killed) (elim h [
        | inl a ↦ has_first (list_at v 0) (list_at v (suc k)) p r a
        | inr b ↦
            let same : b.0 ≡ k = some_same b.0 k (sym (sound.placed b.0 p r b.1) ∙ ap own b.2 ∙ is) in
            has_second (list_at v 0) (list_at v (suc k)) p r (subst (λ n. Has (list_at v (suc n)) p r) same b.1)
      ]),
    );
  }

-- more lists, all empty
wide_at : (lists : List (List (ℕ × Member))) (n o : ℕ) → slice_index_or
    (lists ++ replicate n []) o [] ≡ slice_index_or lists o []
wide_at [] n o = nothing_there n o
  where
    nothing_there : (m i : ℕ) → ◌≡◌ {A = List (ℕ × Member)} (slice_index_or (replicate m []) i []) []
    nothing_there zero i = refl
    nothing_there (suc m) zero = refl
    nothing_there (suc m) (suc i) = nothing_there m i
wide_at (l ∷ lists) n zero = refl
wide_at (l ∷ lists) n (suc o) = wide_at lists n o

wide_flat : (lists : List (List (ℕ × Member))) (n : ℕ) → flat_map rows (lists ++ replicate n []) ≡ flat_map rows lists
wide_flat [] zero = refl
wide_flat [] (suc n) = wide_flat [] n
wide_flat (l ∷ lists) n = ap (λ x. rows l ++ x) (wide_flat lists n)

wide_standing : (lists : List (List (ℕ × Member))) (n : ℕ) → standing_of (lists ++ replicate n []) ≡ standing_of lists
wide_standing [] zero = refl
wide_standing [] (suc n) = wide_flat [] n
wide_standing (l ∷ lists) n = wide_flat lists n

pub wide_keeps : (v w : Lists Member) (n : ℕ) → w.lists ≡ v.lists ++ replicate n [] → KeepsStanding v w
wide_keeps v w n is = record {
  lists = λ o. ap (λ ls. slice_index_or ls o []) is ∙ wide_at v.lists n o;
  standing = ap standing_of is ∙ wide_standing v.lists n;
}

-- the lists stay, but for more that are empty, and perhaps a scope has a new number
module _ (v w : Lists Member) (own own' : NodeId → Option ℕ) (name name' : ℕ → Option NodeId)
    (same : (o : ℕ) → list_at w o ≡ list_at v o)
    (more : length v.lists ≤ length w.lists) (sound : IsByNumber v own name) where
  same_has : (o p : ℕ) (r : Member) → Has (list_at w o) p r → Has (list_at v o) p r
  same_has o p r h = subst (λ es. Has es p r) (same o) h

  pub numbered_sound : (scope : NodeId) (k : ℕ) → own scope ≡ None → name k ≡ None → own' scope ≡ Some k
      → name' k ≡ Some scope
      → ((s : NodeId) → s ≢ scope → own' s ≡ own s) → ((j : ℕ) → j ≢ k → name' j ≡ name j) → suc k < length w.lists
      → IsByNumber w own' name'
  numbered_sound scope k none vacant now_is name_is owns names wide = record {
    numbered = λ s j h. elim (cases_eq j k) [
      | inl same ↦
          let s_is : s ≡ scope = some_same s scope (sym h ∙ ap name' same ∙ name_is) in
          ap own' s_is ∙ now_is ∙ ap Some (sym same)
      | inr differs ↦
          let old = sound.numbered s j (sym (names j differs) ∙ h) in
          owns s (λ e. not_some j (sym none ∙ ap own (sym e) ∙ old)) ∙ old
    ];
    named = λ s j h. elim (cases_node s scope) [
      | inl e ↦
          let j_is : j ≡ k = some_same j k (sym h ∙ ap own' e ∙ now_is) in ap name' j_is ∙ name_is ∙ ap Some (sym e)
      | inr other ↦
          let old = sym (owns s other) ∙ h in
          names j (λ e. not_some s (sym vacant ∙ ap name (sym e) ∙ sound.named s j old)) ∙ sound.named s j old
    ];
    wide = λ s j h. elim (cases_node s scope) [
      | inl e ↦ subst (λ n. suc n < length w.lists) (sym (some_same j k (sym h ∙ ap own' e ∙ now_is))) wide
      | inr other ↦ (let l = sound.wide s j (sym (owns s other) ∙ h) in omega (arith, l, more))
    ];
    placed = λ j p r h.
        let old = sound.placed j p r (same_has (suc j) p r h) in
        owns r.scope (λ e. not_some j (sym none ∙ ap own (sym e) ∙ old)) ∙ old;
    once = λ i j p q r s h g e. sound.once i j p q r s (same_has i p r h) (same_has j q s g) e;
  }
