-- One that was killed is given, and those of its scope are killed.
use Rattle.std.proofs.Common.{◌≡◌, ◌≢◌, ◌∙◌, ◌⊎◌, ◌↔◌, ℕ, suc, ◌<◌, List, [], ◌∷◌, length, refl, ap, sym, subst, inl, inr, arith, slice_index_or, slice_set, Option}
use Rattle.std.proofs.lemmas.Bool.{cases_eq}
use Rattle.std.proofs.lemmas.List.{get_or-set_same, get_or-set_other, length-set}
use Rattle.inc_value.specs.Choice.{Among}
use Rattle.inc_value.specs.declared.node.NodeId.{NodeId}
use Rattle.index_lists.specs.Lists.{Lists, list_at, Has, IsThere, IsPopped}
use Rattle.scopes.specs.declared.member.Member.{Member}
use Rattle.scopes.specs.Scopes.{StandsIn, Empties, Gives, IsByNumber, Releases, member, standing_of, killed_of}
use Rattle.scopes.proofs.Dying.{view_of, stands_has, killed_has, lets_from, given_dying}

module _ (v w : Lists Member) (own : NodeId → Option ℕ) (name : ℕ → Option NodeId) (place : ℕ) (row : Member)
    (sound : IsByNumber v own name) (wide : 0 < length v.lists) (popped : IsPopped v w 0 place row)
    (vacant : IsThere w place → ⊥) where
  first : list_at w 0 ≡ popped.rest
  first = ap (λ l. slice_index_or l 0 []) popped.lists ∙ get_or-set_same v.lists 0 popped.rest [] wide

  later : (o : ℕ) → o ≢ 0 → list_at w o ≡ list_at v o
  later o d = ap (λ l. slice_index_or l o []) popped.lists ∙ get_or-set_other v.lists 0 o popped.rest [] d

  old_has : (o p : ℕ) (r : Member) → Has (list_at w o) p r → Has (list_at v o) p r
  old_has o p r h =
      elim (cases_eq o 0) [
        | inl same ↦
            let h' = subst (λ es. Has es p r) first (subst (λ n. Has (list_at w n) p r) same h) in
            subst (λ n. Has (list_at v n) p r) (sym same) (subst (λ es. Has es p r) (sym popped.was) (inr h'))
        | inr d ↦ subst (λ es. Has es p r) (later o d) h
      ]

  pub popped_sound : IsByNumber w own name
  popped_sound = record {
    named = sound.named;
    numbered = sound.numbered;
    wide = λ s j h.
        let l = sound.wide s j h in
        let n = ap length popped.lists in
        let m = length-set v.lists 0 popped.rest in omega (arith, l, n, m);
    placed = λ i p r h. sound.placed i p r (old_has (suc i) p r h);
    once = λ i j p q r s h g e. sound.once i j p q r s (old_has i p r h) (old_has j q s g) e;
  }

  head : Has (list_at v 0) place row
  head = subst (λ es. Has es place row) (sym popped.was) (inl (refl, refl))

  not_again : (o p : ℕ) (r : Member) → Has (list_at w o) p r → r.node ≢ row.node
  not_again o p r h e =
      let same = sound.once o 0 p place r row (old_has o p r h) head e in
      vacant (record { list = o; row = r; has = subst (λ n. Has (list_at w o) n r) same h })

  apart : Among row.node (view_of w).killed → ⊥
  apart h = let x = killed_has (list_at w 0) row.node h in not_again 0 x.0 x.1 x.2 x.3

  nowhere : (s : NodeId) → StandsIn (view_of w) row.node s → ⊥
  nowhere s h =
      let x = stands_has w.lists (member row.node s) h in
      not_again (suc x.0) x.1 (member row.node s) x.2 refl

  killed : (n : NodeId) → Among n (view_of v).killed ↔ ((n ≡ row.node) ⊎ Among n (view_of w).killed)
  killed n = (
    λ h. elim (subst (λ es. Among n (killed_of es)) popped.was h) [
      | inl a ↦ inl a
      | inr b ↦ inr (subst (λ es. Among n (killed_of es)) (sym first) b)
    ],
    λ h. subst (λ es. Among n (killed_of es)) (sym popped.was) (elim h [
      | inl a ↦ inl a
      | inr b ↦ inr (subst (λ es. Among n (killed_of es)) first b)
    ]),
  )

  stand : (view_of v).standing ≡ (view_of w).standing
  stand = go v.lists wide ∙ ap standing_of (sym popped.lists)
    where
      go : (ls : List (List (ℕ × Member))) → 0 < length ls → standing_of ls ≡ standing_of (slice_set ls 0 popped.rest)
      go [] lt = absurd (omega (arith, lt))
      go (l ∷ ls) lt = refl

  pub given : (u : Lists Member) → Releases w u row.node → Gives (view_of v) (view_of u) row.node
  given u r =
      given_dying (view_of w) (view_of u) row.node (lets_from w u row.node r) (view_of v) stand killed apart nowhere

  pub emptied : (u : Lists Member) → Releases w u row.node → Empties (view_of v) (view_of u) row.node
  emptied u r = λ n other.
      subst (λ l. StandsIn (view_of u) n other ↔ (Among (member n other) l × (other ≢ row.node))) (sym stand)
      ((lets_from w u row.node r).out n other)
