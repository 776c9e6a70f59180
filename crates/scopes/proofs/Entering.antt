-- A node enters a scope.
use Rattle.std.proofs.Common.{◌≡◌, ◌≢◌, ◌∙◌, ◌⊎◌, ℕ, suc, zero, List, [], ◌∷◌, ◌++◌, length, refl, ap, sym, subst, inl, inr, arith, slice_index_or, slice_set, Option, Some}
use Rattle.std.proofs.lemmas.Bool.{cases_eq}
use Rattle.std.proofs.lemmas.List.{get_or-set_same, get_or-set_other, length-set}
use Rattle.inc_value.specs.Choice.{Among}
use Rattle.inc_value.specs.declared.node.NodeId.{NodeId}
use Rattle.index_lists.specs.Lists.{Lists, list_at, Has}
use Rattle.scopes.specs.declared.member.Member.{Member}
use Rattle.scopes.specs.Scopes.{IsApart, Enters, IsByNumber, KeepsStanding, member, standing_of, killed_of}
use Rattle.scopes.proofs.Dying.{view_of, stands_has, has_stands, has_killed}

has_on : (es : List (ℕ × Member)) (place p : ℕ) (a r : Member) → Has (es ++ (place, a) ∷ []) p r
    → ((place ≡ p) × (a ≡ r)) ⊎ Has es p r
has_on [] place p a r (inl h) = inl h
has_on [] place p a r (inr h) = absurd h
has_on (e ∷ es) place p a r (inl h) = inr (inl h)
has_on (e ∷ es) place p a r (inr h) = elim (has_on es place p a r h) [ inl x ↦ inl x | inr y ↦ inr (inr y) ]

on_has : (es : List (ℕ × Member)) (place p : ℕ) (a r : Member) → Has es p r → Has (es ++ (place, a) ∷ []) p r
on_has [] place p a r h = absurd h
on_has (e ∷ es) place p a r (inl h) = inl h
on_has (e ∷ es) place p a r (inr h) = inr (on_has es place p a r h)

on_last : (es : List (ℕ × Member)) (place : ℕ) (a : Member) → Has (es ++ (place, a) ∷ []) place a
on_last [] place a = inl (refl, refl)
on_last (e ∷ es) place a = inr (on_last es place a)

-- a row of the node, before it entered
apart_row : (v : Lists Member) (node : NodeId) → IsApart (view_of v) node
    → (o p : ℕ) (r : Member) → Has (list_at v o) p r → r.node ≢ node
apart_row v node apart zero p r h e = apart.live (has_killed (list_at v 0) node p r h e)
apart_row v node apart (suc o) p r h e =
    apart.out r.scope (subst (λ n. Among (member n r.scope) (standing_of v.lists)) e (has_stands v.lists o p r h))

-- the lists are seen as before
pub kept_view : (u v x : Lists Member) → v.lists ≡ u.lists → KeepsStanding v x → view_of x ≡ view_of u
kept_view u v x is keeps =
    let stand = keeps.standing ∙ ap standing_of is in
    let killed = ap killed_of (keeps.lists 0 ∙ ap (λ ls. slice_index_or ls 0 []) is) in
    ap (λ l. record { standing = l; killed = killed_of (list_at x 0) }) stand
    ∙ ap (λ l. record { standing = standing_of u.lists; killed = l }) killed

module _ (v w : Lists Member) (own : NodeId → Option ℕ) (name : ℕ → Option NodeId) (node scope : NodeId) (k place : ℕ)
    (sound : IsByNumber v own name) (is : own scope ≡ Some k) (apart : IsApart (view_of v) node)
    (pushed : w.lists ≡ slice_set v.lists (suc k) (list_at v (suc k) ++ (place, member node scope) ∷ [])) where
  abbrev put : List (ℕ × Member)
  put = list_at v (suc k) ++ (place, member node scope) ∷ []

  here : list_at w (suc k) ≡ put
  here = ap (λ l. slice_index_or l (suc k) []) pushed
      ∙ get_or-set_same v.lists (suc k) put [] (sound.wide scope k is)

  others : (o : ℕ) → o ≢ suc k → list_at w o ≡ list_at v o
  others o d = ap (λ l. slice_index_or l o []) pushed ∙ get_or-set_other v.lists (suc k) o put [] d

  back : (o p : ℕ) (r : Member) → Has (list_at w o) p r
      → ((o ≡ suc k) × (place ≡ p) × (member node scope ≡ r)) ⊎ Has (list_at v o) p r
  back o p r h =
      elim (cases_eq o (suc k)) [
        | inl same ↦
            let h' = subst (λ es. Has es p r) here (subst (λ n. Has (list_at w n) p r) same h) in
            elim (has_on (list_at v (suc k)) place p (member node scope) r h') [
              | inl x ↦ inl (same, x.0, x.1)
              | inr y ↦ inr (subst (λ n. Has (list_at v n) p r) (sym same) y)
            ]
        | inr d ↦ inr (subst (λ es. Has es p r) (others o d) h)
      ]

  fore : (o p : ℕ) (r : Member) → Has (list_at v o) p r → Has (list_at w o) p r
  fore o p r h =
      elim (cases_eq o (suc k)) [
        | inl same ↦
            let h' = subst (λ n. Has (list_at v n) p r) same h in
            subst (λ n. Has (list_at w n) p r) (sym same)
            (subst (λ es. Has es p r) (sym here) (on_has (list_at v (suc k)) place p (member node scope) r h'))
        | inr d ↦ subst (λ es. Has es p r) (sym (others o d)) h
      ]

  same_scope : (i : ℕ) (r : Member) → member node scope ≡ r → suc i ≡ suc k → own r.scope ≡ Some i
  same_scope i r e j = ap own (ap (λ s. s.scope) (sym e)) ∙ is ∙ ap Some (omega (arith, j))

  pub entered_sound : IsByNumber w own name
  entered_sound = record {
    named = sound.named;
    numbered = sound.numbered;
    wide = λ s j h.
        let l = sound.wide s j h in
        let n = ap length pushed in
        let m = length-set v.lists (suc k) put in omega (arith, l, n, m);
    placed = λ i p r h. elim (back (suc i) p r h) [
      | inl x ↦ same_scope i r x.2 x.0
      | inr y ↦ sound.placed i p r y
    ];
    once = λ i j p q r s h g e. elim (back i p r h) [
      | inl x ↦ elim (back j q s g) [
        | inl y ↦ sym x.1 ∙ y.1
        | inr y ↦ absurd (apart_row v node apart j q s y (sym e ∙ ap (λ t. t.node) (sym x.2)))
      ]
      | inr x ↦ elim (back j q s g) [
        | inl y ↦ absurd (apart_row v node apart i p r x (e ∙ ap (λ t. t.node) (sym y.2)))
        | inr y ↦ sound.once i j p q r s x y e
      ]
    ];
  }

  stands_now : Among (member node scope) (standing_of w.lists)
  stands_now =
      has_stands w.lists k place (member node scope)
      (subst (λ es. Has es place (member node scope)) (sym here)
      (on_last (list_at v (suc k)) place (member node scope)))

  pub entered : Enters (view_of v) (view_of w) node scope
  entered = record {
    here = λ n s. (
      λ h.
          let x = stands_has w.lists (member n s) h in
          elim (back (suc x.0) x.1 (member n s) x.2) [
            | inl y ↦ inl (sym (ap (λ t. t.node) y.2), sym (ap (λ t. t.scope) y.2))
            | inr y ↦ inr (has_stands v.lists x.0 x.1 (member n s) y)
          ],
      λ h. elim h [
        | inl x ↦ subst (λ m. Among m (standing_of w.lists))
            (ap (λ m. member m scope) (sym x.0) ∙ ap (member n) (sym x.1)) stands_now
        | inr y ↦
            let x = stands_has v.lists (member n s) y in
            has_stands w.lists x.0 x.1 (member n s) (fore (suc x.0) x.1 (member n s) x.2)
      ],
    );
    killed = ap killed_of (others 0 (λ e. omega (arith, e)));
  }
