-- Who looks at a node, while the lists are gone through.
use Rattle.std.proofs.Common.{◌≡◌, ◌≢◌, ◌∙◌, ◌⊎◌, ℕ, false, List, ap, sym, subst, inl, inr, Option, Some, None}
use Rattle.std.specs.Prelude.{is_some, filter}
use Rattle.std.proofs.lemmas.Bool.{cases_eq}
use Rattle.inc_value.specs.Choice.{Among}
use Rattle.inc_value.specs.declared.node.NodeId.{NodeId}
use Rattle.inc_value.specs.declared.node.Point.{Point}
use Rattle.inc_terms.specs.Depend.{main}
use Rattle.point_map.specs.Rows.{Rows, at, Changes}
use Rattle.observers.specs.declared.observer.Observer.{Observer}
use Rattle.observers.specs.declared.looking.Looking.{Looking}
use Rattle.observers.specs.Keeping.{LooksAll, CoversNode, KeepsListed, listed_in, listed_at, is_used, used_in}
use Rattle.observers.proofs.Lists.{among_filter}

-- the same node, or another
pub cases_node : (a b : NodeId) → (a ≡ b) ⊎ (a ≢ b)
cases_node a b =
    elim (cases_eq a.slot b.slot) [
      | inl slot ↦ elim (cases_eq a.gen_ b.gen_) [
        | inl gen_ ↦ inl (ap (λ s. record { slot = s; gen_ = a.gen_ }) slot ∙ ap (λ g. record { slot = b.slot; gen_ = g }) gen_)
        | inr other ↦ inr (λ e. other (ap (λ (n : NodeId). n.gen_) e))
      ]
      | inr other ↦ inr (λ e. other (ap (λ (n : NodeId). n.slot) e))
    ]

pub none_listed : (l : Option Looking) (i : ℕ) → false ≡ is_some l → Among i (listed_in l) → ⊥
none_listed None i e a = a
none_listed (Some l) i e a = cc

module _ (made : List Observer) (old new : Rows Looking) (n : NodeId) (p : Point) (was now : Looking) (is : p ≡ main n) (had : at old p ≡ Some was)
    (written : Changes old new p (Some now)) (items : now.places.items ≡ filter (is_used made) was.places.items)
    (looks : LooksAll made old) where
  -- those in use stay listed where the node's others went
  pub kept_listed : CoversNode made n now.places.items
  kept_listed i o there used same =
      let q : main o.node ≡ p = ap main same ∙ sym is in
      let in_was = subst (λ l. Among i (listed_in l)) (ap (at old) q ∙ had) (looks i o there used) in
      subst (Among i) (sym items) (among_filter (is_used made) i was.places.items (ap used_in there ∙ used) in_was)

  pub looks_still : LooksAll made new
  looks_still i o there used = elim (cases_node o.node n) [
    | inl same ↦ subst (λ l. Among i (listed_in l)) (sym (ap (at new) (ap main same ∙ sym is) ∙ written.changed)) (kept_listed i o there used same)
    | inr other ↦
        let d : main o.node ≢ p = λ x. other (ap (λ (y : Point). y.node) (x ∙ is)) in
        subst (λ l. Among i (listed_in l)) (sym (written.others (main o.node) d)) (looks i o there used)
  ]

-- ---- one more is listed at a node

module _ (old new : Rows Looking) (n : NodeId) (p : Point) (was now : Looking) (is : p ≡ main n) (had : at old p ≡ Some was)
    (written : Changes old new p (Some now)) where
  pub keeps_more : ((i : ℕ) → Among i was.places.items → Among i now.places.items) → KeepsListed old new
  keeps_more more i m a = elim (cases_node m n) [
    | inl same ↦
        let q : main m ≡ p = ap main same ∙ sym is in
        subst (λ l. Among i (listed_in l)) (sym (ap (at new) q ∙ written.changed)) (more i (subst (λ l. Among i (listed_in l)) (ap (at old) q ∙ had) a))
    | inr other ↦
        let d : main m ≢ p = λ x. other (ap (λ (y : Point). y.node) (x ∙ is)) in
        subst (λ l. Among i (listed_in l)) (sym (written.others (main m) d)) a
  ]

  pub listed_now : (i : ℕ) → Among i now.places.items → Among i (listed_at new n)
  listed_now i a = subst (λ l. Among i (listed_in l)) (sym (ap (at new) (sym is) ∙ written.changed)) a
