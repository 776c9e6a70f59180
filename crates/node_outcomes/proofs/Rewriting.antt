-- A row that is written through a reference is changed, and all others stay.
use Rattle.std.proofs.Common.{◌≡◌, inl, inr, Some, sym, ap, subst, ◌∙◌}
use Rattle.std.proofs.Math.Path.{fun_ext}
use Rattle.std.specs.Prelude.{option_map}
use Rattle.inc_value.specs.declared.node.Point.{Point}
use Rattle.inc_terms.specs.Depend.{main}
use Rattle.point_map.specs.Rows.{Rows, KeepsRows, at, Changes}
use Rattle.stabilize_round.specs.State.{Call}
use Rattle.stabilize_round.proofs.Points.{same_or_other}
use Rattle.node_outcomes.specs.Computing.{value_shown}
use Rattle.node_outcomes.specs.LastCall.{Last}
use Rattle.node_outcomes.specs.Row.{IsRewritten, value_in, with_call, with_lent, with_none}
use Rattle.node_outcomes.specs.Progress.{Progress}

pub rewritten : (old new : Rows Progress) (p : Point) (change : Progress → Progress) (k : Progress) → at old p ≡ Some k → Changes old new p (Some (change k))
    → IsRewritten old new p change
rewritten old new p change k was w = record {
  changed = w.changed ∙ sym (ap (option_map change) was);
  others = w.others;
}

-- a row whose last call was lent, and that got another in its place
module _ (old mid new : Rows Progress) (p : Point) (k : Progress) (was : at old p ≡ Some k) (lent : IsRewritten old mid p with_none) where
  -- points show what they showed
  shown_same : (q : Point) → value_in (at mid q) ≡ value_in (at old q)
  shown_same q = elim (same_or_other p q) [
    | inl same ↦ subst (λ (x : Point). value_in (at mid x) ≡ value_in (at old x)) same
        (ap value_in (lent.changed ∙ ap (option_map with_none) was) ∙ sym (ap value_in was))
    | inr ne ↦ ap value_in (lent.others q (λ h. ne (sym h)))
  ]

  pub lent_shown : value_shown mid ≡ value_shown old
  lent_shown = fun_ext (λ n. shown_same (main n))

  module _ (l : Last) (given : IsRewritten mid new p (with_lent l)) where
    now : at new p ≡ Some (with_lent l (with_none k))
    now = given.changed ∙ ap (option_map (with_lent l)) (lent.changed ∙ ap (option_map with_none) was)

    pub called_row : (c : Call) → l ≡ record { call = Some c; room = k.room } → IsRewritten old new p (with_call c)
    called_row c is = record {
      changed = now ∙ (ap (λ (x : Last). Some (with_lent x (with_none k))) is ∙ sym (ap (option_map (with_call c)) was));
      others = λ q ne. given.others q ne ∙ lent.others q ne;
    }

    pub uncalled_row : l ≡ record { call = k.last; room = k.room } → KeepsRows old new
    uncalled_row is q = elim (same_or_other p q) [
      | inl same ↦ subst (λ (x : Point). at new x ≡ at old x) same (now ∙ (ap (λ (x : Last). Some (with_lent x (with_none k))) is ∙ sym was))
      | inr ne ↦ given.others q (λ h. ne (sym h)) ∙ lent.others q (λ h. ne (sym h))
    ]
