-- The places of timers by key.
use Rattle.std.proofs.Common.{◌≡◌, ◌∙◌, ℕ, ap, sym, cond, nat_eq, inl, inr, Option}
use Rattle.std.proofs.lemmas.Bool.{cases_eq, ne_eqb, eq-eqb}
use Rattle.inc_value.specs.declared.node.Point.{Point}
use Rattle.point_map.specs.Rows.{Rows, at, Changes}
use Rattle.timing_wheel.specs.Places.{key_point, place_of}

-- one key's place changes
pub finds_kept : (old new : Rows ℕ) (key : ℕ) (p : Point) (o : Option ℕ) → p ≡ key_point key → Changes old new p o
    → (q : ℕ) → place_of new q ≡ cond (nat_eq key q) o (place_of old q)
finds_kept old new key p o is c q =
    elim (cases_eq key q) [
      | inl same ↦ ap (at new) (ap key_point (sym same) ∙ sym is) ∙ c.changed ∙ sym (ap (λ t. cond t o (place_of old q)) (eq-eqb key q same))
      | inr differs ↦ c.others (key_point q) (λ e. differs (sym (ap (λ x. x.node.slot) (e ∙ is))))
          ∙ sym (ap (λ t. cond t o (place_of old q)) (ne_eqb key q differs))
    ]
