-- What steps leave of a keeper's functions, which builds count.
use Rattle.std.proofs.Common.{◌≡◌, ◌⊎◌, inl, ℕ, Result, Ok, Err, refl, sym, ap, subst, ◌∙◌}
use Rattle.std.specs.Result.{IsErrAnd}
use Rattle.inc_value.specs.Counts.{raised}
use Rattle.std.proofs.Math.Path.{fun_ext}
use Rattle.node_arena.proofs.SameMeanings.{same_itself, same_on}
use Rattle.node_arena.specs.Arena.{Arena, row_at}
use Rattle.node_arena.specs.declared.functions.Functions.{Ghosts}
use Rattle.node_arena.specs.RightSide.{Tally}
use Rattle.node_outcomes.specs.Meaning.{meaning_of, KeepsFunctions}
use Rattle.wiring.specs.declared.refused.Refused.{Refused}
use Rattle.wiring.specs.declared.refused.Refused.TheVariants as refused
use Rattle.stabilizer.specs.Kept.{KeepsMeaning, StaysFlat, WantsTell}

module _ {F More : Type 0} (keeper : Ghosts F More) where
  -- where nothing is called all is kept
  pub nothing_meant : (functions : F) → keeper.is_sound functions → KeepsMeaning keeper functions functions
  nothing_meant functions sound = record {
    sound = sound;
    same = same_itself (keeper.named functions) (keeper.known functions) (keeper.value functions) (keeper.right functions);
    taken = refl;
    most = refl;
  }

  -- or where nothing but calls was counted
  pub meaning_kept : (old new : F) → KeepsFunctions keeper old new → KeepsMeaning keeper old new
  meaning_kept old new k = record {
    sound = k.sound;
    same = k.same;
    taken = ap (λ (t : Tally). t.taken) k.tally;
    most = ap (λ (t : Tally). t.most) k.tally;
  }

  -- what was kept of functions, and is kept on, is kept
  pub meaning_on : (first mid last : F) → KeepsMeaning keeper first mid → KeepsMeaning keeper mid last → KeepsMeaning keeper first last
  meaning_on first mid last h k = record {
    sound = k.sound;
    same = same_on h.same k.same;
    taken = k.taken ∙ h.taken;
    most = k.most ∙ h.most;
  }

  -- kept functions mean what they meant
  pub means_still : (old new : F) → KeepsMeaning keeper old new → meaning_of keeper new ≡ meaning_of keeper old
  means_still old new k =
      rw (fun_ext k.same.known, fun_ext (λ f. fun_ext (k.same.values f)), fun_ext k.same.sides) refl

-- what stays flat goes on so
pub stays_flat : (old mid new : Arena) → StaysFlat old mid → StaysFlat mid new → StaysFlat old new
stays_flat old mid new first then none =
    let same = first none in
    then (λ n r row. none n r (ap (λ (a : Arena). row_at a n) (sym same) ∙ row)) ∙ same

-- where no call finds no memory nothing tells of it
pub wants_stay : {T : Type 0} (r : Result T Refused) (old new : ℕ) → new ≡ old → WantsTell r old new
wants_stay (Ok v) old new same = same
wants_stay (Err e) old new same = inl same

-- what a refusal tells is told from an earlier count too, where that stayed till then
pub wants_from : (e : Refused) (first mid last : ℕ) → mid ≡ first → (last ≡ mid) ⊎ ((e ≡ refused.Memory) × (last ≡ raised mid))
    → (last ≡ first) ⊎ ((e ≡ refused.Memory) × (last ≡ raised first))
wants_from e first mid last same h = subst (λ (k : ℕ). (last ≡ k) ⊎ ((e ≡ refused.Memory) × (last ≡ raised k))) same h

-- a refusal that is handed on tells what it told
pub wants_handed : {T : Type 0} (r : Result T Refused) (e : Refused) (old new : ℕ) → IsErrAnd r (λ x. x ≡ e)
    → (new ≡ old) ⊎ ((e ≡ refused.Memory) × (new ≡ raised old)) → WantsTell r old new
wants_handed (Ok v) e old new is h = absurd is
wants_handed (Err x) e old new is h = subst (λ y. (new ≡ old) ⊎ ((y ≡ refused.Memory) × (new ≡ raised old))) (sym is) h
