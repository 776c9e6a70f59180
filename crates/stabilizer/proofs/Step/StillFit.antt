-- Functions fit on where just the same ones are known, and make what they made.
use Rattle.std.proofs.Common.{inl, refl, sym, subst, Bool, arith}
use Rattle.std.specs.Prelude.{IsTrue}
use Rattle.inc_value.specs.declared.function.FnRef.{FnRef}
use Rattle.node_arena.proofs.Graph.{calls_more}
use Rattle.node_arena.specs.Arena.{Arena}
use Rattle.node_arena.specs.Meanings.{SameKnown}
use Rattle.node_arena.specs.RightSide.{RightSide, SameSides}
use Rattle.node_arena.specs.RightSideLaws.{AllFit, IsFitIn, SidesLast}
use Rattle.node_arena.proofs.RightSides.{fit_lasts}
use Rattle.stabilizer.specs.Weights.{SidesFit}
use Rattle.stabilizer.proofs.Building.Weighing.{sides_last}

pub same_fit : (known known' : FnRef → Bool) (right right' : FnRef → RightSide) (a : Arena) → SameKnown known known' → SameSides right right'
    → SidesFit known right a → SidesFit known' right' a
same_fit known known' right right' a same sides fit = sides_last known known' right right' a a (λ f h. sides f) (λ n. inl refl) all_same fit
  where
    last : SidesLast known known' right right'
    last = record { keeps = λ f h. subst (λ (b : Bool). IsTrue b) (sym (same f)) h; same = λ f h. sides f }

    all_same : AllFit known' right' a
    all_same n r row = calls_more (IsFitIn known right a) (IsFitIn known' right' a)
        (λ k f h. fit_lasts known known' right right' a a last (omega arith) (λ m given. inl refl) k f h) r.def (fit.all n r row)
