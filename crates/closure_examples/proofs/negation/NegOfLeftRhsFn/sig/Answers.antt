use Rattle.std.proofs.Common.{◌≡◌, [], inl, refl, sym, subst}
use Rattle.inc_value.specs.Sig.{Signature}
use Rattle.inc_value.specs.declared.function.FnKind.TheVariants.{Map}
use Rattle.inc_value.specs.declared.ty.Ty.TheVariants as ty
use Rattle.inc_terms.specs.Term.{Const, End, More}
use Rattle.node_arena.specs.RightSide.{TermsHave, SideHas}
use Rattle.node_arena.proofs.Growing.{left_named, left_has}
use Rattle.closure_examples.specs.Sides.{negation_uses}
use Rattle.closure_examples.proofs.Making.{is_listed}
use Rattle.closure_examples.proofs.negation.NegOfLeftRhsFn.sig.Goals as goal

pub returns-clause-lawful : goal.returns-clause-lawful
returns-clause-lawful c =
    let s = c.args.self.now in
    record {
      names = λ v. (is_listed (negation_uses s.neg) Map s.neg 0 (inl refl) s.map, (left_named [] v, tt));
      types = λ v proper e.
          subst (λ (sig : Signature). (sig.gives ≡ ty.Int) × TermsHave (SideHas [] v) [] (More (Const v) End) sig.takes)
          (sym s.types) (refl, (left_has [] v ty.Int e, tt));
    }
