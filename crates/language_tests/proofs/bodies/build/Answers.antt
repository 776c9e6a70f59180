use Rattle.std.proofs.Common.{refl, sym, subst}
use Rattle.inc_terms.specs.Within.{Given}
use Rattle.node_arena.specs.Listing.{Listed}
use Rattle.node_arena.specs.Typing.{Fits}
use Rattle.language_tests.proofs.bodies.build.Goals as goal

pub build-root-requires-clause-ready : goal.build-root-requires-clause-ready
build-root-requires-clause-ready c =
    let a = c.add_bind.new.arena in
    let captured_fits = c.is_integer-else-not-is_integer.ensures.fits c.if-not-is_integer-2.false in
    record {
      empty = c.in_ok-bind.ensures.empty;
      fit = λ x among. subst (λ (y : Listed). Given a.given y.node × Fits a y.node y.ty) (sym (c.requires.ids x among))
          (c.is_integer.ensures.given c.if-not-is_integer.false, c.is_integer.ensures.fits c.if-not-is_integer.false);
      left_given = tt;
      captures_given = (c.is_integer-else-not-is_integer.ensures.given c.if-not-is_integer-2.false, tt);
      taken = rw c.requires.sig (record { type = refl; reference = tt }, (captured_fits, tt));
    }
