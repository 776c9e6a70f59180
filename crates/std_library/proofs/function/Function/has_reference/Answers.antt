use Rattle.std.proofs.Common.{subst}
use Rattle.std.specs.Prelude.{◌≡◌, ◌↔◌, IsTrue}
use Rattle.std_library.proofs.function.Function.has_reference.Goals as goal

pub returns : goal.returns
returns c = subst (λ g. IsTrue c.is_same.result ↔ (c.args.f ≡ g)) c.reference.ensures.value c.is_same.ensures
