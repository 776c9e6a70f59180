use Rattle.std.proofs.Common.{◌∙◌, sym, ap, subst}
use Rattle.inc_value.specs.Sig.{Signature}
use Rattle.inc_value.specs.Value.{HaveTypes}
use Rattle.closures.specs.Tables.{MapMeaning}
use Rattle.closures.specs.TableLaws.{map_there}
use Rattle.closures.proofs.Tables.{map_called, one_there}
use Rattle.closures.proofs.closures.ClosuresFunctions.apply.Goals as goal

pub apply_at-value-requires-clause-fit : goal.apply_at-value-requires-clause-fit
apply_at-value-requires-clause-fit g c m there =
    let k = map_there _ _ c.args.f.now c.requires.known c.requires.kind in
    subst (λ (x : MapMeaning). HaveTypes c.args.args.now x.sig.takes) (one_there _ k.0 m k.1 there)
    (c.requires.fit ∙ ap (λ (s : Signature). s.takes) (sym k.2))

pub returns-then-is_err-clause-once : goal.returns-then-is_err-clause-once
returns-then-is_err-clause-once g c = map_called c.args.f.now _ _ _ c.requires.kind c.apply_at-value.ensures.called

pub returns-else-is_err-clause-once : goal.returns-else-is_err-clause-once
returns-else-is_err-clause-once g c = map_called c.args.f.now _ _ _ c.requires.kind c.apply_at-value.ensures.called
