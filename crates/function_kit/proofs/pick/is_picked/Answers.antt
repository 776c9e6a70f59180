use Rattle.function_kit.proofs.Picking.{picked_from, picked_to}
use Rattle.function_kit.proofs.pick.is_picked.Goals as goal

pub returns : goal.returns
returns c =
    let e = rw (c.takes.ensures.value, c.gives.ensures) at c.are_picked.ensures in
    (λ h. picked_to c.args.sig.takes c.args.sig.gives (e.0 h), λ p. e.1 (picked_from c.args.sig.takes c.args.sig.gives p.0 p.1))
