use Rattle.function_kit.proofs.Picking.{picked_from, picked_types}
use Rattle.function_kit.proofs.pick.PickRhsFn.sig.Goals as goal

pub returns-clause-lawful : goal.returns-clause-lawful
returns-clause-lawful c =
    let s = c.args.self.now in
    record { names = λ v. tt; types = picked_types s.sig.takes s.sig.gives (picked_from s.sig.takes s.sig.gives s.some s.alike) }
