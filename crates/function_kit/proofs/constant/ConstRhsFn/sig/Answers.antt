use Rattle.std.proofs.Common.{[]}
use Rattle.node_arena.proofs.Growing.{left_named, left_has}
use Rattle.function_kit.proofs.constant.ConstRhsFn.sig.Goals as goal

pub returns-clause-lawful : goal.returns-clause-lawful
returns-clause-lawful c =
    let s = c.args.self.now in
    record { names = λ v. left_named [] v; types = λ v proper e. left_has [] v s.ty e }
