use Rattle.std.proofs.Common.{refl}
use Rattle.formula_lang.proofs.Listing.{swap_remove-named}
use Rattle.formula_lang.proofs.names.Names.end.Goals as goal

pub returns : goal.returns
returns c =
    rw (← c.self.view_is, c.swap_remove.ensures.keys, swap_remove-named (λ k. k.items) c.args.name.now c.self.inside.observers.keys) refl
