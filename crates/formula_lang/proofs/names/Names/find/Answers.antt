use Rattle.formula_lang.proofs.Listing.{found_at}
use Rattle.formula_lang.proofs.names.Names.find.Goals as goal

pub returns-clause-found : goal.returns-clause-found
returns-clause-found c =
    rw (← c.self.view_is) (found_at (λ k. k.items) c.args.name.now c.self.inside.declared.entries c.get_index_of.result c.self.invariant.0.keys
    c.get_index_of.ensures.index)
