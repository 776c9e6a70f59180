use Rattle.formula_lang.proofs.Listing.{found_observer, first_observer}
use Rattle.formula_lang.proofs.names.Names.observer.Goals as goal

pub returns-clause-found : goal.returns-clause-found
returns-clause-found c =
    rw (← c.self.view_is) (found_observer (λ k. k.items) c.args.name.now c.self.inside.observers.keys c.get_index_of.result
    c.get_index_of.ensures.index)

pub returns-clause-first : goal.returns-clause-first
returns-clause-first c =
    rw (← c.self.view_is) (first_observer (λ k. k.items) c.args.name.now c.self.inside.observers.keys c.get_index_of.result
    c.get_index_of.ensures.index)
