use Rattle.std.proofs.Common.{◌∙◌}
use Rattle.formula_lang.proofs.Listing.{list_any-named}
use Rattle.formula_lang.proofs.names.Names.is_in_use.Goals as goal

pub returns : goal.returns
returns c = rw (← c.self.view_is) (c.contains.ensures ∙ list_any-named (λ k. k.items) c.args.name.now c.self.inside.observers.keys)
