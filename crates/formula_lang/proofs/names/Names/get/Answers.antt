use Rattle.formula_lang.specs.NamesView.{declared_view}
use Rattle.formula_lang.proofs.Listing.{shown_at}
use Rattle.formula_lang.proofs.names.Names.get.Goals as goal

pub returns-clause-value : goal.returns-clause-value
returns-clause-value c = rw (← c.self.view_is) (shown_at c.self.inside.declared.entries c.args.i c.index.result.now c.index.ensures)

pub returns-clause-earlier : goal.returns-clause-earlier
returns-clause-earlier c =
    c.self.invariant.0.earlier c.args.i (declared_view c.index.result.now)
    (shown_at c.self.inside.declared.entries c.args.i c.index.result.now c.index.ensures)
