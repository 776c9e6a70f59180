use Rattle.script_model.specs.Formula.{meanings_of}
use Rattle.line_parser.specs.View.{literal_view}
use Rattle.formula_lang.proofs.refusal.first_reason.Goals as goal

pub returns-in-Show : goal.returns-in-Show
returns-in-Show g c =
    rw c.in-Show.is
    (c.first_against_show.ensures (meanings_of (g.L.Library.named c.args.library.now) (g.L.Library.value c.args.library.now)))

pub returns-in-Set : goal.returns-in-Set
returns-in-Set g c =
    rw c.in-Set.is
    (c.first_against_set.ensures (meanings_of (g.L.Library.named c.args.library.now) (g.L.Library.value c.args.library.now))
    (literal_view c.in-Set.value) (rw c.in-Set.is at c.requires.read) (rw c.in-Set.is at c.requires.typed))
