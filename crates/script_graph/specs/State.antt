-- Which moments of a script a session stands for.
use Rattle.std.specs.Prelude.{◌≡◌, None}
use Rattle.script_model.specs.Formula.{Meanings}
use Rattle.script_model.specs.Laws.{ValidMoment}
use Rattle.script_model.specs.Step.{Moment}
use Rattle.script_model.specs.Valid.{KeepToTypes}
use Rattle.script_graph.specs.Kept.{Kept}
use Rattle.script_graph.specs.Represents.{AreNames, Represents, Watches}
use Rattle.script_graph.specs.Settled.{Settled}

-- what is kept matches a moment of a script: names, count, what broke it and observers are those of the moment; and unless it is broken the graph holds the
-- present state and, of the state as the last accepted stabilize left it, the calls
pub record MatchesMoment (F : Meanings) (k : Kept) (m : Moment) : Type 0 where
  pub names : AreNames k.names m.present
  pub accepted : m.present.accepted ≡ k.accepted
  pub broken : m.broken ≡ k.broken
  pub represents : m.broken ≡ None → Represents F m.present k
  pub watches : Watches m.present k
  pub settled : m.broken ≡ None → Settled F m.settled m.present k

-- what is kept stands for a moment: it matches it, the moment's states are valid, and functions keep to their types
pub record Stands (F : Meanings) (k : Kept) (m : Moment) : Type 0 where
  pub keep : KeepToTypes F
  pub valid : ValidMoment F m
  pub matches : MatchesMoment F k m
