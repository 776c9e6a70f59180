-- Why lines are refused, as the model of scripts sees it.
use Rattle.script_model.specs.Check.{NotBuilt, NotLinked, NotStabilized, TooManyLinks, TooManyPlaces}
use Rattle.script_model.specs.Step as model
use Rattle.session.specs.declared.refusal.Refusal.{Refusal}
use Rattle.session.specs.declared.refusal.Refusal.TheVariants as refusal

abbrev pub refusal_view : Refusal → model.Refusal
refusal_view refusal.NoCommand = model.NoCommand
refusal_view refusal.LineTooLong = model.LineTooLong
refusal_view refusal.NotStabilized = model.Because NotStabilized
refusal_view refusal.NotBuilt = model.Because NotBuilt
refusal_view refusal.NotLinked = model.Because NotLinked
refusal_view refusal.TooManyLinks = model.Because TooManyLinks
refusal_view refusal.TooManyPlaces = model.Because TooManyPlaces
refusal_view refusal.LineTooDeep = model.LineTooDeep
refusal_view (refusal.Broken kept) = model.Broken kept
