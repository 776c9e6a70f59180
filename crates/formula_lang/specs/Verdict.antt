-- Why commands are refused as the model of scripts sees it.
use Rattle.script_model.specs.Check as model
use Rattle.formula_lang.specs.declared.refusal.Reason.TheVariants as reason
use Rattle.formula_lang.specs.declared.refusal.Reason.{Reason}

abbrev pub reason_view : Reason → model.Reason
reason_view reason.NameTaken = model.NameTaken
reason_view reason.ObserverTaken = model.ObserverTaken
reason_view reason.NameUnknown = model.NameUnknown
reason_view reason.ObserverUnknown = model.ObserverUnknown
reason_view reason.FunctionUnknown = model.FunctionUnknown
reason_view reason.NotWhole = model.NotWhole
reason_view reason.NotVariable = model.NotVariable
reason_view reason.NotBind = model.NotBind
reason_view reason.NotExpert = model.NotExpert
reason_view reason.IllTyped = model.IllTyped
reason_view reason.TimeTooLarge = model.TimeTooLarge
reason_view reason.TimesNotRising = model.TimesNotRising
reason_view reason.SpanIsZero = model.SpanIsZero
reason_view reason.BackInTime = model.BackInTime
