use Rattle.std.proofs.Common.{rules}
use Rattle.std.proofs.lemmas.Fn.{filter_same}
use Rattle.observers.specs.Keeping.{is_used}
use Rattle.observers.proofs.looking.keep_used.Goals as goal

pub returns : goal.returns
returns c = filter_same _ (is_used c.args.made.now) _ (λ x b f' k. search rules) _ _ c.retain.ensures.filtered
