use Rattle.std.proofs.Common.{sym, ap, ◌∙◌}
use Rattle.scopes.specs.Scopes.{node_count}
use Rattle.scopes.proofs.Dying.{nodes_counted}
use Rattle.scopes.proofs.scopes.Scopes.len.Goals as goal

pub returns : goal.returns
returns c = c.len.ensures ∙ sym (nodes_counted c.self.inside.lists) ∙ ap node_count c.self.view_is
