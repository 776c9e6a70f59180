use Rattle.std.proofs.Common.{subst}
use Rattle.inc_value.specs.Choice.{Among}
use Rattle.expert_nodes.specs.Experts.{Expert, kids_of_expert}
use Rattle.expert_nodes.proofs.Halves.{there_off}
use Rattle.expert_nodes.proofs.expert.Expert.unlink.Goals as goal

pub returns-in-Ok-clause-there : goal.returns-in-Ok-clause-there
returns-in-Ok-clause-there c =
    subst (λ (e : Expert). Among c.args.kid (kids_of_expert e)) c.self.view_is
    (there_off c.self.inside.links c.take_link.new.links c.args.kid c.in-Ok.taken c.in-Ok.ensures.off)
