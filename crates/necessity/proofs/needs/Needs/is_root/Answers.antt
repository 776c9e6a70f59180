use Rattle.std.proofs.Common.{arith}
use Rattle.std.proofs.lemmas.Bool.Decides.{nat_tests}
use Rattle.necessity.proofs.Reaching.{roots_seen}
use Rattle.necessity.proofs.needs.Needs.is_root.Goals as goal

pub returns : goal.returns
returns c =
    rw (c.need_of.ensures, ← c.self.view_is, roots_seen c.self.inside.rows c.args.p) ((λ t. grind (arith, nat_tests)), (λ r. grind (arith, nat_tests)))
