use Rattle.std.proofs.Common.{◌≡◌, rules}
use Rattle.session.proofs.Owned.{no_root, own_root}
use Rattle.session.proofs.script.naming.is_own_root.Goals as goal

pub returns-then-ne : goal.returns-then-ne
returns-then-ne g c =
    let top = c.in-Some.bind in
    let owner = c.in-Some.ensures.live in
    let apart : top ≡ c.args.node → ⊥ = search rules in (
      λ same. (top, owner, apart, c.is_main_of.ensures.0 same),
      λ own. c.is_main_of.ensures.1 (own_root c.args.graph.now c.args.point c.args.node top owner own).1,
    )

pub returns-in-None : goal.returns-in-None
returns-in-None g c = (λ is. absurd cc, λ own. absurd (no_root c.args.graph.now c.args.point c.args.node c.in-None.ensures.dead own))
