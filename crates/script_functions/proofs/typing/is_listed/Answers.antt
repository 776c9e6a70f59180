use Rattle.node_arena.specs.Listing.{Listed}
use Rattle.script_functions.proofs.Lists.{among_any, any_among}
use Rattle.script_functions.proofs.typing.is_listed.Goals as goal

pub returns : goal.returns
returns c =
    let wanted : Listed = record { node = c.args.node; ty = c.args.ty } in (
      λ h. among_any wanted c.args.listed.now (rw c.new.ensures at (c.holds.ensures.0 h)),
      λ h. c.holds.ensures.1 (rw c.new.ensures (any_among wanted c.args.listed.now h)),
    )
