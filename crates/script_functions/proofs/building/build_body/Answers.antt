use Rattle.script_functions.proofs.Stepping.{root_is}
use Rattle.script_functions.proofs.building.build_body.Goals as goal

pub returns-clause-root : goal.returns-clause-root
returns-clause-root c =
    let a = c.args in
    rw (c.node_of.ensures, c.listed.ensures, c.draft-draft.ensures.value, c.deref.ensures.value, c.root.ensures) (
    root_is a.body.now a.builder.now a.left.now a.captures.now c.requires.ready c.build_lines.new.builder
    c.in_ok-made.made.items _ c.draft-draft.ensures.whole c.build_lines.ensures.grows c.in_ok-made.ensures.built
    )
