use Rattle.std.proofs.Common.{ap, subst, ◌∙◌}
use Rattle.formula_elab.specs.Make.{node_made}
use Rattle.formula_elab.specs.Opened.{IsEarlier}
use Rattle.formula_elab.specs.declared.opened.Part.{Part}
use Rattle.formula_elab.proofs.MadeAs.{read_node}
use Rattle.formula_elab.proofs.opened.Part.node.Goals as goal

pub node-requires : goal.node-requires
node-requires c =
    let h = c.requires.earlier in
    let needs = subst (λ (p : Part). IsEarlier h.0 p) c.in-Made.is h.1 in
    (read_node h.0 c.args.made.now h.2 h.3 c.in-Made.number c.index-made-number.result c.index-made-number.is needs).0

pub returns-in-Made : goal.returns-in-Made
returns-in-Made c =
    let h = c.requires.earlier in
    let needs = subst (λ (p : Part). IsEarlier h.0 p) c.in-Made.is h.1 in
    rw c.in-Made.is (c.node.ensures
    ∙ ap node_made (read_node h.0 c.args.made.now h.2 h.3 c.in-Made.number c.index-made-number.result c.index-made-number.is needs).1)
