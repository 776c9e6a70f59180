use Rattle.std.proofs.Common.{◌≡◌, true, false, sym, ◌∙◌}
use Rattle.session.proofs.Owned.{passed_none, passed_own}
use Rattle.session.proofs.script.naming.passed.Goals as goal

pub returns-in-Main-clause-some : goal.returns-in-Main-clause-some
returns-in-Main-clause-some g c = passed_own c.args.names.now c.args.nodes.now.items c.args.graph.now c.args.before c.args.point c.in-Main.is
    (λ own. let e : true ≡ false = sym (c.is_own_root.ensures.1 own) ∙ c.if-not-is_own_root.true in cc)
    c.own_declaration.result c.own_declaration.ensures.some

pub returns-in-Main-clause-none : goal.returns-in-Main-clause-none
returns-in-Main-clause-none g c = passed_none c.args.names.now c.args.nodes.now.items c.args.graph.now c.args.before c.args.point
    c.own_declaration.result c.own_declaration.ensures.none
