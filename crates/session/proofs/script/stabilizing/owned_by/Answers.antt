use Rattle.std.proofs.Common.{arith}
use Rattle.std.proofs.lemmas.Option.{slice_get_within}
use Rattle.session.proofs.Failing.{if_some_from}
use Rattle.session.proofs.Owned.{first_told, grab_told, none_told_dead, none_told_older}
use Rattle.session.proofs.script.stabilizing.owned_by.Goals as goal

pub returns-in-Some-clause-found : goal.returns-in-Some-clause-found
returns-in-Some-clause-found g c = first_told c.args.names.now c.args.nodes.now.items c.args.graph.now c.args.node c.in-Some.top c.in-Some.ensures.live
    c.first_not_older.result (rw c.as_slice.ensures at c.first_not_older.ensures.found)

pub returns-in-Some-clause-within : goal.returns-in-Some-clause-within
returns-in-Some-clause-within g c = rw c.as_slice.ensures at c.first_not_older.ensures.within

pub returns-in-Some-clause-none : goal.returns-in-Some-clause-none
returns-in-Some-clause-none g c = none_told_older c.args.names.now c.args.nodes.now.items c.args.graph.now c.args.node c.in-Some.top c.in-Some.ensures.live
    c.first_not_older.result (rw c.as_slice.ensures at c.first_not_older.ensures.none)

pub returns-in-None-clause-found : goal.returns-in-None-clause-found
returns-in-None-clause-found g c = grab_told c.args.names.now c.args.nodes.now.items c.args.graph.now c.args.node c.in-None.ensures.dead
    c.own_declaration.result c.own_declaration.ensures.some

pub returns-in-None-clause-within : goal.returns-in-None-clause-within
returns-in-None-clause-within g c = if_some_from c.own_declaration.result c.own_declaration.ensures.some (λ i own.
    let low = slice_get_within c.args.names.now.declared i own.declared own.is_declared in
    omega (arith, low, c.requires.one_each))

pub returns-in-None-clause-none : goal.returns-in-None-clause-none
returns-in-None-clause-none g c = none_told_dead c.args.names.now c.args.nodes.now.items c.args.graph.now c.args.node c.in-None.ensures.dead
    c.own_declaration.result c.own_declaration.ensures.none
