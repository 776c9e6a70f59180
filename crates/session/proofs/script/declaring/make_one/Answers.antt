use Rattle.std.proofs.Common.{ap, arith}
use Rattle.graph.specs.Standing.{without_functions}
use Rattle.script_graph.proofs.Adding.{only_memory, was_added, was_refused}
use Rattle.script_graph.proofs.Extending.{keeps_extends, rest_extends}
use Rattle.session.proofs.Failing.{always_err}
use Rattle.session.proofs.Making.{functions_stay, stay_known}
use Rattle.session.proofs.script.declaring.make_one.Goals as goal

-- ---- a body

pub keep_body-requires-clause-usable : goal.keep_body-requires-clause-usable
keep_body-requires-clause-usable g c = rw c.in-Body.is at c.requires.welcome

pub keep_body-requires-clause-bodies : goal.keep_body-requires-clause-bodies
keep_body-requires-clause-bodies g c = let room = rw c.in-Body.is at c.requires.bodies in omega (arith, room)

pub returns-in-Body-clause-made : goal.returns-in-Body-clause-made
returns-in-Body-clause-made g c = rw c.in-Body.is c.keep_body.ensures.made

pub returns-in-Body-clause-serves : goal.returns-in-Body-clause-serves
returns-in-Body-clause-serves g c = rw c.in-Body.is c.keep_body.ensures.serves

pub returns-in-Body-clause-kept : goal.returns-in-Body-clause-kept
returns-in-Body-clause-kept g c = always_err c.keep_body.result (rest_extends _ _ (ap without_functions c.keep_body.ensures.rest))

pub returns-in-Body-clause-nodes : goal.returns-in-Body-clause-nodes
returns-in-Body-clause-nodes g c = always_err c.keep_body.result (ap (λ s. s.nodes) c.keep_body.ensures.rest)

pub returns-in-Body-clause-functions : goal.returns-in-Body-clause-functions
returns-in-Body-clause-functions g c = rw c.in-Body.is c.keep_body.ensures.functions

-- ---- a node

pub add-requires : goal.add-requires
add-requires g c = let welcome = rw c.in-Node.is at c.requires.welcome in record { known = welcome.calls }

pub or_no_memory-requires : goal.or_no_memory-requires
or_no_memory-requires g c =
    let welcome = rw c.in-Node.is at c.requires.welcome in
    record {
      memory = only_memory _ _ _ _ _ _ c.requires.unbroken welcome c.requires.room c.requires.ids c.add.result c.add.ensures;
    }

pub returns-in-Ok-clause-made : goal.returns-in-Ok-clause-made
returns-in-Ok-clause-made g c = rw c.in-Node.is (was_added _ _ _ _ c.add.result _ c.in-Ok.ensures.ok c.add.ensures)

pub returns-in-Ok-clause-functions : goal.returns-in-Ok-clause-functions
returns-in-Ok-clause-functions g c =
    let added = was_added _ _ _ _ c.add.result _ c.in-Ok.ensures.ok c.add.ensures in
    rw added.beside.top.functions (functions_stay _ _ _ _)

pub returns-in-Ok-clause-known : goal.returns-in-Ok-clause-known
returns-in-Ok-clause-known g c =
    let added = was_added _ _ _ _ c.add.result _ c.in-Ok.ensures.ok c.add.ensures in
    rw added.beside.top.functions (stay_known _ _)

pub returns-in-Err-clause-kept : goal.returns-in-Err-clause-kept
returns-in-Err-clause-kept g c = keeps_extends _ _ (was_refused _ _ _ _ c.add.result c.in-Err.ensures.err c.add.ensures)

pub returns-in-Err-clause-nodes : goal.returns-in-Err-clause-nodes
returns-in-Err-clause-nodes g c = let kept = was_refused _ _ _ _ c.add.result c.in-Err.ensures.err c.add.ensures in kept.nodes

pub returns-in-Err-clause-functions : goal.returns-in-Err-clause-functions
returns-in-Err-clause-functions g c =
    let kept = was_refused _ _ _ _ c.add.result c.in-Err.ensures.err c.add.ensures in
    rw kept.beside.top.functions (functions_stay _ _ _ _)

pub returns-in-Err-clause-known : goal.returns-in-Err-clause-known
returns-in-Err-clause-known g c =
    let kept = was_refused _ _ _ _ c.add.result c.in-Err.ensures.err c.add.ensures in
    rw kept.beside.top.functions (stay_known _ _)
