use Rattle.std.proofs.Common.{◌≡◌, [], ap, arith, ◌∙◌}
use Rattle.node_arena.specs.RightSide.{Tally}
use Rattle.script_graph.specs.Kept.{without_functions}
use Rattle.script_graph.proofs.Beginning.{first_sound, first_stands}
use Rattle.session.proofs.Keeping.{library_keeps, none_there}
use Rattle.session.proofs.script.Script.new.Goals as goal

pub returns-clause-first : goal.returns-clause-first
returns-clause-first g c =
    let l = c.args.library in
    let bodies : c.new-2.result.functions.bodies.items ≡ [] = ap (λ fs. fs.bodies.items) c.new-2.ensures.functions
    ∙ none_there _ (ap (λ (t : Tally). t.taken) c.new.ensures.tally) in
    rw (c.new-3.ensures, c.new-4.ensures.items, c.new-5.ensures.items, bodies)
    (first_stands (without_functions c.new-2.result) c.new-2.ensures.nodes c.new-2.ensures.observers (g.L.Library.named l) (g.L.Library.value l)
    c.new-2.ensures.time (let none = c.new-2.ensures.since in omega (arith, none)) c.new-2.ensures.cutoff
    (library_keeps (g.L.Library.named l) (g.L.Library.known l) (g.L.Library.value l) (g.met.L.Library.names_maps l) (g.met.L.Library.typed l)
    (g.met.L.Library.proper l)))

pub returns-clause-builds : goal.returns-clause-builds
returns-clause-builds g c =
    ap (λ fs. fs.builds) c.new-2.ensures.functions ∙ ap (λ (t : Tally). t.builds) c.new.ensures.tally

pub returns-clause-bodies : goal.returns-clause-bodies
returns-clause-bodies g c = ap (λ fs. fs.bodies.items) c.new-2.ensures.functions ∙ none_there _ (ap (λ (t : Tally). t.taken) c.new.ensures.tally)

pub invariant_of-result : goal.invariant_of-result
invariant_of-result g c =
    let bodies : c.new-2.result.functions.bodies.items ≡ [] = ap (λ fs. fs.bodies.items) c.new-2.ensures.functions
    ∙ none_there _ (ap (λ (t : Tally). t.taken) c.new.ensures.tally) in
    rw (c.new-3.ensures, c.new-4.ensures.items, c.new-5.ensures.items, bodies)
    (first_sound (without_functions c.new-2.result) c.new-2.ensures.nodes c.new-2.ensures.observers c.new-2.ensures.unbroken c.new-2.ensures.time)
