use Rattle.std.proofs.Common.{refl, ap, Err}
use Rattle.node_arena.specs.declared.stored.BuildFault.{BuildFault}
use Rattle.stabilizer.proofs.Building.Built.{HasBuiltNodes, can_adopt, can_disown, none_adopted, all_built, all_gives, all_spends, stops_by}
use Rattle.stabilizer.proofs.Building.Built.{none_built, none_left, none_spends, none_room}
use Rattle.stabilizer.proofs.parts.Parts.build.Given.{Over}
use Rattle.stabilizer.proofs.parts.Parts.build.Goals.{After-build-built}
use Rattle.stabilizer.proofs.parts.Parts.build.Goals as goal

made : (g : Over) (c : After-build-built g) → HasBuiltNodes g.F.Functions c.args.functions.now c.build-built.new.functions c.args.self.now
    (record c.args.self.now { arena = c.build-built.new.self }) c.args.bind c.args.recipe.now.function c.args.recipe.now.captures c.args.left.now
    c.given-count.result
made g c =
    let b = c.build-built.ensures in record {
      may = c.requires;
      holds = g.met.F.Functions.sides c.args.functions.now c.requires.sound;
      sound = b.sound;
      arena = b.arena;
      grows = b.grows;
      same = b.same;
      tally = b.tally;
      calls = b.calls;
      wants = b.wants;
      rest = refl;
      counted = c.given-count.ensures;
    }

pub adopt_since-requires : goal.adopt_since-requires
adopt_since-requires g c = record { ready = can_adopt (made g (goal.at.adopt_since-requires g c).After-build-built) }

-- ---- all nodes have their points

pub returns-in-Ok-adopt_since-clause-built : goal.returns-in-Ok-adopt_since-clause-built
returns-in-Ok-adopt_since-clause-built g c =
    all_built (made g (goal.at.returns-in-Ok-adopt_since-clause-built g c).After-build-built) c.adopt_since.new.self c.in-Ok-adopt_since.ensures.all
    c.in-Ok-adopt_since.ensures.called c.in-Ok-adopt_since.ensures.listed

pub returns-in-Ok-adopt_since-clause-gives : goal.returns-in-Ok-adopt_since-clause-gives
returns-in-Ok-adopt_since-clause-gives g c =
    all_gives (made g (goal.at.returns-in-Ok-adopt_since-clause-gives g c).After-build-built) c.adopt_since.new.self c.in-Ok-adopt_since.ensures.all
    c.in-Ok-adopt_since.ensures.called c.in-Ok-adopt_since.ensures.listed

pub returns-in-Ok-adopt_since-clause-spends : goal.returns-in-Ok-adopt_since-clause-spends
returns-in-Ok-adopt_since-clause-spends g c =
    all_spends (made g (goal.at.returns-in-Ok-adopt_since-clause-spends g c).After-build-built) c.adopt_since.new.self c.in-Ok-adopt_since.ensures.all
    c.in-Ok-adopt_since.ensures.called c.in-Ok-adopt_since.ensures.listed

-- ---- there was no memory for the points of one

pub disown_since-requires : goal.disown_since-requires
disown_since-requires g c =
    record { ready = can_disown (made g (goal.at.disown_since-requires g c).After-build-built) c.adopt_since.new.self c.in-Err-adopt_since.ensures.some }

pub returns-in-Err-adopt_since-clause-built : goal.returns-in-Err-adopt_since-clause-built
returns-in-Err-adopt_since-clause-built g c =
    none_built (made g (goal.at.returns-in-Err-adopt_since-clause-built g c).After-build-built) c.adopt_since.new.self
    c.in-Err-adopt_since.ensures.some c.disown_since.new.self c.disown_since.ensures.disowned

pub returns-in-Err-adopt_since-clause-none : goal.returns-in-Err-adopt_since-clause-none
returns-in-Err-adopt_since-clause-none g c =
    none_left (made g (goal.at.returns-in-Err-adopt_since-clause-none g c).After-build-built) c.adopt_since.new.self
    c.in-Err-adopt_since.ensures.some c.disown_since.new.self c.disown_since.ensures.disowned

pub returns-in-Err-adopt_since-clause-spends : goal.returns-in-Err-adopt_since-clause-spends
returns-in-Err-adopt_since-clause-spends g c =
    none_spends (made g (goal.at.returns-in-Err-adopt_since-clause-spends g c).After-build-built) c.adopt_since.new.self
    c.in-Err-adopt_since.ensures.some c.disown_since.new.self c.disown_since.ensures.disowned

-- ---- the function couldn't build

pub disown_since-requires-in-Err : goal.disown_since-requires-in-Err
disown_since-requires-in-Err g c =
    let h = made g (goal.at.disown_since-requires-in-Err g c).After-build-built in
    record { ready = can_disown h (record c.args.self.now { arena = c.build-built.new.self }) (none_adopted h) }

pub returns-in-Err-clause-built : goal.returns-in-Err-clause-built
returns-in-Err-clause-built g c =
    let h = made g (goal.at.returns-in-Err-clause-built g c).After-build-built in
    none_built h (record c.args.self.now { arena = c.build-built.new.self }) (none_adopted h) c.disown_since-in-Err.new.self
    c.disown_since-in-Err.ensures.disowned

pub returns-in-Err-clause-none : goal.returns-in-Err-clause-none
returns-in-Err-clause-none g c =
    let h = made g (goal.at.returns-in-Err-clause-none g c).After-build-built in
    none_left h (record c.args.self.now { arena = c.build-built.new.self }) (none_adopted h) c.disown_since-in-Err.new.self
    c.disown_since-in-Err.ensures.disowned

pub returns-in-Err-clause-spends : goal.returns-in-Err-clause-spends
returns-in-Err-clause-spends g c =
    let h = made g (goal.at.returns-in-Err-clause-spends g c).After-build-built in
    none_spends h (record c.args.self.now { arena = c.build-built.new.self }) (none_adopted h) c.disown_since-in-Err.new.self
    c.disown_since-in-Err.ensures.disowned

pub returns-in-Err-clause-stops : goal.returns-in-Err-clause-stops
returns-in-Err-clause-stops g c =
    let h = made g (goal.at.returns-in-Err-clause-stops g c).After-build-built in
    let last = c.disown_since-in-Err in
    stops_by c.args.self.now.arena.given last.new.self.arena c.in-Err.fault c.refusal_of_build.result c.refusal_of_build.ensures.full
    c.refusal_of_build.ensures.memory (λ is. none_room h (record c.args.self.now { arena = c.build-built.new.self }) (none_adopted h) last.new.self
    last.ensures.disowned (c.in-Err.ensures.full (ap (λ (x : BuildFault). Err x) is)))
