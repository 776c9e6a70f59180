use Rattle.std.proofs.Common.{refl, sym, ap, subst, ◌∙◌}
use Rattle.inc_value.specs.declared.node.Point.{Point}
use Rattle.point_map.specs.Rows.{Holds}
use Rattle.necessity.proofs.Sound.{on_err}
use Rattle.necessity.specs.Need.{KeepsRoots, root_times}
use Rattle.necessary_graph.specs.Part.{NecessaryPart, Needed}
use Rattle.node_arena.specs.Arena.{Arena}
use Rattle.stabilizer.specs.Weights.{SidesFit}
use Rattle.node_outcomes.specs.Meaning.{meaning_of}
use Rattle.stabilizer.specs.Kept.{counts_by}
use Rattle.stabilizer.specs.Lacking as lacking
use Rattle.stabilizer.specs.Lacking.{StepLacks}
use Rattle.stabilizer.proofs.Change.Lacking.{lacks_before}
use Rattle.stabilizer.specs.Stepping.{of_main, of_change, StepIsRefused}
use Rattle.stabilizer.proofs.Change.Steps.{change_steps, change_stops, change_full}
use Rattle.stabilizer.proofs.Step.Falling.{steps_at, steps_leave_less}
use Rattle.stabilizer.proofs.Step.Giving.{left_few, main_few, memory_full}
use Rattle.wiring.proofs.Raising.{if_refusal}
use Rattle.stabilizer.specs.declared.parts.Parts.{Parts}
use Rattle.stabilizer.proofs.Step.StillFit.{same_fit}
use Rattle.stabilizer.proofs.Step.Staying.{nothing_done, taken_may}
use Rattle.stabilizer.specs.Staying.{RoundStays}
use Rattle.stabilizer.proofs.Step.Stepping.{not_empty, takes_least, steps, step_refused, main_back, arena_kept, popped_row, popped_needed, popped_taken, same_roots}
use Rattle.stabilizer.proofs.stabilizer.Stabilizer.step.Given.{Over}
use Rattle.stabilizer.proofs.stabilizer.Stabilizer.step.Goals.{After-step_change, After-step_main}
use Rattle.stabilizer.proofs.Step.MeaningKept.{wants_stay}
use Rattle.stabilizer.proofs.stabilizer.Stabilizer.step.Goals as goal
use Rattle.stabilizer.proofs.Between.Alone.{main_is, change_is}

-- ---- a change

pub returns-in_err-step_change-in-Change-clause-lacks : goal.returns-in_err-step_change-in-Change-clause-lacks
returns-in_err-step_change-in-Change-clause-lacks g c =
    let old = c.args.parts.now in
    let p = c.in-Some.p in
    let lacks : StepLacks old (g.F.Functions.wants c.args.functions.now) (g.F.Functions.wants c.step_change.new.functions) =
    lacking.of_change p.node (subst (λ (x : Point). Holds old.work.graph.heap x) (change_is p c.in-Change.is) c.in-Some.ensures.was)
    (lacks_before old c.pop_least.new.self p.node c.pop_least.ensures.rest c.in_err-step_change-in-Change.ensures.lacks) in
    on_err c.from_residual.result lacks

pub step_change-requires-clause-may : goal.step_change-requires-clause-may
step_change-requires-clause-may g c = taken_may g.F.Functions c.args.functions.now c.args.parts.now c.pop_least.new.self c.in-Some.p c.requires
    c.pop_least.ensures.rest c.in-Some.ensures.removed

pub step_change-requires-clause-taken : goal.step_change-requires-clause-taken
step_change-requires-clause-taken g c =
    let arena = c.args.parts.now.arena in
    let work = c.args.parts.now.work in
    let p = c.in-Some.p in
    let is = change_is p c.in-Change.is in
    let kept = c.requires.kept.work in
    record {
      row = popped_row arena work c.pop_least.new.self p _ is kept c.in-Some.ensures.was c.pop_least.ensures.rest c.in-Some.ensures.removed;
      needed = popped_needed arena work c.pop_least.new.self p _ is kept c.in-Some.ensures.was c.pop_least.ensures.rest c.in-Some.ensures.removed;
      gone = popped_taken arena work c.pop_least.new.self p _ is kept c.in-Some.ensures.was c.pop_least.ensures.rest c.in-Some.ensures.removed;
    }

pub returns-in_err-step_change-in-Change-clause-refused : goal.returns-in_err-step_change-in-Change-clause-refused
returns-in_err-step_change-in-Change-clause-refused g c =
    let M = meaning_of g.F.Functions c.args.functions.now in
    let old = c.args.parts.now in
    let new = c.step_change.new.parts in
    let p = c.in-Some.p in
    let is = change_is p c.in-Change.is in
    let before = counts_by g.F.Functions c.args.functions.now in
    let after = counts_by g.F.Functions c.step_change.new.functions in
    let right = g.F.Functions.right c.step_change.new.functions in
    let e = c.in_err-step_change-in-Change.field-0.0 in
    let left = c.in_err-step_change-in-Change.ensures.refused in
    if_refusal (StepIsRefused M right old new before after) e c.from_residual.result c.from_residual.ensures.1 (record {
      refused = change_stops M old c.pop_least.new.self p p.node is before c.requires.kept c.requires.quiet c.in-Some.ensures.was
          c.in-Some.ensures.least c.pop_least.ensures.rest c.in-Some.ensures.removed right new after e left;
      spends = left_few M right (record old { work = record old.work { graph = c.pop_least.new.self } }) new p.node before after e left;
      full = change_full M old c.pop_least.new.self p p.node is before c.requires.kept c.requires.quiet c.in-Some.ensures.was
          c.in-Some.ensures.least c.pop_least.ensures.rest c.in-Some.ensures.removed right new after e left;
    })

pub returns-in_err-step_change-in-Change-clause-wants : goal.returns-in_err-step_change-in-Change-clause-wants
returns-in_err-step_change-in-Change-clause-wants g c = wants_stay c.from_residual.result _ _ c.step_change.ensures.wants

pub returns-in_ok-step_change-in-Change-clause-made : goal.returns-in_ok-step_change-in-Change-clause-made
returns-in_ok-step_change-in-Change-clause-made g c =
    let M = meaning_of g.F.Functions c.args.functions.now in
    let old = c.args.parts.now in
    let new = c.step_change.new.parts in
    let p = c.in-Some.p in
    let is = change_is p c.in-Change.is in
    let before = counts_by g.F.Functions c.args.functions.now in
    let after = counts_by g.F.Functions c.step_change.new.functions in
    let step = change_steps M old c.pop_least.new.self p p.node is before c.requires.kept c.requires.quiet c.in-Some.ensures.was
    c.in-Some.ensures.least c.pop_least.ensures.rest c.in-Some.ensures.removed new after c.in_ok-step_change-in-Change.ensures.settled
    c.in_ok-step_change-in-Change.ensures.quiet in
    record {
      stepped = step;
      settled = of_change (takes_least old.work c.pop_least.new.self p _ is c.in-Some.ensures.was c.in-Some.ensures.least c.pop_least.ensures.rest
          c.in-Some.ensures.removed) c.in_ok-step_change-in-Change.ensures.settled;
      falls = steps_leave_less M old new before after c.requires.kept.work c.step_change.ensures.stays.kept.work
          (steps_at M old new before after p step);
      more = λ empty. not_empty old.work.graph.heap p c.in-Some.ensures.was empty;
    }

-- ---- a main

pub step_main-requires-clause-may : goal.step_main-requires-clause-may
step_main-requires-clause-may g c = taken_may g.F.Functions c.args.functions.now c.args.parts.now c.pop_least.new.self c.in-Some.p c.requires
    c.pop_least.ensures.rest c.in-Some.ensures.removed

pub step_main-requires-clause-row : goal.step_main-requires-clause-row
step_main-requires-clause-row g c =
    let p = c.in-Some.p in
    popped_row c.args.parts.now.arena c.args.parts.now.work c.pop_least.new.self p _ (main_is p c.in-Main.is) c.requires.kept.work c.in-Some.ensures.was
    c.pop_least.ensures.rest c.in-Some.ensures.removed

pub step_main-requires-clause-taken : goal.step_main-requires-clause-taken
step_main-requires-clause-taken g c =
    let p = c.in-Some.p in
    popped_taken c.args.parts.now.arena c.args.parts.now.work c.pop_least.new.self p _ (main_is p c.in-Main.is) c.requires.kept.work
    c.in-Some.ensures.was c.pop_least.ensures.rest c.in-Some.ensures.removed

pub insert-requires : goal.insert-requires
insert-requires g c =
    let p = c.in-Some.p in record {
      needed = subst (λ (x : NecessaryPart). Needed x p) (sym c.in-Err.ensures.refused.graph)
          (popped_needed c.args.parts.now.arena c.args.parts.now.work c.pop_least.new.self p p refl c.requires.kept.work
          c.in-Some.ensures.was c.pop_least.ensures.rest c.in-Some.ensures.removed);
    }

pub returns-in-Ok-clause-quiet : goal.returns-in-Ok-clause-quiet
returns-in-Ok-clause-quiet g c = c.in-Ok.ensures.settled.settled.todo ∙ c.requires.quiet

pub returns-in-Ok-clause-made : goal.returns-in-Ok-clause-made
returns-in-Ok-clause-made g c =
    let M = meaning_of g.F.Functions c.args.functions.now in
    let old = c.args.parts.now in
    let new = c.step_main.new.parts in
    let p = c.in-Some.p in
    let is = main_is p c.in-Main.is in
    let before = counts_by g.F.Functions c.args.functions.now in
    let after = counts_by g.F.Functions c.step_main.new.functions in
    let step = steps M old new c.pop_least.new.self p p.node is before after c.requires.kept.work c.in-Some.ensures.was c.in-Some.ensures.least
    c.pop_least.ensures.rest c.in-Some.ensures.removed c.in-Ok.ensures.settled (arena_kept old new c.step_main.ensures.rest) in
    record {
      stepped = step;
      settled = of_main (takes_least old.work c.pop_least.new.self p _ is c.in-Some.ensures.was c.in-Some.ensures.least c.pop_least.ensures.rest
          c.in-Some.ensures.removed) c.in-Ok.ensures.settled c.step_main.ensures.rest;
      falls = steps_leave_less M old new before after c.requires.kept.work c.step_main.ensures.kept.work
          (steps_at M old new before after p step);
      more = λ empty. not_empty old.work.graph.heap p c.in-Some.ensures.was empty;
    }

pub returns-in-Err-clause-refused : goal.returns-in-Err-clause-refused
returns-in-Err-clause-refused g c =
    let old = c.args.parts.now in
    let mid = c.step_main.new.parts in
    let p = c.in-Some.p in
    let before = counts_by g.F.Functions c.args.functions.now in
    let after = counts_by g.F.Functions c.step_main.new.functions in
    let right = g.F.Functions.right c.step_main.new.functions in
    let arena = arena_kept old mid c.step_main.ensures.rest in
    let memory = c.in-Err.ensures.memory in
    record {
      refused = step_refused (meaning_of g.F.Functions c.args.functions.now) old mid _ c.pop_least.new.self c.insert.new.self p p.node before after
          c.requires.kept.work c.in-Some.ensures.was c.in-Some.ensures.least c.pop_least.ensures.rest c.in-Some.ensures.removed
          c.in-Err.ensures.refused arena c.insert.ensures.rest c.insert.ensures.inserted refl (main_is p c.in-Main.is) _ memory;
      spends = main_few right old.arena mid.arena arena;
      full = λ z s begun quiet st. memory_full right mid.arena before after c.in-Err.refused memory;
    }

-- ---- the heap is empty

pub returns-in_default-clause-ended : goal.returns-in_default-clause-ended
returns-in_default-clause-ended g c =
    let old = c.args.parts.now in
    record {
      empty = c.in_default.ensures.none;
      unchanged = ap (λ (x : NecessaryPart). record old { work = record old.work { graph = x } }) c.in_default.ensures.unchanged;
      uncalled = refl;
    }

-- ---- what stays

pub returns-in_default-clause-stays : goal.returns-in_default-clause-stays
returns-in_default-clause-stays g c =
    let old = c.args.parts.now in
    let keeper = g.F.Functions in
    let fs = c.args.functions.now in
    subst (λ (x : NecessaryPart). RoundStays keeper fs fs old (record old { work = record old.work { graph = x } })) (sym c.in_default.ensures.unchanged)
    (nothing_done keeper fs old c.requires)

-- a change was taken: roots, the round and who was called stay in that too
stays_taken : (g : Over) (c : After-step_change g)
    → RoundStays g.F.Functions c.args.functions.now c.step_change.new.functions c.args.parts.now c.step_change.new.parts
stays_taken g c =
    let s = c.step_change.ensures.stays in
    let roots : KeepsRoots c.args.parts.now.work.graph.roots c.step_change.new.parts.work.graph.roots =
    (λ p. s.roots p ∙ ap (λ (x : NecessaryPart). root_times x.roots p) c.pop_least.ensures.rest) in
    assumption (roots, s)

pub returns-in_err-step_change-in-Change-clause-stays : goal.returns-in_err-step_change-in-Change-clause-stays
returns-in_err-step_change-in-Change-clause-stays g c =
    stays_taken g (goal.at.returns-in_err-step_change-in-Change-clause-stays g c).After-step_change

pub returns-in_ok-step_change-in-Change-clause-stays : goal.returns-in_ok-step_change-in-Change-clause-stays
returns-in_ok-step_change-in-Change-clause-stays g c =
    stays_taken g (goal.at.returns-in_ok-step_change-in-Change-clause-stays g c).After-step_change

-- functions fit still after a main
main_fits : (g : Over) (c : After-step_main g)
    → SidesFit (g.F.Functions.known c.step_main.new.functions) (g.F.Functions.right c.step_main.new.functions) c.step_main.new.parts.arena
main_fits g c =
    let keeper = g.F.Functions in
    let k = c.step_main.ensures.functions in
    subst (λ (a : Arena). SidesFit (keeper.known c.step_main.new.functions) (keeper.right c.step_main.new.functions) a)
    (sym (arena_kept c.args.parts.now c.step_main.new.parts c.step_main.ensures.rest))
    (same_fit (keeper.known c.args.functions.now) (keeper.known c.step_main.new.functions) (keeper.right c.args.functions.now)
    (keeper.right c.step_main.new.functions) c.args.parts.now.arena k.same.known k.same.sides c.requires.fit)

pub returns-in-Ok-clause-stays : goal.returns-in-Ok-clause-stays
returns-in-Ok-clause-stays g c =
    let m = c.step_main.ensures in record {
      kept = m.kept;
      fit = main_fits g (goal.at.returns-in-Ok-clause-stays g c).After-step_main;
      functions = m.functions;
      flat = m.flat;
      roots = same_roots c.args.parts.now.work.graph c.pop_least.new.self c.step_main.new.parts.work.graph c.pop_least.ensures.rest
          c.in-Ok.ensures.settled.settled.graph.roots;
      round = c.in-Ok.ensures.settled.settled.round;
      ran = ap (λ (x : Parts). x.ran.items) m.rest;
    }

pub returns-in-Err-clause-stays : goal.returns-in-Err-clause-stays
returns-in-Err-clause-stays g c =
    let p = c.in-Some.p in
    let mid = c.step_main.new.parts in
    let m = c.step_main.ensures in record {
      kept = record {
        work = main_back c.args.parts.now mid c.pop_least.new.self c.insert.new.self
            p p.node (counts_by g.F.Functions c.args.functions.now) (counts_by g.F.Functions c.step_main.new.functions) c.requires.kept.work c.in-Some.ensures.was
            c.pop_least.ensures.rest c.in-Some.ensures.removed c.in-Err.ensures.refused c.insert.ensures.rest c.insert.ensures.inserted
            (arena_kept c.args.parts.now mid m.rest) m.kept.work;
        scopes = m.kept.scopes;
        dying = m.kept.dying;
        clock = m.kept.clock;
        listing = m.kept.listing;
      };
      fit = main_fits g (goal.at.returns-in-Err-clause-stays g c).After-step_main;
      functions = m.functions;
      flat = m.flat;
      roots = same_roots c.args.parts.now.work.graph c.pop_least.new.self c.insert.new.self c.pop_least.ensures.rest
          (ap (λ (x : NecessaryPart). x.roots) c.insert.ensures.rest ∙ ap (λ (x : NecessaryPart). x.roots) c.in-Err.ensures.refused.graph);
      round = c.in-Err.ensures.refused.round;
      ran = ap (λ (x : Parts). x.ran.items) m.rest;
    }

pub returns-in-Err-clause-lacks : goal.returns-in-Err-clause-lacks
returns-in-Err-clause-lacks g c =
    let p = c.in-Some.p in
    lacking.of_main p.node (subst (λ (x : Point). Holds c.args.parts.now.work.graph.heap x) (main_is p c.in-Main.is) c.in-Some.ensures.was) c.in-Err.ensures.lacks
