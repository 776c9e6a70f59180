use Rattle.std.proofs.Common.{◌≡◌, List, Some, refl, sym, ap, ◌∙◌}
use Rattle.inc_value.specs.declared.function.FnRef.{FnRef}
use Rattle.inc_value.specs.declared.node.NodeId.{NodeId}
use Rattle.inc_value.specs.declared.node.Point.{Point}
use Rattle.inc_value.specs.declared.outcome.Outcome.{Outcome}
use Rattle.necessity.proofs.Sound.{on_err}
use Rattle.inc_terms.specs.Depend.{change, subject_of}
use Rattle.inc_terms.specs.Graph.{Bind, Row}
use Rattle.node_arena.specs.Arena.{row_at, row_of}
use Rattle.node_outcomes.specs.Meaning.{meaning_of}
use Rattle.node_outcomes.specs.Row.{outcome_in}
use Rattle.point_map.specs.Rows.{at}
use Rattle.std.proofs.lemmas.Option.{none-some, same_Some}
use Rattle.wiring.specs.declared.refused.Refused.TheVariants.{Memory}
use Rattle.wiring.proofs.Raising.{if_refusal}
use Rattle.wiring.specs.Wiring.{WaitsFor}
use Rattle.stabilizer.specs.declared.build.Recipe.{Recipe}
use Rattle.stabilizer.specs.declared.parts.Parts.{Parts}
use Rattle.stabilizer.specs.Kept.{StaysFlat, counts_by}
use Rattle.stabilizer.specs.Lacking.{SeesText, ChangeLacks, sees_text, builds, gates}
use Rattle.stabilizer.specs.Rebuilding.{BuildsAnew, BuildRefused, as_it_was, IsSeenOf, IsToBuild}
use Rattle.stabilizer.specs.Stepping.{IsUnbuiltBind, IsBuiltFor, built, turned}
use Rattle.stabilizer.proofs.Change.Again.{woken_refused, woken_own, woken_roots, woken_round, woken_kept, by_result, some_of, two_points, has_subject}
use Rattle.stabilizer.proofs.Building.Ends.{if_on_err}
use Rattle.stabilizer.proofs.Change.Changing.{on_ok, both_ok, if_err}
use Rattle.stabilizer.proofs.Change.Lacking.{err_as}
use Rattle.stabilizer.proofs.Step.Staying.{nothing_done, work_moved}
use Rattle.stabilizer.proofs.Change.Turned.{turned_own, turned_settled, turned_roots, turned_round, turned_kept, is_turned}
use Rattle.stabilizer.proofs.stabilizer.turn_change.Given.{Over}
use Rattle.stabilizer.proofs.stabilizer.turn_change.Goals.{After-rebuild-built}
use Rattle.stabilizer.proofs.stabilizer.turn_change.Goals as goal

-- ---- the change is of a live node that has a subject

pub returns-in_default : goal.returns-in_default
returns-in_default g c =
    let two = two_points c.args.parts.now.arena c.args.parts.now.work c.args.node c.requires.may.kept.work c.requires.taken.row in
    absurd (none-some two.0 (c.in_default.ensures ∙ two.1))

pub returns-in_default-subject : goal.returns-in_default-subject
returns-in_default-subject g c =
    has_subject c.args.parts.now.arena c.args.parts.now.work c.args.node c.requires.may.kept.work c.requires.taken.row (row_of c.in-Some.row.now)
    (sym c.in-Some.ensures) (sym c.subject.ensures ∙ c.in_default-subject.is)

-- ---- without memory nothing is done

pub returns-in_err-given-clause-refused : goal.returns-in_err-given-clause-refused
returns-in_err-given-clause-refused g c =
    let old = c.args.parts.now in
    let counts = counts_by g.F.Functions c.args.functions.now in
    if_refusal (BuildRefused (meaning_of g.F.Functions c.args.functions.now) (g.F.Functions.right c.args.functions.now) old old c.args.node counts counts)
    Memory c.from_residual.result c.from_residual.ensures.1 (as_it_was (λ s before. before) refl refl refl)

pub returns-in-Err-clause-refused : goal.returns-in-Err-clause-refused
returns-in-Err-clause-refused g c = as_it_was (λ s before. before) refl refl refl

-- ---- its node is no bind, or is built for the outcome

pub returns-in-Ok-None-clause-quiet : goal.returns-in-Ok-None-clause-quiet
returns-in-Ok-None-clause-quiet g c = if_on_err c.turn_as_built.result (λ e asleep. asleep.quiet) c.turn_as_built.ensures.refused

pub returns-in-Ok-None-clause-turned : goal.returns-in-Ok-None-clause-turned
returns-in-Ok-None-clause-turned g c =
    let old = c.args.parts.now in
    let r = row_of c.in-Some.row.now in
    let ran : IsBuiltFor r.def (outcome_in (at old.work.rows (change c.args.node))) c.in_ok-given.given = c.in-Ok-None.ensures.built c.in-Ok-None.field-0-is in
    on_ok c.turn_as_built.result (λ t. turned (is_turned old.arena old.work t.woken c.turn_as_built.new.work c.args.node c.in-Some-subject.subject r
    c.in_ok-given.given c.requires.may.kept.work c.requires.taken.row c.requires.taken.needed (sym c.in-Some.ensures) (sym c.subject.ensures ∙ c.in-Some-subject.is)
    t.wakes.rest t.turned c.in_ok-given.ensures.outcome ran t.wakes.listed) refl refl) c.turn_as_built.ensures.turned

pub returns-in-Ok-None-clause-refused : goal.returns-in-Ok-None-clause-refused
returns-in-Ok-None-clause-refused g c = if_err c.turn_as_built.result (λ e asleep. woken_refused c.args.parts.now c.turn_as_built.new.work asleep.rest
    c.requires.may.quiet asleep.quiet (meaning_of g.F.Functions c.args.functions.now) (g.F.Functions.right c.args.functions.now) c.args.node (counts_by g.F.Functions c.args.functions.now) e asleep.memory)
    c.turn_as_built.ensures.refused

pub returns-in-Ok-None-clause-settled : goal.returns-in-Ok-None-clause-settled
returns-in-Ok-None-clause-settled g c =
    let old = c.args.parts.now in
    let r = row_of c.in-Some.row.now in
    on_ok c.turn_as_built.result (λ t. turned_settled old.arena old.work t.woken c.turn_as_built.new.work c.args.node c.in-Some-subject.subject r
    c.in_ok-given.given c.requires.may.kept.work c.requires.taken.row c.requires.taken.needed (sym c.in-Some.ensures) (sym c.subject.ensures ∙ c.in-Some-subject.is)
    t.wakes.rest t.turned) c.turn_as_built.ensures.turned

pub returns-in-Ok-None-clause-there : goal.returns-in-Ok-None-clause-there
returns-in-Ok-None-clause-there g c =
    let old = c.args.parts.now in
    let r = row_of c.in-Some.row.now in
    by_result c.turn_as_built.result c.turn_as_built.ensures.turned c.turn_as_built.ensures.refused
    (λ t. turned_own old.arena old.work t.woken c.turn_as_built.new.work c.args.node c.in-Some-subject.subject r
    c.in_ok-given.given c.requires.may.kept.work c.requires.taken.row c.requires.taken.needed (sym c.in-Some.ensures) (sym c.subject.ensures ∙ c.in-Some-subject.is)
    t.wakes.rest t.turned)
    (λ e asleep. woken_own old c.turn_as_built.new.work asleep.rest (change c.args.node) c.requires.taken.row)

-- ---- a bind is built anew

-- a bind that isn't built for what its left shows is to be built
unbuilt_is_due : (parts : Parts) (n : NodeId) (r : Row) (subject : NodeId) (f : FnRef) (captures : List NodeId) (given : Outcome)
    → row_at parts.arena n ≡ Some r → subject_of r.def ≡ Some subject → IsSeenOf parts subject given
    → IsUnbuiltBind r.def f captures (outcome_in (at parts.work.rows (change n))) given → IsToBuild parts n f captures given
unbuilt_is_due parts n r subject f captures given row is_subject sees due =
    let same : due.0 ≡ subject = same_Some due.0 subject (sym (ap subject_of due.1) ∙ is_subject) in
    record {
      row = r;
      left = subject;
      is_row = row;
      is_bind = due.1 ∙ ap (λ (x : NodeId). Bind x f captures) same;
      sees = sees;
      differs = due.2;
    }

module _ (g : Over) (c : After-rebuild-built g) where
  due_now : IsToBuild c.args.parts.now c.args.node c.in-Ok-Some.recipe.function c.in-Ok-Some.recipe.captures c.in_ok-given.given
  due_now =
      let r = row_of c.in-Some.row.now in
      let before = outcome_in (at c.args.parts.now.work.rows (change c.args.node)) in
      let recipe = c.in-Ok-Some.recipe in
      let due : IsUnbuiltBind r.def recipe.function recipe.captures before c.in_ok-given.given =
      some_of (λ (x : Recipe). IsUnbuiltBind r.def x.function x.captures before c.in_ok-given.given)
      c.in-Ok-Some.field-0 recipe c.in-Ok-Some.field-0-is c.in-Ok-Some.ensures.due in
      unbuilt_is_due c.args.parts.now c.args.node r c.in-Some-subject.subject recipe.function recipe.captures c.in_ok-given.given
      (sym c.in-Some.ensures) (sym c.subject.ensures ∙ c.in-Some-subject.is) c.in_ok-given.ensures.outcome due

pub returns-in-Ok-Some-clause-turned : goal.returns-in-Ok-Some-clause-turned
returns-in-Ok-Some-clause-turned g c =
    let to_build = due_now g (goal.at.returns-in-Ok-Some-clause-turned g c).After-rebuild-built in
    both_ok {P = BuildsAnew (meaning_of g.F.Functions c.args.functions.now) c.args.parts.now c.rebuild-built.new.self c.args.node
    (counts_by g.F.Functions c.args.functions.now) (counts_by g.F.Functions c.rebuild-built.new.functions)} c.rebuild-built.result
    (λ anew gives. built to_build anew c.rebuild-built.ensures.stays.calls gives) c.rebuild-built.ensures.built c.rebuild-built.ensures.gives

-- ---- what was lacking

pub returns-in_err-given-clause-lacks : goal.returns-in_err-given-clause-lacks
returns-in_err-given-clause-lacks g c =
    let lacks = c.in_err-given.ensures.lacks in
    let text : SeesText c.args.parts.now c.args.node = record {
      row = row_of c.in-Some.row.now;
      subject = c.in-Some-subject.subject;
      value = lacks.0;
      is_row = sym c.in-Some.ensures;
      is_subject = sym c.subject.ensures ∙ c.in-Some-subject.is;
      shows = lacks.1;
      type = lacks.2;
    } in
    on_err c.from_residual.result (sees_text text)

pub returns-in-Err-clause-lacks : goal.returns-in-Err-clause-lacks
returns-in-Err-clause-lacks g c =
    let due = c.in-Err.ensures.lacks in
    builds (unbuilt_is_due c.args.parts.now c.args.node (row_of c.in-Some.row.now) c.in-Some-subject.subject due.0 due.1 c.in_ok-given.given
    (sym c.in-Some.ensures) (sym c.subject.ensures ∙ c.in-Some-subject.is) c.in_ok-given.ensures.outcome due.2)

pub returns-in-Ok-None-clause-lacks : goal.returns-in-Ok-None-clause-lacks
returns-in-Ok-None-clause-lacks g c =
    let lacks : ((p : Point) × WaitsFor c.args.parts.now.work p (change c.args.node)) → ChangeLacks c.args.parts.now c.args.node =
    (λ w. gates w.0 w.1) in
    err_as c.turn_as_built.result lacks c.turn_as_built.ensures.waits

pub returns-in-Ok-Some-clause-lacks : goal.returns-in-Ok-Some-clause-lacks
returns-in-Ok-Some-clause-lacks g c = on_err c.rebuild-built.result
    (builds (due_now g (goal.at.returns-in-Ok-Some-clause-lacks g c).After-rebuild-built))

-- ---- what stays

pub returns-in_err-given-clause-stays : goal.returns-in_err-given-clause-stays
returns-in_err-given-clause-stays g c =
    nothing_done g.F.Functions c.args.functions.now c.args.parts.now c.requires.may

pub returns-in-Err-clause-stays : goal.returns-in-Err-clause-stays
returns-in-Err-clause-stays g c =
    nothing_done g.F.Functions c.args.functions.now c.args.parts.now c.requires.may

pub returns-in-Ok-None-clause-stays : goal.returns-in-Ok-None-clause-stays
returns-in-Ok-None-clause-stays g c =
    let old = c.args.parts.now in
    let new = c.turn_as_built.new.work in
    let n = c.args.node in
    let subject = c.in-Some-subject.subject in
    let given = c.in_ok-given.given in
    let r = row_of c.in-Some.row.now in
    let row = sym c.in-Some.ensures in
    let is_subject = sym c.subject.ensures ∙ c.in-Some-subject.is in
    let ran : IsBuiltFor r.def (outcome_in (at old.work.rows (change n))) given = c.in-Ok-None.ensures.built c.in-Ok-None.field-0-is in
    let before = nothing_done g.F.Functions c.args.functions.now old c.requires.may in
    by_result c.turn_as_built.result c.turn_as_built.ensures.turned c.turn_as_built.ensures.refused
    (λ t. work_moved g.F.Functions c.args.functions.now old old new before
    (turned_kept old.arena old.work t.woken new n subject r given c.requires.may.kept.work c.requires.taken.row c.requires.taken.needed row is_subject t.wakes.rest
    t.turned c.in_ok-given.ensures.outcome ran)
    (turned_roots old.arena old.work t.woken new n subject r given c.requires.may.kept.work c.requires.taken.row c.requires.taken.needed row is_subject t.wakes.rest
    t.turned)
    (turned_round old.arena old.work t.woken new n subject r given c.requires.may.kept.work c.requires.taken.row c.requires.taken.needed row is_subject t.wakes.rest
    t.turned))
    (λ e asleep. let kept = woken_kept old new asleep.rest c.requires.may.kept in
    work_moved g.F.Functions c.args.functions.now old old new before kept.work (woken_roots old new asleep.rest) (woken_round old new asleep.rest))

pub returns-in-Ok-Some-clause-stays : goal.returns-in-Ok-Some-clause-stays
returns-in-Ok-Some-clause-stays g c =
    let b = c.rebuild-built.ensures in
    let due = due_now g (goal.at.returns-in-Ok-Some-clause-stays g c).After-rebuild-built in
    let flat : StaysFlat c.args.parts.now.arena c.rebuild-built.new.self.arena =
    (λ none. absurd (none c.args.node due.row due.is_row (due.left, c.in-Ok-Some.recipe.function, c.in-Ok-Some.recipe.captures, due.is_bind))) in
    assumption (flat, b, b.stays)
