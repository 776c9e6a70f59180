use Rattle.std.proofs.Common.{◌≡◌, ◌∷◌, ◌+◌, ◌++◌, [], ℕ, suc, length, take, Some, arith, refl, sym, ap, subst, ◌∙◌}
use Rattle.std.proofs.lemmas.List.{length-append}
use Rattle.formula_elab.specs.Functions.{bodies_in, bodies_made}
use Rattle.formula_elab.specs.Make.{make_view}
use Rattle.formula_elab.specs.Plan.{IsNext, with_made}
use Rattle.script_functions.specs.KeepingLaws.{known_map, sides_hold}
use Rattle.script_graph.proofs.Extending.{extends_on}
use Rattle.script_graph.proofs.Making.{next_welcome, next_within, none_made, none_served}
use Rattle.script_graph.specs.Growing.{AllPlannedFit}
use Rattle.session.specs.Making.{KeepsFunctions}
use Rattle.session.proofs.Making.{answers_next, bodies_all, bodies_next, functions_on, functions_stay, functions_within, made_more}
use Rattle.session.proofs.script.declaring.make_all.Goals as goal

pub loop-make-init : goal.loop-make-init
loop-make-init g c = rw c.requires.begins (record {
  makes = refl;
  root = refl;
  answered = (λ is. absurd (cc), λ is. absurd (let e = sym c.requires.waits ∙ is in cc));
  kind = tt;
  made = record { making = none_made _ c.args.graph.now c.args.plan.now.makes c.requires.order; served = none_served _ _ _ };
  within = omega arith;
  functions = functions_stay _ _ _ _;
})

pub make_one-requires-clause-welcome : goal.make_one-requires-clause-welcome
make_one-requires-clause-welcome g c =
    let h = c.loop-make.invariant in
    let e = c.in-Ok-Some.ensures in
    let made = with_made c.loop-make.plan.made c.loop-make.made in
    let next : IsNext c.args.plan.now.makes made (Some (make_view c.in-Ok-Some.make)) = rw (e.made, e.makes, h.makes, c.in-Ok-Some.field-0-is) at e.make in
    let fit = subst (λ l. AllPlannedFit (g.L.Library.known l) c.args.graph.now.nodes c.args.plan.now.makes) (sym h.functions.library) c.requires.fit in
    next_welcome _ c.args.graph.now c.loop-make.graph c.args.plan.now.makes made h.made.making c.keeps_sound-in-Ok-Some.ensures.sound.nodes
    (g.L.Library.known c.loop-make.graph.functions.library) _ _ (known_map _ _) h.made.served (sides_hold _ _ c.keeps_sound-in-Ok-Some.ensures.functions) fit _ next

pub make_one-requires-clause-bodies : goal.make_one-requires-clause-bodies
make_one-requires-clause-bodies g c =
    let h = c.loop-make.invariant in
    let e = c.in-Ok-Some.ensures in
    let made = with_made c.loop-make.plan.made c.loop-make.made in
    let makes = c.args.plan.now.makes in
    let next : IsNext makes made (Some (make_view c.in-Ok-Some.make)) = rw (e.made, e.makes, h.makes, c.in-Ok-Some.field-0-is) at e.make in
    let b = h.functions.bodies in
    let size = ap (λ bs. length bs) b.behind ∙ length-append c.args.graph.now.functions.bodies.items b.more in
    let few = b.few in
    let step = bodies_next makes made _ next in
    let all = bodies_all makes (suc (length made)) in
    let room = c.requires.bodies in
    omega (arith, size, few, step, all, room)

pub make_one-requires-clause-room : goal.make_one-requires-clause-room
make_one-requires-clause-room g c =
    let h = c.loop-make.invariant in
    let e = c.in-Ok-Some.ensures in
    let made = with_made c.loop-make.plan.made c.loop-make.made in
    let next : IsNext c.args.plan.now.makes made (Some (make_view c.in-Ok-Some.make)) = rw (e.made, e.makes, h.makes, c.in-Ok-Some.field-0-is) at e.make in
    let few = h.made.making.few in
    let low = next_within c.args.plan.now.makes made _ next in
    let room = c.requires.room in
    omega (arith, few, low, room)

pub make_one-requires-clause-ids : goal.make_one-requires-clause-ids
make_one-requires-clause-ids g c =
    let h = c.loop-make.invariant in
    let few = h.made.making.given in
    let within = h.within in
    let ids = c.requires.ids in
    omega (arith, few, within, ids)

pub make_one-requires-clause-unbroken : goal.make_one-requires-clause-unbroken
make_one-requires-clause-unbroken g c = c.loop-make.invariant.made.making.extends.beside.top.refused ∙ c.requires.unbroken

pub loop-make-preserved : goal.loop-make-preserved
loop-make-preserved g c =
    let h = c.loop-make.invariant in
    let e = c.in-Ok-Some.ensures in
    let made = with_made c.loop-make.plan.made c.loop-make.made in
    let makes = c.args.plan.now.makes in
    let next : IsNext makes made (Some (make_view c.in-Ok-Some.make)) = rw (e.made, e.makes, h.makes, c.in-Ok-Some.field-0-is) at e.make in
    let one = c.in-Ok.one in
    let new = c.make_one.new.graph in
    let size : length (made ++ one ∷ []) ≡ suc (length made) = (let s = length-append made (one ∷ []) in omega (arith, s)) in
    let step = bodies_next makes made _ next in
    record {
      makes = e.makes ∙ h.makes;
      root = e.root ∙ h.root;
      answered = (λ is. rw c.in-Ok-Some.field-0-is at e.waits, λ is. refl);
      kind = rw (e.makes ∙ h.makes, e.made) (answers_next _ c.loop-make.graph c.make_one.new.graph _ _ _ next one c.in-Ok.ensures.made);
      made = rw e.made (made_more _ _ _ _ _ _ c.args.graph.now c.loop-make.graph c.make_one.new.graph makes made h.made
          c.keeps_sound-in-Ok-Some.ensures.sound.nodes c.make_one.ensures.known _ next one c.in-Ok.ensures.made c.in-Ok.ensures.serves);
      within = rw e.made (let low = next_within makes made _ next in omega (arith, low, size));
      functions = rw e.made (subst (λ (k : ℕ). KeepsFunctions c.args.graph.now.functions.library new.functions.library c.args.graph.now.functions.builds
          new.functions.builds c.args.graph.now.functions.bodies.items new.functions.bodies.items (bodies_in (take k makes))) (sym size)
          (functions_within _ _ _ _ _ _ (bodies_in (take (length made) makes) + bodies_made (make_view c.in-Ok-Some.make))
          (bodies_in (take (suc (length made)) makes)) (omega (arith, step)) (functions_on _ _ _ _ _ _ _ _ _ _ _ h.functions c.make_one.ensures.functions)));
    }

pub returns-in-Ok-None-clause-made : goal.returns-in-Ok-None-clause-made
returns-in-Ok-None-clause-made g c =
    let h = c.loop-make.invariant in
    let e = c.in-Ok-None.ensures in
    let made = with_made c.loop-make.plan.made c.loop-make.made in
    let last = rw c.in-Ok-None.field-0-is at e.last in
    (made, record { so_far = h.made; whole = rw (e.made, e.makes, h.makes) at (last.0 refl) }, rw (e.made, e.root, h.root) at c.root.ensures)

pub returns-in-Err-clause-kept : goal.returns-in-Err-clause-kept
returns-in-Err-clause-kept g c = c.loop-make.invariant.made.making.extends

pub returns-in-Err-make_one-clause-kept : goal.returns-in-Err-make_one-clause-kept
returns-in-Err-make_one-clause-kept g c =
    extends_on _ _ _ c.loop-make.invariant.made.making.extends c.in-Err-make_one.ensures.kept

pub returns-in-Err-clause-functions : goal.returns-in-Err-clause-functions
returns-in-Err-clause-functions g c =
    let made = with_made c.loop-make.plan.made c.loop-make.made in
    let makes = c.args.plan.now.makes in
    functions_within _ _ _ _ _ _ (bodies_in (take (length made) makes)) (bodies_in makes) (bodies_all makes (length made)) c.loop-make.invariant.functions

pub returns-in-Err-make_one-clause-functions : goal.returns-in-Err-make_one-clause-functions
returns-in-Err-make_one-clause-functions g c =
    let h = c.loop-make.invariant in
    let e = c.in-Ok-Some.ensures in
    let made = with_made c.loop-make.plan.made c.loop-make.made in
    let makes = c.args.plan.now.makes in
    let next : IsNext makes made (Some (make_view c.in-Ok-Some.make)) = rw (e.made, e.makes, h.makes, c.in-Ok-Some.field-0-is) at e.make in
    let step = bodies_next makes made _ next in
    let all = bodies_all makes (suc (length made)) in
    functions_within _ _ _ _ _ _ (bodies_in (take (length made) makes) + bodies_made (make_view c.in-Ok-Some.make)) (bodies_in makes)
    (omega (arith, step, all)) (functions_on _ _ _ _ _ _ _ _ _ _ _ h.functions c.make_one.ensures.functions)
