use Rattle.std.proofs.Common.{List, length, arith, ap, subst, sym, IfSome}
use Rattle.formula_elab.specs.Opened.{AreMadeAs}
use Rattle.formula_elab.specs.Plan.{PlanView, IsAnswer}
use Rattle.formula_elab.specs.declared.make.Made.{Made}
use Rattle.formula_elab.proofs.MadeAs.{kinds_with, kinds_within}
use Rattle.formula_elab.proofs.Next.{asked_within, last_next, take_few}
use Rattle.formula_elab.proofs.plan.Plan.next.Goals as goal

pub make_behind-requires-clause-kinds : goal.make_behind-requires-clause-kinds
make_behind-requires-clause-kinds c =
    let inside = c.self.inside in
    let answer = subst (λ (p : PlanView). IfSome c.args.made (IsAnswer p)) (sym c.self.view_is) c.requires.kind in
    rw (c.deref.ensures.value, c.deref-2.ensures.value, c.in_ok-note.ensures.noted)
    (kinds_with inside.makes.items inside.made.items c.args.made c.self.invariant.kinds answer)

pub invariant_of-self-in-Ok : goal.invariant_of-self-in-Ok
invariant_of-self-in-Ok c =
    let inside = c.self.inside in
    let answer = subst (λ (p : PlanView). IfSome c.args.made (IsAnswer p)) (sym c.self.view_is) c.requires.kind in
    let kinds = subst (λ (xs : List Made). AreMadeAs inside.makes.items xs) (sym c.in_ok-note.ensures.noted)
    (kinds_with inside.makes.items inside.made.items c.args.made c.self.invariant.kinds answer) in
    let next = rw (c.deref.ensures.value, c.deref-2.ensures.value) at c.in-Ok.ensures in
    record {
      order = c.self.invariant.order;
      root_within = c.self.invariant.root_within;
      typed = c.self.invariant.typed;
      kinds = kinds;
      waits = λ h. asked_within inside.makes.items c.note.new.made.items c.in-Ok.make next (rw c.is_some-self-inside.ensures at h);
    }

pub returns-in-Ok-clause-last : goal.returns-in-Ok-clause-last
returns-in-Ok-clause-last c =
    let inside = c.self.inside in
    let answer = subst (λ (p : PlanView). IfSome c.args.made (IsAnswer p)) (sym c.self.view_is) c.requires.kind in
    let kinds = subst (λ (xs : List Made). AreMadeAs inside.makes.items xs) (sym c.in_ok-note.ensures.noted)
    (kinds_with inside.makes.items inside.made.items c.args.made c.self.invariant.kinds answer) in
    let next = rw (c.deref.ensures.value, c.deref-2.ensures.value) at c.in-Ok.ensures in
    last_next inside.makes.items c.note.new.made.items c.in-Ok.make next (kinds_within inside.makes.items c.note.new.made.items kinds)

pub returns-in-Ok-clause-within : goal.returns-in-Ok-clause-within
returns-in-Ok-clause-within c =
    let inside = c.self.inside in
    let answer = subst (λ (p : PlanView). IfSome c.args.made (IsAnswer p)) (sym c.self.view_is) c.requires.kind in
    let kinds = subst (λ (xs : List Made). AreMadeAs inside.makes.items xs) (sym c.in_ok-note.ensures.noted)
    (kinds_with inside.makes.items inside.made.items c.args.made c.self.invariant.kinds answer) in
    kinds_within inside.makes.items c.note.new.made.items kinds

pub returns-in-Err-clause-within : goal.returns-in-Err-clause-within
returns-in-Err-clause-within c =
    let few = kinds_within c.self.inside.makes.items c.self.inside.made.items c.self.invariant.kinds in
    let size = take_few c.len-count.result c.note.new.made.items in
    omega (arith, few, size, ap length c.truncate.ensures.items, c.len-count.ensures, c.self.inside.made.ok.0)

pub returns-in_err-note-clause-within : goal.returns-in_err-note-clause-within
returns-in_err-note-clause-within c =
    let few = kinds_within c.self.inside.makes.items c.self.inside.made.items c.self.invariant.kinds in
    omega (arith, few, ap length c.in_err-note.ensures.err)
