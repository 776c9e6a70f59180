use Rattle.std.proofs.Common.{◌≡◌, ◌⊎◌, inl, inr, List, Some, refl, sym, ap, subst, ◌∙◌}
use Rattle.inc_value.specs.Choice.{Among}
use Rattle.inc_value.specs.declared.node.Point.{Point}
use Rattle.inc_terms.specs.Depend.{main}
use Rattle.expert_nodes.specs.Experts.{ExpertChanges, ExpertPlace, expert_of, with_link}
use Rattle.necessary_graph.specs.Part.{Needed}
use Rattle.stabilizer.specs.declared.parts.Parts.{Parts}
use Rattle.stabilizer.proofs.Between.Linking.{gains_link, gains_nothing}
use Rattle.wiring.specs.Wiring.{IsMarked}
use Rattle.wiring.specs.declared.work.Work.{Work}
use Rattle.stabilizer.proofs.parts.Parts.link.Goals as goal

-- ---- no memory

pub returns-in_default-clause-err : goal.returns-in_default-clause-err
returns-in_default-clause-err c = let old = c.args.self.now in
    gains_nothing old (record old { work = record old.work { todo = c.reserve.new.self } }) c.requires.kept (λ n. refl) c.reserve.ensures.items refl

pub returns-in-Err-clause-err : goal.returns-in-Err-clause-err
returns-in-Err-clause-err c = let old = c.args.self.now in
    gains_nothing old (record old { work = record old.work { experts = c.link.new.self; todo = c.reserve.new.self } }) c.requires.kept
    c.in-Err.ensures.err c.reserve.ensures.items refl

-- ---- it was linked

module _ (c : goal.After-grow) where
  abbrev old : Parts
  old = c.args.self.now

  abbrev new : Parts
  new = record old { work = c.grow.new.work }

  experts_are : new.work.experts ≡ c.link.new.self
  experts_are = ap (λ (w : Work). w.experts) c.grow.ensures.rest

  change : ExpertChanges old.work.experts new.work.experts c.args.expert (Some (with_link c.args.kid (expert_of old.work.experts c.args.expert)))
  change = subst (λ (xs : List ExpertPlace). ExpertChanges old.work.experts xs c.args.expert
      (Some (with_link c.args.kid (expert_of old.work.experts c.args.expert)))) (sym experts_are) c.in-Ok-link.ensures.linked

  marked : IsMarked old.work.graph new.work.graph (main c.args.expert)
  marked = subst (λ (p : Point). IsMarked old.work.graph new.work.graph p) c.main.ensures c.grow.ensures.marked

  listed : Needed old.work.graph (main c.args.expert) → Among (main c.args.expert) new.work.todo.items
  listed = subst (λ (p : Point). Needed old.work.graph p → Among p new.work.todo.items) c.main.ensures c.grow.ensures.listed

  still : (p : Point) → Among p old.work.todo.items → Among p new.work.todo.items
  still p a = c.grow.ensures.still p (subst (Among p) (sym c.reserve.ensures.items) a)

  only : (p : Point) → Among p new.work.todo.items → Among p old.work.todo.items ⊎ (p ≡ main c.args.expert)
  only p a = elim (c.grow.ensures.only p a) [
    | inl had ↦ inl (subst (Among p) c.reserve.ensures.items had)
    | inr is ↦ inr (is ∙ c.main.ensures)
  ]

  rest : new ≡ record old { work = record old.work { experts = new.work.experts; graph = new.work.graph; todo = new.work.todo } }
  rest = ap (λ (w : Work). record old { work = w }) c.grow.ensures.rest
      ∙ ap (λ (xs : List ExpertPlace). record old { work = record old.work { experts = xs; graph = new.work.graph; todo = new.work.todo } })
      (sym experts_are)

pub returns-in-Ok-link-clause-linked : goal.returns-in-Ok-link-clause-linked
returns-in-Ok-link-clause-linked c = gains_link (old c) (new c) c.args.expert c.args.kid c.requires.kept c.requires.fits c.requires.given (change c)
    (marked c) c.grow.ensures.step (listed c) (still c) (rest c) (only c)
