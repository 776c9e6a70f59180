use Rattle.std.proofs.Common.{◌≡◌, true, List, Some, sym, ap, subst, ◌∙◌}
use Rattle.inc_value.specs.declared.node.Point.{Point}
use Rattle.inc_terms.specs.Depend.{main}
use Rattle.expert_nodes.specs.Experts.{ExpertChanges, ExpertPlace, expert_of, marked as marked_so}
use Rattle.stabilizer.specs.declared.parts.Parts.{Parts}
use Rattle.stabilizer.proofs.Between.Marking.{made_stale}
use Rattle.wiring.specs.Wiring.{IsMarked}
use Rattle.wiring.specs.declared.work.Work.{Work}
use Rattle.stabilizer.proofs.parts.Parts.make_stale.Goals as goal

module _ (c : goal.After-schedule) where
  abbrev old : Parts
  old = c.args.self.now

  abbrev new : Parts
  new = record old { work = c.schedule.new.self }

  experts_are : c.schedule.new.self.experts ≡ c.make_stale.new.self
  experts_are = ap (λ (w : Work). w.experts) c.schedule.ensures.rest

  change : ExpertChanges old.work.experts new.work.experts c.args.expert (Some (marked_so true (expert_of old.work.experts c.args.expert)))
  change = subst (λ (xs : List ExpertPlace). ExpertChanges old.work.experts xs c.args.expert (Some (marked_so true (expert_of old.work.experts c.args.expert))))
      (sym experts_are) c.make_stale.ensures

  marked : IsMarked old.work.graph new.work.graph (main c.args.expert)
  marked = subst (λ (p : Point). IsMarked old.work.graph new.work.graph p) c.main-main.ensures c.schedule.ensures.scheduled

  rest : new ≡ record old { work = record old.work { experts = new.work.experts; graph = new.work.graph } }
  rest = ap (λ (w : Work). record old { work = w }) c.schedule.ensures.rest
      ∙ ap (λ (xs : List ExpertPlace). record old { work = record old.work { experts = xs; graph = new.work.graph } }) (sym experts_are)

pub returns : goal.returns
returns c = made_stale (old c) (new c) c.args.expert c.requires.kept c.requires.created (change c) (marked c) c.schedule.ensures.step (rest c)
