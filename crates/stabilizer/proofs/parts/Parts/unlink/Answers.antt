use Rattle.std.proofs.Common.{◌≡◌, List, Some, sym, ap, subst, ◌∙◌}
use Rattle.inc_value.specs.declared.node.Point.{Point}
use Rattle.inc_terms.specs.Depend.{main}
use Rattle.expert_nodes.specs.Experts.{ExpertChanges, ExpertPlace, expert_of, without_link}
use Rattle.link_table.specs.Links.{Reads}
use Rattle.necessary_graph.specs.Part.{NecessaryPart, Needed}
use Rattle.stabilizer.specs.declared.parts.Parts.{Parts}
use Rattle.stabilizer.proofs.Between.Unlinking.{IsOff, loses_link, reads_taken}
use Rattle.wiring.specs.Wiring.{IsMarked}
use Rattle.wiring.specs.declared.work.Work.{Work}
use Rattle.stabilizer.proofs.parts.Parts.unlink.Goals as goal

pub cut-requires-clause-reads : goal.cut-requires-clause-reads
cut-requires-clause-reads c taken need =
    let old = c.args.self.now in
    subst (λ (x : Point). Reads old.work.graph.links x c.main.result) (sym c.main-p.ensures)
    (subst (λ (y : Point). Reads old.work.graph.links (main c.args.expert) y) (sym c.main.ensures)
    (reads_taken c.requires.ready.0 old c.args.expert c.args.kid c.requires.ready.1 c.requires.created
    (subst (Needed old.work.graph) c.main-p.ensures need) (c.in-Ok.ensures.taken.0 taken)))

module _ (c : goal.After-schedule) where
  abbrev old : Parts
  old = c.args.self.now

  abbrev middle : NecessaryPart
  middle = c.cut.new.work.graph

  abbrev new : Parts
  new = record old { work = c.schedule.new.self }

  work_is : new.work ≡ record old.work { experts = c.unlink.new.self; graph = new.work.graph }
  work_is = c.schedule.ensures.rest ∙ ap (λ (w : Work). record w { graph = new.work.graph }) c.cut.ensures.rest

  experts_are : new.work.experts ≡ c.unlink.new.self
  experts_are = ap (λ (w : Work). w.experts) work_is

  change : ExpertChanges old.work.experts new.work.experts c.args.expert
      (Some (without_link c.args.kid c.in-Ok.taken_up (expert_of old.work.experts c.args.expert)))
  change = subst (λ (xs : List ExpertPlace). ExpertChanges old.work.experts xs c.args.expert
      (Some (without_link c.args.kid c.in-Ok.taken_up (expert_of old.work.experts c.args.expert)))) (sym experts_are) c.in-Ok.ensures.unlinked

  off : IsOff old middle c.args.expert c.args.kid c.in-Ok.taken_up
  off = rw (← c.main-p.ensures, ← c.main.ensures) c.cut.ensures.off

  marked : IsMarked middle new.work.graph (main c.args.expert)
  marked = subst (λ (p : Point). IsMarked middle new.work.graph p) c.main-p.ensures c.schedule.ensures.scheduled

  rest : new ≡ record old { work = record old.work { experts = new.work.experts; graph = new.work.graph } }
  rest = ap (λ (w : Work). record old { work = w }) work_is
      ∙ ap (λ (xs : List ExpertPlace). record old { work = record old.work { experts = xs; graph = new.work.graph } }) (sym experts_are)

pub returns-in-Ok-clause-unlinked : goal.returns-in-Ok-clause-unlinked
returns-in-Ok-clause-unlinked c = loses_link (old c) (new c) (middle c) c.args.expert c.args.kid c.in-Ok.taken_up c.requires.kept c.requires.created (change c)
    c.in-Ok.ensures.taken c.in-Ok.ensures.there (off c) c.cut.ensures.step (marked c) c.schedule.ensures.step (rest c)
