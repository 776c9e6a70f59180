use Rattle.std.proofs.Common.{List, None, refl, sym, ap, subst, ◌∙◌}
use Rattle.inc_value.specs.declared.node.Point.{Point}
use Rattle.inc_terms.specs.Depend.{main}
use Rattle.expert_nodes.specs.Experts.{ExpertChanges, ExpertPlace}
use Rattle.point_map.specs.Rows.{Changes}
use Rattle.necessary_graph.specs.Part.{Needed}
use Rattle.wiring.specs.declared.work.Work.{Work}
use Rattle.wiring.proofs.Linking.{none_if}
use Rattle.wiring.proofs.Placing.{both_gone, one_gone, change_still, stays_after, stays_twice}
use Rattle.wiring.proofs.work.Work.drop_node.Goals as goal

pub drop_point-requires-clause-unneeded : goal.drop_point-requires-clause-unneeded
drop_point-requires-clause-unneeded c need =
    c.requires.unneeded (main c.args.node) refl (subst (λ (p : Point). Needed c.args.self.now.graph p) c.main.ensures need)

pub returns-then-holds-clause-rows : goal.returns-then-holds-clause-rows
returns-then-holds-clause-rows c =
    let old = c.args.self.now.rows in
    let mid = c.drop_point.new.self.rows in
    let new = c.drop_point-then-holds.new.self.rows in
    both_gone old mid new c.args.node (subst (λ (p : Point). Changes old mid p None) c.main.ensures c.drop_point.ensures.row)
    (subst (λ (p : Point). Changes mid new p None) c.change-own.ensures c.drop_point-then-holds.ensures.row)

pub returns-then-holds-clause-dropped : goal.returns-then-holds-clause-dropped
returns-then-holds-clause-dropped c =
    let old = c.args.self.now.graph.heights in
    let mid = c.drop_point.new.self.graph.heights in
    let new = c.drop_point-then-holds.new.self.graph.heights in
    both_gone old mid new c.args.node (subst (λ (p : Point). Changes old mid p None) c.main.ensures c.drop_point.ensures.dropped)
    (subst (λ (p : Point). Changes mid new p None) c.change-own.ensures c.drop_point-then-holds.ensures.dropped)

pub returns-then-holds-clause-stays : goal.returns-then-holds-clause-stays
returns-then-holds-clause-stays c =
    stays_after c.args.self.now c.drop_point-then-holds.new.self c.forget_expert.new.experts
    (stays_twice (record c.args.self.now { experts = c.forget_expert.new.experts }) c.drop_point.new.self c.drop_point-then-holds.new.self
    c.drop_point.ensures.stays c.drop_point-then-holds.ensures.stays)

pub returns-then-holds-clause-expert : goal.returns-then-holds-clause-expert
returns-then-holds-clause-expert c =
    subst (λ (x : List ExpertPlace). ExpertChanges c.args.self.now.experts x c.args.node None) (sym (ap (λ (w : Work). w.experts)
    c.drop_point-then-holds.ensures.rest ∙ ap (λ (w : Work). w.experts) c.drop_point.ensures.rest)) c.forget_expert.ensures.forgotten

pub returns-then-holds-clause-no_expert : goal.returns-then-holds-clause-no_expert
returns-then-holds-clause-no_expert c none = (ap (λ (w : Work). w.experts) c.drop_point-then-holds.ensures.rest
    ∙ ap (λ (w : Work). w.experts) c.drop_point.ensures.rest) ∙ c.forget_expert.ensures.kept none

pub returns-then-holds-clause-rest : goal.returns-then-holds-clause-rest
returns-then-holds-clause-rest c =
    let new = c.drop_point-then-holds.new.self in
    let experts = ap (λ (w : Work). w.experts) c.drop_point-then-holds.ensures.rest ∙ ap (λ (w : Work). w.experts) c.drop_point.ensures.rest in
    c.drop_point-then-holds.ensures.rest ∙ (ap (λ (w : Work). record w { graph = new.graph; rows = new.rows }) c.drop_point.ensures.rest
    ∙ ap (λ (x : List ExpertPlace). record c.args.self.now { graph = new.graph; rows = new.rows; experts = x }) (sym experts))

-- ---- a node of one point

pub returns-else-holds-clause-stays : goal.returns-else-holds-clause-stays
returns-else-holds-clause-stays c =
    stays_after c.args.self.now c.drop_point.new.self c.forget_expert.new.experts c.drop_point.ensures.stays

pub returns-else-holds-clause-expert : goal.returns-else-holds-clause-expert
returns-else-holds-clause-expert c =
    subst (λ (x : List ExpertPlace). ExpertChanges c.args.self.now.experts x c.args.node None)
    (sym (ap (λ (w : Work). w.experts) c.drop_point.ensures.rest)) c.forget_expert.ensures.forgotten

pub returns-else-holds-clause-no_expert : goal.returns-else-holds-clause-no_expert
returns-else-holds-clause-no_expert c none = ap (λ (w : Work). w.experts) c.drop_point.ensures.rest ∙ c.forget_expert.ensures.kept none

pub returns-else-holds-clause-rest : goal.returns-else-holds-clause-rest
returns-else-holds-clause-rest c =
    let new = c.drop_point.new.self in
    c.drop_point.ensures.rest ∙ ap (λ (x : List ExpertPlace). record c.args.self.now { graph = new.graph; rows = new.rows; experts = x })
    (sym (ap (λ (w : Work). w.experts) c.drop_point.ensures.rest))

pub returns-else-holds-clause-rows : goal.returns-else-holds-clause-rows
returns-else-holds-clause-rows c =
    let old = c.args.self.now.rows in
    let new = c.drop_point.new.self.rows in
    one_gone old new c.args.node (subst (λ (p : Point). Changes old new p None) c.main.ensures c.drop_point.ensures.row)
    (rw c.change-own.ensures at (none_if _ (sym c.holds.ensures ∙ c.if-holds.false)))

pub returns-else-holds-clause-dropped : goal.returns-else-holds-clause-dropped
returns-else-holds-clause-dropped c =
    let n = c.args.node in
    let old = c.args.self.now in
    let new = c.drop_point.new.self in
    let row = subst (λ (p : Point). Changes old.rows new.rows p None) c.main.ensures c.drop_point.ensures.row in
    let place = subst (λ (p : Point). Changes old.graph.heights new.graph.heights p None) c.main.ensures c.drop_point.ensures.dropped in
    let none = rw c.change-own.ensures at (none_if _ (sym c.holds.ensures ∙ c.if-holds.false)) in
    let was = sym (change_still old.rows new.rows n None row) ∙ none in
    one_gone old.graph.heights new.graph.heights n place (change_still old.graph.heights new.graph.heights n None place ∙ c.requires.no_change was)
