use Rattle.std.proofs.Common.{◌≡◌, ◌++◌, List, [], ◌∷◌, Some, sym, ap, subst, ◌∙◌}
use Rattle.std.specs.Prelude.{is_some}
use Rattle.inc_value.specs.Choice.{Among}
use Rattle.inc_value.specs.declared.node.NodeId.{NodeId}
use Rattle.inc_value.specs.declared.node.Point.{Point}
use Rattle.inc_terms.specs.Code.{def_of}
use Rattle.inc_terms.specs.Depend.{change}
use Rattle.point_map.specs.Rows.{Changes}
use Rattle.necessary_graph.specs.Part.{Needed}
use Rattle.node_lists.specs.Listed.{Listed}
use Rattle.node_outcomes.specs.Progress.{new_row}
use Rattle.wiring.specs.declared.work.Work.{Work}
use Rattle.wiring.proofs.Deciding.{need_same}
use Rattle.wiring.proofs.Placing.{stays_twice, stays_listed, stays_then_listed, by_part, both_points, both_rows, on_and_off, among_before, among_last}
use Rattle.wiring.proofs.work.Work.add_pair.Goals as goal

-- a point that wasn't there isn't needed
pub drop_point-requires-clause-unneeded : goal.drop_point-requires-clause-unneeded
drop_point-requires-clause-unneeded c need =
    let was : Needed c.args.self.now.graph (change c.args.node) =
    need_same c.add-2.new.self.graph c.args.self.now.graph (sym (c.add-2.ensures.stays.links ∙ c.add.ensures.stays.links))
    (sym (c.add-2.ensures.stays.roots ∙ c.add.ensures.stays.roots)) (change c.args.node)
    (subst (λ (p : Point). Needed c.add-2.new.self.graph p) c.change-own.ensures need) in
    absurd (let there = sym (c.requires.step.there (change c.args.node) was) ∙ ap is_some c.requires.no_change.0 in cc)

pub returns-clause-added : goal.returns-clause-added
returns-clause-added c =
    let old = c.args.self.now.graph.heights in
    let mid = c.add.new.self.graph.heights in (
      by_part c.min.result c.args.height,
      both_points old mid c.add-2.new.self.graph.heights c.args.node c.min.result c.args.height
          (subst (λ (p : Point). Changes old mid p (Some c.args.height)) c.change-own.ensures c.in-Ok-add.ensures.added)
          (subst (λ (p : Point). Changes mid c.add-2.new.self.graph.heights p (Some c.min.result)) c.main.ensures c.in-Ok-add-2.ensures.added),
    )

pub returns-in_default-add-2-clause-err : goal.returns-in_default-add-2-clause-err
returns-in_default-add-2-clause-err c =
    on_and_off c.args.self.now.rows c.add.new.self.rows c.add-2.new.self.rows c.drop_point.new.self.rows (change c.args.node) _ _ _
    c.change-own.ensures c.change-own.ensures c.requires.no_change.1 c.in-Ok-add.ensures.row c.in_default-add-2.ensures.err c.drop_point.ensures.row

pub returns-in_default-add-2-clause-err_heights : goal.returns-in_default-add-2-clause-err_heights
returns-in_default-add-2-clause-err_heights c =
    on_and_off c.args.self.now.graph.heights c.add.new.self.graph.heights c.add-2.new.self.graph.heights c.drop_point.new.self.graph.heights
    (change c.args.node) _ _ _ c.change-own.ensures c.change-own.ensures c.requires.no_change.0 c.in-Ok-add.ensures.added
    c.in_default-add-2.ensures.err_heights c.drop_point.ensures.dropped

pub returns-clause-pairs : goal.returns-clause-pairs
returns-clause-pairs c =
    let node = c.args.node in
    let before = c.reserve.new.self.nodes in
    let same = ap (λ (w : Work). w.pairs.nodes) c.add-2.ensures.rest ∙ ap (λ (w : Work). w.pairs.nodes) c.add.ensures.rest in
    let nodes : c.add-3.new.self.nodes ≡ before ++ node ∷ [] =
    c.add-3.ensures.nodes ∙ ap (λ (ns : List NodeId). ns ++ node ∷ []) same in (
      subst (λ (ns : List NodeId). Among node ns) (sym nodes) (among_last node before),
      λ n live listed. subst (λ (ns : List NodeId). Among n ns) (sym nodes) (among_before n node before (c.reserve.ensures.kept n live listed)),
    )

pub returns-clause-rows : goal.returns-clause-rows
returns-clause-rows c =
    let old = c.args.self.now.rows in
    let mid = c.add.new.self.rows in
    let new = c.add-2.new.self.rows in
    both_rows old mid new c.args.node (new_row (def_of c.args.def.now))
    (subst (λ (p : Point). Changes old mid p (Some (new_row (def_of c.args.def.now)))) c.change-own.ensures c.in-Ok-add.ensures.row)
    (subst (λ (p : Point). Changes mid new p (Some (new_row (def_of c.args.def.now)))) c.main.ensures c.in-Ok-add-2.ensures.row)

-- without memory no node is listed

pub returns-in_default-add-clause-err_fewer_pairs : goal.returns-in_default-add-clause-err_fewer_pairs
returns-in_default-add-clause-err_fewer_pairs c n listed =
    c.reserve.ensures.fewer n (subst (λ (w : Work). Among n w.pairs.nodes) c.add.ensures.rest listed)

pub returns-in_default-add-2-clause-err_fewer_pairs : goal.returns-in_default-add-2-clause-err_fewer_pairs
returns-in_default-add-2-clause-err_fewer_pairs c n listed =
    let pairs : Work → Listed = λ w. w.pairs in
    let same = ap pairs c.drop_point.ensures.rest ∙ (ap pairs c.add-2.ensures.rest ∙ ap pairs c.add.ensures.rest) in
    c.reserve.ensures.fewer n (subst (λ (l : Listed). Among n l.nodes) same listed)

-- ---- what stays

pub returns-clause-experts : goal.returns-clause-experts
returns-clause-experts c = ap (λ (w : Work). w.experts) c.add-2.ensures.rest ∙ ap (λ (w : Work). w.experts) c.add.ensures.rest

pub returns-in_default-add-clause-experts : goal.returns-in_default-add-clause-experts
returns-in_default-add-clause-experts c = ap (λ (w : Work). w.experts) c.add.ensures.rest

pub returns-in_default-add-2-clause-experts : goal.returns-in_default-add-2-clause-experts
returns-in_default-add-2-clause-experts c = ap (λ (w : Work). w.experts) c.drop_point.ensures.rest
    ∙ (ap (λ (w : Work). w.experts) c.add-2.ensures.rest ∙ ap (λ (w : Work). w.experts) c.add.ensures.rest)

pub returns-clause-stays : goal.returns-clause-stays
returns-clause-stays c =
    let old = c.args.self.now in
    let mid = c.add.new.self in
    let new = c.add-2.new.self in
    stays_then_listed old new c.add-3.new.self new.scoped
    (stays_twice old mid new (stays_listed old mid c.reserve.new.self old.scoped c.add.ensures.stays) c.add-2.ensures.stays)

pub returns-in_default-add-2-clause-stays : goal.returns-in_default-add-2-clause-stays
returns-in_default-add-2-clause-stays c =
    let old = c.args.self.now in
    let mid = c.add.new.self in
    let most = c.add-2.new.self in
    stays_twice old most c.drop_point.new.self
    (stays_twice old mid most (stays_listed old mid c.reserve.new.self old.scoped c.add.ensures.stays) c.add-2.ensures.stays) c.drop_point.ensures.stays

pub returns-in_default-add-clause-err_pairs : goal.returns-in_default-add-clause-err_pairs
returns-in_default-add-clause-err_pairs c n live listed =
    subst (λ (w : Work). Among n w.pairs.nodes) (sym c.add.ensures.rest) (c.reserve.ensures.kept n live listed)

pub returns-in_default-add-2-clause-err_pairs : goal.returns-in_default-add-2-clause-err_pairs
returns-in_default-add-2-clause-err_pairs c n live listed =
    let pairs : Work → Listed = λ w. w.pairs in
    let same = ap pairs c.drop_point.ensures.rest ∙ (ap pairs c.add-2.ensures.rest ∙ ap pairs c.add.ensures.rest) in
    subst (λ (l : Listed). Among n l.nodes) (sym same) (c.reserve.ensures.kept n live listed)

-- ---- a change that comes and goes

pub drop_point-requires-clause-there : goal.drop_point-requires-clause-there
drop_point-requires-clause-there c =
    let own = c.change-own.result in ap is_some (c.in_default-add-2.ensures.err_heights own ∙ c.in-Ok-add.ensures.added.changed)

pub drop_point-requires-clause-row : goal.drop_point-requires-clause-row
drop_point-requires-clause-row c =
    let own = c.change-own.result in ap is_some (c.in_default-add-2.ensures.err own ∙ c.in-Ok-add.ensures.row.changed)
