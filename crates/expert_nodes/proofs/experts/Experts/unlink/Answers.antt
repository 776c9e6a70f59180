use Rattle.std.proofs.Common.{◌≡◌, ◌↔◌, true, subst, sym}
use Rattle.std.specs.Prelude.{IfOk, OnErr, OnOk}
use Rattle.inc_value.specs.Choice.{Among}
use Rattle.point_map.specs.Rows.{at}
use Rattle.expert_nodes.specs.Experts.{Expert, kids_of_expert, without_link}
use Rattle.expert_nodes.proofs.Seeing.{expert_is, if_ok_to, on_err_to, some_mut, there_at, written_as, written_same}
use Rattle.expert_nodes.proofs.experts.Experts.unlink.Goals as goal

pub unwrap-expert-requires : goal.unwrap-expert-requires
unwrap-expert-requires c = some_mut c.get_mut.result (at c.self.inside.experts c.point_of.result) c.get_mut.ensures.value
    (there_at c.self.inside.experts c.args.self.now c.args.id c.point_of.result c.self.view_is c.point_of.ensures c.requires.created)

pub returns-clause-unlinked : goal.returns-clause-unlinked
returns-clause-unlinked c =
    let was = rw c.unwrap-expert.ensures at c.get_mut.ensures.value in
    let written = rw c.unwrap-expert.ensures at (c.get_mut.follows.holds c.unlink.new.self) in
    if_ok_to c.unlink.result (λ taken e. written_as c.self.inside.experts _ c.args.self.now c.args.id c.point_of.result c.unwrap-expert.result.now c.unlink.new.self c.self.view_is
    c.point_of.ensures was written.changes (without_link c.args.kid taken) e) c.unlink.ensures.unlinked

pub returns-clause-there : goal.returns-clause-there
returns-clause-there c =
    let was = rw c.unwrap-expert.ensures at c.get_mut.ensures.value in
    subst (λ (e : Expert). OnOk c.unlink.result (Among c.args.kid (kids_of_expert e))) (sym (expert_is c.self.inside.experts c.args.self.now c.args.id c.point_of.result c.unwrap-expert.result.now c.self.view_is c.point_of.ensures was)) c.unlink.ensures.there

pub returns-clause-taken : goal.returns-clause-taken
returns-clause-taken c =
    let was = rw c.unwrap-expert.ensures at c.get_mut.ensures.value in
    subst (λ (e : Expert). IfOk c.unlink.result (λ taken. taken ≡ true ↔ Among c.args.kid e.taken)) (sym (expert_is c.self.inside.experts c.args.self.now c.args.id c.point_of.result c.unwrap-expert.result.now c.self.view_is c.point_of.ensures was)) c.unlink.ensures.taken

pub returns-clause-absent : goal.returns-clause-absent
returns-clause-absent c =
    let was = rw c.unwrap-expert.ensures at c.get_mut.ensures.value in
    subst (λ (e : Expert). OnErr c.unlink.result (Among c.args.kid (kids_of_expert e) → ⊥)) (sym (expert_is c.self.inside.experts c.args.self.now c.args.id c.point_of.result c.unwrap-expert.result.now c.self.view_is c.point_of.ensures was)) c.unlink.ensures.absent

pub returns-clause-err : goal.returns-clause-err
returns-clause-err c =
    let was = rw c.unwrap-expert.ensures at c.get_mut.ensures.value in
    let written = rw c.unwrap-expert.ensures at (c.get_mut.follows.holds c.unlink.new.self) in
    on_err_to c.unlink.result (written_same c.self.inside.experts _ c.args.self.now c.args.id c.point_of.result c.unwrap-expert.result.now c.unlink.new.self c.self.view_is
    c.point_of.ensures was written.changes) c.unlink.ensures.err
