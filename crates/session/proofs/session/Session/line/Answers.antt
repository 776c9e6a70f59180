use Rattle.std.proofs.Common.{◌≡◌, ◌<◌, refl, subst}
use Rattle.script_model.specs.Formula.{meanings_of}
use Rattle.script_model.specs.Step.{Moment}
use Rattle.session.specs.Replies.{IsAcceptedWritten}
use Rattle.session.specs.Session.{SessionView}
use Rattle.script_graph.specs.State.{Stands}
use Rattle.session.specs.Taken.{Stops, Takes}
use Rattle.session.specs.declared.answer.Did.TheVariants.{Accepted}
use Rattle.session.proofs.Answering.{taken_from}
use Rattle.session.proofs.Failing.{err_from, ok_from}
use Rattle.session.proofs.session.Session.line.Goals as goal

pub returns-clause-taken : goal.returns-clause-taken
returns-clause-taken g c =
    let l = c.self.inside.script.library in
    let now = c.answer_whole.new.script in
    let written = c.args.out.now.items in
    let appended = c.answer_whole.new.out.items in
    ok_from c.answer_whole.result _ _ c.answer_whole.ensures.answered.answered
    (λ how answered. subst (λ (s : SessionView g.row.L.Denot). (m : Moment)
    → Stands (meanings_of (g.L.Library.named s.library) (g.L.Library.value s.library)) s.kept m
    → Takes (meanings_of (g.L.Library.named s.library) (g.L.Library.value s.library)) m c.args.text.now now.kept written appended
    (g.L.Library.calls s.library) (g.L.Library.calls now.library) how)
    c.self.view_is
    (λ m st. taken_from (meanings_of (g.L.Library.named l) (g.L.Library.value l)) m c.args.text.now now.kept written appended
    (g.L.Library.calls l) (g.L.Library.calls now.library) how st.keep st.valid (answered m st)))

pub returns-clause-stopped : goal.returns-clause-stopped
returns-clause-stopped g c =
    let now = c.answer_whole.new.script in
    err_from c.answer_whole.result c.answer_whole.ensures.answered.stopped
    (λ stopped. subst (λ (s : SessionView g.row.L.Denot). (m : Moment) → Stands (meanings_of (g.L.Library.named s.library) (g.L.Library.value s.library))
    s.kept m
    → Stops (meanings_of (g.L.Library.named s.library) (g.L.Library.value s.library)) m c.args.text.now now.kept
    (g.L.Library.calls s.library) (g.L.Library.calls now.library)) c.self.view_is (λ m st. stopped m c.args.text.now st refl))

pub returns-clause-told : goal.returns-clause-told
returns-clause-told g c =
    let now = c.answer_whole.new.script in
    let written = c.args.out.now.items in
    let appended = c.answer_whole.new.out.items in
    ok_from c.answer_whole.result _ _ c.answer_whole.ensures.answered.tells
    (λ how tells. subst (λ (s : SessionView g.row.L.Denot). how ≡ Accepted → s.kept.accepted < now.kept.accepted
    → IsAcceptedWritten now.kept written appended) c.self.view_is tells)
