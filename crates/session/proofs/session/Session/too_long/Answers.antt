use Rattle.std.proofs.Common.{ℕ, ◌<◌, ◌++◌, ◌∙◌, List, length, ap, subst}
use Rattle.script_model.specs.Formula.{meanings_of}
use Rattle.script_model.specs.Request.{TooLong}
use Rattle.script_model.specs.Step.{Moment}
use Rattle.session.specs.Replies.{refused_line}
use Rattle.session.specs.declared.answer.Did.TheVariants as did
use Rattle.session.specs.Session.{SessionView}
use Rattle.script_graph.specs.State.{Stands}
use Rattle.session.specs.Taken.{Takes}
use Rattle.session.proofs.Answering.{answered_too_long, taken_of}
use Rattle.session.proofs.Failing.{on_ok_from}
use Rattle.session.proofs.session.Session.too_long.Goals as goal

pub returns-clause-taken : goal.returns-clause-taken
returns-clause-taken g c =
    let l = c.self.inside.script.library in
    let k = c.self.inside.script.kept in
    let F = meanings_of (g.L.Library.named l) (g.L.Library.value l) in
    let out = c.args.out.now.items in
    on_ok_from c.write_refused.result c.write_refused.ensures.ok
    (λ written. subst (λ (s : SessionView g.row.L.Denot). (m : Moment) (line : List ℕ) → 4096 < length line
    → Stands (meanings_of (g.L.Library.named s.library) (g.L.Library.value s.library)) s.kept m
    → Takes (meanings_of (g.L.Library.named s.library) (g.L.Library.value s.library)) m line k out c.write_refused.new.out.items
    (g.L.Library.calls s.library) (g.L.Library.calls l) (did.Refused 2))
    c.self.view_is
    (λ m line long st. taken_of F m line TooLong k out c.write_refused.new.out.items (g.L.Library.calls l) (g.L.Library.calls l)
    (did.Refused 2) st.keep st.valid long
    (answered_too_long F k m out c.write_refused.new.out.items (g.L.Library.calls l) st
    (written ∙ ap (λ n. out ++ refused_line n) c.number.ensures))))
