use Rattle.std.proofs.Common.{◌≡◌, ℕ, List, Err, None, Some, refl, sym, ◌∙◌, ap, subst}
use Rattle.formula_lang.specs.declared.command.Declaration.{Declaration}
use Rattle.formula_lang.specs.CommandView.{body_view, command_view}
use Rattle.line_parser.specs.TreeView.{line_view}
use Rattle.script_model.specs.Check.{Names, Declare, Observe, Show, Take, Unobserve, Watch, command_of, first_that, is_against, line_order}
use Rattle.script_model.specs.Formula.{meanings_of}
use Rattle.script_model.specs.Grammar.{Line}
use Rattle.script_model.specs.Request.{Asks, IsRequest}
use Rattle.script_model.proofs.Binds.{few_binds}
use Rattle.session.specs.Carried.{Performs}
use Rattle.session.proofs.Answering.{answered_broken, answered_refused, followed_line, stabilize_line}
use Rattle.session.proofs.Carried.{carried_nothing, carried_on, carried_refused, performed_as}
use Rattle.session.proofs.Failing.{none_of}
use Rattle.session.proofs.answer.carry_out.Goals.{in-Declare, in-Grab, in-Assign, in-Observe, in-Unobserve, in-Watch, in-Link, in-Unlink, in-Stale, in-Advance, in-Stabilize, in-Show}
use Rattle.session.proofs.answer.carry_out.Goals as goal

pub returns-in-Some : goal.returns-in-Some
returns-in-Some g c = carried_refused _ _ _ _ _ _ _ _ _ 22 _ _ c.refuse_broken.ensures (λ m st written.
    answered_broken _ _ m (line_view c.args.line.now) c.in-Some.number _ _ _ st (sym c.broken.ensures ∙ c.in-Some.is) written)

pub returns : goal.returns
returns g c =
    let l = c.args.script.now.library in
    let k = c.args.script.now.kept in
    let F = meanings_of (g.L.Library.named l) (g.L.Library.value l) in
    let line = line_view c.args.line.now in
    let command = command_view c.in-Ok.command in
    let allowed = subst (λ (x : g.row.L.Denot). (first_that (is_against (meanings_of (g.L.Library.named x) (g.L.Library.value x)) k.names line) line_order ≡ None)
    × (command_of (meanings_of (g.L.Library.named x) (g.L.Library.value x)) k.names line ≡ Some command)) c.library.ensures
    (subst (λ (n : Names). (first_that (is_against (meanings_of (g.L.Library.named c.library.result.now) (g.L.Library.value c.library.result.now)) n line) line_order ≡ None)
    × (command_of (meanings_of (g.L.Library.named c.library.result.now) (g.L.Library.value c.library.result.now)) n line ≡ Some command)) c.names.ensures c.in-Ok.ensures.allowed) in
    let performed : Performs (λ x. meanings_of (g.L.Library.named x) (g.L.Library.value x)) g.L.Library.known g.L.Library.calls command
    c.args.script.now c.match-command.script c.args.out.now.items c.match-command.out.items c.match-command.done = elim c.match-command.branch [
      | in-Declare w ↦ let is = ap (λ (n : List ℕ). Declare n w.in-Declare.ty (body_view w.deref.result.now)) w.bytes.ensures ∙ ap (λ (b : Declaration). Declare w.in-Declare.name w.in-Declare.ty (body_view b)) w.deref.ensures ∙ ap command_view (sym w.in-Declare.is) in rw (w.script-is, w.out-is, w.done-is) (performed_as _ _ _ _ _ is _ _ _ _ _ w.declare-done.ensures)
      | in-Grab w ↦ let is = ap (λ (n : List ℕ). Take n w.in-Grab.ty w.in-Grab.bind) w.bytes-in-Grab.ensures ∙ ap command_view (sym w.in-Grab.is) in rw (w.script-is, w.out-is, w.done-is) (performed_as _ _ _ _ _ is _ _ _ _ _ w.grab-done.ensures)
      | in-Assign w ↦ let is = ap command_view (sym w.in-Assign.is) in rw (w.script-is, w.out-is, w.done-is) (performed_as _ _ _ _ _ is _ _ _ _ _ w.set-done.ensures)
      | in-Observe w ↦ let is = ap (λ (n : List ℕ). Observe n w.in-Observe.target) w.bytes-in-Observe.ensures ∙ ap command_view (sym w.in-Observe.is) in rw (w.script-is, w.out-is, w.done-is) (performed_as _ _ _ _ _ is _ _ _ _ _ w.observe-done.ensures)
      | in-Unobserve w ↦ let is = ap (λ (n : List ℕ). Unobserve n) w.bytes-in-Unobserve.ensures ∙ ap command_view (sym w.in-Unobserve.is) in rw (w.script-is, w.out-is, w.done-is) (performed_as _ _ _ _ _ is _ _ _ _ _ w.unobserve-done.ensures)
      | in-Watch w ↦ let is = ap (λ (n : List ℕ). Watch n) w.bytes-in-Watch.ensures ∙ ap command_view (sym w.in-Watch.is) in rw (w.script-is, w.out-is, w.done-is) (performed_as _ _ _ _ _ is _ _ _ _ _ w.watch-done.ensures)
      | in-Link w ↦ let is = ap command_view (sym w.in-Link.is) in rw (w.script-is, w.out-is, w.done-is) (performed_as _ _ _ _ _ is _ _ _ _ _ w.link-done.ensures)
      | in-Unlink w ↦ let is = ap command_view (sym w.in-Unlink.is) in rw (w.script-is, w.out-is, w.done-is) (performed_as _ _ _ _ _ is _ _ _ _ _ w.unlink-done.ensures)
      | in-Stale w ↦ let is = ap command_view (sym w.in-Stale.is) in rw (w.script-is, w.out-is, w.done-is) (performed_as _ _ _ _ _ is _ _ _ _ _ w.make_stale-done.ensures)
      | in-Advance w ↦ let is = ap command_view (sym w.in-Advance.is) in rw (w.script-is, w.out-is, w.done-is) (performed_as _ _ _ _ _ is _ _ _ _ _ w.advance-done.ensures)
      | in-Stabilize w ↦ let is = ap command_view (sym w.in-Stabilize.is) in rw (w.script-is, w.out-is, w.done-is) (performed_as _ _ _ _ _ is _ _ _ _ _ w.stabilize-done.ensures)
      | in-Show w ↦ let is = ap (λ (n : List ℕ). Show n) w.bytes-in-Show.ensures ∙ ap command_view (sym w.in-Show.is) in rw (w.script-is, w.out-is, w.done-is) (performed_as _ _ _ _ _ is _ _ _ _ _ w.show-done.ensures)
    ] in
    carried_on _ _ _ _ _ _ _ _ _ _ _ _ _ _ performed
    (λ m after replies st leads. followed_line F k m after replies line command st (sym c.broken.ensures ∙ none_of c.broken.result c.in_default.not-Some)
    allowed.0 allowed.1 leads)
    (λ bytes asks stabilizes. subst (λ (x : Line). IsRequest bytes (Asks x)) (stabilize_line F k.names line
    (allowed.1 ∙ ap (λ x. Some x) stabilizes)) asks)
    (λ stabilizes. stabilize_line F k.names line (allowed.1 ∙ ap (λ x. Some x) stabilizes))

pub declare-done-requires-clause-binds : goal.declare-done-requires-clause-binds
declare-done-requires-clause-binds g c =
    let l = c.library.result.now in
    let few = few_binds (meanings_of (g.L.Library.named l) (g.L.Library.value l)) c.names.result.now c.requires.asked.0 (line_view c.args.line.now)
    (command_view c.in-Ok.command) c.requires.asked.1 c.in-Ok.ensures.allowed.1 in
    rw c.deref.ensures (rw c.in-Declare.is at few)

pub returns-in-Err-Refusal : goal.returns-in-Err-Refusal
returns-in-Err-Refusal g c =
    let l = c.args.script.now.library in
    let k = c.args.script.now.kept in
    let line = line_view c.args.line.now in
    let number = c.in-Err-Refusal.number in
    let why = c.in-Err-Refusal.ensures.refused number (ap (λ e. Err e) c.in-Err-Refusal.field-0-is) in
    let refused = subst (λ (x : g.row.L.Denot). first_that (is_against (meanings_of (g.L.Library.named x) (g.L.Library.value x)) k.names line) line_order ≡ Some why.0)
    c.library.ensures (subst (λ (n : Names). first_that (is_against (meanings_of (g.L.Library.named c.library.result.now)
    (g.L.Library.value c.library.result.now)) n line) line_order ≡ Some why.0) c.names.ensures why.1) in
    carried_refused _ _ _ _ _ _ _ _ _ number _ _ c.refuse.ensures (λ m st written.
    answered_refused _ k m line why.0 number _ _ _ st (sym c.broken.ensures ∙ none_of c.broken.result c.in_default.not-Some) refused why.2 written)

pub returns-in-Err-Memory : goal.returns-in-Err-Memory
returns-in-Err-Memory g c = carried_nothing _ _ _ _ _ _ _ _ _ _ refl
