use Rattle.std.proofs.Common.{◌≡◌, ◌∙◌, sym, subst, false}
use Rattle.inc_value.specs.Outcome.{IsNoText}
use Rattle.observers.specs.Keeping.{is_left}
use Rattle.observers.proofs.Covering.{light_then}
use Rattle.observers.proofs.Lists.{among_at, no_bool}
use Rattle.observers.proofs.settle.settle_one.Goals as goal

pub returns-in_err-told-clause-light : goal.returns-in_err-told-clause-light
returns-in_err-told-clause-light g c light =
    let o = c.in-Some.observer.now in
    let shown = c.shown_now-now.ensures in
    let moves = subst (λ x. is_left x o ≡ false) shown (sym c.is_left.ensures ∙ c.if-is_left.false) in
    let both = light_then (g.S.Sight.shows c.args.sight.now) o (light o (among_at c.args.made.now c.args.place o (sym c.in-Some.ensures))) moves in
    no_bool (c.in_err-told.ensures.light (subst IsNoText (sym shown) both.0) both.1)

pub returns-in_err-observer-clause-light : goal.returns-in_err-observer-clause-light
returns-in_err-observer-clause-light g c light =
    let o = c.in-Some.observer.now in
    let shown = c.shown_now-now.ensures in
    let moves = subst (λ x. is_left x o ≡ false) shown (sym c.is_left.ensures ∙ c.if-is_left.false) in
    let both = light_then (g.S.Sight.shows c.args.sight.now) o (light o (among_at c.args.made.now c.args.place o (sym c.in-Some.ensures))) moves in
    no_bool (c.in_err-observer.ensures.light (subst IsNoText (sym shown) both.0))
