use Rattle.session.proofs.Observed.{told_shows, untold_shows}
use Rattle.session.proofs.script.Script.shown.Goals as goal

pub returns-in-Ok-clause-some : goal.returns-in-Ok-clause-some
returns-in-Ok-clause-some g c =
    let at_name = rw c.in-Some.is at c.observer.ensures.found in
    let told = rw c.in-Ok.is at c.value.ensures.value in
    rw (← c.self.view_is) (told_shows _ c.self.invariant c.args.name.now c.in-Some.position c.at.result c.at.ensures at_name c.in-Ok.outcome.now told)

pub returns-in-Err-clause-none : goal.returns-in-Err-clause-none
returns-in-Err-clause-none g c =
    let unbroken = rw (← c.self.view_is) at c.requires.unbroken in
    let at_name = rw c.in-Some.is at c.observer.ensures.found in
    rw (← c.self.view_is) (untold_shows _ c.self.invariant c.args.name.now c.in-Some.position c.at.result c.at.ensures at_name unbroken
    c.value.result c.in-Err.field-0 c.in-Err.is c.value.ensures.telling c.value.ensures.broken c.value.ensures.unknown c.value.ensures.not_shown)
