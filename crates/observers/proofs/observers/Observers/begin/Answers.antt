use Rattle.std.proofs.Common.{◌∙◌, sym, ap, subst, arith, length}
use Rattle.std.specs.Prelude.{slice_get}
use Rattle.observers.specs.Keeping.{LooksAll, AwaitingAreDue, ShowWhatWasTold, open_in}
use Rattle.observers.proofs.Keeping.{looks_watched, due_watched, told_watched, watched_length, watched_still}
use Rattle.observers.proofs.observers.Observers.begin.Goals as goal

pub invariant_of-self : goal.invariant_of-self
invariant_of-self c =
    let made = c.self.inside.made.items in
    let k = c.args.place in
    let keeps = c.self.invariant in
    let now = sym c.begin.ensures in
    let due = c.put.ensures in
    let width = due.width in
    let few = ap length c.begin.ensures in
    let same = watched_length made k in (
      subst (λ m. LooksAll m c.self.inside.looking) now (looks_watched made k c.self.inside.looking keeps.0),
      subst (λ m. AwaitingAreDue m c.put.new.self.places) now
          (due_watched made k c.self.inside.due.places c.put.new.self.places due.stay (λ lt. due.there (let a = keeps.3 in omega (arith, lt, a))) keeps.1),
      subst ShowWhatWasTold now (told_watched made k keeps.2),
      (let a = keeps.3 in omega (arith, a, few, same, width)),
      (let a = keeps.4 in omega (arith, a, few, same)),
      keeps.5,
      keeps.6,
      (let a = keeps.7 in record {
        settled_room = (let b = a.settled_room in omega (arith, b, width));
        told_room = (let b = a.told_room in omega (arith, b, width));
        notices_room = (let b = a.notices_room in omega (arith, b, width));
      }),
    )

pub returns-else-is_open-clause-made : goal.returns-else-is_open-clause-made
returns-else-is_open-clause-made c =
    let closed = sym (c.is_open.ensures ∙ ap (λ m. open_in (slice_get m c.args.place)) c.deref.ensures.value
    ∙ ap (λ s. open_in (slice_get s.made c.args.place)) c.self.view_is) ∙ c.if-is_open.false in
    watched_still c.args.self.now.made c.args.place c.requires.used closed
