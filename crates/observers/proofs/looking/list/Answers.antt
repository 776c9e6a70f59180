use Rattle.std.proofs.Common.{◌∷◌, [], sym, subst, refl, inl}
use Rattle.inc_value.specs.Choice.{Among}
use Rattle.observers.proofs.Lists.{among_left, among_right}
use Rattle.observers.proofs.Listing.{keeps_more, listed_now}
use Rattle.observers.proofs.looking.list.Goals as goal

pub returns-in-Some-clause-listed : goal.returns-in-Some-clause-listed
returns-in-Some-clause-listed c =
    let written = rw c.in-Some.is at (c.get_mut.follows.holds (record { places = c.push.new.self })) in
    listed_now c.args.looking.now _ c.args.node c.main-p.result c.in-Some.there.now (record { places = c.push.new.self }) c.main-p.ensures
    (sym c.in-Some.ensures.value) written.changes c.args.place
    (subst (Among c.args.place) (sym c.in_ok-push.ensures.items) (among_right c.args.place c.in-Some.there.now.places.items (c.args.place ∷ []) (inl refl)))

pub returns-in-Some-clause-kept : goal.returns-in-Some-clause-kept
returns-in-Some-clause-kept c =
    let written = rw c.in-Some.is at (c.get_mut.follows.holds (record { places = c.push.new.self })) in
    keeps_more c.args.looking.now _ c.args.node c.main-p.result c.in-Some.there.now (record { places = c.push.new.self }) c.main-p.ensures
    (sym c.in-Some.ensures.value) written.changes
    (λ i a. subst (Among i) (sym c.in_ok-push.ensures.items) (among_left i c.in-Some.there.now.places.items (c.args.place ∷ []) a))

pub returns-in_err-push-clause-kept : goal.returns-in_err-push-clause-kept
returns-in_err-push-clause-kept c =
    let written = rw c.in-Some.is at (c.get_mut.follows.holds (record { places = c.push.new.self })) in
    keeps_more c.args.looking.now _ c.args.node c.main-p.result c.in-Some.there.now (record { places = c.push.new.self }) c.main-p.ensures
    (sym c.in-Some.ensures.value) written.changes (λ i a. subst (Among i) (sym c.in_err-push.ensures.items) a)
