use Rattle.std.proofs.Common.{◌∙◌, ◌++◌, ◌∷◌, [], map, sym, ap, subst, append_assoc}
use Rattle.std.proofs.lemmas.List.{map-append}
use Rattle.index_lists.specs.Walks.{rows_left}
use Rattle.index_lists.specs.Lists.{list_at}
use Rattle.timing_wheel.specs.Levels.{timers_in, rows}
use Rattle.timing_wheel.proofs.Rows.{IsLeastSoFar, least_start, least_step, least_found, has_occurs, occurs_has, all_seen, filled_has, Occurs}
use Rattle.timing_wheel.proofs.drain.earliest.Goals as goal

pub loop-timer-init : goal.loop-timer-init
loop-timer-init c = record { least = least_start; seen = ap rows_left c.into_iter-timer-iterator.ensures.into_iter_gives ∙ c.rows-timer-items.ensures }

pub loop-timer-preserved : goal.loop-timer-preserved
loop-timer-preserved c =
    let seen = map (λ x. x.now) c.loop-timer.yielded in
    let more = map-append (λ x. x.now) c.loop-timer.yielded (c.in-Some.timer ∷ []) in
    record {
      least = rw (more, c.min-least.ensures) (least_step seen c.in-Some.timer.now c.loop-timer.least c.loop-timer.invariant.least);
      seen = ap (λ l. l ++ rows_left c.next.new.self) more ∙ append_assoc seen (c.in-Some.timer.now ∷ []) (rows_left c.next.new.self)
          ∙ ap (λ l. seen ++ l) (sym c.in-Some.ensures.steps) ∙ c.loop-timer.invariant.seen;
    }

pub returns-clause-least : goal.returns-clause-least
returns-clause-least c = λ place t has.
    let all = all_seen (map (λ x. x.now) c.loop-timer.yielded) (rows_left c.loop-timer.timer-iterator) (timers_in c.args.lists.now c.args.slot)
    c.loop-timer.invariant.seen c.in-None.ensures.steps.0 in
    let l = subst (λ xs. IsLeastSoFar xs c.loop-timer.least) all c.loop-timer.invariant.least in
    l.below t (has_occurs (list_at c.args.lists.now c.args.slot) place t has)

pub returns-clause-found : goal.returns-clause-found
returns-clause-found c =
    let all = all_seen (map (λ x. x.now) c.loop-timer.yielded) (rows_left c.loop-timer.timer-iterator) (timers_in c.args.lists.now c.args.slot)
    c.loop-timer.invariant.seen c.in-None.ensures.steps.0 in
    let f = c.requires.filled in
    let l = subst (λ xs. IsLeastSoFar xs c.loop-timer.least) (all ∙ ap rows f.is) c.loop-timer.invariant.least in
    let r = least_found f.first.1 (rows f.rest) c.loop-timer.least l (c.requires.range f.first.0 f.first.1 (filled_has c.args.lists.now c.args.slot f)) in
    let h = occurs_has (list_at c.args.lists.now c.args.slot) r.0 (subst (λ es. Occurs (rows es) r.0) (sym f.is) r.1) in
    (h.0, r.0, h.1, r.2)
