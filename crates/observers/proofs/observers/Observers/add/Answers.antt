use Rattle.std.proofs.Common.{◌≡◌, ◌<◌, [], ◌∙◌, ap, sym, subst, arith, length}
use Rattle.inc_value.specs.Choice.{Among}
use Rattle.observers.specs.Observers.{new_observer}
use Rattle.observers.specs.Keeping.{LooksAll, AwaitingAreDue, ShowWhatWasTold, listed_at}
use Rattle.observers.proofs.Keeping.{looks_more, due_more, told_more}
use Rattle.observers.proofs.Lists.{push_length}
use Rattle.observers.proofs.observers.Observers.add.Goals as goal

pub invariant_of-self-in_err-list : goal.invariant_of-self-in_err-list
invariant_of-self-in_err-list c =
    let made = c.self.inside.made.items in
    let keeps = c.self.invariant in
    let width = c.in_ok-widen.ensures.width in (
      (λ i o there used. c.list.ensures.kept i o.node (keeps.0 i o there used)),
      subst (λ d. AwaitingAreDue made d) (sym c.widen.ensures.places) keeps.1,
      keeps.2,
      (let a = keeps.3 in omega (arith, a, width)),
      keeps.4,
      subst (λ l. l ≡ []) (sym c.reserve.ensures.items) keeps.5,
      subst (λ l. l ≡ []) (sym c.reserve-2.ensures.items) keeps.6,
      record {
        settled_room = (let a = keeps.7.settled_room in let b = c.reserve.ensures.capacity in let d = c.in_ok-reserve.ensures.ok in omega (arith, a, b, d, width));
        told_room = (let a = keeps.7.told_room in let b = c.reserve-2.ensures.capacity in let d = c.in_ok-reserve-2.ensures.ok in omega (arith, a, b, d, width));
        notices_room = (let a = keeps.7.notices_room in let b = c.reserve-3.ensures.capacity in let d = c.in_ok-reserve-3.ensures.ok in let e = c.reserve-3.ensures.len in
            let f = c.len.ensures in let h = c.saturating_sub.ensures in omega (arith, a, b, d, e, f, h, width));
      },
    )

pub invariant_of-self-in_err-push : goal.invariant_of-self-in_err-push
invariant_of-self-in_err-push c =
    let made = c.self.inside.made.items in
    let keeps = c.self.invariant in
    let width = c.in_ok-widen.ensures.width in
    let same = c.in_err-push.ensures.items in
    let few = ap length same in (
      subst (λ m. LooksAll m c.list.new.looking) (sym same) (λ i o there used. c.list.ensures.kept i o.node (keeps.0 i o there used)),
      subst (λ m. AwaitingAreDue m c.widen.new.self.places) (sym same) (subst (λ d. AwaitingAreDue made d) (sym c.widen.ensures.places) keeps.1),
      subst ShowWhatWasTold (sym same) keeps.2,
      (let a = keeps.3 in omega (arith, a, width, few)),
      (let a = keeps.4 in omega (arith, a, few)),
      subst (λ l. l ≡ []) (sym c.reserve.ensures.items) keeps.5,
      subst (λ l. l ≡ []) (sym c.reserve-2.ensures.items) keeps.6,
      record {
        settled_room = (let a = keeps.7.settled_room in let b = c.reserve.ensures.capacity in let d = c.in_ok-reserve.ensures.ok in omega (arith, a, b, d, width));
        told_room = (let a = keeps.7.told_room in let b = c.reserve-2.ensures.capacity in let d = c.in_ok-reserve-2.ensures.ok in omega (arith, a, b, d, width));
        notices_room = (let a = keeps.7.notices_room in let b = c.reserve-3.ensures.capacity in let d = c.in_ok-reserve-3.ensures.ok in let e = c.reserve-3.ensures.len in
            let f = c.len.ensures in let h = c.saturating_sub.ensures in omega (arith, a, b, d, e, f, h, width));
      },
    )

pub invariant_of-self-2 : goal.invariant_of-self-2
invariant_of-self-2 c =
    let made = c.self.inside.made.items in
    let node = c.args.node in
    let keeps = c.self.invariant in
    let wider = c.in_ok-widen.ensures.width in
    let now = c.in_ok-push.ensures.items in
    let few = ap length now in
    let one = push_length made (new_observer node) in
    let place : c.args.place ≡ length made = c.requires.place ∙ sym (ap (λ s. length s.made) c.self.view_is) in
    let put = c.put.ensures in
    let width = put.width in
    let inside : c.args.place < c.widen.new.self.width = omega (arith, wider) in (
      subst (λ m. LooksAll m c.list.new.looking) (sym now) (looks_more made node c.self.inside.looking c.list.new.looking c.list.ensures.kept
          (subst (λ k. Among k (listed_at c.list.new.looking node)) place c.in_ok-list.ensures.listed) keeps.0),
      subst (λ m. AwaitingAreDue m c.put.new.self.places) (sym now) (due_more made node c.self.inside.due.places c.put.new.self.places
          (λ i a. put.stay i (subst (Among i) (sym c.widen.ensures.places) a)) (subst (λ k. Among k c.put.new.self.places) place (put.there inside)) keeps.1),
      subst ShowWhatWasTold (sym now) (told_more made node keeps.2),
      omega (arith, few, one, place, inside, width),
      (let a = c.requires.few in let b = ap (λ s. length s.made) c.self.view_is in omega (arith, few, one, a, b)),
      subst (λ l. l ≡ []) (sym c.reserve.ensures.items) keeps.5,
      subst (λ l. l ≡ []) (sym c.reserve-2.ensures.items) keeps.6,
      record {
        settled_room = (let a = keeps.7.settled_room in let b = c.reserve.ensures.capacity in let d = c.in_ok-reserve.ensures.ok in omega (arith, a, b, d, wider, width));
        told_room = (let a = keeps.7.told_room in let b = c.reserve-2.ensures.capacity in let d = c.in_ok-reserve-2.ensures.ok in omega (arith, a, b, d, wider, width));
        notices_room = (let a = keeps.7.notices_room in let b = c.reserve-3.ensures.capacity in let d = c.in_ok-reserve-3.ensures.ok in let e = c.reserve-3.ensures.len in
            let f = c.len.ensures in let h = c.saturating_sub.ensures in omega (arith, a, b, d, e, f, h, wider, width));
      },
    )
