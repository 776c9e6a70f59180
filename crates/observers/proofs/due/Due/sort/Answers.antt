use Rattle.std.proofs.Common.{sym, subst, arith}
use Rattle.std.proofs.lemmas.List.Sorted.{IsNonDecreasingBy-from_sort}
use Rattle.inc_value.specs.Choice.{Among}
use Rattle.observers.proofs.Lists.{among_sorted, ordered}
use Rattle.observers.proofs.due.Due.sort.Goals as goal

pub invariant_of-self : goal.invariant_of-self
invariant_of-self c =
    let old = c.self.inside.places in
    let new = c.sort_unstable.new.self in
    let h = c.self.invariant.0 in (
      record {
        listed = λ i there. among_sorted old.items new.items c.sort_unstable.ensures.permutation i (h.listed i there);
        count = (let a = h.count in let b = c.sort_unstable.ensures.len in omega (arith, a, b, old.ok.0, new.ok.0));
      },
      (let a = c.self.invariant.1 in let b = c.sort_unstable.ensures.capacity in omega (arith, a, b)),
    )

pub returns-clause-ordered : goal.returns-clause-ordered
returns-clause-ordered c = ordered c.sort_unstable.new.self.items (IsNonDecreasingBy-from_sort (λ n. n) c.sort_unstable.new.self.items c.sort_unstable.ensures.sorted)

pub returns-clause-stay : goal.returns-clause-stay
returns-clause-stay c i a =
    among_sorted c.self.inside.places.items c.sort_unstable.new.self.items c.sort_unstable.ensures.permutation i
    (subst (λ s. Among i s.places) (sym c.self.view_is) a)
