use Rattle.std.proofs.Common.{◌≡◌, ◌∙◌, ◌+◌, [], ◌∷◌, length, length-append, ap, arith}
use Rattle.std.proofs.lemmas.List.{nil_from_length}
use Rattle.necessity.specs.Turn.{to_needed}
use Rattle.necessity.specs.Counting.{behind}
use Rattle.necessity.proofs.Turning.{settled}
use Rattle.necessity.proofs.cascade.settle.Goals as goal

pub loop-p-preserved : goal.loop-p-preserved
loop-p-preserved c =
    let room = ap (λ w. length w + behind (to_needed c.args.turn) c.args.links.now c.loop-p.rows w) c.in-Some.ensures.items in
    let long = length-append c.pop.new.self.items (c.in-Some.p ∷ []) in
    record {
      under_way = c.recount_kids.ensures.under_way;
      room = omega (arith, room, long, c.recount_kids.ensures.behind, c.recount_kids.ensures.capacity, c.in-Some.ensures.capacity);
      roots = λ k. c.recount_kids.ensures.roots k ∙ c.loop-p.invariant.roots k;
      rows = λ k held. c.loop-p.invariant.rows k (c.recount_kids.ensures.rows k held);
      capacity = omega (arith, c.recount_kids.ensures.capacity, c.in-Some.ensures.capacity, c.loop-p.invariant.capacity);
    }

pub returns-clause-at_rest : goal.returns-clause-at_rest
returns-clause-at_rest c =
    let none : c.loop-p.waiting.items ≡ [] = nil_from_length c.loop-p.waiting.items (omega (arith, c.loop-p.waiting.ok, c.in_default.ensures.cases)) in
    settled (to_needed c.args.turn) c.args.links.now c.loop-p.rows (rw none at c.loop-p.invariant.under_way)
