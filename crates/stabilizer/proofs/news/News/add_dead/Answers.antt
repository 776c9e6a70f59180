use Rattle.std.proofs.Common.{◌≡◌, ℕ, List, [], ◌∷◌, Some, map, inl, inr, sym, ap, subst, arith}
use Rattle.std.proofs.lemmas.Bool.{cases_eq}
use Rattle.std.specs.List.{slice_get}
use Rattle.inc_value.specs.Choice.{Among}
use Rattle.inc_value.specs.declared.node.NodeId.{NodeId}
use Rattle.inc_value.specs.declared.node.Point.{Point}
use Rattle.inc_terms.specs.Depend.{main}
use Rattle.node_lists.proofs.Counting.{place_of}
use Rattle.stabilizer.specs.Telling.{IsNews}
use Rattle.stabilizer.proofs.news.News.add_dead.Goals as goal

node_of : (n : NodeId) (ns : List NodeId) → Among (main n) (map main ns) → Among n ns
node_of n [] a = absurd a
node_of n (m ∷ ns) (inl e) = inl (ap (λ (p : Point). p.node) e)
node_of n (m ∷ ns) (inr a) = inr (node_of n ns a)

pub loop-place-preserved : goal.loop-place-preserved
loop-place-preserved c =
    let i = c.loop-place.invariant in
    record {
      added = λ k n lt there. elim (cases_eq k c.loop-place.place) [
        | inl same ↦
            let there' = subst (λ (x : ℕ). slice_get c.args.deaths.now.nodes x ≡ Some n) same there in
            let at = c.at-node.ensures in
            let is : n ≡ c.at-node.result = cc in
            subst (λ (m : NodeId). IsNews c.add.new.self m) (sym is) c.add.ensures.added
        | inr other ↦ c.add.ensures.stay n (i.added k n (omega (arith, lt, other)) there)
      ];
      stay = λ n is. c.add.ensures.stay n (i.stay n is);
    }

pub returns-clause-added : goal.returns-clause-added
returns-clause-added c n there =
    let len = c.len-place-end.ensures in
    let k = place_of n c.args.deaths.now.nodes (node_of n c.args.deaths.now.nodes ((len.told.rows (main n)).0 there)) in
    let lt = k.1 in
    let all = c.loop-place-test.false in
    let count = len.len in
    c.loop-place.invariant.added k.0 n (omega (arith, lt, all, count)) k.2
