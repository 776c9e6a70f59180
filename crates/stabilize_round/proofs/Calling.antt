-- Whose function is called on what, and what that costs.
use Rattle.std.proofs.Common.{◌≡◌, inl, inr, ℕ, ◌+◌, List, [], ◌∷◌, map, Option, None, Some, refl, sym, ap, ◌∙◌}
use Rattle.std.proofs.lemmas.List.Sums.{sum_by-cons}
use Rattle.inc_value.specs.declared.node.NodeId.{NodeId}
use Rattle.inc_value.specs.declared.node.Part.TheVariants.{Main}
use Rattle.inc_value.specs.declared.value.Value.{Value}
use Rattle.inc_value.specs.Choice.{Among}
use Rattle.inc_terms.specs.Graph as graph
use Rattle.inc_terms.specs.Graph.{Graph, Row, Def}
use Rattle.inc_terms.specs.Depend.{main, fixed_reads, kids_of, unfrozen}
use Rattle.inc_terms.specs.Work.{predicate_kids, predicate_cost, taken_by, cost_of}
use Rattle.stabilize_round.specs.Calling.{row_cost, cost_at, costs_of, or_none}

inside : {A : Type 0} {x y : A} → Some x ≡ Some y → x ≡ y
inside e = cc

predicate_reads : (kid : NodeId) (x : Option Value) (kids : List NodeId) → predicate_kids kid x ≡ Some kids → unfrozen kid x ≡ kids
predicate_reads kid None kids e = inside e
predicate_reads kid (Some v) kids e = absurd cc

-- these are its children
pub kids_taken : (G : Graph) (n : NodeId) (def : Def) (kids : List NodeId) → taken_by G n def ≡ Some kids → kids_of G n def ≡ kids
kids_taken G n (graph.Map f ns) kids e = inside e
kids_taken G n (graph.Fold f v ns) kids e = inside e
kids_taken G n (graph.Expert f v ns) kids e = inside e
kids_taken G n (graph.Freeze k f) kids e = predicate_reads k (G.frozen n) kids e
kids_taken G n _ kids e = absurd cc

-- its main reads the mains of these children
pub main_taken : (G : Graph) (n : NodeId) (def : Def) (kids : List NodeId) → taken_by G n def ≡ Some kids → fixed_reads G n def Main ≡ map main kids
main_taken G n (graph.Map f ns) kids e = ap (λ (x : List NodeId). map main x) (inside e)
main_taken G n (graph.Fold f v ns) kids e = ap (λ (x : List NodeId). map main x) (inside e)
main_taken G n (graph.Expert f v ns) kids e = ap (λ (x : List NodeId). map main x) (inside e)
main_taken G n (graph.Freeze k f) kids e = ap (λ (x : List NodeId). map main x) (predicate_reads k (G.frozen n) kids e)
main_taken G n _ kids e = absurd cc

-- what a node's function is called on hangs on what the graph keeps of it alone, and so does what that costs
pub taken_same : (G G' : Graph) (n : NodeId) → G'.frozen n ≡ G.frozen n → G'.lists n ≡ G.lists n → (def : Def) → taken_by G' n def ≡ taken_by G n def
taken_same G G' n frozen lists (graph.Freeze kid f) = rw frozen refl
taken_same G G' n frozen lists (graph.Expert f v ns) = rw lists refl
taken_same G G' n frozen lists _ = refl

cost_same : (G G' : Graph) (n : NodeId) → G'.frozen n ≡ G.frozen n → G'.lists n ≡ G.lists n → (def : Def) → cost_of G' n def ≡ cost_of G n def
cost_same G G' n frozen lists (graph.Freeze kid f) = rw frozen refl
cost_same G G' n frozen lists (graph.Expert f v ns) = rw lists refl
cost_same G G' n frozen lists _ = refl

-- it costs calls
pub cost_taken : (G : Graph) (n : NodeId) (def : Def) (kids : List NodeId) → taken_by G n def ≡ Some kids
    → cost_of G n def ≡ Some (or_none (cost_of G n def))
cost_taken G n (graph.Map f ns) kids e = refl
cost_taken G n (graph.Fold f v ns) kids e = refl
cost_taken G n (graph.Expert f v ns) kids e = refl
cost_taken G n (graph.Freeze k f) kids e = by_frozen (G.frozen n) e
  where
    by_frozen : (x : Option Value) → predicate_kids k x ≡ Some kids → predicate_cost x ≡ Some (or_none (predicate_cost x))
    by_frozen None e = refl
    by_frozen (Some v) e = absurd cc
cost_taken G n _ kids e = absurd cc

pub cost_of_taken : (G : Graph) (n : NodeId) (r : Row) (kids : List NodeId) → G.row n ≡ Some r → taken_by G n r.def ≡ Some kids
    → cost_of G n r.def ≡ Some (cost_at G n)
cost_of_taken G n r kids row takes =
    cost_taken G n r.def kids takes ∙ sym (ap (λ (x : Option Row). Some (row_cost G n x)) row)

-- a node with one row in both graphs, of which they keep the same
pub record StaysCalled (G G' : Graph) (n : NodeId) : Type 0 where
  pub row : Row
  pub before : G.row n ≡ Some row
  pub after : G'.row n ≡ Some row
  pub frozen : G'.frozen n ≡ G.frozen n
  pub lists : G'.lists n ≡ G.lists n

-- what so stays costs as much
pub costs_at : (G G' : Graph) (n : NodeId) → StaysCalled G G' n → cost_at G n ≡ cost_at G' n
costs_at G G' n h =
    ap (λ (x : Option Row). row_cost G n x) h.before
    ∙ ap or_none (sym (cost_same G G' n h.frozen h.lists h.row.def)) ∙ sym (ap (λ (x : Option Row). row_cost G' n x) h.after)

both_sums : (a b c d : ℕ) → a ≡ b → c ≡ d → a + c ≡ b + d
both_sums a b c d e e' = rw (e, e') refl

pub costs_same : (G G' : Graph) (ns : List NodeId) → ((n : NodeId) → Among n ns → StaysCalled G G' n) → costs_of G ns ≡ costs_of G' ns
costs_same G G' [] stays = refl
costs_same G G' (n ∷ ns) stays =
    sum_by-cons (cost_at G) n ns
    ∙ both_sums (cost_at G n) (cost_at G' n) (costs_of G ns) (costs_of G' ns) (costs_at G G' n (stays n (inl refl)))
    (costs_same G G' ns (λ m a. stays m (inr a)))
    ∙ sym (sum_by-cons (cost_at G') n ns)
