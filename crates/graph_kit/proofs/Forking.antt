-- Nodes that are added keep what was there, and trees of maps grow together.
use Rattle.std.proofs.Common.{arith, ◌≡◌, ◌∙◌, ◌≤◌, ◌+◌, ◌*◌, ◌^◌, ◌++◌, ℕ, zero, suc, List, [], ◌∷◌, length, take, drop, ◌-◌, ◌/◌, Result, Ok, Err, IfOk, refl, sym, ap, subst}
use Rattle.std.proofs.Math.Nat.{pow-suc}
use Rattle.std.proofs.lemmas.List.{length-append, length-drop, length-take-le, take-append-drop, take_rest}
use Rattle.inc_value.specs.declared.function.FnRef.{FnRef}
use Rattle.inc_value.specs.declared.node.NodeId.{NodeId}
use Rattle.inc_value.specs.declared.ty.Ty.{Ty}
use Rattle.inc_terms.specs.Graph.{Def, Row, Map}
use Rattle.inc_terms.specs.Within.{Given}
use Rattle.node_arena.specs.Arena.{Arena, row_at}
use Rattle.graph.specs.Effects.{Adds, AnswersListed, KeepsAll, top}
use Rattle.graph.specs.Standing.{GraphView}
use Rattle.graph.specs.declared.fault.GraphFault.{GraphFault}
use Rattle.graph_kit.specs.Trees.{Tree, Leaf, Fork, root, IsLow, IsPair, AreMaps, IsSum, Grows}

-- ---- what was there stays

module _ {F : Type 0} where
  module _ (old mid new : GraphView F) (a : Grows old mid) (b : Grows mid new) where
    still : (n : NodeId) → Given old.nodes.given n → Given mid.nodes.given n
    still n h = let le = a.later in omega (arith, h, le)

    pub grows_more : Grows old new
    grows_more = record {
      beside = record {
        top = record {
          functions = b.beside.top.functions ∙ a.beside.top.functions;
          rooted = b.beside.top.rooted ∙ a.beside.top.rooted;
          since = b.beside.top.since ∙ a.beside.top.since;
          refused = b.beside.top.refused ∙ a.beside.top.refused;
          ran = b.beside.top.ran ∙ a.beside.top.ran;
          notices = b.beside.top.notices ∙ a.beside.top.notices;
        };
        observers = b.beside.observers ∙ a.beside.observers;
        need = record {
          links = λ p q. b.beside.need.links p q ∙ a.beside.need.links p q;
          roots = λ p. b.beside.need.roots p ∙ a.beside.need.roots p;
        };
        of_nodes = record {
          shown = λ n h. b.beside.of_nodes.shown n (still n h) ∙ a.beside.of_nodes.shown n h;
          chosen = λ n h. b.beside.of_nodes.chosen n (still n h) ∙ a.beside.of_nodes.chosen n h;
          built = λ n h. b.beside.of_nodes.built n (still n h) ∙ a.beside.of_nodes.built n h;
          last = λ n h. b.beside.of_nodes.last n (still n h) ∙ a.beside.of_nodes.last n h;
          frozen = λ n h. b.beside.of_nodes.frozen n (still n h) ∙ a.beside.of_nodes.frozen n h;
          lists = λ n h. b.beside.of_nodes.lists n (still n h) ∙ a.beside.of_nodes.lists n h;
          marks = λ n h. b.beside.of_nodes.marks n (still n h) ∙ a.beside.of_nodes.marks n h;
        };
        cutoff = λ n h. b.beside.cutoff n (still n h) ∙ a.beside.cutoff n h;
        no_more_cutoffs = λ n e. b.beside.no_more_cutoffs n (a.beside.no_more_cutoffs n e);
      };
      later = (let x = a.later in let y = b.later in omega (arith, x, y));
      rows = λ n h. b.rows n (still n h) ∙ a.rows n h;
    }

  module _ (old new : GraphView F) where
    pub kept_grows : KeepsAll old new → Grows old new
    kept_grows k = record {
      beside = k.beside;
      later = (let e = ap (λ (a : Arena). a.given) k.nodes in omega (arith, e));
      rows = λ n h. ap (λ (a : Arena). row_at a n) k.nodes;
    }

    pub added_grows : (id : NodeId) (row : Row) → Adds old new id row → Grows old new
    added_grows id row adds = record {
      beside = adds.beside;
      later = (let e = adds.given in omega (arith, e));
      rows = λ n h. adds.changes.others n
          (λ same. let g = ap (λ (m : NodeId). m.gen_) same in let f = adds.fresh in omega (arith, h, g, f));
    }

    -- a node that was made of a list of nodes, or not
    pub answer_grows : (def : Def) (ty : Ty) (answer : Result NodeId GraphFault) → AnswersListed old new def ty answer → Grows old new
    answer_grows def ty (Ok id) a = added_grows id (top def ty) a.added
    answer_grows def ty (Err e) a = kept_grows a.err

    pub pair_made : (f : FnRef) (l r : NodeId) (answer : Result NodeId GraphFault)
        → AnswersListed old new (Map f (l ∷ r ∷ [])) f.sig.gives answer → IfOk answer (IsPair new.nodes f l r)
    pair_made f l r (Ok id) a =
        record { given = (let e = a.added.fresh in let e' = a.added.given in omega (arith, e, e')); row = a.added.changes.changed }
    pair_made f l r (Err e) a = tt

-- ---- trees

module _ {F : Type 0} (old new : GraphView F) (grows : Grows old new) (f : FnRef) where
  pub pair_stays : (l r n : NodeId) → IsPair old.nodes f l r n → IsPair new.nodes f l r n
  pair_stays l r n p =
      record { given = (let le = grows.later in let g = p.given in omega (arith, g, le)); row = grows.rows n p.given ∙ p.row }

  maps_stay : (t : Tree) → AreMaps old.nodes f t → AreMaps new.nodes f t
  maps_stay (Leaf n) maps = tt
  maps_stay (Fork n l r) maps = (pair_stays (root l) (root r) n maps.0, maps_stay l maps.1, maps_stay r maps.2)

  pub sum_stays : (kids : List NodeId) (n : NodeId) → IsSum old.nodes f kids n → IsSum new.nodes f kids n
  sum_stays kids n s = record { tree = s.tree; is_root = s.is_root; over = s.over; maps = maps_stay s.tree s.maps; low = s.low }

sum_one : (a : Arena) (f : FnRef) (n : NodeId) → IsSum a f (n ∷ []) n
sum_one a f n = record { tree = Leaf n; is_root = refl; over = refl; maps = tt; low = λ d le. tt }

-- the only node
pub only_sum : (a : Arena) (f : FnRef) (kids : List NodeId) (answer : Result NodeId GraphFault) → IfOk answer (λ n. kids ≡ n ∷ [])
    → IfOk answer (IsSum a f kids)
only_sum a f kids (Ok n) is = subst (λ (ks : List NodeId). IsSum a f ks n) (sym is) (sum_one a f n)
only_sum a f kids (Err e) is = tt

-- two trees, the second over one node more at most
pub sum_two : (a : Arena) (f : FnRef) (left right : List NodeId) (l r n : NodeId) → IsSum a f left l → IsSum a f right r → IsPair a f l r n
    → 1 ≤ length left → length left ≤ length right → length right ≤ length left + 1 → IsSum a f (left ++ right) n
sum_two a f left right l r n ls rs pair some le more = record {
  tree = Fork n ls.tree rs.tree;
  is_root = refl;
  over = rw (ls.over, rs.over) refl;
  maps = (rw (ls.is_root, rs.is_root) pair, ls.maps, rs.maps);
  low = low;
}
  where
    low : (d : ℕ) → length (left ++ right) ≤ 2 ^ d → IsLow (Fork n ls.tree rs.tree) d
    low zero few = let e = length-append left right in let p : 2 ^ 0 ≡ 1 = refl in absurd (omega (arith, few, e, p, some, le))
    low (suc d) few =
        let e = length-append left right in
        let p : 2 ^ suc d ≡ 2 ^ d * 2 = pow-suc 2 d in
        (ls.low d (omega (arith, few, e, p, le, more)), rs.low d (omega (arith, few, e, p, le, more)))

-- a tree over the first half and one over the rest, put together
pub halves_sum : {F : Type 0} (s1 s2 s3 : GraphView F) (f : FnRef) (kids : List NodeId) (l r : NodeId) → 2 ≤ length kids
    → IsSum s1.nodes f (take (length kids / 2) kids) l → Grows s1 s2
    → IsSum s2.nodes f (take (length kids - length kids / 2) (drop (length kids / 2) kids)) r → Grows s2 s3
    → (answer : Result NodeId GraphFault) → IfOk answer (IsPair s3.nodes f l r) → IfOk answer (IsSum s3.nodes f kids)
halves_sum s1 s2 s3 f kids l r some left more right most (Ok n) pair =
    let m = length kids / 2 in
    let a : length (take m kids) ≡ m = length-take-le m kids (omega arith) in
    let b : length (drop m kids) ≡ length kids - m = length-drop m kids in
    let last : IsSum s2.nodes f (drop m kids) r = subst (λ (ks : List NodeId). IsSum s2.nodes f ks r) (take_rest kids m) right in
    subst (λ (ks : List NodeId). IsSum s3.nodes f ks n) (take-append-drop m kids)
    (sum_two s3.nodes f (take m kids) (drop m kids) l r n (sum_stays s1 s3 (grows_more s1 s2 s3 more most) f (take m kids) l left)
    (sum_stays s2 s3 most f (drop m kids) r last) pair (omega (arith, a, b, some)) (omega (arith, a, b, some)) (omega (arith, a, b, some)))
halves_sum s1 s2 s3 f kids l r some left more right most (Err e) pair = tt
