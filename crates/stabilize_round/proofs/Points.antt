-- Points compared and counted.
use Rattle.std.proofs.Common.{◌≡◌, ◌⊎◌, inl, inr, ◌<◌, ◌+◌, Bool, true, false, cond, Option, None, Some, List, [], ◌∷◌, ◌++◌, refl, sym, ap, ◌∙◌}
use Rattle.std.proofs.Common.{arith}
use Rattle.std.specs.Bool.{Decides}
use Rattle.std.proofs.lemmas.Bool.Decides.{Decides-and, Decides-like}
use Rattle.inc_value.specs.declared.node.NodeId.{NodeId}
use Rattle.inc_value.specs.declared.node.Part.{Part}
use Rattle.inc_value.specs.declared.node.Part.TheVariants.{Change, Main}
use Rattle.inc_value.specs.declared.node.Point.{Point}
use Rattle.inc_value.specs.Choice.{Among}
use Rattle.inc_terms.specs.Same.{same_node, same_outcome}
use Rattle.inc_value.specs.declared.outcome.Outcome.{Outcome}
use Rattle.inc_terms.proofs.Same.{node_decides, outcome_decides}
use Rattle.stabilize_round.specs.State.{same_part, same_point, at_point, at_node, one, count}

part_decides : (a b : Part) → Decides (same_part a b) (a ≡ b)
part_decides Main Main = ((λ e. refl), (λ e. refl))
part_decides Change Change = ((λ e. refl), (λ e. refl))
part_decides Main Change = ((λ e. absurd (cc)), (λ e. absurd (cc)))
part_decides Change Main = ((λ e. absurd (cc)), (λ e. absurd (cc)))

point_of : NodeId → Part → Point
point_of n part = record { node = n; part = part }

same_fields : (p q : Point) → p.part ≡ q.part → p.node ≡ q.node → p ≡ q
unfolding point_of
same_fields p q e e' = ap (λ (n : NodeId). point_of n p.part) e' ∙ ap (λ (x : Part). point_of q.node x) e

pub point_decides : (p q : Point) → Decides (same_point p q) (p ≡ q)
point_decides p q =
    Decides-like (same_point p q) (λ (h : (p.part ≡ q.part) × (p.node ≡ q.node)). same_fields p q h.0 h.1)
    (λ (e : p ≡ q). (ap (λ (x : Point). x.part) e, ap (λ (x : Point). x.node) e))
    (Decides-and (same_part p.part q.part) (same_node p.node q.node) (part_decides p.part q.part) (node_decides p.node q.node))

pub by_bool : {P : Type 0} (b : Bool) → Decides b P → P ⊎ (P → ⊥)
by_bool true d = inl (d.0 refl)
by_bool false d = inr (λ p. absurd (let e = d.1 p in cc))

pub same_or_other : (p q : Point) → (p ≡ q) ⊎ (p ≡ q → ⊥)
same_or_other p q = by_bool (same_point p q) (point_decides p q)

pub node_or_other : (n m : NodeId) → (n ≡ m) ⊎ (n ≡ m → ⊥)
node_or_other n m = by_bool (same_node n m) (node_decides n m)

false_if : (b : Bool) → (b ≡ true → ⊥) → b ≡ false
false_if true h = absurd (h refl)
false_if false h = refl

pub at_same : {A : Type 0} (p : Point) (a : A) (f : Point → A) → at_point p a f p ≡ a
unfolding at_point
at_same p a f = let e : same_point p p ≡ true = (point_decides p p).1 refl in ap (λ (b : Bool). cond b a (f p)) e

pub at_other : {A : Type 0} (p : Point) (a : A) (f : Point → A) (q : Point) → (p ≡ q → ⊥) → at_point p a f q ≡ f q
unfolding at_point
at_other p a f q h = let e : same_point p q ≡ false = false_if (same_point p q) (λ t. h ((point_decides p q).0 t)) in
    ap (λ (b : Bool). cond b a (f q)) e

pub node_same : {A : Type 0} (n : NodeId) (a : A) (f : NodeId → A) → at_node n a f n ≡ a
unfolding at_node
node_same n a f = let e : same_node n n ≡ true = (node_decides n n).1 refl in ap (λ (b : Bool). cond b a (f n)) e

pub node_other : {A : Type 0} (n : NodeId) (a : A) (f : NodeId → A) (m : NodeId) → (n ≡ m → ⊥) → at_node n a f m ≡ f m
unfolding at_node
node_other n a f m h = let e : same_node n m ≡ false = false_if (same_node n m) (λ t. h ((node_decides n m).0 t)) in
    ap (λ (b : Bool). cond b a (f m)) e

pub one_same : (p : Point) → one p p ≡ 1
unfolding one
one_same p = let e : same_point p p ≡ true = (point_decides p p).1 refl in ap (λ (b : Bool). cond b 1 0) e

pub one_other : (p q : Point) → (p ≡ q → ⊥) → one p q ≡ 0
unfolding one
one_other p q h = let e : same_point p q ≡ false = false_if (same_point p q) (λ t. h ((point_decides p q).0 t)) in ap (λ (b : Bool). cond b 1 0) e

pub count_among : (p : Point) (qs : List Point) → 0 < count p qs → Among p qs
count_among p [] h = absurd (omega arith)
count_among p (q ∷ qs) h = elim (same_or_other p q) [
  | inl e ↦ inl e
  | inr n ↦ let z = one_other p q n in inr (count_among p qs (omega arith))
]

pub among_count : (p : Point) (qs : List Point) → Among p qs → 0 < count p qs
among_count p [] h = absurd h
among_count p (q ∷ qs) (inl e) = let z = one_same p in let e' : one p q ≡ one p p = ap (λ (x : Point). one p x) (sym e) in omega arith
among_count p (q ∷ qs) (inr h) = let z = among_count p qs h in omega arith

pub count_append : (p : Point) (xs ys : List Point) → count p (xs ++ ys) ≡ count p xs + count p ys
count_append p [] ys = omega arith
count_append p (x ∷ xs) ys = let z = count_append p xs ys in omega arith

pub is_or_not : (x : Option Outcome) (o : Outcome) → (x ≡ Some o) ⊎ (x ≡ Some o → ⊥)
is_or_not None o = inr (λ (e : None ≡ Some o). cc)
is_or_not (Some a) o = elim (by_bool (same_outcome a o) (outcome_decides a o)) [
  | inl e ↦ inl (ap (λ (y : Outcome). Some y) e)
  | inr ne ↦ inr (λ (e : Some a ≡ Some o). ne (cc))
]

pub among_or_not : (n : NodeId) (ns : List NodeId) → Among n ns ⊎ (Among n ns → ⊥)
among_or_not n [] = inr (λ a. a)
among_or_not n (m ∷ ms) = elim (node_or_other n m) [
  | inl e ↦ inl (inl e)
  | inr ne ↦ elim (among_or_not n ms) [ inl a ↦ inl (inr a) | inr no_ ↦ inr (λ a. elim a [ inl e ↦ ne e | inr h ↦ no_ h ]) ]
]
