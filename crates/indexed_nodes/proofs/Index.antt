-- An index has the first position of each node that is listed, also with one node more.
use Rattle.std.proofs.Common.{◌≡◌, ◌⊎◌, inl, inr, ℕ, zero, suc, arith, List, [], ◌∷◌, ◌++◌, length, slice_get, Option, None, Some, IsSome, refl, ap, sym, subst, ◌∙◌}
use Rattle.std.proofs.lemmas.Option.{slice_get_within}
use Rattle.std.specs.Prelude.{IfNone, IfSome}
use Rattle.inc_value.specs.declared.node.NodeId.{NodeId}
use Rattle.inc_value.specs.declared.node.Point.{Point}
use Rattle.indexed_nodes.specs.Indexed.{IsFirst, IsIndex, IsNowhere, key_of}
use Rattle.point_map.proofs.Places.{point_cases}
use Rattle.point_map.specs.Rows.{Rows, Changes, Holds, KeepsRows, at}

-- ---- lists with one node more

get_last : (ns : List NodeId) (n : NodeId) → slice_get (ns ++ n ∷ []) (length ns) ≡ Some n
get_last [] n = refl
get_last (m ∷ ns) n = get_last ns n

get_more : (ns : List NodeId) (m n : NodeId) (i : ℕ) → slice_get ns i ≡ Some n → slice_get (ns ++ m ∷ []) i ≡ Some n
get_more [] m n i is = absurd (cc)
get_more (x ∷ ns) m n zero is = is
get_more (x ∷ ns) m n (suc i) is = get_more ns m n i is

-- what stands there stood there, or is the last
get_less : (ns : List NodeId) (m n : NodeId) (i : ℕ) → slice_get (ns ++ m ∷ []) i ≡ Some n
    → (slice_get ns i ≡ Some n) ⊎ ((i ≡ length ns) × (m ≡ n))
get_less [] m n zero is = inr (refl, (cc))
get_less [] m n (suc i) is = absurd (cc)
get_less (x ∷ ns) m n zero is = inl is
get_less (x ∷ ns) m n (suc i) is = elim (get_less ns m n i is) [
  | inl before ↦ inl before
  | inr last ↦ inr (ap suc last.0, last.1)
]

-- ---- first positions

first_more : (ns : List NodeId) (m n : NodeId) (i : ℕ) → IsFirst ns n i → IsFirst (ns ++ m ∷ []) n i
first_more ns m n i first = record {
  there = get_more ns m n i first.there;
  earliest = λ j is. elim (get_less ns m n j is) [
    | inl before ↦ first.earliest j before
    | inr last ↦ let low = slice_get_within ns i n first.there in let e = last.0 in omega (arith, low, e)
  ];
}

first_last : (ns : List NodeId) (n : NodeId) → IsNowhere ns n → IsFirst (ns ++ n ∷ []) n (length ns)
first_last ns n none = record {
  there = get_last ns n;
  earliest = λ j is. elim (get_less ns n n j is) [
    | inl before ↦ absurd (none j before)
    | inr last ↦ let e = last.0 in omega (arith, e)
  ];
}

-- ---- keys

node_of : Point → NodeId
node_of p = record { slot = p.node.gen_; gen_ = p.node.slot }

-- no two nodes have one key
same_key : (n m : NodeId) → key_of n ≡ key_of m → n ≡ m
unfolding node_of
same_key n m e = ap node_of e

-- ---- the index

-- of no nodes
pub index_empty : (firsts : Rows ℕ) → firsts.places ≡ [] → IsIndex [] firsts
index_empty firsts empty = record {
  first = λ n i is.
      let none : at firsts (key_of n) ≡ None = rw empty refl in
      let e : None ≡ Some i = sym none ∙ is in
      absurd (cc);
  none = λ n is i has. absurd (cc);
}

-- rows that are kept are an index still
pub index_kept : (ns : List NodeId) (old new : Rows ℕ) → KeepsRows old new → IsIndex ns old → IsIndex ns new
index_kept ns old new keeps index = record {
  first = λ n i is. index.first n i (sym (keeps (key_of n)) ∙ is);
  none = λ n is. index.none n (sym (keeps (key_of n)) ∙ is);
}

-- with one more that is there
index_held : (ns : List NodeId) (m : NodeId) (firsts : Rows ℕ) → IsIndex ns firsts → Holds firsts (key_of m) → IsIndex (ns ++ m ∷ []) firsts
index_held ns m firsts index holds = record {
  first = λ n i is. first_more ns m n i (index.first n i is);
  none = λ n is j has. elim (get_less ns m n j has) [
    | inl before ↦ index.none n is j before
    | inr last ↦
        let there : Holds firsts (key_of n) = subst (λ x. Holds firsts (key_of x)) last.1 holds in
        let e = subst IsSome is there in
        absurd (cc)
  ];
}

-- with one more that is entered behind the others
index_entered : (ns : List NodeId) (m : NodeId) (old new : Rows ℕ) → IsIndex ns old → at old (key_of m) ≡ None
    → Changes old new (key_of m) (Some (length ns)) → IsIndex (ns ++ m ∷ []) new
index_entered ns m old new index absent changes = record {
  first = λ n i is. elim (point_cases (key_of n) (key_of m)) [
    | inl e ↦
        let there : Some (length ns) ≡ Some i = sym changes.changed ∙ (ap (at new) (sym e) ∙ is) in
        let position : length ns ≡ i = cc in
        subst (λ x. IsFirst (ns ++ m ∷ []) x i) (sym (same_key n m e))
        (subst (IsFirst (ns ++ m ∷ []) m) position (first_last ns m (index.none m absent)))
    | inr d ↦ first_more ns m n i (index.first n i (sym (changes.others (key_of n) d) ∙ is))
  ];
  none = λ n is j has. elim (point_cases (key_of n) (key_of m)) [
    | inl e ↦
        let gone : None ≡ Some (length ns) = sym is ∙ (ap (at new) e ∙ changes.changed) in
        absurd (cc)
    | inr d ↦ elim (get_less ns m n j has) [
      | inl before ↦ index.none n (sym (changes.others (key_of n) d) ∙ is) j before
      | inr last ↦ absurd (d (ap key_of (sym last.1)))
    ]
  ];
}

-- with one more, which is entered behind the others if it wasn't there
pub index_pushed : (ns : List NodeId) (m : NodeId) (position : ℕ) (old new : Rows ℕ) → IsIndex ns old → position ≡ length ns
    → (Holds old (key_of m) → new ≡ old) → (at old (key_of m) ≡ None → Changes old new (key_of m) (Some position)) → IsIndex (ns ++ m ∷ []) new
index_pushed ns m position old new index last held entered = go (at old (key_of m)) refl
  where
    go : (o : Option ℕ) → at old (key_of m) ≡ o → IsIndex (ns ++ m ∷ []) new
    go None is = index_entered ns m old new index is (subst (λ k. Changes old new (key_of m) (Some k)) last (entered is))
    go (Some i) is =
        let holds : Holds old (key_of m) = subst IsSome (sym is) refl in
        subst (IsIndex (ns ++ m ∷ [])) (sym (held holds)) (index_held ns m old index holds)

-- ---- what is found

-- what the index has of a node is its first position
pub first_found : (ns : List NodeId) (firsts : Rows ℕ) (n : NodeId) (found : Option ℕ) → IsIndex ns firsts → found ≡ at firsts (key_of n)
    → IfSome found (IsFirst ns n)
first_found ns firsts n None index is = tt
first_found ns firsts n (Some i) index is = index.first n i (sym is)

-- a node that it doesn't have is nowhere
pub none_found : (ns : List NodeId) (firsts : Rows ℕ) (n : NodeId) (found : Option ℕ) → IsIndex ns firsts → found ≡ at firsts (key_of n)
    → IfNone found (IsNowhere ns n)
none_found ns firsts n None index is = index.none n (sym is)
none_found ns firsts n (Some i) index is = tt
